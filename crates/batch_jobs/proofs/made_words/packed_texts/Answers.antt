use Rattle.std.proofs.Common.{◌+◌, ◌++◌, [], ◌∷◌, map, ap, sym, arith, ◌∙◌}
use Rattle.std.proofs.lemmas.List.{map-append}
use Rattle.batch_jobs.specs.Packed.{packed_text, text_at, texts_from}
use Rattle.batch_jobs.proofs.Ranges.{finished, longer}
use Rattle.batch_jobs.proofs.MadeWords.{texts_end, texts_more}
use Rattle.batch_jobs.proofs.made_words.packed_texts.Goals as goal

pub places-preserved : goal.places-preserved
places-preserved c = longer (texts_from c.args.number 0) (map packed_text c.places.words.items) (text_at c.args.number c.places.place ∷ []) (map packed_text c.push.new.self.items)
    (texts_from c.args.number c.places.place) (texts_from c.args.number (c.places.place + 1))
    c.places.invariant (texts_more c.args.number c.places.place (omega (arith, c.places-test.true)))
    (ap (map packed_text) c.in_ok-push.ensures.items ∙ map-append packed_text c.places.words.items _
    ∙ ap (λ t. map packed_text c.places.words.items ++ t ∷ []) c.pack_at.ensures)

pub returns : goal.returns
returns c = finished (texts_from c.args.number 0) (map packed_text c.places.words.items) (texts_from c.args.number c.places.place)
    c.places.invariant (texts_end c.args.number c.places.place (omega (arith, c.places-test.false)))
