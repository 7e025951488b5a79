use Rattle.std.proofs.Common.{ap}
use Rattle.code_table.specs.Images.{image}
use Rattle.history_core.specs.Tokens.{setting_of, words_of, number, front}
use Rattle.page_store.specs.Holdings.{table_in}
use Rattle.page_store.proofs.PageLaws.{pin_image, pin_leads}
use Rattle.page_store.proofs.page_words.codes_through.Goals as goal

pub codes_in-requires-clause-image : goal.codes_in-requires-clause-image
codes_in-requires-clause-image g c =
    let hs = g.S.PagedStory.holds (setting_of g.S.Story.setting c.args.hall.now)
    (front c.args.pass.now) (number c.args.pass.now) in
    let pages = c.args.pin.now.pages.items in (
      table_in hs pages,
      pin_image hs pages (words_of c.args.hall.now) c.args.pin.now.layout _
          (λ h there. g.met.S.PagedStory.are_holdings _ _ _ h c.requires.own.legal there) c.requires.pin
          (ap (λ ps. image (table_in hs ps)) c.as_slice.ensures.value),
    )

pub returns-clause-codes : goal.returns-clause-codes
returns-clause-codes g c =
    let hs = g.S.PagedStory.holds (setting_of g.S.Story.setting c.args.hall.now)
    (front c.args.pass.now) (number c.args.pass.now) in
    let pages = c.args.pin.now.pages.items in
    c.codes_in.ensures.codes (table_in hs pages)
    (pin_image hs pages (words_of c.args.hall.now) c.args.pin.now.layout _
    (λ h there. g.met.S.PagedStory.are_holdings _ _ _ h c.requires.own.legal there) c.requires.pin
    (ap (λ ps. image (table_in hs ps)) c.as_slice.ensures.value))

pub codes_in-requires-clause-plane : goal.codes_in-requires-clause-plane
codes_in-requires-clause-plane g c =
    let hs = g.S.PagedStory.holds (setting_of g.S.Story.setting c.args.hall.now)
    (front c.args.pass.now) (number c.args.pass.now) in
    pin_leads hs c.args.pin.now.pages.items (words_of c.args.hall.now) c.args.pin.now.layout _
    c.planes_lead.ensures c.requires.pin (ap (λ ps. image (table_in hs ps)) c.as_slice.ensures.value)
