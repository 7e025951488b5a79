use Rattle.std.proofs.Common.{ap}
use Rattle.code_table.specs.Images.{image, IsImageOf}
use Rattle.history_core.specs.Tokens.{setting_of, words_of, number, front}
use Rattle.page_store.specs.Holdings.{table_in}
use Rattle.page_store.proofs.PageLaws.{pin_image, eight_is}
use Rattle.page_store.proofs.page_words.eight_through.Goals as goal

pub eight_in-requires-clause-image : goal.eight_in-requires-clause-image
eight_in-requires-clause-image g c =
    let hs = g.S.PagedStory.holds (setting_of g.S.Story.setting c.args.hall.now)
    (front c.args.pass.now) (number c.args.pass.now) in
    let pages = c.args.pin.now.pages.items in (
      table_in hs pages,
      pin_image hs pages (words_of c.args.hall.now) c.args.pin.now.layout _
          (λ h there. g.met.S.PagedStory.are_holdings _ _ _ h c.requires.own.legal there) c.requires.pin
          (ap (λ ps. image (table_in hs ps)) c.as_slice.ensures.value),
    )

pub returns-clause-eight : goal.returns-clause-eight
returns-clause-eight g c =
    let hs = g.S.PagedStory.holds (setting_of g.S.Story.setting c.args.hall.now)
    (front c.args.pass.now) (number c.args.pass.now) in
    let pages = c.args.pin.now.pages.items in
    let layout = c.args.pin.now.layout in
    eight_is c.eight_in.result c.args.input.now (table_in hs pages)
    (λ t. IsImageOf t layout.root layout.pages (image (table_in hs c.as_slice.result.now)))
    (pin_image hs pages (words_of c.args.hall.now) c.args.pin.now.layout _
    (λ h there. g.met.S.PagedStory.are_holdings _ _ _ h c.requires.own.legal there) c.requires.pin
    (ap (λ ps. image (table_in hs ps)) c.as_slice.ensures.value)) c.eight_in.ensures.eight
