use Rattle.std.proofs.Common.{◌<◌, subst}
use Rattle.std.proofs.lemmas.List.{length-map}
use Rattle.code_table.specs.Eights.{GivesCodes}
use Rattle.history_core.specs.Tokens.{setting_of, number, front}
use Rattle.page_store.specs.Holdings.{table_in}
use Rattle.page_store.specs.declared.pin.Pin.{Pin}
use Rattle.page_store.proofs.PageLaws.{table_is}
use Rattle.page_store.proofs.pinned.PinnedLookup.codes.Goals as goal

pub returns-clause-codes : goal.returns-clause-codes
returns-clause-codes g c =
    let here = c.args.self.now in
    let hs = g.S.PagedStory.holds (setting_of g.S.Story.setting here.hall.now) (front here.pass.now) (number here.pass.now) in
    let pin = c.index-self-table.result in
    subst (λ t. GivesCodes t c.args.points.now c.codes_through.result)
    (table_is hs here.pins.now c.args.table pin
    (subst (λ n. c.args.table < n) (length-map here.pins.now (λ (p : Pin). table_in hs p.pages.items)) c.requires.within)) c.codes_through.ensures.codes
