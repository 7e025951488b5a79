use Rattle.std.proofs.Common.{◌∙◌, refl}
use Rattle.code_table.proofs.PlaneLaws.{root_below, parts_lead, plane_found}
use Rattle.code_table.proofs.layout.layout_in.Goals as goal

pub first_page-requires : goal.first_page-requires
first_page-requires c =
    root_below c.requires.image.0 c.args.root c.args.pages c.args.words.now c.requires.image.1

pub is_ascii-ascii-requires-clause-plane : goal.is_ascii-ascii-requires-clause-plane
is_ascii-ascii-requires-clause-plane c =
    parts_lead c.args.root c.first_page.result c.args.words.now c.first_page.ensures

pub returns : goal.returns
returns c = λ table im last double.
    let plane = c.first_page.ensures ∙ plane_found table c.args.root c.args.pages c.args.words.now im in
    let ascii = c.is_ascii-ascii.ensures table im in
    rw (im.decode, plane, im.all, last, double, ascii) refl
