use Rattle.std.proofs.Common.{◌∙◌, sym, ap}
use Rattle.code_table.specs.Layouts.{layout_of}
use Rattle.code_table.specs.declared.layout.Layout.{Layout}
use Rattle.code_table.proofs.AsciiLaws.{ascii_is}
use Rattle.code_table.proofs.table.CodeTable.is_ascii.Goals as goal

pub returns-clause-ascii : goal.returns-clause-ascii
returns-clause-ascii c = λ holds.
    ascii_is c.args.self.now
    (sym (ap (λ (l : Layout). l.ascii) (c.self.invariant.1 ∙ ap layout_of c.self.view_is)) ∙ holds)
