-- What a report tells of a text.
use Rattle.std.specs.Prelude.{◌≡◌, ℕ, List, length, Ok}
use Rattle.modules_conf.specs.Modules.{conf_of}
use Rattle.modules_conf.specs.declared.conf.Conf.{Conf}
use Rattle.conf_bench.specs.declared.report.Report.{Report}

-- A report counts the module lines, the alias lines and the lines passed over of a text.
pub record CountsLines (text : List ℕ) (report : Report) : Type 0 where
  pub conf : Conf
  pub read : conf_of text ≡ Ok conf
  pub lines : report.lines ≡ length conf.edges
  pub aliases : report.aliases ≡ length conf.aliases
  pub passed : report.passed ≡ conf.passed
