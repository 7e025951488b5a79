use Rattle.std.proofs.Common.{◌≡◌}
use Rattle.gconv_runtime.proofs.Learning.{extends_pair}
use Rattle.gconv_runtime.proofs.hearing.prepare_heard.Goals as goal

pub hear-requires : goal.hear-requires
hear-requires g c = extends_pair c.args.desk.now.cache c.prepare.new.desk.cache c.args.view.now _ c.in_ok-ready.ensures.ok.published c.requires.heard.0
