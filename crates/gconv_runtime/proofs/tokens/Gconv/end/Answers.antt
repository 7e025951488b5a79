use Rattle.std.proofs.Common.{◌∙◌}
use Rattle.gconv_runtime.specs.Tokens.{front, lead_front, lead_ground}
use Rattle.gconv_runtime.proofs.Learning.{longer_published}
use Rattle.gconv_runtime.proofs.tokens.Gconv.end.Goals as goal

pub returns-clause-lead : goal.returns-clause-lead
returns-clause-lead g c =
    let lead = c.args.lead.now in
    record {
      own = c.join.ensures.own;
      room = c.requires.lead.room;
      aliases = c.requires.lead.aliases;
      views = c.requires.lead.views;
      told = c.keep_longer.ensures ∙ longer_published (lead_ground c.args.self.now lead).setting.first.graph (lead_front lead) (front c.args.caller) _ _ _ lead.told c.args.caller.told
          c.join.ensures.begins.0 c.join.ensures.begins.1 c.join.ensures.longer c.requires.lead.told c.requires.knows.told;
    }
