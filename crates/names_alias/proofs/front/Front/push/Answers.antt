use Rattle.std.proofs.Common.{arith, length-append}
use Rattle.std.proofs.lemmas.Grind.{common_steps}
use Rattle.names_alias.proofs.Scans.{front_push}
use Rattle.names_alias.proofs.front.Front.push.Goals as goal

pub returns-clause-front : goal.returns-clause-front
returns-clause-front c = λ all f. record {
  bytes = front_push c.args.self.now.bytes.items c.try_push.new.self.items all c.args.byte f.bytes (λ lt. grind (arith, common_steps)) (λ e. grind (arith, common_steps));
  len = simp length-append (omega arith);
}
