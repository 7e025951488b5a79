-- What a verdict tells of the stream.
use Rattle.std.proofs.Common.{◌≡◌, ◌≢◌, true, false, refl}
use Rattle.unit_relations.specs.declared.verdict.Verdict.{Verdict}
use Rattle.unit_relations.specs.declared.verdict.Verdict.TheVariants.{Done, Full, Incomplete, Illegal}
use Rattle.step_buffers.specs.Stands.{stops}

-- a stream that can't go on is illegal
pub stops_illegal : (v : Verdict) → stops v ≡ true → v ≡ Illegal
stops_illegal Illegal e = refl
stops_illegal Done e = cc
stops_illegal Full e = cc
stops_illegal Incomplete e = cc

-- a stream that hasn't stopped isn't illegal
pub going_legal : (v : Verdict) → stops v ≡ false → v ≢ Illegal
going_legal Illegal e = λ f. cc
going_legal Done e = λ f. cc
going_legal Full e = λ f. cc
going_legal Incomplete e = λ f. cc
