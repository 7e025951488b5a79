use Rattle.chain_steps.proofs.SetLaws.{joint_one_way, joints_one_way}
use Rattle.chain_steps.proofs.laws.joints_go_one_way.Goals as goal

pub returns-clause-one : goal.returns-clause-one
returns-clause-one c = λ ts joint well. joint_one_way ts joint (c.units_are_apart.ensures.apart ts joint.reader well)

pub returns-clause-all : goal.returns-clause-all
returns-clause-all c = λ ts joints well. joints_one_way ts (λ j. returns-clause-one c ts j well) joints
