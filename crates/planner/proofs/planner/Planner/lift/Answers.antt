use Rattle.std.proofs.Common.{refl, arith}
use Rattle.std.proofs.lemmas.Grind.{common_steps}
use Rattle.planner.proofs.Steps.{made}
use Rattle.planner.proofs.planner.Planner.lift.Goals as goal

pub returns-in-Some-clause-made : goal.returns-in-Some-clause-made
returns-in-Some-clause-made g c = made _ _ _ _ refl refl refl (grind (arith, common_steps))

pub returns-in_default-clause-made : goal.returns-in_default-clause-made
returns-in_default-clause-made g c = made _ _ _ _ refl refl refl (grind (arith, common_steps))

pub returns-in_default-2-clause-made : goal.returns-in_default-2-clause-made
returns-in_default-2-clause-made g c = made _ _ _ _ refl refl refl (grind (arith, common_steps))
