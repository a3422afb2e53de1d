use Rattle.std.proofs.Common.{refl, arith}
use Rattle.std.proofs.lemmas.Grind.{common_steps}
use Rattle.planner.proofs.Steps.{made}
use Rattle.planner.proofs.planner.Planner.open.Goals as goal

pub returns-then-is_some-clause-made : goal.returns-then-is_some-clause-made
returns-then-is_some-clause-made g c = made _ _ _ _ refl refl refl (grind (arith, common_steps))

pub returns-clause-made : goal.returns-clause-made
returns-clause-made g c = made _ _ _ _ refl refl refl (grind (arith, common_steps))
