use Rattle.std.proofs.Common.{arith}
use Rattle.std.proofs.lemmas.Grind.{common_steps}
use Rattle.planner.proofs.Steps.{made}
use Rattle.planner.proofs.planner.Planner.tear_up.Goals as goal

pub returns-in_err-close-clause-made : goal.returns-in_err-close-clause-made
returns-in_err-close-clause-made g c = made _ _ _ _ (grind (arith, common_steps)) (grind (arith, common_steps)) (grind (arith, common_steps)) (grind (arith, common_steps))

pub returns-clause-made : goal.returns-clause-made
returns-clause-made g c = made _ _ _ _ (grind (arith, common_steps)) (grind (arith, common_steps)) (grind (arith, common_steps)) (grind (arith, common_steps))
