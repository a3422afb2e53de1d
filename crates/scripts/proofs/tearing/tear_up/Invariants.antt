use Rattle.scripts.proofs.Ending.{Tearing}
use Rattle.scripts.proofs.tearing.tear_up.Given as goal

abbrev pub invariant-loop-planner : goal.invariant-loop-planner
invariant-loop-planner g l = Tearing l.initial.planners l.planners l.fn.held l.left l.planner-index
