use Rattle.network.proofs.Passing.{Passed}
use Rattle.network.proofs.network.tested.Given as goal

abbrev pub invariant-loop-i : goal.invariant-loop-i
invariant-loop-i l = Passed l.stops l.arcs l.i l.low
