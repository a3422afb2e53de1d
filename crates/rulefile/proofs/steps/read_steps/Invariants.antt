use Rattle.std.proofs.Common.{◌-◌}
use Rattle.rulefile.proofs.Entering.{Entering}
use Rattle.rulefile.proofs.steps.read_steps.Given as goal

abbrev pub invariant-loop-i : goal.invariant-loop-i
invariant-loop-i l = Entering l.states l.initial.reader l.count (l.count - l._i) l.reader l.before l.next
