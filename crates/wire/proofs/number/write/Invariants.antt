use Rattle.wire.proofs.Writing.{Writing}
use Rattle.wire.proofs.number.write.Given as goal

abbrev pub invariant-loop-group : goal.invariant-loop-group
invariant-loop-group l = Writing l.n l.groups l.group-index l.rest
