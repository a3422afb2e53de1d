use Rattle.wire.proofs.Turns.{Going}
use Rattle.wire.proofs.number.decoded.Given as goal

abbrev pub invariant-loop-i : goal.invariant-loop-i
invariant-loop-i l = Going l.bytes l.i l.value l.scale
