use Rattle.std.proofs.Common.{take}
use Rattle.std.specs.Fmt.{HasWritten, IsPlainFormatter}
use Rattle.lines.specs.Lines.{legs_text}
use Rattle.lines.proofs.slip.write_legs.Given as goal

abbrev pub invariant-loop-leg : goal.invariant-loop-leg
invariant-loop-leg g l = IsPlainFormatter l.initial.f → HasWritten g.W.Write.write_str_gives l.initial.f (legs_text l.arcs (take l.leg-index l.legs)) l.f
