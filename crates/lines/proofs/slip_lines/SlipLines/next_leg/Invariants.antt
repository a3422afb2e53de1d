use Rattle.std.proofs.Common.{◌≡◌, ◌≤◌, length}
use Rattle.lines.specs.SlipLines.{legs_ended}
use Rattle.lines.proofs.slip_lines.SlipLines.next_leg.Given as goal

abbrev pub invariant-loop-leg : goal.invariant-loop-leg
invariant-loop-leg l =
    (legs_ended l.self.arcs.now l.self.legs.now ≡ legs_ended l.initial.self.arcs.now l.initial.self.legs.now)
    × (l.self.first ≡ l.initial.self.first)
    × (l.self.arcs ≡ l.initial.self.arcs)
    × (length l.self.legs.now ≤ length l.initial.self.legs.now)

abbrev pub decreases-loop-leg : goal.decreases-loop-leg
decreases-loop-leg l = length l.self.legs.now
