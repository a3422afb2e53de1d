use Rattle.std.proofs.Common.{◌-◌, ◌≤◌, length}
use Rattle.network.specs.Sound.{NoneAbove}
use Rattle.network.proofs.network.Network.strides.Given as goal

abbrev pub invariant-loop-end : goal.invariant-loop-end
invariant-loop-end l = (l.end ≤ length l.self.arcs.now) × NoneAbove l.self.arcs.now l.stop l.end

abbrev pub decreases-loop-end : goal.decreases-loop-end
decreases-loop-end l = length l.self.arcs.now - l.end
