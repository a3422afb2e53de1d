use Rattle.std.proofs.Common.{◌≡◌, ◌≤◌}
use Rattle.records.specs.Records.{rest, size}
use Rattle.records.proofs.records.Records.step.Given as goal

abbrev pub invariant-loop-self : goal.invariant-loop-self
invariant-loop-self l = (rest l.initial.self ≡ rest l.self) × (size l.self.section ≤ size l.initial.self.section)

abbrev pub decreases-loop-self : goal.decreases-loop-self
decreases-loop-self l = size l.self.section
