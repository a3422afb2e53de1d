use Rattle.std.proofs.Common.{◌≡◌, ◌≤◌, length}
use Rattle.queue.specs.Contents.{contents}
use Rattle.engine.specs.Frontiers.{Standing, Kept}
use Rattle.engine.proofs.frontier.Frontier.next.Given as goal

abbrev pub invariant-loop-entry : goal.invariant-loop-entry
invariant-loop-entry l =
    Standing l.self
    × (length (contents l.self.queue.now) ≤ length (contents l.initial.self.queue.now))
    × (l.self.labels.now ≡ l.initial.self.labels.now)
    × Kept l.initial.self l.self

abbrev pub decreases-loop-entry : goal.decreases-loop-entry
decreases-loop-entry l = length (contents l.self.queue.now)
