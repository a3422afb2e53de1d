use Rattle.std.proofs.Common.{◌+◌, ◌≤◌, get_or}
use Rattle.queue.specs.Heap.{HeapOf, Sifted}
use Rattle.queue.proofs.Heaps.{Rising}
use Rattle.queue.proofs.sift.sift_up.Given as goal

abbrev pub invariant-loop-at : goal.invariant-loop-at
invariant-loop-at g l =
    (l.at ≤ l.last)
    × Sifted (l.last + 1) l.initial.slots l.slots
    × (HeapOf g.T.Ranked.before l.initial.slots 0 l.last → (d : g.row.T.Denot) → Rising g.T.Ranked.before (λ i. get_or l.slots i d) l.at (l.last + 1))

abbrev pub decreases-loop-at : goal.decreases-loop-at
decreases-loop-at g l = l.at
