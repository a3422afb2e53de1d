use Rattle.std.proofs.Common.{◌-◌, get_or}
use Rattle.queue.specs.Heap.{HeapOf, Sifted}
use Rattle.queue.proofs.Heaps.{Sinking}
use Rattle.queue.proofs.sift.sift_down.Given as goal

abbrev pub invariant-loop-at : goal.invariant-loop-at
invariant-loop-at g l =
    Sifted l.len l.initial.slots l.slots
    × (HeapOf g.T.Ranked.before l.initial.slots 1 l.len → (d : g.row.T.Denot) → Sinking g.T.Ranked.before (λ i. get_or l.slots i d) l.at l.len)

abbrev pub decreases-loop-at : goal.decreases-loop-at
decreases-loop-at g l = l.len - l.at
