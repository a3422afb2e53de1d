use Rattle.std.proofs.Common.{◌≡◌, ◌-◌, ◌*◌, ◌≤◌, length}
use Rattle.queue.specs.Contents.{contents, capacity}
use Rattle.poster.specs.Asked.{asked}
use Rattle.poster.specs.Merging.{Begun}
use Rattle.poster.proofs.Begins.{Between}
use Rattle.poster.proofs.merge.begin.Given as goal

abbrev pub invariant-loop-i : goal.invariant-loop-i
invariant-loop-i l =
    Begun (asked l.question) (Between l.initial.i-iterator.start l.i-iterator.start) (contents l.queue) l.count
    × (length (contents l.queue) ≤ l.i-iterator.start - l.initial.i-iterator.start)
    × (l.count ≤ 512 * (l.i-iterator.start - l.initial.i-iterator.start))
    × (capacity l.queue ≡ capacity l.initial.queue)
    × (l.initial.i-iterator.start ≤ l.i-iterator.start)
    × (l.i-iterator.start ≤ l.i-iterator.end)
    × (l.i-iterator.end ≡ l.initial.i-iterator.end)
