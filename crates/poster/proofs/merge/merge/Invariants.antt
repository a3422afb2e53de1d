use Rattle.std.proofs.Common.{sum_by}
use Rattle.queue.specs.Contents.{contents}
use Rattle.poster.specs.Asked.{asked}
use Rattle.poster.specs.Merging.{left, Writing}
use Rattle.poster.proofs.merge.merge.Given as goal

abbrev pub invariant-loop-next : goal.invariant-loop-next
invariant-loop-next l =
    Writing (asked l.question) (sum_by (left (asked l.question)) (contents l.initial.queue)) l.initial.rows l.rows (contents l.queue) l.written

abbrev pub decreases-loop-next : goal.decreases-loop-next
decreases-loop-next l = sum_by (left (asked l.question)) (contents l.queue)
