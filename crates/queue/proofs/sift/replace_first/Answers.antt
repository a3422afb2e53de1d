use Rattle.std.proofs.Common.{◌+◌, arith}
use Rattle.queue.proofs.Heaps.{heap_after_root}
use Rattle.queue.proofs.sift.replace_first.Goals as goal

pub returns-clause-heap : goal.returns-clause-heap
returns-clause-heap g c = λ h. c.sift_down.ensures.heap (heap_after_root g.T.Ranked.before c.args.slots.now (c.args.last + 1) c.args.last _ (omega arith) h)
