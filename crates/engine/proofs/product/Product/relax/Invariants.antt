-- The arcs below i are relaxed, and each of them has queued one entry at most.
use Rattle.std.proofs.Common.{◌≡◌, ◌+◌, ◌≤◌, length}
use Rattle.labels.specs.Table.{relax_below}
use Rattle.labels.specs.Rows.{view}
use Rattle.queue.specs.Contents.{contents}
use Rattle.engine.specs.Frontiers.{Standing, Kept}
use Rattle.engine.specs.Worlds.{world_of}
use Rattle.engine.proofs.product.Product.relax.Given as goal

abbrev pub invariant-loop-i : goal.invariant-loop-i
invariant-loop-i g l =
    Standing l.frontier
    × (view (g.R.Rule.automaton l.self.rule.now).states l.frontier.labels.now
    ≡ relax_below (world_of g.B.Book.answer g.R.Rule.automaton l.self) l.from l.label l.i-iterator.start
    (view (g.R.Rule.automaton l.self.rule.now).states l.initial.frontier.labels.now))
    × (length (contents l.frontier.queue.now) + l.fn.range.start ≤ length (contents l.initial.frontier.queue.now) + l.i-iterator.start)
    × (l.fn.range.start ≤ l.i-iterator.start)
    × (l.i-iterator.start ≤ l.i-iterator.end)
    × (l.i-iterator.end ≡ l.fn.range.end)
    × Kept l.initial.frontier l.frontier
