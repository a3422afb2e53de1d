-- The rows are a table that the search comes to; each turn settles one row more, and queues no more entries than there are arcs leaving its stop.
use Rattle.std.proofs.Common.{◌+◌, ◌-◌, ◌≤◌, length}
use Rattle.model.specs.Asking.{slots_needed}
use Rattle.model.specs.Trips.{place}
use Rattle.labels.specs.Table.{Search, Unmet}
use Rattle.labels.specs.Rows.{view, settled_count, relaxed_count, LegsBound}
use Rattle.queue.specs.Contents.{contents, capacity}
use Rattle.engine.specs.Frontiers.{Standing, Kept}
use Rattle.engine.specs.Worlds.{world_of}
use Rattle.engine.proofs.product.Product.reach.Given as goal

abbrev pub invariant-loop-number : goal.invariant-loop-number
invariant-loop-number g l =
    Search (world_of g.B.Book.answer g.R.Rule.automaton l.self) (place l.enquiry.start 0) l.enquiry.second
    (view (g.R.Rule.automaton l.self.rule.now).states l.frontier.labels.now)
    × LegsBound (g.R.Rule.automaton l.self.rule.now).states l.frontier.labels.now
    × Unmet (world_of g.B.Book.answer g.R.Rule.automaton l.self) l.enquiry.target (view (g.R.Rule.automaton l.self.rule.now).states l.frontier.labels.now)
    × Standing l.frontier
    × (length (contents l.frontier.queue.now) ≤ 1 + relaxed_count l.self.network.arcs.now (g.R.Rule.automaton l.self.rule.now).states l.frontier.labels.now)
    × (slots_needed (world_of g.B.Book.answer g.R.Rule.automaton l.self) ≤ capacity l.frontier.queue.now)
    × Kept l.initial.frontier l.frontier

abbrev pub decreases-loop-number : goal.decreases-loop-number
decreases-loop-number g l = length l.initial.frontier.labels.now - settled_count l.frontier.labels.now
