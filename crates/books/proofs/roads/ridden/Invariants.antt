use Rattle.std.proofs.Common.{◌≡◌, ◌≤◌, drop}
use Rattle.model.specs.Clock.{horizon}
use Rattle.meanings.specs.Roads.{ridden, reached}
use Rattle.meanings.proofs.Roads.{Ordered, onward}
use Rattle.books.proofs.roads.ridden.Given as goal

abbrev pub invariant-loop-next : goal.invariant-loop-next
invariant-loop-next l =
    (l.last.second ≤ l.coming)
    × (reached l.last ≤ horizon)
    × Ordered l.last (drop l.next-index l.more)
    × (ridden l.points l.coming ≡ onward l.last (drop l.next-index l.more) l.coming)
