-- The walk back stands at a place with the label `last`; the legs behind it are written.
use Rattle.model.specs.Trips.{place}
use Rattle.labels.specs.Rows.{view}
use Rattle.labels.proofs.Tracing.{Walk}
use Rattle.search.proofs.trace.trace.Given as goal

abbrev pub invariant-loop-last : goal.invariant-loop-last
invariant-loop-last l = Walk l.arcs (view l.states l.labels) (place l.target l.fn.reached.state) l.initial.slip l.slip l.last

abbrev pub decreases-loop-last : goal.decreases-loop-last
decreases-loop-last l = l.last.legs
