-- The arc and the row are there, since the label before is known.
use Rattle.std.proofs.Common.{◌≡◌, ◌+◌, ◌*◌, ◌<◌, length, get_or, Some, None, sym, ◌∙◌, subst, rules}
use Rattle.std.proofs.lemmas.Option.{none-some}
use Rattle.model.specs.declared.network.Arc.{Arc}
use Rattle.labels.specs.declared.label.Label.{Label}
use Rattle.model.specs.Trips.{place}
use Rattle.labels.specs.Rows.{view}
use Rattle.model.proofs.Options.{one_some}
use Rattle.labels.proofs.Tracing.{behind}
use Rattle.search.proofs.trace.before.Goals as goal

abbrev no_arc : Arc
no_arc = record { tail = 0; head = 0; label = 0; service = 0 }

pub bounds-arcs-label : goal.bounds-arcs-label
bounds-arcs-label c = (behind c.args.arcs.now c.args.labels.now c.args.states no_arc c.args.label c.requires.known.0 c.requires.known.1).arc

pub offset_bounds-labels-row : goal.offset_bounds-labels-row
offset_bounds-labels-row c =
    let b = behind c.args.arcs.now c.args.labels.now c.args.states no_arc c.args.label c.requires.known.0 c.requires.known.1 in
    let h : (get_or c.args.arcs.now c.args.label.arc no_arc).tail * c.args.states + c.args.label.state < length c.args.labels.now = b.row in
    search rules

pub bounds : goal.bounds
bounds c = (behind c.args.arcs.now c.args.labels.now c.args.states no_arc c.args.label c.requires.known.0 c.requires.known.1).row

pub bounds-labels-row : goal.bounds-labels-row
bounds-labels-row c = (behind c.args.arcs.now c.args.labels.now c.args.states no_arc c.args.label c.requires.known.0 c.requires.known.1).row

pub unreachable-requires : goal.unreachable-requires
unreachable-requires c =
    let b = behind c.args.arcs.now c.args.labels.now c.args.states no_arc c.args.label c.requires.known.0 c.requires.known.1 in
    let e : get_or c.args.labels.now ((get_or c.args.arcs.now c.args.label.arc no_arc).tail * c.args.states + c.args.label.state) None ≡ None = c.in_default.is in
    none-some c.requires.known.0 (sym e ∙ b.found)

pub returns : goal.returns
returns c =
    let b = behind c.args.arcs.now c.args.labels.now c.args.states no_arc c.args.label c.requires.known.0 c.requires.known.1 in
    let m : c.requires.known.0 ≡ c.in-Some.found
    = one_some (get_or c.args.labels.now ((get_or c.args.arcs.now c.args.label.arc no_arc).tail * c.args.states + c.args.label.state) None)
    c.requires.known.0 c.in-Some.found b.found c.in-Some.is in (
      get_or c.args.arcs.now c.args.label.arc no_arc,
      b.same,
      subst (λ (z : Label). view c.args.states c.args.labels.now (place (get_or c.args.arcs.now c.args.label.arc no_arc).tail c.args.label.state) ≡ Some z) m b.known,
    )
