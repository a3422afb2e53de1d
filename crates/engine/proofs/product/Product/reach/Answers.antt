-- The loop is the search; it ends at the target's first end place, or where no row waits.
use Rattle.std.proofs.Common.{◌≡◌, ℕ, ◌+◌, ◌*◌, ◌^◌, ◌<◌, ◌≤◌, eqb, length, set, Some, sym, refl, ap, ◌∙◌, subst, arith}
use Rattle.std.proofs.lemmas.Bool.{and_parts, and_from, eqb-true, eq-eqb, both_ways}
use Rattle.model.specs.declared.network.Place.{Place}
use Rattle.model.specs.Trips.{World, LawfulWorld, place, Ends}
use Rattle.model.proofs.Unique.{place_is}
use Rattle.model.proofs.Worlds.{world_is_lawful}
use Rattle.labels.specs.Table.{Table, Search, begin, turn, Least, Tied, Unmet, settle}
use Rattle.labels.specs.Rows.{Rows, view, place_of, settled_count, relaxed_count, Waits}
use Rattle.labels.proofs.Searching.{begun_legs, begun_unmet, legs_small, settled_most, finished_of, next_search, next_legs, one_more_settled, relaxed_after, unmet_still, least_row, tied_row}
use Rattle.queue.specs.Contents.{contents, capacity}
use Rattle.engine.specs.Agenda.{Stopped, Exhausted}
use Rattle.engine.specs.Worlds.{world_of}
use Rattle.engine.proofs.Grounds.{rows_few}
use Rattle.engine.proofs.product.Product.reach.Goals as goal

pub loop-number-init : goal.loop-number-init
loop-number-init g c =
    let W : World = world_of g.B.Book.answer g.R.Rule.automaton c.args.self.now in
    let o : Place = place c.args.enquiry.start 0 in
    let rows : Rows = c.args.frontier.now.labels.now in (
      subst (λ (T : Table). Search W o c.args.enquiry.second T) (sym c.requires.begun) begin,
      begun_legs W.states rows o c.args.enquiry.second c.requires.begun,
      subst (λ (T : Table). Unmet W c.args.enquiry.target T) (sym c.requires.begun) (begun_unmet W c.args.enquiry.target o c.args.enquiry.second),
      c.requires.standing,
      omega (arith, c.requires.count),
      c.requires.size.1,
      record { rows = refl; size = refl; room = refl },
    )

pub returns-then-ends-clause-ended : goal.returns-then-ends-clause-ended
returns-then-ends-clause-ended g c =
    let W : World = world_of g.B.Book.answer g.R.Rule.automaton c.args.self.now in
    let pos : 0 < W.states = (g.R.Rule.lawful c.args.self.now.rule.now).some in
    let due = c.in-Some.ensures.next in
    let rows : Rows = c.loop-number.frontier.labels.now in
    let here : Place = c.place-place.result in
    let both = and_parts (eqb here.stop c.args.enquiry.target) (W.ends here.state) (sym c.ends.ensures ∙ c.if-ends.true) in
    let at : place_of W.states c.in-Some.number ≡ place c.args.enquiry.target here.state
    = place_is (place_of W.states c.in-Some.number) (place c.args.enquiry.target here.state)
    (ap Place.stop (sym c.place-place.ensures) ∙ eqb-true here.stop c.args.enquiry.target both.0)
    (ap Place.state (sym c.place-place.ensures)) in
    subst (λ (r : Rows). Stopped W (place c.args.enquiry.start 0) c.args.enquiry.second c.args.enquiry.target (view W.states r) here.state c.in-Some.label) (sym c.next.ensures.labels)
    (record {
      searched = c.loop-number.invariant.0;
      unmet = c.loop-number.invariant.2;
      least = subst (λ (p : Place). Least (view W.states rows) p c.in-Some.label) at (least_row W.states rows c.in-Some.number c.in-Some.label pos due.foremost);
      tied = subst (λ (p : Place). Tied (view W.states rows) p c.in-Some.label) at (tied_row W.states rows c.in-Some.number c.in-Some.label pos due.foremost);
      ending = both.1;
    })

pub turn-requires-clause-size : goal.turn-requires-clause-size
turn-requires-clause-size g c =
    let W : World = world_of g.B.Book.answer g.R.Rule.automaton c.args.self.now in
    let law = g.R.Rule.lawful c.args.self.now.rule.now in
    let due = c.in-Some.ensures.next in
    let rows : Rows = c.loop-number.frontier.labels.now in
    let n : length rows ≡ length c.args.frontier.now.labels.now = c.loop-number.invariant.6.size in
    let size : length c.args.frontier.now.labels.now ≡ c.args.self.now.network.stops * W.states = c.requires.size.0 in
    let few : length c.args.frontier.now.labels.now ≤ 66560 = rows_few c.args.self.now.network.stops W.states _ c.args.self.now.network.counted.0.1 law.few size in
    let small : length rows < 2 ^ 31 = omega arith in (
      c.next.ensures.kept.size ∙ n ∙ size,
      (
        subst (λ (r : Rows). Waits r c.in-Some.number c.in-Some.label) (sym c.next.ensures.labels) due.foremost.waits,
        legs_small W.states rows c.in-Some.number c.in-Some.label law.some small c.loop-number.invariant.1 due.foremost.waits.0,
      ),
    )

pub loop-number-smaller : goal.loop-number-smaller
loop-number-smaller g c =
    let W : World = world_of g.B.Book.answer g.R.Rule.automaton c.args.self.now in
    let law : LawfulWorld W = world_is_lawful W.arcs (g.B.Book.services c.args.self.now.book.now) (g.B.Book.answer c.args.self.now.book.now) (g.R.Rule.automaton c.args.self.now.rule.now)
    (g.B.Book.lawful c.args.self.now.book.now) (g.R.Rule.lawful c.args.self.now.rule.now) in
    let rows : Rows = c.loop-number.frontier.labels.now in
    let rows₂ : Rows = c.turn.new.frontier.labels.now in
    let table : view W.states rows₂ ≡ turn W (place_of W.states c.in-Some.number) c.in-Some.label (view W.states rows)
    = c.turn.ensures.table ∙ ap (λ (r : Rows). turn W (place_of W.states c.in-Some.number) c.in-Some.label (view W.states r)) c.next.ensures.labels in
    let n : length rows₂ ≡ length rows = c.turn.ensures.kept.size ∙ c.next.ensures.kept.size in
    let m : length rows ≡ length c.args.frontier.now.labels.now = c.loop-number.invariant.6.size in
    let b : settled_count rows₂ ≤ length rows₂ = settled_most rows₂ in
    let a : settled_count rows < settled_count rows₂
    = one_more_settled W law (place c.args.enquiry.start 0) c.args.enquiry.second W.states (g.R.Rule.lawful c.args.self.now.rule.now).some
    rows rows₂ n c.in-Some.number c.in-Some.label c.in-Some.ensures.next.foremost c.loop-number.invariant.0 table in
    omega arith

pub loop-number-preserved : goal.loop-number-preserved
loop-number-preserved g c =
    let W : World = world_of g.B.Book.answer g.R.Rule.automaton c.args.self.now in
    let pos : 0 < W.states = (g.R.Rule.lawful c.args.self.now.rule.now).some in
    let law : LawfulWorld W = world_is_lawful W.arcs (g.B.Book.services c.args.self.now.book.now) (g.B.Book.answer c.args.self.now.book.now) (g.R.Rule.automaton c.args.self.now.rule.now)
    (g.B.Book.lawful c.args.self.now.book.now) (g.R.Rule.lawful c.args.self.now.rule.now) in
    let o : Place = place c.args.enquiry.start 0 in
    let t : ℕ = c.args.enquiry.second in
    let due = c.in-Some.ensures.next in
    let here : Place = c.place-place.result in
    let rows : Rows = c.loop-number.frontier.labels.now in
    let rows₂ : Rows = c.turn.new.frontier.labels.now in
    let table : view W.states rows₂ ≡ turn W (place_of W.states c.in-Some.number) c.in-Some.label (view W.states rows)
    = c.turn.ensures.table ∙ ap (λ (r : Rows). turn W (place_of W.states c.in-Some.number) c.in-Some.label (view W.states r)) c.next.ensures.labels in
    let kept = c.loop-number.invariant.6 in
    let n : length rows₂ ≡ length rows = c.turn.ensures.kept.size ∙ c.next.ensures.kept.size in
    let other : Ends W c.args.enquiry.target (place_of W.states c.in-Some.number) → ⊥
    = λ ends. both_ways c.ends.result c.if-ends.false
    (c.ends.ensures ∙ and_from (eqb here.stop c.args.enquiry.target) (W.ends here.state)
    (eq-eqb here.stop c.args.enquiry.target (ap Place.stop c.place-place.ensures ∙ ends.0))
    (ap (λ (p : Place). W.ends p.state) c.place-place.ensures ∙ ends.1)) in
    let count : length (contents c.turn.new.frontier.queue.now) ≤ relaxed_count W.arcs W.states (set rows c.in-Some.number (Some (settle c.in-Some.label)))
    = subst (λ (r : Rows). length (contents c.turn.new.frontier.queue.now) ≤ relaxed_count W.arcs W.states (set r c.in-Some.number (Some (settle c.in-Some.label)))) c.next.ensures.labels c.turn.ensures.count in
    let after : relaxed_count W.arcs W.states (set rows c.in-Some.number (Some (settle c.in-Some.label))) ≤ relaxed_count W.arcs W.states rows₂
    = relaxed_after W law o t W.states pos rows rows₂ n c.in-Some.number c.in-Some.label due.foremost c.loop-number.invariant.0 table W.arcs in
    let room : 1 + length W.arcs * W.states ≤ capacity c.loop-number.frontier.queue.now = c.loop-number.invariant.5 in
    let cap : capacity c.turn.new.frontier.queue.now ≡ capacity c.loop-number.frontier.queue.now = c.turn.ensures.kept.room ∙ c.next.ensures.kept.room in (
      next_search W law o t W.states pos rows rows₂ n c.in-Some.number c.in-Some.label due.foremost c.loop-number.invariant.0 table,
      next_legs W law o t W.states pos rows rows₂ n c.in-Some.number c.in-Some.label due.foremost c.loop-number.invariant.0 table c.loop-number.invariant.1,
      unmet_still W law o t W.states pos rows rows₂ n c.in-Some.number c.in-Some.label due.foremost c.loop-number.invariant.0 table c.args.enquiry.target c.loop-number.invariant.2 other,
      c.turn.ensures.standing,
      omega arith,
      omega arith,
      record { rows = c.turn.ensures.kept.rows ∙ c.next.ensures.kept.rows ∙ kept.rows; size = n ∙ kept.size; room = cap ∙ kept.room },
    )

pub returns-clause-ended : goal.returns-clause-ended
returns-clause-ended g c =
    let W : World = world_of g.B.Book.answer g.R.Rule.automaton c.args.self.now in
    subst (λ (r : Rows). Exhausted W (place c.args.enquiry.start 0) c.args.enquiry.second c.args.enquiry.target (view W.states r)) (sym c.next.ensures.labels)
    (record {
      searched = c.loop-number.invariant.0;
      unmet = c.loop-number.invariant.2;
      finished = finished_of W.states c.loop-number.frontier.labels.now c.in_default.ensures.next;
    })
