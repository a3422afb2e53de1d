-- The loop relaxes one arc after the other; the arcs before and behind the range offer nothing.
use Rattle.std.proofs.Common.{◌≡◌, ℕ, ◌+◌, ◌*◌, ◌<◌, ◌≤◌, length, sym, refl, ap, ◌∙◌, subst, arith}
use Rattle.std.specs.declared.ops.Range.{Range}
use Rattle.model.specs.Trips.{World}
use Rattle.labels.specs.Table.{Table, relax_below}
use Rattle.labels.specs.Rows.{Rows, view, row_of, accepted, Room}
use Rattle.labels.proofs.Relaxing.{relax_before, relax_behind, offer_room, relaxed_none, relaxed_some}
use Rattle.engine.specs.Worlds.{world_of}
use Rattle.engine.proofs.Grounds.{leaving_among, fit_room, rows_few}
use Rattle.engine.proofs.product.Product.relax.Goals as goal

pub loop-i-init : goal.loop-i-init
loop-i-init g c =
    let W : World = world_of g.B.Book.answer g.R.Rule.automaton c.args.self.now in
    let T : Table = view W.states c.args.frontier.now.labels.now in
    let same = c.into_iter-i-iterator.ensures.into_iter_gives in
    let first : c.into_iter-i-iterator.result.start ≡ c.args.range.start = ap Range.start same in
    let last : c.into_iter-i-iterator.result.end ≡ c.args.range.end = ap Range.end same in (
      c.requires.standing,
      relax_before W c.args.from c.args.label c.args.range.start c.args.range.end (leaving_among c.args.self.now.network.arcs.now c.args.from.stop c.args.range c.requires.range) T
          ∙ ap (λ (i : ℕ). relax_below W c.args.from c.args.label i T) (sym first),
      omega arith,
      omega arith,
      omega (arith, c.requires.range.ordered),
      omega arith,
      record { rows = refl; size = refl; room = refl },
    )

pub offer-requires-clause-leaves : goal.offer-requires-clause-leaves
offer-requires-clause-leaves g c =
    let steps = c.in-Some.ensures.steps.1 in
    λ d. c.requires.range.leave c.in-Some.i d (omega (arith, steps.1, c.loop-i.invariant.3)) (omega (arith, steps.0, steps.1))

pub accept-requires-clause-size : goal.accept-requires-clause-size
accept-requires-clause-size g c =
    let W : World = world_of g.B.Book.answer g.R.Rule.automaton c.args.self.now in
    let law = g.R.Rule.lawful c.args.self.now.rule.now in
    let n : length c.loop-i.frontier.labels.now ≡ length c.args.frontier.now.labels.now = c.loop-i.invariant.6.size in
    let size : length c.args.frontier.now.labels.now ≡ c.args.self.now.network.stops * W.states = c.requires.size.0 in
    let few : length c.args.frontier.now.labels.now ≤ 66560 = rows_few c.args.self.now.network.stops W.states _ c.args.self.now.network.counted.0.1 law.few size in
    let room : Room c.args.self.now.network.arcs.now W.states (length c.loop-i.frontier.labels.now) = fit_room c.args.self.now.network.arcs.now c.args.self.now.network.stops W.states _ c.args.self.now.network.fit (n ∙ size) in
    let y = offer_room W c.args.from c.args.label c.in-Some.i (length c.loop-i.frontier.labels.now) c.in-Some-offer.made law.closed room (sym c.in-Some-offer.ensures) in
    (subst (λ (z : ℕ). row_of z c.in-Some-offer.made.at < length c.loop-i.frontier.labels.now) (sym c.states-states.ensures) y.1, omega arith)

pub loop-i-preserved-in-Some-offer : goal.loop-i-preserved-in-Some-offer
loop-i-preserved-in-Some-offer g c =
    let W : World = world_of g.B.Book.answer g.R.Rule.automaton c.args.self.now in
    let T : Table = view W.states c.args.frontier.now.labels.now in
    let kept = c.loop-i.invariant.6 in
    let still = c.accept.ensures.kept in
    let room : Room c.args.self.now.network.arcs.now W.states (length c.loop-i.frontier.labels.now)
    = fit_room c.args.self.now.network.arcs.now c.args.self.now.network.stops W.states _ c.args.self.now.network.fit (kept.size ∙ c.requires.size.0) in
    let steps = c.in-Some.ensures.steps.1 in
    let at : c.loop-i.i-iterator.start ≡ c.in-Some.i = sym steps.1 in
    let next : c.in-Some.i + 1 ≡ c.next.new.self.start = omega (arith, steps.1, steps.2) in (
      c.accept.ensures.standing,
      ap (λ (rows : Rows). view W.states rows)
          (c.accept.ensures.labels ∙ ap (λ (z : ℕ). accepted z c.in-Some-offer.made c.loop-i.frontier.labels.now) c.states-states.ensures)
          ∙ relaxed_some W c.args.from c.args.label c.in-Some.i T c.loop-i.frontier.labels.now c.in-Some-offer.made (g.R.Rule.lawful c.args.self.now.rule.now).closed room
          (c.loop-i.invariant.1 ∙ ap (λ (i : ℕ). relax_below W c.args.from c.args.label i T) at) c.in-Some-offer.ensures
          ∙ ap (λ (i : ℕ). relax_below W c.args.from c.args.label i T) next,
      omega arith,
      omega arith,
      omega arith,
      omega arith,
      record { rows = still.rows ∙ kept.rows; size = still.size ∙ kept.size; room = still.room ∙ kept.room },
    )

pub loop-i-preserved : goal.loop-i-preserved
loop-i-preserved g c =
    let W : World = world_of g.B.Book.answer g.R.Rule.automaton c.args.self.now in
    let T : Table = view W.states c.args.frontier.now.labels.now in
    let steps = c.in-Some.ensures.steps.1 in
    let at : c.loop-i.i-iterator.start ≡ c.in-Some.i = sym steps.1 in
    let next : c.in-Some.i + 1 ≡ c.next.new.self.start = omega (arith, steps.1, steps.2) in (
      c.loop-i.invariant.0,
      relaxed_none W c.args.from c.args.label c.in-Some.i T (view W.states c.loop-i.frontier.labels.now)
          (c.loop-i.invariant.1 ∙ ap (λ (i : ℕ). relax_below W c.args.from c.args.label i T) at) c.in_default.ensures
          ∙ ap (λ (i : ℕ). relax_below W c.args.from c.args.label i T) next,
      omega arith,
      omega arith,
      omega arith,
      omega arith,
      c.loop-i.invariant.6,
    )

pub returns-clause-table : goal.returns-clause-table
returns-clause-table g c =
    let W : World = world_of g.B.Book.answer g.R.Rule.automaton c.args.self.now in
    let T : Table = view W.states c.args.frontier.now.labels.now in
    let last : c.loop-i.i-iterator.start ≡ c.args.range.end = omega (arith, c.in-None.ensures.steps.1.0) in
    c.loop-i.invariant.1
    ∙ ap (λ (i : ℕ). relax_below W c.args.from c.args.label i T) last
    ∙ relax_behind W c.args.from c.args.label c.args.range.start c.args.range.end (leaving_among c.args.self.now.network.arcs.now c.args.from.stop c.args.range c.requires.range) T c.requires.range.within
