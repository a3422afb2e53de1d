-- The row is settled, and `relax` does the rest.
use Rattle.std.proofs.Common.{◌≡◌, ℕ, ◌+◌, ◌*◌, ◌/◌, ◌≤◌, length, set, Some, ap, ◌∙◌, subst, arith}
use Rattle.model.specs.declared.network.Place.{Place}
use Rattle.model.specs.Trips.{World}
use Rattle.network.specs.Sound.{Leaving}
use Rattle.network.proofs.Ranges.{leaving_numbers}
use Rattle.labels.specs.declared.label.Label.{Label}
use Rattle.labels.specs.Table.{Table, settle, relax_below}
use Rattle.labels.specs.Rows.{Rows, place_of, view}
use Rattle.labels.proofs.Searching.{row_below, view_settled, relaxed_most}
use Rattle.queue.specs.Contents.{contents, capacity}
use Rattle.engine.specs.Worlds.{world_of}
use Rattle.engine.proofs.Grounds.{range_room}
use Rattle.engine.proofs.product.Product.turn.Goals as goal

pub relax-requires-clause-room : goal.relax-requires-clause-room
relax-requires-clause-room g c =
    let W : World = world_of g.B.Book.answer g.R.Rule.automaton c.args.self.now in
    let rows : Rows = c.args.frontier.now.labels.now in
    let leaving : Leaving W.arcs (c.args.number / W.states) c.numbers-range.result = subst (λ (p : Place). Leaving W.arcs p.stop c.numbers-range.result) c.place-from.ensures (leaving_numbers c.args.self.now.network.arcs.now c.place-from.result.stop c.leaving.result _ c.numbers-range.ensures c.leaving.ensures) in
    let room = range_room W.arcs W.states rows c.args.number c.args.label c.numbers-range.result _ (g.R.Rule.lawful c.args.self.now.rule.now).some c.requires.size.1.0 leaving c.requires.room.0 in
    let most = relaxed_most W.arcs W.states (set rows c.args.number (Some (settle c.args.label))) in
    let held : length (contents c.settle-settled.new.self.queue.now) ≡ length (contents c.args.frontier.now.queue.now) = ap (λ z. length (contents z)) c.settle-settled.ensures.queue in
    let slots : 1 + length W.arcs * W.states ≤ capacity c.args.frontier.now.queue.now = c.requires.room.1 in
    let cap : capacity c.settle-settled.new.self.queue.now ≡ capacity c.args.frontier.now.queue.now = c.settle-settled.ensures.kept.room in
    omega arith

pub returns-clause-table : goal.returns-clause-table
returns-clause-table g c =
    let W : World = world_of g.B.Book.answer g.R.Rule.automaton c.args.self.now in
    let n : ℕ = length W.arcs in
    let T : Table = view W.states c.settle-settled.new.self.labels.now in
    let p : Place = place_of W.states c.args.number in
    c.relax.ensures.table
    ∙ ap (λ (z : Place). relax_below W z c.settle-settled.result n T) c.place-from.ensures
    ∙ ap (λ (z : Label). relax_below W p z n T) c.settle-settled.ensures.label
    ∙ ap (λ (z : Rows). relax_below W p (settle c.args.label) n (view W.states z)) c.settle-settled.ensures.labels
    ∙ ap (λ (z : Table). relax_below W p (settle c.args.label) n z)
    (view_settled W.states c.args.frontier.now.labels.now c.args.number c.args.label (g.R.Rule.lawful c.args.self.now.rule.now).some
    (row_below c.args.frontier.now.labels.now c.args.number c.args.label c.requires.size.1.0.0))

pub returns-clause-count : goal.returns-clause-count
returns-clause-count g c =
    let W : World = world_of g.B.Book.answer g.R.Rule.automaton c.args.self.now in
    let leaving : Leaving W.arcs (c.args.number / W.states) c.numbers-range.result = subst (λ (p : Place). Leaving W.arcs p.stop c.numbers-range.result) c.place-from.ensures (leaving_numbers c.args.self.now.network.arcs.now c.place-from.result.stop c.leaving.result _ c.numbers-range.ensures c.leaving.ensures) in
    let room = range_room W.arcs W.states c.args.frontier.now.labels.now c.args.number c.args.label c.numbers-range.result _ (g.R.Rule.lawful c.args.self.now.rule.now).some c.requires.size.1.0 leaving c.requires.room.0 in
    let held : length (contents c.settle-settled.new.self.queue.now) ≡ length (contents c.args.frontier.now.queue.now) = ap (λ z. length (contents z)) c.settle-settled.ensures.queue in
    omega (arith, c.relax.ensures.count)
