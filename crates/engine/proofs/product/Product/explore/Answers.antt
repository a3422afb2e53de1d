-- The start is a row, and what is begun there is gone on with.
use Rattle.std.proofs.Common.{◌≡◌, ℕ, ◌+◌, ◌*◌, ◌<◌, ◌≤◌, length, sym, subst, arith}
use Rattle.std.proofs.lemmas.Nat.{mul-add-lt}
use Rattle.model.specs.Trips.{World, place}
use Rattle.labels.specs.Table.{begun}
use Rattle.labels.specs.Rows.{view}
use Rattle.engine.specs.Worlds.{world_of}
use Rattle.engine.proofs.Grounds.{rows_few}
use Rattle.engine.proofs.product.Product.explore.Goals as goal

pub begin-requires-clause-size : goal.begin-requires-clause-size
begin-requires-clause-size g c =
    let W : World = world_of g.B.Book.answer g.R.Rule.automaton c.args.self.now in
    let law = g.R.Rule.lawful c.args.self.now.rule.now in
    let e : c.states-states.result ≡ W.states = c.states-states.ensures in
    let size : length c.args.labels.now ≡ c.args.self.now.network.stops * W.states = c.requires.size.0 in
    let few : length c.args.labels.now ≤ 66560 = rows_few c.args.self.now.network.stops W.states _ c.args.self.now.network.counted.0.1 law.few size in
    let a : c.args.enquiry.start * W.states + 0 < W.states * c.args.self.now.network.stops = mul-add-lt c.args.enquiry.start W.states 0 c.args.self.now.network.stops c.requires.start law.some in
    let b : c.args.enquiry.start * W.states < length c.args.labels.now = omega arith in
    (subst (λ (z : ℕ). 0 < z) (sym e) law.some, (subst (λ (z : ℕ). c.args.enquiry.start * z < length c.args.labels.now) (sym e) b, omega arith))

pub reach-requires-clause-begun : goal.reach-requires-clause-begun
reach-requires-clause-begun g c =
    subst (λ (z : ℕ). view z c.begin.new.self.labels.now ≡ begun (place c.args.enquiry.start 0) c.args.enquiry.second) c.states-states.ensures c.begin.ensures.table
