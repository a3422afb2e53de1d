-- How the search ends is how the enquiry is answered; the slip holds what `trace` writes.
use Rattle.std.proofs.Common.{◌≡◌, ℕ, ◌*◌, ◌≤◌, List, ◌++◌, length, take, drop, Option, sym, refl, ap, ◌∙◌, subst, subst₂, arith, length-take}
use Rattle.model.specs.declared.network.Arc.{Arc}
use Rattle.model.specs.Trips.{World, LawfulWorld, place}
use Rattle.model.proofs.Worlds.{world_is_lawful}
use Rattle.labels.specs.Table.{Table, Traced}
use Rattle.labels.specs.Rows.{view}
use Rattle.engine.specs.declared.turns.Reached.{Reached}
use Rattle.engine.specs.Worlds.{world_of}
use Rattle.engine.specs.Agenda.{Ended, Stopped, Exhausted}
use Rattle.engine.proofs.Grounds.{rows_few}
use Rattle.search.proofs.Answering.{outcome_none, outcome_short, outcome_found, legs_there, ended, asked}
use Rattle.search.proofs.answer.ask.Goals as goal

pub returns-in_default-clause-asked : goal.returns-in_default-clause-asked
returns-in_default-clause-asked g c =
    let k : ℕ = (g.R.Rule.automaton c.args.product.now.rule.now).states in
    let W : World = world_of g.B.Book.answer g.R.Rule.automaton c.args.product.now in
    let law : LawfulWorld W = world_is_lawful c.args.product.now.network.arcs.now (g.B.Book.services c.args.product.now.book.now) (g.B.Book.answer c.args.product.now.book.now) (g.R.Rule.automaton c.args.product.now.rule.now)
    (g.B.Book.lawful c.args.product.now.book.now) (g.R.Rule.lawful c.args.product.now.rule.now) in
    let T : Table = view k (take (c.args.product.now.network.stops * k) c.search.new.tables.labels.now) in
    let end : Exhausted W (place c.args.enquiry.start 0) c.args.enquiry.second c.args.enquiry.target T
    = subst (λ (z : Option Reached). Ended W (place c.args.enquiry.start 0) c.args.enquiry.second c.args.enquiry.target T z) c.in_default.is
    (ended c.args.product.now.network.stops (g.B.Book.services c.args.product.now.book.now) W c.args.enquiry c.args.tables.now.labels.now c.search.new.tables.labels.now c.args.tables.now.slots.now c.search.new.tables.slots.now
    c.search.result c.in_ok-reached.field-0 c.search.ensures.searched c.in_ok-reached.was) in
    asked c.args.product.now.network.stops (g.B.Book.services c.args.product.now.book.now) W c.args.enquiry c.args.tables.now.labels.now c.search.new.tables.labels.now c.args.tables.now.slots.now c.search.new.tables.slots.now
    c.search.result c.in_ok-reached.field-0 c.search.ensures.searched c.in_ok-reached.was c.args.slip.now c.args.slip.now _
    (outcome_none W law c.args.enquiry T c.args.slip.now end) (omega arith, omega arith, refl)

pub returns-then-slip-reached-clause-asked : goal.returns-then-slip-reached-clause-asked
returns-then-slip-reached-clause-asked g c =
    let k : ℕ = (g.R.Rule.automaton c.args.product.now.rule.now).states in
    let W : World = world_of g.B.Book.answer g.R.Rule.automaton c.args.product.now in
    let law : LawfulWorld W = world_is_lawful c.args.product.now.network.arcs.now (g.B.Book.services c.args.product.now.book.now) (g.B.Book.answer c.args.product.now.book.now) (g.R.Rule.automaton c.args.product.now.rule.now)
    (g.B.Book.lawful c.args.product.now.book.now) (g.R.Rule.lawful c.args.product.now.rule.now) in
    let T : Table = view k (take (c.args.product.now.network.stops * k) c.search.new.tables.labels.now) in
    let end : Stopped W (place c.args.enquiry.start 0) c.args.enquiry.second c.args.enquiry.target T c.in-Some.reached.state c.in-Some.reached.label
    = subst (λ (z : Option Reached). Ended W (place c.args.enquiry.start 0) c.args.enquiry.second c.args.enquiry.target T z) c.in-Some.is
    (ended c.args.product.now.network.stops (g.B.Book.services c.args.product.now.book.now) W c.args.enquiry c.args.tables.now.labels.now c.search.new.tables.labels.now c.args.tables.now.slots.now c.search.new.tables.slots.now
    c.search.result c.in_ok-reached.field-0 c.search.ensures.searched c.in_ok-reached.was) in
    let legs = legs_there W law c.args.enquiry T c.in-Some.reached.state c.in-Some.reached.label end in
    asked c.args.product.now.network.stops (g.B.Book.services c.args.product.now.book.now) W c.args.enquiry c.args.tables.now.labels.now c.search.new.tables.labels.now c.args.tables.now.slots.now c.search.new.tables.slots.now
    c.search.result c.in_ok-reached.field-0 c.search.ensures.searched c.in_ok-reached.was c.args.slip.now c.args.slip.now _
    (outcome_short W law c.args.enquiry T c.in-Some.reached.state c.in-Some.reached.label end legs.0 legs.1 c.args.slip.now c.if-slip-reached.true) (omega arith, omega arith, refl)

pub trace-requires : goal.trace-requires
trace-requires g c =
    let k : ℕ = (g.R.Rule.automaton c.args.product.now.rule.now).states in
    let W : World = world_of g.B.Book.answer g.R.Rule.automaton c.args.product.now in
    let law : LawfulWorld W = world_is_lawful c.args.product.now.network.arcs.now (g.B.Book.services c.args.product.now.book.now) (g.B.Book.answer c.args.product.now.book.now) (g.R.Rule.automaton c.args.product.now.rule.now)
    (g.B.Book.lawful c.args.product.now.book.now) (g.R.Rule.lawful c.args.product.now.rule.now) in
    let T : Table = view k (take (c.args.product.now.network.stops * k) c.search.new.tables.labels.now) in
    let U : Table = view c.states-states.result c.first_rows.result.now in
    let same : U ≡ T = ap (λ rows. view c.states-states.result rows) c.first_rows.ensures ∙ (λ i. view (c.states-states.ensures i) (take (c.stops.ensures i * c.states-states.ensures i) c.search.new.tables.labels.now)) in
    let end : Stopped W (place c.args.enquiry.start 0) c.args.enquiry.second c.args.enquiry.target T c.in-Some.reached.state c.in-Some.reached.label
    = subst (λ (z : Option Reached). Ended W (place c.args.enquiry.start 0) c.args.enquiry.second c.args.enquiry.target T z) c.in-Some.is
    (ended c.args.product.now.network.stops (g.B.Book.services c.args.product.now.book.now) W c.args.enquiry c.args.tables.now.labels.now c.search.new.tables.labels.now c.args.tables.now.slots.now c.search.new.tables.slots.now
    c.search.result c.in_ok-reached.field-0 c.search.ensures.searched c.in_ok-reached.was) in
    let legs = legs_there W law c.args.enquiry T c.in-Some.reached.state c.in-Some.reached.label end in
    let n : c.stops.result * c.states-states.result ≡ c.args.product.now.network.stops * k = λ i. c.stops.ensures i * c.states-states.ensures i in
    let few : c.stops.result * c.states-states.result ≤ 66560
    = rows_few c.args.product.now.network.stops k (c.stops.result * c.states-states.result) c.args.product.now.network.counted.0.1 (g.R.Rule.lawful c.args.product.now.rule.now).few n in
    let cut = ap length c.first_rows.ensures ∙ length-take (c.stops.result * c.states-states.result) c.search.new.tables.labels.now in
    record {
      size = (omega arith, c.if-slip-reached.false);
      known = ap (λ (V : Table). V (place c.args.enquiry.target c.in-Some.reached.state)) same ∙ end.least.here;
      traced = (
        legs.0,
        subst₂ (λ (arcs : List Arc) (V : Table). Traced arcs V legs.0 (place c.args.enquiry.target c.in-Some.reached.state)) (sym c.arcs.ensures) (sym same) legs.1,
      );
    }

pub returns-clause-asked : goal.returns-clause-asked
returns-clause-asked g c =
    let k : ℕ = (g.R.Rule.automaton c.args.product.now.rule.now).states in
    let W : World = world_of g.B.Book.answer g.R.Rule.automaton c.args.product.now in
    let law : LawfulWorld W = world_is_lawful c.args.product.now.network.arcs.now (g.B.Book.services c.args.product.now.book.now) (g.B.Book.answer c.args.product.now.book.now) (g.R.Rule.automaton c.args.product.now.rule.now)
    (g.B.Book.lawful c.args.product.now.book.now) (g.R.Rule.lawful c.args.product.now.rule.now) in
    let T : Table = view k (take (c.args.product.now.network.stops * k) c.search.new.tables.labels.now) in
    let U : Table = view c.states-states.result c.first_rows.result.now in
    let same : U ≡ T = ap (λ rows. view c.states-states.result rows) c.first_rows.ensures ∙ (λ i. view (c.states-states.ensures i) (take (c.stops.ensures i * c.states-states.ensures i) c.search.new.tables.labels.now)) in
    let end : Stopped W (place c.args.enquiry.start 0) c.args.enquiry.second c.args.enquiry.target T c.in-Some.reached.state c.in-Some.reached.label
    = subst (λ (z : Option Reached). Ended W (place c.args.enquiry.start 0) c.args.enquiry.second c.args.enquiry.target T z) c.in-Some.is
    (ended c.args.product.now.network.stops (g.B.Book.services c.args.product.now.book.now) W c.args.enquiry c.args.tables.now.labels.now c.search.new.tables.labels.now c.args.tables.now.slots.now c.search.new.tables.slots.now
    c.search.result c.in_ok-reached.field-0 c.search.ensures.searched c.in_ok-reached.was) in
    let legs = legs_there W law c.args.enquiry T c.in-Some.reached.state c.in-Some.reached.label end in
    let rows : c.trace.new.slip ≡ legs.0 ++ drop (length legs.0) c.args.slip.now
    = c.trace.ensures legs.0
    (subst₂ (λ (arcs : List Arc) (V : Table). Traced arcs V legs.0 (place c.args.enquiry.target c.in-Some.reached.state)) (sym c.arcs.ensures) (sym same) legs.1) in
    asked c.args.product.now.network.stops (g.B.Book.services c.args.product.now.book.now) W c.args.enquiry c.args.tables.now.labels.now c.search.new.tables.labels.now c.args.tables.now.slots.now c.search.new.tables.slots.now
    c.search.result c.in_ok-reached.field-0 c.search.ensures.searched c.in_ok-reached.was c.args.slip.now c.trace.new.slip _
    (outcome_found W law c.args.enquiry T c.in-Some.reached.state c.in-Some.reached.label end legs.0 legs.1 c.args.slip.now c.trace.new.slip c.if-slip-reached.false rows)
    (omega arith, omega arith, omega arith)
