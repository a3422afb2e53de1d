-- Entries of settled places are passed over; the first of another is the foremost row's.
use Rattle.std.proofs.Common.{◌≡◌, ◌+◌, ◌≤◌, Some, None, Bool, true, false, not, length, sym, refl, ◌∙◌, subst, arith}
use Rattle.queue.specs.Contents.{contents}
use Rattle.labels.specs.Rows.{Rows}
use Rattle.engine.specs.Agenda.{NextDue}
use Rattle.engine.proofs.Agendas.{taken_known, taken_within, passed, foremost, settled_next, agenda_done}
use Rattle.engine.proofs.frontier.Frontier.next.Goals as goal

not_true : (b : Bool) → not b ≡ true → b ≡ false
not_true true e = sym e
not_true false e = refl

not_false : (b : Bool) → not b ≡ false → b ≡ true
not_false true e = refl
not_false false e = sym e

pub bounds : goal.bounds
bounds c =
    taken_within c.loop-entry.self.labels.now c.loop-entry.self.queue.now c.pop.new.self c.in-Some.entry c.loop-entry.invariant.0 c.in-Some.ensures.popped

pub bounds-self-entry : goal.bounds-self-entry
bounds-self-entry c =
    taken_within c.loop-entry.self.labels.now c.loop-entry.self.queue.now c.pop.new.self c.in-Some.entry c.loop-entry.invariant.0 c.in-Some.ensures.popped

pub unreachable-requires : goal.unreachable-requires
unreachable-requires c =
    let k = taken_known c.loop-entry.self.labels.now c.loop-entry.self.queue.now c.pop.new.self c.in-Some.entry c.loop-entry.invariant.0 c.in-Some.ensures.popped in
    c.in_default-labels.not-Some k.label k.here

pub returns-then-not-label-clause-next : goal.returns-then-not-label-clause-next
returns-then-not-label-clause-next c =
    let unsettled = not_true c.in-Some-labels.label.settled c.if-not-label.true in
    let within = taken_within c.loop-entry.self.labels.now c.loop-entry.self.queue.now c.pop.new.self c.in-Some.entry c.loop-entry.invariant.0 c.in-Some.ensures.popped in
    let n : length (contents c.pop.new.self) + 1 ≡ length (contents c.loop-entry.self.queue.now) = c.in-Some.ensures.popped.fewer in
    let m : length (contents c.loop-entry.self.queue.now) ≤ length (contents c.args.self.now.queue.now) = c.loop-entry.invariant.1 in
    subst (λ (rows : Rows). NextDue rows c.args.self.now.queue.now c.pop.new.self (Some (c.in-Some.entry.place, c.in-Some-labels.label))) c.loop-entry.invariant.2
    (record {
      foremost = foremost c.loop-entry.self.labels.now c.loop-entry.self.queue.now c.pop.new.self c.in-Some.entry c.loop-entry.invariant.0 c.in-Some.ensures.popped
          c.in-Some-labels.label c.in-Some-labels.is unsettled within c.in-Some.ensures.least;
      agenda = settled_next c.loop-entry.self.labels.now c.loop-entry.self.queue.now c.pop.new.self c.in-Some.entry c.loop-entry.invariant.0 c.in-Some.ensures.popped
          c.in-Some-labels.label c.in-Some-labels.is unsettled within;
      fewer = omega arith;
      room = c.pop.ensures.room ∙ c.loop-entry.invariant.3.room;
    })

pub loop-entry-preserved : goal.loop-entry-preserved
loop-entry-preserved c =
    let n : length (contents c.pop.new.self) + 1 ≡ length (contents c.loop-entry.self.queue.now) = c.in-Some.ensures.popped.fewer in
    let m : length (contents c.loop-entry.self.queue.now) ≤ length (contents c.args.self.now.queue.now) = c.loop-entry.invariant.1 in
    let kept = c.loop-entry.invariant.3 in (
      passed c.loop-entry.self.labels.now c.loop-entry.self.queue.now c.pop.new.self c.in-Some.entry c.loop-entry.invariant.0 c.in-Some.ensures.popped
          c.in-Some-labels.label c.in-Some-labels.is (not_false c.in-Some-labels.label.settled c.if-not-label.false),
      omega arith,
      c.loop-entry.invariant.2,
      record { rows = kept.rows; size = kept.size; room = c.pop.ensures.room ∙ kept.room },
    )

pub returns-clause-next : goal.returns-clause-next
returns-clause-next c =
    subst (λ (rows : Rows). NextDue rows c.args.self.now.queue.now c.pop.new.self None) c.loop-entry.invariant.2
    (agenda_done c.loop-entry.self.labels.now c.loop-entry.self.queue.now c.loop-entry.invariant.0 c.in_default.ensures.popped.0)
