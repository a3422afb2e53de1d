use Rattle.std.proofs.Common.{◌≡◌, sym, take_all, take_at, ◌∙◌, arith, lit<, length-set, length-take}
use Rattle.std.proofs.lemmas.List.{take_more_set}
use Rattle.std.proofs.lemmas.Result.{err_from_is_err_and}
use Rattle.model.specs.declared.refusal.Refusal.TheVariants.{RuleField}
use Rattle.wire.specs.Grammar.{ranged}
use Rattle.wire.proofs.Steps.{in_range, reading_start, reading_turn, reading_fault, reading_end}
use Rattle.rulefile.proofs.marks.read_marks.Goals as goal

pub loop-end-init : goal.loop-end-init
loop-end-init c =
    let range = in_range 1 16 RuleField (lit< tt) c.number_in.ensures c.in_ok-states.was in
    (omega (arith, c.told-ends, length-take c.in_ok-states.states c.args.ends.now), reading_start _ (omega arith))

pub returns-in_err-end : goal.returns-in_err-end
returns-in_err-end c =
    let p = err_from_is_err_and c.from_residual-in_err-end.result c.from_residual-in_err-end.ensures.1 in
    rw (p.1, p.2) (record { says = reading_fault (ranged 1 16 RuleField) c.number_in.ensures c.in_ok-states.was c.loop-end.invariant.1 (omega arith) c.read_mark.ensures c.in_err-end.was; small = tt })

pub loop-end-preserved : goal.loop-end-preserved
loop-end-preserved c =
    (simp length-set c.loop-end.invariant.0, reading_turn _ _ c.loop-end.invariant.1 c.read_mark.ensures c.in_ok-end.was (omega arith) (take_more_set c.loop-end.end-items c.loop-end.end-index _ (omega arith)))

pub returns : goal.returns
returns c =
    let range = in_range 1 16 RuleField (lit< tt) c.number_in.ensures c.in_ok-states.was in
    let all : c.loop-end.end-index ≡ c.in_ok-states.states = omega (arith, c.loop-end.auto.end-items) in
    record {
      says = reading_end (ranged 1 16 RuleField) c.number_in.ensures c.in_ok-states.was _ c.loop-end.invariant.1 (omega arith) (take_all c.loop-end.end-index c.loop-end.end-items (omega arith) ∙ sym (take_at c.loop-end.end-items _ c.in_ok-states.states c.loop-end.invariant.0));
      small = range;
    }
