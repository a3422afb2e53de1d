use Rattle.std.proofs.Common.{refl, arith}
use Rattle.std.proofs.lemmas.Result.{err_from_is_err_and}
use Rattle.wire.specs.Grammar.{number}
use Rattle.wire.proofs.Steps.{reading_fault, reading_end}
use Rattle.rulefile.proofs.Entering.{entered, bare}
use Rattle.rulefile.proofs.steps.read_steps.Goals as goal

pub loop-i-init : goal.loop-i-init
loop-i-init c = bare _ _ (omega arith) c.no_steps-next.ensures

pub returns-in_err-step : goal.returns-in_err-step
returns-in_err-step c =
    let p = err_from_is_err_and c.from_residual-in_err-step.result c.from_residual-in_err-step.ensures.1 in
    rw (p.1, p.2) (reading_fault number c.number.ensures c.in_ok-count.was c.loop-i.invariant.reading (omega arith) c.in_err-step.ensures refl)

pub loop-i-preserved : goal.loop-i-preserved
loop-i-preserved c = entered _ c.requires c.loop-i.invariant c.in_ok-step.ensures refl (omega arith)

pub returns : goal.returns
returns c = (c.loop-i.invariant.xs, reading_end number c.number.ensures c.in_ok-count.was _ c.loop-i.invariant.reading (omega arith) refl, c.loop-i.invariant.shows)
