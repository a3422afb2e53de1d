use Rattle.std.proofs.Common.{arith, length}
use Rattle.std.proofs.Math.Nat.{mul-le-mul_left}
use Rattle.std.proofs.lemmas.Result.{err_from_is_err_and}
use Rattle.writer.proofs.Emitting.{none_of, emits_less, emits_then, emitting_start, emitting_turn, emitting_fault, emitting_end, in_limits}
use Rattle.writer.proofs.list.emit_list.Goals as goal

pub loop-item-init : goal.loop-item-init
loop-item-init g c = emitting_start _

pub returns-in_err-before : goal.returns-in_err-before
returns-in_err-before g c =
    let p = err_from_is_err_and c.from_residual-in_err-before.result c.from_residual-in_err-before.ensures.1 in
    let n = in_limits c.args.limits.low c.args.limits.high c.args.limits.refusal (length c.args.list.now) (none_of _ c.number_in.ensures c.in_ok-number_in.was) in
    rw (p.1, p.2) (emits_then _ c.number_in.ensures c.in_ok-number_in.was
    (emitting_fault _ _ _ _ c.loop-item.invariant c.emit.ensures c.in_err-before.was (omega arith) c.item-item.is (mul-le-mul_left (g.K.Listed.most c.args.kind.now) (omega arith))))

pub loop-item-preserved : goal.loop-item-preserved
loop-item-preserved g c = emitting_turn _ _ c.loop-item.invariant c.emit.ensures c.in_ok-before.was (omega arith) c.item-item.is

pub returns : goal.returns
returns g c =
    let n = in_limits c.args.limits.low c.args.limits.high c.args.limits.refusal (length c.args.list.now) (none_of _ c.number_in.ensures c.in_ok-number_in.was) in
    emits_then _ c.number_in.ensures c.in_ok-number_in.was
    (emits_less _ (mul-le-mul_left (g.K.Listed.most c.args.kind.now) (omega arith)) (emitting_end tt c.loop-item.invariant c.loop-item-test.false))
