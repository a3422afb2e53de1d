use Rattle.std.proofs.Common.{◌+◌, ◌/◌, subst, sym, ◌∙◌, set, arith}
use Rattle.wire.proofs.Writing.{Writing, begun, turned, ended}
use Rattle.wire.proofs.number.write.Goals as goal
use Rattle.wire.proofs.number.write.Goals.{then-rest-lt128, else-rest-lt128}

pub loop-group-init : goal.loop-group-init
loop-group-init c = begun c.args.n c.args.groups.now (omega arith)

pub loop-group-preserved : goal.loop-group-preserved
loop-group-preserved c =
    let long = c.loop-group.auto.groups ∙ c.requires.room in
    elim c.if-rest-lt128.branch [
      | then-rest-lt128 w ↦ subst (λ b. Writing c.args.n (set c.loop-group.groups c.loop-group.group-index b) (c.loop-group.group-index + 1) (c.loop-group.rest / 128)) (sym w.group-is) (ended c.loop-group.invariant (omega arith) long (omega arith))
      | else-rest-lt128 w ↦ subst (λ b. Writing c.args.n (set c.loop-group.groups c.loop-group.group-index b) (c.loop-group.group-index + 1) (c.loop-group.rest / 128)) (sym w.group-is) (turned c.loop-group.invariant (omega arith) long (omega arith))
    ]
