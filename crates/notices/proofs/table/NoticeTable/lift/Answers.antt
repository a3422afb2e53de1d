use Rattle.std.proofs.Common.{arith}
use Rattle.std.proofs.lemmas.Grind.{common_steps}
use Rattle.notices.specs.Tables.{listed}
use Rattle.notices.proofs.Places.{lift_one, lift_none}
use Rattle.notices.proofs.table.NoticeTable.lift.Goals as goal

pub returns-in_err-at-clause-answer : goal.returns-in_err-at-clause-answer
returns-in_err-at-clause-answer c =
    let e = lift_none c.args.service (listed c.args.self.now) in grind (arith, common_steps, e)

pub returns-in_err-at-clause-after : goal.returns-in_err-at-clause-after
returns-in_err-at-clause-after c =
    let e = lift_none c.args.service (listed c.args.self.now) in grind (arith, common_steps, e)

pub returns-clause-answer : goal.returns-clause-answer
returns-clause-answer c =
    let e = lift_one c.args.service (listed c.args.self.now) c.in_ok-at.at in grind (arith, common_steps, e)

pub returns-clause-after : goal.returns-clause-after
returns-clause-after c =
    let e = lift_one c.args.service (listed c.args.self.now) c.in_ok-at.at in grind (arith, common_steps, e)
