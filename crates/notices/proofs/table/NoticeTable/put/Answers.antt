use Rattle.std.proofs.Common.{arith}
use Rattle.std.proofs.lemmas.Grind.{common_steps}
use Rattle.notices.specs.Tables.{listed}
use Rattle.notices.proofs.Places.{put_over, put_last, put_nowhere}
use Rattle.notices.proofs.Rows.{put_over_row}
use Rattle.notices.proofs.table.NoticeTable.put.Goals as goal

pub returns-in-Some-clause-answer : goal.returns-in-Some-clause-answer
returns-in-Some-clause-answer c =
    let e = put_over c.args.notice (listed c.args.self.now) c.in-Some.at c.args.notice in grind (arith, common_steps, e)

pub returns-in-Some-clause-after : goal.returns-in-Some-clause-after
returns-in-Some-clause-after c =
    let t = c.args.self.now in
    let e = put_over c.args.notice (listed t) c.in-Some.at c.args.notice in
    let w = put_over_row c.args.notice t.items t.len c.in-Some.at t.few (omega (arith, t.few, t.whole)) in
    grind (arith, common_steps, e, w)

pub returns-in-None-clause-answer : goal.returns-in-None-clause-answer
returns-in-None-clause-answer c =
    let n = put_nowhere c.args.notice (listed c.args.self.now) in grind (arith, common_steps, n)

pub returns-in-None-clause-after : goal.returns-in-None-clause-after
returns-in-None-clause-after c =
    let n = put_nowhere c.args.notice (listed c.args.self.now) in grind (arith, common_steps, n)

pub returns-in-None-2-clause-answer : goal.returns-in-None-2-clause-answer
returns-in-None-2-clause-answer c =
    let e = put_last c.args.notice (listed c.args.self.now) in grind (arith, common_steps, e)

pub returns-in-None-2-clause-after : goal.returns-in-None-2-clause-after
returns-in-None-2-clause-after c =
    let e = put_last c.args.notice (listed c.args.self.now) in grind (arith, common_steps, e)
