use Rattle.std.proofs.Common.{arith}
use Rattle.std.proofs.lemmas.Grind.{common_steps}
use Rattle.std.proofs.lemmas.List.{get_or-take}
use Rattle.notices.specs.Blanks.{blank}
use Rattle.notices.specs.Tables.{listed}
use Rattle.notices.proofs.Places.{looked_up, looked_up_none, position_within}
use Rattle.notices.proofs.table.NoticeTable.find.Goals as goal

pub returns-in_err-at : goal.returns-in_err-at
returns-in_err-at c =
    let n = looked_up_none c.args.service (listed c.args.self.now) in grind (arith, common_steps, n)

pub returns : goal.returns
returns c =
    let t = c.args.self.now in
    let at = c.in_ok-at.at in
    let p = position_within c.args.service (listed t) at in
    let e = looked_up c.args.service (listed t) at blank in
    let g = get_or-take t.len t.items at blank in
    grind (arith, common_steps, p, e, g, t.few, t.whole)
