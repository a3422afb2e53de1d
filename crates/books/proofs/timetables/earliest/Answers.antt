use Rattle.std.proofs.Common.{◌-◌, ◌<◌, length, sym, ap, subst, arith}
use Rattle.model.specs.declared.tables.Connection.{Connection}
use Rattle.meanings.specs.Timetables.{least, arrivals, no_connection}
use Rattle.meanings.proofs.Timetables.{missed_to}
use Rattle.books.proofs.Departing.{none_caught}
use Rattle.books.proofs.timetables.earliest.Goals as goal

pub returns-then-branch-coming : goal.returns-then-branch-coming
returns-then-branch-coming c =
    let list = c.args.list.now in
    let coming = c.args.coming in
    let last = c.in_ok-last.ensures.item.3 in
    let missed = subst (λ (x : Connection). x.departure < coming) (last.1 no_connection) c.if-branch-coming.true in
    sym (ap (λ l. least (arrivals l)) (none_caught list coming (λ k h. missed_to list c.requires coming (length list - 1) (omega arith) missed k (omega arith))))
