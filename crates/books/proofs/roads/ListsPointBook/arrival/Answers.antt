use Rattle.std.proofs.Common.{sym}
use Rattle.meanings.proofs.Lawful.{roads_lawful}
use Rattle.meanings.proofs.Sounds.{sound_roads}
use Rattle.books.proofs.roads.ListsPointBook.arrival.Goals as goal

pub returns-then-coming-gt-HORIZON : goal.returns-then-coming-gt-HORIZON
returns-then-coming-gt-HORIZON c =
    let b = c.args.self.now in
    sym (((roads_lawful b.rows.now b.spans.now b.sound).fair c.args.service).late c.args.coming c.if-coming-gt-HORIZON.true)

pub ridden-requires-clause-timely : goal.ridden-requires-clause-timely
ridden-requires-clause-timely c =
    let b = c.args.self.now in
    let list = c.in_ok-points.ensures in
    rw list.1 ((sound_roads b.rows.now b.spans.now b.sound).timely c.args.service list.0)

pub ridden-requires-clause-rising : goal.ridden-requires-clause-rising
ridden-requires-clause-rising c =
    let b = c.args.self.now in
    let list = c.in_ok-points.ensures in
    rw list.1 ((sound_roads b.rows.now b.spans.now b.sound).rising c.args.service list.0)

pub ridden-requires-clause-steady : goal.ridden-requires-clause-steady
ridden-requires-clause-steady c =
    let b = c.args.self.now in
    let list = c.in_ok-points.ensures in
    rw list.1 ((sound_roads b.rows.now b.spans.now b.sound).steady c.args.service list.0)
