use Rattle.std.proofs.Common.{◌+◌, None, ◌∙◌, arith}
use Rattle.std.proofs.lemmas.Result.{err_from_is_err_and}
use Rattle.formats.specs.NetworkFile.{connection_count, connection, departed, point_count, point, passed}
use Rattle.records.specs.Stream.{a_connection, a_point, listed, road_run, arc_run}
use Rattle.records.proofs.Handing.{at_section, listed_none, listed_ok, listed_err, told_ok, told_err}
use Rattle.records.proofs.records.Records.timetable.Goals as goal

pub returns-in_err-count-clause-says : goal.returns-in_err-count-clause-says
returns-in_err-count-clause-says c =
    let r = c.args.self.now in
    let p = err_from_is_err_and c.from_residual.result c.from_residual.ensures.1 in
    rw (p.1, p.2) (at_section r c.requires ∙ listed_none connection_count connection departed 0 a_connection (road_run r.stops r.walks r.timetables) (r.walks + r.timetables) c.args.left _ _ (omega arith) ∙ told_err (λ bs n q. listed point_count point passed None a_point (arc_run r.stops (r.walks + r.timetables + n)) (r.walks + r.timetables + n) n bs q) c.number_in.ensures c.in_err-count.was)

pub returns-in_err-count-2-clause-says : goal.returns-in_err-count-2-clause-says
returns-in_err-count-2-clause-says c =
    let r = c.args.self.now in
    let p = err_from_is_err_and c.from_residual-in_err-count-2.result c.from_residual-in_err-count-2.ensures.1 in
    rw (p.1, p.2) (at_section r c.requires ∙ listed_err connection_count connection departed 0 a_connection (road_run r.stops r.walks r.timetables) (r.walks + r.timetables) c.args.left c.number_in-else-left-eq0.ensures c.in_err-count-2.was (omega arith))

pub returns-in_ok-count-clause-says : goal.returns-in_ok-count-clause-says
returns-in_ok-count-clause-says c =
    let r = c.args.self.now in
    at_section r c.requires ∙ listed_none connection_count connection departed 0 a_connection (road_run r.stops r.walks r.timetables) (r.walks + r.timetables) c.args.left _ _ (omega arith) ∙ told_ok (λ bs n q. listed point_count point passed None a_point (arc_run r.stops (r.walks + r.timetables + n)) (r.walks + r.timetables + n) n bs q) c.number_in.ensures c.in_ok-count.was

pub returns-in_ok-count-2-clause-says : goal.returns-in_ok-count-2-clause-says
returns-in_ok-count-2-clause-says c =
    let r = c.args.self.now in
    rw c.saturating_sub.ensures (at_section r c.requires ∙ listed_ok connection_count connection departed 0 a_connection (road_run r.stops r.walks r.timetables) (r.walks + r.timetables) c.args.left c.number_in-else-left-eq0.ensures c.in_ok-count-2.was (omega arith))
