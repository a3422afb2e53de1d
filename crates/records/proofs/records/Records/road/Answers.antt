use Rattle.std.proofs.Common.{◌+◌, None, ◌∙◌, arith}
use Rattle.std.proofs.lemmas.Result.{err_from_is_err_and}
use Rattle.formats.specs.NetworkFile.{point_count, point, passed, arc, left}
use Rattle.records.specs.Stream.{a_point, an_arc, streamed, arc_run, ended}
use Rattle.records.proofs.Handing.{at_section, listed_none, listed_ok, listed_err, told_ok, told_err}
use Rattle.records.proofs.records.Records.road.Goals as goal

pub returns-in_err-count-clause-says : goal.returns-in_err-count-clause-says
returns-in_err-count-clause-says c =
    let r = c.args.self.now in
    let p = err_from_is_err_and c.from_residual.result c.from_residual.ensures.1 in
    rw (p.1, p.2) (at_section r c.requires ∙ listed_none point_count point passed None a_point (arc_run r.stops (r.walks + r.timetables + r.roads)) (r.walks + r.timetables + r.roads) c.args.left _ _ (omega arith) ∙ told_err (λ bs n q. streamed (arc r.stops (r.walks + r.timetables + r.roads)) left an_arc ended 0 n bs q) c.number_in.ensures c.in_err-count.was)

pub returns-in_err-count-2-clause-says : goal.returns-in_err-count-2-clause-says
returns-in_err-count-2-clause-says c =
    let r = c.args.self.now in
    let p = err_from_is_err_and c.from_residual-in_err-count-2.result c.from_residual-in_err-count-2.ensures.1 in
    rw (p.1, p.2) (at_section r c.requires ∙ listed_err point_count point passed None a_point (arc_run r.stops (r.walks + r.timetables + r.roads)) (r.walks + r.timetables + r.roads) c.args.left c.number_in-else-left-eq0.ensures c.in_err-count-2.was (omega arith))

pub returns-in_ok-count-clause-says : goal.returns-in_ok-count-clause-says
returns-in_ok-count-clause-says c =
    let r = c.args.self.now in
    at_section r c.requires ∙ listed_none point_count point passed None a_point (arc_run r.stops (r.walks + r.timetables + r.roads)) (r.walks + r.timetables + r.roads) c.args.left _ _ (omega arith) ∙ told_ok (λ bs n q. streamed (arc r.stops (r.walks + r.timetables + r.roads)) left an_arc ended 0 n bs q) c.number_in.ensures c.in_ok-count.was

pub returns-in_ok-count-2-clause-says : goal.returns-in_ok-count-2-clause-says
returns-in_ok-count-2-clause-says c =
    let r = c.args.self.now in
    rw c.saturating_sub.ensures (at_section r c.requires ∙ listed_ok point_count point passed None a_point (arc_run r.stops (r.walks + r.timetables + r.roads)) (r.walks + r.timetables + r.roads) c.args.left c.number_in-else-left-eq0.ensures c.in_ok-count-2.was (omega arith))
