use Rattle.std.proofs.Common.{◌+◌, None, refl, ◌∙◌}
use Rattle.std.proofs.lemmas.Result.{err_from_is_err_and}
use Rattle.formats.specs.NetworkFile.{point_count, point, passed}
use Rattle.records.specs.Stream.{a_point, listed, arc_run}
use Rattle.records.proofs.Handing.{at_section, streamed_ok, streamed_err}
use Rattle.records.proofs.records.Records.point.Goals as goal

pub returns-clause-says : goal.returns-clause-says
returns-clause-says c =
    let r = c.args.self.now in
    at_section r c.requires.among ∙ streamed_ok point passed (a_point c.args.service) (listed point_count point passed None a_point (arc_run r.stops (r.walks + r.timetables + r.roads)) (r.walks + r.timetables + r.roads) c.args.lists) c.args.before c.args.left c.in_ok-point.ensures refl c.requires.some

pub returns-in_err-point-clause-says : goal.returns-in_err-point-clause-says
returns-in_err-point-clause-says c =
    let r = c.args.self.now in
    let p = err_from_is_err_and c.from_residual.result c.from_residual.ensures.1 in
    rw (p.1, p.2) (at_section r c.requires.among ∙ streamed_err point passed (a_point c.args.service) (listed point_count point passed None a_point (arc_run r.stops (r.walks + r.timetables + r.roads)) (r.walks + r.timetables + r.roads) c.args.lists) c.args.before c.args.left c.in_err-point.ensures refl c.requires.some)
