use Rattle.std.proofs.Common.{◌+◌, refl, ◌∙◌}
use Rattle.std.proofs.lemmas.Result.{err_from_is_err_and}
use Rattle.formats.specs.NetworkFile.{arc, left}
use Rattle.records.specs.Stream.{an_arc, ended}
use Rattle.records.proofs.Handing.{at_section, streamed_ok, streamed_err}
use Rattle.records.proofs.records.Records.arc.Goals as goal

pub returns-clause-says : goal.returns-clause-says
returns-clause-says c =
    let r = c.args.self.now in
    at_section r c.requires.among ∙ streamed_ok (arc r.stops (r.walks + r.timetables + r.roads)) left an_arc ended c.args.last c.args.left c.in_ok-arc.ensures refl c.requires.some

pub returns-in_err-arc-clause-says : goal.returns-in_err-arc-clause-says
returns-in_err-arc-clause-says c =
    let r = c.args.self.now in
    let p = err_from_is_err_and c.from_residual.result c.from_residual.ensures.1 in
    rw (p.1, p.2) (at_section r c.requires.among ∙ streamed_err (arc r.stops (r.walks + r.timetables + r.roads)) left an_arc ended c.args.last c.args.left c.in_err-arc.ensures refl c.requires.some)
