use Rattle.std.proofs.Common.{◌+◌, refl, ◌∙◌}
use Rattle.std.proofs.lemmas.Result.{err_from_is_err_and}
use Rattle.formats.specs.NetworkFile.{connection_count, connection, departed}
use Rattle.records.specs.Stream.{a_connection, listed, road_run}
use Rattle.records.proofs.Handing.{at_section, streamed_ok, streamed_err}
use Rattle.records.proofs.records.Records.connection.Goals as goal

pub returns-clause-says : goal.returns-clause-says
returns-clause-says c =
    let r = c.args.self.now in
    at_section r c.requires.among ∙ streamed_ok connection departed (a_connection c.args.service) (listed connection_count connection departed 0 a_connection (road_run r.stops r.walks r.timetables) (r.walks + r.timetables) c.args.lists) c.args.last c.args.left c.in_ok-connection.ensures refl c.requires.some

pub returns-in_err-connection-clause-says : goal.returns-in_err-connection-clause-says
returns-in_err-connection-clause-says c =
    let r = c.args.self.now in
    let p = err_from_is_err_and c.from_residual.result c.from_residual.ensures.1 in
    rw (p.1, p.2) (at_section r c.requires.among ∙ streamed_err connection departed (a_connection c.args.service) (listed connection_count connection departed 0 a_connection (road_run r.stops r.walks r.timetables) (r.walks + r.timetables) c.args.lists) c.args.last c.args.left c.in_err-connection.ensures refl c.requires.some)
