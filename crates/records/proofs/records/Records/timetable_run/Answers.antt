use Rattle.std.proofs.Common.{◌+◌, refl, ◌∙◌}
use Rattle.std.proofs.lemmas.Result.{err_from_is_err_and}
use Rattle.formats.specs.NetworkFile.{walk, connection_count, connection, departed}
use Rattle.records.specs.Stream.{a_walk, a_connection, listed, timetable_run, road_run}
use Rattle.records.proofs.Handing.{at_section, streamed_none, told_ok, told_err}
use Rattle.records.proofs.records.Records.timetable_run.Goals as goal

pub returns-in_err-count-clause-says : goal.returns-in_err-count-clause-says
returns-in_err-count-clause-says c =
    let r = c.args.self.now in
    let p = err_from_is_err_and c.from_residual.result c.from_residual.ensures.1 in
    rw (p.1, p.2) (at_section r c.requires ∙ streamed_none {S = Unit {0}} (λ _. walk) (λ _ _. tt) a_walk (timetable_run r.stops r.walks) tt 0 _ _ refl ∙ told_err (λ bs n q. listed connection_count connection departed 0 a_connection (road_run r.stops r.walks n) (r.walks + n) n bs q) c.number_in.ensures c.in_err-count.was)

pub returns-clause-says : goal.returns-clause-says
returns-clause-says c =
    let r = c.args.self.now in
    at_section r c.requires ∙ streamed_none {S = Unit {0}} (λ _. walk) (λ _ _. tt) a_walk (timetable_run r.stops r.walks) tt 0 _ _ refl ∙ told_ok (λ bs n q. listed connection_count connection departed 0 a_connection (road_run r.stops r.walks n) (r.walks + n) n bs q) c.number_in.ensures c.in_ok-count.was
