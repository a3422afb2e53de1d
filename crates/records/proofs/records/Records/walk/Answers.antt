use Rattle.std.proofs.Common.{refl, ◌∙◌}
use Rattle.std.proofs.lemmas.Result.{err_from_is_err_and}
use Rattle.formats.specs.NetworkFile.{walk}
use Rattle.records.specs.Stream.{a_walk, timetable_run}
use Rattle.records.proofs.Handing.{at_section, streamed_ok, streamed_err}
use Rattle.records.proofs.records.Records.walk.Goals as goal

pub returns-clause-says : goal.returns-clause-says
returns-clause-says c =
    let r = c.args.self.now in
    at_section r c.requires.among ∙ streamed_ok {S = Unit {0}} (λ _. walk) (λ _ _. tt) a_walk (timetable_run r.stops r.walks) tt c.args.left c.in_ok-seconds.ensures refl c.requires.some

pub returns-in_err-seconds-clause-says : goal.returns-in_err-seconds-clause-says
returns-in_err-seconds-clause-says c =
    let r = c.args.self.now in
    let p = err_from_is_err_and c.from_residual.result c.from_residual.ensures.1 in
    rw (p.1, p.2) (at_section r c.requires.among ∙ streamed_err {S = Unit {0}} (λ _. walk) (λ _ _. tt) a_walk (timetable_run r.stops r.walks) tt c.args.left c.in_err-seconds.ensures refl c.requires.some)
