use Rattle.std.proofs.Common.{refl, ◌∙◌}
use Rattle.std.proofs.lemmas.Result.{err_from_is_err_and}
use Rattle.formats.specs.NetworkFile.{stop, walk}
use Rattle.records.specs.Stream.{a_stop, a_walk, streamed, walk_run, timetable_run}
use Rattle.records.proofs.Handing.{at_section, streamed_none, told_ok, told_err}
use Rattle.records.proofs.records.Records.walk_run.Goals as goal

pub returns-in_err-count-clause-says : goal.returns-in_err-count-clause-says
returns-in_err-count-clause-says c =
    let r = c.args.self.now in
    let p = err_from_is_err_and c.from_residual.result c.from_residual.ensures.1 in
    rw (p.1, p.2) (at_section r c.requires ∙ streamed_none {S = Unit {0}} (λ _. stop) (λ _ _. tt) a_stop (walk_run r.stops) tt 0 _ _ refl ∙ told_err (λ bs n q. streamed {S = Unit {0}} (λ _. walk) (λ _ _. tt) a_walk (timetable_run r.stops n) tt n bs q) c.number_in.ensures c.in_err-count.was)

pub returns-clause-says : goal.returns-clause-says
returns-clause-says c =
    let r = c.args.self.now in
    at_section r c.requires ∙ streamed_none {S = Unit {0}} (λ _. stop) (λ _ _. tt) a_stop (walk_run r.stops) tt 0 _ _ refl ∙ told_ok (λ bs n q. streamed {S = Unit {0}} (λ _. walk) (λ _ _. tt) a_walk (timetable_run r.stops n) tt n bs q) c.number_in.ensures c.in_ok-count.was
