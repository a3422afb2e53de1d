use Rattle.std.proofs.Common.{◌∙◌}
use Rattle.scripts.specs.Endings.{left_over}
use Rattle.scripts.proofs.Ending.{none_is_left_of_two}
use Rattle.scripts.proofs.tearing.run_out.Goals as goal

pub returns-clause-spent : goal.returns-clause-spent
returns-clause-spent g c = λ all.
    let none =
    none_is_left_of_two c.run.new.planners c.tear_up-first.new.planners c.tear_up-second.new.planners c.run.new.bulletins c.tear_up-first.result c.tear_up-second.result c.run.auto.bulletins (c.run.ensures.balanced all) c.tear_up-first.ensures c.tear_up-second.ensures in
    c.none_left.ensures ∙ (λ i. left_over (none.0 i) (none.1 i))
