use Rattle.std.proofs.Common.{◌≡◌, Some, Option, sym, subst, arith}
use Rattle.std.proofs.lemmas.Grind.{common_steps}
use Rattle.planner.specs.declared.planner.Bulletin.{Bulletin}
use Rattle.scripts.specs.Scripts.{back}
use Rattle.scripts.specs.Balances.{ToreUpAt}
use Rattle.scripts.proofs.Ending.{torn}
use Rattle.scripts.proofs.tearing.tear_up_at.Goals as goal

pub returns : goal.returns
returns g c =
    let b = c.in_ok-held.field-0 in
    let p = c.args.planner.now in
    let q = c.tear_up.new.self in
    let left = c.in_ok-bulletin.field-0.bulletin in
    let came_back : back c.tear_up.result ≡ Some left = grind (arith, common_steps) in
    let held_is : c.args.held ≡ Some b = grind (arith, common_steps) in
    subst (λ (o : Option Bulletin). ToreUpAt p q o (Some left)) (sym held_is)
    (subst (λ (o : Option Bulletin). ToreUpAt p q (Some b) o) came_back (torn g.B.Book.services p q b c.tear_up.result c.tear_up.ensures.answer c.tear_up.ensures.made))
