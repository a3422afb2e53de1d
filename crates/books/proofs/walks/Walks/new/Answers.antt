use Rattle.std.proofs.Common.{◌<◌, ◌≤◌, refl, rules, tests, arith}
use Rattle.std.proofs.lemmas.Iterator.{YieldsList-from_slice, IsFirst-from_position}
use Rattle.meanings.proofs.Sounds.{few_enough, first_long, walks_accepted}
use Rattle.books.proofs.walks.Walks.new.Goals as goal

pub returns-in-Some : goal.returns-in-Some
returns-in-Some c =
    let times = c.args.times.now in
    let first = IsFirst-from_position _ _ _ (λ y. 86400 < y) (λ y. y ≤ 86400) c.in-Some.ensures.ran (YieldsList-from_slice times cc) (λ x q k. search (rules, tests)) (λ x q k. search (rules, tests)) in
    record { made = first_long times c.in-Some.service (few_enough _ c.in_ok-test_count.ensures) first.0 (λ j l. first.2 j 0 (omega arith) l) (first.1 0) }

pub returns-in-None : goal.returns-in-None
returns-in-None c =
    let times = c.args.times.now in
    let none = IsFirst-from_position _ _ _ (λ y. 86400 < y) (λ y. y ≤ 86400) c.in-None.ensures.ran (YieldsList-from_slice times cc) (λ x q k. search (rules, tests)) (λ x q k. search (rules, tests)) in
    record { made = (refl, walks_accepted times (record { few = few_enough _ c.in_ok-test_count.ensures; walkable = λ k l. none k 0 (omega arith) l })) }
