use Rattle.std.proofs.Common.{◌+◌, ◌*◌, ◌<◌, sym, ◌∙◌, arith}
use Rattle.automata.proofs.PairLaws.{both_below}
use Rattle.rules.proofs.pair.PairRule.next.Given.{Over}
use Rattle.rules.proofs.pair.PairRule.next.Goals as goal

small : (g : Over) (c : goal.In_ok-second g) → c.in_ok-first.first * c.in_ok-width.width + c.in_ok-second.second < 64
small g c =
    let i = (g.A.Rule.lawful c.args.self.now.first).closed _ _ _ (sym c.next.ensures ∙ c.in_ok-first.was) in
    let j = (g.B.Rule.lawful c.args.self.now.second).closed _ _ _ (sym c.next-2.ensures ∙ c.in_ok-second.was) in
    let il : c.in_ok-first.first < (g.A.Rule.automaton c.args.self.now.first).states = omega arith in
    let jl : c.in_ok-second.second < c.in_ok-width.width = omega arith in
    both_below _ _ _ _ il jl (rw c.in_ok-width.ensures.1 c.in_ok-width.ensures.0)

pub overflow_mul-result : goal.overflow_mul-result
overflow_mul-result g c = let h = small g c in omega arith

pub overflow_add-result : goal.overflow_add-result
overflow_add-result g c = let h = small g c in omega arith
