use Rattle.std.proofs.Common.{arith}
use Rattle.automata.proofs.TableLaws.{tabled_same}
use Rattle.rules.proofs.Filled.{closed_filled}
use Rattle.rules.proofs.table.TableRule.new.Goals as goal

pub invariant_of-result : goal.invariant_of-result
invariant_of-result c = record { some = omega arith; few = omega arith; closed = closed_filled c.args.states 96 c.args.next.now _ c.in_ok-steps_within.ensures c.put_front.ensures.front c.put_front.ensures.rest }

pub returns : goal.returns
returns c =
    let rows = c.if-next-states.false in
    let marks = c.if-ends-states.false in (
      record { states = (omega arith, omega arith); rows = rows; ends = marks; closed = c.in_ok-steps_within.ensures },
      tabled_same c.args.states _ c.args.next.now _ c.args.ends.now (λ i lt. c.put_front.ensures.front i _ (omega arith)) (λ i lt. c.put_front-2.ensures.front i _ (omega arith)),
    )
