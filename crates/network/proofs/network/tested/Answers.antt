use Rattle.std.proofs.Common.{arith}
use Rattle.std.proofs.lemmas.Bool.Decides.{not_from_Decides}
use Rattle.network.proofs.Passing.{none, passed_none, passed_more, passed_all, field_fault, tail_fault}
use Rattle.network.proofs.network.tested.Goals as goal

pub loop-i-init : goal.loop-i-init
loop-i-init c = passed_none _ _

pub returns-then-not-within : goal.returns-then-not-within
returns-then-not-within c = field_fault c.args.stops c.args.arcs.now _ _ none c.loop-i-test.true c.loop-i.invariant ((omega arith, omega arith), omega arith) (not_from_Decides _ c.within.ensures c.if-not-within.true)

pub returns-then-arc-low : goal.returns-then-arc-low
returns-then-arc-low c = tail_fault _ _ _ _ _ c.loop-i-test.true c.loop-i.invariant ((omega arith, omega arith), omega arith) (c.within.ensures.0 c.if-not-within.false) c.if-arc-low.true

pub loop-i-preserved : goal.loop-i-preserved
loop-i-preserved c = passed_more _ _ _ _ _ c.loop-i-test.true c.loop-i.invariant (c.within.ensures.0 c.if-not-within.false) c.if-arc-low.false

pub returns : goal.returns
returns c = passed_all _ _ _ _ ((omega arith, omega arith), omega arith) c.loop-i-test.false c.loop-i.invariant
