use Rattle.std.proofs.Common.{sym, ◌∙◌}
use Rattle.meanings.proofs.Roads.{started, unstarted, timely_after, next, after}
use Rattle.books.proofs.roads.ridden.Goals as goal

pub returns-then-coming-first : goal.returns-then-coming-first
returns-then-coming-first c = sym (unstarted _ _ _ c.in-Some.ensures.cases.0 c.requires.rising c.requires.steady c.args.coming c.if-coming-first.true)

pub loop-next-init : goal.loop-next-init
loop-next-init c =
    let parted = c.in-Some.ensures.cases.0 in
    let start = started _ _ _ parted c.requires.rising c.requires.steady c.args.coming c.if-coming-first.false in
    (c.if-coming-first.false, (timely_after _ _ _ parted c.requires.timely).0, start.0, start.1)

pub between-requires : goal.between-requires
between-requires c =
    let on = next c.in-Some.more.now c.loop-next.last.now c.loop-next.next-index c.loop-next-test.true c.loop-next.invariant.2 in
    (c.loop-next.invariant.0, (c.if-coming-next.true, (on.1, (timely_after _ _ _ c.in-Some.ensures.cases.0 c.requires.timely).1 c.loop-next.next-index c.loop-next-test.true)))

pub loop-next-preserved : goal.loop-next-preserved
loop-next-preserved c =
    let on = next c.in-Some.more.now c.loop-next.last.now c.loop-next.next-index c.loop-next-test.true c.loop-next.invariant.2 in (
      c.if-coming-next.false,
      (timely_after _ _ _ c.in-Some.ensures.cases.0 c.requires.timely).1 c.loop-next.next-index c.loop-next-test.true,
      on.2,
      c.loop-next.invariant.3 ∙ after c.in-Some.more.now c.loop-next.last.now c.loop-next.next-index c.loop-next-test.true c.args.coming c.if-coming-next.false,
    )
