-- Each turn walks one leg back and writes it; where no leg is left the list is whole.
use Rattle.std.proofs.Common.{◌≡◌, suc, arith}
use Rattle.model.specs.Trips.{place}
use Rattle.labels.specs.Rows.{view}
use Rattle.labels.proofs.Tracing.{walk_begin, walk_back, walk_on, walk_end, fewer, row_there}
use Rattle.search.proofs.trace.trace.Goals as goal

pub loop-last-init : goal.loop-last-init
loop-last-init c =
    walk_begin c.args.arcs.now (view c.args.states c.args.labels.now) (place c.args.target c.args.reached.state) c.args.slip.now c.args.reached.label
    c.requires.known c.requires.size.1 c.requires.traced.0 c.requires.traced.1

pub before-earlier-requires : goal.before-earlier-requires
before-earlier-requires c =
    record {
      size = c.requires.size.0;
      known = walk_back c.args.arcs.now (view c.args.states c.args.labels.now) (place c.args.target c.args.reached.state) c.args.slip.now c.loop-last.slip c.loop-last.last
          c.loop-last.invariant c.loop-last-test.true;
    }

pub bounds-slip-earlier : goal.bounds-slip-earlier
bounds-slip-earlier c =
    row_there c.args.arcs.now (view c.args.states c.args.labels.now) (place c.args.target c.args.reached.state) c.args.slip.now c.loop-last.slip c.loop-last.last
    c.loop-last.invariant c.before-earlier.result c.loop-last-test.true c.before-earlier.ensures

pub loop-last-smaller : goal.loop-last-smaller
loop-last-smaller c =
    let y : c.loop-last.last.legs ≡ suc c.before-earlier.result.legs
    = fewer c.args.arcs.now (view c.args.states c.args.labels.now) (place c.args.target c.args.reached.state) c.args.slip.now c.loop-last.slip c.loop-last.last
    c.loop-last.invariant c.before-earlier.result c.loop-last-test.true c.before-earlier.ensures in
    omega arith

pub loop-last-preserved : goal.loop-last-preserved
loop-last-preserved c =
    walk_on c.args.arcs.now (view c.args.states c.args.labels.now) (place c.args.target c.args.reached.state) c.args.slip.now c.loop-last.slip c.loop-last.last
    c.loop-last.invariant c.before-earlier.result c.loop-last-test.true c.before-earlier.ensures

pub returns : goal.returns
returns c =
    let z : c.loop-last.last.legs ≡ 0 = omega arith in
    walk_end c.args.arcs.now (view c.args.states c.args.labels.now) (place c.args.target c.args.reached.state) c.args.slip.now c.loop-last.slip c.loop-last.last
    c.loop-last.invariant z
