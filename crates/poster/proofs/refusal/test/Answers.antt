use Rattle.std.proofs.Common.{◌<◌, ◌≤◌, arith}
use Rattle.std.proofs.lemmas.Bool.{lt-leb, le-ltb, lt-ltb}
use Rattle.network.proofs.Ranges.{leaving_numbers}
use Rattle.poster.specs.Posted.{leaving_count}
use Rattle.poster.proofs.Leaving.{leaving_counted}
use Rattle.poster.proofs.refusal.test.Goals as goal

pub returns-then-slots-len : goal.returns-then-slots-len
returns-then-slots-len c =
    let n = leaving_counted c.args.network.arcs.now c.args.stop c.numbers.result (leaving_numbers c.args.network.arcs.now c.args.stop c.leaving.result _ c.numbers.ensures c.leaving.ensures) in
    let short : c.args.slots < leaving_count c.args.network.arcs.now c.args.stop = omega (arith, c.len.ensures.value) in
    let stop : c.args.stop < c.args.network.stops = omega arith in
    rw (lt-leb c.args.network.stops c.args.stop stop, le-ltb 172800 c.args.second c.if-second-gt-HORIZON.false, lt-ltb c.args.slots (leaving_count c.args.network.arcs.now c.args.stop) short)

pub returns : goal.returns
returns c =
    let n = leaving_counted c.args.network.arcs.now c.args.stop c.numbers.result (leaving_numbers c.args.network.arcs.now c.args.stop c.leaving.result _ c.numbers.ensures c.leaving.ensures) in
    let enough : leaving_count c.args.network.arcs.now c.args.stop ≤ c.args.slots = omega (arith, c.len.ensures.value) in
    let stop : c.args.stop < c.args.network.stops = omega arith in
    rw (lt-leb c.args.network.stops c.args.stop stop, le-ltb 172800 c.args.second c.if-second-gt-HORIZON.false, le-ltb c.args.slots (leaving_count c.args.network.arcs.now c.args.stop) enough)
