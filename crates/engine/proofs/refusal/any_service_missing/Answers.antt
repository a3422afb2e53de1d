use Rattle.std.proofs.Common.{sym, ◌∙◌, arith}
use Rattle.model.specs.declared.network.Arc.{Arc}
use Rattle.engine.proofs.Unserved.{unserved_here, served_here, served_all}
use Rattle.engine.proofs.refusal.any_service_missing.Goals as goal

abbrev no_arc : Arc
no_arc = record { tail = 0; head = 0; label = 0; service = 0 }

pub returns-then-arc-count : goal.returns-then-arc-count
returns-then-arc-count c =
    unserved_here c.args.count c.args.arcs.now c.loop-arc.arc-index no_arc (omega arith) c.if-arc-count.true ∙ sym c.loop-arc.invariant

pub loop-arc-preserved : goal.loop-arc-preserved
loop-arc-preserved c =
    c.loop-arc.invariant ∙ served_here c.args.count c.args.arcs.now c.loop-arc.arc-index no_arc (omega arith) c.if-arc-count.false

pub returns : goal.returns
returns c = served_all c.args.count c.args.arcs.now c.loop-arc.arc-index (omega arith) ∙ sym c.loop-arc.invariant
