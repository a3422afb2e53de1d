use Rattle.std.proofs.Common.{◌<◌, length, Option, ◌∙◌, arith}
use Rattle.std.proofs.lemmas.List.{length-set, get_or_default}
use Rattle.labels.specs.declared.label.Label.{Label}
use Rattle.engine.specs.declared.entry.Entry.{Entry}
use Rattle.scripts.specs.Scripts.{ground_of}
use Rattle.scripts.proofs.Scripting.{running_more, running_all, same_ground}
use Rattle.scripts.proofs.Tables.{tables_more}
use Rattle.scripts.proofs.running.run.Goals as goal

pub loop-step-preserved : goal.loop-step-preserved
loop-step-preserved g c =
    let n = c.loop-step.step-index in
    let lt : n < length c.loop-step.script = omega (arith, c.loop-step-test.true, c.loop-step.auto.script) in
    let inv = c.loop-step.invariant in
    let same = c.perform.ensures.same_tables in
    let on = ground_of c.args.network.stops c.args.network.arcs.now (length c.args.tables.now.labels.now) (length c.args.tables.now.slots.now) in (
      omega (arith, lt, length-set c.loop-step.script n c.perform.new.step),
      running_more g.B.Book.services g.B.Book.answer g.R.Rule.automaton (Option Label) Entry on c.args.planners.now c.args.bulletins.now c.args.script.now c.loop-step.planners c.perform.new.planners c.loop-step.bulletins c.perform.new.bulletins c.loop-step.script _ c.perform.new.step n lt c.loop-step.auto.planners c.loop-step.auto.bulletins (get_or_default c.loop-step.script n _ _ lt) inv.1 (same_ground c.args.network.stops c.args.network.arcs.now (length c.loop-step.tables.labels.now) (length c.args.tables.now.labels.now) (length c.loop-step.tables.slots.now) (length c.args.tables.now.slots.now) inv.4.2 inv.4.3 c.perform.ensures.steps),
      tables_more c.loop-step.script n c.perform.new.step c.args.tables.now.labels.now c.loop-step.tables.labels.now c.perform.new.tables.labels.now c.args.tables.now.slots.now c.loop-step.tables.slots.now c.perform.new.tables.slots.now lt inv.2 c.perform.ensures.tables,
      λ all. c.perform.ensures.balanced (inv.3 all),
      (same.0 ∙ inv.4.0, same.1 ∙ inv.4.1, same.2 ∙ inv.4.2, same.3 ∙ inv.4.3),
    )

pub returns-clause-steps : goal.returns-clause-steps
returns-clause-steps g c =
    running_all g.B.Book.services g.B.Book.answer g.R.Rule.automaton (Option Label) Entry (ground_of c.args.network.stops c.args.network.arcs.now (length c.args.tables.now.labels.now) (length c.args.tables.now.slots.now)) c.args.planners.now c.args.bulletins.now c.args.script.now c.loop-step.planners c.loop-step.bulletins c.loop-step.script c.loop-step.step-index c.loop-step-test.false c.loop-step.auto.script c.loop-step.invariant.1
