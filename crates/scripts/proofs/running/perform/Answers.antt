use Rattle.std.proofs.Common.{length, refl}
use Rattle.scripts.specs.Scripts.{ground_of}
use Rattle.scripts.proofs.Performing.{performed_ask, performed_change}
use Rattle.scripts.proofs.Tables.{asked_tables}
use Rattle.scripts.proofs.Balancing.{balanced_set}
use Rattle.scripts.proofs.running.perform.Goals as goal

pub returns-in-Ask-clause-steps : goal.returns-in-Ask-clause-steps
returns-in-Ask-clause-steps g c =
    performed_ask g.B.Book.services g.B.Book.answer g.R.Rule.automaton (ground_of c.args.network.stops c.args.network.arcs.now (length c.args.tables.now.labels.now) (length c.args.tables.now.slots.now)) c.args.planners.now c.args.bulletins.now c.args.step.now c.in-Ask.enquiry c.index-planners-at.result c.ask-result.result c.args.tables.now.labels.now c.ask-result.new.tables.labels.now c.args.tables.now.slots.now c.ask-result.new.tables.slots.now c.ask-result.new.slip c.in-Ask.is c.if-at-planners.false refl refl c.ask-result.ensures.planned.by_standing

pub returns-in-Ask-clause-tables : goal.returns-in-Ask-clause-tables
returns-in-Ask-clause-tables g c = asked_tables _ _ _ _ c.args.tables.now.labels.now c.ask-result.new.tables.labels.now c.args.tables.now.slots.now c.ask-result.new.tables.slots.now c.args.step.now.slip c.ask-result.new.slip c.ask-result.result c.ask-result.ensures.planned.by_standing

pub returns-in-Change-clause-steps : goal.returns-in-Change-clause-steps
returns-in-Change-clause-steps g c =
    performed_change g.B.Book.services g.B.Book.answer g.R.Rule.automaton (ground_of c.args.network.stops c.args.network.arcs.now (length c.args.tables.now.labels.now) (length c.args.tables.now.slots.now)) c.args.planners.now c.args.bulletins.now c.args.step.now c.in-Change.slot c.in-Change.change c.index-planners-at-in-Change.result c.change_at-step.new.planner c.change_at-step.new.bulletins c.change_at-step.result c.in-Change.is c.if-at-planners.false c.change_at-step.ensures.changed

pub returns-in-Change-clause-balanced : goal.returns-in-Change-clause-balanced
returns-in-Change-clause-balanced g c = balanced_set c.args.step.now.planner c.args.planners.now c.args.bulletins.now c.change_at-step.new.bulletins c.change_at-step.new.planner c.index-planners-at-in-Change.result c.if-at-planners.false c.change_at-step.ensures.balance
