use Rattle.std.proofs.Common.{◌≤◌, length, Option}
use Rattle.labels.specs.declared.label.Label.{Label}
use Rattle.engine.specs.declared.entry.Entry.{Entry}
use Rattle.scripts.specs.Scripts.{ground_of, SameTables, TablesKept}
use Rattle.scripts.specs.Balances.{Balanced}
use Rattle.scripts.proofs.Scripting.{Running}
use Rattle.scripts.proofs.running.run.Given as goal

abbrev pub invariant-loop-step : goal.invariant-loop-step
invariant-loop-step g l =
    (l.step-index ≤ length l.script)
    × Running g.B.Book.services g.B.Book.answer g.R.Rule.automaton (Option Label) Entry (ground_of l.network.stops l.network.arcs.now (length l.initial.tables.labels.now) (length l.initial.tables.slots.now)) l.initial.planners l.initial.bulletins l.initial.script l.planners l.bulletins l.script l.step-index
    × TablesKept l.script l.step-index l.initial.tables.labels.now l.tables.labels.now l.initial.tables.slots.now l.tables.slots.now
    × (Balanced l.initial.planners l.initial.bulletins → Balanced l.planners l.bulletins)
    × SameTables l.initial.tables l.tables
