use Rattle.std.proofs.Common.{List, length, sym, ap, ◌∙◌}
use Rattle.model.specs.declared.tables.Connection.{Connection}
use Rattle.meanings.specs.Timetables.{caught}
use Rattle.poster.specs.Asked.{asked}
use Rattle.poster.proofs.Lines.{line_of_none, line_of_service}
use Rattle.poster.proofs.line.due_count.Goals as goal

pub returns-in-None : goal.returns-in-None
returns-in-None c =
    sym (ap (λ (z : List Connection). length (caught c.args.question.second z)) (line_of_none (asked c.args.question) c.args.arc c.in-None.ensures))

pub returns-in-Some : goal.returns-in-Some
returns-in-Some c =
    ap length c.departing.ensures
    ∙ ap (λ (z : List Connection). length (caught c.args.question.second z)) (line_of_service (asked c.args.question) c.args.arc c.in-Some.service c.in-Some.ensures)
