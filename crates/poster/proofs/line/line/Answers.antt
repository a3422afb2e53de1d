use Rattle.std.proofs.Common.{sym, ◌∙◌}
use Rattle.poster.specs.Asked.{asked}
use Rattle.poster.proofs.Lines.{line_of_none, line_of_service}
use Rattle.poster.proofs.line.line.Goals as goal

pub returns-in-None : goal.returns-in-None
returns-in-None c = sym (line_of_none (asked c.args.question) c.args.arc c.in-None.ensures)

pub returns-in-Some : goal.returns-in-Some
returns-in-Some c = c.connections.ensures ∙ line_of_service (asked c.args.question) c.args.arc c.in-Some.service c.in-Some.ensures
