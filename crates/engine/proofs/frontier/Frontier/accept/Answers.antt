-- A label that improves is written and queued, and one that does not leaves all as it is.
use Rattle.std.proofs.Common.{sym, ◌∙◌}
use Rattle.labels.specs.Rows.{row_of}
use Rattle.engine.proofs.Agendas.{written, rewritten}
use Rattle.engine.proofs.frontier.Frontier.accept.Goals as goal

pub returns-then-is_queued-clause-standing : goal.returns-then-is_queued-clause-standing
returns-then-is_queued-clause-standing c =
    rewritten c.args.self.now.labels.now c.args.self.now.queue.now (row_of c.args.states c.args.offer.at) c.args.offer.label c.requires.standing c.requires.size.0
    (sym c.improves.ensures ∙ c.if-not-improves.false) (sym c.is_queued.ensures ∙ c.if-is_queued.true)

pub returns-clause-standing : goal.returns-clause-standing
returns-clause-standing c =
    written c.args.self.now.labels.now c.args.self.now.queue.now (row_of c.args.states c.args.offer.at) c.args.offer.label c.requires.standing c.requires.size.0
    (sym c.improves.ensures ∙ c.if-not-improves.false) c.push.new.self _ c.in-Ok.ensures.pushed
