use Rattle.planner.proofs.Steps.{planned}
use Rattle.planner.proofs.planner.Planner.ask.Goals as goal

pub returns-clause-planned : goal.returns-clause-planned
returns-clause-planned g c =
    planned g.B.Book.services c.args.self.now g.B.Book.answer g.R.Rule.automaton c.args.network.stops c.args.network.arcs.now c.args.enquiry c.ask.ensures.asked
