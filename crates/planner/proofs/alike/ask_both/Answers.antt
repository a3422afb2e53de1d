use Rattle.planner.proofs.Likeness.{same_where_alike}
use Rattle.planner.proofs.alike.ask_both.Goals as goal

pub returns-clause-alike : goal.returns-clause-alike
returns-clause-alike g c =
    same_where_alike g.B.Book.answer g.R.Rule.automaton g.C.Book.answer g.S.Rule.automaton c.args.first.now c.args.second.now g.B.Book.services g.C.Book.services c.args.network.stops c.args.network.arcs.now c.args.enquiry c.args.first_tables.now.labels.now c.ask-one.new.tables.labels.now c.args.first_tables.now.slots.now c.ask-one.new.tables.slots.now c.args.first_slip.now c.ask-one.new.slip c.args.second_tables.now.labels.now c.ask-other.new.tables.labels.now c.args.second_tables.now.slots.now c.ask-other.new.tables.slots.now c.args.second_slip.now c.ask-other.new.slip c.ask-one.result c.ask-other.result c.ask-one.ensures.planned c.ask-other.ensures.planned
