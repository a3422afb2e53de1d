use Rattle.std.proofs.Common.{◌≡◌, drop}
use Rattle.meanings.specs.Faults.{first_fault, list_fault}
use Rattle.books.proofs.rows.test_lists.Given as goal

abbrev pub invariant-loop-service : goal.invariant-loop-service
invariant-loop-service g l =
    first_fault (list_fault g.R.Row.tested g.R.Row.MOST l.table) 0 l.spans ≡ first_fault (list_fault g.R.Row.tested g.R.Row.MOST l.table) l.service (drop l.service l.spans)
