use Rattle.std.proofs.Common.{◌≡◌, drop, None}
use Rattle.meanings.specs.Faults.{rows_fault}
use Rattle.books.proofs.rows.test_rows.Given as goal

abbrev pub invariant-loop-place : goal.invariant-loop-place
invariant-loop-place g l = rows_fault g.R.Row.tested l.service 0 None l.list ≡ rows_fault g.R.Row.tested l.service l.place l.before (drop l.place l.list)
