use Rattle.std.proofs.Common.{◌≤◌, length}
use Rattle.exports.proofs.answers.put_answer.Given as goal

abbrev pub invariant-loop-leg : goal.invariant-loop-leg
invariant-loop-leg l = l.len ≤ length l.table
