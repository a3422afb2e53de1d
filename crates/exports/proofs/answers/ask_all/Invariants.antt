use Rattle.std.proofs.Common.{◌≤◌, length}
use Rattle.exports.proofs.answers.ask_all.Given as goal

abbrev pub invariant-loop-enquiry : goal.invariant-loop-enquiry
invariant-loop-enquiry g l = l.len ≤ length l.answers
