use Rattle.std.proofs.Common.{◌≤◌, length}
use Rattle.exports.proofs.answers.ask_rounds.Given as goal

abbrev pub invariant-loop : goal.invariant-loop
invariant-loop l = l.len ≤ length l.answers
