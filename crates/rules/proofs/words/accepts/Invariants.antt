use Rattle.std.proofs.Common.{◌≡◌, drop}
use Rattle.model.specs.Rules.{leads}
use Rattle.rules.proofs.words.accepts.Given as goal

abbrev pub invariant-loop-label : goal.invariant-loop-label
invariant-loop-label g l =
    let next = (g.R.Rule.automaton l.rule).next in
    leads next 0 l.word ≡ leads next l.state (drop l.label-index l.word)
