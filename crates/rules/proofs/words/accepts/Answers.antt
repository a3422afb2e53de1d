use Rattle.std.proofs.Common.{◌+◌, drop, sym, ap, ◌∙◌}
use Rattle.std.proofs.lemmas.List.{at_drop_more, at_drop_all}
use Rattle.model.specs.Rules.{onward, leads}
use Rattle.automata.proofs.Leading.{decides_at_end, decides_nowhere}
use Rattle.rules.proofs.words.accepts.Goals as goal

pub returns : goal.returns
returns g c =
    let a = g.R.Rule.automaton c.args.rule.now in
    decides_at_end a _ c.loop-label.state _ (c.loop-label.invariant ∙ at_drop_all (leads a.next c.loop-label.state) c.args.word.now _ c.loop-label-test.false) c.ends.ensures

pub returns-in_default : goal.returns-in_default
returns-in_default g c =
    let a = g.R.Rule.automaton c.args.rule.now in
    let xs = c.args.word.now in
    let i = c.loop-label.label-index in
    decides_nowhere a xs (c.loop-label.invariant ∙ at_drop_more (leads a.next c.loop-label.state) xs i 0 c.loop-label-test.true ∙ ap (λ o. onward o (λ n. leads a.next n (drop (i + 1) xs))) (sym c.next.ensures ∙ c.in_default.is))

pub loop-label-preserved : goal.loop-label-preserved
loop-label-preserved g c =
    let a = g.R.Rule.automaton c.args.rule.now in
    let xs = c.args.word.now in
    let i = c.loop-label.label-index in
    c.loop-label.invariant ∙ at_drop_more (leads a.next c.loop-label.state) xs i 0 c.loop-label-test.true ∙ ap (λ o. onward o (λ n. leads a.next n (drop (i + 1) xs))) (sym c.next.ensures ∙ c.in-Some.is)
