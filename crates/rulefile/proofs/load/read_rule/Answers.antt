use Rattle.std.proofs.Common.{◌≡◌, take, Ok, sym, ap, ◌∙◌, ap₂, subst, refl}
use Rattle.std.proofs.lemmas.Result.{err_from_is_err_and}
use Rattle.model.proofs.Options.{not_ok}
use Rattle.formats.specs.RuleFile.{contents_of, rule}
use Rattle.rulefile.specs.Loading.{IsRuleOf, meaning}
use Rattle.rulefile.proofs.Loading.{past_the_end, tables_taken}
use Rattle.rulefile.proofs.load.read_rule.Goals as goal

pub returns-in_err-reader : goal.returns-in_err-reader
returns-in_err-reader c =
    let p = err_from_is_err_and c.from_residual.result c.from_residual.ensures.1 in
    let past = c.in_err-reader.ensures in
    rw (p.1, p.2, past.1, past_the_end c.args.file.now c.args.at past.0) refl

pub returns : goal.returns
returns c =
    let bs = c.args.file.now in
    let r = c.in_ok-reader.ensures in
    let t = c.in_ok-tables.ensures in
    let read = sym (ap₂ (λ b p. rule.read b p) r.1 r.2) ∙ t.1 in
    let tables = c.in_ok-tables.tables in
    let contents = contents_of (take tables.states tables.ends, t.0) in
    let taken = tables_taken tables t.0 bs c.args.at _ read t.2 _ c.table_rule.result c.map_err.result c.table_rule.ensures c.map_err.ensures.cases in
    let same : taken.0 ≡ c.in_ok-rule.rule = let e = sym taken.1 ∙ c.in_ok-rule.was in cc in
    subst (λ s. IsRuleOf s (Ok (c.in_ok-rule.rule, c.place.result))) (sym read) (ap meaning (sym same) ∙ taken.2, c.place.ensures)

pub returns-in_err-rule : goal.returns-in_err-rule
returns-in_err-rule c =
    let bs = c.args.file.now in
    let r = c.in_ok-reader.ensures in
    let t = c.in_ok-tables.ensures in
    let read = sym (ap₂ (λ b p. rule.read b p) r.1 r.2) ∙ t.1 in
    let taken = tables_taken c.in_ok-tables.tables t.0 bs c.args.at _ read t.2 _ c.table_rule.result c.map_err.result c.table_rule.ensures c.map_err.ensures.cases in
    absurd (not_ok _ _ (sym taken.1 ∙ c.in_err-rule.was))
