use Rattle.std.proofs.Common.{◌≡◌, Err, refl, sym, ap, ◌∙◌, rules}
use Rattle.std.proofs.lemmas.Result.{err_from_is_err_and}
use Rattle.wire.proofs.At.{of_rest, number_ok, number_err, number_within, ok_before, err_before}
use Rattle.wire.specs.Places.{wrong}
use Rattle.wire.proofs.Steps.{reads_by_ok, reads_by_err}
use Rattle.wire.proofs.reader.Reader.number.Goals as goal

pub overflow_add-self : goal.overflow_add-self
overflow_add-self c =
    let r = c.args.self.now in
    let w = number_within _ _ _ _ (of_rest r.bytes.now r.at _ _ c.decoded.ensures (ok_before _ c.decoded.result _ c.map_err.ensures.cases c.in_ok-value.was)) r.within in
    search rules

pub invariant_of-self : goal.invariant_of-self
invariant_of-self c =
    let r = c.args.self.now in
    record { within = number_within _ _ _ _ (of_rest r.bytes.now r.at _ _ c.decoded.ensures (ok_before _ c.decoded.result _ c.map_err.ensures.cases c.in_ok-value.was)) r.within }

pub returns : goal.returns
returns c =
    let r = c.args.self.now in
    let e = number_ok r.bytes.now r.at _ _ (of_rest r.bytes.now r.at _ _ c.decoded.ensures (ok_before _ c.decoded.result _ c.map_err.ensures.cases c.in_ok-value.was)) in
    reads_by_ok _ _ _ _ e refl

pub returns-in_err-value : goal.returns-in_err-value
returns-in_err-value c =
    let r = c.args.self.now in
    let p = err_from_is_err_and c.from_residual.result c.from_residual.ensures.1 in
    let b = err_before _ c.decoded.result _ c.map_err.ensures.cases c.in_err-value.was in
    let e = number_err r.bytes.now r.at _ (of_rest r.bytes.now r.at _ _ c.decoded.ensures b.1) in
    let made = b.2 in
    let same : c.in_err-value.field-0.0 ≡ wrong b.0 r.at = search rules in
    rw (p.1, p.2) (reads_by_err _ _ _ _ (e ∙ ap (λ f. Err f) (sym same)) refl)
