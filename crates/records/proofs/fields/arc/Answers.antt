use Rattle.std.proofs.Common.{leb, refl, arith}
use Rattle.std.proofs.lemmas.Bool.{le-leb, lt-leb}
use Rattle.std.proofs.lemmas.Result.{err_from_is_err_and}
use Rattle.model.specs.declared.refusal.Refusal.TheVariants.{ArcField, NoSuchService, TailFalls}
use Rattle.wire.specs.Grammar.{below, ranged, both, mapped}
use Rattle.wire.proofs.Parts.{both_first_err, both_err, both_ok, mapped_err, mapped_ok, checked_err, checked_bad, checked_ok}
use Rattle.formats.specs.NetworkFile.{fields, arc_of, fields_of, Joins}
use Rattle.records.proofs.fields.arc.Goals as goal

pub returns-in_err-label : goal.returns-in_err-label
returns-in_err-label c =
    let p = err_from_is_err_and c.from_residual-in_err-label.result c.from_residual-in_err-label.ensures.1 in
    let stops = c.args.stops in
    let services = c.args.services in
    let last = c.args.last in
    rw (p.1, p.2) (checked_err (λ a. leb last a.tail) TailFalls (mapped arc_of fields_of (Joins stops services) (fields stops services))
    (mapped_err arc_of fields_of (Joins stops services) (fields stops services)
    (both_err (below stops ArcField) (λ _. both (below stops ArcField) (λ _. both (ranged 0 5 ArcField) (λ _. below services NoSuchService))) c.number_below.ensures c.in_ok-tail.was
    (both_err (below stops ArcField) (λ _. both (ranged 0 5 ArcField) (λ _. below services NoSuchService)) c.number_below-2.ensures c.in_ok-head.was
    (both_first_err (ranged 0 5 ArcField) (λ _. below services NoSuchService) c.number_in.ensures c.in_err-label.was) refl) refl) refl) refl)

pub returns-in_err-service : goal.returns-in_err-service
returns-in_err-service c =
    let p = err_from_is_err_and c.from_residual-in_err-service.result c.from_residual-in_err-service.ensures.1 in
    let stops = c.args.stops in
    let services = c.args.services in
    let last = c.args.last in
    rw (p.1, p.2) (checked_err (λ a. leb last a.tail) TailFalls (mapped arc_of fields_of (Joins stops services) (fields stops services))
    (mapped_err arc_of fields_of (Joins stops services) (fields stops services)
    (both_err (below stops ArcField) (λ _. both (below stops ArcField) (λ _. both (ranged 0 5 ArcField) (λ _. below services NoSuchService))) c.number_below.ensures c.in_ok-tail.was
    (both_err (below stops ArcField) (λ _. both (ranged 0 5 ArcField) (λ _. below services NoSuchService)) c.number_below-2.ensures c.in_ok-head.was
    (both_err (ranged 0 5 ArcField) (λ _. below services NoSuchService) c.number_in.ensures c.in_ok-label.was c.number_below-3.ensures c.in_err-service.was) refl) refl) refl) refl)

pub returns-then-tail-last : goal.returns-then-tail-last
returns-then-tail-last c =
    let stops = c.args.stops in
    let services = c.args.services in
    let last = c.args.last in
    rw c.place-at.ensures (checked_bad (λ a. leb last a.tail) TailFalls (mapped arc_of fields_of (Joins stops services) (fields stops services))
    (mapped_ok arc_of fields_of (Joins stops services) (fields stops services)
    (both_ok (below stops ArcField) (λ _. both (below stops ArcField) (λ _. both (ranged 0 5 ArcField) (λ _. below services NoSuchService))) c.number_below.ensures c.in_ok-tail.was
    (both_ok (below stops ArcField) (λ _. both (ranged 0 5 ArcField) (λ _. below services NoSuchService)) c.number_below-2.ensures c.in_ok-head.was
    (both_ok (ranged 0 5 ArcField) (λ _. below services NoSuchService) c.number_in.ensures c.in_ok-label.was c.number_below-3.ensures c.in_ok-service.was) refl) refl) refl)
    refl (lt-leb _ _ (omega arith)))

pub returns : goal.returns
returns c =
    let stops = c.args.stops in
    let services = c.args.services in
    let last = c.args.last in
    checked_ok (λ a. leb last a.tail) TailFalls (mapped arc_of fields_of (Joins stops services) (fields stops services))
    (mapped_ok arc_of fields_of (Joins stops services) (fields stops services)
    (both_ok (below stops ArcField) (λ _. both (below stops ArcField) (λ _. both (ranged 0 5 ArcField) (λ _. below services NoSuchService))) c.number_below.ensures c.in_ok-tail.was
    (both_ok (below stops ArcField) (λ _. both (ranged 0 5 ArcField) (λ _. below services NoSuchService)) c.number_below-2.ensures c.in_ok-head.was
    (both_ok (ranged 0 5 ArcField) (λ _. below services NoSuchService) c.number_in.ensures c.in_ok-label.was c.number_below-3.ensures c.in_ok-service.was) refl) refl) refl)
    refl (le-leb _ _ (omega arith))
