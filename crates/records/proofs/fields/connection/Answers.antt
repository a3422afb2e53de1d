use Rattle.std.proofs.Common.{refl}
use Rattle.std.proofs.lemmas.Result.{err_from_is_err_and}
use Rattle.model.specs.declared.refusal.Refusal.TheVariants.{ServiceField}
use Rattle.model.specs.Clock.{horizon}
use Rattle.wire.specs.Grammar.{since}
use Rattle.wire.proofs.Parts.{both_err, mapped_err}
use Rattle.formats.specs.NetworkFile.{connection_of, times_of, Departs, times}
use Rattle.records.proofs.fields.connection.Goals as goal

pub returns-in_err-arrival : goal.returns-in_err-arrival
returns-in_err-arrival c =
    let p = err_from_is_err_and c.from_residual-in_err-arrival.result c.from_residual-in_err-arrival.ensures.1 in
    let last = c.args.last in
    rw (p.1, p.2) (mapped_err connection_of times_of (Departs last) (times last)
    (both_err (since last 0 horizon ServiceField) (λ departure. since departure 0 horizon ServiceField) c.number_since.ensures c.in_ok-departure.was c.number_since-2.ensures c.in_err-arrival.was) refl)
