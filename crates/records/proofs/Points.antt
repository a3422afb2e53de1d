-- A road's point, read from its two numbers.
use Rattle.std.proofs.Common.{◌≡◌, ℕ, ◌-◌, Ok, Err, Option, Result, refl, subst}
use Rattle.model.specs.declared.refusal.Refusal.TheVariants.{ServiceField}
use Rattle.model.specs.declared.tables.Point.{Point}
use Rattle.model.specs.Clock.{horizon}
use Rattle.wire.specs.declared.fault.Fault.{Fault}
use Rattle.wire.specs.declared.reader.Reader.{Reader}
use Rattle.wire.specs.Grammar.{since}
use Rattle.wire.specs.Readers.{Reads}
use Rattle.wire.proofs.Parts.{both_first_err, both_err, both_ok, mapped_err, mapped_ok}
use Rattle.formats.specs.NetworkFile.{point, point_of, seconds_of, Rises, seconds, second_before, least_second, least_reached}

module _ (before : Option Point) {base least reached : ℕ} (b : base ≡ second_before before) (l : least ≡ least_second before) (a : reached ≡ least_reached before)
    {at mid : Reader} {r : Result ℕ Fault} (first : Reads (since base least horizon ServiceField).read at mid r) where
  first' : Reads (since (second_before before) (least_second before) horizon ServiceField).read at mid r
  first' = subst (λ x. Reads (since (second_before before) x horizon ServiceField).read at mid r) l (subst (λ x. Reads (since x least horizon ServiceField).read at mid r) b first)

  pub point_first_err : {f : Fault} → r ≡ Err f → Reads (point before).read at mid (Err f)
  point_first_err e =
      mapped_err point_of seconds_of (Rises before) (seconds before)
      (both_first_err (since (second_before before) (least_second before) horizon ServiceField) (λ second. since second (least_reached before) horizon ServiceField) first' e) refl

  module _ {second : ℕ} (is : r ≡ Ok second) {after : Reader} {r' : Result ℕ Fault} (next : Reads (since second reached horizon ServiceField).read mid after r') where
    next' : Reads (since second (least_reached before) horizon ServiceField).read mid after r'
    next' = subst (λ x. Reads (since second x horizon ServiceField).read mid after r') a next

    pub point_err : {f : Fault} → r' ≡ Err f → Reads (point before).read at after (Err f)
    point_err e =
        mapped_err point_of seconds_of (Rises before) (seconds before)
        (both_err (since (second_before before) (least_second before) horizon ServiceField) (λ second. since second (least_reached before) horizon ServiceField) first' is next' e) refl

    pub point_ok : {arrival : ℕ} → r' ≡ Ok arrival → Reads (point before).read at after (Ok (record { second = second; travel = arrival - second }))
    point_ok e =
        mapped_ok point_of seconds_of (Rises before) (seconds before)
        (both_ok (since (second_before before) (least_second before) horizon ServiceField) (λ second. since second (least_reached before) horizon ServiceField) first' is next' e) refl
