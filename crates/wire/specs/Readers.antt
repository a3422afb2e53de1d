-- What a call of a reader does.
use Rattle.std.specs.Prelude.{◌≡◌, ℕ, List, Option, Some, None, Ok, Err, Result}
use Rattle.model.specs.declared.refusal.Refusal.{Refusal}
use Rattle.wire.specs.declared.fault.Fault.{Fault}
use Rattle.wire.specs.declared.reader.Reader.{Reader}
use Rattle.wire.specs.Places.{Step, value_of, place_after, number_at, wrong}

abbrev pub file : Reader → List ℕ
file r = r.bytes.now

-- an answer as what it stands for
abbrev pub viewed : {R A : Type 0} → (R → A) → Result R Fault → Result A Fault
viewed view (Ok x) = Ok (view x)
viewed view (Err f) = Err f

-- a call that reads by f at the reader's place and leaves the reader after what it read. Where it meets a fault, the place is
-- anywhere in the file.
pub record Reads {A : Type 0} (f : List ℕ → ℕ → Step A) (before after : Reader) (r : Result A Fault) : Type 0 where
  pub value : r ≡ value_of (f (file before) before.at)
  pub place : after.at ≡ place_after (f (file before) before.at) after.at
  pub bytes : after.bytes ≡ before.bytes

-- what is made of a step that reads a number, where `Made n v` says what is made of n, if anything; a number of which nothing is made
-- is the fault k at the place p
abbrev pub Taken : {A : Type 0} → (ℕ → Option A → Type 0) → Refusal → ℕ → Step ℕ → Result A Fault → Type 0
Taken Made k p (Ok x) (Ok a) = Made x.0 (Some a)
Taken Made k p (Ok x) (Err f) = Made x.0 None × (f ≡ wrong k p)
Taken Made k p (Err e) r = r ≡ Err e

-- a call that reads a number and answers what is made of it
pub record Takes {A : Type 0} (Made : ℕ → Option A → Type 0) (k : Refusal) (before after : Reader) (r : Result A Fault) : Type 0 where
  pub answer : Taken Made k before.at (number_at (file before) before.at) r
  pub place : after.at ≡ place_after (number_at (file before) before.at) after.at
  pub bytes : after.bytes ≡ before.bytes
