-- Bytes put at a place of an output, and lists of things that are written one after the other.
use Rattle.std.specs.Prelude.{◌≡◌, ℕ, ◌+◌, ◌≤◌, cond, ◌&&◌, List, [], ◌∷◌, ◌++◌, length, Some, None, Ok, Err, Option, Result, nat_le}
use Rattle.std.proofs.Math.Seq.{paste}
use Rattle.model.specs.declared.refusal.Refusal.{Refusal}
use Rattle.wire.specs.Numbers.{encode}
use Rattle.writer.specs.declared.cursor.Cursor.{Cursor}

-- a value, unless there is a refusal
abbrev pub answered : {V : Type 0} → Option Refusal → V → Result V Refusal
answered None v = Ok v
answered (Some k) v = Err k

-- the first of two refusals
abbrev pub or_else : Option Refusal → Option Refusal → Option Refusal
or_else None o = o
or_else (Some k) o = Some k

-- a call that is refused, or answers a value and goes on behind some bytes, which then stand in the output if it has room for all
-- of them; it goes on by at most so many places, refused or not
pub record Emits {V : Type 0} (most : ℕ) (refusal : Option Refusal) (bytes : List ℕ) (value : V) (before after : Cursor) (r : Result V Refusal) : Type 0 where
  pub answer : r ≡ answered refusal value
  pub place : refusal ≡ None → after.at ≡ before.at + length bytes
  pub output : refusal ≡ None → before.at + length bytes ≤ length before.out.now → after.out.now ≡ paste before.out.now before.at bytes (length bytes)
  pub small : after.at ≤ before.at + most
  pub same : after.out.ghost_name ≡ before.out.ghost_name

-- a call that cannot be refused
abbrev pub Appends : ℕ → List ℕ → Cursor → Cursor → Type 0
Appends most bytes before after = Emits {V = Unit {0}} most None bytes tt before after (Ok tt)

-- a number from lo to hi, else the refusal k
abbrev pub outside : ℕ → ℕ → Refusal → ℕ → Option Refusal
outside lo hi k n = cond (nat_le lo n && nat_le n hi) None (Some k)

-- the first refusal of a list; `s` is what the earlier ones say of the next
unfoldable pub refused_all : {S A : Type 0} → (S → A → Option Refusal) → (S → A → S) → S → List A → Option Refusal
refused_all f next s [] = None
refused_all f next s (a ∷ xs) = or_else (f s a) (refused_all f next (next s a) xs)

-- the bytes of a list
unfoldable pub bytes_all : {S A : Type 0} → (S → A → List ℕ) → (S → A → S) → S → List A → List ℕ
bytes_all w next s [] = []
bytes_all w next s (a ∷ xs) = w s a ++ bytes_all w next (next s a) xs

unfoldable pub state_after : {S A : Type 0} → (S → A → S) → S → List A → S
state_after next s [] = s
state_after next s (a ∷ xs) = state_after next (next s a) xs

-- a list with its count before it: the count is tested first
abbrev pub list_refusal : {S A : Type 0} → ℕ → ℕ → Refusal → (S → A → Option Refusal) → (S → A → S) → S → List A → Option Refusal
list_refusal lo hi k f next s xs = or_else (outside lo hi k (length xs)) (refused_all f next s xs)

abbrev pub list_bytes : {S A : Type 0} → (S → A → List ℕ) → (S → A → S) → S → List A → List ℕ
list_bytes w next s xs = encode (length xs) ++ bytes_all w next s xs
