-- What holds of every ledger.
use Rattle.std.specs.Prelude.{◌≡◌, ℕ, ◌≤◌, true, false, List, [], ◌∷◌, ◌++◌, length, Some, None, Option}
use Rattle.std.specs.List.{AllByRecursion}
use Rattle.model.specs.declared.enquiry.Enquiry.{Enquiry}
use Rattle.model.specs.declared.refusal.Refusal.{Refusal}
use Rattle.notices.specs.declared.notice.Notice.{Notice}
use Rattle.notices.specs.Notices.{has}
use Rattle.ledger.specs.Ledgers.{Call, Ask, Ledger, allowed, refusal, ledger}

-- no two notices are of one service
abbrev pub Apart : List Notice → Type 0
Apart [] = Unit {0}
Apart (n ∷ ns) = (has n.service ns ≡ false) × Apart ns

-- notices in range and of the book's services, one for a service, at most sixty-four
pub record Fit (count : ℕ) (ns : List Notice) : Type 0 where
  pub ranged : AllByRecursion (λ n. allowed count n ≡ true) ns
  pub apart : Apart ns
  pub few : length ns ≤ 64

abbrev pub FitDraft : ℕ → Option (List Notice) → Type 0
FitDraft count None = Unit {0}
FitDraft count (Some ns) = Fit count ns

abbrev pub Sound : ℕ → Ledger → Type 0
Sound count g = Fit count g.standing × FitDraft count g.draft

-- whatever the calls
abbrev pub AlwaysSound : Type 0
AlwaysSound = (mark count : ℕ) (h : List Call) → Sound count (ledger mark count h)

-- a refused call changes nothing, nor does an ask
abbrev pub IdleCalls : Type 0
IdleCalls =
    (mark count : ℕ) (h : List Call) →
    ((c : Call) (why : Refusal) → refusal mark count (ledger mark count h) c ≡ Some why → ledger mark count (h ++ c ∷ []) ≡ ledger mark count h)
    × ((q : Enquiry) → ledger mark count (h ++ Ask q ∷ []) ≡ ledger mark count h)
