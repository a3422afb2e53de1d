-- The ledger: the standing notices and the draft that a list of calls leaves.
use Rattle.std.specs.Prelude.{ℕ, Bool, cond, ◌&&◌, List, [], ◌∷◌, is_some, Some, None, Option, ◌==◌, nat_lt}
use Rattle.std.specs.Option.{unwrap_or}
use Rattle.model.specs.declared.enquiry.Enquiry.{Enquiry}
use Rattle.model.specs.declared.refusal.Refusal.{Refusal}
use Rattle.model.specs.declared.refusal.Refusal.TheVariants.{BulletinOpen, NoSuchBulletin, NoticeField}
use Rattle.notices.specs.declared.notice.Notice.{Notice}
use Rattle.notices.specs.Notices.{in_range, put_in, lift_from, put_refusal, lift_refusal, unless}

-- a call of a planner, with the mark on the bulletin that is shown, and without its answer
pub data Call : Type 0 where
  Ask : Enquiry → Call
  Open : Call
  Put : ℕ → Notice → Call
  Lift : ℕ → ℕ → Call
  Issue : ℕ → Call
  TearUp : ℕ → Call

-- the notices that stand, and those of the draft where one is open
pub record Ledger : Type 0 where
  pub standing : List Notice
  pub draft : Option (List Notice)

-- a planner that has got no call: no notice stands, and no draft is there
abbrev pub fresh : Ledger
fresh = record { standing = []; draft = None }

abbrev pub drafted : Ledger → List Notice
drafted g = unwrap_or g.draft []

-- a bulletin with the mark m is good: it has the planner's mark, and a draft is open
abbrev pub good : ℕ → ℕ → Ledger → Bool
good mark m g = is_some g.draft && m == mark

-- a notice that can be put: its fields are in range, and its service is one of the book's
abbrev pub allowed : ℕ → Notice → Bool
allowed count n = in_range n && nat_lt n.service count

-- why a call is refused, if it is, by the planner's mark, its book's count and the ledger; of an ask's own refusals none concerns the ledger
abbrev pub refusal : ℕ → ℕ → Ledger → Call → Option Refusal
refusal mark count g (Ask q) = None
refusal mark count g Open = cond (is_some g.draft) (Some BulletinOpen) None
refusal mark count g (Put m n) = cond (good mark m g) (cond (allowed count n) (put_refusal n (drafted g)) (Some NoticeField)) (Some NoSuchBulletin)
refusal mark count g (Lift m s) = cond (good mark m g) (lift_refusal s (drafted g)) (Some NoSuchBulletin)
refusal mark count g (Issue m) = cond (good mark m g) None (Some NoSuchBulletin)
refusal mark count g (TearUp m) = cond (good mark m g) None (Some NoSuchBulletin)

-- what an accepted call does: open copies the standing notices into a draft, put and lift change the draft, issue makes it stand,
-- tearing up forgets it; an ask does nothing
abbrev pub doing : Ledger → Call → Ledger
doing g (Ask q) = g
doing g Open = record { standing = g.standing; draft = Some g.standing }
doing g (Put m n) = record { standing = g.standing; draft = Some (put_in n (drafted g)) }
doing g (Lift m s) = record { standing = g.standing; draft = Some (lift_from s (drafted g)) }
doing g (Issue m) = record { standing = drafted g; draft = None }
doing g (TearUp m) = record { standing = g.standing; draft = None }

-- the ledger after one call: a refused one changes nothing
abbrev pub after : ℕ → ℕ → Ledger → Call → Ledger
after mark count g c = unless (refusal mark count g c) (doing g c) g

abbrev pub going : ℕ → ℕ → Ledger → List Call → Ledger
going mark count g [] = g
going mark count g (c ∷ cs) = going mark count (after mark count g c) cs

-- the ledger of a list of calls since the planner's start
abbrev pub ledger : ℕ → ℕ → List Call → Ledger
ledger mark count h = going mark count fresh h
