-- What a planner holds, and what a call makes of it.
use Rattle.std.specs.Prelude.{◌≡◌, ℕ, true, false, List, [], ◌∷◌, ◌++◌, Some, None, Ok, Err, Option, Result, MatchResult}
use Rattle.std.specs.Option.{option_map}
use Rattle.model.specs.declared.enquiry.Enquiry.{Enquiry}
use Rattle.model.specs.declared.enquiry.Found.{Found}
use Rattle.model.specs.declared.network.Arc.{Arc}
use Rattle.model.specs.declared.network.Leg.{Leg}
use Rattle.model.specs.declared.refusal.Refusal.{Refusal}
use Rattle.model.specs.declared.refusal.Refusal.TheVariants.{NoSuchBulletin}
use Rattle.model.specs.Rules.{Automaton}
use Rattle.model.specs.Trips.{World, world}
use Rattle.model.specs.Asking.{Asked}
use Rattle.notices.specs.declared.notice.Notice.{Notice}
use Rattle.notices.specs.declared.table.NoticeTable.{NoticeTable}
use Rattle.notices.specs.Notices.{noticed}
use Rattle.notices.specs.Tables.{listed}
use Rattle.ledger.specs.Ledgers.{Call, Ask, Ledger, refusal, good, after, ledger}
use Rattle.planner.specs.declared.planner.Returned.{Returned}
use Rattle.planner.specs.declared.planner.Bulletin.{Bulletin}
use Rattle.planner.specs.declared.planner.Planner.{Planner}

-- the ledger that a planner's tables hold
abbrev pub state : {B R : Type 0} → Planner B R → Ledger
state p = record { standing = listed p.book.notices; draft = option_map listed p.draft }

-- the planner is as the ledger of the calls h since its start says; `size` gives a book's count of services
abbrev pub AsLedger : {B R : Type 0} → (B → ℕ) → Planner B R → List Call → Type 0
AsLedger size p h = state p ≡ ledger p.mark (size p.book.below) h

-- why a call is refused, if it is
abbrev pub refusing : {B R : Type 0} → (B → ℕ) → Planner B R → Call → Option Refusal
refusing size p c = refusal p.mark (size p.book.below) (state p) c

-- an answer that hands the bulletin back where something refuses
abbrev pub returning : Bulletin → Option Refusal → Result (Unit {0}) Returned
returning b None = Ok tt
returning b (Some e) = Err (record { refusal = e; bulletin = b })

-- the planner without a draft
abbrev pub closed : {B R : Type 0} → Planner B R → Planner B R
closed p = record { book = p.book; rule = p.rule; mark = p.mark; draft = None }

-- a bulletin taken in, where it is good, and the draft handed out; or the bulletin handed back, and the planner as it was
abbrev pub Closed : {B R : Type 0} → Bulletin → Planner B R → Planner B R → Result NoticeTable Returned → Type 0
Closed b p q r =
    MatchResult r
    (λ draft. (good p.mark b.mark (state p) ≡ true) × (p.draft ≡ Some draft) × (q ≡ closed p))
    (λ e. (good p.mark b.mark (state p) ≡ false) × (e ≡ record { refusal = NoSuchBulletin; bulletin = b }) × (q ≡ p))

-- what a call c makes of a planner p: book, rule and mark stay; its notices and draft take the ledger's step; so that, whatever the calls
-- since its start, as it was by their ledger it is then by the ledger of these and c
pub record Made {B R : Type 0} (size : B → ℕ) (c : Call) (p q : Planner B R) : Type 0 where
  pub book : q.book.below ≡ p.book.below
  pub rule : q.rule ≡ p.rule
  pub mark : q.mark ≡ p.mark
  pub then : state q ≡ after p.mark (size p.book.below) (state p) c
  pub along : (h : List Call) → AsLedger size p h → AsLedger size q (h ++ c ∷ [])

-- the world of some arcs, of a book's answers under notices, and of a rule
abbrev pub world_under : List Notice → List Arc → (ℕ → ℕ → Option ℕ) → Automaton → World
world_under ns arcs answer rule = world arcs (noticed ns answer) rule

-- an ask of a planner over a network of so many stops and these arcs, with the label table, the queue's slots and the slip before and after:
-- it goes by the notices that stand; whatever the calls since the planner's start, these are the notices standing in their ledger; and the
-- planner, which stays as it is, is then as the ledger of these calls and the ask says
pub record Planned {B R L Q : Type 0} (size : B → ℕ) (answers : B → ℕ → ℕ → Option ℕ) (automata : R → Automaton) (p : Planner B R)
    (stops : ℕ) (arcs : List Arc) (enquiry : Enquiry) (labels labels' : List L) (slots slots' : List Q) (slip slip' : List Leg) (result : Result Found Refusal) : Type 0 where
  pub by_standing : Asked stops (size p.book.below) (world_under (state p).standing arcs (answers p.book.below) (automata p.rule)) enquiry labels labels' slots slots' slip slip' result
  pub by_ledger : (h : List Call) → AsLedger size p h
      → Asked stops (size p.book.below) (world_under (ledger p.mark (size p.book.below) h).standing arcs (answers p.book.below) (automata p.rule)) enquiry labels labels' slots slots' slip slip' result
  pub along : (h : List Call) → AsLedger size p h → AsLedger size p (h ++ Ask enquiry ∷ [])
