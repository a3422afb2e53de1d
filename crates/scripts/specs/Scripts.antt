-- What a script of steps over several planners does, and what it gives back.
use Rattle.std.specs.Prelude.{◌≡◌, ℕ, ◌<◌, ◌≤◌, cond, List, [], ◌∷◌, ◌++◌, length, get_or, take, Some, None, Ok, Err, Option, Result, ◌==◌, ◌≢◌, slice_index_or}
use Rattle.model.specs.declared.enquiry.Enquiry.{Enquiry}
use Rattle.model.specs.declared.enquiry.Found.{Found}
use Rattle.model.specs.declared.network.Arc.{Arc}
use Rattle.model.specs.declared.network.Leg.{Leg}
use Rattle.model.specs.declared.refusal.Refusal.{Refusal}
use Rattle.model.specs.declared.refusal.Refusal.TheVariants.{NoJourney, RowsShort}
use Rattle.model.specs.Rules.{Automaton}
use Rattle.model.specs.Asking.{Asked}
use Rattle.notices.specs.Notices.{handing}
use Rattle.ledger.specs.Ledgers.{Call, Ledger, refusal, going, ledger, Ask as AskCall, Open as OpenCall, Put as PutCall, Lift as LiftCall, Issue as IssueCall, TearUp as TearUpCall}
use Rattle.engine.specs.declared.tables.SearchTables.{SearchTables}
use Rattle.planner.specs.declared.planner.Bulletin.{Bulletin}
use Rattle.planner.specs.declared.planner.Planner.{Planner}
use Rattle.planner.specs.declared.planner.Returned.{Returned}
use Rattle.planner.specs.Planners.{AsLedger, state, world_under}
use Rattle.scripts.specs.declared.step.Change.{Change}
use Rattle.scripts.specs.declared.step.Change.TheVariants.{Open, Put, Lift, Issue, TearUp}
use Rattle.scripts.specs.declared.step.Action.{Action}
use Rattle.scripts.specs.declared.step.Action.TheVariants.{Ask, Change as Changing}
use Rattle.scripts.specs.declared.step.Reply.{Reply}
use Rattle.scripts.specs.declared.step.Reply.TheVariants.{Idle, Asked as Answered, Opened, Shown}
use Rattle.scripts.specs.declared.step.Step.{Step}

-- the call that a change makes with a bulletin of the mark m
abbrev pub shown : ℕ → Change → List Call
shown m Open = []
shown m (Put n) = PutCall m n ∷ []
shown m (Lift s) = LiftCall m s ∷ []
shown m Issue = IssueCall m ∷ []
shown m TearUp = TearUpCall m ∷ []

-- the call, if any, that an ask and a change made, by what came of it
abbrev pub asking : Enquiry → Reply → List Call
asking q Idle = []
asking q (Answered r) = AskCall q ∷ []
asking q (Opened r) = []
asking q (Shown m r) = []

abbrev pub changing : Change → Reply → List Call
changing c Idle = []
changing c (Answered r) = []
changing c (Opened r) = OpenCall ∷ []
changing c (Shown m r) = shown m c

abbrev pub call_of : Action → Reply → List Call
call_of (Ask q) r = asking q r
call_of (Changing j c) r = changing c r

-- the calls that planner i got from some steps, in their order
abbrev pub calls_at : ℕ → List Step → List Call
calls_at i [] = []
calls_at i (s ∷ ss) = cond (s.planner == i) (call_of s.action s.reply) [] ++ calls_at i ss

-- a slot after its bulletin was to be spent: empty, or with the bulletin that came back
abbrev pub returned : Result (Unit {0}) Refusal → Option Bulletin → Option Bulletin
returned (Ok u) o = None
returned (Err e) o = o

-- a slot after its bulletin was shown: only an accepted issue or tearing up spends it
abbrev pub kept_by : Change → Result (Unit {0}) Refusal → Option Bulletin → Option Bulletin
kept_by Open r o = o
kept_by (Put n) r o = o
kept_by (Lift s) r o = o
kept_by Issue r o = returned r o
kept_by TearUp r o = returned r o

-- a slot after an opening
abbrev pub opened : Result ℕ Refusal → Option Bulletin → Option Bulletin
opened (Ok m) o = Some (record { mark = m })
opened (Err e) o = o

-- a slot after a change, by what came of it
abbrev pub laid : Change → Reply → Option Bulletin → Option Bulletin
laid c Idle o = o
laid c (Answered r) o = o
laid c (Opened r) o = opened r o
laid c (Shown m r) o = kept_by c r o

-- the slot j after a step that held o
abbrev pub held_by : ℕ → Action → Reply → Option Bulletin → Option Bulletin
held_by j (Ask q) r o = o
held_by j (Changing k c) r o = cond (k == j) (laid c r o) o

-- the slot j after some steps
abbrev pub held : ℕ → List Step → Option Bulletin → Option Bulletin
held j [] o = o
held j (s ∷ ss) o = held j ss (held_by j s.action s.reply o)

-- what comes of a change at a planner of that mark, book's count and ledger, with what its slot holds: no call where there is no bulletin to
-- show, or no room for one; else the call's answer
abbrev pub reply_of : ℕ → ℕ → Ledger → Change → Option Bulletin → Reply
reply_of mark count g Open None = Opened (handing mark (refusal mark count g OpenCall))
reply_of mark count g Open (Some b) = Idle
reply_of mark count g (Put n) None = Idle
reply_of mark count g (Put n) (Some b) = Shown b.mark (handing tt (refusal mark count g (PutCall b.mark n)))
reply_of mark count g (Lift s) None = Idle
reply_of mark count g (Lift s) (Some b) = Shown b.mark (handing tt (refusal mark count g (LiftCall b.mark s)))
reply_of mark count g Issue None = Idle
reply_of mark count g Issue (Some b) = Shown b.mark (handing tt (refusal mark count g (IssueCall b.mark)))
reply_of mark count g TearUp None = Idle
reply_of mark count g TearUp (Some b) = Shown b.mark (handing tt (refusal mark count g (TearUpCall b.mark)))

-- the answer of an issue or a tearing up, and the bulletin where it came back
abbrev pub told : Result (Unit {0}) Returned → Result (Unit {0}) Refusal
told (Ok u) = Ok u
told (Err e) = Err e.refusal

abbrev pub back : Result (Unit {0}) Returned → Option Bulletin
back (Ok u) = None
back (Err e) = Some e.bulletin

-- the mark that an opening gave, and its bulletin
abbrev pub marked : Result Bulletin Refusal → Result ℕ Refusal
marked (Ok b) = Ok b.mark
marked (Err e) = Err e

abbrev pub handed : Result Bulletin Refusal → Option Bulletin
handed (Ok b) = Some b
handed (Err e) = None

-- what a planner means, but for its notices
pub record Meaning : Type 0 where
  pub mark : ℕ
  pub count : ℕ
  pub answer : ℕ → ℕ → Option ℕ
  pub rule : Automaton

abbrev pub meaning : {B R : Type 0} → (B → ℕ) → (B → ℕ → ℕ → Option ℕ) → (R → Automaton) → Planner B R → Meaning
meaning size answers automata p = record { mark = p.mark; count = size p.book.below; answer = answers p.book.below; rule = automata p.rule }

-- a network, and how many rows the label table and the queue have
pub record Ground : Type 0 where
  pub stops : ℕ
  pub arcs : List Arc
  pub rows : ℕ
  pub slots : ℕ

abbrev pub ground_of : ℕ → List Arc → ℕ → ℕ → Ground
ground_of stops arcs rows slots = record { stops = stops; arcs = arcs; rows = rows; slots = slots }

-- an ask answered, with whatever the label table and the queue held
pub record AskAnswered (L Q : Type 0) (on : Ground) (m : Meaning) (g : Ledger) (enquiry : Enquiry) (slip slip' : List Leg) (reply : Reply) : Type 0 where
  pub result : Result Found Refusal
  pub told : reply ≡ Answered result
  pub labels : List L
  pub labels' : List L
  pub slots : List Q
  pub slots' : List Q
  pub rows_long : length labels ≡ on.rows
  pub slots_long : length slots ≡ on.slots
  pub asked : Asked on.stops m.count (world_under g.standing on.arcs m.answer m.rule) enquiry labels labels' slots slots' slip slip' result

-- what comes of a step at a planner, by the ledger and what the slots, so many of them, hold
abbrev pub Replied : (L Q : Type 0) → Ground → Meaning → Ledger → ℕ → (ℕ → Option Bulletin) → List Leg → List Leg → Reply → Action → Type 0
Replied L Q on m g many slot slip slip' reply (Ask enquiry) = AskAnswered L Q on m g enquiry slip slip' reply
Replied L Q on m g many slot slip slip' reply (Changing j c) =
    (j < many → reply ≡ reply_of m.mark m.count g c (slot j)) × (many ≤ j → reply ≡ Idle) × (slip' ≡ slip)

-- book, rule and mark of a planner stay
pub record Kept {B R : Type 0} (p q : Planner B R) : Type 0 where
  pub book : q.book.below ≡ p.book.below
  pub rule : q.rule ≡ p.rule
  pub mark : q.mark ≡ p.mark

-- a step at a planner that is not there does nothing
abbrev pub Absent : {B R : Type 0} → List (Planner B R) → Step → Step → Type 0
Absent ps s s' = length ps ≤ s.planner → (s'.reply ≡ Idle) × (s'.slip ≡ s.slip)

-- what comes of a step after others: whatever calls h its planner had got since its start, it is answered by the ledger of these and of the
-- calls that it got from the steps before, with what the slots hold after them
abbrev pub AnsweredAfter : {B R : Type 0} (L Q : Type 0) → (B → ℕ) → (B → ℕ → ℕ → Option ℕ) → (R → Automaton) → Ground → List (Planner B R) → List (Option Bulletin) → List Step → Step → Step → Type 0
AnsweredAfter {B} {R} L Q size answers automata on ps os before s s' =
    (d : Planner B R) (h : List Call) → s.planner < length ps → AsLedger size (slice_index_or ps s.planner d) h
    → Replied L Q on (meaning size answers automata (slice_index_or ps s.planner d))
    (ledger (get_or ps s.planner d).mark (size (get_or ps s.planner d).book.below) (h ++ calls_at s.planner before))
    (length os) (λ j. held j before (slice_index_or os j None)) s.slip s'.slip s'.reply s.action

-- what a change makes of a planner and of what its slot holds
pub record Changed {B R : Type 0} (size : B → ℕ) (c : Change) (o o' : Option Bulletin) (reply : Reply) (p q : Planner B R) : Type 0 where
  pub replied : reply ≡ reply_of p.mark (size p.book.below) (state p) c o
  pub slot : o' ≡ laid c reply o
  pub kept : Kept p q
  pub then : state q ≡ going p.mark (size p.book.below) (state p) (changing c reply)

-- what a change at a slot makes of a planner and of the slots
pub record ChangedAt {B R : Type 0} (size : B → ℕ) (j : ℕ) (c : Change) (os os' : List (Option Bulletin)) (reply : Reply) (p q : Planner B R) : Type 0 where
  pub inside : j < length os → reply ≡ reply_of p.mark (size p.book.below) (state p) c (slice_index_or os j None)
  pub outside : length os ≤ j → reply ≡ Idle
  pub slots : (k : ℕ) → k < length os → slice_index_or os' k None ≡ cond (j == k) (laid c reply (slice_index_or os k None)) (slice_index_or os k None)
  pub kept : Kept p q
  pub then : state q ≡ going p.mark (size p.book.below) (state p) (changing c reply)

-- what one step makes of the planners and the slots
pub record Performed {B R : Type 0} (L Q : Type 0) (size : B → ℕ) (answers : B → ℕ → ℕ → Option ℕ) (automata : R → Automaton) (on : Ground)
    (ps : List (Planner B R)) (os : List (Option Bulletin)) (s : Step)
    (ps' : List (Planner B R)) (os' : List (Option Bulletin)) (s' : Step) : Type 0 where
  pub same_planner : s'.planner ≡ s.planner
  pub same_action : s'.action ≡ s.action
  pub absent : Absent ps s s'
  pub replied : (d : Planner B R) → s.planner < length ps
      → Replied L Q on (meaning size answers automata (slice_index_or ps s.planner d)) (state (slice_index_or ps s.planner d)) (length os) (λ j. get_or os j None) s.slip s'.slip s'.reply s.action
  pub others : (i : ℕ) (d : Planner B R) → (i ≢ s.planner) → slice_index_or ps' i d ≡ slice_index_or ps i d
  pub kept : (d : Planner B R) → s.planner < length ps → Kept (slice_index_or ps s.planner d) (slice_index_or ps' s.planner d)
  pub then : (d : Planner B R) → s.planner < length ps
      → state (slice_index_or ps' s.planner d) ≡ going (get_or ps s.planner d).mark (size (get_or ps s.planner d).book.below) (state (slice_index_or ps s.planner d)) (call_of s'.action s'.reply)
  pub slots : (j : ℕ) → j < length os → slice_index_or os' j None ≡ held_by j s'.action s'.reply (slice_index_or os j None)

-- what a script does over several planners and slots
pub record Ran {B R : Type 0} (L Q : Type 0) (size : B → ℕ) (answers : B → ℕ → ℕ → Option ℕ) (automata : R → Automaton) (on : Ground)
    (ps : List (Planner B R)) (os : List (Option Bulletin)) (ss : List Step)
    (ps' : List (Planner B R)) (os' : List (Option Bulletin)) (ss' : List Step) : Type 0 where
  -- the steps are the script's
  pub same_planner : (k : ℕ) (e : Step) → (get_or ss' k e).planner ≡ (get_or ss k e).planner
  pub same_action : (k : ℕ) (e : Step) → (get_or ss' k e).action ≡ (get_or ss k e).action
  pub absent : (k : ℕ) (e : Step) → k < length ss → Absent ps (slice_index_or ss k e) (slice_index_or ss' k e)
  -- each planner alone: each step at it is answered by the ledger of all calls that it got before, whatever calls the others got
  pub answered : (k : ℕ) (e : Step) → k < length ss → AnsweredAfter L Q size answers automata on ps os (take k ss') (slice_index_or ss k e) (slice_index_or ss' k e)
  -- and then it is as the ledger of all its calls says, over the same book, with the same rule and mark
  pub alone : (i : ℕ) (d : Planner B R) (h : List Call) → i < length ps → AsLedger size (slice_index_or ps i d) h → AsLedger size (slice_index_or ps' i d) (h ++ calls_at i ss')
  pub kept : (i : ℕ) (d : Planner B R) → i < length ps → Kept (slice_index_or ps i d) (slice_index_or ps' i d)
  -- the slots hold what the replies tell
  pub slots : (j : ℕ) → j < length os → slice_index_or os' j None ≡ held j ss' (slice_index_or os j None)

-- a step that left the label table and the queue alone, by what came of it: it was no ask, or an ask refused by one of the tests that come
-- before the search
abbrev pub Unsearched : Result Found Refusal → Type 0
Unsearched (Ok f) = ⊥
Unsearched (Err f) = (f ≢ NoJourney) × (f ≢ RowsShort)

abbrev pub Quiet : Reply → Type 0
Quiet Idle = Unit {0}
Quiet (Answered r) = Unsearched r
Quiet (Opened r) = Unit {0}
Quiet (Shown m r) = Unit {0}

-- label table and queue after a step, and after a script: as they were, where the steps left them alone
abbrev pub TablesAfter : {L Q : Type 0} → Reply → List L → List L → List Q → List Q → Type 0
TablesAfter reply labels labels' slots slots' = Quiet reply → (labels' ≡ labels) × (slots' ≡ slots)

abbrev pub TablesKept : {L Q : Type 0} → List Step → ℕ → List L → List L → List Q → List Q → Type 0
TablesKept ss n labels labels' slots slots' =
    ((k : ℕ) (e : Step) → k < n → Quiet (get_or ss k e).reply) → (labels' ≡ labels) × (slots' ≡ slots)

-- the same tables lent, and as long as they were
abbrev pub SameTables : SearchTables → SearchTables → Type 0
SameTables t t' =
    (t'.labels.ghost_name ≡ t.labels.ghost_name) × (t'.slots.ghost_name ≡ t.slots.ghost_name)
    × (length t'.labels.now ≡ length t.labels.now) × (length t'.slots.now ≡ length t.slots.now)
