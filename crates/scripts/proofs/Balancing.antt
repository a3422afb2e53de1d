-- A bulletin goes out where a draft opens, and is taken in where it closes.
use Rattle.std.proofs.Common.{◌≡◌, ℕ, ◌+◌, ◌<◌, Bool, true, false, cond, eqb, List, length, get_or, set, Some, None, Option, sym, refl, ap, ◌∙◌, arith}
use Rattle.std.proofs.lemmas.Bool.{eqb-true}
use Rattle.std.proofs.lemmas.List.{set-set}
use Rattle.std.proofs.lemmas.List.Sums.{sum_by-set}
use Rattle.std.specs.List.{count_by}
use Rattle.model.specs.declared.refusal.Refusal.{Refusal}
use Rattle.model.specs.declared.refusal.Refusal.TheVariants.{NoSuchBulletin}
use Rattle.notices.specs.declared.notice.Notice.{Notice}
use Rattle.notices.specs.Notices.{unless, handing, put_in, lift_from}
use Rattle.ledger.specs.Ledgers.{Ledger, good, going, refusal, Put as PutCall, Lift as LiftCall}
use Rattle.planner.specs.declared.planner.Bulletin.{Bulletin}
use Rattle.planner.specs.declared.planner.Planner.{Planner}
use Rattle.planner.specs.Planners.{state}
use Rattle.scripts.specs.declared.step.Change.{Change}
use Rattle.scripts.specs.declared.step.Change.TheVariants.{Open, Put, Lift, Issue, TearUp}
use Rattle.scripts.specs.declared.step.Reply.{Reply}
use Rattle.scripts.specs.Scripts.{changing, laid, returned, reply_of, Changed}
use Rattle.scripts.specs.Balances.{bit, knows, holds, Balanced, SlotBalance, SlotsBalance}

abbrev drafting : List Notice → List Notice → Ledger
drafting s ns = record { standing = s; draft = Some ns }

abbrev idle : List Notice → Ledger
idle s = record { standing = s; draft = None }

-- an edit leaves the draft open, whether it is refused or not
edited : (k m : ℕ) (s ns x : List Notice) (r : Option Refusal) → good k m (unless r (drafting s x) (drafting s ns)) ≡ good k m (drafting s ns)
edited k m s ns x None = refl
edited k m s ns x (Some e) = refl

-- a draft that closes takes its bulletin in; where it stays open the bulletin comes back
spent : (k m : ℕ) (s ns t : List Notice) (b : Bulletin)
    → bit (good k m (unless (cond (eqb b.mark k) None (Some NoSuchBulletin)) (idle t) (drafting s ns))) + bit (eqb m b.mark)
    ≡ bit (good k m (drafting s ns)) + bit (holds m (returned (handing tt (cond (eqb b.mark k) None (Some NoSuchBulletin))) (Some b)))
spent k m s ns t b =
    elim (eqb b.mark k) as (λ (y : Bool). eqb b.mark k ≡ y
    → bit (good k m (unless (cond y None (Some NoSuchBulletin)) (idle t) (drafting s ns))) + bit (eqb m b.mark)
    ≡ bit (good k m (drafting s ns)) + bit (holds m (returned (handing tt (cond y None (Some NoSuchBulletin))) (Some b)))) [
      | true ↦ λ e. let same : bit (eqb m b.mark) ≡ bit (eqb m k) = ap (λ (n : ℕ). bit (eqb m n)) (eqb-true _ _ e) in omega arith
      | false ↦ λ _. refl
    ] refl

abbrev OneCall : ℕ → ℕ → Ledger → Change → Option Bulletin → ℕ → Type 0
OneCall k count g c o m =
    bit (good k m (going k count g (changing c (reply_of k count g c o)))) + bit (holds m o) ≡ bit (good k m g) + bit (holds m (laid c (reply_of k count g c o) o))

one_call : (k count : ℕ) (s : List Notice) (d : Option (List Notice)) (c : Change) (o : Option Bulletin) (m : ℕ) → OneCall k count (record { standing = s; draft = d }) c o m
one_call k count s None Open None m = omega arith
one_call k count s (Some ns) Open None m = refl
one_call k count s d Open (Some b) m = refl
one_call k count s d (Put n) None m = refl
one_call k count s None (Put n) (Some b) m = refl
one_call k count s (Some ns) (Put n) (Some b) m =
    ap (λ (x : Bool). bit x + bit (eqb m b.mark)) (edited k m s ns (put_in n ns) (refusal k count (drafting s ns) (PutCall b.mark n)))
one_call k count s d (Lift n) None m = refl
one_call k count s None (Lift n) (Some b) m = refl
one_call k count s (Some ns) (Lift n) (Some b) m =
    ap (λ (x : Bool). bit x + bit (eqb m b.mark)) (edited k m s ns (lift_from n ns) (refusal k count (drafting s ns) (LiftCall b.mark n)))
one_call k count s d Issue None m = refl
one_call k count s None Issue (Some b) m = refl
one_call k count s (Some ns) Issue (Some b) m = spent k m s ns ns b
one_call k count s d TearUp None m = refl
one_call k count s None TearUp (Some b) m = refl
one_call k count s (Some ns) TearUp (Some b) m = spent k m s ns s b

pub slot_balance : {B R : Type 0} (size : B → ℕ) (c : Change) (o o' : Option Bulletin) (reply : Reply) (p q : Planner B R) → Changed size c o o' reply p q → SlotBalance p q o o'
slot_balance size c o o' reply p q ch m =
    let k = p.mark in
    let g = state p in
    let r = reply_of k (size p.book.below) g c o in
    let one : OneCall k (size p.book.below) g c o m = one_call k (size p.book.below) g.standing g.draft c o m in
    let then : state q ≡ going k (size p.book.below) g (changing c r) = ch.then ∙ ap (λ (x : Reply). going k (size p.book.below) g (changing c x)) ch.replied in
    let slot : o' ≡ laid c r o = ch.slot ∙ ap (λ (x : Reply). laid c x o) ch.replied in
    let left : bit (knows m q) ≡ bit (good k m (going k (size p.book.below) g (changing c r))) = λ i. bit (good (ch.kept.mark i) m (then i)) in
    let right : bit (holds m o') ≡ bit (holds m (laid c r o)) = ap (λ (x : Option Bulletin). bit (holds m x)) slot in
    omega (arith, one, left, right)

-- one slot of many
pub slots_balance : {B R : Type 0} (j : ℕ) (os : List (Option Bulletin)) (p q : Planner B R) (o o₂ o' x : Option Bulletin)
    → j < length os → o ≡ get_or os j None → o' ≡ o₂ → SlotBalance p q o o₂ → SlotsBalance p q os (set (set os j x) j o')
slots_balance j os p q o o₂ o' x lt look lays one m =
    let total = sum_by-set (λ (s : Option Bulletin). bit (holds m s)) os j o' None lt in
    let was : bit (holds m (get_or os j None)) ≡ bit (holds m o) = ap (λ (s : Option Bulletin). bit (holds m s)) (sym look) in
    let new_is : bit (holds m o') ≡ bit (holds m o₂) = ap (λ (s : Option Bulletin). bit (holds m s)) lays in
    let twice : count_by (holds m) (set (set os j x) j o') ≡ count_by (holds m) (set os j o') = ap (λ (l : List (Option Bulletin)). count_by (holds m) l) (set-set os j x o') in
    omega (arith, total, was, new_is, twice, one m)

-- one planner of many
pub balanced_set : {B R : Type 0} (i : ℕ) (ps : List (Planner B R)) (os os' : List (Option Bulletin)) (q d : Planner B R)
    → i < length ps → SlotsBalance (get_or ps i d) q os os' → Balanced ps os → Balanced (set ps i q) os'
balanced_set i ps os os' q d lt one all m =
    let total = sum_by-set (λ (p : Planner _ _). bit (knows m p)) ps i q d lt in
    omega (arith, total, one m, all m)
