-- What notices say, what they make of a book's answers, and how one is put among others and lifted.
use Rattle.std.specs.Prelude.{ℕ, suc, ◌+◌, Bool, false, cond, ◌&&◌, ◌||◌, List, [], ◌∷◌, Some, None, Ok, Err, Option, Result, ◌==◌, nat_le, nat_lt}
use Rattle.std.specs.List.{find}
use Rattle.model.specs.Clock.{horizon}
use Rattle.model.specs.declared.refusal.Refusal.{Refusal}
use Rattle.model.specs.declared.refusal.Refusal.TheVariants.{NoticesFull, NothingToLift}
use Rattle.notices.specs.declared.notice.Notice.{Notice}

-- lateness and shutting are within the horizon, and the shutting does not end before it begins
abbrev pub in_range : Notice → Bool
in_range n = nat_le n.lateness horizon && nat_le n.shut n.until && nat_le n.until horizon

-- who comes while a service is shut goes on when it opens, anyone else at once
abbrev pub going : Notice → ℕ → ℕ
going n t = cond (nat_le n.shut t && nat_lt t n.until) n.until t

-- an arrival that much later, or none above the horizon
abbrev pub delayed : ℕ → Option ℕ → Option ℕ
delayed late None = None
delayed late (Some a) = cond (nat_le (a + late) horizon) (Some (a + late)) None

-- the notice of service s
abbrev pub notice_of : ℕ → List Notice → Option Notice
notice_of s ns = find (λ n. n.service == s) ns

-- one service's answers under its notice, if it has one
abbrev pub under : Option Notice → (ℕ → Option ℕ) → ℕ → Option ℕ
under None f t = f t
under (Some n) f t = delayed n.lateness (f (going n t))

-- a book's answers under notices
abbrev pub noticed : List Notice → (ℕ → ℕ → Option ℕ) → ℕ → ℕ → Option ℕ
noticed ns f s t = under (notice_of s ns) (f s) t

-- whether there is a notice of service s
abbrev pub has : ℕ → List Notice → Bool
has s [] = false
has s (n ∷ ns) = n.service == s || has s ns

-- how many notices are of other services than s
abbrev pub others : ℕ → List Notice → ℕ
others s [] = 0
others s (n ∷ ns) = cond (n.service == s) (others s ns) (suc (others s ns))

-- n in place of the notice of its service, or at the end
abbrev pub put_in : Notice → List Notice → List Notice
put_in n [] = n ∷ []
put_in n (m ∷ ms) = cond (m.service == n.service) (n ∷ ms) (m ∷ put_in n ms)

-- without the notice of service s, the later ones moved up
abbrev pub lift_from : ℕ → List Notice → List Notice
lift_from s [] = []
lift_from s (m ∷ ms) = cond (m.service == s) ms (m ∷ lift_from s ms)

-- why a notice cannot be put among others: there are sixty-four of other services
abbrev pub put_refusal : Notice → List Notice → Option Refusal
put_refusal n ns = cond (nat_lt (others n.service ns) 64) None (Some NoticesFull)

-- why nothing can be lifted: the service has no notice
abbrev pub lift_refusal : ℕ → List Notice → Option Refusal
lift_refusal s ns = cond (has s ns) None (Some NothingToLift)

-- the first where nothing refuses, else the second
abbrev pub unless : {X : Type 0} → Option Refusal → X → X → X
unless None x y = x
unless (Some e) x y = y

-- an answer that hands x out where nothing refuses
abbrev pub handing : {X : Type 0} → X → Option Refusal → Result X Refusal
handing x None = Ok x
handing x (Some e) = Err e

-- what n becomes where m is written over it
abbrev pub amended : Notice → Notice → Notice
amended n m = record { service = n.service; lateness = m.lateness; shut = m.shut; until = m.until }
