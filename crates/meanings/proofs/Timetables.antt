-- A timetable book is a book, and its answers are least arrivals.
use Rattle.std.proofs.Common.{◌≡◌, ℕ, zero, suc, min, ◌+◌, ◌<◌, ◌≤◌, Bool, true, false, cond, leb, List, [], ◌∷◌, length, get_or, drop, Some, None, Option, refl, ap, ◌∙◌, ⊎_elim, arith}
use Rattle.std.specs.List.{AllByRecursion, fold, reduce}
use Rattle.std.specs.List.Sorted.{IsNonDecreasingBy}
use Rattle.std.proofs.lemmas.Bool.{le-leb, lt-leb, cases_lt}
use Rattle.std.proofs.ByRecursion.{All-from_get_or}
use Rattle.std.proofs.lemmas.List.{get_or_default}
use Rattle.std.proofs.lemmas.List.Sorted.{IsNonDecreasingBy-from_all_adjacent}
use Rattle.model.specs.Books.{LawfulBook, Fair, Within, NoLater}
use Rattle.model.specs.Clock.{horizon}
use Rattle.model.specs.declared.tables.Connection.{Connection}
use Rattle.model.specs.declared.tables.Span.{Span}
use Rattle.meanings.specs.Spans.{most_services, service_rows, Each}
use Rattle.meanings.specs.Timetables.{sooner, least, caught, arrivals, earliest, no_connection, timetabled, Rising, Forward, Timely}
use Rattle.meanings.proofs.Laws.{listed_lawful}

-- no earlier than it departs, a connection arrives by the horizon
abbrev TimelyOne : Connection → Type 0
TimelyOne c = (c.departure ≤ c.arrival) × (c.arrival ≤ horizon)

-- one connection before the others
pub earliest_cons : (c : Connection) (cs : List Connection) (t : ℕ) → earliest (c ∷ cs) t ≡ cond (leb t c.departure) (sooner c.arrival (earliest cs t)) (earliest cs t)
earliest_cons c cs t = go (leb t c.departure)
  where
    go : (b : Bool) → least (arrivals (cond b (c ∷ caught t cs) (caught t cs))) ≡ cond b (sooner c.arrival (earliest cs t)) (earliest cs t)
    go true = refl
    go false = refl

-- one that can be caught, and one that cannot
pub earliest_caught : (c : Connection) (cs : List Connection) (t : ℕ) → t ≤ c.departure → earliest (c ∷ cs) t ≡ sooner c.arrival (earliest cs t)
earliest_caught c cs t h = earliest_cons c cs t ∙ rw (le-leb t c.departure h)

pub earliest_missed : (c : Connection) (cs : List Connection) (t : ℕ) → c.departure < t → earliest (c ∷ cs) t ≡ earliest cs t
earliest_missed c cs t h = earliest_cons c cs t ∙ rw (lt-leb t c.departure h)

sooner_within : (a low : ℕ) (o : Option ℕ) → low ≤ a → a ≤ horizon → Within low horizon o → Within low horizon (sooner a o)
sooner_within a low None h k w = (h, k)
sooner_within a low (Some b) h k w = omega arith

sooner_mono : (a : ℕ) (o p : Option ℕ) → NoLater o p → NoLater (sooner a o) (sooner a p)
sooner_mono a None None h = omega arith
sooner_mono a None (Some c) h = absurd h
sooner_mono a (Some b) None h = omega arith
sooner_mono a (Some b) (Some c) h = omega arith

sooner_no_later : (a : ℕ) (o p : Option ℕ) → NoLater o p → NoLater (sooner a o) p
sooner_no_later a None None h = tt
sooner_no_later a None (Some c) h = absurd h
sooner_no_later a (Some b) None h = tt
sooner_no_later a (Some b) (Some c) h = omega arith

earliest_late : (cs : List Connection) → AllByRecursion TimelyOne cs → (t : ℕ) → horizon < t → earliest cs t ≡ None
earliest_late [] s t h = refl
earliest_late (c ∷ cs) s t h = earliest_missed c cs t (omega arith) ∙ earliest_late cs s.1 t h

earliest_forward : (cs : List Connection) → AllByRecursion TimelyOne cs → (t : ℕ) → Within t horizon (earliest cs t)
earliest_forward [] s t = tt
earliest_forward (c ∷ cs) s t = ⊎_elim
    (λ h. rw (earliest_missed c cs t h) (earliest_forward cs s.1 t))
    (λ h. rw (earliest_caught c cs t h) (sooner_within c.arrival t (earliest cs t) (omega arith) (omega arith) (earliest_forward cs s.1 t)))
    (cases_lt c.departure t)

earliest_fifo : (cs : List Connection) (t u : ℕ) → t ≤ u → NoLater (earliest cs t) (earliest cs u)
earliest_fifo [] t u h = tt
earliest_fifo (c ∷ cs) t u h = ⊎_elim
    (λ m. rw (earliest_missed c cs u m) (⊎_elim
    (λ k. rw (earliest_missed c cs t k) (earliest_fifo cs t u h))
    (λ k. rw (earliest_caught c cs t k) (sooner_no_later c.arrival (earliest cs t) (earliest cs u) (earliest_fifo cs t u h)))
    (cases_lt c.departure t)))
    (λ m. let k : t ≤ c.departure = omega arith in rw (earliest_caught c cs u m, earliest_caught c cs t k) (sooner_mono c.arrival (earliest cs t) (earliest cs u) (earliest_fifo cs t u h)))
    (cases_lt c.departure u)

pub earliest_fair : (cs : List Connection) → AllByRecursion TimelyOne cs → Fair (earliest cs)
earliest_fair cs s = record { late = earliest_late cs s; forward = earliest_forward cs s; fifo = earliest_fifo cs }

pub timetabled_lawful : (cs : List Connection) (spans : List Span) → length spans ≤ most_services → Each Forward cs spans → Each Timely cs spans → LawfulBook (length spans) (timetabled cs spans)
timetabled_lawful cs spans few forward timely =
    listed_lawful (length spans) (λ s t. earliest (service_rows cs spans s) t) (omega arith)
    (λ s h. earliest_fair (service_rows cs spans s) (All-from_get_or TimelyOne (service_rows cs spans s) no_connection (λ j l. (forward s h j l, timely s h j l))))

sooner_both : (a b : ℕ) (o : Option ℕ) → sooner (min a b) o ≡ sooner a (sooner b o)
sooner_both a b None = refl
sooner_both a b (Some c) = ap Some (omega arith)

least_fold : (a : ℕ) (xs : List ℕ) → Some (fold min a xs) ≡ sooner a (least xs)
least_fold a [] = refl
least_fold a (x ∷ xs) = least_fold (min a x) xs ∙ sooner_both a x (least xs)

-- the least of some seconds, as the library has it
pub reduce_least : (xs : List ℕ) → reduce min xs ≡ least xs
reduce_least [] = refl
reduce_least (x ∷ xs) = least_fold x xs

-- where departures before a place are too early, and those from it on are not, the rows from it on are those that one can take
pub caught_from : (cs : List Connection) (t i : ℕ) → ((k : ℕ) → k < i → (get_or cs k no_connection).departure < t) → ((k : ℕ) → i ≤ k → k < length cs → t ≤ (get_or cs k no_connection).departure) → i ≤ length cs → caught t cs ≡ drop i cs
caught_from [] t zero before after inside = refl
caught_from [] t (suc i) before after inside = absurd (omega arith)
caught_from (c ∷ cs) t zero before after inside =
    let h : t ≤ c.departure = after 0 (omega arith) (omega arith) in
    rw (le-leb t c.departure h) (ap (λ l. c ∷ l) (caught_from cs t zero (λ k l. absurd (omega arith)) (λ k l m. after (suc k) (omega arith) (omega arith)) (omega arith)))
caught_from (c ∷ cs) t (suc i) before after inside =
    let h : c.departure < t = before 0 (omega arith) in
    rw (lt-leb t c.departure h) (caught_from cs t i (λ k l. before (suc k) (omega arith)) (λ k l m. after (suc k) (omega arith) (omega arith)) (omega arith))

-- departures that do not fall from one connection to the next do not fall at all
pub never_falls : (cs : List Connection) → Rising cs → IsNonDecreasingBy (λ c. c.departure) cs
never_falls cs up = IsNonDecreasingBy-from_all_adjacent (λ (c : Connection). c.departure) cs by_any
  where
    by_any : (k : ℕ) (d : Connection) → k + 1 < length cs → (get_or cs k d).departure ≤ (get_or cs (k + 1) d).departure
    by_any k d h =
        omega (arith, up k h, ap (λ (c : Connection). c.departure) (get_or_default cs k d no_connection (omega arith)), ap (λ (c : Connection). c.departure) (get_or_default cs (k + 1) d no_connection h))

-- what one look at the middle of a list tells
module _ (cs : List Connection) (up : Rising cs) (t m : ℕ) (inside : m < length cs) where
  pub missed_to : (get_or cs m no_connection).departure < t → (k : ℕ) → k < m + 1 → (get_or cs k no_connection).departure < t
  missed_to h k l = omega (arith, never_falls cs up k m no_connection (omega arith) inside)

  pub caught_on : t ≤ (get_or cs m no_connection).departure → (k : ℕ) → m ≤ k → k < length cs → t ≤ (get_or cs k no_connection).departure
  caught_on h k le l = omega (arith, never_falls cs up m k no_connection le l)

-- a second is the least arrival of the connections that depart at or after t: one of them attains it, and none is earlier;
-- or there is none of those
abbrev pub IsLeast : List Connection → ℕ → Option ℕ → Type 0
IsLeast cs t None = (k : ℕ) → k < length cs → (get_or cs k no_connection).departure < t
IsLeast cs t (Some a) =
    ((k : ℕ) × (k < length cs) × (t ≤ (get_or cs k no_connection).departure) × ((get_or cs k no_connection).arrival ≡ a))
    × ((k : ℕ) → k < length cs → t ≤ (get_or cs k no_connection).departure → a ≤ (get_or cs k no_connection).arrival)

-- what is caught first is the least of all
sooner_least : (c : Connection) (cs : List Connection) (t : ℕ) (o : Option ℕ) → t ≤ c.departure → IsLeast cs t o → IsLeast (c ∷ cs) t (sooner c.arrival o)
sooner_least c cs t None h p = ((0, omega arith, h, refl), elim [ zero ↦ λ l k. omega arith | suc j ↦ λ l k. let m = p j (omega arith) in omega arith ])
sooner_least c cs t (Some a) h p = ⊎_elim
    (λ l. ((0, omega arith, h, omega arith), elim [ zero ↦ λ i k. omega arith | suc j ↦ λ i k. let m = p.1 j (omega arith) k in omega arith ]))
    (λ l. let q = p.0 in ((suc q.0, omega arith, q.2, q.3 ∙ omega arith), elim [ zero ↦ λ i k. omega arith | suc j ↦ λ i k. let m = p.1 j (omega arith) k in omega arith ]))
    (cases_lt c.arrival a)

missed_least : (c : Connection) (cs : List Connection) (t : ℕ) (o : Option ℕ) → c.departure < t → IsLeast cs t o → IsLeast (c ∷ cs) t o
missed_least c cs t None h p = elim [ zero ↦ λ i. h | suc j ↦ λ i. p j (omega arith) ]
missed_least c cs t (Some a) h p =
    let q = p.0 in
    ((suc q.0, omega arith, q.2, q.3), elim [ zero ↦ λ i k. omega arith | suc j ↦ λ i k. p.1 j (omega arith) k ])

pub earliest_least : (cs : List Connection) (t : ℕ) → IsLeast cs t (earliest cs t)
earliest_least [] t = λ k h. omega arith
earliest_least (c ∷ cs) t = ⊎_elim
    (λ h. rw (earliest_missed c cs t h) (missed_least c cs t (earliest cs t) h (earliest_least cs t)))
    (λ h. rw (earliest_caught c cs t h) (sooner_least c cs t (earliest cs t) h (earliest_least cs t)))
    (cases_lt c.departure t)
