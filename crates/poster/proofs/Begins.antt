-- The queue at its start, arc by arc.
use Rattle.std.proofs.Common.{◌≡◌, ℕ, ◌+◌, ◌-◌, ◌<◌, ◌≤◌, Bool, true, false, cond, eqb, List, [], ◌∷◌, length, get_or, Some, None, sum_by, Option, sym, refl, ap, subst, ⊎_elim, arith}
use Rattle.std.specs.List.Sorted.{IsPermutation}
use Rattle.std.proofs.ByRecursion.{All-weaker, all_shuffled, has_shuffled}
use Rattle.std.proofs.lemmas.List.Sorted.{sum_by-IsPermutation}
use Rattle.std.proofs.lemmas.List.Sums.{sum_by-cons}
use Rattle.std.proofs.lemmas.Bool.{ne_eqb, cases_lt, cases_eq}
use Rattle.meanings.specs.Timetables.{caught, no_connection, Rising}
use Rattle.poster.specs.declared.departure.Departure.{Departure}
use Rattle.poster.specs.Boards.{Listing}
use Rattle.poster.specs.Merging.{departure_at, At, Added, line, left, on, DueOn, Begun}
use Rattle.queue.proofs.Facts.{has_front, has_behind}
use Rattle.poster.proofs.Lines.{caught_few, first_in_time, in_time_from}
use Rattle.poster.proofs.Merges.{on_none}

at_most_one : (b : Bool) → cond b 1 0 ≤ 1
at_most_one true = omega arith
at_most_one false = omega arith

-- the arcs from `low` up to `high`
abbrev pub Between : ℕ → ℕ → ℕ → Type 0
Between low high a = (low ≤ a) × (a < high)

module _ (l : Listing) (low : ℕ) where
  pub begun_none : Begun l (Between low low) [] 0
  begun_none = record {
    due = tt;
    one_each = λ a. omega arith;
    ahead = λ d p. let b : Between low low d.arc = p.among in absurd (omega arith);
    counted = refl;
  }

  -- of some arcs, and so of these and one more
  wider : (i : ℕ) (d : Departure) → DueOn l (Between low i) d → DueOn l (Between low (i + 1)) d
  wider i d p = let b : Between low i d.arc = p.among in record { among = (b.0, omega arith); inside = p.inside; departs = p.departs; in_time = p.in_time }

  narrower : (i : ℕ) (d : Departure) → d.arc < i → DueOn l (Between low (i + 1)) d → DueOn l (Between low i) d
  narrower i d b p = record { among = (p.among.0, b); inside = p.inside; departs = p.departs; in_time = p.in_time }

  module _ (i count n : ℕ) (q : List Departure) (from : low ≤ i) (up : Rising (line l i)) (is : n ≡ length (caught l.second (line l i))) (b : Begun l (Between low i) q count) where
    few : n ≤ length (line l i)
    few = omega (arith, caught_few (line l i) l.second up)

    -- a departure due on the arc i stands at or behind the first place
    behind_first : (d : Departure) → DueOn l (Between low (i + 1)) d → d.arc ≡ i → length (line l i) - n ≤ d.place
    behind_first d p e =
        let inside : d.place < length (line l i) = subst (λ (a : ℕ). d.place < length (line l a)) e p.inside in
        let departs : d.departure ≡ (get_or (line l i) d.place no_connection).departure = subst (λ (a : ℕ). d.departure ≡ (get_or (line l a) d.place no_connection).departure) e p.departs in
        let t : l.second ≤ d.departure = p.in_time in
        omega (arith, in_time_from (line l i) l.second up d.place inside (omega arith))

    -- no departure is due on the arc i
    pub begun_skip : length (line l i) ≤ length (line l i) - n → Begun l (Between low (i + 1)) q (count + n)
    begun_skip over = record {
      due = All-weaker (DueOn l (Between low i)) (DueOn l (Between low (i + 1))) (wider i) q b.due;
      one_each = b.one_each;
      ahead = λ d p. ⊎_elim
          (λ lt. b.ahead d (narrower i d lt p))
          (λ ge.
          let below : d.arc < i + 1 = p.among.1 in
          let e : d.arc ≡ i = omega arith in
          let inside : d.place < length (line l i) = subst (λ (a : ℕ). d.place < length (line l a)) e p.inside in
          absurd (omega (arith, behind_first d p e)))
          (cases_lt d.arc i);
      counted = let c : count ≡ sum_by (left l) q = b.counted in let f = few in omega arith;
    }

    -- the first one is queued
    pub begun_more : length (line l i) - n < length (line l i) → (r : List Departure) → IsPermutation (departure_at (line l i) i (length (line l i) - n) ∷ q) r → Begun l (Between low (i + 1)) r (count + n)
    begun_more within r s =
        let first : Departure = departure_at (line l i) i (length (line l i) - n) in
        let f : DueOn l (Between low (i + 1)) first = record {
          among = (from, omega arith);
          inside = within;
          departs = refl;
          in_time = first_in_time (line l i) l.second up (length (line l i) - n) (omega arith) within;
        } in
        record {
          due = all_shuffled (DueOn l (Between low (i + 1))) (first ∷ q) r s (f, All-weaker (DueOn l (Between low i)) (DueOn l (Between low (i + 1))) (wider i) q b.due);
          one_each = λ a.
              let e : sum_by (on a) r ≡ sum_by (on a) (first ∷ q) = sum_by-IsPermutation (on a) (first ∷ q) r s in
              let c : sum_by (on a) (first ∷ q) ≡ on a first + sum_by (on a) q = sum_by-cons (on a) first q in
              ⊎_elim
              (λ same.
              let none : sum_by (on a) q ≡ 0 = on_none a q (All-weaker (DueOn l (Between low i)) (λ y. y.arc ≡ a → ⊥) (λ y p h. let below : y.arc < i = p.among.1 in omega arith) q b.due) in
              let one : on a first ≤ 1 = at_most_one (eqb i a) in
              omega arith)
              (λ other.
              let none : on a first ≡ 0 = ap (λ t. cond t 1 0) (ne_eqb i a other) in
              let old : sum_by (on a) q ≤ 1 = b.one_each a in
              omega arith)
              (cases_eq i a);
          ahead = λ d p. ⊎_elim
              (λ lt. let h = b.ahead d (narrower i d lt p) in (h.0, has_shuffled (first ∷ q) r h.0 s (has_behind first q h.0 h.1), h.2, h.3))
              (λ ge.
              let below : d.arc < i + 1 = p.among.1 in
              let e : i ≡ d.arc = omega arith in
              (first, has_shuffled (first ∷ q) r first s (has_front first q), e, behind_first d p (sym e)))
              (cases_lt d.arc i);
          counted =
              let c : count ≡ sum_by (left l) q = b.counted in
              let e : sum_by (left l) r ≡ sum_by (left l) (first ∷ q) = sum_by-IsPermutation (left l) (first ∷ q) r s in
              let g : sum_by (left l) (first ∷ q) ≡ (length (line l i) - (length (line l i) - n)) + sum_by (left l) q = sum_by-cons (left l) first q in
              omega (arith, few);
        }

    -- the one or the other, as the look at the place says
    pub begun_next : (o : Option Departure) → At (line l i) i (length (line l i) - n) o → (r : List Departure) → Added q o r → Begun l (Between low (i + 1)) r (count + n)
    begun_next None at r e = subst (λ (z : List Departure). Begun l (Between low (i + 1)) z (count + n)) (sym e) (begun_skip at)
    begun_next (Some d) at r s = begun_more at.0 r (subst (λ (z : Departure). IsPermutation (z ∷ q) r) at.1 s.0)

-- how much longer a queue becomes
pub added_few : (q : List Departure) (o : Option Departure) (r : List Departure) → Added q o r → length r ≤ length q + 1
added_few q None r e = omega (arith, ap length e)
added_few q (Some d) r s = omega (arith, s.1)
