-- The cuts of a list of arcs by ascending tail.
use Rattle.std.specs.declared.ops.Range.{Range}
use Rattle.std.specs.List.{slice_range}
use Rattle.std.specs.List.Sorted.{IsPartitionPoint, IsPartitionedBy}
use Rattle.std.specs.Option.{unwrap_or}
use Rattle.std.specs.Prelude.{Option, Some, None, IfSome, true, false, nat_lt}
use Rattle.std.proofs.Common.{◌≡◌, ℕ, ◌+◌, ◌-◌, ◌<◌, ◌≤◌, List, length, get_or, drop, ap, ◌∙◌, ⊎_elim, arith, length-take, length-drop}
use Rattle.std.proofs.lemmas.List.Sorted.{IsNonDecreasingBy-from_all_adjacent, IsNonDecreasingBy-take, IsNonDecreasingBy-drop, IsPartitionedBy-ltb}
use Rattle.std.proofs.lemmas.List.{get_or_default, get_or-take, get_or-drop}
use Rattle.std.proofs.lemmas.Bool.{cases_lt, ltb-true, ltb-false}
use Rattle.model.specs.declared.network.Arc.{Arc}
use Rattle.network.proofs.Passing.{none}
use Rattle.network.specs.Sound.{Ascending, Cut, Below, Above, Around, NoneAbove, Strides, Leaving}

pub climbs : (arcs : List Arc) → Ascending arcs → (i j : ℕ) (d : Arc) → i ≤ j → j < length arcs → (get_or arcs i d).tail ≤ (get_or arcs j d).tail
climbs arcs up = IsNonDecreasingBy-from_all_adjacent (λ a. a.tail) arcs up

-- between the cuts at a stop and at the next lie the arcs that leave it
pub leaving_from_cuts : (arcs : List Arc) (stop a b : ℕ) → Cut arcs stop a → Cut arcs (stop + 1) b → Leaving arcs stop (record { start = a; end = b })
leaving_from_cuts arcs stop a b low high =
    record {
      ordered = ⊎_elim (λ lt. absurd (omega (arith, low.before b none lt, high.after b none (omega arith) (omega (arith, low.within))))) (λ le. le) (cases_lt b a);
      within = high.within;
      lower = low.before;
      leave = λ k d from to. omega (arith, low.after k d from (omega (arith, high.within)), high.before k d to);
      higher = λ k d from lt. omega (arith, high.after k d from lt);
      all = λ k d lt is. (⊎_elim (λ l. absurd (omega (arith, low.before k d l))) (λ le. le) (cases_lt k a), ⊎_elim (λ l. l) (λ le. absurd (omega (arith, high.after k d le lt))) (cases_lt k b));
    }

-- what one look at the middle tells
module _ (arcs : List Arc) (up : Ascending arcs) (stop m : ℕ) (z : Arc) (lt : m < length arcs) where
  pub before_more : (get_or arcs m z).tail < stop → (k : ℕ) (d : Arc) → k < m + 1 → (get_or arcs k d).tail < stop
  before_more h k d l = omega (arith, climbs arcs up k m d (omega arith) lt, ap (λ (a : Arc). a.tail) (get_or_default arcs m d z lt))

  pub after_more : stop ≤ (get_or arcs m z).tail → (k : ℕ) (d : Arc) → m ≤ k → k < length arcs → stop ≤ (get_or arcs k d).tail
  after_more h k d le l = omega (arith, climbs arcs up m k d le l, ap (λ (a : Arc). a.tail) (get_or_default arcs m d z lt))

-- from the cut at a stop on no tail is above it yet
pub none_above : (arcs : List Arc) (stop n : ℕ) → Cut arcs stop n → NoneAbove arcs stop n
none_above arcs stop n cut k d lt = omega (arith, cut.before k d lt)

-- strides of one end at the cut of the next stop
pub single_strides : (arcs : List Arc) → Ascending arcs → (stop n : ℕ) → Strides arcs stop 1 n → Cut arcs (stop + 1) n
single_strides arcs up stop n s = record {
  within = s.within;
  before = s.before;
  after = λ k d from lt.
      let here : n + (1 - 1) ≡ n = omega arith in
      omega (arith, climbs arcs up n k d from lt, s.past d (omega arith), ap (λ m. (get_or arcs m d).tail) here);
}

-- a number before which all tails are below the stop is not past one from which on none is
pub below_above : (arcs : List Arc) (stop low high : ℕ) → Below arcs stop low → Above arcs stop high → low ≤ high
below_above arcs stop low high b a = ⊎_elim (λ lt. absurd (omega (arith, b.before high none lt, a.after high none (omega arith) (omega (arith, b.within))))) (λ le. le) (cases_lt high low)

-- the arcs of a range fall into those whose tails are below the stop and those whose tails are not
pub parted : (arcs : List Arc) → Ascending arcs → (stop : ℕ) (range : Range ℕ) → IsPartitionedBy (λ a. nat_lt a.tail stop) (slice_range arcs range.start range.end)
parted arcs up stop range = IsPartitionedBy-ltb (λ (a : Arc). a.tail) _ stop (IsNonDecreasingBy-take (λ a. a.tail) _ _ (IsNonDecreasingBy-drop (λ a. a.tail) _ _ (IsNonDecreasingBy-from_all_adjacent (λ a. a.tail) arcs up)))

-- where they part lies the cut
pub cut_within : (arcs : List Arc) (stop : ℕ) (range : Range ℕ) (n : ℕ) → Around arcs stop range → n ≤ length (slice_range arcs range.start range.end)
    → IsPartitionPoint (λ (a : Arc). nat_lt a.tail stop ≡ true) (λ a. nat_lt a.tail stop ≡ false) (slice_range arcs range.start range.end) n → Cut arcs stop (range.start + n)
cut_within arcs stop range n around few part = record {
  within = omega (arith, long, around.ordered, around.higher.within);
  before = λ k d lt. ⊎_elim (λ l. around.lower.before k d l) (λ le. omega (arith, tail_within k d le (omega (arith, long, around.ordered)), ltb-true _ _ (part.0 (k - range.start) d (omega arith) (omega arith)))) (cases_lt k range.start);
  after = λ k d from lt. ⊎_elim (λ l. omega (arith, tail_within k d (omega arith) l, ltb-false _ _ (part.1 (k - range.start) d (omega arith) (omega (arith, long))))) (λ le. around.higher.after k d le lt) (cases_lt k range.end);
}
  where
    long : length (slice_range arcs range.start range.end) ≡ range.end - range.start
    long = omega (arith, length-take (range.end - range.start) (drop range.start arcs), length-drop range.start arcs, around.higher.within)

    tail_within : (k : ℕ) (d : Arc) → range.start ≤ k → k < range.end → (get_or (slice_range arcs range.start range.end) (k - range.start) d).tail ≡ (get_or arcs k d).tail
    tail_within k d le lt =
        let on : range.start + (k - range.start) ≡ k = omega arith in
        ap (λ (a : Arc). a.tail) (get_or-take (range.end - range.start) (drop range.start arcs) (k - range.start) d (omega arith) ∙ get_or-drop range.start arcs (k - range.start) d ∙ ap (λ m. get_or arcs m d) on)

module _ (arcs : List Arc) (stop : ℕ) where
  -- no arc is before the number 0, and none from their count on
  pub below_or_none : (o : Option ℕ) → IfSome o (Below arcs stop) → Below arcs stop (unwrap_or o 0)
  below_or_none None b = record { within = omega arith; before = λ k d lt. absurd (omega arith) }
  below_or_none (Some n) b = b

  pub above_or_all : (o : Option ℕ) → IfSome o (Above arcs stop) → Above arcs stop (unwrap_or o (length arcs))
  above_or_all None a = record { within = omega arith; after = λ k d from lt. absurd (omega arith) }
  above_or_all (Some n) a = a
