-- The table of labels as rows, one for each stop and state.
use Rattle.std.specs.Prelude.{◌≡◌, ℕ, zero, suc, ◌+◌, ◌*◌, ◌/◌, ◌%◌, ◌<◌, ◌≤◌, Bool, true, false, cond, List, length, Some, None, Option, nat_lt, slice_index_or, slice_set}
use Rattle.std.specs.List.{slice_get}
use Rattle.model.specs.declared.network.Arc.{Arc}
use Rattle.model.specs.declared.network.Place.{Place}
use Rattle.labels.specs.declared.label.Label.{Label}
use Rattle.labels.specs.declared.label.Offer.{Offer}
use Rattle.model.specs.Trips.{place, Upto3}
use Rattle.labels.specs.Table.{Table, better, keep}

abbrev pub Rows : Type 0
Rows = List (Option Label)

-- the number of a place, and its row, where there are k states
abbrev pub row_of : ℕ → Place → ℕ
row_of k p = p.stop * k + p.state

-- the place of a number
abbrev pub place_of : ℕ → ℕ → Place
place_of k r = record { stop = r / k; state = r % k }

-- what the rows say of each place
abbrev pub view : ℕ → Rows → Table
view k rows p = cond (nat_lt p.state k) (slice_index_or rows (row_of k p) None) None

-- a label improves on what a row has
abbrev pub improves : Option Label → Label → Bool
improves None c = true
improves (Some l) c = better c l

-- the row of the offer's place keeps the better label
abbrev pub accepted : ℕ → Offer → Rows → Rows
accepted k f rows = slice_set rows (row_of k f.at) (Some (keep (slice_index_or rows (row_of k f.at) None) f.label))

-- each place that an arc leads to has a row
abbrev pub Room : List Arc → ℕ → ℕ → Type 0
Room arcs k n = (i : ℕ) (x : Arc) (s : ℕ) → slice_get arcs i ≡ Some x → s < k → x.head * k + s < n

abbrev pub is_settled : Option Label → Bool
is_settled None = false
is_settled (Some l) = l.settled

abbrev pub count_below : ℕ → (ℕ → Bool) → ℕ
count_below zero f = 0
count_below (suc n) f = cond (f n) 1 0 + count_below n f

abbrev pub sum_below : ℕ → (ℕ → ℕ) → ℕ
sum_below zero f = 0
sum_below (suc n) f = f n + sum_below n f

-- how many rows are settled
abbrev pub settled_count : Rows → ℕ
settled_count rows = count_below (length rows) (λ i. is_settled (slice_index_or rows i None))

-- how many of the places at an arc's tail are settled
abbrev pub settled_at : ℕ → Rows → Option Arc → ℕ
settled_at k rows None = 0
settled_at k rows (Some x) = count_below k (λ s. is_settled (slice_index_or rows (x.tail * k + s) None))

-- how often an arc has been relaxed, over all arcs: once for each settled place at its tail
abbrev pub relaxed_count : List Arc → ℕ → Rows → ℕ
relaxed_count arcs k rows = sum_below (length arcs) (λ i. settled_at k rows (slice_get arcs i))

-- each label has at most as many legs as rows are settled
abbrev pub LegsBound : ℕ → Rows → Type 0
LegsBound k rows = (q : Place) (l : Label) → view k rows q ≡ Some l → l.legs ≤ settled_count rows

-- the row r is labelled l, and not settled
abbrev pub Waits : Rows → ℕ → Label → Type 0
Waits rows r l = (slice_index_or rows r None ≡ Some l) × (l.settled ≡ false)

-- of the rows that are labelled and not settled, r has the least second, then the fewest legs, then the lowest number
pub record Foremost (rows : Rows) (r : ℕ) (l : Label) : Type 0 where
  pub waits : Waits rows r l
  pub least : (i : ℕ) (m : Label) → Waits rows i m → Upto3 l.second l.legs r m.second m.legs i

-- the arcs that leave the stop v are among those from low up to high
abbrev pub Among : List Arc → ℕ → ℕ → ℕ → Type 0
Among arcs v low high = (i : ℕ) (x : Arc) → slice_get arcs i ≡ Some x → x.tail ≡ v → (low ≤ i) × (i < high)

-- m is the label of the place that the last leg of l leaves
abbrev pub Before : List Arc → Table → Label → Label → Type 0
Before arcs T l m = (x : Arc) × (slice_get arcs l.arc ≡ Some x) × (T (place x.tail l.state) ≡ Some m)
