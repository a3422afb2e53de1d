-- The queue of the search, and the row that it settles next.
use Rattle.std.specs.Prelude.{◌≡◌, ℕ, ◌<◌, Bool, true, false, not, ◌&&◌, List, length, take, Some, None, Ok, Err, Option, Result, ◌==◌, slice_index_or, slice_set}
use Rattle.std.specs.List.{ContainsAt as Has, AllByRecursion}
use Rattle.model.specs.declared.enquiry.Enquiry.{Enquiry}
use Rattle.model.specs.declared.refusal.Refusal.{Refusal}
use Rattle.model.specs.Asking.{refusal_of, rows_needed}
use Rattle.model.specs.declared.network.Place.{Place}
use Rattle.model.specs.Trips.{World, place, Upto2}
use Rattle.labels.specs.declared.label.Label.{Label}
use Rattle.labels.specs.Table.{Table, Search, Least, Finished, Unmet, Tied, settle}
use Rattle.queue.specs.declared.order.Ranked.{Ghosts}
use Rattle.queue.specs.declared.queue.Queue.{Queue}
use Rattle.queue.specs.Contents.{contents, capacity}
use Rattle.engine.specs.declared.entry.Entry.{Entry}
use Rattle.engine.specs.declared.turns.Reached.{Reached}
use Rattle.labels.specs.Rows.{Rows, view, Waits, Foremost}

-- the entry of a row's label
abbrev pub entry : ℕ → Label → Entry
entry r l = record { second = l.second; legs = l.legs; place = r }

-- a row waits with a label of the same second and legs, so that the label's entry is in the queue
abbrev pub queued : Option Label → Label → Bool
queued None l = false
queued (Some m) l = not m.settled && (m.second == l.second && m.legs == l.legs)

-- the entry's place is labelled, and its label is not after the entry
pub record Known (rows : Rows) (e : Entry) : Type 0 where
  pub label : Label
  pub here : slice_index_or rows e.place None ≡ Some label
  pub not_after : Upto2 label.second label.legs e.second e.legs

-- every row that is labelled and not settled has its label's entry in the queue, and no entry of a place is before its label
pub record Agenda {ranked : Ghosts Entry} (rows : Rows) (q : Queue Entry ranked) : Type 0 where
  pub waiting : (r : ℕ) (l : Label) → Waits rows r l → Has (contents q) (entry r l)
  pub known : AllByRecursion (Known rows) (contents q)

-- the row r, with the label l, is to be settled next, and its entry is out of the queue
pub record Due {ranked : Ghosts Entry} (rows : Rows) (q q' : Queue Entry ranked) (r : ℕ) (l : Label) : Type 0 where
  pub foremost : Foremost rows r l
  pub agenda : Agenda (slice_set rows r (Some (settle l))) q'
  pub fewer : length (contents q') < length (contents q)
  pub room : capacity q' ≡ capacity q

-- what comes out of the queue: the row to settle next, or none where all labels are settled
abbrev pub NextDue : {ranked : Ghosts Entry} → Rows → Queue Entry ranked → Queue Entry ranked → Option (ℕ × Label) → Type 0
NextDue rows q q' None = (i : ℕ) (m : Label) → Waits rows i m → ⊥
NextDue rows q q' (Some x) = Due rows q q' x.0 x.1

-- the search has come to a place of the target in an end state, with that state and label: the first to come out of the queue
pub record Stopped (w : World) (o : Place) (t target : ℕ) (T : Table) (s : ℕ) (l : Label) : Type 0 where
  pub searched : Search w o t T
  pub unmet : Unmet w target T
  pub least : Least T (place target s) l
  pub tied : Tied T (place target s) l
  pub ending : w.ends s ≡ true

-- all that can be reached is settled, and no place of the target in an end state is
pub record Exhausted (w : World) (o : Place) (t target : ℕ) (T : Table) : Type 0 where
  pub searched : Search w o t T
  pub unmet : Unmet w target T
  pub finished : Finished T

-- how a search ends
abbrev pub Ended : World → Place → ℕ → ℕ → Table → Option Reached → Type 0
Ended w o t target T None = Exhausted w o t target T
Ended w o t target T (Some x) = Stopped w o t target T x.state x.label

-- a search of an enquiry: refused by the tests, with both tables untouched; past them how the search ends, and the label table it leaves,
-- whose first rows are one for each stop and state
pub record Searched (stops count : ℕ) (w : World) (enquiry : Enquiry) (labels labels' : Rows) (slots slots' : List Entry) (r : Result (Option Reached) Refusal) : Type 0 where
  pub refused : (f : Refusal) → refusal_of stops count w enquiry (length labels) (length slots) ≡ Some f → (r ≡ Err f) × (labels' ≡ labels) × (slots' ≡ slots)
  pub searched : refusal_of stops count w enquiry (length labels) (length slots) ≡ None
      → (x : Option Reached) × (r ≡ Ok x)
      × Ended w (place enquiry.start 0) enquiry.second enquiry.target (view w.states (take (rows_needed stops w) labels')) x
