-- What asking gives: the tests in their order, and past them the one answer and the slip.
use Rattle.std.specs.Prelude.{◌≡◌, ℕ, ◌+◌, ◌*◌, ◌<◌, ◌≤◌, Bool, false, cond, ◌||◌, ◌⊎◌, ◌↔◌, List, [], ◌∷◌, ◌++◌, length, drop, Some, None, Ok, Err, Option, Result, nat_le, nat_lt}
use Rattle.model.specs.declared.enquiry.Enquiry.{Enquiry}
use Rattle.model.specs.declared.enquiry.Found.{Found}
use Rattle.model.specs.declared.refusal.Refusal.{Refusal}
use Rattle.model.specs.declared.refusal.Refusal.TheVariants.{NoSuchStart, NoSuchTarget, SecondAboveHorizon, NoJourney, TooManyStates, NoSuchService, LabelTableShort, QueueShort, RowsShort}
use Rattle.model.specs.Clock.{horizon}
use Rattle.model.specs.Trips.{World, Arc, Leg, place, Answer}
use Rattle.model.specs.Suits.{Suits, NoneSuits}

-- the most states that a rule may have
abbrev pub most_states : ℕ
most_states = 64

-- some arc's service is not in a book of so many services
abbrev pub any_unserved : ℕ → List Arc → Bool
any_unserved count [] = false
any_unserved count (x ∷ xs) = nat_le count x.service || any_unserved count xs

-- the rows that a label table needs: one for each stop and state
abbrev pub rows_needed : ℕ → World → ℕ
rows_needed stops w = stops * w.states

-- the slots that a queue needs: one for the start, and one for each arc and state
abbrev pub slots_needed : World → ℕ
slots_needed w = 1 + length w.arcs * w.states

-- the refusal of the first test that fails, of a network of so many stops, a book of so many services, a label table of so many rows and a
-- queue of so many slots
abbrev pub refusal_of : ℕ → ℕ → World → Enquiry → ℕ → ℕ → Option Refusal
refusal_of stops count w enquiry rows slots =
    cond (nat_le stops enquiry.start) (Some NoSuchStart)
    (cond (nat_le stops enquiry.target) (Some NoSuchTarget)
    (cond (nat_lt horizon enquiry.second) (Some SecondAboveHorizon)
    (cond (nat_lt most_states w.states) (Some TooManyStates)
    (cond (any_unserved count w.arcs) (Some NoSuchService)
    (cond (nat_lt rows (rows_needed stops w)) (Some LabelTableShort)
    (cond (nat_lt slots (slots_needed w)) (Some QueueShort)
    None))))))

-- the legs of the tie rule's journey to the place of the target that answers the enquiry
abbrev pub TieRule : World → Enquiry → List Leg → Type 0
TieRule w enquiry legs = Answer w (place enquiry.start 0) enquiry.second enquiry.target (Some legs)

-- the tie rule's legs, of an enquiry that a trip suits, are more than the rows of the slip
pub record Outnumbered (w : World) (enquiry : Enquiry) (rows : ℕ) : Type 0 where
  pub legs : List Leg
  pub arrival : ℕ
  pub suits : Suits w enquiry legs arrival
  pub tie_rule : TieRule w enquiry legs
  pub more : rows < length legs

-- a journey answered: its legs are the tie rule's and lie in the slip's first rows, and the later rows are as they were; they are a trip
-- that suits, and every trip that suits arrives then or later
pub record Answered (w : World) (enquiry : Enquiry) (slip slip' : List Leg) (found : Found) : Type 0 where
  pub legs : List Leg
  pub counted : found.legs ≡ length legs
  pub fits : length legs ≤ length slip
  pub rows : slip' ≡ legs ++ drop (length legs) slip
  pub tie_rule : TieRule w enquiry legs
  pub suits : Suits w enquiry legs found.arrival
  pub no_trip_arrives_earlier : (ls : List Leg) (a : ℕ) → Suits w enquiry ls a → found.arrival ≤ a

-- what is asked past the tests: refused as no journey if and only if no trip suits; refused for want of rows if and only if one suits and
-- the tie rule's legs outnumber them; by no other refusal; a refusal leaves the slip as it was; and a journey answered
pub record Outcome (w : World) (enquiry : Enquiry) (slip slip' : List Leg) (result : Result Found Refusal) : Type 0 where
  pub no_journey : (result ≡ Err NoJourney) ↔ NoneSuits w enquiry
  pub rows_short : (result ≡ Err RowsShort) ↔ Outnumbered w enquiry (length slip)
  pub no_other : (f : Refusal) → result ≡ Err f → (f ≡ NoJourney) ⊎ (f ≡ RowsShort)
  pub untouched : (f : Refusal) → result ≡ Err f → slip' ≡ slip
  pub answered : (found : Found) → result ≡ Ok found → Answered w enquiry slip slip' found

-- an enquiry asked over a network of so many stops, a book of so many services and a world; with the label table, the queue's slots and
-- the slip before and after, and the result
pub record Asked {L Q : Type 0} (stops count : ℕ) (w : World) (enquiry : Enquiry) (labels labels' : List L) (slots slots' : List Q)
    (slip slip' : List Leg) (result : Result Found Refusal) : Type 0 where
  pub refused_by_tests : (f : Refusal) → refusal_of stops count w enquiry (length labels) (length slots) ≡ Some f
      → (result ≡ Err f) × (labels' ≡ labels) × (slots' ≡ slots) × (slip' ≡ slip)
  pub past_tests : refusal_of stops count w enquiry (length labels) (length slots) ≡ None → Outcome w enquiry slip slip' result
  pub sizes : (length labels' ≡ length labels) × (length slots' ≡ length slots) × (length slip' ≡ length slip)
