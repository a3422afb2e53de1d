-- What is proved of trips, as statements.
use Rattle.std.specs.Prelude.{◌≡◌, ℕ, ◌≤◌, ◌↔◌, List, map, length, take, Some, Ok, Option, Result}
use Rattle.model.specs.declared.enquiry.Enquiry.{Enquiry}
use Rattle.model.specs.declared.enquiry.Found.{Found}
use Rattle.model.specs.declared.refusal.Refusal.{Refusal}
use Rattle.model.specs.Books.{LawfulBook}
use Rattle.model.specs.Rules.{Automaton, LawfulRule, leads}
use Rattle.model.specs.Trips.{World, world, LawfulWorld, Arc, Place, place, Leg, Trip, NeverWaits, First, Eager, Rank, Journey, Ends, Answer}
use Rattle.model.specs.Suits.{StopTrip, word, Suits}
use Rattle.model.specs.Asking.{Asked}

-- a lawful book and a lawful rule make a lawful world
abbrev pub WorldIsLawful : Type 0
WorldIsLawful =
    (arcs : List Arc) (count : ℕ) (answer : ℕ → ℕ → Option ℕ) (rule : Automaton) → LawfulBook count answer → LawfulRule rule → LawfulWorld (world arcs answer rule)

-- a trip between places is a trip between their stops whose word leads the rule from the one's state to the other's
abbrev pub TripIsTwo : Type 0
TripIsTwo =
    (w : World) (p q : Place) (t a : ℕ) (ls : List Leg)
    → Trip w p t ls q a ↔ (StopTrip w p.stop t ls q.stop a × (leads w.next p.state (word w.arcs ls) ≡ Some q.state))

-- a trip suits an enquiry if and only if it leads from the start in state 0 to a place of the target in an end state
abbrev pub SuitsIsTrip : Type 0
SuitsIsTrip =
    (w : World) (e : Enquiry) (ls : List Leg) (a : ℕ)
    → Suits w e ls a ↔ ((q : Place) × Ends w e.target q × Trip w (place e.start 0) e.second ls q a)

-- a place has one first second and one rank, and one journey leads to it
abbrev pub FirstIsOne : Type 0
FirstIsOne = (w : World) (o : Place) (t : ℕ) (q : Place) (a b : ℕ) → First w o t q a → First w o t q b → a ≡ b

abbrev pub RankIsOne : Type 0
RankIsOne = (w : World) (o : Place) (t : ℕ) (q : Place) (m n : ℕ) → Rank w o t q m → Rank w o t q n → m ≡ n

abbrev pub JourneyIsOne : Type 0
JourneyIsOne =
    (w : World) (o : Place) (t : ℕ) (q : Place) (js ks : List Leg) → Journey w o t js q → Journey w o t ks q → js ≡ ks

-- an enquiry has one answer at most
abbrev pub AnswerIsOne : Type 0
AnswerIsOne =
    (w : World) (o : Place) (t target : ℕ) (r s : Option (List Leg)) → Answer w o t target r → Answer w o t target s → r ≡ s

-- over the same arcs with no waiting one arrives no later
abbrev pub WaitingNeverHelps : Type 0
WaitingNeverHelps =
    (w : World) → LawfulWorld w → (p q : Place) (t a : ℕ) (ls : List Leg) → Trip w p t ls q a
    → (ks : List Leg) × (b : ℕ) × Trip w p t ks q b × NeverWaits t ks × (map Leg.arc ks ≡ map Leg.arc ls) × (b ≤ a)

-- an eager trip is a trip with no waiting, and what is left of it at its end is at the first second too
abbrev pub EagerIsTrip : Type 0
EagerIsTrip =
    (w : World) (o p q : Place) (t a b : ℕ) (ls : List Leg) → Eager w o t p a ls q b
    → Trip w p a ls q b × NeverWaits a ls × First w o t p a × First w o t q b

-- the tie rule's journey to a place is a trip that arrives at its first second
abbrev pub JourneyIsTrip : Type 0
JourneyIsTrip =
    (w : World) (o : Place) (t : ℕ) (q : Place) (js : List Leg) (a : ℕ) → Journey w o t js q → First w o t q a → Trip w o t js q a

-- two asks of one enquiry in one world that are both answered give the same arrival, the same number of legs and the same legs
abbrev pub AnsweredAlike : Type 1
AnsweredAlike =
    (w : World) (e : Enquiry) (L Q M P : Type 0) (stops count stops₂ count₂ : ℕ) (labels labels' : List L) (slots slots' : List Q) (slip slip' : List Leg)
    (labels₂ labels₂' : List M) (slots₂ slots₂' : List P) (slip₂ slip₂' : List Leg) (found found₂ : Found)
    → Asked stops count w e labels labels' slots slots' slip slip' (Ok found)
    → Asked stops₂ count₂ w e labels₂ labels₂' slots₂ slots₂' slip₂ slip₂' (Ok found₂)
    → (found ≡ found₂) × (take found.legs slip' ≡ take found.legs slip₂')

-- asks alike in world, enquiry and sizes of the tables have one result; alike in the slip too, they leave one slip
abbrev pub AskedIsOne : Type 1
AskedIsOne =
    (w : World) (e : Enquiry) (L Q M P : Type 0) (stops count : ℕ) (labels labels' : List L) (slots slots' : List Q) (slip slip' : List Leg)
    (labels₂ labels₂' : List M) (slots₂ slots₂' : List P) (slip₂ slip₂' : List Leg) (result result₂ : Result Found Refusal)
    → length labels ≡ length labels₂ → length slots ≡ length slots₂ → length slip ≡ length slip₂
    → Asked stops count w e labels labels' slots slots' slip slip' result
    → Asked stops count w e labels₂ labels₂' slots₂ slots₂' slip₂ slip₂' result₂
    → (result ≡ result₂) × (slip ≡ slip₂ → slip' ≡ slip₂')

-- what is proved of trips in every world
pub record Theorems : Type 0 where
  pub world_is_lawful : WorldIsLawful
  pub trip_is_two : TripIsTwo
  pub suits_is_trip : SuitsIsTrip
  pub first_is_one : FirstIsOne
  pub rank_is_one : RankIsOne
  pub journey_is_one : JourneyIsOne
  pub answer_is_one : AnswerIsOne
  pub waiting_never_helps : WaitingNeverHelps
  pub eager_is_trip : EagerIsTrip
  pub journey_is_trip : JourneyIsTrip
