-- Trips through a network: which there are, when a place is first reached, and which journey answers an enquiry.
-- Everything is said of a World: what a network, a service book and a rule mean, whatever they are made of.
use Rattle.std.specs.Prelude.{◌≡◌, ℕ, suc, ◌<◌, ◌≤◌, Bool, true, List, [], ◌∷◌, ◌++◌, length, Some, None, Option}
use Rattle.std.specs.List.{slice_get}
use Rattle.model.specs.Clock.{horizon}
use Rattle.model.specs.Rules.{Automaton}
pub use Rattle.model.specs.declared.network.Arc.{Arc}
pub use Rattle.model.specs.declared.network.Place.{Place}
pub use Rattle.model.specs.declared.network.Leg.{Leg}

-- the arcs; the arrival by service and second of coming; the next state by state and label; the end states; the number of states
pub record World : Type 0 where
  pub arcs : List Arc
  pub answer : ℕ → ℕ → Option ℕ
  pub next : ℕ → ℕ → Option ℕ
  pub ends : ℕ → Bool
  pub states : ℕ

-- the world of some arcs, of a book's answers and of a rule
abbrev pub world : List Arc → (ℕ → ℕ → Option ℕ) → Automaton → World
world arcs answer rule = record { arcs = arcs; answer = answer; next = rule.next; ends = rule.ends; states = rule.states }

-- the rule of a world
abbrev pub rule_of : World → Automaton
rule_of w = record { next = w.next; ends = w.ends; states = w.states }

-- what trips need of book and rule: no arrival before the coming or after the horizon; coming earlier, one arrives no later;
-- a next state is a state
pub record LawfulWorld (w : World) : Type 0 where
  pub not_before : (v t a : ℕ) → w.answer v t ≡ Some a → t ≤ a
  pub fifo : (v t u b : ℕ) → t ≤ u → w.answer v u ≡ Some b → (a : ℕ) × (w.answer v t ≡ Some a) × (a ≤ b)
  pub within : (v t a : ℕ) → w.answer v t ≡ Some a → a ≤ horizon
  pub states_hold : (s x r : ℕ) → w.next s x ≡ Some r → r < w.states

-- the place at a stop in a state
abbrev pub place : ℕ → ℕ → Place
place v s = record { stop = v; state = s }

-- the leg takes a traveller from the place p to the place q
pub record Rides (w : World) (p : Place) (l : Leg) (q : Place) : Type 0 where
  pub along : Arc
  pub numbered : slice_get w.arcs l.arc ≡ Some along
  pub leaves : along.tail ≡ p.stop
  pub reaches : along.head ≡ q.stop
  pub spells : w.next p.state along.label ≡ Some q.state
  pub served : w.answer along.service l.entered ≡ Some l.arrived

-- a trip from p at the second t, over the legs, to q, with its arrival; one may wait before each leg
pub data Trip (w : World) : Place → ℕ → List Leg → Place → ℕ → Type 0 where
  stay : {p : Place} {t : ℕ} → Trip w p t [] p t
  ride : {p m q : Place} {t a : ℕ} {l : Leg} {ls : List Leg} → t ≤ l.entered → Rides w p l m → Trip w m l.arrived ls q a → Trip w p t (l ∷ ls) q a

-- each leg is entered at the second at which the one before arrives, the first at t
abbrev pub NeverWaits : ℕ → List Leg → Type 0
NeverWaits t [] = Unit {0}
NeverWaits t (l ∷ ls) = (l.entered ≡ t) × NeverWaits l.arrived ls

-- a is the first second of the place q, for one who sets out from o at the second t: the least arrival of any trip to it
pub record First (w : World) (o : Place) (t : ℕ) (q : Place) (a : ℕ) : Type 0 where
  pub legs : List Leg
  pub trip : Trip w o t legs q a
  pub soonest : (ls : List Leg) (b : ℕ) → Trip w o t ls q b → a ≤ b

-- what is left of an eager trip at p and the second a: each place is left at once, and at its first second
pub data Eager (w : World) (o : Place) (t : ℕ) : Place → ℕ → List Leg → Place → ℕ → Type 0 where
  there : {p : Place} {a : ℕ} → First w o t p a → Eager w o t p a [] p a
  go : {p m q : Place} {a b : ℕ} {l : Leg} {ls : List Leg}
      → First w o t p a → l.entered ≡ a → Rides w p l m → Eager w o t m l.arrived ls q b → Eager w o t p a (l ∷ ls) q b

-- the rank of a place: the fewest legs of an eager trip from o at t to it
pub record Rank (w : World) (o : Place) (t : ℕ) (q : Place) (n : ℕ) : Type 0 where
  pub legs : List Leg
  pub second : ℕ
  pub eager : Eager w o t o t legs q second
  pub count : length legs ≡ n
  pub fewest : (ls : List Leg) (b : ℕ) → Eager w o t o t ls q b → n ≤ length ls

-- an eager leg is entered at its first place's first second, and arrives at its last place's
pub record EagerLeg (w : World) (o : Place) (t : ℕ) (p : Place) (l : Leg) (q : Place) : Type 0 where
  pub rides : Rides w p l q
  pub leaving : First w o t p l.entered
  pub coming : First w o t q l.arrived

-- a list of numbers is at or before another: at the first place where they differ it is lower. (Each part speaks of the case that those before are equal.)
abbrev pub Upto2 : ℕ → ℕ → ℕ → ℕ → Type 0
Upto2 a b a' b' = (a ≤ a') × (a ≡ a' → b ≤ b')

abbrev pub Upto3 : ℕ → ℕ → ℕ → ℕ → ℕ → ℕ → Type 0
Upto3 a b c a' b' c' = (a ≤ a') × (a ≡ a' → b ≤ b') × (a ≡ a' → b ≡ b' → c ≤ c')

abbrev pub Upto4 : ℕ → ℕ → ℕ → ℕ → ℕ → ℕ → ℕ → ℕ → Type 0
Upto4 a b c d a' b' c' d' =
    (a ≤ a') × (a ≡ a' → b ≤ b') × (a ≡ a' → b ≡ b' → c ≤ c') × (a ≡ a' → b ≡ b' → c ≡ c' → d ≤ d')

-- the tie rule's journey to a place: to one of rank 0 the empty one; to any other the journey to a place one rank lower, then an eager
-- leg from there: of these the one of the lowest arc, then the lowest state
pub data Journey (w : World) (o : Place) (t : ℕ) : List Leg → Place → Type 0 where
  none : {q : Place} → Rank w o t q 0 → Journey w o t [] q
  on : {p q : Place} {n : ℕ} {l : Leg} {ls js : List Leg}
      → Rank w o t q (suc n)
      → Rank w o t p n
      → EagerLeg w o t p l q
      → ((r : Place) (k : Leg) → Rank w o t r n → EagerLeg w o t r k q → Upto2 l.arc p.state k.arc r.state)
      → Journey w o t ls p
      → js ≡ ls ++ (l ∷ [])
      → Journey w o t js q

-- a place of the target in an end state
abbrev pub Ends : World → ℕ → Place → Type 0
Ends w target q = (q.stop ≡ target) × (w.ends q.state ≡ true)

-- of the target's places in an end state the one that an enquiry is answered by: the least first second, then the least rank, then the lowest state
pub record Chosen (w : World) (o : Place) (t : ℕ) (target : ℕ) (q : Place) : Type 0 where
  pub «end» : Ends w target q
  pub second : ℕ
  pub legs : ℕ
  pub first : First w o t q second
  pub rank : Rank w o t q legs
  pub best : (r : Place) (b m : ℕ) → Ends w target r → First w o t r b → Rank w o t r m → Upto3 second legs q.state b m r.state

-- the answer of an enquiry: none where no trip comes to a place of the target in an end state, else the journey to the chosen one
abbrev pub Answer : World → Place → ℕ → ℕ → Option (List Leg) → Type 0
Answer w o t target None = (q : Place) (ls : List Leg) (a : ℕ) → Ends w target q → Trip w o t ls q a → ⊥
Answer w o t target (Some js) = (q : Place) × Chosen w o t target q × Journey w o t js q
