-- What a rule on modes means, the laws that every rule keeps, and which words it accepts.
-- The labels of arcs are 0 f foot, 1 b bus, 2 s ship, 3 r rail, 4 c car, 5 l link; b, s and r are boardings.
use Rattle.std.specs.Prelude.{◌≡◌, ℕ, ◌<◌, ◌≤◌, Bool, true, List, [], ◌∷◌, Some, None, Option}

-- how many labels there are
abbrev pub label_count : ℕ
label_count = 6

-- a number of states, a next state or none for each state and label, and which states are ends
pub record Automaton : Type 0 where
  pub next : ℕ → ℕ → Option ℕ
  pub ends : ℕ → Bool
  pub states : ℕ

-- the laws of a rule: 1 to 65 states; each next state is one of them; none from where there is no state or for what is no label;
-- and an end is a state
pub record LawfulRule (a : Automaton) : Type 0 where
  pub some : 1 ≤ a.states
  pub few : a.states ≤ 65
  pub closed : (s x n : ℕ) → a.next s x ≡ Some n → n < a.states
  pub beyond : (s x : ℕ) → a.states ≤ s → a.next s x ≡ None
  pub unlabelled : (s x : ℕ) → label_count ≤ x → a.next s x ≡ None
  pub ended : (s : ℕ) → a.ends s ≡ true → s < a.states

-- what follows a value, if there is one
abbrev pub onward : Option ℕ → (ℕ → Option ℕ) → Option ℕ
onward None f = None
onward (Some n) f = f n

-- the state that a word of labels leads to from a state, if its steps are all there
abbrev pub leads : (ℕ → ℕ → Option ℕ) → ℕ → List ℕ → Option ℕ
leads next s [] = Some s
leads next s (x ∷ xs) = onward (next s x) (λ n. leads next n xs)

-- a word is accepted if its steps lead from state 0 to an end
pub record Accepts (a : Automaton) (word : List ℕ) : Type 0 where
  pub last : ℕ
  pub led : leads a.next 0 word ≡ Some last
  pub ending : a.ends last ≡ true
