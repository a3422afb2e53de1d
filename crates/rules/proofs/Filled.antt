-- A table whose front is a list, and which holds none behind it.
use Rattle.std.proofs.Common.{◌≡◌, ℕ, ◌<◌, ◌≤◌, List, length, get_or, replicate, None, Option, sym, ◌∙◌, ⊎_elim, arith}
use lib.ListN.{get_or-replicate, length-replicate, get_or-eq_default}
use Rattle.std.proofs.lemmas.Bool.{cases_lt}
use Rattle.automata.specs.Tables.{Closed}

abbrev nowhere : Option ℕ
nowhere = None

blank : (n i : ℕ) → get_or (replicate n nowhere) i nowhere ≡ nowhere
blank n i = ⊎_elim
    (λ lt. get_or-replicate n i nowhere nowhere lt)
    (λ le. let long = length-replicate n nowhere in get_or-eq_default (replicate n nowhere) nowhere (omega arith))
    (cases_lt i n)

pub closed_filled : (k n : ℕ) (list table : List (Option ℕ)) → Closed k list → ((i : ℕ) (d : Option ℕ) → i < length list → get_or table i d ≡ get_or list i d) → ((i : ℕ) (d : Option ℕ) → length list ≤ i → get_or table i d ≡ get_or (replicate n None) i d) → Closed k table
closed_filled k n list table closed front rest i m e =
    ⊎_elim
    (λ lt. closed i m (sym (front i None lt) ∙ e))
    (λ le. let none = rest i None le ∙ blank n i in let z : ◌≡◌ {A = ℕ} 0 1 = cc in absurd (omega arith))
    (cases_lt i (length list))
