-- Arcs tested one after the other for their service.
use Rattle.std.proofs.Common.{◌≡◌, ℕ, ◌+◌, ◌<◌, ◌≤◌, Bool, true, false, ◌||◌, leb, List, length, get_or, drop, sym, ap, ◌∙◌, add-one, drop_of_length-le, drop-cons}
use Rattle.std.proofs.lemmas.Bool.{le-leb, lt-leb}
use Rattle.model.specs.declared.network.Arc.{Arc}
use Rattle.model.specs.Asking.{any_unserved}

module _ (count : ℕ) (arcs : List Arc) (i : ℕ) (d : Arc) (within : i < length arcs) where
  here : any_unserved count (drop i arcs) ≡ (leb count (get_or arcs i d).service || any_unserved count (drop (i + 1) arcs))
  here = ap (any_unserved count) (drop-cons arcs i d within) ∙ ap (λ (n : ℕ). leb count (get_or arcs i d).service || any_unserved count (drop n arcs)) (sym (add-one i))

  pub unserved_here : count ≤ (get_or arcs i d).service → true ≡ any_unserved count (drop i arcs)
  unserved_here h = sym (here ∙ ap (λ (b : Bool). b || any_unserved count (drop (i + 1) arcs)) (le-leb count (get_or arcs i d).service h))

  pub served_here : (get_or arcs i d).service < count → any_unserved count (drop i arcs) ≡ any_unserved count (drop (i + 1) arcs)
  served_here h = here ∙ ap (λ (b : Bool). b || any_unserved count (drop (i + 1) arcs)) (lt-leb count (get_or arcs i d).service h)

pub served_all : (count : ℕ) (arcs : List Arc) (i : ℕ) → length arcs ≤ i → false ≡ any_unserved count (drop i arcs)
served_all count arcs i h = sym (ap (any_unserved count) (drop_of_length-le arcs h))
