-- A lawful book and a lawful rule make a lawful world.
use Rattle.std.proofs.Common.{◌≡◌, ℕ, ◌≤◌, Some, None, Option, refl, subst}
use Rattle.model.specs.Clock.{horizon}
use Rattle.model.specs.Books.{NoLater, Within}
use Rattle.model.specs.Claims.{WorldIsLawful}

no_later_some : (x : Option ℕ) (b : ℕ) → NoLater x (Some b) → (a : ℕ) × (x ≡ Some a) × (a ≤ b)
no_later_some None b h = absurd h
no_later_some (Some a) b h = (a, refl, h)

pub world_is_lawful : WorldIsLawful
world_is_lawful arcs count answer rule book law = record {
  not_before = λ v t a e. (subst (λ (x : Option ℕ). Within t horizon x) e ((book.fair v).forward t)).0;
  within = λ v t a e. (subst (λ (x : Option ℕ). Within t horizon x) e ((book.fair v).forward t)).1;
  fifo = λ v t u b h e. no_later_some (answer v t) b (subst (λ (x : Option ℕ). NoLater (answer v t) x) e ((book.fair v).fifo t u h));
  states_hold = law.closed;
}
