-- What a search goes over, as a world.
use Rattle.std.specs.Prelude.{ℕ, Option}
use Rattle.model.specs.Rules.{Automaton}
use Rattle.model.specs.Trips.{World, world}
use Rattle.engine.specs.declared.product.Product.{Product}

-- the world of a product, by what its book answers and its rule means
abbrev pub world_of : {B R : Type 0} → (B → ℕ → ℕ → Option ℕ) → (R → Automaton) → Product B R → World
world_of answer automaton p = world p.network.arcs.now (answer p.book.now) (automaton p.rule.now)
