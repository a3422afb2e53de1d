-- Tables for asks, before anything is asked.
use Rattle.std.specs.Prelude.{◌≡◌, ℕ, replicate, None, vec_items}
use Rattle.workspace.specs.declared.AskSizes.{AskSizes}
use Rattle.workspace.specs.declared.AskTables.{AskTables}
use Rattle.workspace.specs.declared.SearchSpace.{SearchSpace}

-- so many rows of no labels, and so many slots of zeros
pub record BlankSearch (rows room : ℕ) (s : SearchSpace) : Type 0 where
  pub labels : vec_items s.labels ≡ replicate rows None
  pub slots : vec_items s.slots ≡ replicate room (record { second = 0; legs = 0; place = 0 })

-- tables of these sizes: no labels, and zeros in the slots and the slip
pub record Blank (sizes : AskSizes) (t : AskTables) : Type 0 where
  pub space : BlankSearch sizes.labels sizes.slots t.space
  pub slip : vec_items t.slip ≡ replicate sizes.legs (record { arc = 0; entered = 0; arrived = 0 })
