-- How many states the parts of a rule have, and what a boarding does.
use Rattle.std.specs.Prelude.{ℕ, ◌+◌, ◌-◌, ◌^◌, min, cond, ◌&&◌, nat_le, Some, None, Option}
use Rattle.plain.specs.declared.rule.Part.{Part}
use Rattle.plain.specs.declared.rule.Part.TheVariants.{Any, Boardings, Table}

abbrev pub states_of : Part → ℕ
states_of Any = 1
states_of (Boardings most) = min (most + 1) (2 ^ 32 - 1)
states_of (Table table) = table.states

-- bus, ship and rail, 1 to 3, are boardings: one more each, up to the most; other labels stay
abbrev pub boarded : ℕ → ℕ → ℕ → Option ℕ
boarded most state label = cond (nat_le 1 label && nat_le label 3) (cond (nat_le (state + 1) most) (Some (state + 1)) None) (Some state)
