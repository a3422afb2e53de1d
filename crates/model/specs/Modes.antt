-- The modes, by label, and which of them are boardings.
use Rattle.std.specs.Prelude.{◌≡◌, ℕ, ◌<◌, Bool, true, false, Result, MatchResult}
use Rattle.model.specs.declared.label.Mode.{Mode}
use Rattle.model.specs.declared.label.Mode.TheVariants.{Foot, Bus, Ship, Rail, Car, Link}
use Rattle.model.specs.declared.label.NoSuchLabel.{NoSuchLabel}

-- the label that a mode has on arcs and in files
abbrev pub mode_label : Mode → ℕ
mode_label Foot = 0
mode_label Bus = 1
mode_label Ship = 2
mode_label Rail = 3
mode_label Car = 4
mode_label Link = 5

-- the mode of that label, or that no mode has it
abbrev pub Names : ℕ → Result Mode NoSuchLabel → Type 0
Names label r = MatchResult r (λ mode. mode_label mode ≡ label) (λ e. (e.0 ≡ label) × (5 < label))

-- whether a mode is a boarding: bus, ship or rail
abbrev pub boards : Mode → Bool
boards Foot = false
boards Bus = true
boards Ship = true
boards Rail = true
boards Car = false
boards Link = false
