-- What the files hold, in plain lists.
use Rattle.std.specs.Prelude.{ℕ, ◌+◌, Bool, List, length}
use Rattle.model.specs.declared.network.Arc.{Arc}
use Rattle.model.specs.declared.tables.Connection.{Connection}
use Rattle.model.specs.declared.tables.Point.{Point}
use Rattle.formats.specs.declared.rule_step.RuleStep.{RuleStep}

-- a network file: the names of the stops, the services of the three runs, and the arcs
pub record NetworkContents : Type 0 where
  pub names : List (List ℕ)
  pub walks : List ℕ
  pub timetables : List (List Connection)
  pub roads : List (List Point)
  pub arcs : List Arc

-- how many services there are: they are numbered through the runs
abbrev pub services : NetworkContents → ℕ
services n = length n.walks + length n.timetables + length n.roads

-- a rule file: for each state whether it is an end, and the steps
pub record RuleContents : Type 0 where
  pub ends : List Bool
  pub steps : List RuleStep
