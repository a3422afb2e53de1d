-- The steps of a rule file as a table.
use Rattle.std.specs.Prelude.{◌≡◌, ℕ, ◌+◌, ◌*◌, ◌<◌, ◌≤◌, List, length, take, None, Ok, Err, Option, Result, slice_index_or}
use Rattle.formats.specs.declared.rule_step.RuleStep.{RuleStep}
use Rattle.formats.specs.RuleFile.{steps, leads_to, rule, contents_of}
use Rattle.wire.specs.declared.fault.Fault.{Fault}
use Rattle.wire.specs.declared.reader.Reader.{Reader}
use Rattle.wire.specs.Readers.{file, Reads}
use Rattle.rulefile.specs.declared.load.RuleTables.{RuleTables}

-- the entry of a state and a label
abbrev pub entry : List (Option ℕ) → ℕ → ℕ → Option ℕ
entry table s x = slice_index_or table (s * 6 + x) None

-- a table of 16 states has what the steps lead to
pub record Shows (table : List (Option ℕ)) (xs : List RuleStep) : Type 0 where
  pub entries : (s x : ℕ) → s < 16 → x < 6 → entry table s x ≡ leads_to xs s x
  pub long : length table ≡ 96

-- a call that reads the steps of a rule of so many states, as a table
abbrev pub Tabulates : ℕ → Reader → Reader → Result (List (Option ℕ)) Fault → Type 0
Tabulates states before after (Ok table) = (xs : List RuleStep) × Reads (steps states).read before after (Ok xs) × Shows table xs
Tabulates states before after (Err f) = Reads (steps states).read before after (Err f)

-- tables of a rule: so many states with their end marks in front, and what the steps xs lead to
pub record Tables (t : RuleTables) (xs : List RuleStep) : Type 0 where
  pub some : 1 ≤ t.states
  pub few : t.states ≤ 16
  pub marks : length t.ends ≡ 16
  pub shows : Shows t.next xs

-- a call that reads a rule file as tables
abbrev pub Holds : Reader → Reader → Result RuleTables Fault → Type 0
Holds before after (Ok t) = (xs : List RuleStep) × (rule.read (file before) before.at ≡ Ok (contents_of (take t.states t.ends, xs), after.at)) × Tables t xs
Holds before after (Err f) = rule.read (file before) before.at ≡ Err f
