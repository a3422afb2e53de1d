-- What the loader of rule files does.
use Rattle.std.specs.Prelude.{◌≡◌, ℕ, ◌*◌, List, take, Ok, Err, Result, IsOkAnd}
use Rattle.model.specs.Rules.{Automaton}
use Rattle.automata.specs.Tables.{tabled}
use Rattle.rules.specs.declared.fault.RuleFault.{RuleFault}
use Rattle.rules.specs.declared.table.TableRule.{TableRule}
use Rattle.rules.specs.Faults.{TableAtFault}
use Rattle.formats.specs.Contents.{RuleContents}
use Rattle.formats.specs.RuleFile.{rule, automaton_of}
use Rattle.wire.specs.declared.fault.Fault.{Fault}
use Rattle.wire.specs.Places.{Step}
use Rattle.rulefile.specs.declared.load.RuleTables.{RuleTables}

-- the automaton of a table rule
abbrev pub meaning : TableRule → Automaton
meaning r = tabled r.states r.steps r.marks

-- the maker of table rules, at tables with their front rows and marks
abbrev pub Made : RuleTables → Result TableRule RuleFault → Type 0
Made t (Ok r) = meaning r ≡ tabled t.states (take (t.states * 6) t.next) (take t.states t.ends)
Made t (Err f) = TableAtFault f t.states (take (t.states * 6) t.next) (take t.states t.ends)

-- the rule that is read with the place after it, or the fault
abbrev pub IsRuleOf : Step RuleContents → Result (TableRule × ℕ) Fault → Type 0
IsRuleOf (Ok x) r = IsOkAnd r (λ p. (meaning p.0 ≡ automaton_of x.0) × (p.1 ≡ x.1))
IsRuleOf (Err f) r = r ≡ Err f

-- the place after a file, or its fault
abbrev pub ending : Step RuleContents → Result ℕ Fault
ending (Ok x) = Ok x.1
ending (Err f) = Err f

-- the rule after a file: the file's, or the old one where the file is at fault
abbrev pub Becomes : Step RuleContents → TableRule → TableRule → Type 0
Becomes (Ok x) before after = meaning after ≡ automaton_of x.0
Becomes (Err f) before after = after ≡ before

-- a call that loads the rule of the file that begins at a place of some bytes
pub record Loads (bytes : List ℕ) (at : ℕ) (before after : TableRule) (r : Result ℕ Fault) : Type 0 where
  pub answer : r ≡ ending (rule.read bytes at)
  pub loaded : Becomes (rule.read bytes at) before after
