use Rattle.std.proofs.Common.{◌≡◌, ◌-◌, length, take}
use Rattle.formats.specs.RuleFile.{mark}
use Rattle.wire.proofs.Steps.{Reading}
use Rattle.rulefile.proofs.marks.read_marks.Given as goal

abbrev pub invariant-loop-end : goal.invariant-loop-end
invariant-loop-end l = (length l.end-items ≡ l.states) × Reading {S = Unit {0}} (λ _. mark) (λ _ _. tt) l.initial.reader tt l.states (take l.end-index l.end-items) tt (l.states - l.end-index) l.reader
