use Rattle.records.specs.Records.{rest, size}
use Rattle.records.specs.Stream.{told}
use Rattle.files.proofs.Passes.{Tallying}
use Rattle.files.proofs.loading.tally.Given as goal

abbrev pub invariant-loop-item : goal.invariant-loop-item
invariant-loop-item l = Tallying (told l.file) (rest l.records) (size l.records.section) l.counts

abbrev pub decreases-loop-item : goal.decreases-loop-item
decreases-loop-item l = size l.records.section
