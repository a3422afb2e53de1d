use Rattle.records.specs.Records.{rest, size}
use Rattle.records.specs.Stream.{told}
use Rattle.files.specs.Lent.{lists, SameReferences}
use Rattle.files.specs.Loading.{first_stop}
use Rattle.files.specs.Progress.{unstored, filling}
use Rattle.files.proofs.Passes.{Going}
use Rattle.files.proofs.loading.fill.Given as goal

abbrev pub invariant-loop-found : goal.invariant-loop-found
invariant-loop-found l = record {
  same : SameReferences l.initial.tables l.tables;
  going : Going (filling (unstored (first_stop l.stops)) (lists l.initial.tables)) (told l.file).0 (rest l.found-iterator).0 (size l.found-iterator.section) (filling l.at (lists l.tables));
}

abbrev pub decreases-loop-found : goal.decreases-loop-found
decreases-loop-found l = size l.found-iterator.section
