-- Both ways round, for every lawful format.
use Rattle.std.proofs.Common.{◌-◌, ◌++◌, length, take, drop, sym, ap, ◌∙◌, arith, take_at}
use lib.Seq.{drop-append_seam}
use Rattle.wire.specs.Grammar.{Format, LawfulFormat}
use Rattle.formats.specs.Theorems.{ReadsBack, WritesBack}

pub reads_back : {A : Type 0} (F : Format A) → LawfulFormat F → ReadsBack F
reads_back F law a front rest fine = law.back a (front ++ (F.write a ++ rest)) rest (length front) fine (drop-append_seam front (F.write a ++ rest))

pub writes_back : {A : Type 0} (F : Format A) → LawfulFormat F → WritesBack F
writes_back F law a bs from to e =
    let h = law.held a bs from to e in
    (h.fine, sym (ap (take (to - from)) h.front ∙ take_at (F.write a) (drop to bs) (to - from) (omega (arith, h.long))))
