use Rattle.std.proofs.Common.{refl, ap, ◌∙◌, ap₂}
use Rattle.records.specs.Stream.{whole, collected}
use Rattle.records.proofs.Telling.{told_is_read}
use Rattle.records.proofs.records.Records.new.Goals as goal

pub returns : goal.returns
returns c =
    let e = ap₂ whole c.new.ensures.file c.new.ensures.front in
    record { all = e; reads = ap collected e ∙ told_is_read c.args.bytes.now; front = refl }
