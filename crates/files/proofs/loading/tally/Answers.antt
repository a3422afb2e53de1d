use Rattle.std.proofs.Common.{[], Ok, sym, refl, ap, ◌∙◌}
use Rattle.records.specs.Records.{rest, size, meant, handed}
use Rattle.records.specs.Stream.{Told, collected}
use Rattle.files.proofs.Passes.{tallying_turn, tallied_end}
use Rattle.files.proofs.loading.tally.Goals as goal

pub loop-item-preserved : goal.loop-item-preserved
loop-item-preserved c =
    let after = c.next.new.self in
    tallying_turn c.loop-item.invariant (meant c.in_ok-item.field-0) (rest after) (size after.section) c.with-counts.result
    (c.in-Some.ensures.steps.says ∙ ap (λ r. handed r (rest after)) c.in_ok-item.was) (c.in-Some.ensures.steps.falls refl) c.with-counts.ensures

pub returns : goal.returns
returns c =
    tallied_end c.args.file.now c.loop-item.invariant (ap collected (sym c.new-records.ensures.all) ∙ c.new-records.ensures.reads)
    (c.in_default.ensures.steps.says ∙ ap {B = Told} (λ p. ([], Ok p)) (sym c.place.ensures))
