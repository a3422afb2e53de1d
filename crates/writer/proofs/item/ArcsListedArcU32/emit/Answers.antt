use Rattle.std.proofs.Common.{sym, ◌∙◌, subst, append_assoc, ◌++◌}
use Rattle.wire.specs.Numbers.{encode}
use Rattle.writer.specs.Emission.{Appends}
use Rattle.writer.specs.Parts.{arc_refusal}
use Rattle.writer.proofs.Emitting.{answered_ok, accepted, appends_then}
use Rattle.writer.proofs.item.ArcsListedArcU32.emit.Goals as goal

pub returns : goal.returns
returns c =
    let a = c.args.a in
    let k = arc_refusal c.args.self.now.stops c.args.self.now.services c.args.last a in
    accepted k a.tail (answered_ok k tt tt (sym c.in_ok-admits.was ∙ c.admits.ensures)).0
    (subst (λ bytes. Appends 20 bytes c.args.to.now c.pair-2.new.self) (append_assoc (encode a.tail) (encode a.head) (encode a.label ++ encode a.service)) (appends_then c.pair.ensures c.pair-2.ensures))
