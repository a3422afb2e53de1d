use Rattle.std.proofs.Common.{◌≡◌, true, Ok, ◌++◌, length, subst, rules}
use Rattle.model.specs.declared.refusal.Refusal.TheVariants.{NameLength}
use Rattle.meanings.specs.Spans.{rows}
use Rattle.wire.specs.Numbers.{encode}
use Rattle.writer.specs.Emission.{Emits, outside}
use Rattle.writer.specs.Parts.{lies}
use Rattle.writer.proofs.Emitting.{emits_tested, emits_then_appends}
use Rattle.writer.proofs.item.NamesListedSpanUnit.emit.Goals as goal

pub returns : goal.returns
returns c =
    let table = c.args.self.now.table.now in
    let row = c.args.row in
    let p : (lies table row ≡ true) × (c.in_ok-name.name.now ≡ rows table row) = search rules in
    emits_tested (lies table row) NameLength p.0
    (subst (λ name. Emits {V = Unit {0}} 45 (outside 1 40 NameLength (length name)) (encode (length name) ++ name) tt c.args.to.now c.bytes.new.self (Ok tt)) p.1 (emits_then_appends _ c.number_in.ensures c.in_ok-number_in.was c.bytes.ensures))
