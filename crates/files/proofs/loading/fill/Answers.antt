use Rattle.std.proofs.Common.{◌≡◌, ◌+◌, sym, refl, ap, ◌∙◌, ap₂, rules}
use Rattle.wire.proofs.Writing.{few_bytes}
use Rattle.records.specs.Records.{rest, size, meant, handed}
use Rattle.records.specs.Stream.{collected}
use Rattle.files.specs.Lent.{lists}
use Rattle.files.specs.Loading.{first_stop}
use Rattle.files.specs.Progress.{unstored}
use Rattle.files.proofs.Passes.{few_stops, first_stop_lem, going_start, going_turn, going_short, going_bounded, gone}
use Rattle.files.proofs.References.{same_start, same_then}
use Rattle.files.proofs.loading.fill.Goals as goal

pub overflow_cast-stops : goal.overflow_cast-stops
overflow_cast-stops c = let few = few_stops c.requires in search rules

pub overflow_add-encoded_len : goal.overflow_add-encoded_len
overflow_add-encoded_len c =
    let one = few_bytes 1 in
    let count = few_bytes c.args.stops in
    search rules

pub loop-found-init : goal.loop-found-init
loop-found-init c =
    let a = c.args in
    let r = c.new-found-items in
    let at = c.start-at.ensures ∙ ap₂ (λ x y. unstored (x + y)) c.encoded_len.ensures c.encoded_len-2.ensures in
    let i : c.into_iter-found-iterator.result ≡ c.new-found-items.result = search rules in
    rw (i, at) (record {
      same = same_start a.tables.now;
      going = going_start c.requires (lists a.tables.now)
          (first_stop a.stops) (size r.result.section) (rest r.result).0 (first_stop_lem a.stops) (ap (λ t. t.0) r.ensures.all) (ap size r.ensures.front)
          (ap collected (sym r.ensures.all) ∙ r.ensures.reads);
    })

pub store-at-requires : goal.store-at-requires
store-at-requires c = record {
  bounded = going_bounded c.loop-found.invariant.going;
  short = going_short c.loop-found.invariant.going (meant c.in-Ok.item) (rest c.next.new.self).0 (ap (λ t. t.0) (c.in-Some.ensures.steps.says ∙ ap (λ r. handed r (rest c.next.new.self)) c.in-Ok.is));
}

pub loop-found-preserved : goal.loop-found-preserved
loop-found-preserved c =
    let after = c.next.new.self in record {
      same = same_then c.loop-found.invariant.same c.store-at.ensures.same;
      going = going_turn c.loop-found.invariant.going (meant c.in-Ok.item) (rest after).0 (size after.section) _
          (ap (λ t. t.0) (c.in-Some.ensures.steps.says ∙ ap (λ r. handed r (rest c.next.new.self)) c.in-Ok.is)) (c.in-Some.ensures.steps.falls refl) c.store-at.ensures.stored;
    }

pub returns : goal.returns
returns c =
    let a = c.args in
    let r = c.new-found-items in record {
      same = c.loop-found.invariant.same;
      fills = gone (lists a.tables.now)
          (first_stop a.stops) c.loop-found.invariant.going (ap (λ t. t.0) c.in-None.ensures.steps.says) refl (ap collected (sym r.ensures.all) ∙ r.ensures.reads);
    }

pub returns-in_default : goal.returns-in_default
returns-in_default c =
    let a = c.args in
    let r = c.new-found-items in record {
      same = c.loop-found.invariant.same;
      fills = gone (lists a.tables.now)
          (first_stop a.stops) c.loop-found.invariant.going (ap (λ t. t.0) (c.in-Some.ensures.steps.says ∙ ap (λ r. handed r (rest c.next.new.self)) c.in_default.is)) refl (ap collected (sym r.ensures.all) ∙ r.ensures.reads);
    }
