use Rattle.std.specs.declared.ops.Range.{Range}
use Rattle.std.proofs.Common.{◌≡◌, ℕ, ◌+◌, ◌-◌, ◌≤◌, List, length, sym, ap, ◌∙◌, subst, arith}
use Rattle.model.specs.declared.tables.Connection.{Connection}
use Rattle.queue.specs.Contents.{contents}
use Rattle.network.proofs.Ranges.{leaving_numbers}
use Rattle.meanings.proofs.Sounds.{sound_timetables}
use Rattle.poster.specs.Asked.{asked}
use Rattle.poster.specs.Boards.{Listing}
use Rattle.poster.specs.Merging.{line, At, Begun}
use Rattle.poster.proofs.Leaving.{leaving_counted}
use Rattle.poster.proofs.Lines.{caught_few, rising_line, few_on_line}
use Rattle.poster.proofs.Begins.{Between, begun_next, added_few}
use Rattle.poster.proofs.Boards.{begun_leaving}
use Rattle.poster.proofs.merge.begin.Goals as goal

pub overflow_sub-place : goal.overflow_sub-place
overflow_sub-place c =
    let l : Listing = asked c.args.question in
    let up = rising_line l (sound_timetables _ _ c.args.question.timetables.now.sound).rising c.in-Some.i in
    omega (arith, ap length c.line-connections.ensures, caught_few (line l c.in-Some.i) c.args.question.second up, c.due_count-due.ensures)

pub overflow_cast-place : goal.overflow_cast-place
overflow_cast-place c =
    let few = few_on_line (asked c.args.question) (sound_timetables _ _ c.args.question.timetables.now.sound).fit c.in-Some.i in
    omega (arith, few, ap length c.line-connections.ensures)

pub enqueue-requires : goal.enqueue-requires
enqueue-requires c =
    let n = leaving_counted c.args.question.network.arcs.now c.args.question.stop c.numbers-range.result (leaving_numbers c.args.question.network.arcs.now c.args.question.stop c.leaving.result _ c.numbers-range.ensures c.leaving.ensures) in
    let range = c.into_iter-i-iterator.ensures.into_iter_gives in
    let first : c.into_iter-i-iterator.result.start ≡ c.numbers-range.result.start = ap Range.start range in
    let last : c.into_iter-i-iterator.result.end ≡ c.numbers-range.result.end = ap Range.end range in
    let steps = c.in-Some.ensures.steps.1 in
    let kept = c.loop-i.invariant in
    omega (arith, steps.0, kept.1, kept.3, kept.4, kept.5, kept.6, c.requires.room)

pub overflow_add-count : goal.overflow_add-count
overflow_add-count c =
    let l : Listing = asked c.args.question in
    let up = rising_line l (sound_timetables _ _ c.args.question.timetables.now.sound).rising c.in-Some.i in
    let fewer : c.due_count-due.result ≤ length (line l c.in-Some.i) = omega (arith, caught_few (line l c.in-Some.i) c.args.question.second up, c.due_count-due.ensures) in
    let few : length (line l c.in-Some.i) ≤ 512 = few_on_line l (sound_timetables _ _ c.args.question.timetables.now.sound).fit c.in-Some.i in
    let most : length c.args.question.network.arcs.now ≤ 8192 = c.args.question.network.counted.1 in
    let within : c.numbers-range.result.end ≤ length c.args.question.network.arcs.now = (leaving_numbers c.args.question.network.arcs.now c.args.question.stop c.leaving.result _ c.numbers-range.ensures c.leaving.ensures).within in
    let last : c.into_iter-i-iterator.result.end ≡ c.numbers-range.result.end = ap Range.end c.into_iter-i-iterator.ensures.into_iter_gives in
    let kept = c.loop-i.invariant in
    omega (arith, kept.2, kept.4, kept.5, kept.6)

pub loop-i-preserved : goal.loop-i-preserved
loop-i-preserved c =
    let l : Listing = asked c.args.question in
    let steps = c.in-Some.ensures.steps.1 in
    let kept = c.loop-i.invariant in
    let first : ℕ = c.into_iter-i-iterator.result.start in
    let up = rising_line l (sound_timetables _ _ c.args.question.timetables.now.sound).rising c.in-Some.i in
    let fewer : c.due_count-due.result ≤ length (line l c.in-Some.i) = omega (arith, caught_few (line l c.in-Some.i) c.args.question.second up, c.due_count-due.ensures) in
    let few : length (line l c.in-Some.i) ≤ 512 = few_on_line l (sound_timetables _ _ c.args.question.timetables.now.sound).fit c.in-Some.i in
    let here : c.loop-i.i-iterator.start ≡ c.in-Some.i = sym steps.1 in
    let next : c.in-Some.i + 1 ≡ c.next.new.self.start = omega (arith, steps.1, steps.2) in
    let from : c.into_iter-i-iterator.result.start ≤ c.in-Some.i = omega (arith, kept.4) in
    let at : At (line l c.in-Some.i) c.in-Some.i (length (line l c.in-Some.i) - c.due_count-due.result) c.departure_at.result
    = subst (λ (z : List Connection). At z c.in-Some.i (length z - c.due_count-due.result) c.departure_at.result) c.line-connections.ensures c.departure_at.ensures in (
      subst (λ (z : ℕ). Begun l (Between first z) (contents c.enqueue.new.queue) (c.loop-i.count + c.due_count-due.result)) next
          (begun_next l first c.in-Some.i c.loop-i.count c.due_count-due.result (contents c.loop-i.queue) from up c.due_count-due.ensures
          (subst (λ (z : ℕ). Begun l (Between first z) (contents c.loop-i.queue) c.loop-i.count) here kept.0) c.departure_at.result at (contents c.enqueue.new.queue) c.enqueue.ensures.added),
      omega (arith, kept.1, added_few (contents c.loop-i.queue) c.departure_at.result (contents c.enqueue.new.queue) c.enqueue.ensures.added),
      omega (arith, kept.2),
      c.enqueue.ensures.room ∙ kept.3,
      omega (arith, kept.4),
      omega (arith, steps.0, kept.5),
      omega (arith, kept.6),
    )

pub returns : goal.returns
returns c =
    let l : Listing = asked c.args.question in
    let kept = c.loop-i.invariant in
    let range = c.into_iter-i-iterator.ensures.into_iter_gives in
    let first : c.into_iter-i-iterator.result.start ≡ c.numbers-range.result.start = ap Range.start range in
    let last : c.loop-i.i-iterator.start ≡ c.numbers-range.result.end = omega (arith, ap Range.end range, c.in-None.ensures.steps.1.0, kept.5, kept.6) in
    begun_leaving l c.numbers-range.result (leaving_numbers c.args.question.network.arcs.now c.args.question.stop c.leaving.result _ c.numbers-range.ensures c.leaving.ensures) (contents c.loop-i.queue) c.loop-i.count
    (subst (λ (z : ℕ). Begun l (Between c.numbers-range.result.start z) (contents c.loop-i.queue) c.loop-i.count) last
    (subst (λ (z : ℕ). Begun l (Between z c.loop-i.i-iterator.start) (contents c.loop-i.queue) c.loop-i.count) first kept.0))
