use Rattle.std.proofs.Common.{ℕ, ◌<◌, length, sum_by, ap, arith}
use Rattle.queue.specs.Contents.{contents}
use Rattle.meanings.proofs.Sounds.{sound_timetables}
use Rattle.poster.specs.Asked.{asked}
use Rattle.poster.specs.Boards.{Listing}
use Rattle.poster.specs.Merging.{Leaves, line, left, DueOn}
use Rattle.poster.proofs.Lines.{rising_line, few_on_line}
use Rattle.poster.proofs.Rows.{writing_begins, writing_ends, all_written, taken_due, row_free, fewer_left, writing_steps}
use Rattle.poster.proofs.merge.merge.Goals as goal

pub loop-next-init : goal.loop-next-init
loop-next-init c =
    let l : Listing = asked c.args.question in
    let all : ℕ = sum_by (left l) (contents c.args.queue.now) in
    writing_begins l all c.args.rows.now (contents c.args.queue.now) c.requires.begun

pub line-connections-requires : goal.line-connections-requires
line-connections-requires c =
    let l : Listing = asked c.args.question in
    let all : ℕ = sum_by (left l) (contents c.args.queue.now) in
    let due : DueOn l (Leaves l) c.in-Some.next
    = taken_due l all c.args.rows.now c.loop-next.rows (contents c.loop-next.queue) (contents c.pop.new.self) c.in-Some.next c.loop-next.written c.loop-next.invariant c.in-Some.ensures.popped in
    due.among.0

pub bounds-connections-next : goal.bounds-connections-next
bounds-connections-next c =
    let l : Listing = asked c.args.question in
    let all : ℕ = sum_by (left l) (contents c.args.queue.now) in
    let due : DueOn l (Leaves l) c.in-Some.next
    = taken_due l all c.args.rows.now c.loop-next.rows (contents c.loop-next.queue) (contents c.pop.new.self) c.in-Some.next c.loop-next.written c.loop-next.invariant c.in-Some.ensures.popped in
    let inside : c.in-Some.next.place < length (line l c.in-Some.next.arc) = due.inside in
    omega (arith, ap length c.line-connections.ensures)

pub bounds-rows-written : goal.bounds-rows-written
bounds-rows-written c =
    let l : Listing = asked c.args.question in
    let all : ℕ = sum_by (left l) (contents c.args.queue.now) in
    let free : c.loop-next.written < all
    = row_free l all c.args.rows.now c.loop-next.rows (contents c.loop-next.queue) (contents c.pop.new.self) c.in-Some.next c.loop-next.written c.loop-next.invariant c.in-Some.ensures.popped in
    omega arith

pub overflow_add-next : goal.overflow_add-next
overflow_add-next c =
    let l : Listing = asked c.args.question in
    let all : ℕ = sum_by (left l) (contents c.args.queue.now) in
    let due : DueOn l (Leaves l) c.in-Some.next
    = taken_due l all c.args.rows.now c.loop-next.rows (contents c.loop-next.queue) (contents c.pop.new.self) c.in-Some.next c.loop-next.written c.loop-next.invariant c.in-Some.ensures.popped in
    let inside : c.in-Some.next.place < length (line l c.in-Some.next.arc) = due.inside in
    omega (arith, few_on_line l (sound_timetables _ _ c.args.question.timetables.now.sound).fit c.in-Some.next.arc)

pub loop-next-smaller : goal.loop-next-smaller
loop-next-smaller c =
    let l : Listing = asked c.args.question in
    let all : ℕ = sum_by (left l) (contents c.args.queue.now) in
    fewer_left l all c.args.rows.now c.loop-next.rows (contents c.loop-next.queue) (contents c.pop.new.self) c.in-Some.next c.loop-next.written c.loop-next.invariant c.in-Some.ensures.popped
    (rising_line l (sound_timetables _ _ c.args.question.timetables.now.sound).rising) c.in-Some.ensures.least c.departure_at.result (contents c.enqueue.new.queue) c.enqueue.ensures.added
    c.line-connections.result.now c.line-connections.ensures c.departure_at.ensures

pub loop-next-preserved : goal.loop-next-preserved
loop-next-preserved c =
    let l : Listing = asked c.args.question in
    let all : ℕ = sum_by (left l) (contents c.args.queue.now) in
    writing_steps l all c.args.rows.now c.loop-next.rows (contents c.loop-next.queue) (contents c.pop.new.self) c.in-Some.next c.loop-next.written c.loop-next.invariant c.in-Some.ensures.popped
    (rising_line l (sound_timetables _ _ c.args.question.timetables.now.sound).rising) c.in-Some.ensures.least c.departure_at.result (contents c.enqueue.new.queue) c.enqueue.ensures.added
    c.line-connections.result.now c.line-connections.ensures c.departure_at.ensures c.requires.fits

pub returns : goal.returns
returns c =
    let l : Listing = asked c.args.question in
    let all : ℕ = sum_by (left l) (contents c.args.queue.now) in
    record {
      merged = writing_ends l all c.args.rows.now c.loop-next.rows (contents c.loop-next.queue) c.loop-next.written c.in_default.ensures.popped.0 c.loop-next.invariant;
      all = all_written l all c.args.rows.now c.loop-next.rows (contents c.loop-next.queue) c.loop-next.written c.in_default.ensures.popped.0 c.loop-next.invariant;
    }
