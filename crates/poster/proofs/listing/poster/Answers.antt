use Rattle.std.proofs.Common.{◌≡◌, ℕ, ◌≤◌, length, sym, refl, ◌∙◌, subst, arith}
use Rattle.queue.specs.Contents.{contents}
use Rattle.meanings.proofs.Sounds.{sound_timetables}
use Rattle.poster.specs.Boards.{Listing, listing}
use Rattle.poster.specs.Merging.{Begun, Leaves}
use Rattle.poster.specs.Posted.{leaving_count}
use Rattle.poster.proofs.Leaving.{slots_enough}
use Rattle.poster.proofs.Lines.{rising_line}
use Rattle.poster.proofs.Merges.{Whole, merge_of}
use Rattle.poster.proofs.Boards.{is_board, boards_are_one}
use Rattle.poster.proofs.Outcomes.{outcome_short, outcome_filled, posted_past}
use Rattle.poster.proofs.listing.poster.Goals as goal

pub returns-in_err-test-clause-boards_are_one : goal.returns-in_err-test-clause-boards_are_one
returns-in_err-test-clause-boards_are_one c = boards_are_one

pub begin-count-requires : goal.begin-count-requires
begin-count-requires c =
    let enough : leaving_count c.args.network.arcs.now c.args.stop ≤ length c.args.slots.now
    = slots_enough c.args.network.stops c.args.network.arcs.now c.args.stop c.args.second (length c.args.slots.now) c.in_ok-test.ensures in
    record {
      empty = c.new-queue.ensures.empty;
      room = omega (arith, c.new-queue.ensures.room);
    }

pub returns-then-rows-count : goal.returns-then-rows-count
returns-then-rows-count c =
    let l : Listing = listing c.args.network.arcs.now c.args.timetables.now.rows.now c.args.timetables.now.spans.now c.args.first_service c.args.stop c.args.second in
    let w : Whole l (Leaves l) c.begin-count.result = merge_of l (Leaves l) c.begin-count.result (rising_line l (sound_timetables _ _ c.args.timetables.now.sound).rising) _ c.begin-count.ensures in
    let count : length w.board ≡ c.begin-count.result = w.all_listed.counted in
    record {
      posted = posted_past c.args.network.stops l c.args.slots.now c.args.rows.now _ _ _ c.in_ok-test.ensures (omega arith) refl
          (outcome_short l w.board (is_board l w.board c.begin-count.result w.all_listed) c.args.rows.now (omega arith));
      boards_are_one = boards_are_one;
    }

pub merge-requires : goal.merge-requires
merge-requires c =
    let l : Listing = listing c.args.network.arcs.now c.args.timetables.now.rows.now c.args.timetables.now.spans.now c.args.first_service c.args.stop c.args.second in
    record {
      begun = subst (λ (n : ℕ). Begun l (Leaves l) (contents c.begin-count.new.queue) n) c.begin-count.ensures.counted c.begin-count.ensures;
      fits = omega (arith, c.begin-count.ensures.counted);
    }

pub returns : goal.returns
returns c =
    let l : Listing = listing c.args.network.arcs.now c.args.timetables.now.rows.now c.args.timetables.now.spans.now c.args.first_service c.args.stop c.args.second in
    let m = c.merge.ensures.merged in
    let count : length m.done ≡ c.merge.result = m.all_listed.counted in
    let all : c.merge.result ≡ c.begin-count.result = c.merge.ensures.all ∙ sym c.begin-count.ensures.counted in
    record {
      posted = posted_past c.args.network.stops l c.args.slots.now c.args.rows.now _ _ _ c.in_ok-test.ensures (omega arith) (omega arith)
          (outcome_filled l m.done (is_board l m.done c.merge.result m.all_listed) c.args.rows.now _ c.merge.result (sym count) (omega arith) m.holds);
      boards_are_one = boards_are_one;
    }
