-- The merge of the arcs that leave a stop is the stop's board.
use Rattle.std.proofs.Common.{◌≡◌, ℕ, ◌<◌, ◌≤◌, List, length, get_or, sym, ap, subst, ⊎_elim, arith}
use Rattle.std.proofs.ByRecursion.{all-has, All-weaker}
use Rattle.std.proofs.lemmas.Bool.{cases_lt}
use Rattle.model.specs.declared.tables.Connection.{Connection}
use Rattle.meanings.specs.Timetables.{no_connection}
use Rattle.std.specs.declared.ops.Range.{Range}
use Rattle.network.specs.Sound.{Leaving}
use Rattle.books.proofs.Departing.{no_rows}
use Rattle.poster.specs.declared.departure.Departure.{Departure}
use Rattle.poster.specs.Boards.{Listing, no_arc, arc_of, service_of, service_list, row_of, Due, Board, BoardsAreOne}
use Rattle.poster.specs.Merging.{Leaves, line, DueOn, Begun, AllListed}
use Rattle.poster.specs.Orders.{ascending_one}
use Rattle.poster.proofs.Lines.{of_ours, of_another}
use Rattle.poster.proofs.Begins.{Between}

module _ (l : Listing) where
  -- a line that is not empty is that of one of the book's services
  ours : (a k : ℕ) → k < length (line l a) → l.first_service ≤ (arc_of l a).service
  ours a k lt = ⊎_elim
      (λ h. absurd (omega (arith, ap length (of_another l.connections l.spans l.first_service (arc_of l a).service h))))
      (λ h. h)
      (cases_lt (arc_of l a).service l.first_service)

  pub line_is : (a k : ℕ) → k < length (line l a) → line l a ≡ service_list l a
  line_is a k lt = of_ours l.connections l.spans l.first_service (arc_of l a).service (ours a k lt)

  pub due_from : (d : Departure) → DueOn l (Leaves l) d → Due l d
  due_from d p =
      let e : line l d.arc ≡ service_list l d.arc = line_is d.arc d.place p.inside in
      let inside : d.place < length (service_list l d.arc) = subst (λ (cs : List Connection). d.place < length cs) e p.inside in
      record {
        numbered = p.among.0;
        leaves = p.among.1;
        not_below = ours d.arc d.place p.inside;
        in_the_book = ⊎_elim (λ h. h) (λ h. absurd (omega (arith, ap length (no_rows l.connections l.spans (service_of l d.arc) h)))) (cases_lt (service_of l d.arc) (length l.spans));
        in_the_service = inside;
        departs = subst (λ (cs : List Connection). d.departure ≡ (get_or cs d.place no_connection).departure) e p.departs;
        in_time = p.in_time;
      }

  pub due_on : (d : Departure) → Due l d → DueOn l (Leaves l) d
  due_on d p =
      let e : line l d.arc ≡ service_list l d.arc = of_ours l.connections l.spans l.first_service (arc_of l d.arc).service p.not_below in
      record {
        among = (p.numbered, p.leaves);
        inside = subst (λ (cs : List Connection). d.place < length cs) (sym e) p.in_the_service;
        departs = subst (λ (cs : List Connection). d.departure ≡ (get_or cs d.place no_connection).departure) (sym e) p.departs;
        in_time = p.in_time;
      }

  pub is_board : (done : List Departure) (count : ℕ) → AllListed l (Leaves l) done count → Board l done
  is_board done count h = record {
    ascending = h.ascending;
    just_the_due = λ d. (λ k. due_from d (all-has (DueOn l (Leaves l)) done d h.listed k), λ p. h.all d (due_on d p));
  }

  -- the arcs of the range are those that leave the stop
  module _ (range : Range ℕ) (leaving : Leaving l.arcs l.stop range) where
    to_leaves : (d : Departure) → DueOn l (Between range.start range.end) d → DueOn l (Leaves l) d
    to_leaves d p =
        let within : range.end ≤ length l.arcs = leaving.within in
        let a : Between range.start range.end d.arc = p.among in
        record { among = (omega arith, leaving.leave d.arc no_arc a.0 a.1); inside = p.inside; departs = p.departs; in_time = p.in_time }

    from_leaves : (d : Departure) → DueOn l (Leaves l) d → DueOn l (Between range.start range.end) d
    from_leaves d p = record { among = leaving.all d.arc no_arc p.among.0 p.among.1; inside = p.inside; departs = p.departs; in_time = p.in_time }

    pub begun_leaving : (q : List Departure) (count : ℕ) → Begun l (Between range.start range.end) q count → Begun l (Leaves l) q count
    begun_leaving q count b = record {
      due = All-weaker (DueOn l (Between range.start range.end)) (DueOn l (Leaves l)) to_leaves q b.due;
      one_each = b.one_each;
      ahead = λ d p. b.ahead d (from_leaves d p);
      counted = b.counted;
    }

  -- the row that is written for a departure is its row
  pub row_is : (Arcs : ℕ → Type 0) (d : Departure) → DueOn l Arcs d → record { departure = d.departure; arrival = (get_or (line l d.arc) d.place no_connection).arrival; arc = d.arc } ≡ row_of l d
  row_is Arcs d p = λ i. record {
    departure = d.departure;
    arrival = (get_or (line_is d.arc d.place p.inside i) d.place no_connection).arrival;
    arc = d.arc;
  }

pub boards_are_one : BoardsAreOne
boards_are_one l b c p q =
    ascending_one b c p.ascending q.ascending (λ d h. (q.just_the_due d).1 ((p.just_the_due d).0 h)) (λ d h. (p.just_the_due d).1 ((q.just_the_due d).0 h))
