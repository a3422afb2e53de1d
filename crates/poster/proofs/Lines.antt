-- The book's connections on one arc, and which of them are due.
use Rattle.std.proofs.Common.{◌≡◌, ℕ, zero, suc, ◌-◌, ◌<◌, ◌≤◌, List, [], length, get_or, drop, Some, None, sym, ap, ◌∙◌, subst, ⊎_elim, arith, length-drop}
use Rattle.std.proofs.lemmas.Bool.{le-leb, lt-leb, cases_lt}
use Rattle.model.specs.declared.tables.Connection.{Connection}
use Rattle.model.specs.declared.tables.Span.{Span}
use Rattle.meanings.specs.Spans.{service_rows, no_span, Each, AllFit}
use Rattle.meanings.specs.Timetables.{caught, no_connection, most_connections, Rising}
use Rattle.meanings.proofs.Spans.{rows_length}
use Rattle.meanings.proofs.Timetables.{caught_from, caught_on, missed_to}
use Rattle.books.proofs.Departing.{rising_rows, no_rows}
use Rattle.poster.specs.Boards.{Listing, arc_of}
use Rattle.poster.specs.Merging.{of_service, line, Service}

-- where the connections begin that depart at or after t
record Cut (cs : List Connection) (t n : ℕ) : Type 0 where
  pub place : ℕ
  pub within : place ≤ n
  pub before : (k : ℕ) → k < place → (get_or cs k no_connection).departure < t
  pub after : (k : ℕ) → place ≤ k → k < n → t ≤ (get_or cs k no_connection).departure

cut : (cs : List Connection) (t : ℕ) → Rising cs → (n : ℕ) → n ≤ length cs → Cut cs t n
cut cs t up zero le = record { place = 0; within = omega arith; before = λ k h. absurd (omega arith); after = λ k h m. absurd (omega arith) }
cut cs t up (suc n) le = ⊎_elim
    (λ h. record { place = suc n; within = omega arith; before = λ k m. missed_to cs up t n (omega arith) h k (omega arith); after = λ k m o. absurd (omega arith) })
    (λ h.
    let old = cut cs t up n (omega arith) in
    let within : old.place ≤ n = old.within in
    record {
      place = old.place;
      within = omega arith;
      before = old.before;
      after = λ k m o. ⊎_elim (λ lt. old.after k m lt) (λ ge. caught_on cs up t n (omega arith) h k ge (omega arith)) (cases_lt k n);
    })
    (cases_lt (get_or cs n no_connection).departure t)

-- those from the place on are as many as are caught
module _ (cs : List Connection) (t : ℕ) (up : Rising cs) where
  cut_place : (c : Cut cs t (length cs)) → c.place ≡ length cs - length (caught t cs)
  cut_place c =
      let e : length (caught t cs) ≡ length (drop c.place cs) = ap length (caught_from cs t c.place c.before c.after c.within) in
      let within : c.place ≤ length cs = c.within in
      omega (arith, length-drop c.place cs)

  whole : Cut cs t (length cs)
  whole = cut cs t up (length cs) (omega arith)

  pub caught_few : length (caught t cs) ≤ length cs
  caught_few =
      let e : length (caught t cs) ≡ length (drop whole.place cs) = ap length (caught_from cs t whole.place whole.before whole.after whole.within) in
      omega (arith, length-drop whole.place cs)

  -- from the place on they depart in time
  pub first_in_time : (k : ℕ) → length cs - length (caught t cs) ≤ k → k < length cs → t ≤ (get_or cs k no_connection).departure
  first_in_time k from below = whole.after k (omega (arith, cut_place whole)) below

  -- and those in time stand there
  pub in_time_from : (k : ℕ) → k < length cs → t ≤ (get_or cs k no_connection).departure → length cs - length (caught t cs) ≤ k
  in_time_from k below h = ⊎_elim (λ lt. absurd (omega (arith, whole.before k lt))) (λ ge. omega (arith, cut_place whole)) (cases_lt k whole.place)

module _ (connections : List Connection) (spans : List Span) (first : ℕ) where
  pub of_ours : (s : ℕ) → first ≤ s → of_service connections spans first s ≡ service_rows connections spans (s - first)
  of_ours s h = rw (le-leb first s h)

  pub of_another : (s : ℕ) → s < first → of_service connections spans first s ≡ []
  of_another s h = rw (lt-leb first s h)

  pub rising_service : Each Rising connections spans → (s : ℕ) → Rising (of_service connections spans first s)
  rising_service up s = ⊎_elim
      (λ h. subst Rising (sym (of_another s h)) (λ j l. absurd (omega arith)))
      (λ h. subst Rising (sym (of_ours s h)) (rising_rows connections spans up (s - first)))
      (cases_lt s first)

  few_rows : AllFit most_connections connections spans → (s : ℕ) → length (service_rows connections spans s) ≤ 512
  few_rows fit s = ⊎_elim
      (λ h. let f = fit s h in omega (arith, rows_length most_connections connections (get_or spans s no_span) f))
      (λ h. omega (arith, ap length (no_rows connections spans s h)))
      (cases_lt s (length spans))

  pub few_of_service : AllFit most_connections connections spans → (s : ℕ) → length (of_service connections spans first s) ≤ 512
  few_of_service fit s = ⊎_elim
      (λ h. omega (arith, ap length (of_another s h)))
      (λ h. omega (arith, ap length (of_ours s h), few_rows fit (s - first)))
      (cases_lt s first)

-- ---- the lines of a listing

module _ (l : Listing) where
  pub rising_line : Each Rising l.connections l.spans → (a : ℕ) → Rising (line l a)
  rising_line up a = rising_service l.connections l.spans l.first_service up (arc_of l a).service

  pub few_on_line : AllFit most_connections l.connections l.spans → (a : ℕ) → length (line l a) ≤ 512
  few_on_line fit a = few_of_service l.connections l.spans l.first_service fit (arc_of l a).service

  -- the line of an arc by its service
  pub line_of_none : (a : ℕ) → Service l a None → line l a ≡ []
  line_of_none a h = of_another l.connections l.spans l.first_service (arc_of l a).service h

  pub line_of_service : (a s : ℕ) → Service l a (Some s) → service_rows l.connections l.spans s ≡ line l a
  line_of_service a s h =
      ap (λ (z : ℕ). service_rows l.connections l.spans z) h.1 ∙ sym (of_ours l.connections l.spans l.first_service (arc_of l a).service h.0)
