-- One row of a poster written.
use Rattle.std.proofs.Common.{◌≡◌, ℕ, ◌+◌, ◌-◌, ◌<◌, ◌≤◌, false, List, [], ◌∷◌, ◌++◌, length, get_or, set, Some, None, sum_by, Option, sym, refl, ap, ◌∙◌, subst, arith, length-append}
use Rattle.std.specs.List.{AllByRecursion}
use Rattle.std.proofs.ByRecursion.{all_shuffled}
use Rattle.std.proofs.lemmas.List.Sums.{sum_by-cons}
use Rattle.model.specs.declared.tables.Connection.{Connection}
use Rattle.meanings.specs.Timetables.{no_connection, Rising}
use Rattle.queue.specs.Contents.{Took, FirstOut}
use Rattle.queue.proofs.Facts.{all_took}
use Rattle.poster.specs.declared.departure.Departure.{Departure}
use Rattle.poster.specs.declared.departure.PosterRow.{PosterRow}
use Rattle.poster.specs.Before.{departure_before}
use Rattle.poster.specs.Boards.{Listing, row_of}
use Rattle.poster.specs.Merging.{At, Added, Leaves, line, left, DueOn, Begun, Listed, AllListed, Writing, Merged}
use Rattle.poster.proofs.Merges.{begun_listed, listed_shuffled, listed_end, listed_last, listed_next, row_written}
use Rattle.poster.proofs.Boards.{row_is}

module _ (l : Listing) (count : ℕ) where
  -- before the first row
  pub writing_begins : (rows : List PosterRow) (q : List Departure) → Begun l (Leaves l) q count → Writing l count rows rows q 0
  writing_begins rows q b = record { done = []; listed = begun_listed l (Leaves l) count q b; holds = refl; counted = refl }

  -- after the last
  pub writing_ends : (rows rows' : List PosterRow) (q : List Departure) (written : ℕ) → q ≡ [] → Writing l count rows rows' q written → Merged l rows rows' written
  writing_ends rows rows' q written e w = record {
    done = w.done;
    all_listed =
        let a = listed_end l (Leaves l) count w.done (subst (λ (z : List Departure). Listed l (Leaves l) w.done z count) e w.listed) in
        record { listed = a.listed; ascending = a.ascending; all = a.all; counted = sym w.counted };
    holds = w.holds;
  }

  pub all_written : (rows rows' : List PosterRow) (q : List Departure) (written : ℕ) → q ≡ [] → Writing l count rows rows' q written → written ≡ count
  all_written rows rows' q written e w =
      let a : AllListed l (Leaves l) w.done count = listed_end l (Leaves l) count w.done (subst (λ (z : List Departure). Listed l (Leaves l) w.done z count) e w.listed) in
      w.counted ∙ a.counted

  module _ (rows rows' : List PosterRow) (q rest : List Departure) (x : Departure) (written : ℕ) (w : Writing l count rows rows' q written) (took : Took q x rest) where
    pub taken_due : DueOn l (Leaves l) x
    taken_due = (all_took (DueOn l (Leaves l)) q x rest took w.listed.due).0

    state : Listed l (Leaves l) w.done (x ∷ rest) count
    state = listed_shuffled l (Leaves l) count w.done q (x ∷ rest) took.removed w.listed

    -- a row is free for it
    pub row_free : written < count
    row_free =
        let i : x.place < length (line l x.arc) = taken_due.inside in
        let c : sum_by (left l) (x ∷ rest) ≡ (length (line l x.arc) - x.place) + sum_by (left l) rest = sum_by-cons (left l) x rest in
        let o : length w.done + sum_by (left l) (x ∷ rest) ≡ count = state.counted in
        let n : written ≡ length w.done = w.counted in
        omega arith

    module _ (up : (a : ℕ) → Rising (line l a)) (first : FirstOut departure_before (Some x) q) where
      least : AllByRecursion (λ y. departure_before y x ≡ false) rest
      least = (all_shuffled (λ y. departure_before y x ≡ false) q (x ∷ rest) took.removed first).1

      next_state : (o : Option Departure) → At (line l x.arc) x.arc (x.place + 1) o → (r : List Departure) → Added rest o r → Listed l (Leaves l) (w.done ++ x ∷ []) r count
      next_state None at r e =
          subst (λ (z : List Departure). Listed l (Leaves l) (w.done ++ x ∷ []) z count) (sym e) (listed_last l (Leaves l) count up w.done rest x state least at)
      next_state (Some d) at r s =
          listed_shuffled l (Leaves l) count (w.done ++ x ∷ []) (d ∷ rest) r s.0
          (subst (λ (z : Departure). Listed l (Leaves l) (w.done ++ x ∷ []) (z ∷ rest) count) (sym at.1) (listed_next l (Leaves l) count up w.done rest x state least at.0))

      module _ (o : Option Departure) (r : List Departure) (added : Added rest o r) (cs : List Connection) (is : cs ≡ line l x.arc) (at : At cs x.arc (x.place + 1) o) where
        at_line : At (line l x.arc) x.arc (x.place + 1) o
        at_line = subst (λ (z : List Connection). At z x.arc (x.place + 1) o) is at

        -- fewer departures are left
        pub fewer_left : sum_by (left l) r < sum_by (left l) q
        fewer_left =
            let n = next_state o at_line r added in
            let a : length (w.done ++ x ∷ []) + sum_by (left l) r ≡ count = n.counted in
            let b : length w.done + sum_by (left l) q ≡ count = w.listed.counted in
            let c : length (w.done ++ x ∷ []) ≡ length w.done + 1 = length-append w.done (x ∷ []) in
            omega arith

        pub writing_steps : count ≤ length rows
            → Writing l count rows (set rows' written (record { departure = x.departure; arrival = (get_or cs x.place no_connection).arrival; arc = x.arc })) r (written + 1)
        writing_steps fits =
            let row : ◌≡◌ {A = PosterRow} (record { departure = x.departure; arrival = (get_or cs x.place no_connection).arrival; arc = x.arc }) (row_of l x)
            = ap (λ (z : List Connection). record { departure = x.departure; arrival = (get_or z x.place no_connection).arrival; arc = x.arc }) is ∙ row_is l (Leaves l) x taken_due in
            let n : written ≡ length w.done = w.counted in
            let f : written < count = row_free in
            let c : length (w.done ++ x ∷ []) ≡ length w.done + 1 = length-append w.done (x ∷ []) in
            record {
              done = w.done ++ x ∷ [];
              listed = next_state o at_line r added;
              holds = (λ i. set (w.holds i) (n i) (row i)) ∙ row_written (row_of l) w.done rows x (omega arith);
              counted = omega arith;
            }
