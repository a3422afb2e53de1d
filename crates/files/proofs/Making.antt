-- A network file that is accepted holds what books and networks are made of.
use Rattle.std.proofs.Common.{◌≡◌, ℕ, zero, suc, ◌+◌, ◌<◌, ◌≤◌, Bool, true, ◌&&◌, leb, List, [], ◌∷◌, ◌++◌, map, length, get_or, take, drop, Some, None, Ok, Err, Option, Result, sym, refl, ap, ◌∙◌, ap₂, append_assoc, zero-add, add-one, arith, length-append, length-drop, drop-drop, take_at}
use lib.Seq.{drop-append_seam}
use Rattle.std.proofs.lemmas.Bool.{cond-true, le-leb, leb-true, lt-ltb}
use Rattle.model.specs.Clock.{horizon}
use Rattle.model.specs.declared.network.Arc.{Arc}
use Rattle.model.specs.declared.tables.Connection.{Connection}
use Rattle.model.specs.declared.tables.Point.{Point}
use Rattle.meanings.specs.Spans.{rows, most_services}
use Rattle.meanings.specs.Walks.{longest_walk}
use Rattle.meanings.specs.Timetables.{most_connections}
use Rattle.meanings.specs.Roads.{most_points}
use Rattle.meanings.specs.declared.fault.BookFault.TheVariants.{TooManyServices, WalkTooLong, ListLength, ListOutside}
use Rattle.meanings.specs.declared.fault.Field.{Field}
use Rattle.meanings.specs.declared.fault.Field.TheVariants.{Departure, Arrival}
use Rattle.meanings.specs.Faults.{unless, or_else, first_fault, count_fault, walk_fault, departed, connection_fault, above, arrived, point_fault, in_row, rows_fault, list_fault, verdict}
use Rattle.network.specs.declared.fault.NetworkFault.{NetworkFault}
use Rattle.network.specs.Sound.{Sound, InRange, Tested}
use Rattle.network.proofs.Faultless.{sound_not_at_fault}
use Rattle.wire.specs.Grammar.{Format, FineAll, write_all, counted}
use Rattle.wire.specs.Numbers.{encode}
use Rattle.formats.specs.Contents.{NetworkContents, services}
use Rattle.formats.specs.NetworkFile.{stop, walk, connection_count, connection, Departs, departed as last-departure, point_count, point, passed, Rises, arc, left, walks, timetables, roads, arcs, FineNetwork}
use Rattle.formats.proofs.NetworkFile.{network_lawful}
use Rattle.files.specs.Loading.{joined, list_rows, name_rows, first_stop}
use Rattle.files.specs.Making.{RowsHoldNames, FilesMakeBooksAndNetworks}
use Rattle.files.proofs.Lists.{length_list_rows}

-- no fault

holds : {F : Type 0} (b : Bool) (f : F) → b ≡ true → unless b f ≡ None
holds b f e = cond-true b None (Some f) e

and_holds : (a b : Bool) → a ≡ true → b ≡ true → (a && b) ≡ true
and_holds a b e f = simp (e, f)

few : (n : ℕ) → n ≤ 4096 → count_fault n ≡ None
few n h = holds (leb n most_services) TooManyServices (le-leb n most_services h)

walks_none : (ws : List ℕ) (i : ℕ) → FineAll {S = Unit {0}} (λ _. walk) (λ _ _. tt) tt ws → first_fault walk_fault i ws ≡ None
unfolding FineAll
walks_none [] i f = refl
walks_none (w ∷ ws) i f = ap₂ or_else (holds (leb w longest_walk) (WalkTooLong i) (le-leb w longest_walk f.0.1)) (walks_none ws (i + 1) f.1)

connection_none : (before : Option Connection) (c : Connection) → Departs (departed before) c → connection_fault before c ≡ None
connection_none before c f =
    ap₂ or_else (holds _ Departure (and_holds _ _ (le-leb (departed before) c.departure f.0) (le-leb c.departure horizon (omega (arith, f.1, f.2)))))
    (holds _ Arrival (and_holds _ _ (le-leb c.departure c.arrival f.1) (le-leb c.arrival horizon f.2)))

connections_none : (s : ℕ) (xs : List Connection) (j : ℕ) (before : Option Connection) → FineAll connection last-departure (departed before) xs → rows_fault connection_fault s j before xs ≡ None
unfolding FineAll
connections_none s [] j before f = refl
connections_none s (c ∷ xs) j before f = ap₂ or_else (ap (in_row s j) (connection_none before c f.0)) (connections_none s xs (j + 1) (Some c) f.1)

above_before : (before : Option Point) (p : Point) → Rises before p → above before p ≡ true
above_before None p f = refl
above_before (Some b) p f = lt-ltb b.second p.second (omega (arith, f.0))

arrived_before : (before : Option Point) (p : Point) → Rises before p → arrived before ≤ p.second + p.travel
arrived_before None p f = omega arith
arrived_before (Some b) p f = f.1

point_none : (before : Option Point) (p : Point) → Rises before p → point_fault before p ≡ None
point_none before p f =
    ap₂ or_else (holds _ Departure (and_holds _ _ (above_before before p f) (le-leb p.second horizon (omega (arith, f.2)))))
    (holds _ Arrival (and_holds _ _ (le-leb (arrived before) (p.second + p.travel) (arrived_before before p f)) (le-leb (p.second + p.travel) horizon f.2)))

points_none : (s : ℕ) (xs : List Point) (j : ℕ) (before : Option Point) → FineAll point passed before xs → rows_fault point_fault s j before xs ≡ None
unfolding FineAll
points_none s [] j before f = refl
points_none s (p ∷ xs) j before f = ap₂ or_else (ap (in_row s j) (point_none before p f.0)) (points_none s xs (j + 1) (Some p) f.1)

-- the rest of a list, after what stands first
past : {A : Type 0} (xs rest bs : List A) (p : ℕ) → drop p bs ≡ xs ++ rest → drop (p + length xs) bs ≡ rest
past xs rest bs p e = sym (drop-drop (length xs) p bs) ∙ ap (drop (length xs)) e ∙ drop-append_seam xs rest

-- lists that stand in a table one after the other
module _ {S X : Type 0} (test : Option X → X → Option Field) (most : ℕ) (N : Format ℕ) (F : S → Format X) (next : S → X → S) (s₀ : S)
    (sized : (n : ℕ) → N.Fine n → (1 ≤ n) × (n ≤ most)) (rows_none : (s : ℕ) (xs : List X) → FineAll F next s₀ xs → rows_fault test s 0 None xs ≡ None) where
  pub lists_none : (lists : List (List X)) (k i : ℕ) (table : List X) → drop k table ≡ joined lists → FineAll {S = Unit {0}} (λ _. counted N F next s₀) (λ _ _. tt) tt lists →
      first_fault (list_fault test most table) i (list_rows k lists) ≡ None
  unfolding joined list_rows FineAll
  lists_none [] k i table e f = refl
  lists_none (xs ∷ lists) k i table e f =
      let size = sized (length xs) f.0.0 in
      let long = ap length e ∙ length-append xs (joined lists) in
      let part : take (length xs) (drop k table) ≡ xs = ap (take (length xs)) e ∙ take_at xs (joined lists) (length xs) refl in
      ap₂ or_else
      (ap₂ or_else (holds _ (ListLength i) (and_holds _ _ (le-leb 1 (length xs) size.0) (le-leb (length xs) most size.1)))
      (ap₂ or_else (holds _ (ListOutside i) (le-leb (k + length xs) (length table) (omega (arith, long, length-drop k table, size.0))))
      (ap (rows_fault test i 0 None) part ∙ rows_none i xs f.0.1)))
      (lists_none lists (k + length xs) (i + 1) table (past xs (joined lists) table k e) f.1)

-- arcs

module _ (stops services : ℕ) where
  fit : (arcs : List Arc) (last : ℕ) → FineAll (arc stops services) left last arcs → (k : ℕ) (d : Arc) → k < length arcs → InRange stops (get_or arcs k d)
  unfolding FineAll
  fit [] last f k d h = absurd (omega arith)
  fit (a ∷ arcs) last f zero d h = let j = f.0.0 in (j.0, j.1, omega (arith, j.2))
  fit (a ∷ arcs) last f (suc k) d h = fit arcs a.tail f.1 k d (omega arith)

  ascends : (arcs : List Arc) (last : ℕ) → FineAll (arc stops services) left last arcs → (k : ℕ) (d : Arc) → suc k < length arcs → (get_or arcs k d).tail ≤ (get_or arcs (suc k) d).tail
  unfolding FineAll
  ascends [] last f k d h = absurd (omega arith)
  ascends (a ∷ []) last f k d h = absurd (omega arith)
  ascends (a ∷ b ∷ arcs) last f zero d h = leb-true a.tail b.tail f.1.0.1
  ascends (a ∷ b ∷ arcs) last f (suc k) d h = ascends (b ∷ arcs) a.tail f.1 k d (omega arith)

sound : (c : NetworkContents) → FineNetwork c → Sound (length c.names) c.arcs
sound c f = record {
  counted = (f.names.0, f.arcs.0.1);
  fit = fit (length c.names) (services c) c.arcs 0 f.arcs.1;
  ascending = λ k d h. rw (add-one k) (ascends (length c.names) (services c) c.arcs 0 f.arcs.1 k d (omega arith));
}

tested : (stops : ℕ) (arcs : List Arc) → Sound stops arcs → (r : Result Unit NetworkFault) → Tested r stops arcs → r ≡ Ok tt
tested stops arcs s (Ok tt) t = refl
tested stops arcs s (Err f) t = absurd (sound_not_at_fault f stops arcs s t)

pub files_make : FilesMakeBooksAndNetworks
files_make bs c end e =
    let f = (network_lawful.held c bs 0 end e).fine in record {
      walks = ap verdict (ap₂ or_else (few (length c.walks) f.walks.0.1) (walks_none c.walks 0 f.walks.1));
      timetables = ap verdict (ap₂ or_else (few (length (list_rows 0 c.timetables)) (omega (arith, length_list_rows c.timetables 0, f.timetables.0.1)))
          (lists_none connection_fault most_connections connection_count connection last-departure 0 (λ n h. h) (λ s xs. connections_none s xs 0 None) c.timetables 0 0 (joined c.timetables) refl f.timetables.1));
      roads = ap verdict (ap₂ or_else (few (length (list_rows 0 c.roads)) (omega (arith, length_list_rows c.roads 0, f.roads.0.1)))
          (lists_none point_fault most_points point_count point passed None (λ n h. h) (λ s xs. points_none s xs 0 None) c.roads 0 0 (joined c.roads) refl f.roads.1));
      network = tested (length c.names) c.arcs (sound c f);
    }

-- names

names_there : (names : List (List ℕ)) (bs rest : List ℕ) (p : ℕ) → drop p bs ≡ write_all {S = Unit {0}} (λ _. stop) (λ _ _. tt) tt names ++ rest → map (rows bs) (name_rows p names) ≡ names
unfolding write_all name_rows
names_there [] bs rest p e = refl
names_there (n ∷ ns) bs rest p e =
    let w = encode (length n) in
    let more = write_all {S = Unit {0}} (λ _. stop) (λ _ _. tt) tt ns in
    let e₁ = e ∙ append_assoc (w ++ n) more rest ∙ append_assoc w n (more ++ rest) in
    let e₂ = past w (n ++ (more ++ rest)) bs p e₁ in
    ap₂ (λ x xs. x ∷ xs) (ap (take (length n)) e₂ ∙ take_at n (more ++ rest) (length n) refl) (names_there ns bs rest (p + length w + length n) (past n (more ++ rest) bs (p + length w) e₂))

pub rows_hold_names : RowsHoldNames
rows_hold_names bs c end e =
    let form = encode 1 in
    let count = encode (length c.names) in
    let names = write_all {S = Unit {0}} (λ _. stop) (λ _ _. tt) tt c.names in
    let others = runs_after c in
    let front : drop 0 bs ≡ (form ++ ((count ++ names) ++ others)) ++ drop end bs = (network_lawful.held c bs 0 end e).front in
    let e₁ = front ∙ append_assoc form ((count ++ names) ++ others) (drop end bs) in
    let e₂ = ap (λ k. drop k bs) (sym (zero-add (length form))) ∙ past form (((count ++ names) ++ others) ++ drop end bs) bs 0 e₁ ∙ append_assoc (count ++ names) others (drop end bs) ∙ append_assoc count names (others ++ drop end bs) in
    names_there c.names bs (others ++ drop end bs) (first_stop (length c.names)) (past count (names ++ (others ++ drop end bs)) bs (length form) e₂)
  where
    runs_after : NetworkContents → List ℕ
    runs_after c = walks.write c.walks ++ (timetables.write c.timetables ++ (roads.write c.roads ++ (arcs (length c.names) (services c)).write c.arcs))
