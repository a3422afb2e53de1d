-- What the parts write is what the format of the network file writes, and what they accept is what a file can hold.
use Rattle.std.proofs.Common.{◌≡◌, ℕ, ◌+◌, ◌<◌, ◌≤◌, Bool, true, false, cond, eqb, leb, List, [], ◌∷◌, ◌++◌, map, length, drop, Some, None, Ok, Err, Option, Result, sym, refl, ap, ◌∙◌, subst, ap₂, zero-add, arith}
use lib.Seq.{paste}
use Rattle.std.proofs.lemmas.List.Edits.{paste_all}
use Rattle.std.proofs.lemmas.List.{length-map}
use Rattle.std.proofs.lemmas.Bool.Decides.{nat_tests}
use Rattle.std.proofs.lemmas.Bool.{eqb-true, le-leb, lt-leb, eq-eqb}
use Rattle.model.specs.declared.network.Arc.{Arc}
use Rattle.model.specs.declared.tables.Connection.{Connection}
use Rattle.model.specs.declared.tables.Point.{Point}
use Rattle.model.specs.declared.tables.Span.{Span}
use Rattle.model.specs.declared.refusal.Refusal.{Refusal}
use Rattle.model.specs.declared.refusal.Refusal.TheVariants.{StopCount, NameLength, ServiceField, ArcCount, OutputShort}
use Rattle.formats.specs.Contents.{services}
use Rattle.formats.specs.NetworkFile.{stop, stop_count, stops, run_count, walk, connection, departed, timetable, point, passed, road, arc, left, arcs, network}
use Rattle.wire.specs.Grammar.{Format, write_all, FineAll}
use Rattle.wire.specs.Numbers.{encode}
use Rattle.wire.proofs.Laws.{file_held}
use Rattle.formats.proofs.NetworkFile.{network_lawful}
use Rattle.writer.proofs.Emitting.{answered_ok, in_limits}
use Rattle.writer.specs.Emission.{answered, or_else, outside, refused_all, bytes_all, list_refusal, list_bytes}
use Rattle.meanings.specs.Spans.{rows}
use Rattle.writer.specs.Parts.{lies, name_refusal, name_bytes, walk_refusal, connection_refusal, point_refusal, arc_refusal, onward, timetable_refusal, timetable_bytes, road_refusal, road_bytes}
use Rattle.writer.specs.Networks.{NetworkTables, held, service_count, network_refusal, network_bytes, AllLie, Rowed, written, Writes}

none_first : (a b : Option Refusal) → or_else a b ≡ None → (a ≡ None) × (b ≡ None)
none_first None b e = (refl, e)
none_first (Some k) b e = let z : ◌≡◌ {A = ℕ} 0 1 = cc in absurd (omega arith)

-- a test that did not refuse
unrefused : (t : Bool) (k : Refusal) → cond t None (Some k) ≡ None → t ≡ true
unrefused true k e = refl
unrefused false k e = let z : ◌≡◌ {A = ℕ} 0 1 = cc in absurd (omega arith)

-- lists of the things themselves
module _ {S A : Type 0} (F : S → Format A) (next : S → A → S) where
  pub writes_list : (xs : List A) (s : S) → write_all F next s xs ≡ bytes_all (λ s a. (F s).write a) next s xs
  unfolding write_all bytes_all
  writes_list [] s = refl
  writes_list (a ∷ xs) s = ap (λ l. (F s).write a ++ l) (writes_list xs (next s a))

  pub fine_list : (f : S → A → Option Refusal) → ((s : S) (a : A) → f s a ≡ None → (F s).Fine a) → (xs : List A) (s : S) → refused_all f next s xs ≡ None → FineAll F next s xs
  unfolding refused_all FineAll
  fine_list f item [] s e = tt
  fine_list f item (a ∷ xs) s e = let p = none_first (f s a) (refused_all f next (next s a) xs) e in (item s a p.0, fine_list f item xs (next s a) p.1)

-- lists of rows, each of which names a thing
module _ {A B : Type 0} (view : A → B) (F : Format B) where
  pub writes_rows : (w : Unit {0} → A → List ℕ) → ((a : A) → F.write (view a) ≡ w tt a) → (xs : List A) → write_all {S = Unit {0}} (λ _. F) (λ _ _. tt) tt (map view xs) ≡ bytes_all w onward tt xs
  unfolding write_all bytes_all
  writes_rows w same [] = refl
  writes_rows w same (a ∷ xs) = ap₂ (λ b l. b ++ l) (same a) (writes_rows w same xs)

  pub fine_rows : (f : Unit {0} → A → Option Refusal) → ((a : A) → f tt a ≡ None → F.Fine (view a)) → (xs : List A) → refused_all f onward tt xs ≡ None → FineAll {S = Unit {0}} (λ _. F) (λ _ _. tt) tt (map view xs)
  unfolding refused_all FineAll
  fine_rows f item [] e = tt
  fine_rows f item (a ∷ xs) e = let p = none_first (f tt a) (refused_all f onward tt xs) e in (item a p.0, fine_rows f item xs p.1)

-- the things of a network, one by one

name_fine : (names : List ℕ) (row : Span) → name_refusal names tt row ≡ None → stop.Fine (rows names row)
name_fine names row e = in_limits 1 40 NameLength (length (rows names row)) (none_first (cond (lies names row) None (Some NameLength)) _ e).1

connection_fine : (last : ℕ) (c : Connection) → connection_refusal last c ≡ None → (connection last).Fine c
connection_fine last c e = grind (arith, nat_tests)

point_fine : (before : Option Point) (p : Point) → point_refusal before p ≡ None → (point before).Fine p
point_fine before p e = grind (arith, nat_tests)

arc_fine : (stops services last : ℕ) (a : Arc) → arc_refusal stops services last a ≡ None → (arc stops services last).Fine a
arc_fine stops services last a e = grind (arith, nat_tests)

list_fine : {S A : Type 0} (lo hi : ℕ) (k : Refusal) (F : S → Format A) (next : S → A → S) (f : S → A → Option Refusal) → ((s : S) (a : A) → f s a ≡ None → (F s).Fine a) → (s : S) (xs : List A) →
    list_refusal lo hi k f next s xs ≡ None → ((lo ≤ length xs) × (length xs ≤ hi)) × FineAll F next s xs
list_fine lo hi k F next f item s xs e = let p = none_first (outside lo hi k (length xs)) (refused_all f next s xs) e in (in_limits lo hi k (length xs) p.0, fine_list F next f item xs s p.1)

rows_fine : {B : Type 0} (lo hi : ℕ) (k : Refusal) (view : Span → B) (F : Format B) (f : Unit {0} → Span → Option Refusal) → ((a : Span) → f tt a ≡ None → F.Fine (view a)) → (xs : List Span) →
    list_refusal lo hi k f onward tt xs ≡ None → ((lo ≤ length (map view xs)) × (length (map view xs) ≤ hi)) × FineAll {S = Unit {0}} (λ _. F) (λ _ _. tt) tt (map view xs)
rows_fine lo hi k view F f item xs e =
    let p = none_first (outside lo hi k (length xs)) (refused_all f onward tt xs) e in
    let w = in_limits lo hi k (length xs) p.0 in
    let l = length-map xs view in
    ((omega (arith, w.0), omega (arith, w.1)), fine_rows view F f item xs p.1)

timetable_fine : (table : List Connection) (row : Span) → timetable_refusal table tt row ≡ None → timetable.Fine (rows table row)
timetable_fine table row e = list_fine 1 512 ServiceField connection departed connection_refusal connection_fine 0 (rows table row) (none_first (cond (lies table row) None (Some ServiceField)) _ e).1

road_fine : (table : List Point) (row : Span) → road_refusal table tt row ≡ None → road.Fine (rows table row)
road_fine table row e = list_fine 1 96 ServiceField point passed point_refusal point_fine None (rows table row) (none_first (cond (lies table row) None (Some ServiceField)) _ e).1

-- what is not refused can stand in a file
pub network_fine : (stops : ℕ) (t : NetworkTables) → network_refusal stops t ≡ None → network.Fine (held t)
network_fine stops t e =
    let p₀ = none_first (cond (eqb (length t.stops) stops) None (Some StopCount)) _ e in
    let p₁ = none_first (list_refusal 1 1024 StopCount (name_refusal t.names) onward tt t.stops) _ p₀.1 in
    let p₂ = none_first (list_refusal 0 4096 ServiceField walk_refusal onward tt t.walks) _ p₁.1 in
    let p₃ = none_first (list_refusal 0 4096 ServiceField (timetable_refusal t.connections) onward tt t.timetables) _ p₂.1 in
    let p₄ = none_first (list_refusal 0 4096 ServiceField (road_refusal t.points) onward tt t.roads) _ p₃.1 in
    let count : length t.stops ≡ stops = eqb-true (length t.stops) stops (unrefused _ StopCount p₀.0) in
    let names : length (map (rows t.names) t.stops) ≡ stops = length-map t.stops (rows t.names) ∙ count in
    let all : length t.walks + length (map (rows t.connections) t.timetables) + length (map (rows t.points) t.roads) ≡ service_count t =
    omega (arith, length-map t.timetables (rows t.connections), length-map t.roads (rows t.points)) in
    let a = list_fine 0 8192 ArcCount (arc stops (service_count t)) left (arc_refusal stops (service_count t)) (arc_fine stops (service_count t)) 0 t.arcs p₄.1 in
    record {
      names = rows_fine 1 1024 StopCount (rows t.names) stop (name_refusal t.names) (name_fine t.names) t.stops p₁.0;
      walks = list_fine {S = Unit {0}} 0 4096 ServiceField (λ _. walk) (λ _ _. tt) walk_refusal (λ _ w e. in_limits 0 86400 ServiceField w e) tt t.walks p₂.0;
      timetables = rows_fine 0 4096 ServiceField (rows t.connections) timetable (timetable_refusal t.connections) (timetable_fine t.connections) t.timetables p₃.0;
      roads = rows_fine 0 4096 ServiceField (rows t.points) road (road_refusal t.points) (road_fine t.points) t.roads p₄.0;
      arcs = subst (λ n. (arcs n (services (held t))).Fine t.arcs) (sym names) (subst (λ m. (arcs stops m).Fine t.arcs) (sym all) a);
    }

-- the bytes of the parts are the file's
timetable_bytes_lem : (table : List Connection) (row : Span) → timetable.write (rows table row) ≡ timetable_bytes table tt row
timetable_bytes_lem table row = ap (λ l. encode (length (rows table row)) ++ l) (writes_list connection departed (rows table row) 0)

road_bytes_lem : (table : List Point) (row : Span) → road.write (rows table row) ≡ road_bytes table tt row
road_bytes_lem table row = ap (λ l. encode (length (rows table row)) ++ l) (writes_list point passed (rows table row) None)

rows_bytes : {B : Type 0} (N : Format ℕ) (view : Span → B) (F : Format B) (w : Unit {0} → Span → List ℕ) → ((a : Span) → F.write (view a) ≡ w tt a) → (xs : List Span) →
    encode (length (map view xs)) ++ write_all {S = Unit {0}} (λ _. F) (λ _ _. tt) tt (map view xs) ≡ list_bytes w onward tt xs
rows_bytes N view F w same xs = ap₂ (λ n l. encode n ++ l) (length-map xs view) (writes_rows view F w same xs)

pub network_bytes_lem : (t : NetworkTables) → network.write (held t) ≡ network_bytes t
network_bytes_lem t =
    ap (λ l. encode 1 ++ l) (ap₂ (λ a b. a ++ b) (rows_bytes stop_count (rows t.names) stop (name_bytes t.names) (λ _. refl) t.stops)
    (ap₂ (λ a b. a ++ b) (ap (λ l. encode (length t.walks) ++ l) (writes_list {S = Unit {0}} (λ _. walk) (λ _ _. tt) t.walks tt))
    (ap₂ (λ a b. a ++ b) (rows_bytes run_count (rows t.connections) timetable (timetable_bytes t.connections) (timetable_bytes_lem t.connections) t.timetables)
    (ap₂ (λ a b. a ++ b) (rows_bytes run_count (rows t.points) road (road_bytes t.points) (road_bytes_lem t.points) t.roads)
    (ap (λ l. encode (length t.arcs) ++ l) (writes_list (arc (length (held t).names) (services (held t))) left t.arcs 0))))))

-- and what can stand in a file is not refused

none_both : (a b : Option Refusal) → a ≡ None → b ≡ None → or_else a b ≡ None
none_both a b p q = ap (λ o. or_else o b) p ∙ q

passes : (t : Bool) (k : Refusal) → t ≡ true → cond t None (Some k) ≡ None
passes t k e = ap (λ b. cond b None (Some k)) e

inside : (lo hi : ℕ) (k : Refusal) (n : ℕ) → lo ≤ n → n ≤ hi → outside lo hi k n ≡ None
inside lo hi k n low high = grind (arith, nat_tests)

list_none : {S A : Type 0} (F : S → Format A) (next : S → A → S) (f : S → A → Option Refusal) → ((s : S) (a : A) → (F s).Fine a → f s a ≡ None) → (xs : List A) (s : S) → FineAll F next s xs → refused_all f next s xs ≡ None
unfolding refused_all FineAll
list_none F next f item [] s fine = refl
list_none F next f item (a ∷ xs) s fine = none_both (f s a) (refused_all f next (next s a) xs) (item s a fine.0) (list_none F next f item xs (next s a) fine.1)

rows_none : {A B : Type 0} (table : List A) (view : Span → B) (F : Format B) (f : Unit {0} → Span → Option Refusal) → ((row : Span) → lies table row ≡ true → F.Fine (view row) → f tt row ≡ None) → (xs : List Span) → AllLie table xs →
    FineAll {S = Unit {0}} (λ _. F) (λ _ _. tt) tt (map view xs) → refused_all f onward tt xs ≡ None
unfolding refused_all FineAll
rows_none table view F f item [] lie fine = refl
rows_none table view F f item (row ∷ xs) lie fine = none_both (f tt row) (refused_all f onward tt xs) (item row lie.0 fine.0) (rows_none table view F f item xs lie.1 fine.1)

connection_none : (last : ℕ) (c : Connection) → (connection last).Fine c → connection_refusal last c ≡ None
connection_none last c fine = grind (arith, nat_tests)

point_none : (before : Option Point) (p : Point) → (point before).Fine p → point_refusal before p ≡ None
point_none before p fine = grind (arith, nat_tests)

arc_none : (stops services last : ℕ) (a : Arc) → (arc stops services last).Fine a → arc_refusal stops services last a ≡ None
arc_none stops services last a fine = grind (arith, nat_tests)

timetable_none : (table : List Connection) (row : Span) → lies table row ≡ true → timetable.Fine (rows table row) → timetable_refusal table tt row ≡ None
timetable_none table row lie fine =
    none_both _ _ (passes _ ServiceField lie) (none_both _ _ (inside 1 512 ServiceField (length (rows table row)) fine.0.0 fine.0.1) (list_none connection departed connection_refusal connection_none (rows table row) 0 fine.1))

road_none : (table : List Point) (row : Span) → lies table row ≡ true → road.Fine (rows table row) → road_refusal table tt row ≡ None
road_none table row lie fine =
    none_both _ _ (passes _ ServiceField lie) (none_both _ _ (inside 1 96 ServiceField (length (rows table row)) fine.0.0 fine.0.1) (list_none point passed point_refusal point_none (rows table row) None fine.1))

name_none : (names : List ℕ) (row : Span) → lies names row ≡ true → stop.Fine (rows names row) → name_refusal names tt row ≡ None
name_none names row lie fine = none_both _ _ (passes _ NameLength lie) (inside 1 40 NameLength (length (rows names row)) fine.0 fine.1)

pub network_unrefused : (stops : ℕ) (t : NetworkTables) → Rowed stops t → network.Fine (held t) → network_refusal stops t ≡ None
network_unrefused stops t rowed fine =
    let ns = length-map t.stops (rows t.names) in
    let ts = length-map t.timetables (rows t.connections) in
    let rs = length-map t.roads (rows t.points) in
    let names : length (held t).names ≡ stops = ns ∙ rowed.count in
    let all : services (held t) ≡ service_count t = omega (arith, ts, rs) in
    let joined = subst (λ m. (arcs stops m).Fine t.arcs) all (subst (λ n. (arcs n (services (held t))).Fine t.arcs) names fine.arcs) in
    none_both _ _ (passes _ StopCount (eq-eqb (length t.stops) stops rowed.count))
    (none_both _ _ (none_both _ _ (inside 1 1024 StopCount (length t.stops) (omega (arith, ns, fine.names.0.0)) (omega (arith, ns, fine.names.0.1))) (rows_none t.names (rows t.names) stop (name_refusal t.names) (name_none t.names) t.stops rowed.names fine.names.1))
    (none_both _ _ (none_both _ _ (inside 0 4096 ServiceField (length t.walks) fine.walks.0.0 fine.walks.0.1) (list_none {S = Unit {0}} (λ _. walk) (λ _ _. tt) walk_refusal (λ _ w f. inside 0 86400 ServiceField w f.0 f.1) t.walks tt fine.walks.1))
    (none_both _ _ (none_both _ _ (inside 0 4096 ServiceField (length t.timetables) (omega arith) (omega (arith, ts, fine.timetables.0.1))) (rows_none t.connections (rows t.connections) timetable (timetable_refusal t.connections) (timetable_none t.connections) t.timetables rowed.timetables fine.timetables.1))
    (none_both _ _ (none_both _ _ (inside 0 4096 ServiceField (length t.roads) (omega arith) (omega (arith, rs, fine.roads.0.1))) (rows_none t.points (rows t.points) road (road_refusal t.points) (road_none t.points) t.roads rowed.roads fine.roads.1))
    (none_both _ _ (inside 0 8192 ArcCount (length t.arcs) joined.0.0 joined.0.1) (list_none (arc stops (service_count t)) left (arc_refusal stops (service_count t)) (arc_none stops (service_count t)) t.arcs 0 joined.1))))))

-- what a write says
module _ (stops : ℕ) (t : NetworkTables) (before : List ℕ) where
  same_bytes : length (network.write (held t)) ≡ length (network_bytes t)
  same_bytes = ap length (network_bytes_lem t)

  -- both ways round, from the answer and the output
  says : (after : List ℕ) (r : Result ℕ Refusal) →
      r ≡ answered (or_else (network_refusal stops t) (cond (leb (length (network.write (held t))) (length before)) None (Some OutputShort))) (length (network.write (held t))) →
      after ≡ written r (network.write (held t)) before → Writes stops t before after r
  says after r answer output = record {
    answer = answer;
    output = output;
    reads_back = λ n is.
        let a = answered_ok (or_else (network_refusal stops t) (cond (leb (length (network.write (held t))) (length before)) None (Some OutputShort))) n (length (network.write (held t))) (sym is ∙ answer) in
        let fine = network_fine stops t (none_first (network_refusal stops t) _ a.0).0 in
        network_lawful.back (held t) after (drop (length (network.write (held t))) before) 0 fine (output ∙ ap (λ q. written q (network.write (held t)) before) is)
        ∙ ap (λ k. Ok (held t, k)) (omega (arith, a.1));
    writes_back = λ rowed file end read room.
        let h = network_lawful.held (held t) file 0 end read in
        let n = length (network.write (held t)) in
        let long : n ≡ end = omega (arith, h.long) in
        let test : leb n (length before) ≡ true = le-leb n (length before) (omega arith) in
        let none = none_both (network_refusal stops t) _ (network_unrefused stops t rowed h.fine) (passes (leb n (length before)) OutputShort test) in
        let is : r ≡ Ok end = answer ∙ ap (λ o. answered o n) none ∙ ap Ok long in
        (is, output ∙ ap (λ q. written q (network.write (held t)) before) is ∙ ap₂ (λ bs k. bs ++ drop k before) (sym (file_held network network_lawful (held t) file end read)) long);
  }

  pub writes_refused : (k : Refusal) → network_refusal stops t ≡ Some k → Writes stops t before before (Err k)
  writes_refused k e = says before (Err k) (sym (ap (λ o. answered (or_else o (cond (leb (length (network.write (held t))) (length before)) None (Some OutputShort))) (length (network.write (held t)))) e)) refl

  pub writes_short : network_refusal stops t ≡ None → length before < length (network_bytes t) → Writes stops t before before (Err OutputShort)
  writes_short e over =
      let n = length (network.write (held t)) in
      let test : leb n (length before) ≡ false = lt-leb n (length before) (omega (arith, same_bytes)) in
      says before (Err OutputShort) (sym (ap (λ o. answered (or_else o (cond (leb n (length before)) None (Some OutputShort))) n) e ∙ ap (λ b. answered (cond b None (Some OutputShort)) n) test)) refl

  pub writes_network : (after : List ℕ) → network_refusal stops t ≡ None → length (network_bytes t) ≤ length before → after ≡ paste before 0 (network_bytes t) (length (network_bytes t)) → Writes stops t before after (Ok (length (network_bytes t)))
  writes_network after e room pasted =
      let n = length (network.write (held t)) in
      let test : leb n (length before) ≡ true = le-leb n (length before) (omega (arith, same_bytes)) in
      let is : ◌≡◌ {A = Result ℕ Refusal} (Ok (length (network_bytes t))) (Ok n) = ap Ok (sym same_bytes) in
      let all : after ≡ network_bytes t ++ drop (length (network_bytes t)) before =
      pasted ∙ paste_all before 0 (network_bytes t) (length (network_bytes t)) refl ∙ ap (λ k. network_bytes t ++ drop k before) (zero-add (length (network_bytes t))) in
      says after (Ok (length (network_bytes t))) (is ∙ sym (ap (λ o. answered (or_else o (cond (leb n (length before)) None (Some OutputShort))) n) e ∙ ap (λ b. answered (cond b None (Some OutputShort)) n) test))
      (all ∙ ap (λ bs. bs ++ drop (length bs) before) (sym (network_bytes_lem t)))
