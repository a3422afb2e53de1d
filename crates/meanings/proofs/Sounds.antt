-- Tables have no fault if and only if they are sound.
use Rattle.std.proofs.Common.{◌≡◌, ℕ, zero, suc, ◌+◌, ◌<◌, ◌≤◌, Bool, true, false, ◌&&◌, List, [], ◌∷◌, length, get_or, Some, None, Option, Ok, refl, ap, ◌∙◌, subst, add-one, arith}
use native.Mathlib.Numerals.{unary_clauses}
use Rattle.std.proofs.lemmas.Bool.{leb-true, ltb-true, le-leb, lt-leb, lt-ltb, and_parts, and_from}
use Rattle.model.specs.Clock.{horizon}
use Rattle.model.specs.declared.tables.Connection.{Connection}
use Rattle.model.specs.declared.tables.Point.{Point}
use Rattle.model.specs.declared.tables.Span.{Span}
use Rattle.meanings.specs.Spans.{rows, no_span, most_services, Fits, AllFit}
use Rattle.meanings.specs.Walks.{longest_walk, SoundWalks}
use Rattle.meanings.specs.Timetables.{no_connection, most_connections, SoundTimetables}
use Rattle.meanings.specs.Roads.{no_point, reached, most_points, SoundRoads}
use Rattle.meanings.specs.Faults.{unless, or_else, first_fault, count_fault, verdict, walk_fault, walks_fault, departed, connection_fault, above, arrived, point_fault, in_row, rows_fault, list_fault, lists_fault, timetables_fault, roads_fault}
use Rattle.meanings.specs.declared.fault.Field.{Field}
use Rattle.meanings.specs.declared.fault.Field.TheVariants.{Departure, Arrival}
use Rattle.meanings.specs.declared.fault.BookFault.{BookFault}
use Rattle.meanings.specs.declared.fault.BookFault.TheVariants.{TooManyServices, WalkTooLong, ListLength, ListOutside}

-- ---- one fault and the next

module _ {F : Type 0} where
  holds : (b : Bool) (f : F) → unless b f ≡ None → b ≡ true
  holds true f e = refl
  holds false f e = let z : ◌≡◌ {A = ℕ} 0 1 = cc in absurd (omega arith)

  neither : (o p : Option F) → or_else o p ≡ None → (o ≡ None) × (p ≡ None)
  neither None p e = (refl, e)
  neither (Some f) p e = let z : ◌≡◌ {A = ℕ} 0 1 = cc in absurd (omega arith)

  both_pass : (b : Bool) (f : F) (p : Option F) → b ≡ true → p ≡ None → or_else (unless b f) p ≡ None
  both_pass b f p e h = rw e h

-- a test that passes finds no fault
passed : {F : Type 0} (o : Option F) → Ok tt ≡ verdict o → o ≡ None
passed None e = refl
passed (Some f) e = let z : ◌≡◌ {A = ℕ} 0 1 = cc in absurd (omega arith)

pub few_enough : (n : ℕ) → Ok tt ≡ verdict (count_fault n) → n ≤ most_services
few_enough n e = leb-true n most_services (holds _ TooManyServices (passed (count_fault n) e))

-- ---- items in turn

module _ {X : Type 0} (test : ℕ → X → Option BookFault) (P : X → Type 0) (d : X) where
  each_passes : ((n : ℕ) (x : X) → test n x ≡ None → P x) → (i : ℕ) (xs : List X) → first_fault test i xs ≡ None → (k : ℕ) → k < length xs → P (get_or xs k d)
  each_passes passes i [] e k h = absurd (omega arith)
  each_passes passes i (x ∷ xs) e zero h = passes i x (neither _ _ e).0
  each_passes passes i (x ∷ xs) e (suc k) h = each_passes passes (i + 1) xs (neither _ _ e).1 k (omega arith)

  all_pass : ((n : ℕ) (x : X) → P x → test n x ≡ None) → (i : ℕ) (xs : List X) → ((k : ℕ) → k < length xs → P (get_or xs k d)) → first_fault test i xs ≡ None
  all_pass passes i [] each = refl
  all_pass passes i (x ∷ xs) each = rw (passes i x (each 0 (omega arith))) (all_pass passes (i + 1) xs (λ k h. each (suc k) (omega arith)))

-- ---- rows in turn, each after the one before it

-- the first row of a list is fine after `before`, and every other after the one before it
record Chained {X : Type 0} (Fine : Option X → X → Type 0) (d : X) (before : Option X) (xs : List X) : Type 0 where
  pub first : 0 < length xs → Fine before (get_or xs 0 d)
  pub next : (j : ℕ) → j + 1 < length xs → Fine (Some (get_or xs j d)) (get_or xs (j + 1) d)

in_row_none : (s j : ℕ) (o : Option Field) → in_row s j o ≡ None → o ≡ None
in_row_none s j None e = refl
in_row_none s j (Some f) e = let z : ◌≡◌ {A = ℕ} 0 1 = cc in absurd (omega arith)

module _ {X : Type 0} (test : Option X → X → Option Field) (Fine : Option X → X → Type 0) (d : X) where
  chained : ((b : Option X) (x : X) → test b x ≡ None → Fine b x) → (s j : ℕ) (before : Option X) (xs : List X) → rows_fault test s j before xs ≡ None → Chained Fine d before xs
  chained fine s j before [] e = record { first = λ h. absurd (omega arith); next = λ k h. absurd (omega arith) }
  chained fine s j before (x ∷ xs) e =
      let rest = chained fine s (j + 1) (Some x) xs (neither _ _ e).1 in
      record { first = λ h. fine before x (in_row_none s j (test before x) (neither _ _ e).0); next = after rest }
    where
      after : Chained Fine d (Some x) xs → (k : ℕ) → k + 1 < length (x ∷ xs) → Fine (Some (get_or (x ∷ xs) k d)) (get_or (x ∷ xs) (k + 1) d)
      after rest zero h = rest.first (omega arith)
      after rest (suc k) h = simp unary_clauses (simp unary_clauses at (rest.next k (omega arith)))

  unchained : ((b : Option X) (x : X) → Fine b x → test b x ≡ None) → (s j : ℕ) (before : Option X) (xs : List X) → Chained Fine d before xs → rows_fault test s j before xs ≡ None
  unchained passes s j before [] c = refl
  unchained passes s j before (x ∷ xs) c = rw (passes before x (c.first (omega arith))) (unchained passes s (j + 1) (Some x) xs rest)
    where
      rest : Chained Fine d (Some x) xs
      rest = record { first = λ h. c.next 0 (omega arith); next = λ k h. simp unary_clauses (simp unary_clauses at (c.next (suc k) (omega arith))) }

-- ---- walks

pub sound_walks : (times : List ℕ) → walks_fault times ≡ None → SoundWalks times
sound_walks times e =
    let p = neither _ _ e in
    record {
      few = leb-true _ _ (holds _ TooManyServices p.0);
      walkable = each_passes walk_fault (λ time. time ≤ longest_walk) 0 (λ s time h. leb-true _ _ (holds _ (WalkTooLong s) h)) 0 times p.1;
    }

pub walks_accepted : (times : List ℕ) → SoundWalks times → walks_fault times ≡ None
walks_accepted times sound =
    both_pass _ TooManyServices _ (le-leb _ _ sound.few)
    (all_pass walk_fault (λ time. time ≤ longest_walk) 0 (λ s time h. rw (le-leb time longest_walk h)) 0 times sound.walkable)

-- the first walk that takes too long is the first fault of so few walks
long_at : (times : List ℕ) (i k : ℕ) → k < length times → ((j : ℕ) → j < k → get_or times j 0 ≤ longest_walk) → longest_walk < get_or times k 0 → first_fault walk_fault i times ≡ Some (WalkTooLong (i + k))
long_at [] i k h before long = absurd (omega arith)
long_at (x ∷ xs) i zero h before long = rw (lt-leb x longest_walk long) (ap (λ n. Some (WalkTooLong n)) (omega arith))
long_at (x ∷ xs) i (suc k) h before long =
    let passed : x ≤ longest_walk = before 0 (omega arith) in
    let e : (i + 1) + k ≡ i + suc k = omega arith in
    rw (le-leb x longest_walk passed, ← e) (long_at xs (i + 1) k (omega arith) (λ j l. before (suc j) (omega arith)) long)

pub first_long : (times : List ℕ) (k : ℕ) → length times ≤ most_services → k < length times → ((j : ℕ) → j < k → get_or times j 0 ≤ longest_walk) → longest_walk < get_or times k 0 → walks_fault times ≡ Some (WalkTooLong k)
first_long times k few h before long =
    let e : 0 + k ≡ k = omega arith in
    rw (le-leb (length times) most_services few) (long_at times 0 k h before long ∙ ap (λ n. Some (WalkTooLong n)) e)

-- ---- lists of rows

module _ {X : Type 0} (test : Option X → X → Option Field) (most : ℕ) (table : List X) where
  fit_span : (s : ℕ) (span : Span) → list_fault test most table s span ≡ None → Fits most table span
  fit_span s span e =
      let p = neither _ _ e in
      let l = and_parts _ _ (holds _ (ListLength s) p.0) in
      (leb-true _ _ l.0, leb-true _ _ l.1, leb-true _ _ (holds _ (ListOutside s) (neither _ _ p.1).0))

  -- whatever the rows are tested for, the spans of tables without a fault fit
  pub fit_lists : (spans : List Span) → lists_fault test most table spans ≡ None → AllFit most table spans
  fit_lists spans e = each_passes (list_fault test most table) (Fits most table) no_span fit_span 0 spans (neither _ _ e).1

module _ {X : Type 0} (test : Option X → X → Option Field) (Fine : Option X → X → Type 0) (d : X) (most : ℕ) (table : List X) where
  -- a span whose rows are fine
  abbrev FineSpan : Span → Type 0
  FineSpan span = Fits most table span × Chained Fine d None (rows table span)

  fine_span : ((b : Option X) (x : X) → test b x ≡ None → Fine b x) → (s : ℕ) (span : Span) → list_fault test most table s span ≡ None → FineSpan span
  fine_span fine s span e =
      (fit_span test most table s span e, chained test Fine d fine s 0 None (rows table span) (neither _ _ (neither _ _ e).1).1)

  span_passes : ((b : Option X) (x : X) → Fine b x → test b x ≡ None) → (s : ℕ) (span : Span) → FineSpan span → list_fault test most table s span ≡ None
  span_passes passes s span h =
      let f = h.0 in
      both_pass _ (ListLength s) _ (and_from _ _ (le-leb _ _ f.0) (le-leb _ _ f.1))
      (both_pass _ (ListOutside s) _ (le-leb _ _ f.2) (unchained test Fine d passes s 0 None (rows table span) h.1))

  sound_lists : ((b : Option X) (x : X) → test b x ≡ None → Fine b x) → (spans : List Span) → lists_fault test most table spans ≡ None → (length spans ≤ most_services) × ((s : ℕ) → s < length spans → FineSpan (get_or spans s no_span))
  sound_lists fine spans e =
      let p = neither _ _ e in
      (leb-true _ _ (holds _ TooManyServices p.0), each_passes (list_fault test most table) FineSpan no_span (fine_span fine) 0 spans p.1)

  lists_accepted : ((b : Option X) (x : X) → Fine b x → test b x ≡ None) → (spans : List Span) → length spans ≤ most_services → ((s : ℕ) → s < length spans → FineSpan (get_or spans s no_span)) → lists_fault test most table spans ≡ None
  lists_accepted passes spans few each =
      both_pass _ TooManyServices _ (le-leb _ _ few) (all_pass (list_fault test most table) FineSpan no_span (span_passes passes) 0 spans each)

-- a test of a row's two numbers, each by two tests
module _ (a b p q : Bool) where
  row_holds : or_else (unless (a && b) Departure) (unless (p && q) Arrival) ≡ None → (a ≡ true) × (b ≡ true) × (p ≡ true) × (q ≡ true)
  row_holds e =
      let n = neither _ _ e in
      let l = and_parts a b (holds _ Departure n.0) in
      let r = and_parts p q (holds _ Arrival n.1) in
      (l.0, l.1, r.0, r.1)

  row_passes : a ≡ true → b ≡ true → p ≡ true → q ≡ true → or_else (unless (a && b) Departure) (unless (p && q) Arrival) ≡ None
  row_passes h i j k = rw (h, i, j, k)

-- ---- timetables

abbrev FineConnection : Option Connection → Connection → Type 0
FineConnection before c = (departed before ≤ c.departure) × (c.departure ≤ c.arrival) × (c.arrival ≤ horizon)

fine_connection : (b : Option Connection) (c : Connection) → connection_fault b c ≡ None → FineConnection b c
fine_connection b c e = let p = row_holds _ _ _ _ e in (leb-true _ _ p.0, leb-true _ _ p.2, leb-true _ _ p.3)

connection_passes : (b : Option Connection) (c : Connection) → FineConnection b c → connection_fault b c ≡ None
connection_passes b c h = row_passes _ _ _ _ (le-leb _ _ h.0) (le-leb _ _ (omega arith)) (le-leb _ _ h.1) (le-leb _ _ h.2)

-- what holds of the first place, and of each next one, holds of every place
every_place : (P : ℕ → Type 0) (n : ℕ) → (0 < n → P 0) → ((j : ℕ) → j + 1 < n → P (j + 1)) → (j : ℕ) → j < n → P j
every_place P n first next zero h = first h
every_place P n first next (suc j) h = subst P (add-one j) (next j (omega arith))

pub sound_timetables : (cs : List Connection) (spans : List Span) → timetables_fault cs spans ≡ None → SoundTimetables cs spans
sound_timetables cs spans e =
    let p = sound_lists connection_fault FineConnection no_connection most_connections cs fine_connection spans e in
    record {
      few = p.0;
      fit = λ s h. (p.1 s h).0;
      rising = λ s h j l. ((p.1 s h).1.next j l).0;
      forward = λ s h. every_place _ _ (λ l. ((p.1 s h).1.first l).1) (λ j l. ((p.1 s h).1.next j l).1);
      timely = λ s h. every_place _ _ (λ l. ((p.1 s h).1.first l).2) (λ j l. ((p.1 s h).1.next j l).2);
    }

pub timetables_accepted : (cs : List Connection) (spans : List Span) → SoundTimetables cs spans → timetables_fault cs spans ≡ None
timetables_accepted cs spans sound =
    lists_accepted connection_fault FineConnection no_connection most_connections cs connection_passes spans sound.few
    (λ s h. (
      sound.fit s h,
      record {
        first = λ l. (omega arith, sound.forward s h 0 l, sound.timely s h 0 l);
        next = λ j l. (sound.rising s h j l, sound.forward s h (j + 1) l, sound.timely s h (j + 1) l);
      },
    ))

-- ---- roads

abbrev After : Option Point → Point → Type 0
After None x = Unit {0}
After (Some b) x = b.second < x.second

above_after : (b : Option Point) (x : Point) → above b x ≡ true → After b x
above_after None x e = tt
above_after (Some b) x e = ltb-true _ _ e

after_above : (b : Option Point) (x : Point) → After b x → above b x ≡ true
after_above None x h = refl
after_above (Some b) x h = lt-ltb _ _ h

abbrev FinePoint : Option Point → Point → Type 0
FinePoint before x = After before x × (arrived before ≤ reached x) × (reached x ≤ horizon)

fine_point : (b : Option Point) (x : Point) → point_fault b x ≡ None → FinePoint b x
fine_point b x e = let p = row_holds _ _ _ _ e in (above_after b x p.0, leb-true _ _ p.2, leb-true _ _ p.3)

point_passes : (b : Option Point) (x : Point) → FinePoint b x → point_fault b x ≡ None
point_passes b x h = row_passes _ _ _ _ (after_above b x h.0) (le-leb _ _ (omega arith)) (le-leb _ _ h.1) (le-leb _ _ h.2)

pub sound_roads : (ps : List Point) (spans : List Span) → roads_fault ps spans ≡ None → SoundRoads ps spans
sound_roads ps spans e =
    let p = sound_lists point_fault FinePoint no_point most_points ps fine_point spans e in
    record {
      few = p.0;
      fit = λ s h. (p.1 s h).0;
      rising = λ s h j l. ((p.1 s h).1.next j l).0;
      steady = λ s h j l. ((p.1 s h).1.next j l).1;
      timely = λ s h. every_place _ _ (λ l. ((p.1 s h).1.first l).2) (λ j l. ((p.1 s h).1.next j l).2);
    }

pub roads_accepted : (ps : List Point) (spans : List Span) → SoundRoads ps spans → roads_fault ps spans ≡ None
roads_accepted ps spans sound =
    lists_accepted point_fault FinePoint no_point most_points ps point_passes spans sound.few
    (λ s h. (
      sound.fit s h,
      record {
        first = λ l. (tt, omega arith, sound.timely s h 0 l);
        next = λ j l. (sound.rising s h j l, sound.steady s h j l, sound.timely s h (j + 1) l);
      },
    ))
