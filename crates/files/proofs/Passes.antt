-- What a pass over the records of a file keeps, and what it leaves at the end.
use Rattle.std.proofs.Common.{◌≡◌, ℕ, suc, ◌+◌, ◌-◌, ◌*◌, ◌<◌, ◌≤◌, Bool, true, false, cond, ◌&&◌, eqb, leb, List, [], ◌∷◌, ◌++◌, map, length, Ok, Err, Result, sym, refl, ap, ◌∙◌, subst, ap₂, append_assoc, append-nil, zero-add, arith}
use Rattle.std.proofs.lemmas.Bool.{leb-true}
use Rattle.model.specs.declared.refusal.Refusal.TheVariants.{FileTablesShort}
use Rattle.wire.specs.declared.fault.Fault.{Fault}
use Rattle.wire.specs.Grammar.{Format, and_then, FineAll}
use Rattle.wire.specs.Places.{Step, wrong}
use Rattle.wire.proofs.Laws.{same_step}
use Rattle.wire.proofs.Writing.{few_bytes}
use Rattle.formats.specs.Contents.{NetworkContents}
use Rattle.formats.specs.NetworkFile.{stop, timetable, road, network, FineNetwork}
use Rattle.formats.proofs.NetworkFile.{network_lawful}
use Rattle.records.specs.Stream.{Rec, a_stop, a_walk, a_connection, a_point, an_arc, numbered, records_of, Told, before, told, collected}
use Rattle.files.specs.declared.rows.Counts.{Counts}
use Rattle.files.specs.declared.loading.Loaded.{Loaded}
use Rattle.files.specs.Counting.{none, counted, counted_all, AtMost}
use Rattle.files.specs.Filling.{Filling, extended, Short, AllShort, Bounded, stored, stored_all, counts_in}
use Rattle.files.specs.Loading.{Tables, Accepted, filled, counts_of, room, measured, loads, first_stop, name_rows, list_rows, joined}
use Rattle.files.specs.Progress.{unstored, filling}
use Rattle.files.proofs.Counting.{one_more, none_yet}
use Rattle.files.proofs.Storing.{front}
use Rattle.files.proofs.Lists.{AllSome, length_list_rows}
use Rattle.files.proofs.Filling.{counts_stored_all, Empty, whole, length_name_rows}

-- what the records of a file say of its contents

collected_end : (t : Told) (q : ℕ) → t.1 ≡ Ok q → collected t ≡ Ok (t.0, q)
collected_end t q e = ap (λ r. collected (t.0, r)) e

collected_fault : (t : Told) (f : Fault) → t.1 ≡ Err f → collected t ≡ Err f
collected_fault t f e = ap (λ r. collected (t.0, r)) e

read_end : (t : Told) (s : Step NetworkContents) (q : ℕ) → collected t ≡ and_then s (λ c q. Ok (records_of c, q)) → t.1 ≡ Ok q →
    (c : NetworkContents) × (s ≡ Ok (c, q)) × (t.0 ≡ records_of c)
read_end t (Err k) q e is = let z = sym (collected_end t q is) ∙ e in let n : ◌≡◌ {A = ℕ} 0 1 = cc in absurd (omega arith)
read_end t (Ok x) q e is =
    let s = same_step t.0 (records_of x.0) q x.1 (sym (collected_end t q is) ∙ e) in
    (x.0, ap (λ k. Ok (x.0, k)) (sym s.1), s.0)

read_fault : (t : Told) (s : Step NetworkContents) (f : Fault) → collected t ≡ and_then s (λ c q. Ok (records_of c, q)) → t.1 ≡ Err f → s ≡ Err f
read_fault t (Ok x) f e is = let z = sym (collected_fault t f is) ∙ e in let n : ◌≡◌ {A = ℕ} 0 1 = cc in absurd (omega arith)
read_fault t (Err k) f e is = let z = sym (collected_fault t f is) ∙ e in let i : f ≡ k = cc in ap {B = Step NetworkContents} Err (sym i)

told_all : (t : Told) (s : Step NetworkContents) (c : NetworkContents) (q : ℕ) → collected t ≡ and_then s (λ c q. Ok (records_of c, q)) → s ≡ Ok (c, q) → t.0 ≡ records_of c
told_all t s c q e is = go t.1 refl
  where
    all : collected t ≡ Ok (records_of c, q)
    all = e ∙ ap (λ s. and_then s (λ c q. Ok (records_of c, q))) is

    go : (r : Result ℕ Fault) → t.1 ≡ r → t.0 ≡ records_of c
    go (Ok p) h = (same_step t.0 (records_of c) p q (sym (collected_end t p h) ∙ all)).0
    go (Err f) h = let z = sym (collected_fault t f h) ∙ all in let n : ◌≡◌ {A = ℕ} 0 1 = cc in absurd (omega arith)

-- what the contents of a file that is accepted are

fine : (bs : List ℕ) (c : NetworkContents) (q : ℕ) → network.read bs 0 ≡ Ok (c, q) → FineNetwork c
fine bs c q e = (network_lawful.held c bs 0 q e).fine

all_some : {A : Type 0} (F : Format (List A)) → ((xs : List A) → F.Fine xs → 1 ≤ length xs) → (lists : List (List A)) → FineAll {S = Unit {0}} (λ _. F) (λ _ _. tt) tt lists → AllSome lists
unfolding FineAll AllSome
all_some F h [] f = tt
all_some F h (xs ∷ lists) f = (h xs f.0, all_some F h lists f.1)

some_timetables : (c : NetworkContents) → FineNetwork c → AllSome c.timetables
some_timetables c f = all_some timetable (λ xs h. h.0.0) c.timetables f.timetables.1

some_roads : (c : NetworkContents) → FineNetwork c → AllSome c.roads
some_roads c f = all_some road (λ xs h. h.0.0) c.roads f.roads.1

pub few_stops : {bs : List ℕ} {n : ℕ} → Accepted bs n → n ≤ 1024
few_stops {bs} a = omega (arith, a.count, (fine bs a.contents a.end a.read).names.0.1)

-- names are short

short_names : (names : List (List ℕ)) (rest : List Rec) → FineAll {S = Unit {0}} (λ _. stop) (λ _ _. tt) tt names → AllShort rest → AllShort (map a_stop names ++ rest)
unfolding FineAll AllShort
short_names [] rest f h = h
short_names (n ∷ ns) rest f h = (f.0.1, short_names ns rest f.1 h)

short_map : {A : Type 0} (wrap : A → Rec) → ((x : A) → Short (wrap x)) → (xs : List A) (rest : List Rec) → AllShort rest → AllShort (map wrap xs ++ rest)
unfolding AllShort
short_map wrap s [] rest h = h
short_map wrap s (x ∷ xs) rest h = (s x, short_map wrap s xs rest h)

short_lists : {A : Type 0} (wrap : ℕ → A → Rec) → ((k : ℕ) (x : A) → Short (wrap k x)) → (lists : List (List A)) (k : ℕ) (rest : List Rec) → AllShort rest → AllShort (numbered wrap k lists ++ rest)
unfolding numbered
short_lists wrap s [] k rest h = h
short_lists wrap s (xs ∷ lists) k rest h =
    subst AllShort (sym (append_assoc (map (wrap k) xs) (numbered wrap (suc k) lists) rest)) (short_map (wrap k) (s k) xs (numbered wrap (suc k) lists ++ rest) (short_lists wrap s lists (suc k) rest h))

short_none : AllShort []
unfolding AllShort
short_none = tt

short_records : (c : NetworkContents) → FineNetwork c → AllShort (records_of c)
unfolding records_of
short_records c f =
    let arcs : AllShort (map an_arc c.arcs) = subst AllShort (append-nil (map an_arc c.arcs)) (short_map an_arc (λ _. tt) c.arcs [] short_none) in
    short_names c.names _ f.names.1 (short_map a_walk (λ _. tt) c.walks _
    (short_lists a_connection (λ _ _. tt) c.timetables _ _ (short_lists a_point (λ _ _. tt) c.roads _ _ arcs)))

-- the counts of a file

same_counts : (n m : Counts) → n.stops ≡ m.stops → n.walks ≡ m.walks → n.timetables ≡ m.timetables → n.connections ≡ m.connections → n.roads ≡ m.roads → n.points ≡ m.points → n.arcs ≡ m.arcs → n ≡ m
same_counts n m s w t c r p a =
    ap (λ x. record { stops = x; walks = n.walks; timetables = n.timetables; connections = n.connections; roads = n.roads; points = n.points; arcs = n.arcs }) s
    ∙ ap (λ x. record { stops = m.stops; walks = x; timetables = n.timetables; connections = n.connections; roads = n.roads; points = n.points; arcs = n.arcs }) w
    ∙ ap (λ x. record { stops = m.stops; walks = m.walks; timetables = x; connections = n.connections; roads = n.roads; points = n.points; arcs = n.arcs }) t
    ∙ ap (λ x. record { stops = m.stops; walks = m.walks; timetables = m.timetables; connections = x; roads = n.roads; points = n.points; arcs = n.arcs }) c
    ∙ ap (λ x. record { stops = m.stops; walks = m.walks; timetables = m.timetables; connections = m.connections; roads = x; points = n.points; arcs = n.arcs }) r
    ∙ ap (λ x. record { stops = m.stops; walks = m.walks; timetables = m.timetables; connections = m.connections; roads = m.roads; points = x; arcs = n.arcs }) p
    ∙ ap (λ x. record { stops = m.stops; walks = m.walks; timetables = m.timetables; connections = m.connections; roads = m.roads; points = m.points; arcs = x }) a

start_empty : (e : ℕ) (t : Tables) → Empty (filling (unstored e) t)
start_empty e t = record { stops = refl; walk_count = refl; timetables = refl; roads = refl; arc_count = refl }

counts_whole : (c : NetworkContents) → FineNetwork c → counted_all none (records_of c) ≡ counts_of c
counts_whole c f =
    let start : Filling = filling (unstored 0) (record { names = []; walks = []; timetables = []; connections = []; roads = []; points = []; arcs = [] }) in
    let t : Tables = record { names = []; walks = []; timetables = []; connections = []; roads = []; points = []; arcs = [] } in
    let w = whole c start (start_empty 0 t) (some_timetables c f) (some_roads c f) in
    sym (counts_stored_all (records_of c) start)
    ∙ same_counts (counts_in (stored_all start (records_of c))) (counts_of c) w.stops w.walk_count (w.timetables.count ∙ zero-add (length c.timetables)) (w.timetables.rows ∙ zero-add (length (joined c.timetables)))
    (w.roads.count ∙ zero-add (length c.roads)) (w.roads.rows ∙ zero-add (length (joined c.roads))) w.arc_count

-- the pass that counts

pub record Tallying (all left : Told) (size : ℕ) (n : Counts) : Type 0 where
  pub same : counted_all none all.0 ≡ counted_all n left.0
  pub end : all.1 ≡ left.1
  pub sized : size ≤ 2520072
  pub few : AtMost (2520072 - size) n

pub tallying_turn : {all left : Told} {size : ℕ} {n : Counts} → Tallying all left size n → (r : Rec) (left' : Told) (size' : ℕ) (m : Counts) → left ≡ before r left' → size' < size → m ≡ counted n r → Tallying all left' size' m
unfolding counted_all
tallying_turn {all} {left} {size} {n} h r left' size' m e less is = record {
  same = h.same ∙ ap (λ t. counted_all n t.0) e ∙ ap (λ k. counted_all k left'.0) (sym is);
  end = h.end ∙ ap (λ t. t.1) e;
  sized = omega (arith, h.sized);
  few = subst (AtMost (2520072 - size')) (sym is) (one_more n r (2520072 - size) (2520072 - size') h.few (omega (arith, h.sized)));
}

pub tallied_end : {all left : Told} {size : ℕ} {n : Counts} (bs : List ℕ) {p : ℕ} → Tallying all left size n → collected all ≡ and_then (network.read bs 0) (λ c q. Ok (records_of c, q)) → left ≡ ([], Ok p) →
    Ok (record { counts = n; end = p }) ≡ measured (network.read bs 0)
unfolding counted_all
tallied_end {all} {left} {size} {n} bs {p} h e is =
    let (c, read, records) = read_end all (network.read bs 0) p e (h.end ∙ ap (λ t. t.1) is) in
    let counts : n ≡ counts_of c = sym (h.same ∙ ap (λ t. counted_all n t.0) is) ∙ ap (counted_all none) records ∙ counts_whole c (fine bs c p read) in
    ap (λ k. Ok (record { counts = k; end = p })) counts ∙ sym (ap measured read)

-- the pass that fills

pub record Going (start : Filling) (all left : List Rec) (size : ℕ) (f : Filling) : Type 0 where
  pub same : stored_all start all ≡ stored_all f left
  pub short : AllShort left
  pub sized : size ≤ 2520072
  pub bounded : Bounded (2520072 - size) (113403250 - 45 * size) f

either : (b : Bool) (x y : ℕ) (m : ℕ) → x ≤ m → y ≤ m → cond b x y ≤ m
either true x y m h k = h
either false x y m h k = k

bounded_more : (f : Filling) (r : Rec) (a b p q : ℕ) → Bounded a p f → Short r → a < b → p + 45 ≤ q → Bounded b q (stored f r)
bounded_more f (a_stop name) a b p q h s l m =
    let bytes = few_bytes (length name) in
    record { counts = one_more (counts_in f) (a_stop name) a b h.counts l; timetable = omega (arith, h.timetable); road = omega (arith, h.road); end = omega (arith, h.end, bytes, s) }
bounded_more f (a_walk w) a b p q h s l m =
    record { counts = one_more (counts_in f) (a_walk w) a b h.counts l; timetable = omega (arith, h.timetable); road = omega (arith, h.road); end = omega (arith, h.end) }
bounded_more f (a_connection k c) a b p q h s l m = record {
  counts = one_more (counts_in f) (a_connection k c) a b h.counts l;
  timetable = go (eqb k (f.walk_count + f.timetables.count));
  road = omega (arith, h.road);
  end = omega (arith, h.end);
}
  where
    go : (new : Bool) → (extended new f.timetables).span.len ≤ b
    go true = omega arith
    go false = omega (arith, h.timetable)
bounded_more f (a_point k c) a b p q h s l m = record {
  counts = one_more (counts_in f) (a_point k c) a b h.counts l;
  timetable = omega (arith, h.timetable);
  road = go (eqb k (f.walk_count + f.timetables.count + f.roads.count));
  end = omega (arith, h.end);
}
  where
    go : (new : Bool) → (extended new f.roads).span.len ≤ b
    go true = omega arith
    go false = omega (arith, h.road)
bounded_more f (an_arc x) a b p q h s l m =
    record { counts = one_more (counts_in f) (an_arc x) a b h.counts l; timetable = omega (arith, h.timetable); road = omega (arith, h.road); end = omega (arith, h.end) }

pub first_stop_lem : (n : ℕ) → first_stop n ≤ 10
first_stop_lem n = omega (arith, few_bytes 1, few_bytes n)

pub going_start : {bs : List ℕ} {n : ℕ} → Accepted bs n → (t : Tables) (end size : ℕ) (left : List Rec) → end ≤ 10 → left ≡ (told bs).0 → size ≡ 2520072 →
    collected (told bs) ≡ and_then (network.read bs 0) (λ c q. Ok (records_of c, q)) →
    Going (filling (unstored end) t) (told bs).0 left size (filling (unstored end) t)
going_start {bs} a t end size left low e z col = record {
  same = ap (stored_all (filling (unstored end) t)) (sym e);
  short = subst AllShort (sym (e ∙ told_all (told bs) (network.read bs 0) a.contents a.end col a.read)) (short_records a.contents (fine bs a.contents a.end a.read));
  sized = omega arith;
  bounded = record { counts = none_yet (2520072 - size); timetable = omega arith; road = omega arith; end = omega arith };
}

pub going_turn : {start : Filling} {all left : List Rec} {size : ℕ} {f : Filling} → Going start all left size f → (r : Rec) (left' : List Rec) (size' : ℕ) (g : Filling) → left ≡ r ∷ left' → size' < size → g ≡ stored f r → Going start all left' size' g
unfolding stored_all AllShort
going_turn {start} {all} {left} {size} {f} h r left' size' g e less is =
    let s : AllShort (r ∷ left') = subst AllShort e h.short in record {
      same = h.same ∙ ap (stored_all f) e ∙ ap (λ k. stored_all k left') (sym is);
      short = s.1;
      sized = omega (arith, h.sized);
      bounded = subst (Bounded (2520072 - size') (113403250 - 45 * size')) (sym is)
          (bounded_more f r (2520072 - size) (2520072 - size') (113403250 - 45 * size) (113403250 - 45 * size') h.bounded s.0 (omega (arith, h.sized)) (omega (arith, h.sized)));
    }

-- what `store` asks for
pub going_short : {start : Filling} {all left : List Rec} {size : ℕ} {f : Filling} → Going start all left size f → (r : Rec) (left' : List Rec) → left ≡ r ∷ left' → Short r
unfolding AllShort
going_short h r left' e = let s : AllShort (r ∷ left') = subst AllShort e h.short in s.0

pub going_bounded : {start : Filling} {all left : List Rec} {size : ℕ} {f : Filling} → Going start all left size f → Bounded 4294967295 4294967295 f
going_bounded {f = f} h = let b = h.bounded in record {
  counts = record {
    stops = omega (arith, b.counts.stops);
    walks = omega (arith, b.counts.walks);
    timetables = omega (arith, b.counts.timetables);
    connections = omega (arith, b.counts.connections);
    roads = omega (arith, b.counts.roads);
    points = omega (arith, b.counts.points);
    arcs = omega (arith, b.counts.arcs);
  };
  timetable = omega (arith, b.timetable);
  road = omega (arith, b.road);
  end = omega (arith, b.end);
}

-- the tables at the end

pub same_tables : (n m : Tables) → n.names ≡ m.names → n.walks ≡ m.walks → n.timetables ≡ m.timetables → n.connections ≡ m.connections → n.roads ≡ m.roads → n.points ≡ m.points → n.arcs ≡ m.arcs → n ≡ m
same_tables n m s w t c r p a =
    ap (λ x. record { names = x; walks = n.walks; timetables = n.timetables; connections = n.connections; roads = n.roads; points = n.points; arcs = n.arcs }) s
    ∙ ap (λ x. record { names = m.names; walks = x; timetables = n.timetables; connections = n.connections; roads = n.roads; points = n.points; arcs = n.arcs }) w
    ∙ ap (λ x. record { names = m.names; walks = m.walks; timetables = x; connections = n.connections; roads = n.roads; points = n.points; arcs = n.arcs }) t
    ∙ ap (λ x. record { names = m.names; walks = m.walks; timetables = m.timetables; connections = x; roads = n.roads; points = n.points; arcs = n.arcs }) c
    ∙ ap (λ x. record { names = m.names; walks = m.walks; timetables = m.timetables; connections = m.connections; roads = x; points = n.points; arcs = n.arcs }) r
    ∙ ap (λ x. record { names = m.names; walks = m.walks; timetables = m.timetables; connections = m.connections; roads = m.roads; points = x; arcs = n.arcs }) p
    ∙ ap (λ x. record { names = m.names; walks = m.walks; timetables = m.timetables; connections = m.connections; roads = m.roads; points = m.points; arcs = x }) a

and_true : (a b : Bool) → a && b ≡ true → (a ≡ true) × (b ≡ true)
and_true true true e = (refl, refl)
and_true true false e = let z : ◌≡◌ {A = ℕ} 0 1 = cc in absurd (omega arith)
and_true false b e = let z : ◌≡◌ {A = ℕ} 0 1 = cc in absurd (omega arith)

record Room (n : Counts) (t : Tables) : Type 0 where
  names : n.stops ≤ length t.names
  walks : n.walks ≤ length t.walks
  timetables : n.timetables ≤ length t.timetables
  connections : n.connections ≤ length t.connections
  roads : n.roads ≤ length t.roads
  points : n.points ≤ length t.points
  arcs : n.arcs ≤ length t.arcs

has_room : (n : Counts) (t : Tables) → room n t ≡ true → Room n t
has_room n t e =
    let (e₁, a) = and_true _ (leb n.arcs (length t.arcs)) e in
    let (e₂, p) = and_true _ (leb n.points (length t.points)) e₁ in
    let (e₃, r) = and_true _ (leb n.roads (length t.roads)) e₂ in
    let (e₄, c) = and_true _ (leb n.connections (length t.connections)) e₃ in
    let (e₅, s) = and_true _ (leb n.timetables (length t.timetables)) e₄ in
    let (m, w) = and_true (leb n.stops (length t.names)) (leb n.walks (length t.walks)) e₅ in record {
      names = leb-true _ _ m;
      walks = leb-true _ _ w;
      timetables = leb-true _ _ s;
      connections = leb-true _ _ c;
      roads = leb-true _ _ r;
      points = leb-true _ _ p;
      arcs = leb-true _ _ a;
    }

tables_in : Filling → Tables
tables_in f = record { names = f.names; walks = f.walks; timetables = f.timetables.spans; connections = f.timetables.table; roads = f.roads.spans; points = f.roads.table; arcs = f.arcs }

all_filled : (c : NetworkContents) → FineNetwork c → (t : Tables) → room (counts_of c) t ≡ true →
    tables_in (stored_all (filling (unstored (first_stop (length c.names))) t) (records_of c)) ≡ filled c t
unfolding tables_in
all_filled c f t e =
    let p = first_stop (length c.names) in
    let start : Filling = filling (unstored p) t in
    let w = whole c start (start_empty p t) (some_timetables c f) (some_roads c f) in
    let r = has_room (counts_of c) t e in
    same_tables (tables_in (stored_all start (records_of c))) (filled c t)
    (w.names ∙ front (name_rows p c.names) t.names (omega (arith, length_name_rows c.names p, r.names)))
    (w.walks ∙ front c.walks t.walks r.walks)
    (w.timetables.parts ∙ front (list_rows 0 c.timetables) t.timetables (omega (arith, length_list_rows c.timetables 0, r.timetables)))
    (w.timetables.table ∙ front (joined c.timetables) t.connections r.connections)
    (w.roads.parts ∙ front (list_rows 0 c.roads) t.roads (omega (arith, length_list_rows c.roads 0, r.roads)))
    (w.roads.table ∙ front (joined c.roads) t.points r.points)
    (w.arcs ∙ front c.arcs t.arcs r.arcs)

pub gone : {bs : List ℕ} {n : ℕ} (t : Tables) (end : ℕ) {left : List Rec} {size : ℕ} {f : Filling} →
    Going (filling (unstored end) t) (told bs).0 left size f →
    left ≡ [] → end ≡ first_stop n → collected (told bs) ≡ and_then (network.read bs 0) (λ c q. Ok (records_of c, q)) →
    (a : Accepted bs n) → room (counts_of a.contents) t ≡ true →
    record { names = f.names; walks = f.walks; timetables = f.timetables.spans; connections = f.timetables.table; roads = f.roads.spans; points = f.roads.table; arcs = f.arcs } ≡ filled a.contents t
unfolding stored_all tables_in
gone {bs} {n} t end {left} {size} {f} h none e col a r =
    let c = a.contents in
    let all = told_all (told bs) (network.read bs 0) c a.end col a.read in
    let start : ℕ → Filling = λ p. filling (unstored p) t in
    let last : stored_all (start end) (records_of c) ≡ f = ap (stored_all (start end)) (sym all) ∙ h.same ∙ ap (stored_all f) none in
    let place : end ≡ first_stop (length c.names) = e ∙ ap first_stop a.count in
    ap tables_in (sym last) ∙ ap (λ p. tables_in (stored_all (start p) (records_of c))) place ∙ all_filled c (fine bs c a.end a.read) t r

-- the answers of a load

pub load_fault : (s : Step NetworkContents) (f : Fault) (t : Tables) → ◌≡◌ {A = Result Loaded Fault} (Err f) (measured s) → ◌≡◌ {A = Result Loaded Fault × Tables} (Err f, t) (loads s t)
load_fault (Ok x) f t e = let z : ◌≡◌ {A = ℕ} 0 1 = cc in absurd (omega arith)
load_fault (Err k) f t e = let i : f ≡ k = cc in ap {B = Result Loaded Fault × Tables} (λ f. (Err f, t)) i

-- a file that was counted is accepted
pub counted_file : (s : Step NetworkContents) (l : Loaded) → Ok l ≡ measured s → (c : NetworkContents) × (s ≡ Ok (c, l.end)) × (l.counts ≡ counts_of c)
counted_file (Err k) l e = let z : ◌≡◌ {A = ℕ} 0 1 = cc in absurd (omega arith)
counted_file (Ok x) l e =
    let i : l ≡ record { counts = counts_of x.0; end = x.1 } = cc in
    (x.0, ap (λ k. Ok (x.0, k)) (sym (ap (λ l. l.end) i)), ap (λ l. l.counts) i)

pub accepted : (bs : List ℕ) (l : Loaded) → Ok l ≡ measured (network.read bs 0) → Accepted bs l.counts.stops
accepted bs l e = let (c, read, counts) = counted_file (network.read bs 0) l e in record { contents = c; end = l.end; read = read; count = ap (λ n. n.stops) counts }

pub load_short : (s : Step NetworkContents) (l : Loaded) (t : Tables) → Ok l ≡ measured s → room l.counts t ≡ false → ◌≡◌ {A = Result Loaded Fault × Tables} (Err (wrong FileTablesShort l.end), t) (loads s t)
load_short s l t e short =
    let (c, read, counts) = counted_file s l e in
    sym (ap (λ s. loads s t) read ∙ ap (λ b. cond {A = Result Loaded Fault × Tables} b (Ok (record { counts = counts_of c; end = l.end }), filled c t) (Err (wrong FileTablesShort l.end), t)) (ap (λ n. room n t) (sym counts) ∙ short))

pub load_done : (bs : List ℕ) (l : Loaded) (t after : Tables) (e : Ok l ≡ measured (network.read bs 0)) → room l.counts t ≡ true →
    ((a : Accepted bs l.counts.stops) → room (counts_of a.contents) t ≡ true → after ≡ filled a.contents t) → ◌≡◌ {A = Result Loaded Fault × Tables} (Ok l, after) (loads (network.read bs 0) t)
load_done bs l t after e fits done =
    let (c, read, counts) = counted_file (network.read bs 0) l e in
    let r : room (counts_of c) t ≡ true = ap (λ n. room n t) (sym counts) ∙ fits in
    let tables = done (record { contents = c; end = l.end; read = read; count = ap (λ n. n.stops) counts }) r in
    ap₂ (λ n after. (Ok (record { counts = n; end = l.end }), after)) counts tables
    ∙ sym (ap (λ s. loads s t) read ∙ ap (λ b. cond {A = Result Loaded Fault × Tables} b (Ok (record { counts = counts_of c; end = l.end }), filled c t) (Err (wrong FileTablesShort l.end), t)) r)
