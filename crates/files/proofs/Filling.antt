-- The records of a file's contents, stored one after the other, fill the tables.
use Rattle.std.proofs.Common.{◌≡◌, ℕ, suc, ◌+◌, ◌<◌, Bool, true, false, eqb, List, [], ◌∷◌, ◌++◌, map, length, set, sym, refl, ap, ◌∙◌, subst, ap₂, add-zero, add-one, arith}
use Rattle.std.proofs.lemmas.List.Edits.{sets}
use Rattle.std.proofs.lemmas.Bool.{eq-eqb, ne_eqb}
use Rattle.model.specs.declared.network.Arc.{Arc}
use Rattle.model.specs.declared.tables.Connection.{Connection}
use Rattle.model.specs.declared.tables.Point.{Point}
use Rattle.wire.specs.Numbers.{encode}
use Rattle.formats.specs.Contents.{NetworkContents}
use Rattle.records.specs.Stream.{Rec, a_stop, a_walk, a_connection, a_point, an_arc, numbered, records_of}
use Rattle.files.specs.Counting.{counted, counted_all}
use Rattle.files.specs.Filling.{Lists, added, Filling, name_start, with_names, with_walks, with_timetables, with_roads, with_arcs, stored, stored_all, counts_in}
use Rattle.files.specs.Loading.{name_rows}
use Rattle.files.proofs.Lists.{add_all, add_lists, AllSome, begun, add_lists_lem, Listed}

pub stored_append : (xs ys : List Rec) (f : Filling) → stored_all f (xs ++ ys) ≡ stored_all (stored_all f xs) ys
unfolding stored_all
stored_append [] ys f = refl
stored_append (x ∷ xs) ys f = stored_append xs ys (stored f x)

-- counting and storing go together

pub counts_stored : (f : Filling) (r : Rec) → counts_in (stored f r) ≡ counted (counts_in f) r
counts_stored f (a_stop name) = refl
counts_stored f (a_walk w) = refl
counts_stored f (a_connection k c) = refl
counts_stored f (a_point k p) = refl
counts_stored f (an_arc a) = refl

pub counts_stored_all : (rs : List Rec) (f : Filling) → counts_in (stored_all f rs) ≡ counted_all (counts_in f) rs
unfolding stored_all counted_all
counts_stored_all [] f = refl
counts_stored_all (r ∷ rs) f = counts_stored_all rs (stored f r) ∙ ap (λ n. counted_all n rs) (counts_stored f r)

-- names, walks and arcs

pub names_end : ℕ → List (List ℕ) → ℕ
names_end p [] = p
names_end p (n ∷ ns) = names_end (name_start p n + length n) ns

pub names_stored : (names : List (List ℕ)) (f : Filling) →
    stored_all f (map a_stop names) ≡ with_names f (f.stops + length names) (names_end f.end names) (sets f.names f.stops (name_rows f.end names))
unfolding stored_all name_rows names_end
names_stored [] f = ap (λ k. with_names f k f.end f.names) (sym (add-zero f.stops))
names_stored (n ∷ ns) f =
    let e = name_start f.end n + length n in
    names_stored ns (stored f (a_stop n))
    ∙ ap₂ (λ k i. with_names f k (names_end e ns) (sets (set f.names f.stops (record { start = name_start f.end n; len = length n })) i (name_rows e ns))) (omega arith) (add-one f.stops)

pub walks_stored : (ws : List ℕ) (f : Filling) → stored_all f (map a_walk ws) ≡ with_walks f (f.walk_count + length ws) (sets f.walks f.walk_count ws)
unfolding stored_all
walks_stored [] f = ap (λ k. with_walks f k f.walks) (sym (add-zero f.walk_count))
walks_stored (w ∷ ws) f =
    walks_stored ws (stored f (a_walk w)) ∙ ap₂ (λ k i. with_walks f k (sets (set f.walks f.walk_count w) i ws)) (omega arith) (add-one f.walk_count)

pub arcs_stored : (arcs : List Arc) (f : Filling) → stored_all f (map an_arc arcs) ≡ with_arcs f (f.arc_count + length arcs) (sets f.arcs f.arc_count arcs)
unfolding stored_all
arcs_stored [] f = ap (λ k. with_arcs f k f.arcs) (sym (add-zero f.arc_count))
arcs_stored (a ∷ arcs) f =
    arcs_stored arcs (stored f (an_arc a)) ∙ ap₂ (λ k i. with_arcs f k (sets (set f.arcs f.arc_count a) i arcs)) (omega arith) (add-one f.arc_count)

-- the lists of services, of either kind: where they stand among the tables, and how many services come before them
module _ {A : Type 0} (get : Filling → Lists A) (put : Filling → Lists A → Filling) (wrap : ℕ → A → Rec) (base : Filling → ℕ)
    (get_put : (f : Filling) (l : Lists A) → get (put f l) ≡ l) (put_put : (f : Filling) (l m : Lists A) → put (put f l) m ≡ put f m)
    (put_get : (f : Filling) → put f (get f) ≡ f) (base_put : (f : Filling) (l : Lists A) → base (put f l) ≡ base f)
    (step : (f : Filling) (k : ℕ) (x : A) → stored f (wrap k x) ≡ put f (added (eqb k (base f + (get f).count)) x (get f))) where
  stored_by : (f : Filling) (k : ℕ) (x : A) (b : Bool) → eqb k (base f + (get f).count) ≡ b → stored f (wrap k x) ≡ put f (added b x (get f))
  stored_by f k x b e = step f k x ∙ ap (λ b. put f (added b x (get f))) e

  rest_stored : (xs : List A) (k : ℕ) (f : Filling) → k < base f + (get f).count → stored_all f (map (wrap k) xs) ≡ put f (add_all (get f) xs)
  unfolding stored_all add_all
  rest_stored [] k f h = sym (put_get f)
  rest_stored (x ∷ xs) k f h =
      let l = added false x (get f) in
      let one = stored_by f k x false (ne_eqb k (base f + (get f).count) (λ e. omega arith)) in
      let same : (get (put f l)).count ≡ (get f).count = ap (λ m. m.count) (get_put f l) in
      ap (λ g. stored_all g (map (wrap k) xs)) one ∙ rest_stored xs k (put f l) (omega (arith, h, base_put f l, same))
      ∙ ap (λ m. put (put f l) (add_all m xs)) (get_put f l) ∙ put_put f l (add_all l xs)

  list_stored : (x : A) (xs : List A) (k : ℕ) (f : Filling) → k ≡ base f + (get f).count → stored_all f (map (wrap k) (x ∷ xs)) ≡ put f (add_all (added true x (get f)) xs)
  unfolding stored_all
  list_stored x xs k f e =
      let l = added true x (get f) in
      let one = stored_by f k x true (eq-eqb k (base f + (get f).count) e) in
      let same : (get (put f l)).count ≡ (get f).count + 1 = ap (λ m. m.count) (get_put f l) in
      ap (λ g. stored_all g (map (wrap k) xs)) one ∙ rest_stored xs k (put f l) (omega (arith, e, base_put f l, same))
      ∙ ap (λ m. put (put f l) (add_all m xs)) (get_put f l) ∙ put_put f l (add_all l xs)

  pub lists_stored : (lists : List (List A)) (k : ℕ) (f : Filling) → k ≡ base f + (get f).count → AllSome lists → stored_all f (numbered wrap k lists) ≡ put f (add_lists (get f) lists)
  unfolding stored_all numbered add_lists AllSome
  lists_stored [] k f e some = sym (put_get f)
  lists_stored ([] ∷ lists) k f e some = absurd (omega (arith, some.0))
  lists_stored ((x ∷ xs) ∷ lists) k f e some =
      let m = add_all (added true x (get f)) xs in
      let same : (get (put f m)).count ≡ (get f).count + 1 = ap (λ m. m.count) (get_put f m) ∙ (begun x xs (get f)).count in
      stored_append (map (wrap k) (x ∷ xs)) (numbered wrap (suc k) lists) f ∙ ap (λ g. stored_all g (numbered wrap (suc k) lists)) (list_stored x xs k f e)
      ∙ lists_stored lists (suc k) (put f m) (omega (arith, e, base_put f m, same)) some.1 ∙ ap (λ l. put (put f m) (add_lists l lists)) (get_put f m) ∙ put_put f m (add_lists m lists)

pub timetables_stored : (lists : List (List Connection)) (k : ℕ) (f : Filling) → k ≡ f.walk_count + f.timetables.count → AllSome lists →
    stored_all f (numbered a_connection k lists) ≡ with_timetables f (add_lists f.timetables lists)
timetables_stored = lists_stored (λ f. f.timetables) with_timetables a_connection (λ f. f.walk_count) (λ f l. refl) (λ f l m. refl) (λ f. refl) (λ f l. refl) (λ f k x. refl)

pub roads_stored : (lists : List (List Point)) (k : ℕ) (f : Filling) → k ≡ f.walk_count + f.timetables.count + f.roads.count → AllSome lists →
    stored_all f (numbered a_point k lists) ≡ with_roads f (add_lists f.roads lists)
roads_stored = lists_stored (λ f. f.roads) with_roads a_point (λ f. f.walk_count + f.timetables.count) (λ f l. refl) (λ f l m. refl) (λ f. refl) (λ f l. refl) (λ f k x. refl)

-- the whole contents, from empty counts on
pub record Whole (f : Filling) (c : NetworkContents) (g : Filling) : Type 0 where
  pub stops : g.stops ≡ length c.names
  pub names : g.names ≡ sets f.names 0 (name_rows f.end c.names)
  pub walk_count : g.walk_count ≡ length c.walks
  pub walks : g.walks ≡ sets f.walks 0 c.walks
  pub timetables : Listed f.timetables c.timetables g.timetables
  pub roads : Listed f.roads c.roads g.roads
  pub arc_count : g.arc_count ≡ length c.arcs
  pub arcs : g.arcs ≡ sets f.arcs 0 c.arcs

pub record Empty (f : Filling) : Type 0 where
  pub stops : f.stops ≡ 0
  pub walk_count : f.walk_count ≡ 0
  pub timetables : f.timetables.count ≡ 0
  pub roads : f.roads.count ≡ 0
  pub arc_count : f.arc_count ≡ 0

all_stored : (c : NetworkContents) (f : Filling) → Empty f → AllSome c.timetables → AllSome c.roads →
    (g : Filling) × (stored_all f (records_of c) ≡ g) × Whole f c g
unfolding records_of
all_stored c f none ts rs =
    let f₁ = with_names f (f.stops + length c.names) (names_end f.end c.names) (sets f.names f.stops (name_rows f.end c.names)) in
    let f₂ = with_walks f₁ (f.walk_count + length c.walks) (sets f.walks f.walk_count c.walks) in
    let f₃ = with_timetables f₂ (add_lists f.timetables c.timetables) in
    let f₄ = with_roads f₃ (add_lists f.roads c.roads) in
    let f₅ = with_arcs f₄ (f.arc_count + length c.arcs) (sets f.arcs f.arc_count c.arcs) in
    let t = add_lists_lem c.timetables f.timetables ts in
    let r₄ = map an_arc c.arcs in
    let r₃ = numbered a_point (length c.walks + length c.timetables) c.roads ++ r₄ in
    let r₂ = numbered a_connection (length c.walks) c.timetables ++ r₃ in
    let r₁ = map a_walk c.walks ++ r₂ in (
      f₅,
      stored_append (map a_stop c.names) r₁ f ∙ ap (λ g. stored_all g r₁) (names_stored c.names f)
          ∙ stored_append (map a_walk c.walks) r₂ f₁ ∙ ap (λ g. stored_all g r₂) (walks_stored c.walks f₁)
          ∙ stored_append (numbered a_connection (length c.walks) c.timetables) r₃ f₂
          ∙ ap (λ g. stored_all g r₃) (timetables_stored c.timetables (length c.walks) f₂ (omega (arith, none.walk_count, none.timetables)) ts)
          ∙ stored_append (numbered a_point (length c.walks + length c.timetables) c.roads) r₄ f₃
          ∙ ap (λ g. stored_all g r₄) (roads_stored c.roads (length c.walks + length c.timetables) f₃ (omega (arith, none.walk_count, none.timetables, none.roads, t.count)) rs)
          ∙ arcs_stored c.arcs f₄,
      record {
        stops = omega (arith, none.stops);
        names = ap (λ k. sets f.names k (name_rows f.end c.names)) none.stops;
        walk_count = omega (arith, none.walk_count);
        walks = ap (λ k. sets f.walks k c.walks) none.walk_count;
        timetables = t;
        roads = add_lists_lem c.roads f.roads rs;
        arc_count = omega (arith, none.arc_count);
        arcs = ap (λ k. sets f.arcs k c.arcs) none.arc_count;
      },
    )

pub whole : (c : NetworkContents) (f : Filling) → Empty f → AllSome c.timetables → AllSome c.roads → Whole f c (stored_all f (records_of c))
whole c f none ts rs =
    let (g, e, w) = all_stored c f none ts rs in
    subst (λ g. Whole f c g) (sym e) w

pub length_name_rows : (names : List (List ℕ)) (p : ℕ) → length (name_rows p names) ≡ length names
unfolding name_rows
length_name_rows [] p = refl
length_name_rows (n ∷ ns) p = ap suc (length_name_rows ns (p + length (encode (length n)) + length n))
