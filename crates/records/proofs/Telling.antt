-- The records that a file tells are those that its format says.
use Rattle.std.proofs.Common.{◌≡◌, ℕ, zero, suc, ◌+◌, ◌-◌, ◌≤◌, List, [], ◌∷◌, ◌++◌, map, length, None, Ok, Err, Result, sym, refl, ap, ◌∙◌, append_assoc, append-nil, arith}
use Rattle.model.specs.declared.network.Arc.{Arc}
use Rattle.model.specs.declared.tables.Connection.{Connection}
use Rattle.model.specs.declared.tables.Point.{Point}
use Rattle.wire.specs.declared.fault.Fault.{Fault}
use Rattle.wire.specs.Grammar.{Format, and_then, both, many, counted}
use Rattle.wire.specs.Places.{Step}
use Rattle.wire.proofs.Laws.{then_ok, same_step}
use Rattle.wire.proofs.Steps.{prepend}
use Rattle.formats.specs.NetworkFile.{form, stop_count, stop, stops, run_count, walk, walks, connection_count, connection, departed, timetable, timetables, point_count, point, passed, road, roads, arc_count, arc, left, arcs, Runs, contents_of, network}
use Rattle.records.specs.Stream.{Rec, a_stop, a_walk, a_connection, a_point, an_arc, numbered, records_of, Told, before, told_by, streamed, listed, ended, arc_run, road_run, timetable_run, walk_run, stop_run, told, collected}

-- steps, one after the other

then_same : {A B : Type 0} (s : Step A) (f g : A → ℕ → Step B) → ((a : A) (q : ℕ) → s ≡ Ok (a, q) → f a q ≡ g a q) → and_then s f ≡ and_then s g
then_same (Ok x) f g h = h x.0 x.1 refl
then_same (Err k) f g h = refl

prepend_none : (s : Step (List Rec)) → s ≡ prepend [] s
unfolding prepend
prepend_none (Ok y) = refl
prepend_none (Err f) = refl

prepend_prepend : (xs ys : List Rec) (s : Step (List Rec)) → prepend xs (prepend ys s) ≡ prepend (xs ++ ys) s
unfolding prepend
prepend_prepend xs ys (Ok y) = ap (λ l. Ok (l, y.1)) (sym (append_assoc xs ys y.0))
prepend_prepend xs ys (Err f) = refl

prepend_end : (xs : List Rec) (q : ℕ) → prepend xs (collected (ended [] q)) ≡ Ok (xs, q)
unfolding prepend
prepend_end xs q = ap (λ l. Ok (l, q)) (append-nil xs)

collected_before : (x : Rec) (xs : List Rec) (e : Result ℕ Fault) → collected (x ∷ xs, e) ≡ prepend (x ∷ []) (collected (xs, e))
unfolding prepend
collected_before x xs (Ok q) = refl
collected_before x xs (Err f) = refl

-- n of a kind

module _ {S A : Type 0} (F : S → Format A) (next : S → A → S) (bs : List ℕ) where
  many_length : (n : ℕ) (s : S) (p : ℕ) (xs : List A) (q : ℕ) → many F next s n bs p ≡ Ok (xs, q) → length xs ≡ n
  unfolding many
  many_length zero s p xs q e = ap length (sym (same_step [] xs p q e).0)
  many_length (suc n) s p xs q e =
      let (a, r, e₁, e₂) = then_ok ((F s).read bs p) (λ a q. and_then (many F next (next s a) n bs q) (λ xs r. Ok (a ∷ xs, r))) xs q e in
      let (ys, t, e₃, e₄) = then_ok (many F next (next s a) n bs r) (λ xs r. Ok (a ∷ xs, r)) xs q e₂ in
      ap length (sym (same_step (a ∷ ys) xs t q e₄).0) ∙ ap suc (many_length n (next s a) r ys t e₃)

  module _ (wrap : A → Rec) (after : List ℕ → ℕ → Told) where
    then_after : List A → ℕ → Step (List Rec)
    then_after xs q = prepend (map wrap xs) (collected (after bs q))

    fused : (a : A) (s : Step (List A)) → prepend (wrap a ∷ []) (and_then s then_after) ≡ and_then (and_then s (λ xs r. Ok (a ∷ xs, r))) then_after
    unfolding then_after prepend
    fused a (Ok x) = prepend_prepend (wrap a ∷ []) (map wrap x.0) (collected (after bs x.1))
    fused a (Err f) = refl

    streamed_collected : (n : ℕ) (s : S) (p : ℕ) → collected (streamed F next wrap after s n bs p) ≡ and_then (many F next s n bs p) (λ xs q. prepend (map wrap xs) (collected (after bs q)))
    unfolding streamed many then_after
    streamed_collected zero s p = prepend_none (collected (after bs p))
    streamed_collected (suc n) s p = go ((F s).read bs p) (streamed_collected n)
      where
        go : (t : Step A) → ((s : S) (q : ℕ) → collected (streamed F next wrap after s n bs q) ≡ and_then (many F next s n bs q) then_after) →
            collected (told_by t (λ a q. before (wrap a) (streamed F next wrap after (next s a) n bs q))) ≡ and_then (and_then t (λ a q. and_then (many F next (next s a) n bs q) (λ xs r. Ok (a ∷ xs, r)))) then_after
        go (Ok x) ih = collected_before (wrap x.0) _ _ ∙ ap (prepend (wrap x.0 ∷ [])) (ih (next s x.0) x.1) ∙ fused x.0 (many F next (next s x.0) n bs x.1)
        go (Err f) ih = refl

-- n lists of services

module _ {S A : Type 0} (N : Format ℕ) (F : S → Format A) (next : S → A → S) (s₀ : S) (wrap : ℕ → A → Rec) (after : List ℕ → ℕ → Told) (total : ℕ) (bs : List ℕ) where
  lists : ℕ → ℕ → Step (List (List A))
  lists n p = many {S = Unit {0}} (λ _. counted N F next s₀) (λ _ _. tt) tt n bs p

  onward : ℕ → List (List A) → ℕ → Step (List Rec)
  onward n xs q = prepend (numbered wrap (total - n) xs) (collected (after bs q))

  joined : (n : ℕ) → suc n ≤ total → (ys : List A) (s : Step (List (List A))) →
      prepend (map (wrap (total - suc n)) ys) (and_then s (onward n)) ≡ and_then (and_then s (λ xs r. Ok (ys ∷ xs, r))) (onward (suc n))
  unfolding onward prepend numbered
  joined n h ys (Ok x) =
      let next : total - n ≡ suc (total - suc n) = omega arith in
      prepend_prepend (map (wrap (total - suc n)) ys) (numbered wrap (total - n) x.0) (collected (after bs x.1))
      ∙ ap (λ k. prepend (map (wrap (total - suc n)) ys ++ numbered wrap k x.0) (collected (after bs x.1))) next
  joined n h ys (Err f) = refl

  listed_collected : (n p : ℕ) → n ≤ total → collected (listed N F next s₀ wrap after total n bs p) ≡ and_then (lists n p) (onward n)
  unfolding listed many lists onward numbered
  listed_collected zero p h = prepend_none (collected (after bs p))
  listed_collected (suc n) p h = go (N.read bs p) (λ q. listed_collected n q (omega arith))
    where
      one : ((q : ℕ) → collected (listed N F next s₀ wrap after total n bs q) ≡ and_then (lists n q) (onward n)) → (s : Step (List A)) →
          and_then s (λ ys q. prepend (map (wrap (total - suc n)) ys) (collected (listed N F next s₀ wrap after total n bs q)))
          ≡ and_then (and_then s (λ ys q. and_then (lists n q) (λ xs r. Ok (ys ∷ xs, r)))) (onward (suc n))
      one ih (Ok y) = ap (prepend (map (wrap (total - suc n)) y.0)) (ih y.1) ∙ joined n h y.0 (lists n y.1)
      one ih (Err f) = refl

      go : (s : Step ℕ) → ((q : ℕ) → collected (listed N F next s₀ wrap after total n bs q) ≡ and_then (lists n q) (onward n)) →
          collected (told_by s (λ k q. streamed F next (wrap (total - suc n)) (listed N F next s₀ wrap after total n) s₀ k bs q))
          ≡ and_then (and_then (and_then s (λ k q. many F next s₀ k bs q)) (λ ys q. and_then (lists n q) (λ xs r. Ok (ys ∷ xs, r)))) (onward (suc n))
      go (Ok x) ih = streamed_collected F next bs (wrap (total - suc n)) (listed N F next s₀ wrap after total n) x.0 s₀ x.1 ∙ one ih (many F next s₀ x.0 bs x.1)
      go (Err f) ih = refl

-- a run, and then the rest of the file
run_told : {B C : Type 0} (s : Step (List B)) (tail : List B → ℕ → Told) (bs : List ℕ) (T : List B → Format C) (own : List B → List Rec) (recs : List B → C → List Rec) →
    ((xs : List B) (r : ℕ) → s ≡ Ok (xs, r) → collected (tail xs r) ≡ and_then ((T xs).read bs r) (λ c q. Ok (recs xs c, q))) →
    and_then s (λ xs r. prepend (own xs) (collected (tail xs r))) ≡ and_then (and_then {B = List B × C} s (λ xs r. and_then {B = List B × C} ((T xs).read bs r) (λ c u. Ok ((xs, c), u)))) (λ x q. Ok (own x.0 ++ recs x.0 x.1, q))
unfolding prepend
run_told {B} {C} (Err f) tail bs T own recs h = refl
run_told {B} {C} (Ok y) tail bs T own recs h = ap (prepend (own y.0)) (h y.0 y.1 refl) ∙ go ((T y.0).read bs y.1)
  where
    go : (t : Step C) → prepend (own y.0) (and_then t (λ c q. Ok (recs y.0 c, q))) ≡ and_then (and_then {B = List B × C} t (λ c u. Ok ((y.0, c), u))) (λ x q. Ok (own x.0 ++ recs x.0 x.1, q))
    go (Ok z) = refl
    go (Err f) = refl

-- the runs, from the last to the first

arcs_told : (stops services : ℕ) (bs : List ℕ) (p : ℕ) → collected (arc_run stops services bs p) ≡ and_then ((arcs stops services).read bs p) (λ ys q. Ok (map an_arc ys, q))
arcs_told stops services bs p = go (arc_count.read bs p)
  where
    go : (s : Step ℕ) → collected (told_by s (λ n q. streamed (arc stops services) left an_arc ended 0 n bs q)) ≡ and_then (and_then s (λ n q. many (arc stops services) left 0 n bs q)) (λ ys q. Ok (map an_arc ys, q))
    go (Ok x) = streamed_collected (arc stops services) left bs an_arc ended x.0 0 x.1 ∙ then_same (many (arc stops services) left 0 x.0 bs x.1) _ _ (λ ys q _. prepend_end (map an_arc ys) q)
    go (Err f) = refl

abbrev tail₁ : ℕ → ℕ → Format (List (List Point) × List Arc)
tail₁ stops before = both roads (λ rs. arcs stops (before + length rs))

abbrev recs₁ : ℕ → List (List Point) × List Arc → List Rec
recs₁ before x = numbered a_point before x.0 ++ map an_arc x.1

roads_told : (stops w t : ℕ) (bs : List ℕ) (p : ℕ) → collected (road_run stops w t bs p) ≡ and_then ((tail₁ stops (w + t)).read bs p) (λ x q. Ok (recs₁ (w + t) x, q))
unfolding lists onward
roads_told stops w t bs p = go (run_count.read bs p)
  where
    go : (s : Step ℕ) →
        collected (told_by s (λ n q. listed point_count point passed None a_point (arc_run stops (w + t + n)) (w + t + n) n bs q))
        ≡ and_then (and_then (and_then s (λ n q. many {S = Unit {0}} (λ _. road) (λ _ _. tt) tt n bs q)) (λ rs q. and_then {B = List (List Point) × List Arc} ((arcs stops (w + t + length rs)).read bs q) (λ ys u. Ok ((rs, ys), u)))) (λ x q. Ok (recs₁ (w + t) x, q))
    go (Err f) = refl
    go (Ok x) =
        let s = many {S = Unit {0}} (λ _. road) (λ _ _. tt) tt x.0 bs x.1 in
        let before : w + t + x.0 - x.0 ≡ w + t = omega arith in
        listed_collected point_count point passed None a_point (arc_run stops (w + t + x.0)) (w + t + x.0) bs x.0 x.1 (omega arith)
        ∙ then_same s _ (λ rs q. prepend (numbered a_point (w + t) rs) (collected (arc_run stops (w + t + length rs) bs q)))
        (λ rs q e. ap (λ k. prepend (numbered a_point k rs) (collected (arc_run stops (w + t + x.0) bs q))) before
        ∙ ap (λ m. prepend (numbered a_point (w + t) rs) (collected (arc_run stops (w + t + m) bs q))) (sym (many_length {S = Unit {0}} (λ _. road) (λ _ _. tt) bs x.0 tt x.1 rs q e)))
        ∙ run_told s (λ rs q. arc_run stops (w + t + length rs) bs q) bs (λ rs. arcs stops (w + t + length rs)) (λ rs. numbered a_point (w + t) rs) (λ _ ys. map an_arc ys) (λ rs q _. arcs_told stops (w + t + length rs) bs q)

abbrev tail₂ : ℕ → ℕ → Format (List (List Connection) × (List (List Point) × List Arc))
tail₂ stops w = both timetables (λ ts. tail₁ stops (w + length ts))

abbrev recs₂ : ℕ → List (List Connection) × (List (List Point) × List Arc) → List Rec
recs₂ w x = numbered a_connection w x.0 ++ recs₁ (w + length x.0) x.1

timetables_told : (stops w : ℕ) (bs : List ℕ) (p : ℕ) → collected (timetable_run stops w bs p) ≡ and_then ((tail₂ stops w).read bs p) (λ x q. Ok (recs₂ w x, q))
unfolding lists onward
timetables_told stops w bs p = go (run_count.read bs p)
  where
    go : (s : Step ℕ) →
        collected (told_by s (λ n q. listed connection_count connection departed 0 a_connection (road_run stops w n) (w + n) n bs q))
        ≡ and_then (and_then (and_then s (λ n q. many {S = Unit {0}} (λ _. timetable) (λ _ _. tt) tt n bs q)) (λ ts q. and_then {B = List (List Connection) × (List (List Point) × List Arc)} ((tail₁ stops (w + length ts)).read bs q) (λ y u. Ok ((ts, y), u)))) (λ x q. Ok (recs₂ w x, q))
    go (Err f) = refl
    go (Ok x) =
        let s = many {S = Unit {0}} (λ _. timetable) (λ _ _. tt) tt x.0 bs x.1 in
        let before : w + x.0 - x.0 ≡ w = omega arith in
        listed_collected connection_count connection departed 0 a_connection (road_run stops w x.0) (w + x.0) bs x.0 x.1 (omega arith)
        ∙ then_same s _ (λ ts q. prepend (numbered a_connection w ts) (collected (road_run stops w (length ts) bs q)))
        (λ ts q e. ap (λ k. prepend (numbered a_connection k ts) (collected (road_run stops w x.0 bs q))) before
        ∙ ap (λ m. prepend (numbered a_connection w ts) (collected (road_run stops w m bs q))) (sym (many_length {S = Unit {0}} (λ _. timetable) (λ _ _. tt) bs x.0 tt x.1 ts q e)))
        ∙ run_told s (λ ts q. road_run stops w (length ts) bs q) bs (λ ts. tail₁ stops (w + length ts)) (λ ts. numbered a_connection w ts) (λ ts y. recs₁ (w + length ts) y) (λ ts q _. roads_told stops w (length ts) bs q)

abbrev tail₃ : ℕ → Format (List ℕ × (List (List Connection) × (List (List Point) × List Arc)))
tail₃ stops = both walks (λ ws. tail₂ stops (length ws))

abbrev recs₃ : List ℕ × (List (List Connection) × (List (List Point) × List Arc)) → List Rec
recs₃ x = map a_walk x.0 ++ recs₂ (length x.0) x.1

walks_told : (stops : ℕ) (bs : List ℕ) (p : ℕ) → collected (walk_run stops bs p) ≡ and_then ((tail₃ stops).read bs p) (λ x q. Ok (recs₃ x, q))
walks_told stops bs p = go (run_count.read bs p)
  where
    go : (s : Step ℕ) →
        collected (told_by s (λ n q. streamed {S = Unit {0}} (λ _. walk) (λ _ _. tt) a_walk (timetable_run stops n) tt n bs q))
        ≡ and_then (and_then (and_then s (λ n q. many {S = Unit {0}} (λ _. walk) (λ _ _. tt) tt n bs q)) (λ ws q. and_then {B = List ℕ × (List (List Connection) × (List (List Point) × List Arc))} ((tail₂ stops (length ws)).read bs q) (λ y u. Ok ((ws, y), u)))) (λ x q. Ok (recs₃ x, q))
    go (Err f) = refl
    go (Ok x) =
        let s = many {S = Unit {0}} (λ _. walk) (λ _ _. tt) tt x.0 bs x.1 in
        streamed_collected {S = Unit {0}} (λ _. walk) (λ _ _. tt) bs a_walk (timetable_run stops x.0) x.0 tt x.1
        ∙ then_same s _ (λ ws q. prepend (map a_walk ws) (collected (timetable_run stops (length ws) bs q)))
        (λ ws q e. ap (λ m. prepend (map a_walk ws) (collected (timetable_run stops m bs q))) (sym (many_length {S = Unit {0}} (λ _. walk) (λ _ _. tt) bs x.0 tt x.1 ws q e)))
        ∙ run_told s (λ ws q. timetable_run stops (length ws) bs q) bs (λ ws. tail₂ stops (length ws)) (λ ws. map a_walk ws) (λ ws y. recs₂ (length ws) y) (λ ws q _. timetables_told stops (length ws) bs q)

abbrev tail₄ : Format (List (List ℕ) × (List ℕ × (List (List Connection) × (List (List Point) × List Arc))))
tail₄ = both stops (λ names. tail₃ (length names))

abbrev recs₄ : List (List ℕ) × (List ℕ × (List (List Connection) × (List (List Point) × List Arc))) → List Rec
recs₄ x = map a_stop x.0 ++ recs₃ x.1

stops_told : (bs : List ℕ) (p : ℕ) → collected (stop_run bs p) ≡ and_then (tail₄.read bs p) (λ x q. Ok (recs₄ x, q))
stops_told bs p = go (stop_count.read bs p)
  where
    go : (s : Step ℕ) →
        collected (told_by s (λ n q. streamed {S = Unit {0}} (λ _. stop) (λ _ _. tt) a_stop (walk_run n) tt n bs q))
        ≡ and_then (and_then (and_then s (λ n q. many {S = Unit {0}} (λ _. stop) (λ _ _. tt) tt n bs q)) (λ names q. and_then {B = List (List ℕ) × (List ℕ × (List (List Connection) × (List (List Point) × List Arc)))} ((tail₃ (length names)).read bs q) (λ y u. Ok ((names, y), u)))) (λ x q. Ok (recs₄ x, q))
    go (Err f) = refl
    go (Ok x) =
        let s = many {S = Unit {0}} (λ _. stop) (λ _ _. tt) tt x.0 bs x.1 in
        streamed_collected {S = Unit {0}} (λ _. stop) (λ _ _. tt) bs a_stop (walk_run x.0) x.0 tt x.1
        ∙ then_same s _ (λ names q. prepend (map a_stop names) (collected (walk_run (length names) bs q)))
        (λ names q e. ap (λ m. prepend (map a_stop names) (collected (walk_run m bs q))) (sym (many_length {S = Unit {0}} (λ _. stop) (λ _ _. tt) bs x.0 tt x.1 names q e)))
        ∙ run_told s (λ names q. walk_run (length names) bs q) bs (λ names. tail₃ (length names)) (λ names. map a_stop names) (λ _ y. recs₃ y) (λ names q _. walks_told (length names) bs q)

-- the whole file

pub told_is_read : (bs : List ℕ) → collected (told bs) ≡ and_then (network.read bs 0) (λ c q. Ok (records_of c, q))
unfolding records_of
told_is_read bs = go (form.read bs 0)
  where
    last : (s : Step (List (List ℕ) × (List ℕ × (List (List Connection) × (List (List Point) × List Arc))))) →
        and_then s (λ x q. Ok (recs₄ x, q)) ≡ and_then (and_then (and_then {B = Runs} s (λ b r. Ok ((tt, b), r))) (λ x q. Ok (contents_of x, q))) (λ c q. Ok (records_of c, q))
    last (Ok x) = refl
    last (Err f) = refl

    go : (s : Step (Unit {0})) →
        collected (told_by s (λ _ q. stop_run bs q)) ≡ and_then (and_then (and_then {B = Runs} s (λ a q. and_then {B = Runs} (tail₄.read bs q) (λ b r. Ok ((a, b), r)))) (λ x q. Ok (contents_of x, q))) (λ c q. Ok (records_of c, q))
    go (Err f) = refl
    go (Ok x) = stops_told bs x.1 ∙ last (tail₄.read bs x.1)
