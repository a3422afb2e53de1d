-- One step of a merge, and what the whole of it lists.
use Rattle.std.proofs.Common.{◌≡◌, ℕ, zero, suc, ◌+◌, ◌-◌, ◌<◌, ◌≤◌, true, false, cond, ◌⊎◌, List, [], ◌∷◌, ◌++◌, map, length, get_or, drop, set, sum_by, sym, refl, ap, ◌∙◌, subst, inl, inr, ⊎_elim, arith, length-append}
use Rattle.std.specs.List.{ContainsAt as Has, AllByRecursion}
use Rattle.std.specs.List.Sorted.{IsPermutation}
use Rattle.std.proofs.ByRecursion.{All-push, All-weaker, has_append_left, has_push, all_shuffled, has_shuffled}
use Rattle.std.proofs.lemmas.List.Sorted.{sum_by-IsPermutation}
use Rattle.std.proofs.lemmas.List.Sums.{sum_by-cons}
use Rattle.std.proofs.lemmas.Bool.{eq-eqb, ne_eqb, cases_lt, cases_eq}
use Rattle.meanings.specs.Timetables.{no_connection, Rising}
use Rattle.poster.specs.declared.departure.Departure.{Departure}
use Rattle.poster.specs.declared.departure.PosterRow.{PosterRow}
use Rattle.poster.specs.Before.{departure_before}
use Rattle.poster.specs.Boards.{Listing}
use Rattle.poster.specs.Merging.{departure_at, line, left, on, DueOn, Begun, Listed, AllListed}
use Rattle.queue.proofs.Facts.{has_cases, has_front, has_behind}
use Rattle.poster.specs.Orders.{order, lex_next, lex_other, all_both, ascending_push, LeastFirst, least_first}

-- ---- how many of a list are on an arc

pub none_on : (a : ℕ) (ys : List Departure) → sum_by (on a) ys ≡ 0 → AllByRecursion (λ y. y.arc ≡ a → ⊥) ys
none_on a [] e = tt
none_on a (y ∷ ys) e =
    let c : sum_by (on a) (y ∷ ys) ≡ on a y + sum_by (on a) ys = sum_by-cons (on a) y ys in
    (λ h. let one : on a y ≡ 1 = ap (λ b. cond b 1 0) (eq-eqb y.arc a h) in absurd (omega arith), none_on a ys (omega arith))

pub on_none : (a : ℕ) (ys : List Departure) → AllByRecursion (λ y. y.arc ≡ a → ⊥) ys → sum_by (on a) ys ≡ 0
on_none a [] h = refl
on_none a (y ∷ ys) h =
    let none : on a y ≡ 0 = ap (λ b. cond b 1 0) (ne_eqb y.arc a h.0) in
    let rest : sum_by (on a) ys ≡ 0 = on_none a ys h.1 in
    let c : sum_by (on a) (y ∷ ys) ≡ on a y + sum_by (on a) ys = sum_by-cons (on a) y ys in
    omega arith

-- ---- the departures of one arc

module _ (l : Listing) (Arcs : ℕ → Type 0) where
  -- arc and place determine a departure that is due
  pub same_place : (x d : Departure) → DueOn l Arcs x → DueOn l Arcs d → x.arc ≡ d.arc → x.place ≡ d.place → x ≡ d
  same_place x d p q a r =
      let e : x.departure ≡ d.departure = p.departs ∙ (λ i. (get_or (line l (a i)) (r i) no_connection).departure) ∙ sym q.departs in
      λ i. record { departure = e i; arc = a i; place = r i }

  module _ (up : (a : ℕ) → Rising (line l a)) (x : Departure) (due : DueOn l Arcs x) (more : x.place + 1 < length (line l x.arc)) where
    rises : x.departure ≤ (get_or (line l x.arc) (x.place + 1) no_connection).departure
    rises = omega (arith, up x.arc x.place more, due.departs)

    pub next_due : DueOn l Arcs (departure_at (line l x.arc) x.arc (x.place + 1))
    next_due = record { among = due.among; inside = more; departs = refl; in_time = omega (arith, rises, due.in_time) }

    pub next_after : departure_before x (departure_at (line l x.arc) x.arc (x.place + 1)) ≡ true
    next_after = lex_next x.departure x.arc x.place _ rises

-- ---- the state of a merge

module _ (l : Listing) (Arcs : ℕ → Type 0) (count : ℕ) where
  pub begun_listed : (q : List Departure) → Begun l Arcs q count → Listed l Arcs [] q count
  begun_listed q b = record {
    listed = tt;
    ascending = tt;
    behind = tt;
    due = b.due;
    one_each = b.one_each;
    ahead = λ d h. inr (b.ahead d h);
    counted = let e : count ≡ sum_by (left l) q = b.counted in omega arith;
  }

  -- the order in which the queue holds its elements does not matter
  pub listed_shuffled : (done q r : List Departure) → IsPermutation q r → Listed l Arcs done q count → Listed l Arcs done r count
  listed_shuffled done q r s h = record {
    listed = h.listed;
    ascending = h.ascending;
    behind = All-weaker (λ z. AllByRecursion (λ y. departure_before z y ≡ true) q) (λ z. AllByRecursion (λ y. departure_before z y ≡ true) r) (λ z. all_shuffled (λ y. departure_before z y ≡ true) q r s) done h.behind;
    due = all_shuffled (DueOn l Arcs) q r s h.due;
    one_each = λ a. let e : sum_by (on a) r ≡ sum_by (on a) q = sum_by-IsPermutation (on a) q r s in let o : sum_by (on a) q ≤ 1 = h.one_each a in omega arith;
    ahead = λ d p. elim (h.ahead d p) [
      | inl g ↦ inl g
      | inr g ↦ inr (g.0, has_shuffled q r g.0 s g.1, g.2, g.3)
    ];
    counted = let e : sum_by (left l) r ≡ sum_by (left l) q = sum_by-IsPermutation (left l) q r s in let o : length done + sum_by (left l) q ≡ count = h.counted in omega arith;
  }

  pub listed_end : (done : List Departure) → Listed l Arcs done [] count → AllListed l Arcs done count
  listed_end done h = record {
    listed = h.listed;
    ascending = h.ascending;
    all = λ d p. elim (h.ahead d p) [
      | inl g ↦ g
      | inr g ↦ let lt : g.1.0 < 0 = g.1.1 in absurd (omega arith)
    ];
    counted = let o : length done + sum_by (left l) [] ≡ count = h.counted in omega arith;
  }

  module _ (up : (a : ℕ) → Rising (line l a)) (done rest : List Departure) (x : Departure) (s : Listed l Arcs done (x ∷ rest) count) (least : AllByRecursion (λ y. departure_before y x ≡ false) rest) where
    x_due : DueOn l Arcs x
    x_due = s.due.0

    -- the others are on other arcs
    others : AllByRecursion (λ y. y.arc ≡ x.arc → ⊥) rest
    others =
        let c : sum_by (on x.arc) (x ∷ rest) ≡ on x.arc x + sum_by (on x.arc) rest = sum_by-cons (on x.arc) x rest in
        let one : on x.arc x ≡ 1 = ap (λ b. cond b 1 0) (eq-eqb x.arc x.arc refl) in
        let most : sum_by (on x.arc) (x ∷ rest) ≤ 1 = s.one_each x.arc in
        none_on x.arc rest (omega arith)

    after : AllByRecursion (λ y. departure_before x y ≡ true) rest
    after = all_both (λ y. departure_before y x ≡ false) (λ y. y.arc ≡ x.arc → ⊥) (λ y. departure_before x y ≡ true)
        (λ y h o. lex_other x.departure x.arc x.place y.departure y.arc y.place h o) rest least others

    done_before : AllByRecursion (λ z. departure_before z x ≡ true) done
    done_before = All-weaker (λ z. AllByRecursion (λ y. departure_before z y ≡ true) (x ∷ rest)) (λ z. departure_before z x ≡ true) (λ z h. h.0) done s.behind

    behind_rest : AllByRecursion (λ z. AllByRecursion (λ y. departure_before z y ≡ true) rest) done
    behind_rest = All-weaker (λ z. AllByRecursion (λ y. departure_before z y ≡ true) (x ∷ rest)) (λ z. AllByRecursion (λ y. departure_before z y ≡ true) rest) (λ z h. h.1) done s.behind

    longer : length (done ++ x ∷ []) ≡ length done + 1
    longer = length-append done (x ∷ [])

    left_x : sum_by (left l) (x ∷ rest) ≡ left l x + sum_by (left l) rest
    left_x = sum_by-cons (left l) x rest

    -- a departure that x is ahead of is x, or at a later place
    met : (d : Departure) → DueOn l Arcs d → x.arc ≡ d.arc → x.place ≤ d.place → Has (done ++ x ∷ []) d ⊎ (x.place + 1 ≤ d.place)
    met d p a le = ⊎_elim
        (λ e. inl (subst (λ (z : Departure). Has (done ++ x ∷ []) z) (same_place l Arcs x d x_due p a e) (has_push done x)))
        (λ ne. inr (omega arith))
        (cases_eq x.place d.place)

    pub listed_last : length (line l x.arc) ≤ x.place + 1 → Listed l Arcs (done ++ x ∷ []) rest count
    listed_last over = record {
      listed = All-push (DueOn l Arcs) done x s.listed x_due;
      ascending = ascending_push done x s.ascending done_before;
      behind = All-push (λ z. AllByRecursion (λ y. departure_before z y ≡ true) rest) done x behind_rest after;
      due = s.due.1;
      one_each = λ a. let c : sum_by (on a) (x ∷ rest) ≡ on a x + sum_by (on a) rest = sum_by-cons (on a) x rest in let o : sum_by (on a) (x ∷ rest) ≤ 1 = s.one_each a in omega arith;
      ahead = λ d p. elim (s.ahead d p) [
        | inl g ↦ inl (has_append_left done (x ∷ []) d g)
        | inr g ↦ elim (has_cases x rest g.0 g.1) [
          | inl e ↦ elim (met d p (ap (λ (z : Departure). z.arc) e ∙ g.2) (subst (λ (z : Departure). z.place ≤ d.place) (sym e) g.3)) [
            | inl h ↦ inl h
            | inr later ↦
                let a : x.arc ≡ d.arc = ap (λ (z : Departure). z.arc) e ∙ g.2 in
                let i : d.place < length (line l x.arc) = subst (λ (z : ℕ). d.place < length (line l z)) (sym a) p.inside in
                absurd (omega arith)
          ]
          | inr h ↦ inr (g.0, h, g.2, g.3)
        ]
      ];
      counted =
          let o : length done + sum_by (left l) (x ∷ rest) ≡ count = s.counted in
          let i : x.place < length (line l x.arc) = x_due.inside in
          omega (arith, longer, left_x);
    }

    pub listed_next : x.place + 1 < length (line l x.arc) → Listed l Arcs (done ++ x ∷ []) (departure_at (line l x.arc) x.arc (x.place + 1) ∷ rest) count
    listed_next more =
        let e : Departure = departure_at (line l x.arc) x.arc (x.place + 1) in
        let follows : departure_before x e ≡ true = next_after l Arcs up x x_due more in
        record {
          listed = All-push (DueOn l Arcs) done x s.listed x_due;
          ascending = ascending_push done x s.ascending done_before;
          behind = All-push (λ z. AllByRecursion (λ y. departure_before z y ≡ true) (e ∷ rest)) done x
              (all_both (λ z. departure_before z x ≡ true) (λ z. AllByRecursion (λ y. departure_before z y ≡ true) rest) (λ z. AllByRecursion (λ y. departure_before z y ≡ true) (e ∷ rest))
              (λ z h k. (order.transitive z x e h follows, k)) done done_before behind_rest)
              (follows, after);
          due = (next_due l Arcs up x x_due more, s.due.1);
          one_each = λ a.
              let c : sum_by (on a) (x ∷ rest) ≡ on a x + sum_by (on a) rest = sum_by-cons (on a) x rest in
              let f : sum_by (on a) (e ∷ rest) ≡ on a x + sum_by (on a) rest = sum_by-cons (on a) e rest in
              let o : sum_by (on a) (x ∷ rest) ≤ 1 = s.one_each a in
              omega arith;
          ahead = λ d p. elim (s.ahead d p) [
            | inl g ↦ inl (has_append_left done (x ∷ []) d g)
            | inr g ↦ elim (has_cases x rest g.0 g.1) [
              | inl h ↦ elim (met d p (ap (λ (z : Departure). z.arc) h ∙ g.2) (subst (λ (z : Departure). z.place ≤ d.place) (sym h) g.3)) [
                | inl k ↦ inl k
                | inr later ↦ inr (e, has_front e rest, ap (λ (z : Departure). z.arc) h ∙ g.2, later)
              ]
              | inr h ↦ inr (g.0, has_behind e rest g.0 h, g.2, g.3)
            ]
          ];
          counted =
              let o : length done + sum_by (left l) (x ∷ rest) ≡ count = s.counted in
              let f : sum_by (left l) (e ∷ rest) ≡ (length (line l x.arc) - (x.place + 1)) + sum_by (left l) rest = sum_by-cons (left l) e rest in
              omega (arith, longer, left_x);
        }

  -- ---- the whole merge

  pub record Whole : Type 0 where
    pub board : List Departure
    pub all_listed : AllListed l Arcs board count

  merged_by : (up : (a : ℕ) → Rising (line l a)) (n : ℕ) (done q : List Departure) → sum_by (left l) q ≤ n → Listed l Arcs done q count → Whole
  merged_by up zero done [] le s = record { board = done; all_listed = listed_end done s }
  merged_by up zero done (x ∷ xs) le s =
      let i : x.place < length (line l x.arc) = s.due.0.inside in
      let c : sum_by (left l) (x ∷ xs) ≡ (length (line l x.arc) - x.place) + sum_by (left l) xs = sum_by-cons (left l) x xs in
      absurd (omega arith)
  merged_by up (suc n) done [] le s = record { board = done; all_listed = listed_end done s }
  merged_by up (suc n) done (x ∷ xs) le s =
      let f : LeastFirst (x ∷ xs) = least_first x xs in
      let t : Listed l Arcs done (f.first ∷ f.rest) count = listed_shuffled done (x ∷ xs) (f.first ∷ f.rest) f.shuffled s in
      let o : length done + sum_by (left l) (x ∷ xs) ≡ count = s.counted in
      let longer : length (done ++ f.first ∷ []) ≡ length done + 1 = length-append done (f.first ∷ []) in
      ⊎_elim
      (λ more.
      let u = listed_next up done f.rest f.first t f.least more in
      let k : length (done ++ f.first ∷ []) + sum_by (left l) (departure_at (line l f.first.arc) f.first.arc (f.first.place + 1) ∷ f.rest) ≡ count = u.counted in
      merged_by up n (done ++ f.first ∷ []) (departure_at (line l f.first.arc) f.first.arc (f.first.place + 1) ∷ f.rest) (omega arith) u)
      (λ over.
      let u = listed_last up done f.rest f.first t f.least over in
      let k : length (done ++ f.first ∷ []) + sum_by (left l) f.rest ≡ count = u.counted in
      merged_by up n (done ++ f.first ∷ []) f.rest (omega arith) u)
      (cases_lt (f.first.place + 1) (length (line l f.first.arc)))

  -- what a queue at its start leads to
  pub merge_of : (up : (a : ℕ) → Rising (line l a)) (q : List Departure) → Begun l Arcs q count → Whole
  merge_of up q b = merged_by up (sum_by (left l) q) [] q (omega arith) (begun_listed q b)

-- ---- rows

-- one row more
pub row_written : (f : Departure → PosterRow) (done : List Departure) (rows : List PosterRow) (x : Departure) → length done < length rows
    → set (map f done ++ drop (length done) rows) (length done) (f x) ≡ map f (done ++ x ∷ []) ++ drop (length (done ++ x ∷ [])) rows
row_written f [] [] x lt = absurd (omega arith)
row_written f [] (r ∷ rs) x lt = refl
row_written f (z ∷ zs) [] x lt = absurd (omega arith)
row_written f (z ∷ zs) (r ∷ rs) x lt = ap (λ (k : List PosterRow). f z ∷ k) (row_written f zs rs x (omega arith))
