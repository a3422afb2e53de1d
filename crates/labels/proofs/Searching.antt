-- A turn of the search over rows: it is a turn of the search, settles one row more, and relaxes each arc at its tail once more.
use Rattle.std.proofs.Common.{◌≡◌, ℕ, ◌+◌, ◌-◌, ◌*◌, ◌/◌, ◌%◌, ◌^◌, ◌<◌, ◌≤◌, Bool, true, false, List, length, get_or, set, Some, None, Option, sym, refl, ap, ◌∙◌, subst, inl, inr, arith}
use Rattle.std.proofs.lemmas.Option.{none-some}
use mathlib.Core.Path.{fun_ext}
use Rattle.std.specs.List.{slice_get}
use Rattle.std.proofs.lemmas.Option.{slice_get-get_or}
use Rattle.std.proofs.lemmas.List.{get_or_past, get_or-set_same, get_or-set_other}
use Rattle.std.proofs.lemmas.Nat.{div-add-mod', mod_below}
use Rattle.std.proofs.lemmas.Bool.{cases_lt, cases_eq, both_ways}
use Rattle.model.specs.declared.network.Arc.{Arc}
use Rattle.model.specs.declared.network.Place.{Place}
use Rattle.model.specs.Trips.{World, LawfulWorld, Ends, Upto3}
use Rattle.model.proofs.Options.{one_some}
use Rattle.labels.specs.declared.label.Label.{Label}
use Rattle.labels.specs.Table.{Table, put, settle, turn, Least, begun, Search, next, Finished, Unmet, Tied}
use Rattle.labels.specs.Rows.{Rows, row_of, view, Waits, Foremost, place_of, is_settled, count_below, settled_count, settled_at, relaxed_count, LegsBound}
use Rattle.labels.proofs.Tables.{put_cases}
use Rattle.labels.proofs.Held.{Rests, search_rests, turn_stays, turn_here, turn_legs, turn_was}
use Rattle.labels.proofs.View.{view_below, view_past, view_put}
use Rattle.labels.proofs.Counting.{count_le, count_lt, count_max, sum_more, sum_most}

pub row_below : (rows : Rows) (i : ℕ) (l : Label) → get_or rows i None ≡ Some l → i < length rows
row_below rows i l e =
    elim (cases_lt i (length rows)) [ inl h ↦ h | inr h ↦ absurd (none-some l (sym (get_or_past rows i None h) ∙ e)) ]

pub view_some : (k : ℕ) (rows : Rows) (q : Place) (l : Label) → view k rows q ≡ Some l → (q.state < k) × (get_or rows (row_of k q) None ≡ Some l)
view_some k rows q l e =
    elim (cases_lt q.state k) [
      | inl h ↦ (h, sym (view_below k rows q h) ∙ e)
      | inr h ↦ absurd (none-some l (sym (view_past k rows q h) ∙ e))
    ]

pub view_row : (k : ℕ) (rows : Rows) (r : ℕ) → 0 < k → view k rows (place_of k r) ≡ get_or rows r None
view_row k rows r pos = view_below k rows (place_of k r) (mod_below r k pos) ∙ ap (λ (i : ℕ). get_or rows i None) (div-add-mod' r k)

pub finished_of : (k : ℕ) (rows : Rows) → ((i : ℕ) (m : Label) → Waits rows i m → ⊥) → Finished (view k rows)
finished_of k rows f p l e = go l.settled refl
  where
    go : (b : Bool) → l.settled ≡ b → b ≡ true
    go true h = refl
    go false h = let y = view_some k rows p l e in absurd (f (row_of k p) l (y.1, h))

-- settled rows, by arc
settled_at_le : (k : ℕ) (rows rows' : Rows) (x : Option Arc) → ((i : ℕ) → is_settled (get_or rows i None) ≡ true → is_settled (get_or rows' i None) ≡ true)
    → settled_at k rows x ≤ settled_at k rows' x
settled_at_le k rows rows' None h = omega arith
settled_at_le k rows rows' (Some x) h =
    count_le k (λ s. is_settled (get_or rows (x.tail * k + s) None)) (λ s. is_settled (get_or rows' (x.tail * k + s) None)) (λ s _. h (x.tail * k + s))

settled_at_most : (k : ℕ) (rows : Rows) (x : Option Arc) → settled_at k rows x ≤ k
settled_at_most k rows None = omega arith
settled_at_most k rows (Some x) = count_max k (λ s. is_settled (get_or rows (x.tail * k + s) None))

-- no more labels are queued than arcs and states make pairs
pub relaxed_most : (arcs : List Arc) (k : ℕ) (rows : Rows) → relaxed_count arcs k rows ≤ length arcs * k
relaxed_most arcs k rows = sum_most (length arcs) (λ i. settled_at k rows (slice_get arcs i)) k (λ i _. settled_at_most k rows (slice_get arcs i))

settled_set : (rows : Rows) (r : ℕ) (l : Label) → r < length rows → (i : ℕ) → is_settled (get_or rows i None) ≡ true → is_settled (get_or (set rows r (Some (settle l))) i None) ≡ true
settled_set rows r l h i e =
    elim (cases_eq i r) [
      | inl g ↦ subst (λ (z : ℕ). is_settled (get_or (set rows r (Some (settle l))) z None) ≡ true) (sym g) (ap is_settled (get_or-set_same rows r (Some (settle l)) None h))
      | inr g ↦ ap is_settled (get_or-set_other rows r i (Some (settle l)) None g) ∙ e
    ]

settled_at_lt : (k : ℕ) (rows : Rows) (r : ℕ) (l : Label) (x : Option Arc) (y : Arc) → 0 < k → r < length rows → is_settled (get_or rows r None) ≡ false
    → x ≡ Some y → y.tail ≡ r / k → settled_at k rows x < settled_at k (set rows r (Some (settle l))) x
settled_at_lt k rows r l None y pos h u e tail = absurd (none-some y e)
settled_at_lt k rows r l (Some x) y pos h u e tail =
    let xy : x ≡ y = one_some (Some x) x y refl e in
    let row : x.tail * k + r % k ≡ r = ap (λ (z : Arc). z.tail * k + r % k) xy ∙ ap (λ (v : ℕ). v * k + r % k) tail ∙ div-add-mod' r k in
    count_lt k (λ s. is_settled (get_or rows (x.tail * k + s) None)) (λ s. is_settled (get_or (set rows r (Some (settle l))) (x.tail * k + s) None)) (r % k)
    (λ s _. settled_set rows r l h (x.tail * k + s)) (mod_below r k pos)
    (ap (λ (i : ℕ). is_settled (get_or rows i None)) row ∙ u)
    (ap (λ (i : ℕ). is_settled (get_or (set rows r (Some (settle l))) i None)) row ∙ ap is_settled (get_or-set_same rows r (Some (settle l)) None h))

-- settling r makes room for the labels that the arcs leaving its stop may offer
pub relaxed_more : (arcs : List Arc) (k : ℕ) (rows : Rows) (r : ℕ) (l : Label) (low high : ℕ) → 0 < k → r < length rows → is_settled (get_or rows r None) ≡ false
    → high ≤ length arcs → ((i : ℕ) (d : Arc) → low ≤ i → i < high → (get_or arcs i d).tail ≡ r / k)
    → relaxed_count arcs k rows + (high - low) ≤ relaxed_count arcs k (set rows r (Some (settle l)))
relaxed_more arcs k rows r l low high pos h u within leave =
    sum_more (length arcs) (λ i. settled_at k rows (slice_get arcs i)) (λ i. settled_at k (set rows r (Some (settle l))) (slice_get arcs i)) low high
    (λ i _. settled_at_le k rows (set rows r (Some (settle l))) (slice_get arcs i) (settled_set rows r l h))
    (λ i n a b. settled_at_lt k rows r l (slice_get arcs i) (get_or arcs i d) pos h u (slice_get-get_or arcs i d n) (leave i d a b))
    within
  where
    d : Arc
    d = record { tail = 0; head = 0; label = 0; service = 0 }

settled_some : (x : Option Label) → is_settled x ≡ true → (l : Label) × (x ≡ Some l) × (l.settled ≡ true)
settled_some None h = absurd (both_ways false refl h)
settled_some (Some l) h = (l, refl, h)

-- one turn
module _ (w : World) (law : LawfulWorld w) (o : Place) (t k : ℕ) (pos : 0 < k) (rows rows' : Rows) (size : length rows' ≡ length rows) (r : ℕ) (l : Label)
    (f : Foremost rows r l) (s : Search w o t (view k rows)) (e : view k rows' ≡ turn w (place_of k r) l (view k rows)) where
  least_of : Least (view k rows) (place_of k r) l
  least_of = record {
    here = view_row k rows r pos ∙ f.waits.0;
    unsettled = f.waits.1;
    least = λ q m h u.
        let y = view_some k rows q m h in
        let z : Upto3 l.second l.legs r m.second m.legs (row_of k q) = f.least (row_of k q) m (y.1, u) in
        (z.0, z.1);
  }

  pub next_search : Search w o t (view k rows')
  next_search = subst (λ (T : Table). Search w o t T) (sym e) (next (place_of k r) l s least_of)

  rest : Rests w o t (view k rows)
  rest = search_rests w law o t s

  row_after : (i : ℕ) (m : Label) → turn w (place_of k r) l (view k rows) (place_of k i) ≡ Some m → get_or rows' i None ≡ Some m
  row_after i m h = sym (view_row k rows' i pos) ∙ ap (λ (T : Table). T (place_of k i)) e ∙ h

  stays_settled : (i : ℕ) → is_settled (get_or rows i None) ≡ true → is_settled (get_or rows' i None) ≡ true
  stays_settled i h =
      let y = settled_some (get_or rows i None) h in
      ap is_settled (row_after i y.0 (turn_stays w law o t (place_of k r) l (view k rows) rest least_of (place_of k i) y.0 (view_row k rows i pos ∙ y.1) y.2)) ∙ y.2

  pub one_more_settled : settled_count rows < settled_count rows'
  one_more_settled =
      subst (λ (n : ℕ). settled_count rows < count_below n (λ (i : ℕ). is_settled (get_or rows' i None))) (sym size)
      (count_lt (length rows) (λ i. is_settled (get_or rows i None)) (λ i. is_settled (get_or rows' i None)) r (λ i _ h. stays_settled i h) (row_below rows r l f.waits.0)
      (ap is_settled f.waits.0 ∙ f.waits.1)
      (ap is_settled (row_after r (settle l) (turn_here w law o t (place_of k r) l (view k rows) rest least_of))))

  pub next_legs : LegsBound k rows → LegsBound k rows'
  next_legs legs q m h =
      let b : settled_count rows < settled_count rows' = one_more_settled in
      let a : l.legs ≤ settled_count rows = legs (place_of k r) l (view_row k rows r pos ∙ f.waits.0) in
      turn_legs w (place_of k r) l (settled_count rows') (view k rows) (omega arith)
      (λ p n g. let c : n.legs ≤ settled_count rows = legs p n g in omega arith)
      q m (sym (ap (λ (T : Table). T q) e) ∙ h)

  -- what is settled once r is, is settled after the turn
  pub settled_after : (i : ℕ) → is_settled (get_or (set rows r (Some (settle l))) i None) ≡ true → is_settled (get_or rows' i None) ≡ true
  settled_after i h =
      elim (cases_eq i r) [
        | inl g ↦
            subst (λ (z : ℕ). is_settled (get_or rows' z None) ≡ true) (sym g)
            (ap is_settled (row_after r (settle l) (turn_here w law o t (place_of k r) l (view k rows) rest least_of)))
        | inr g ↦ stays_settled i (ap is_settled (sym (get_or-set_other rows r i (Some (settle l)) None g)) ∙ h)
      ]

  pub relaxed_after : (arcs : List Arc) → relaxed_count arcs k (set rows r (Some (settle l))) ≤ relaxed_count arcs k rows'
  relaxed_after arcs =
      let m : relaxed_count arcs k (set rows r (Some (settle l))) + (0 - 0) ≤ relaxed_count arcs k rows'
      = sum_more (length arcs) (λ i. settled_at k (set rows r (Some (settle l))) (slice_get arcs i)) (λ i. settled_at k rows' (slice_get arcs i)) 0 0
      (λ i _. settled_at_le k (set rows r (Some (settle l))) rows' (slice_get arcs i) settled_after) (λ i _ _ h. absurd (omega arith)) (omega arith) in
      omega arith

  -- no end place of the target is settled yet, if r's is none
  pub unmet_still : (target : ℕ) → Unmet w target (view k rows) → (Ends w target (place_of k r) → ⊥) → Unmet w target (view k rows')
  unmet_still target unmet other q m h d ends =
      elim (turn_was w (place_of k r) l (view k rows) q m (sym (ap (λ (T : Table). T q) e) ∙ h) d) [
        | inl g ↦ other (subst (λ (z : Place). Ends w target z) g ends)
        | inr g ↦ unmet q m g d ends
      ]

-- r is at the target in an end state: the search ends there
pub least_row : (k : ℕ) (rows : Rows) (r : ℕ) (l : Label) → 0 < k → Foremost rows r l → Least (view k rows) (place_of k r) l
least_row k rows r l pos f = record {
  here = view_row k rows r pos ∙ f.waits.0;
  unsettled = f.waits.1;
  least = λ q m h u.
      let y = view_some k rows q m h in
      let z : Upto3 l.second l.legs r m.second m.legs (row_of k q) = f.least (row_of k q) m (y.1, u) in
      (z.0, z.1);
}

pub tied_row : (k : ℕ) (rows : Rows) (r : ℕ) (l : Label) → 0 < k → Foremost rows r l → Tied (view k rows) (place_of k r) l
tied_row k rows r l pos f q m h u stop second legs =
    let y = view_some k rows q m h in
    let z : Upto3 l.second l.legs r m.second m.legs (row_of k q) = f.least (row_of k q) m (y.1, u) in
    let a : r ≤ q.stop * k + q.state = z.2 second legs in
    let b : r / k * k + r % k ≡ r = div-add-mod' r k in
    let c : r / k * k ≡ q.stop * k = ap (λ (v : ℕ). v * k) stop in
    omega arith

-- the first table
pub view_none : (k : ℕ) (rows : Rows) → ((i : ℕ) → get_or rows i None ≡ None) → view k rows ≡ (λ _. None)
view_none k rows h =
    fun_ext (λ p. elim (cases_lt p.state k) [
      | inl g ↦ view_below k rows p g ∙ h (row_of k p)
      | inr g ↦ view_past k rows p g
    ])

pub view_begun : (k : ℕ) (rows : Rows) (o : Place) (t : ℕ) → o.state < k → row_of k o < length rows → ((i : ℕ) → i < length rows → get_or rows i None ≡ None)
    → view k (set rows (row_of k o) (Some (record { second = t; legs = 0; arc = 0; state = 0; settled = false }))) ≡ begun o t
view_begun k rows o t low within h =
    view_put k rows o (record { second = t; legs = 0; arc = 0; state = 0; settled = false }) low within
    ∙ ap (λ (T : Table). put T o (record { second = t; legs = 0; arc = 0; state = 0; settled = false }))
    (view_none k rows (λ i. elim (cases_lt i (length rows)) [ inl g ↦ h i g | inr g ↦ get_or_past rows i None g ]))

-- a row settled, and the arcs relaxed
pub view_settled : (k : ℕ) (rows : Rows) (r : ℕ) (l : Label) → 0 < k → r < length rows → view k (set rows r (Some (settle l))) ≡ put (view k rows) (place_of k r) (settle l)
view_settled k rows r l pos h =
    ap (λ (i : ℕ). view k (set rows i (Some (settle l)))) (sym (div-add-mod' r k))
    ∙ view_put k rows (place_of k r) (settle l) (mod_below r k pos) (subst (λ (i : ℕ). i < length rows) (sym (div-add-mod' r k)) h)

pub begun_legs : (k : ℕ) (rows : Rows) (o : Place) (t : ℕ) → view k rows ≡ begun o t → LegsBound k rows
begun_legs k rows o t e q l h =
    elim (put_cases (λ _. None) o (record { second = t; legs = 0; arc = 0; state = 0; settled = false }) q l (sym (ap (λ (T : Table). T q) e) ∙ h)) [
      | inl x ↦ let y : l.legs ≡ 0 = ap Label.legs x.1 in omega arith
      | inr x ↦ absurd (none-some l x.1)
    ]

pub begun_unmet : (w : World) (target : ℕ) (o : Place) (t : ℕ) → Unmet w target (begun o t)
begun_unmet w target o t q l h s ends =
    elim (put_cases (λ _. None) o (record { second = t; legs = 0; arc = 0; state = 0; settled = false }) q l h) [
      | inl x ↦ both_ways l.settled (ap Label.settled x.1) s
      | inr x ↦ none-some l x.1
    ]

pub legs_small : (k : ℕ) (rows : Rows) (r : ℕ) (l : Label) → 0 < k → length rows < 2 ^ 31 → LegsBound k rows → get_or rows r None ≡ Some l → l.legs < 2 ^ 31
legs_small k rows r l pos small legs e =
    let a : l.legs ≤ settled_count rows = legs (place_of k r) l (view_row k rows r pos ∙ e) in
    let b : settled_count rows ≤ length rows = count_max (length rows) (λ i. is_settled (get_or rows i None)) in
    omega arith

pub settled_most : (rows : Rows) → settled_count rows ≤ length rows
settled_most rows = count_max (length rows) (λ i. is_settled (get_or rows i None))
