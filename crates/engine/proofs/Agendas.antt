-- What a push and a pop do to the agenda of a search.
use Rattle.std.proofs.Common.{◌≡◌, ℕ, ◌<◌, Bool, true, false, not, ◌&&◌, eqb, List, [], ◌∷◌, length, get_or, set, replicate, Some, None, Option, sym, refl, ap, ◌∙◌, subst, inl, inr, arith}
use Rattle.std.proofs.lemmas.Option.{none-some}
use Rattle.std.specs.List.{ContainsAt as Has, AllByRecursion}
use Rattle.std.proofs.ByRecursion.{All-weaker}
use Rattle.std.proofs.lemmas.List.{get_or-set_same, get_or-set_other, get_or-replicate, get_or_past, length-replicate}
use Rattle.std.proofs.lemmas.Bool.{cases_eq, cases_lt, both_ways, and_parts, eqb-true}
use Rattle.std.proofs.lemmas.Bool.Decides.{nat_tests}
use Rattle.model.specs.Trips.{Upto2, Upto3}
use Rattle.model.proofs.Options.{one_some}
use Rattle.labels.specs.declared.label.Label.{Label}
use Rattle.labels.specs.Table.{settle}
use Rattle.labels.specs.Rows.{Rows, Waits, Foremost, improves}
use Rattle.labels.proofs.Tables.{better_true}
use Rattle.labels.proofs.Searching.{row_below}
use Rattle.queue.specs.declared.order.Ranked.{Ghosts}
use Rattle.queue.specs.declared.queue.Queue.{Queue}
use Rattle.queue.specs.Contents.{contents, Took, Put, FirstOut}
use Rattle.queue.specs.Lex.{lex}
use Rattle.queue.proofs.Facts.{has_cases, has_front, has_behind, all_put, has_put, all_took, has_took, least_took}
use Rattle.engine.specs.declared.entry.Entry.{Entry}
use Rattle.engine.specs.Before.{entry_before}
use Rattle.engine.specs.Agenda.{entry, queued, Known, Agenda}

not_settled : (b : Bool) → not b ≡ true → b ≡ false
not_settled true e = sym e
not_settled false e = refl

not_lex : (a b c x y z : ℕ) → lex a b c x y z ≡ false → Upto3 x y z a b c
not_lex a b c x y z h = grind (arith, nat_tests)

-- an element taken out of the queue
module _ {ranked : Ghosts Entry} (rows : Rows) (q q' : Queue Entry ranked) (e : Entry) (agenda : Agenda rows q) (took : Took (contents q) e (contents q')) where
  pub taken_known : Known rows e
  taken_known = (all_took (Known rows) (contents q) e (contents q') took agenda.known).0

  pub taken_within : e.place < length rows
  taken_within = let k = taken_known in row_below rows e.place k.label k.here

  left : (r : ℕ) (l : Label) → Waits rows r l → (r ≡ e.place → ⊥) → Has (contents q') (entry r l)
  left r l w other =
      elim (has_cases e (contents q') (entry r l) (has_took (contents q) e (contents q') (entry r l) took (agenda.waiting r l w))) [
        | inl g ↦ absurd (other (sym (ap Entry.place g)))
        | inr g ↦ g
      ]

  -- it is of a settled place: passed over
  pub passed : (l : Label) → get_or rows e.place None ≡ Some l → l.settled ≡ true → Agenda rows q'
  passed l h s = record {
    waiting = λ r m w. left r m w (λ g.
        let n : l ≡ m = one_some (get_or rows e.place None) l m h (subst (λ (z : ℕ). get_or rows z None ≡ Some m) g w.0) in
        both_ways m.settled w.1 (subst (λ (z : Label). z.settled ≡ true) n s));
    known = (all_took (Known rows) (contents q) e (contents q') took agenda.known).1;
  }

  -- it is of a place that is not settled: the foremost one
  module _ (l : Label) (h : get_or rows e.place None ≡ Some l) (s : l.settled ≡ false) (within : e.place < length rows) where
    pub foremost : FirstOut entry_before (Some e) (contents q) → Foremost rows e.place l
    foremost first = record {
      waits = (h, s);
      least = λ i m w.
          let k = taken_known in
          let n : k.label ≡ l = one_some (get_or rows e.place None) k.label l k.here h in
          let u : Upto2 l.second l.legs e.second e.legs = subst (λ (z : Label). Upto2 z.second z.legs e.second e.legs) n k.not_after in
          let v : Upto3 e.second e.legs e.place m.second m.legs i
          = not_lex m.second m.legs i e.second e.legs e.place (least_took entry_before (contents q) e (entry i m) first (agenda.waiting i m w)) in
          omega arith;
    }

    known_settled : (f : Entry) → Known rows f → Known (set rows e.place (Some (settle l))) f
    known_settled f k =
        elim (cases_eq f.place e.place) [
          | inl g ↦
              let n : k.label ≡ l = one_some (get_or rows e.place None) k.label l (subst (λ (z : ℕ). get_or rows z None ≡ Some k.label) g k.here) h in
              record {
                label = settle l;
                here = subst (λ (z : ℕ). get_or (set rows e.place (Some (settle l))) z None ≡ Some (settle l)) (sym g) (get_or-set_same rows e.place (Some (settle l)) None within);
                not_after = subst (λ (z : Label). Upto2 z.second z.legs f.second f.legs) n k.not_after;
              }
          | inr g ↦ record { label = k.label; here = get_or-set_other rows e.place f.place (Some (settle l)) None g ∙ k.here; not_after = k.not_after }
        ]

    waits_settled : (r : ℕ) (m : Label) → Waits (set rows e.place (Some (settle l))) r m → (Waits rows r m) × (r ≡ e.place → ⊥)
    waits_settled r m w =
        elim (cases_eq r e.place) [
          | inl g ↦
              let n : settle l ≡ m = one_some (get_or (set rows e.place (Some (settle l))) e.place None) (settle l) m (get_or-set_same rows e.place (Some (settle l)) None within)
              (subst (λ (z : ℕ). get_or (set rows e.place (Some (settle l))) z None ≡ Some m) g w.0) in
              absurd (both_ways m.settled w.1 (sym (ap Label.settled n)))
          | inr g ↦ ((sym (get_or-set_other rows e.place r (Some (settle l)) None g) ∙ w.0, w.1), g)
        ]

    pub settled_next : Agenda (set rows e.place (Some (settle l))) q'
    settled_next = record {
      waiting = λ r m w. let x = waits_settled r m w in left r m x.0 x.1;
      known = All-weaker (Known rows) (Known (set rows e.place (Some (settle l)))) known_settled (contents q')
          (all_took (Known rows) (contents q) e (contents q') took agenda.known).1;
    }

-- a better label written
module _ {ranked : Ghosts Entry} (rows : Rows) (q : Queue Entry ranked) (r : ℕ) (l : Label) (agenda : Agenda rows q) (within : r < length rows) (better : improves (get_or rows r None) l ≡ true) where
  no_worse : (x : Option Label) (k : Label) → improves x l ≡ true → x ≡ Some k → Upto2 l.second l.legs k.second k.legs
  no_worse None k b e = absurd (none-some k e)
  no_worse (Some m) k b e =
      let mk : m ≡ k = one_some (Some m) m k refl e in
      let u = better_true l m b in
      subst (λ (z : Label). Upto2 l.second l.legs z.second z.legs) mk (u.0, u.1)

  known_written : (f : Entry) → Known rows f → Known (set rows r (Some l)) f
  known_written f k =
      elim (cases_eq f.place r) [
        | inl g ↦
            let u : Upto2 l.second l.legs k.label.second k.label.legs
            = no_worse (get_or rows r None) k.label better (subst (λ (z : ℕ). get_or rows z None ≡ Some k.label) g k.here) in
            let v : Upto2 k.label.second k.label.legs f.second f.legs = k.not_after in
            record {
              label = l;
              here = subst (λ (z : ℕ). get_or (set rows r (Some l)) z None ≡ Some l) (sym g) (get_or-set_same rows r (Some l) None within);
              not_after = omega arith;
            }
        | inr g ↦ record { label = k.label; here = get_or-set_other rows r f.place (Some l) None g ∙ k.here; not_after = k.not_after }
      ]

  waiting_written : (i : ℕ) (m : Label) → Waits (set rows r (Some l)) i m → Has (entry r l ∷ contents q) (entry i m)
  waiting_written i m w =
      elim (cases_eq i r) [
        | inl g ↦
            let lm : l ≡ m = one_some (get_or (set rows r (Some l)) r None) l m (get_or-set_same rows r (Some l) None within)
            (subst (λ (z : ℕ). get_or (set rows r (Some l)) z None ≡ Some m) g w.0) in
            subst (λ (z : ℕ). Has (entry r l ∷ contents q) (entry z m)) (sym g)
            (subst (λ (z : Label). Has (entry r l ∷ contents q) (entry r z)) lm (has_front (entry r l) (contents q)))
        | inr g ↦
            has_behind (entry r l) (contents q) (entry i m) (agenda.waiting i m (sym (get_or-set_other rows r i (Some l) None g) ∙ w.0, w.1))
      ]

  all_written : AllByRecursion (Known (set rows r (Some l))) (contents q)
  all_written = All-weaker (Known rows) (Known (set rows r (Some l))) known_written (contents q) agenda.known

  -- and queued
  pub written : (q' : Queue Entry ranked) (n : ℕ) → Put n (contents q) (entry r l) (contents q') → Agenda (set rows r (Some l)) q'
  written q' n put = record {
    waiting = λ i m w. has_put n (contents q) (entry r l) (contents q') (entry i m) put (waiting_written i m w);
    known = all_put (Known (set rows r (Some l))) n (contents q) (entry r l) (contents q') put
        (record { label = l; here = get_or-set_same rows r (Some l) None within; not_after = omega arith })
        all_written;
  }

  -- its entry was in the queue
  pub rewritten : queued (get_or rows r None) l ≡ true → Agenda (set rows r (Some l)) q
  rewritten e = by_row (get_or rows r None) refl e
    where
      by_row : (x : Option Label) → get_or rows r None ≡ x → queued x l ≡ true → Agenda (set rows r (Some l)) q
      by_row None is e = absurd (both_ways false refl e)
      by_row (Some m) is e =
          let a = and_parts (not m.settled) (eqb m.second l.second && eqb m.legs l.legs) e in
          let b = and_parts (eqb m.second l.second) (eqb m.legs l.legs) a.1 in
          let s : m.second ≡ l.second = eqb-true m.second l.second b.0 in
          let t : m.legs ≡ l.legs = eqb-true m.legs l.legs b.1 in
          let same : entry r m ≡ entry r l = λ i. record { second = s i; legs = t i; place = r } in
          let here : Has (contents q) (entry r l) = subst (λ (z : Entry). Has (contents q) z) same (agenda.waiting r m (is, not_settled m.settled a.0)) in
          record {
            waiting = λ i k w. elim (has_cases (entry r l) (contents q) (entry i k) (waiting_written i k w)) [
              | inl g ↦ subst (λ (z : Entry). Has (contents q) z) g here
              | inr g ↦ g
            ];
            known = all_written;
          }

-- rows that are cleared hold no label
pub none_labelled : (rows : Rows) (n : ℕ) → rows ≡ replicate n None → (i : ℕ) → get_or rows i None ≡ None
none_labelled rows n e i =
    ap (λ (z : Rows). get_or z i None) e
    ∙ elim (cases_lt i n) [
      | inl h ↦ get_or-replicate n i None None h
      | inr h ↦ get_or_past (replicate n None) i None (omega (arith, length-replicate {A = Option Label} n None))
    ]

-- nothing is labelled and nothing queued
pub agenda_empty : {ranked : Ghosts Entry} (rows : Rows) (q : Queue Entry ranked) → contents q ≡ [] → ((i : ℕ) → get_or rows i None ≡ None) → Agenda rows q
agenda_empty rows q empty none = record {
  waiting = λ r l w. absurd (none-some l (sym (none r) ∙ w.0));
  known = subst (λ (xs : List Entry). AllByRecursion (Known rows) xs) (sym empty) tt;
}

-- an empty queue has nothing to settle
pub agenda_done : {ranked : Ghosts Entry} (rows : Rows) (q : Queue Entry ranked) → Agenda rows q → contents q ≡ [] → (i : ℕ) (m : Label) → Waits rows i m → ⊥
agenda_done rows q agenda empty i m w =
    let h : Has [] (entry i m) = subst (λ (xs : List Entry). Has xs (entry i m)) empty (agenda.waiting i m w) in
    let lt : h.0 < 0 = h.1 in
    omega arith
