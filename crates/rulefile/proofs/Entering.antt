-- What a turn of the loop that enters the steps into a table keeps.
use Rattle.std.proofs.Common.{◌≡◌, ℕ, suc, ◌+◌, ◌*◌, ◌<◌, ◌≤◌, Bool, true, false, cond, ◌&&◌, ◌||◌, eqb, ltb, ◌≢◌, List, [], ◌∷◌, ◌++◌, length, get_or, set, replicate, Some, None, Ok, Option, Result, sym, refl, ap, ◌∙◌, arith, length-set, get_or-set_other, get_or-set_same}
use lib.ListN.{length-replicate, get_or-replicate}
use Rattle.std.proofs.lemmas.Bool.{eqb-true, eqb-false, ltb-true}
use Rattle.formats.specs.declared.rule_step.RuleStep.{RuleStep}
use Rattle.formats.specs.RuleFile.{leads_to, Leads, rises, step, stepped}
use Rattle.formats.proofs.RuleFile.{step_lawful}
use Rattle.wire.specs.declared.fault.Fault.{Fault}
use Rattle.wire.specs.declared.reader.Reader.{Reader}
use Rattle.wire.specs.Readers.{Reads}
use Rattle.wire.proofs.Steps.{Reading, reading_start, reading_turn, fine_read}
use Rattle.rulefile.specs.Tables.{entry, Shows}

-- the first entry that a step after another can have
abbrev pub first_entry : Option RuleStep → ℕ
first_entry None = 0
first_entry (Some b) = b.state * 6 + b.label + 1

abbrev pub Labelled : Option RuleStep → Type 0
Labelled None = Unit {0}
Labelled (Some b) = b.label ≤ 5

-- the steps xs are entered, the last of them is `before`, and k are to be read
pub record Entering (states : ℕ) (start : Reader) (n k : ℕ) (at : Reader) (before : Option RuleStep) (table : List (Option ℕ)) : Type 0 where
  pub xs : List RuleStep
  pub reading : Reading (step states) stepped start None n xs before k at
  pub shows : Shows table xs
  pub labelled : Labelled before
  pub low : (s x m : ℕ) → leads_to xs s x ≡ Some m → s * 6 + x < first_entry before

-- a step for another state or label changes nothing
leads_other : (xs : List RuleStep) (t : RuleStep) (s x : ℕ) → (eqb t.state s && eqb t.label x) ≡ false → leads_to (xs ++ t ∷ []) s x ≡ leads_to xs s x
leads_other [] t s x e = simp e
leads_other (u ∷ xs) t s x e = ap (λ r. cond (eqb u.state s && eqb u.label x) (Some u.next) r) (leads_other xs t s x e)

leads_here : (xs : List RuleStep) (t : RuleStep) (s x : ℕ) → (eqb t.state s && eqb t.label x) ≡ true → leads_to xs s x ≡ None → leads_to (xs ++ t ∷ []) s x ≡ Some t.next
leads_here [] t s x e none = simp e
leads_here (u ∷ xs) t s x e none = go (eqb u.state s && eqb u.label x) none (leads_here xs t s x e)
  where
    go : (b : Bool) → cond b (Some u.next) (leads_to xs s x) ≡ None → (leads_to xs s x ≡ None → leads_to (xs ++ t ∷ []) s x ≡ Some t.next) → cond b (Some u.next) (leads_to (xs ++ t ∷ []) s x) ≡ Some t.next
    go true e ih = let z : ◌≡◌ {A = ℕ} 0 1 = cc in absurd (omega arith)
    go false e ih = ih e

-- a step that comes after another has a later entry
rises_entry : (before : Option RuleStep) (t : RuleStep) → Labelled before → rises before t ≡ true → first_entry before ≤ t.state * 6 + t.label
rises_entry None t l e = omega arith
rises_entry (Some b) t l e = go (ltb b.state t.state) refl (eqb b.state t.state) refl (ltb b.label t.label) refl e
  where
    go : (p : Bool) → ltb b.state t.state ≡ p → (q : Bool) → eqb b.state t.state ≡ q → (r : Bool) → ltb b.label t.label ≡ r → (p || (q && r)) ≡ true → first_entry (Some b) ≤ t.state * 6 + t.label
    go true ep q eq r er e = omega (arith, ltb-true b.state t.state ep)
    go false ep true eq true er e = omega (arith, eqb-true b.state t.state eq, ltb-true b.label t.label er)
    go false ep true eq false er e = let z : ◌≡◌ {A = ℕ} 0 1 = cc in absurd (omega arith)
    go false ep false eq r er e = let z : ◌≡◌ {A = ℕ} 0 1 = cc in absurd (omega arith)

-- none or some
none_or_some : (o : Option ℕ) → ((m : ℕ) → o ≡ Some m → ⊥) → o ≡ None
none_or_some None h = refl
none_or_some (Some m) h = absurd (h m refl)

-- nothing is read, nothing is entered
pub bare : {states : ℕ} {start : Reader} {n : ℕ} (k : ℕ) (table : List (Option ℕ)) → k ≡ n → table ≡ replicate 96 None → Entering states start n k start None table
bare k table all none = record {
  xs = [];
  reading = reading_start k all;
  shows = record { entries = λ s x hs hx. let within : s * 6 + x < 96 = omega arith in ap (λ t. entry t s x) none ∙ get_or-replicate 96 (s * 6 + x) None None within; long = ap length none ∙ length-replicate {A = Option ℕ} 96 None };
  labelled = tt;
  low = λ s x m e. let z : ◌≡◌ {A = ℕ} 0 1 = cc in omega arith;
}

-- what is known of a step that was read
pub step_fine : (states : ℕ) (before : Option RuleStep) {at after : Reader} {r : Result RuleStep Fault} {t : RuleStep} → states ≤ 16 → Reads (step states before).read at after r → r ≡ Ok t → Leads states t × (rises before t ≡ true)
step_fine states before few read is = fine_read (step states before) (step_lawful states (omega arith) before) read is

module _ (table : List (Option ℕ)) (xs : List RuleStep) (t : RuleStep) (shows : Shows table xs) (state : t.state < 16) (label : t.label ≤ 5) (new : leads_to xs t.state t.label ≡ None) where
  -- the table with the step's entry
  table' : List (Option ℕ)
  table' = set table (t.state * 6 + t.label) (Some t.next)

  shown : (s x : ℕ) → s < 16 → x < 6 → (p : Bool) → eqb t.state s ≡ p → (q : Bool) → eqb t.label x ≡ q → entry table' s x ≡ leads_to (xs ++ t ∷ []) s x
  unfolding table'
  shown s x hs hx true ep true eq =
      let es = eqb-true t.state s ep in
      let ex = eqb-true t.label x eq in
      let same : s * 6 + x ≡ t.state * 6 + t.label = omega arith in
      let within : t.state * 6 + t.label < length table = omega (arith, shows.long) in
      ap (λ i. get_or table' i None) same ∙ get_or-set_same table (t.state * 6 + t.label) (Some t.next) None within
      ∙ sym (leads_here xs t s x (simp (ep, eq)) (ap (λ s. leads_to xs s x) (sym es) ∙ ap (leads_to xs t.state) (sym ex) ∙ new))
  shown s x hs hx true ep false eq =
      let ne = eqb-false t.label x eq in
      let es = eqb-true t.state s ep in
      let other : s * 6 + x ≢ t.state * 6 + t.label = λ e. ne (omega arith) in
      get_or-set_other table (t.state * 6 + t.label) (s * 6 + x) (Some t.next) None other ∙ shows.entries s x hs hx ∙ sym (leads_other xs t s x (simp (ep, eq)))
  shown s x hs hx false ep q eq =
      let ne = eqb-false t.state s ep in
      let other : s * 6 + x ≢ t.state * 6 + t.label = λ e. ne (omega arith) in
      get_or-set_other table (t.state * 6 + t.label) (s * 6 + x) (Some t.next) None other ∙ shows.entries s x hs hx ∙ sym (leads_other xs t s x (simp ep))

  shows' : Shows table' (xs ++ t ∷ [])
  unfolding table'
  shows' = record { entries = λ s x hs hx. shown s x hs hx (eqb t.state s) refl (eqb t.label x) refl; long = simp length-set shows.long }

  -- the entries of the steps are not past the last one
  low' : (bound : ℕ) → ((s x m : ℕ) → leads_to xs s x ≡ Some m → s * 6 + x < bound) → bound ≤ t.state * 6 + t.label → (s x m : ℕ) → leads_to (xs ++ t ∷ []) s x ≡ Some m → s * 6 + x < t.state * 6 + t.label + 1
  low' bound low above s x m e = go (eqb t.state s) refl (eqb t.label x) refl
    where
      go : (p : Bool) → eqb t.state s ≡ p → (q : Bool) → eqb t.label x ≡ q → s * 6 + x < t.state * 6 + t.label + 1
      go true ep true eq = omega (arith, eqb-true t.state s ep, eqb-true t.label x eq)
      go true ep false eq = omega (arith, low s x m (sym (leads_other xs t s x (simp (ep, eq))) ∙ e))
      go false ep q eq = omega (arith, low s x m (sym (leads_other xs t s x (simp ep)) ∙ e))

-- a step is entered
pub entered : {states : ℕ} {start : Reader} {n k : ℕ} {at after : Reader} {before : Option RuleStep} {table : List (Option ℕ)} {r : Result RuleStep Fault} {t : RuleStep} (j : ℕ) →
    states ≤ 16 → Entering states start n k at before table → Reads (step states before).read at after r → r ≡ Ok t → k ≡ suc j →
    Entering states start n j after (Some t) (set table (t.state * 6 + t.label) (Some t.next))
unfolding table'
entered {states} {before = before} {table} {t = t} j few h read is more =
    let f = step_fine states before few read is in
    let above = rises_entry before t h.labelled f.1 in
    let new = none_or_some (leads_to h.xs t.state t.label) (λ m e. omega (arith, h.low t.state t.label m e)) in
    let state : t.state < 16 = omega (arith, f.0.0) in
    record {
      xs = h.xs ++ t ∷ [];
      reading = reading_turn _ _ h.reading read is more refl;
      shows = shows' table h.xs t h.shows state f.0.1 new;
      labelled = f.0.1;
      low = low' table h.xs t h.shows state f.0.1 new (first_entry before) h.low above;
    }
