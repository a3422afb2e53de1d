-- How many arcs leave a stop.
use Rattle.std.proofs.Common.{◌≡◌, ℕ, zero, suc, ◌+◌, ◌-◌, ◌≤◌, min, Bool, true, false, cond, eqb, ltb, leb, List, length, get_or, take, Some, None, filter, Option, sym, refl, ap, ⊎_elim, add-one, arith, take_all}
use Rattle.std.proofs.lemmas.Option.{none-some}
use Rattle.std.proofs.lemmas.List.Filters.{length-filter_more}
use Rattle.std.proofs.lemmas.Bool.{eq-eqb, ne_eqb, ltb-false, cases_lt}
use Rattle.model.specs.Clock.{horizon}
use Rattle.model.specs.declared.network.Arc.{Arc}
use Rattle.model.specs.declared.refusal.Refusal.{Refusal}
use Rattle.std.specs.declared.ops.Range.{Range}
use Rattle.network.specs.Sound.{Leaving}
use Rattle.poster.specs.Boards.{no_arc}
use Rattle.poster.specs.Posted.{leaving_count, refusal_of}

-- a test that is passed, and what follows it
passed : (b : Bool) (f : Refusal) (x : Option Refusal) → cond b (Some f) x ≡ None → (b ≡ false) × (x ≡ None)
passed true f x e = absurd (none-some f (sym e))
passed false f x e = (refl, e)

module _ (arcs : List Arc) (stop : ℕ) (range : Range ℕ) (leaving : Leaving arcs stop range) where
  -- among the first n arcs
  below : (n : ℕ) → n ≤ length arcs → length (filter (λ a. eqb a.tail stop) (take n arcs)) ≡ min n range.end - range.start
  below zero le = omega arith
  below (suc n) le =
      let old : length (filter (λ a. eqb a.tail stop) (take n arcs)) ≡ min n range.end - range.start = below n (omega arith) in
      let more : length (filter (λ a. eqb a.tail stop) (take (n + 1) arcs)) ≡ length (filter (λ a. eqb a.tail stop) (take n arcs)) + cond (eqb (get_or arcs n no_arc).tail stop) 1 0
      = length-filter_more (λ a. eqb a.tail stop) arcs n no_arc (omega arith) in
      let same : length (filter (λ a. eqb a.tail stop) (take (suc n) arcs)) ≡ length (filter (λ a. eqb a.tail stop) (take (n + 1) arcs))
      = ap (λ (m : ℕ). length (filter (λ a. eqb a.tail stop) (take m arcs))) (sym (add-one n)) in
      let ordered : range.start ≤ range.end = leaving.ordered in
      ⊎_elim
      (λ lower. let none : cond {A = ℕ} (eqb (get_or arcs n no_arc).tail stop) 1 0 ≡ 0 = ap (λ b. cond {A = ℕ} b 1 0) (ne_eqb (get_or arcs n no_arc).tail stop (λ e. omega (arith, leaving.lower n no_arc lower))) in omega arith)
      (λ from. ⊎_elim
      (λ inside. let one : cond {A = ℕ} (eqb (get_or arcs n no_arc).tail stop) 1 0 ≡ 1 = ap (λ b. cond {A = ℕ} b 1 0) (eq-eqb (get_or arcs n no_arc).tail stop (leaving.leave n no_arc from inside)) in omega arith)
      (λ after. let none : cond {A = ℕ} (eqb (get_or arcs n no_arc).tail stop) 1 0 ≡ 0 = ap (λ b. cond {A = ℕ} b 1 0) (ne_eqb (get_or arcs n no_arc).tail stop (λ e. omega (arith, leaving.higher n no_arc after (omega arith)))) in omega arith)
      (cases_lt n range.end))
      (cases_lt n range.start)

  pub leaving_counted : leaving_count arcs stop ≡ range.end - range.start
  leaving_counted =
      let all : length (filter (λ a. eqb a.tail stop) (take (length arcs) arcs)) ≡ min (length arcs) range.end - range.start = below (length arcs) (omega arith) in
      let same : length (filter (λ a. eqb a.tail stop) (take (length arcs) arcs)) ≡ leaving_count arcs stop
      = ap (λ (l : List Arc). length (filter (λ a. eqb a.tail stop) l)) (take_all (length arcs) arcs (omega arith)) in
      let within : range.end ≤ length arcs = leaving.within in
      omega arith

-- past the tests there is a queue slot for each arc that leaves the stop
pub slots_enough : (stops : ℕ) (arcs : List Arc) (stop second slots : ℕ) → refusal_of stops arcs stop second slots ≡ None → leaving_count arcs stop ≤ slots
slots_enough stops arcs stop second slots none =
    let a = passed (leb stops stop) _ _ none in
    let b = passed (ltb horizon second) _ _ a.1 in
    let c = passed (ltb slots (leaving_count arcs stop)) _ _ b.1 in
    ltb-false slots (leaving_count arcs stop) c.0
