-- The loop that looks at every arc in turn: what it has passed, and what its end or a fault tells.
use Rattle.std.proofs.Common.{◌≡◌, ℕ, ◌+◌, ◌-◌, ◌<◌, ◌≤◌, List, length, get_or, sym, refl, ap, ◌∙◌, subst, ⊎_elim, arith}
use Rattle.std.proofs.lemmas.List.{get_or_default}
use Rattle.std.proofs.lemmas.Bool.{cases_eq}
use Rattle.model.specs.declared.network.Arc.{Arc}
use Rattle.network.specs.declared.fault.NetworkFault.TheVariants.{ArcField, TailFalls}
use Rattle.network.specs.Sound.{Counted, InRange, FitBefore, AscendingBefore, Sound, SoundBefore, FirstFault}

-- what the loop takes for an arc where there is none
abbrev pub none : Arc
none = record { tail = 0; head = 0; label = 0; service = 0 }

-- the first i arcs have no fault, and low is the tail of the last of them, or 0
pub record Passed (stops : ℕ) (arcs : List Arc) (i low : ℕ) : Type 0 where
  pub fit : FitBefore stops arcs i
  pub ascending : AscendingBefore arcs i
  pub empty : i ≡ 0 → low ≡ 0
  pub last : (d : Arc) → 0 < i → low ≡ (get_or arcs (i - 1) d).tail

pub passed_none : (stops : ℕ) (arcs : List Arc) → Passed stops arcs 0 0
passed_none stops arcs = record { fit = λ k d lt. absurd (omega arith); ascending = λ k d lt. absurd (omega arith); empty = λ e. refl; last = λ d lt. absurd (omega arith) }

pub passed_all : (stops : ℕ) (arcs : List Arc) (i low : ℕ) → Counted stops arcs → length arcs ≤ i → Passed stops arcs i low → Sound stops arcs
passed_all stops arcs i low counted le p = record { counted = counted; fit = λ k d lt. p.fit k d (omega arith); ascending = λ k d lt. p.ascending k d (omega arith) }

-- a look at the next arc, as the loop reads it with some default z
module _ (stops : ℕ) (arcs : List Arc) (i low : ℕ) (z : Arc) (lt : i < length arcs) (p : Passed stops arcs i low) where
  same : (d : Arc) → get_or arcs i d ≡ get_or arcs i z
  same d = get_or_default arcs i d z lt

  tail_same : (d : Arc) → (get_or arcs i d).tail ≡ (get_or arcs i z).tail
  tail_same d = ap (λ (a : Arc). a.tail) (same d)

  pub passed_more : InRange stops (get_or arcs i z) → low ≤ (get_or arcs i z).tail → Passed stops arcs (i + 1) (get_or arcs i z).tail
  passed_more ranged up = record {
    fit = λ k d l. ⊎_elim (λ e. subst (InRange stops) (sym (ap (λ m. get_or arcs m d) e ∙ same d)) ranged) (λ ne. p.fit k d (omega arith)) (cases_eq k i);
    ascending = λ k d l. ⊎_elim
        (λ e.
        let back : i - 1 ≡ k = omega arith in
        omega (arith, p.last d (omega arith), ap (λ m. (get_or arcs m d).tail) back, ap (λ m. (get_or arcs m d).tail) e, tail_same d))
        (λ ne. p.ascending k d (omega arith))
        (cases_eq (k + 1) i);
    empty = λ e. absurd (omega arith);
    last = λ d l. let back : i + 1 - 1 ≡ i = omega arith in sym (ap (λ m. (get_or arcs m d).tail) back ∙ tail_same d);
  }

  module _ (counted : Counted stops arcs) where
    before : SoundBefore stops arcs i
    before = record { counted = counted; inside = lt; fit = p.fit; ascending = p.ascending }

    pub field_fault : (InRange stops (get_or arcs i z) → ⊥) → FirstFault (ArcField i) stops arcs
    field_fault out = (before, λ d h. out (subst (InRange stops) (same d) h))

    pub tail_fault : InRange stops (get_or arcs i z) → (get_or arcs i z).tail < low → FirstFault (TailFalls i) stops arcs
    tail_fault ranged down = (
      before,
      λ d. (
        subst (InRange stops) (sym (same d)) ranged,
        ⊎_elim (λ e. absurd (omega (arith, p.empty e))) (λ ne. omega (arith, p.last d (omega arith), tail_same d)) (cases_eq i 0),
      ),
    )
