-- Every ledger is sound.
use Rattle.std.proofs.Common.{◌≡◌, ℕ, suc, ◌<◌, ◌≤◌, Bool, true, false, cond, eqb, ltb, List, [], ◌∷◌, length, Some, None, Option, unwrap_or, sym, refl, ap, ◌∙◌, subst, arith}
use Rattle.std.specs.List.{AllByRecursion}
use Rattle.std.proofs.lemmas.Bool.{or_parts, or_from, eqb-true, eqb-false, ne_eqb, ltb-true}
use Rattle.notices.specs.declared.notice.Notice.{Notice}
use Rattle.model.specs.declared.refusal.Refusal.{Refusal}
use Rattle.model.specs.declared.refusal.Refusal.TheVariants.{NoSuchBulletin, NoticeField, NoticesFull}
use Rattle.notices.specs.Notices.{others, has, put_in, lift_from, unless}
use Rattle.ledger.specs.Ledgers.{Call, Open, Put, Lift, Issue, TearUp, Ask, Ledger, drafted, good, allowed, refusal, doing, after, going, fresh}
use Rattle.ledger.specs.Sound.{Apart, Fit, FitDraft, Sound, AlwaysSound}

has_put : (s : ℕ) (n : Notice) (ns : List Notice) → has s ns ≡ false → eqb n.service s ≡ false → has s (put_in n ns) ≡ false
has_put s n [] h e = or_from _ _ e refl
has_put s n (m ∷ ms) h e =
    let p = or_parts (eqb m.service s) (has s ms) h in
    elim (eqb m.service n.service) as (λ b. has s (cond b (n ∷ ms) (m ∷ put_in n ms)) ≡ false) [ true ↦ or_from _ _ e p.1 | false ↦ or_from _ _ p.0 (has_put s n ms p.1 e) ]

has_lift : (s k : ℕ) (ns : List Notice) → has s ns ≡ false → has s (lift_from k ns) ≡ false
has_lift s k [] h = refl
has_lift s k (m ∷ ms) h =
    let p = or_parts (eqb m.service s) (has s ms) h in
    elim (eqb m.service k) as (λ b. has s (cond b ms (m ∷ lift_from k ms)) ≡ false) [ true ↦ p.1 | false ↦ or_from _ _ p.0 (has_lift s k ms p.1) ]

apart_put : (n : Notice) (ns : List Notice) → Apart ns → Apart (put_in n ns)
apart_put n [] a = (refl, tt)
apart_put n (m ∷ ms) a =
    elim (eqb m.service n.service) as (λ b. eqb m.service n.service ≡ b → Apart (cond b (n ∷ ms) (m ∷ put_in n ms))) [
      | true ↦ λ e. (subst (λ (s : ℕ). has s ms ≡ false) (eqb-true _ _ e) a.0, a.1)
      | false ↦ λ e. (has_put m.service n ms a.0 (ne_eqb _ _ (λ same. eqb-false _ _ e (sym same))), apart_put n ms a.1)
    ] refl

apart_lift : (k : ℕ) (ns : List Notice) → Apart ns → Apart (lift_from k ns)
apart_lift k [] a = tt
apart_lift k (m ∷ ms) a =
    elim (eqb m.service k) as (λ b. Apart (cond b ms (m ∷ lift_from k ms))) [ true ↦ a.1 | false ↦ (has_lift m.service k ms a.0, apart_lift k ms a.1) ]

module _ (P : Notice → Type 0) where
  all_put : (n : Notice) (ns : List Notice) → P n → AllByRecursion P ns → AllByRecursion P (put_in n ns)
  all_put n [] p a = (p, tt)
  all_put n (m ∷ ms) p a =
      elim (eqb m.service n.service) as (λ b. AllByRecursion P (cond b (n ∷ ms) (m ∷ put_in n ms))) [ true ↦ (p, a.1) | false ↦ (a.0, all_put n ms p a.1) ]

  all_lift : (k : ℕ) (ns : List Notice) → AllByRecursion P ns → AllByRecursion P (lift_from k ns)
  all_lift k [] a = tt
  all_lift k (m ∷ ms) a =
      elim (eqb m.service k) as (λ b. AllByRecursion P (cond b ms (m ∷ lift_from k ms))) [ true ↦ a.1 | false ↦ (a.0, all_lift k ms a.1) ]

others_none : (s : ℕ) (ns : List Notice) → has s ns ≡ false → others s ns ≡ length ns
others_none s [] h = refl
others_none s (n ∷ ns) h =
    let p = or_parts (eqb n.service s) (has s ns) h in
    ap (λ (b : Bool). cond b (others s ns) (suc (others s ns))) p.0 ∙ ap suc (others_none s ns p.1)

length_put : (n : Notice) (ns : List Notice) → Apart ns → length (put_in n ns) ≡ suc (others n.service ns)
length_put n [] a = refl
length_put n (m ∷ ms) a =
    let s = n.service in
    elim (eqb m.service s) as (λ b. eqb m.service s ≡ b → length (cond b (n ∷ ms) (m ∷ put_in n ms)) ≡ suc (cond b (others s ms) (suc (others s ms)))) [
      | true ↦ λ e. ap suc (sym (others_none s ms (subst (λ (k : ℕ). has k ms ≡ false) (eqb-true _ _ e) a.0)))
      | false ↦ λ e. ap suc (length_put n ms a.1)
    ] refl

length_lift : (k : ℕ) (ns : List Notice) → length (lift_from k ns) ≤ length ns
length_lift k [] = omega arith
length_lift k (m ∷ ms) =
    let r = length_lift k ms in
    elim (eqb m.service k) as (λ b. length (cond b ms (m ∷ lift_from k ms)) ≤ suc (length ms)) [ true ↦ omega arith | false ↦ omega arith ]

fit_none : (count : ℕ) → Fit count []
fit_none count = record { ranged = tt; apart = tt; few = omega arith }

fit_put : (count : ℕ) (n : Notice) (ns : List Notice) → allowed count n ≡ true → others n.service ns < 64 → Fit count ns → Fit count (put_in n ns)
fit_put count n ns ok room f = record {
  ranged = all_put (λ m. allowed count m ≡ true) n ns ok f.ranged;
  apart = apart_put n ns f.apart;
  few = omega (arith, length_put n ns f.apart);
}

fit_lift : (count k : ℕ) (ns : List Notice) → Fit count ns → Fit count (lift_from k ns)
fit_lift count k ns f = record {
  ranged = all_lift (λ m. allowed count m ≡ true) k ns f.ranged;
  apart = apart_lift k ns f.apart;
  few = omega (arith, length_lift k ns, f.few);
}

fit_drafted : (count : ℕ) (o : Option (List Notice)) → FitDraft count o → Fit count (unwrap_or o [])
fit_drafted count None f = fit_none count
fit_drafted count (Some ns) f = f

-- a ledger after a call, by whether it is refused
either_way : (P : Ledger → Type 0) (o : Option Refusal) (x y : Ledger) → (o ≡ None → P x) → P y → P (unless o x y)
either_way P None x y f g = f refl
either_way P (Some e) x y f g = g

put_accepted : (a b c : Bool) → cond a (cond b (cond c None (Some NoticesFull)) (Some NoticeField)) (Some NoSuchBulletin) ≡ None → (b ≡ true) × (c ≡ true)
put_accepted true true true e = (refl, refl)
put_accepted true true false e = let z : ◌≡◌ {A = ℕ} 0 1 = cc in absurd (omega arith)
put_accepted true false c e = let z : ◌≡◌ {A = ℕ} 0 1 = cc in absurd (omega arith)
put_accepted false b c e = let z : ◌≡◌ {A = ℕ} 0 1 = cc in absurd (omega arith)

sound_doing : (mark count : ℕ) (g : Ledger) (c : Call) → Sound count g → refusal mark count g c ≡ None → Sound count (doing g c)
sound_doing mark count g Open s e = (s.0, s.0)
sound_doing mark count g (Put m n) s e =
    let d = drafted g in
    let ok = put_accepted (good mark m g) (allowed count n) (ltb (others n.service d) 64) e in
    (s.0, fit_put count n d ok.0 (ltb-true _ _ ok.1) (fit_drafted count g.draft s.1))
sound_doing mark count g (Lift m k) s e = (s.0, fit_lift count k (drafted g) (fit_drafted count g.draft s.1))
sound_doing mark count g (Issue m) s e = (fit_drafted count g.draft s.1, tt)
sound_doing mark count g (TearUp m) s e = (s.0, tt)
sound_doing mark count g (Ask q) s e = s

sound_going : (mark count : ℕ) (h : List Call) (g : Ledger) → Sound count g → Sound count (going mark count g h)
sound_going mark count [] g s = s
sound_going mark count (c ∷ cs) g s =
    sound_going mark count cs (after mark count g c) (either_way (Sound count) (refusal mark count g c) (doing g c) g (sound_doing mark count g c s) s)

pub always_sound : AlwaysSound
always_sound mark count h = sound_going mark count h fresh (fit_none count, tt)
