-- Where a notice lies, and what is put and lifted there.
use Rattle.std.proofs.Common.{◌≡◌, ℕ, suc, ◌<◌, ◌≤◌, Bool, true, false, cond, ◌||◌, eqb, ltb, List, [], ◌∷◌, ◌++◌, length, get_or, slice_get, set, Some, None, refl, sym, ap, ◌∙◌, arith}
use Rattle.std.specs.List.{remove, position, position_or_len}
use Rattle.std.proofs.lemmas.List.Recursion.{is_position_or_len}
use Rattle.std.proofs.lemmas.Bool.{eqb-true, ltb-true, ltb-false, lt-ltb, le-ltb, cond-true, cond-false}
use Rattle.std.proofs.lemmas.Bool.Decides.{nat_tests}
use Rattle.std.proofs.lemmas.List.Folds.{find_at}
use Rattle.std.proofs.lemmas.Option.{slice_get-get_or, slice_get_past}
use Rattle.notices.specs.declared.notice.Notice.{Notice}
use Rattle.model.specs.declared.refusal.Refusal.TheVariants.{NoticesFull, NothingToLift}
use Rattle.notices.specs.Notices.{notice_of, others, has, put_in, lift_from, amended, put_refusal, lift_refusal}

-- the index of the first notice of service s, or the length
abbrev place_of : ℕ → List Notice → ℕ
place_of s [] = 0
place_of s (n ∷ ns) = cond (eqb n.service s) 0 (suc (place_of s ns))

cond_some : (b : Bool) (n i : ℕ) → cond b (Some n) None ≡ Some i → (b ≡ true) × (n ≡ i)
cond_some true n i e = (refl, cc)
cond_some false n i e = (cc, cc)

cond_none : (b : Bool) (n : ℕ) → cond b (Some n) None ≡ None → b ≡ false
cond_none true n e = cc
cond_none false n e = refl

place_is : (s : ℕ) (ns : List Notice) → place_of s ns ≡ position_or_len (λ n. eqb n.service s) ns
place_is s = is_position_or_len (place_of s) (λ n. eqb n.service s) refl (λ n ns. ap (λ k. cond (eqb n.service s) 0 k) (omega arith))

placed : (s : ℕ) (ns : List Notice) (i : ℕ) → position (λ n. eqb n.service s) ns ≡ Some i → (i ≡ place_of s ns) × (i < length ns)
placed s ns i e =
    let p = cond_some (ltb (position_or_len (λ n. eqb n.service s) ns) (length ns)) (position_or_len (λ n. eqb n.service s) ns) i e in
    let l = ltb-true _ _ p.0 in
    (omega (arith, p.1, place_is s ns), omega (arith, p.1, l))

pub position_within : (s : ℕ) (ns : List Notice) (i : ℕ) → position (λ n. eqb n.service s) ns ≡ Some i → i < length ns
position_within s ns i e = (placed s ns i e).1

absent : (s : ℕ) (ns : List Notice) → position (λ n. eqb n.service s) ns ≡ None → length ns ≤ place_of s ns
absent s ns e =
    let l = ltb-false _ _ (cond_none (ltb (position_or_len (λ n. eqb n.service s) ns) (length ns)) (position_or_len (λ n. eqb n.service s) ns) e) in
    omega (arith, l, place_is s ns)

-- the notice there is of the service
place_service : (s : ℕ) (ns : List Notice) (d : Notice) → place_of s ns < length ns → (get_or ns (place_of s ns) d).service ≡ s
place_service s [] d h = absurd (omega arith)
place_service s (n ∷ ns) d h =
    elim (eqb n.service s) as (λ b. eqb n.service s ≡ b → cond b 0 (suc (place_of s ns)) < suc (length ns) → (get_or (n ∷ ns) (cond b 0 (suc (place_of s ns))) d).service ≡ s) [
      | true ↦ λ e _. eqb-true _ _ e
      | false ↦ λ _ l. place_service s ns d (omega arith)
    ] refl h

has_place : (s : ℕ) (ns : List Notice) → has s ns ≡ ltb (place_of s ns) (length ns)
has_place s [] = refl
has_place s (n ∷ ns) =
    elim (eqb n.service s) as (λ b. (b || has s ns) ≡ ltb (cond b 0 (suc (place_of s ns))) (suc (length ns))) [ true ↦ grind (arith, nat_tests) | false ↦ let r = has_place s ns in grind (arith, nat_tests) ]

others_le : (s : ℕ) (ns : List Notice) → others s ns ≤ length ns
others_le s [] = omega arith
others_le s (n ∷ ns) =
    let r = others_le s ns in
    elim (eqb n.service s) as (λ b. cond b (others s ns) (suc (others s ns)) ≤ suc (length ns)) [ true ↦ omega arith | false ↦ omega arith ]

others_fewer : (s : ℕ) (ns : List Notice) → place_of s ns < length ns → others s ns < length ns
others_fewer s [] h = h
others_fewer s (n ∷ ns) h =
    let r = others_le s ns in
    elim (eqb n.service s) as (λ b. cond b 0 (suc (place_of s ns)) < suc (length ns) → cond b (others s ns) (suc (others s ns)) < suc (length ns)) [
      | true ↦ λ _. omega arith
      | false ↦ λ l. omega (arith, others_fewer s ns (omega arith))
    ] h

others_all : (s : ℕ) (ns : List Notice) → length ns ≤ place_of s ns → others s ns ≡ length ns
others_all s [] h = refl
others_all s (n ∷ ns) h =
    elim (eqb n.service s) as (λ b. suc (length ns) ≤ cond b 0 (suc (place_of s ns)) → cond b (others s ns) (suc (others s ns)) ≡ suc (length ns)) [
      | true ↦ λ l. absurd (omega arith)
      | false ↦ λ l. ap suc (others_all s ns (omega arith))
    ] h

put_set : (n : Notice) (ns : List Notice) → place_of n.service ns < length ns → put_in n ns ≡ set ns (place_of n.service ns) n
put_set n [] h = absurd (omega arith)
put_set n (m ∷ ms) h =
    let p = place_of n.service ms in
    elim (eqb m.service n.service) as (λ b. cond b 0 (suc p) < suc (length ms) → cond b (n ∷ ms) (m ∷ put_in n ms) ≡ set (m ∷ ms) (cond b 0 (suc p)) n) [
      | true ↦ λ _. refl
      | false ↦ λ l. ap (λ (r : List Notice). m ∷ r) (put_set n ms (omega arith))
    ] h

put_push : (n : Notice) (ns : List Notice) → length ns ≤ place_of n.service ns → put_in n ns ≡ ns ++ n ∷ []
put_push n [] h = refl
put_push n (m ∷ ms) h =
    let p = place_of n.service ms in
    elim (eqb m.service n.service) as (λ b. suc (length ms) ≤ cond b 0 (suc p) → cond b (n ∷ ms) (m ∷ put_in n ms) ≡ m ∷ (ms ++ n ∷ [])) [
      | true ↦ λ l. absurd (omega arith)
      | false ↦ λ l. ap (λ (r : List Notice). m ∷ r) (put_push n ms (omega arith))
    ] h

lift_removed : (s : ℕ) (ns : List Notice) → place_of s ns < length ns → lift_from s ns ≡ remove ns (place_of s ns)
lift_removed s [] h = absurd (omega arith)
lift_removed s (m ∷ ms) h =
    let p = place_of s ms in
    elim (eqb m.service s) as (λ b. cond b 0 (suc p) < suc (length ms) → cond b ms (m ∷ lift_from s ms) ≡ remove (m ∷ ms) (cond b 0 (suc p))) [
      | true ↦ λ _. refl
      | false ↦ λ l. ap (λ (r : List Notice). m ∷ r) (lift_removed s ms (omega arith))
    ] h

amended_same : (n m : Notice) → n.service ≡ m.service → amended n m ≡ m
amended_same n m e = ap (λ s. amended (record { service = s; lateness = 0; shut = 0; until = 0 }) m) e

-- a notice put over the one of its service
pub put_over : (n : Notice) (ns : List Notice) (i : ℕ) (d : Notice) → position (λ m. eqb m.service n.service) ns ≡ Some i → length ns ≤ 64
    → (put_refusal n ns ≡ None) × (set ns i (amended (get_or ns i d) n) ≡ put_in n ns)
put_over n ns i d e le =
    let p = placed n.service ns i e in
    let within : place_of n.service ns < length ns = omega (arith, p.0, p.1) in
    let service : (get_or ns i d).service ≡ n.service = ap (λ k. (get_or ns k d).service) p.0 ∙ place_service n.service ns d within in (
      cond-true _ _ _ (lt-ltb (others n.service ns) 64 (omega (arith, others_fewer n.service ns within))),
      ap (set ns i) (amended_same (get_or ns i d) n service) ∙ ap (λ k. set ns k n) p.0 ∙ sym (put_set n ns within),
    )

-- at the end
pub put_last : (n : Notice) (ns : List Notice) → position (λ m. eqb m.service n.service) ns ≡ None → length ns < 64 → (put_refusal n ns ≡ None) × (ns ++ n ∷ [] ≡ put_in n ns)
put_last n ns e lt = (cond-true _ _ _ (lt-ltb (others n.service ns) 64 (omega (arith, others_le n.service ns))), sym (put_push n ns (absent n.service ns e)))

-- nowhere
pub put_nowhere : (n : Notice) (ns : List Notice) → position (λ m. eqb m.service n.service) ns ≡ None → length ns ≡ 64 → put_refusal n ns ≡ Some NoticesFull
put_nowhere n ns e full = cond-false _ _ _ (le-ltb (others n.service ns) 64 (omega (arith, others_all n.service ns (absent n.service ns e))))

pub lift_one : (s : ℕ) (ns : List Notice) (i : ℕ) → position (λ n. eqb n.service s) ns ≡ Some i → (lift_refusal s ns ≡ None) × (remove ns i ≡ lift_from s ns)
lift_one s ns i e =
    let p = placed s ns i e in
    let within : place_of s ns < length ns = omega (arith, p.0, p.1) in
    (cond-true _ _ _ (has_place s ns ∙ lt-ltb _ _ within), ap (remove ns) p.0 ∙ sym (lift_removed s ns within))

pub lift_none : (s : ℕ) (ns : List Notice) → position (λ n. eqb n.service s) ns ≡ None → lift_refusal s ns ≡ Some NothingToLift
lift_none s ns e = cond-false _ _ _ (has_place s ns ∙ le-ltb _ _ (absent s ns e))

-- what is looked up by its place
pub looked_up : (s : ℕ) (ns : List Notice) (i : ℕ) (d : Notice) → position (λ n. eqb n.service s) ns ≡ Some i → Some (get_or ns i d) ≡ notice_of s ns
looked_up s ns i d e =
    let p = placed s ns i e in sym (find_at (λ n. eqb n.service s) ns ∙ ap (slice_get ns) (omega (arith, p.0, place_is s ns)) ∙ slice_get-get_or ns i d p.1)

pub looked_up_none : (s : ℕ) (ns : List Notice) → position (λ n. eqb n.service s) ns ≡ None → None ≡ notice_of s ns
looked_up_none s ns e = sym (find_at (λ n. eqb n.service s) ns ∙ slice_get_past ns _ (omega (arith, absent s ns e, place_is s ns)))
