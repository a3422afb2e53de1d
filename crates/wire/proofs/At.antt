-- Numbers at a place of a file.
use Rattle.std.proofs.Common.{◌≡◌, ℕ, ◌+◌, ◌-◌, ◌≤◌, List, length, take, drop, Ok, Err, Result, MatchResult, refl, subst, sym, ap, ◌∙◌, arith, length-append, length-drop, take_all}
use Rattle.std.specs.Result.{IsErrAnd}
use Rattle.model.specs.declared.refusal.Refusal.{Refusal}
use Rattle.wire.specs.Numbers.{Decoded, encode, decode}
use Rattle.wire.specs.Places.{placed, number_at, wrong}
use Rattle.wire.proofs.Codec.{canonical}

pub number_ok : (bs : List ℕ) (p n m : ℕ) → decode (drop p bs) ≡ Ok (n, m) → number_at bs p ≡ Ok (n, p + m)
unfolding number_at
number_ok bs p n m e = ap (placed p) e

pub number_err : (bs : List ℕ) (p : ℕ) (k : Refusal) → decode (drop p bs) ≡ Err k → number_at bs p ≡ Err (wrong k p)
unfolding number_at
number_err bs p k e = ap (placed p) e

pub number_within : (bs : List ℕ) (p n m : ℕ) → decode (drop p bs) ≡ Ok (n, m) → p ≤ length bs → p + m ≤ length bs
number_within bs p n m e h =
    let c = canonical (drop p bs) n m e in
    let l = ap length c.front ∙ length-append (encode n) (drop m (drop p bs)) in
    omega (arith, c.long, l, length-drop p bs)

-- what `decoded` answers on the rest of a file from p on, which the code holds as a part
pub of_rest : (bs : List ℕ) (p : ℕ) (r s : Decoded) → r ≡ decode (take (length bs - p) (drop p bs)) → r ≡ s → decode (drop p bs) ≡ s
of_rest bs p r s e f = ap decode (sym (take_all (length bs - p) (drop p bs) (omega (arith, length-drop p bs)))) ∙ sym e ∙ f

-- what stood before an error was changed
pub ok_before : {A E D : Type 0} (P : E → D → Type 0) (r : Result A E) (q : Result A D) {x : A} → MatchResult r (λ x. q ≡ Ok x) (λ e. IsErrAnd q (P e)) → q ≡ Ok x → r ≡ Ok x
ok_before P (Ok y) q {x} h is = let e = sym h ∙ is in let i : y ≡ x = cc in ap (λ z. Ok z) i
ok_before P (Err e) (Ok y) h is = absurd h
ok_before P (Err e) (Err d) h is = let z : ◌≡◌ {A = ℕ} 0 1 = cc in absurd (omega arith)

pub err_before : {A E D : Type 0} (P : E → D → Type 0) (r : Result A E) (q : Result A D) {d : D} → MatchResult r (λ x. q ≡ Ok x) (λ e. IsErrAnd q (P e)) → q ≡ Err d → (e : E) × (r ≡ Err e) × P e d
err_before P (Ok y) q h is = let e = sym h ∙ is in let z : ◌≡◌ {A = ℕ} 0 1 = cc in absurd (omega arith)
err_before P (Err e) (Ok y) h is = absurd h
err_before P (Err e) (Err c) {d} h is = let i : c ≡ d = cc in (e, refl, subst (P e) i h)
