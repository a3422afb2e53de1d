-- What is written reads back, and what is read was written so: for each way to put formats together.
use Rattle.std.proofs.Common.{◌≡◌, ℕ, zero, suc, ◌+◌, ◌-◌, ◌^◌, ◌<◌, ◌≤◌, Bool, true, false, cond, ◌&&◌, eqb, ltb, leb, List, [], ◌∷◌, ◌++◌, length, take, drop, Ok, Err, sym, refl, ap, ◌∙◌, subst, ap₂, append_assoc, add-zero, zero-add, arith, length-append, length-drop, take-append-drop, length-take, drop-drop, take_at}
use lib.Seq.{drop-append_seam}
use Rattle.std.proofs.lemmas.Bool.{le-leb, leb-true, lt-ltb, ltb-true, eq-eqb, eqb-true}
use Rattle.model.specs.declared.refusal.Refusal.{Refusal}
use Rattle.model.specs.declared.refusal.Refusal.TheVariants.{FileEndsEarly}
use Rattle.wire.specs.declared.fault.Fault.{Fault}
use Rattle.wire.specs.Numbers.{Decoded, encode, decode}
use Rattle.wire.specs.Places.{Step, number_at, placed, wrong}
use Rattle.wire.specs.Grammar.{Format, Held, LawfulFormat, and_then, number, ranged, below, since, exactly, text, checked, both, mapped, many, write_all, FineAll, repeated, counted, plain}
use Rattle.wire.proofs.Codec.{decode_encode, Canonical, canonical}

-- the rest of a file, after what stands first
past : (xs rest bs : List ℕ) (p : ℕ) → drop p bs ≡ xs ++ rest → drop (p + length xs) bs ≡ rest
past xs rest bs p e = sym (drop-drop (length xs) p bs) ∙ ap (drop (length xs)) e ∙ drop-append_seam xs rest

-- a step that answered, taken apart
pub then_ok : {A B : Type 0} (s : Step A) (f : A → ℕ → Step B) (b : B) (q : ℕ) → and_then s f ≡ Ok (b, q) → (a : A) × (p : ℕ) × (s ≡ Ok (a, p)) × (f a p ≡ Ok (b, q))
then_ok (Ok x) f b q e = (x.0, x.1, refl, e)
then_ok (Err k) f b q e = let z : ◌≡◌ {A = ℕ} 0 1 = cc in absurd (omega arith)

pub same_step : {A : Type 0} (a b : A) (p q : ℕ) → ◌≡◌ {A = Step A} (Ok (a, p)) (Ok (b, q)) → (a ≡ b) × (p ≡ q)
same_step {A} a b p q e = let i : ◌≡◌ {A = A × ℕ} (a, p) (b, q) = cc in (ap (λ x. x.0) i, ap (λ x. x.1) i)

-- a value that passed a test
passed : {A : Type 0} (t : Bool) (a b : A) (p q : ℕ) (f : Fault) → cond {A = Step A} t (Ok (a, p)) (Err f) ≡ Ok (b, q) → (t ≡ true) × (a ≡ b) × (p ≡ q)
passed true a b p q f e = let s = same_step a b p q e in (refl, s.0, s.1)
passed false a b p q f e = let z : ◌≡◌ {A = ℕ} 0 1 = cc in absurd (omega arith)

passes : {A : Type 0} (t : Bool) (x y : Step A) → t ≡ true → cond t x y ≡ x
passes t x y e = simp e

and_true : (a b : Bool) → a && b ≡ true → (a ≡ true) × (b ≡ true)
and_true true true e = (refl, refl)
and_true true false e = let z : ◌≡◌ {A = ℕ} 0 1 = cc in absurd (omega arith)
and_true false b e = let z : ◌≡◌ {A = ℕ} 0 1 = cc in absurd (omega arith)

-- numbers

number_back : (n : ℕ) (bs rest : List ℕ) (p : ℕ) → n < 2 ^ 32 → drop p bs ≡ encode n ++ rest → number_at bs p ≡ Ok (n, p + length (encode n))
unfolding number_at
number_back n bs rest p h e = ap (placed p) (ap decode e ∙ decode_encode n rest h)

number_held : (n : ℕ) (bs : List ℕ) (p q : ℕ) → number_at bs p ≡ Ok (n, q) → (n < 2 ^ 32) × (drop p bs ≡ encode n ++ drop q bs) × (q ≡ p + length (encode n))
unfolding number_at
number_held n bs p q e = go (decode (drop p bs)) refl e
  where
    go : (r : Decoded) → decode (drop p bs) ≡ r → placed p r ≡ Ok (n, q) → (n < 2 ^ 32) × (drop p bs ≡ encode n ++ drop q bs) × (q ≡ p + length (encode n))
    go (Err k) is e = let z : ◌≡◌ {A = ℕ} 0 1 = cc in absurd (omega arith)
    go (Ok x) is e =
        let s = same_step x.0 n (p + x.1) q e in
        let c : Canonical (drop p bs) n x.1 = subst (λ m. Canonical (drop p bs) m x.1) s.0 (canonical (drop p bs) x.0 x.1 is) in
        (c.small, c.front ∙ ap (λ r. encode n ++ r) (drop-drop x.1 p bs ∙ ap (λ k. drop k bs) s.1), sym s.1 ∙ ap (λ m. p + m) (sym c.long))

pub number_lawful : LawfulFormat number
number_lawful = record {
  back = λ n bs rest p fine e. number_back n bs rest p fine e;
  held = λ n bs p q e. let h = number_held n bs p q e in record { fine = h.0; front = h.1; long = h.2 };
}

pub ranged_lawful : (lo hi : ℕ) (k : Refusal) → hi < 2 ^ 32 → LawfulFormat (ranged lo hi k)
ranged_lawful lo hi k top = record {
  back = λ n bs rest p fine e.
      let low = le-leb lo n fine.0 in
      let high = le-leb n hi fine.1 in
      ap (λ s. and_then s (λ n q. cond (leb lo n && leb n hi) (Ok (n, q)) (Err (wrong k p)))) (number_back n bs rest p (omega arith) e)
      ∙ passes (leb lo n && leb n hi) _ _ (simp (low, high));
  held = λ n bs p q e.
      let (m, r, e₁, e₂) = then_ok (number_at bs p) (λ n q. cond (leb lo n && leb n hi) (Ok (n, q)) (Err (wrong k p))) n q e in
      let s = passed (leb lo m && leb m hi) m n r q (wrong k p) e₂ in
      let t = and_true (leb lo m) (leb m hi) s.0 in
      let h = number_held n bs p q (e₁ ∙ ap₂ (λ n q. Ok (n, q)) s.1 s.2) in
      let low : lo ≤ n = omega (arith, leb-true lo m t.0, s.1) in
      let high : n ≤ hi = omega (arith, leb-true m hi t.1, s.1) in
      record { fine = (low, high); front = h.1; long = h.2 };
}

pub below_lawful : (bound : ℕ) (k : Refusal) → bound ≤ 2 ^ 32 → LawfulFormat (below bound k)
below_lawful bound k top = record {
  back = λ n bs rest p fine e.
      ap (λ s. and_then s (λ n q. cond (ltb n bound) (Ok (n, q)) (Err (wrong k p)))) (number_back n bs rest p (omega arith) e)
      ∙ passes (ltb n bound) _ _ (lt-ltb n bound fine);
  held = λ n bs p q e.
      let (m, r, e₁, e₂) = then_ok (number_at bs p) (λ n q. cond (ltb n bound) (Ok (n, q)) (Err (wrong k p))) n q e in
      let s = passed (ltb m bound) m n r q (wrong k p) e₂ in
      let h = number_held n bs p q (e₁ ∙ ap₂ (λ n q. Ok (n, q)) s.1 s.2) in
      let small : n < bound = omega (arith, ltb-true m bound s.0, s.1) in
      record { fine = small; front = h.1; long = h.2 };
}

pub since_lawful : (base lo hi : ℕ) (k : Refusal) → hi < 2 ^ 32 → LawfulFormat (since base lo hi k)
since_lawful base lo hi k top = record {
  back = λ m bs rest p fine e.
      let whole : base + (m - base) ≡ m = omega (arith, fine.0) in
      let low = le-leb lo (base + (m - base)) (omega (arith, whole, fine.1)) in
      let high = le-leb (base + (m - base)) hi (omega (arith, whole, fine.2)) in
      ap (λ s. and_then s (λ n q. cond (leb lo (base + n) && leb (base + n) hi) (Ok (base + n, q)) (Err (wrong k p)))) (number_back (m - base) bs rest p (omega (arith, fine.2)) e)
      ∙ passes (leb lo (base + (m - base)) && leb (base + (m - base)) hi) _ _ (simp (low, high))
      ∙ ap (λ n. Ok (n, p + length (encode (m - base)))) whole;
  held = λ m bs p q e.
      let (n, r, e₁, e₂) = then_ok (number_at bs p) (λ n q. cond (leb lo (base + n) && leb (base + n) hi) (Ok (base + n, q)) (Err (wrong k p))) m q e in
      let s = passed (leb lo (base + n) && leb (base + n) hi) (base + n) m r q (wrong k p) e₂ in
      let t = and_true (leb lo (base + n)) (leb (base + n) hi) s.0 in
      let gap : n ≡ m - base = omega (arith, s.1) in
      let h = number_held (m - base) bs p q (e₁ ∙ ap₂ (λ n q. Ok (n, q)) gap s.2) in
      let from : base ≤ m = omega (arith, s.1) in
      let low : lo ≤ m = omega (arith, leb-true lo (base + n) t.0, s.1) in
      let high : m ≤ hi = omega (arith, leb-true (base + n) hi t.1, s.1) in
      record { fine = (from, low, high); front = h.1; long = h.2 };
}

pub exactly_lawful : (n : ℕ) (k : Refusal) → n < 2 ^ 32 → LawfulFormat (exactly n k)
exactly_lawful n k top = record {
  back = λ a bs rest p fine e.
      ap (λ s. and_then s (λ m q. cond (eqb m n) (Ok (tt, q)) (Err (wrong k p)))) (number_back n bs rest p top e)
      ∙ passes (eqb n n) _ _ (eq-eqb n n refl);
  held = λ a bs p q e.
      let (m, r, e₁, e₂) = then_ok (number_at bs p) (λ m q. cond (eqb m n) (Ok (tt, q)) (Err (wrong k p))) a q e in
      let s = passed {A = Unit {0}} (eqb m n) tt a r q (wrong k p) e₂ in
      let h = number_held n bs p q (e₁ ∙ ap₂ (λ n q. Ok (n, q)) (eqb-true m n s.0) s.2) in
      record { fine = tt; front = h.1; long = h.2 };
}

-- a value that passes a test

pub checked_lawful : {A : Type 0} (test : A → Bool) (k : Refusal) (F : Format A) → LawfulFormat F → LawfulFormat (checked test k F)
checked_lawful test k F f = record {
  back = λ a bs rest p fine e.
      ap (λ s. and_then s (λ a q. cond (test a) (Ok (a, q)) (Err (wrong k p)))) (f.back a bs rest p fine.0 e)
      ∙ passes (test a) _ _ fine.1;
  held = λ a bs p q e.
      let (b, r, e₁, e₂) = then_ok (F.read bs p) (λ a q. cond (test a) (Ok (a, q)) (Err (wrong k p))) a q e in
      let s = passed (test b) b a r q (wrong k p) e₂ in
      let h = f.held a bs p q (e₁ ∙ ap₂ (λ a q. Ok (a, q)) s.1 s.2) in
      record { fine = (h.fine, ap test (sym s.1) ∙ s.0); front = h.front; long = h.long };
}

-- one after the other

pub both_lawful : {A B : Type 0} (F : Format A) (G : A → Format B) → LawfulFormat F → ((a : A) → F.Fine a → LawfulFormat (G a)) → LawfulFormat (both F G)
both_lawful {A} {B} F G f g = record {
  back = λ x bs rest p fine e.
      let a = F.write x.0 in
      let b = (G x.0).write x.1 in
      let e' = e ∙ append_assoc a b rest in
      ap (λ s. and_then s (λ a q. and_then ((G a).read bs q) (λ b r. Ok ((a, b), r)))) (f.back x.0 bs (b ++ rest) p fine.0 e')
      ∙ ap (λ s. and_then s (λ b r. Ok ((x.0, b), r))) ((g x.0 fine.0).back x.1 bs rest (p + length a) fine.1 (past a (b ++ rest) bs p e'))
      ∙ ap (λ k. Ok (x, k)) (omega (arith, length-append a b));
  held = λ x bs p q e.
      let (a, r, e₁, e₂) = then_ok (F.read bs p) (λ a q. and_then ((G a).read bs q) (λ b r. Ok ((a, b), r))) x q e in
      let (b, t, e₃, e₄) = then_ok ((G a).read bs r) (λ b r. Ok ((a, b), r)) x q e₂ in
      let s = same_step (a, b) x t q e₄ in
      let h = f.held a bs p r e₁ in
      let k = (g a h.fine).held b bs r t e₃ in
      subst (λ y. Held (both F G) bs p y q) s.0 (subst (λ j. Held (both F G) bs p (a, b) j) s.1 (record {
        fine = (h.fine, k.fine);
        front = h.front ∙ ap (λ l. F.write a ++ l) k.front ∙ sym (append_assoc (F.write a) ((G a).write b) (drop t bs));
        long = omega (arith, h.long, k.long, length-append (F.write a) ((G a).write b));
      }));
}

pub mapped_lawful : {A B : Type 0} (to : A → B) (from : B → A) (Fine : B → Type 0) (F : Format A) →
    ((a : A) → F.Fine a → Fine (to a) × (from (to a) ≡ a)) → ((b : B) → Fine b → F.Fine (from b) × (to (from b) ≡ b)) → LawfulFormat F → LawfulFormat (mapped to from Fine F)
mapped_lawful to from Fine F there again f = record {
  back = λ b bs rest p fine e.
      ap (λ s. and_then s (λ a q. Ok (to a, q))) (f.back (from b) bs rest p (again b fine).0 e) ∙ ap (λ x. Ok (x, p + length (F.write (from b)))) (again b fine).1;
  held = λ b bs p q e.
      let (a, r, e₁, e₂) = then_ok (F.read bs p) (λ a q. Ok (to a, q)) b q e in
      let s = same_step (to a) b r q e₂ in
      let h = f.held a bs p r e₁ in
      let t = there a h.fine in
      subst (λ y. Held (mapped to from Fine F) bs p y q) s.0 (subst (λ j. Held (mapped to from Fine F) bs p (to a) j) s.1 (record {
        fine = t.0;
        front = h.front ∙ ap (λ x. F.write x ++ drop r bs) (sym t.1);
        long = h.long ∙ ap (λ x. p + length (F.write x)) (sym t.1);
      }));
}

-- a length, then that many bytes

pub text_lawful : (N : Format ℕ) → LawfulFormat N → LawfulFormat (text N)
text_lawful N n = record {
  back = λ s bs rest p fine e.
      let w = N.write (length s) in
      let q = p + length w in
      let e' = e ∙ append_assoc w s rest in
      let e'' = past w (s ++ rest) bs p e' in
      let l = ap length e'' ∙ length-append s rest in
      let t = le-leb (length s) (length bs - q) (omega (arith, l, length-drop q bs)) in
      ap (λ s. and_then s (λ n q. cond (leb n (length bs - q)) (Ok (take n (drop q bs), q + n)) (Err (wrong FileEndsEarly q)))) (n.back (length s) bs (s ++ rest) p fine e')
      ∙ passes (leb (length s) (length bs - q)) _ _ t
      ∙ ap₂ (λ s k. Ok (s, k)) (ap (take (length s)) e'' ∙ take_at s rest (length s) refl) (omega (arith, length-append w s));
  held = λ s bs p q e.
      let (m, r, e₁, e₂) = then_ok (N.read bs p) (λ n q. cond (leb n (length bs - q)) (Ok (take n (drop q bs), q + n)) (Err (wrong FileEndsEarly q))) s q e in
      let t = passed (leb m (length bs - r)) (take m (drop r bs)) s (r + m) q (wrong FileEndsEarly r) e₂ in
      let inside = leb-true m (length bs - r) t.0 in
      let h = n.held m bs p r e₁ in
      let long : length s ≡ m = ap length (sym t.1) ∙ length-take m (drop r bs) ∙ omega (arith, length-drop r bs) in
      let cut : drop r bs ≡ s ++ drop q bs = sym (take-append-drop m (drop r bs)) ∙ ap₂ (λ a b. a ++ b) t.1 (drop-drop m r bs ∙ ap (λ k. drop k bs) t.2) in
      let h' : Held N bs p (length s) r = subst (λ k. Held N bs p k r) (sym long) h in
      record {
        fine = h'.fine;
        front = h'.front ∙ ap (λ l. N.write (length s) ++ l) cut ∙ sym (append_assoc (N.write (length s)) s (drop q bs));
        long = omega (arith, h'.long, long, t.2, length-append (N.write (length s)) s);
      };
}

-- a count, then that many

module _ {S A : Type 0} (F : S → Format A) (next : S → A → S) (law : (s : S) → LawfulFormat (F s)) where
  many_back : (xs : List A) (s : S) (bs rest : List ℕ) (p : ℕ) → FineAll F next s xs → drop p bs ≡ write_all F next s xs ++ rest → many F next s (length xs) bs p ≡ Ok (xs, p + length (write_all F next s xs))
  unfolding many write_all FineAll
  many_back [] s bs rest p fine e = ap (λ k. Ok ([], k)) (sym (add-zero p))
  many_back (x ∷ xs) s bs rest p fine e =
      let a = (F s).write x in
      let b = write_all F next (next s x) xs in
      let e' = e ∙ append_assoc a b rest in
      ap (λ t. and_then t (λ a q. and_then (many F next (next s a) (length xs) bs q) (λ xs r. Ok (a ∷ xs, r)))) ((law s).back x bs (b ++ rest) p fine.0 e')
      ∙ ap (λ t. and_then t (λ xs r. Ok (x ∷ xs, r))) (many_back xs (next s x) bs rest (p + length a) fine.1 (past a (b ++ rest) bs p e'))
      ∙ ap (λ k. Ok (x ∷ xs, k)) (omega (arith, length-append a b))

  record HeldAll (s : S) (n : ℕ) (bs : List ℕ) (p : ℕ) (xs : List A) (q : ℕ) : Type 0 where
    count : length xs ≡ n
    fine : FineAll F next s xs
    front : drop p bs ≡ write_all F next s xs ++ drop q bs
    long : q ≡ p + length (write_all F next s xs)

  many_held : (n : ℕ) (s : S) (xs : List A) (bs : List ℕ) (p q : ℕ) → many F next s n bs p ≡ Ok (xs, q) → HeldAll s n bs p xs q
  unfolding many write_all FineAll
  many_held zero s xs bs p q e =
      let t = same_step [] xs p q e in
      subst (λ l. HeldAll s 0 bs p l q) t.0 (record { count = refl; fine = tt; front = ap (λ k. drop k bs) t.1; long = omega (arith, t.1) })
  many_held (suc n) s xs bs p q e =
      let (a, r, e₁, e₂) = then_ok ((F s).read bs p) (λ a q. and_then (many F next (next s a) n bs q) (λ xs r. Ok (a ∷ xs, r))) xs q e in
      let (ys, t, e₃, e₄) = then_ok (many F next (next s a) n bs r) (λ xs r. Ok (a ∷ xs, r)) xs q e₂ in
      let u = same_step (a ∷ ys) xs t q e₄ in
      let h = (law s).held a bs p r e₁ in
      let k = many_held n (next s a) ys bs r t e₃ in
      subst (λ l. HeldAll s (suc n) bs p l q) u.0 (subst (λ j. HeldAll s (suc n) bs p (a ∷ ys) j) u.1 (record {
        count = ap suc k.count;
        fine = (h.fine, k.fine);
        front = h.front ∙ ap (λ l. (F s).write a ++ l) k.front ∙ sym (append_assoc ((F s).write a) (write_all F next (next s a) ys) (drop t bs));
        long = omega (arith, h.long, k.long, length-append ((F s).write a) (write_all F next (next s a) ys));
      }))

  pub repeated_lawful : (n : ℕ) (s : S) → LawfulFormat (repeated n F next s)
  repeated_lawful n s = record {
    back = λ xs bs rest p fine e. ap (λ k. many F next s k bs p) (sym fine.0) ∙ many_back xs s bs rest p fine.1 e;
    held = λ xs bs p q e. let k = many_held n s xs bs p q e in record { fine = (k.count, k.fine); front = k.front; long = k.long };
  }

  pub counted_lawful : (N : Format ℕ) (s : S) → LawfulFormat N → LawfulFormat (counted N F next s)
  counted_lawful N s n = record {
    back = λ xs bs rest p fine e.
        let a = N.write (length xs) in
        let b = write_all F next s xs in
        let e' = e ∙ append_assoc a b rest in
        ap (λ t. and_then t (λ n q. many F next s n bs q)) (n.back (length xs) bs (b ++ rest) p fine.0 e')
        ∙ many_back xs s bs rest (p + length a) fine.1 (past a (b ++ rest) bs p e')
        ∙ ap (λ k. Ok (xs, k)) (omega (arith, length-append a b));
    held = λ xs bs p q e.
        let (m, r, e₁, e₂) = then_ok (N.read bs p) (λ n q. many F next s n bs q) xs q e in
        let k = many_held m s xs bs r q e₂ in
        let h : Held N bs p (length xs) r = subst (λ j. Held N bs p j r) (sym k.count) (n.held m bs p r e₁) in
        record {
          fine = (h.fine, k.fine);
          front = h.front ∙ ap (λ l. N.write (length xs) ++ l) k.front ∙ sym (append_assoc (N.write (length xs)) (write_all F next s xs) (drop q bs));
          long = omega (arith, h.long, k.long, length-append (N.write (length xs)) (write_all F next s xs));
        };
  }

pub plain_lawful : {A : Type 0} (N : Format ℕ) (F : Format A) → LawfulFormat N → LawfulFormat F → LawfulFormat (plain N F)
plain_lawful N F n f = counted_lawful {S = Unit {0}} (λ _. F) (λ _ _. tt) (λ _. f) N tt n

-- a whole file

pub file_back : {A : Type 0} (F : Format A) → LawfulFormat F → (a : A) (rest : List ℕ) → F.Fine a → F.read (F.write a ++ rest) 0 ≡ Ok (a, length (F.write a))
file_back F f a rest fine = f.back a (F.write a ++ rest) rest 0 fine refl ∙ ap (λ k. Ok (a, k)) (zero-add (length (F.write a)))

pub file_held : {A : Type 0} (F : Format A) → LawfulFormat F → (a : A) (bs : List ℕ) (q : ℕ) → F.read bs 0 ≡ Ok (a, q) → take q bs ≡ F.write a
file_held F f a bs q e =
    let h = f.held a bs 0 q e in
    ap (take q) h.front ∙ take_at (F.write a) (drop q bs) q (omega (arith, h.long))
