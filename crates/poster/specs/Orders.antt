-- The order of departures.
use Rattle.std.specs.Prelude.{◌≡◌, ℕ, ◌+◌, ◌<◌, ◌≤◌, Bool, true, false, ◌⊎◌, List, [], ◌∷◌, ◌++◌, ◌≢◌, refl}
use Rattle.std.proofs.Common.{sym, subst, ◌∙◌, inl, inr, arith}
use Rattle.std.specs.List.{ContainsAt as Has, AllByRecursion}
use Rattle.std.specs.List.Sorted.{IsPermutation}
use Rattle.std.proofs.ByRecursion.{All-push, all-has, All-weaker, all_shuffled}
use Rattle.std.proofs.lemmas.List.Sorted.{IsPermutation-refl, IsPermutation-sym, IsPermutation-cons, IsPermutation-swap, IsPermutation-trans}
use Rattle.std.proofs.lemmas.Bool.{both_ways}
use Rattle.std.proofs.lemmas.Bool.Decides.{nat_tests}
use Rattle.queue.specs.Lex.{lex}
use Rattle.queue.specs.Order.{Order}
use Rattle.queue.proofs.Triples.{by_three}
use Rattle.queue.proofs.Orders.{one_way, chain}
use Rattle.queue.proofs.Facts.{has_cases, has_front, has_behind}
use Rattle.poster.specs.declared.departure.Departure.{Departure}
use Rattle.poster.specs.Before.{departure_before, Ascending}

pub order : Order departure_before
order = by_three (λ (x : Departure). x.departure) (λ x. x.arc) (λ x. x.place) (λ x y p q r i. record { departure = p i; arc = q i; place = r i })

-- the next place on an arc, at no earlier second, is after
pub lex_next : (p a q r : ℕ) → p ≤ r → lex p a q r a (q + 1) ≡ true
lex_next p a q r h = grind (arith, nat_tests)

-- of two departures on different arcs one is before the other
pub lex_other : (p a q r b s : ℕ) → lex r b s p a q ≡ false → (b ≢ a) → lex p a q r b s ≡ true
lex_other p a q r b s h ne = grind (arith, nat_tests)

pub all_both : {X : Type 0} (P Q R : X → Type 0) → ((x : X) → P x → Q x → R x) → (xs : List X) → AllByRecursion P xs → AllByRecursion Q xs → AllByRecursion R xs
all_both P Q R f [] p q = tt
all_both P Q R f (x ∷ xs) p q = (f x p.0 q.0, all_both P Q R f xs p.1 q.1)

-- what is after all of a list comes at its end
pub ascending_push : (xs : List Departure) (x : Departure) → Ascending xs → AllByRecursion (λ z. departure_before z x ≡ true) xs → Ascending (xs ++ x ∷ [])
ascending_push [] x s a = (tt, tt)
ascending_push (z ∷ xs) x s a = (All-push (λ y. departure_before z y ≡ true) xs x s.0 a.0, ascending_push xs x s.1 a.1)

-- a list with a least element at its front
pub record LeastFirst (xs : List Departure) : Type 0 where
  pub first : Departure
  pub rest : List Departure
  pub shuffled : IsPermutation xs (first ∷ rest)
  pub least : AllByRecursion (λ y. departure_before y first ≡ false) rest

exchanged_front : (x y : Departure) (rest : List Departure) → IsPermutation (x ∷ (y ∷ rest)) (y ∷ (x ∷ rest))
exchanged_front x y rest = IsPermutation-swap (x ∷ (y ∷ rest)) (y ∷ (x ∷ rest)) 0 1 (omega arith) (omega arith) refl

pub least_first : (x : Departure) (xs : List Departure) → LeastFirst (x ∷ xs)
least_first x [] = record { first = x; rest = []; shuffled = IsPermutation-refl (x ∷ []); least = tt }
least_first x (z ∷ zs) = go (least_first z zs)
  where
    go : LeastFirst (z ∷ zs) → LeastFirst (x ∷ (z ∷ zs))
    go f = by (departure_before x f.first) refl
      where
        by : (b : Bool) → departure_before x f.first ≡ b → LeastFirst (x ∷ (z ∷ zs))
        by true e =
            let behind : departure_before f.first x ≡ false = one_way departure_before order x f.first e in
            let all : AllByRecursion (λ y. departure_before y x ≡ false) (f.first ∷ f.rest)
            = (behind, All-weaker (λ y. departure_before y f.first ≡ false) (λ y. departure_before y x ≡ false) (λ y h. chain departure_before order y f.first x h behind) f.rest f.least) in
            record {
              first = x;
              rest = z ∷ zs;
              shuffled = IsPermutation-refl (x ∷ (z ∷ zs));
              least = all_shuffled (λ y. departure_before y x ≡ false) (f.first ∷ f.rest) (z ∷ zs) (IsPermutation-sym (z ∷ zs) (f.first ∷ f.rest) f.shuffled) all;
            }
        by false e = record {
          first = f.first;
          rest = x ∷ f.rest;
          shuffled = IsPermutation-trans (x ∷ (z ∷ zs)) (x ∷ (f.first ∷ f.rest)) (f.first ∷ (x ∷ f.rest)) (IsPermutation-cons x (z ∷ zs) (f.first ∷ f.rest) f.shuffled) (exchanged_front x f.first f.rest);
          least = (e, f.least);
        }

-- two ascending lists with the same elements are equal
never_itself : (x : Departure) → departure_before x x ≢ true
never_itself x h = both_ways (departure_before x x) (order.irreflexive x) h

-- what is behind equal fronts is alike
behind_front : (u : Departure) (us : List Departure) (v : Departure) (vs : List Departure) → v ≡ u → AllByRecursion (λ z. departure_before u z ≡ true) us
    → ((d : Departure) → Has (u ∷ us) d → Has (v ∷ vs) d) → (d : Departure) → Has us d → Has vs d
behind_front u us v vs e after all d h =
    elim (has_cases v vs d (all d (has_behind u us d h))) [
      | inl g ↦ absurd (never_itself u (subst (λ (z : Departure). departure_before u z ≡ true) (sym g ∙ e) (all-has (λ z. departure_before u z ≡ true) us d after h)))
      | inr g ↦ g
    ]

-- each of two fronts is in the other list, so they are equal
fronts_alike : (x : Departure) (xs : List Departure) (y : Departure) (ys : List Departure) → Ascending (x ∷ xs) → Ascending (y ∷ ys)
    → (y ≡ x) ⊎ Has ys x → (x ≡ y) ⊎ Has xs y → y ≡ x
fronts_alike x xs y ys a b (inl e) other = e
fronts_alike x xs y ys a b (inr h) (inl e) = sym e
fronts_alike x xs y ys a b (inr h) (inr k) =
    absurd (both_ways (departure_before x y) (one_way departure_before order y x (all-has (λ z. departure_before y z ≡ true) ys x b.0 h)) (all-has (λ z. departure_before x z ≡ true) xs y a.0 k))

pub ascending_one : (xs ys : List Departure) → Ascending xs → Ascending ys → ((d : Departure) → Has xs d → Has ys d) → ((d : Departure) → Has ys d → Has xs d) → xs ≡ ys
ascending_one [] [] a b to from = refl
ascending_one [] (y ∷ ys) a b to from = let h = from y (has_front y ys) in let lt : h.0 < 0 = h.1 in absurd (omega arith)
ascending_one (x ∷ xs) [] a b to from = let h = to x (has_front x xs) in let lt : h.0 < 0 = h.1 in absurd (omega arith)
ascending_one (x ∷ xs) (y ∷ ys) a b to from =
    let e : y ≡ x = fronts_alike x xs y ys a b (has_cases y ys x (to x (has_front x xs))) (has_cases x xs y (from y (has_front y ys))) in
    let rest : xs ≡ ys = ascending_one xs ys a.1 b.1 (behind_front x xs y ys e a.0 to) (behind_front y ys x xs (sym e) b.0 from) in
    λ i. sym e i ∷ rest i
