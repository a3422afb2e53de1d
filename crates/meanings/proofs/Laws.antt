-- How answers come to keep the laws of books.
use Rattle.std.proofs.Common.{◌≡◌, ℕ, ◌-◌, ◌^◌, ◌<◌, ◌≤◌, Bool, true, false, cond, ltb, leb, Some, None, Option, refl, arith}
use Rattle.std.proofs.lemmas.Bool.{ltb-true, leb-true, leb-false, le-ltb, lt-leb}
use Rattle.model.specs.Books.{LawfulBook, Fair, Within, NoLater}
use Rattle.model.specs.Clock.{horizon}
use Rattle.meanings.specs.Answers.{timely, listed, joined, joined_count}

-- a book without services
pub empty_lawful : LawfulBook 0 (λ _ _. None)
empty_lawful = record {
  counted = omega arith;
  beyond = λ s t h. refl;
  fair = λ s. record { late = λ t h. refl; forward = λ t. tt; fifo = λ t u h. tt };
}

-- fair answers for each service below the count make a book
pub listed_lawful : (count : ℕ) (f : ℕ → ℕ → Option ℕ) → count < 2 ^ 32 → ((s : ℕ) → s < count → Fair (f s)) → LawfulBook count (λ s t. listed count s (f s t))
listed_lawful count f few fair = record { counted = few; beyond = λ s t h. rw (le-ltb s count h); fair = λ s. go s (ltb s count) (ltb-true s count) }
  where
    go : (s : ℕ) (b : Bool) → (b ≡ true → s < count) → Fair (λ t. cond b (f s t) None)
    go s true e = fair s (e refl)
    go s false e = record { late = λ t h. refl; forward = λ t. tt; fifo = λ t u h. tt }

-- what does not arrive before the coming, cut off at the horizon
pub timely_within : (t a : ℕ) → t ≤ a → Within t horizon (timely a)
timely_within t a h = go (leb a horizon) (leb-true a horizon)
  where
    go : (b : Bool) → (b ≡ true → a ≤ horizon) → Within t horizon (cond b (Some a) None)
    go true e = (h, e refl)
    go false e = tt

-- cutting off at the horizon keeps the order
pub timely_later : (a b : ℕ) → a ≤ b → NoLater (timely a) (timely b)
timely_later a b h = go (leb a horizon) (leb b horizon) (leb-false a horizon) (leb-true b horizon)
  where
    go : (x y : Bool) → (x ≡ false → horizon < a) → (y ≡ true → b ≤ horizon) → NoLater (cond x (Some a) None) (cond y (Some b) None)
    go true true p q = h
    go true false p q = tt
    go false true p q = let e = p refl in let f = q refl in omega arith
    go false false p q = tt

pub timely_late : (a : ℕ) → horizon < a → timely a ≡ None
timely_late a h = rw (lt-leb a horizon h)

-- what never arrives before the coming, and never falls, is fair up to the horizon
pub timely_fair : (f : ℕ → ℕ) → ((t : ℕ) → t ≤ f t) → ((t u : ℕ) → t ≤ u → f t ≤ f u) → Fair (λ t. timely (f t))
timely_fair f ahead mono = record {
  late = λ t h. let k = ahead t in timely_late (f t) (omega arith);
  forward = λ t. timely_within t (f t) (ahead t);
  fifo = λ t u h. timely_later (f t) (f u) (mono t u h);
}

-- two books as one are a book
pub joined_lawful : {m n : ℕ} {f g : ℕ → ℕ → Option ℕ} → LawfulBook m f → LawfulBook n g → LawfulBook (joined_count m n) (joined m f n g)
joined_lawful {m} {n} {f} {g} p q =
    listed_lawful (joined_count m n) (λ s t. cond (ltb s m) (f s t) (g (s - m) t)) (omega arith) (λ s _. go s (ltb s m))
  where
    go : (s : ℕ) (b : Bool) → Fair (λ t. cond b (f s t) (g (s - m) t))
    go s true = p.fair s
    go s false = q.fair (s - m)
