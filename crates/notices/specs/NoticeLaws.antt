-- A book under notices keeps the laws of books: the proofs.
use Rattle.std.specs.Prelude.{◌≡◌, ℕ, ◌+◌, ◌<◌, ◌≤◌, Bool, true, false, cond, ◌&&◌, ◌⊎◌, List, Some, None, Option, nat_le, nat_lt, refl}
use Rattle.std.proofs.Common.{inl, inr, arith}
use Rattle.std.proofs.lemmas.Bool.{ltb-true, ltb-false, leb-true, leb-false}
use Rattle.model.specs.Clock.{horizon}
use Rattle.model.specs.Books.{LawfulBook, Fair, Within, NoLater}
use Rattle.notices.specs.Notices.{going, delayed, under, notice_of, noticed}
use Rattle.notices.specs.declared.notice.Notice.{Notice}

-- going n t, by what the tests say
going_cases : (n : Notice) (t : ℕ) → ((n.shut ≤ t) × (t < n.until) × (going n t ≡ n.until)) ⊎ (((t < n.shut) × (going n t ≡ t)) ⊎ ((n.until ≤ t) × (going n t ≡ t)))
going_cases n t = go (nat_le x t) (nat_lt t y) (leb-true x t) (leb-false x t) (ltb-true t y) (ltb-false t y)
  where
    x : ℕ
    x = n.shut

    y : ℕ
    y = n.until

    go : (a b : Bool) → (a ≡ true → x ≤ t) → (a ≡ false → t < x) → (b ≡ true → t < y) → (b ≡ false → y ≤ t) → ((x ≤ t) × (t < y) × (cond (a && b) y t ≡ y)) ⊎ (((t < x) × (cond (a && b) y t ≡ t)) ⊎ ((y ≤ t) × (cond (a && b) y t ≡ t)))
    go true true p p' q q' = inl (p refl, q refl, refl)
    go true false p p' q q' = inr (inr (q' refl, refl))
    go false true p p' q q' = inr (inl (p' refl, refl))
    go false false p p' q q' = inr (inl (p' refl, refl))

going_ge : (n : Notice) (t : ℕ) → t ≤ going n t
going_ge n t = omega (arith, going_cases n t)

going_mono : (n : Notice) (t u : ℕ) → t ≤ u → going n t ≤ going n u
going_mono n t u h = let p = going_cases n t in let q = going_cases n u in omega arith

-- a second, or none above the horizon
abbrev timely : ℕ → Option ℕ
timely a = cond (nat_le a horizon) (Some a) None

timely_within : (t a : ℕ) → t ≤ a → Within t horizon (timely a)
timely_within t a h = go (nat_le a horizon) (leb-true a horizon)
  where
    go : (b : Bool) → (b ≡ true → a ≤ horizon) → Within t horizon (cond b (Some a) None)
    go true p = (h, p refl)
    go false p = tt

timely_later : (a b : ℕ) → a ≤ b → NoLater (timely a) (timely b)
timely_later a b h = go (nat_le a horizon) (nat_le b horizon) (leb-false a horizon) (leb-true b horizon)
  where
    go : (x y : Bool) → (x ≡ false → horizon < a) → (y ≡ true → b ≤ horizon) → NoLater (cond x (Some a) None) (cond y (Some b) None)
    go true true p q = h
    go true false p q = tt
    go false true p q = let k = p refl in let l = q refl in absurd (omega arith)
    go false false p q = tt

delayed_within : (late t u : ℕ) (o : Option ℕ) → t ≤ u → Within u horizon o → Within t horizon (delayed late o)
delayed_within late t u None h w = tt
delayed_within late t u (Some a) h w = timely_within t (a + late) (omega arith)

later_none : (o : Option ℕ) → NoLater o None
later_none None = tt
later_none (Some a) = tt

delayed_later : (late : ℕ) (o p : Option ℕ) → NoLater o p → NoLater (delayed late o) (delayed late p)
delayed_later late None None h = tt
delayed_later late None (Some b) h = absurd h
delayed_later late (Some a) None h = later_none (timely (a + late))
delayed_later late (Some a) (Some b) h = timely_later (a + late) (b + late) (omega arith)

under_fair : (o : Option Notice) (f : ℕ → Option ℕ) → Fair f → Fair (under o f)
under_fair None f p = record { late = p.late; forward = p.forward; fifo = p.fifo }
under_fair (Some n) f p = record {
  late = λ t h. let k = going_ge n t in rw (p.late (going n t) (omega arith));
  forward = λ t. delayed_within n.lateness t (going n t) (f (going n t)) (going_ge n t) (p.forward (going n t));
  fifo = λ t u h. delayed_later n.lateness (f (going n t)) (f (going n u)) (p.fifo (going n t) (going n u) (going_mono n t u h));
}

under_none : (o : Option Notice) (f : ℕ → Option ℕ) → ((t : ℕ) → f t ≡ None) → (t : ℕ) → under o f t ≡ None
under_none None f e t = e t
under_none (Some n) f e t = rw (e (going n t))

pub noticed_lawful : (ns : List Notice) {m : ℕ} {f : ℕ → ℕ → Option ℕ} → LawfulBook m f → LawfulBook m (noticed ns f)
noticed_lawful ns {m} {f} p = record {
  counted = p.counted;
  beyond = λ s t h. under_none (notice_of s ns) (f s) (λ u. p.beyond s u h) t;
  fair = λ s. under_fair (notice_of s ns) (f s) (p.fair s);
}
