-- First seconds, ranks, journeys and answers are unique.
use Rattle.std.proofs.Common.{◌≡◌, ℕ, suc, ◌≤◌, List, [], ◌∷◌, ◌++◌, length, Some, None, Option, sym, refl, ap, ◌∙◌, subst, arith}
use Rattle.std.specs.List.{slice_get}
use Rattle.model.specs.Trips.{World, Place, Leg, Rides, First, Rank, EagerLeg, Journey, none, on, Chosen, Upto2, Upto3}
use Rattle.model.specs.Claims.{FirstIsOne, RankIsOne, JourneyIsOne, AnswerIsOne}

pub place_is : (p q : Place) → p.stop ≡ q.stop → p.state ≡ q.state → p ≡ q
place_is p q a b = λ i. record { stop = a i; state = b i }

pub leg_is : (k l : Leg) → k.arc ≡ l.arc → k.entered ≡ l.entered → k.arrived ≡ l.arrived → k ≡ l
leg_is k l a b c = λ i. record { arc = a i; entered = b i; arrived = c i }

pub first_is_one : FirstIsOne
first_is_one w o t q a b f g = omega (arith, f.soonest g.legs b g.trip, g.soonest f.legs a f.trip)

pub rank_is_one : RankIsOne
rank_is_one w o t q m n f g =
    let h : m ≤ length g.legs = f.fewest g.legs g.second g.eager in
    let k : n ≤ length f.legs = g.fewest f.legs f.second f.eager in
    let c : length f.legs ≡ m = f.count in
    let d : length g.legs ≡ n = g.count in
    omega arith

-- two legs over one arc leave the same stop
same_tail : (w : World) (p q r s : Place) (k l : Leg) → k.arc ≡ l.arc → Rides w p k r → Rides w q l s → p.stop ≡ q.stop
same_tail w p q r s k l e x y =
    let n : slice_get w.arcs k.arc ≡ Some x.along = x.numbered in
    let m : slice_get w.arcs l.arc ≡ Some y.along = y.numbered in
    let a : x.along.tail ≡ p.stop = x.leaves in
    let b : y.along.tail ≡ q.stop = y.leaves in
    cc

module _ (w : World) (o : Place) (t : ℕ) where
  first_at : (q r : Place) (a b : ℕ) → q ≡ r → First w o t q a → First w o t r b → a ≡ b
  first_at q r a b e f g = first_is_one w o t r a b (subst (λ (x : Place). First w o t x a) e f) g

  rank_at : (q r : Place) (m n : ℕ) → q ≡ r → Rank w o t q m → Rank w o t r n → m ≡ n
  rank_at q r m n e f g = rank_is_one w o t r m n (subst (λ (x : Place). Rank w o t x m) e f) g

  journey_at : {q r : Place} {js ks : List Leg} → Journey w o t js q → Journey w o t ks r → q ≡ r → js ≡ ks
  journey_at (none a) (none b) e = refl
  journey_at {q} {r} (none a) (on {n} b _ _ _ _ _) e =
      let h : 0 ≡ suc n = rank_at q r 0 (suc n) e a b in absurd (omega arith)
  journey_at {q} {r} (on {n} a _ _ _ _ _) (none b) e =
      let h : suc n ≡ 0 = rank_at q r (suc n) 0 e a b in absurd (omega arith)
  journey_at {q} {r} (on {p = p} {n = n} {l = l} {ls = ls} {js = js} a b c d j f) (on {p = p'} {n = n'} {l = l'} {ls = ls'} {js = js'} a' b' c' d' j' f') e =
      let sn : suc n ≡ suc n' = rank_at q r (suc n) (suc n') e a a' in
      let nn : n ≡ n' = omega arith in
      let x : Upto2 l.arc p.state l'.arc p'.state
      = d p' l' (subst (λ (k : ℕ). Rank w o t p' k) (sym nn) b') (subst (λ (z : Place). EagerLeg w o t p' l' z) (sym e) c') in
      let y : Upto2 l'.arc p'.state l.arc p.state
      = d' p l (subst (λ (k : ℕ). Rank w o t p k) nn b) (subst (λ (z : Place). EagerLeg w o t p l z) e c) in
      let num : l.arc ≡ l'.arc = omega arith in
      let sta : p.state ≡ p'.state = omega arith in
      let pp : p ≡ p' = place_is p p' (same_tail w p p' q r l l' num c.rides c'.rides) sta in
      let ll : l ≡ l' = leg_is l l' num (first_at p p' l.entered l'.entered pp c.leaving c'.leaving) (first_at q r l.arrived l'.arrived e c.coming c'.coming) in
      let ih : ls ≡ ls' = journey_at j j' pp in
      f ∙ ap (λ (z : List Leg). z ++ (l ∷ [])) ih ∙ ap (λ (z : Leg). ls' ++ (z ∷ [])) ll ∙ sym f'

pub journey_is_one : JourneyIsOne
journey_is_one w o t q js ks j k = journey_at w o t j k refl

pub chosen_is_one : (w : World) (o : Place) (t target : ℕ) (q r : Place) → Chosen w o t target q → Chosen w o t target r → q ≡ r
chosen_is_one w o t target q r c d =
    let x : Upto3 c.second c.legs q.state d.second d.legs r.state = c.best r d.second d.legs d.«end» d.first d.rank in
    let y : Upto3 d.second d.legs r.state c.second c.legs q.state = d.best q c.second c.legs c.«end» c.first c.rank in
    place_is q r (c.«end».0 ∙ sym d.«end».0) (omega arith)

pub answer_is_one : AnswerIsOne
answer_is_one w o t target None None a b = refl
answer_is_one w o t target None (Some ks) a b = absurd (a b.0 b.1.first.legs b.1.second b.1.«end» b.1.first.trip)
answer_is_one w o t target (Some js) None a b = absurd (b a.0 a.1.first.legs a.1.second a.1.«end» a.1.first.trip)
answer_is_one w o t target (Some js) (Some ks) a b =
    ap {B = Option (List Leg)} Some (journey_at w o t a.2 b.2 (chosen_is_one w o t target a.0 b.0 a.1 b.1))
