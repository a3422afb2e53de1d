-- The walk back along the labels.
use Rattle.std.proofs.Common.{◌≡◌, ℕ, suc, ◌+◌, ◌*◌, ◌<◌, ◌≤◌, List, [], ◌∷◌, ◌++◌, length, get_or, take, drop, set, Some, None, sym, refl, ap, ◌∙◌, subst, append_assoc, append-nil, arith, length-append, take-append-drop, length-take}
use Rattle.std.specs.List.{slice_get}
use Rattle.std.proofs.lemmas.Option.{slice_get-get_or}
use Rattle.std.proofs.lemmas.List.{take_more, set_at}
use Rattle.model.specs.declared.network.Arc.{Arc}
use Rattle.model.specs.declared.network.Place.{Place}
use Rattle.labels.specs.declared.label.Label.{Label}
use Rattle.model.specs.declared.network.Leg.{Leg}
use Rattle.model.specs.Trips.{place}
use Rattle.labels.specs.Table.{Table, Traced, source, after}
use Rattle.model.proofs.Options.{one_some}
use Rattle.labels.proofs.Tables.{nth_below}
use Rattle.labels.specs.Rows.{Rows, view, Before}
use Rattle.labels.proofs.Searching.{view_some, row_below}

-- where a label's arc and the row before it stand
pub record Behind (arcs : List Arc) (rows : Rows) (k : ℕ) (d : Arc) (l m : Label) : Type 0 where
  pub arc : l.arc < length arcs
  pub row : (get_or arcs l.arc d).tail * k + l.state < length rows
  pub found : get_or rows ((get_or arcs l.arc d).tail * k + l.state) None ≡ Some m
  pub same : slice_get arcs l.arc ≡ Some (get_or arcs l.arc d)
  pub known : view k rows (place (get_or arcs l.arc d).tail l.state) ≡ Some m

pub behind : (arcs : List Arc) (rows : Rows) (k : ℕ) (d : Arc) (l m : Label) → Before arcs (view k rows) l m → Behind arcs rows k d l m
behind arcs rows k d l m b =
    let h : l.arc < length arcs = nth_below arcs l.arc b.0 b.1 in
    let e : slice_get arcs l.arc ≡ Some (get_or arcs l.arc d) = slice_get-get_or arcs l.arc d h in
    let x : b.0 ≡ get_or arcs l.arc d = one_some (slice_get arcs l.arc) b.0 (get_or arcs l.arc d) b.1 e in
    let v : view k rows (place (get_or arcs l.arc d).tail l.state) ≡ Some m
    = subst (λ (z : Arc). view k rows (place z.tail l.state) ≡ Some m) x b.2 in
    let y = view_some k rows (place (get_or arcs l.arc d).tail l.state) m v in
    record { arc = h; row = row_below rows ((get_or arcs l.arc d).tail * k + l.state) m y.1; found = y.1; same = e; known = v }

-- the last leg of a traced list, where there is one
pub record Last (arcs : List Arc) (T : Table) (js : List Leg) (q : Place) (l : Label) : Type 0 where
  pub arc : Arc
  pub label : Label
  pub before : List Leg
  pub fewer : l.legs ≡ suc label.legs
  pub numbered : slice_get arcs l.arc ≡ Some arc
  pub known : T (place arc.tail l.state) ≡ Some label
  pub traced : Traced arcs T before (place arc.tail l.state)
  pub is : js ≡ before ++ (record { arc = l.arc; entered = label.second; arrived = l.second } ∷ [])

pub last_of : (arcs : List Arc) (T : Table) (l : Label) {js : List Leg} {q : Place} → Traced arcs T js q → T q ≡ Some l → 0 < l.legs → Last arcs T js q l
last_of arcs T l {js} {q} (source {l = k} e h) f pos =
    let z : k.legs ≡ l.legs = ap Label.legs (one_some (T q) k l e f) in absurd (omega arith)
last_of arcs T l {js} {q} (after {p = p} {l = k} {m = m} {x = x} {ls = ls} e h n pe g more is) f pos =
    subst (λ (z : Label). Last arcs T js q z) (one_some (T q) k l e f)
    (record {
      arc = x;
      label = m;
      before = ls;
      fewer = h;
      numbered = n;
      known = subst (λ (z : Place). T z ≡ Some m) pe g;
      traced = subst (λ (z : Place). Traced arcs T ls z) pe more;
      is = is;
    })

pub traced_none : (arcs : List Arc) (T : Table) (l : Label) {js : List Leg} {q : Place} → Traced arcs T js q → T q ≡ Some l → l.legs ≡ 0 → js ≡ []
traced_none arcs T l {js} {q} (source e h) f none = refl
traced_none arcs T l {js} {q} (after {l = k} e h n pe g more is) f none =
    let z : k.legs ≡ l.legs = ap Label.legs (one_some (T q) k l e f) in absurd (omega arith)

-- a label has as many legs as can be traced back from it
pub traced_length : (arcs : List Arc) (T : Table) {js : List Leg} {q : Place} → Traced arcs T js q → (l : Label) → T q ≡ Some l → length js ≡ l.legs
traced_length arcs T {js} {q} (source {l = k} e h) l f =
    let z : k.legs ≡ l.legs = ap Label.legs (one_some (T q) k l e f) in omega arith
traced_length arcs T {js} {q} (after {l = k} {m = m} {ls = ls} e h n pe g more is) l f =
    let z : k.legs ≡ l.legs = ap Label.legs (one_some (T q) k l e f) in
    let y : length ls ≡ m.legs = traced_length arcs T more m g in
    let x : length js ≡ length ls + 1 = ap length is ∙ length-append ls (record { arc = k.arc; entered = m.second; arrived = k.second } ∷ []) in
    omega arith

-- and only one list of legs
pub traced_one : (arcs : List Arc) (T : Table) {js ks : List Leg} {q : Place} → Traced arcs T js q → Traced arcs T ks q → js ≡ ks
traced_one arcs T {js} {ks} {q} (source {l = l} e h) t = sym (traced_none arcs T l t e h)
traced_one arcs T {js} {ks} {q} (after {l = l} {m = m} {x = x} {ls = ls} e h n pe g more is) t =
    let y = last_of arcs T l t e (omega arith) in
    let xy : x ≡ y.arc = one_some (slice_get arcs l.arc) x y.arc n y.numbered in
    let p : place x.tail l.state ≡ place y.arc.tail l.state = ap (λ (z : Arc). place z.tail l.state) xy in
    let my : m ≡ y.label = one_some (T (place y.arc.tail l.state)) m y.label (subst (λ (z : Place). T z ≡ Some m) (pe ∙ p) g) y.known in
    let ih : ls ≡ y.before = traced_one arcs T more (subst (λ (z : Place). Traced arcs T y.before z) (sym (pe ∙ p)) y.traced) in
    is ∙ (λ i. ih i ++ (record { arc = l.arc; entered = (my i).second; arrived = l.second } ∷ [])) ∙ sym y.is

-- the walk back from q stands at a place with the label l, the legs behind it are written into the slip that held the rows `old`
pub record Walk (arcs : List Arc) (T : Table) (q : Place) (old slip : List Leg) (l : Label) : Type 0 where
  pub at : Place
  pub legs : List Leg
  pub done : List Leg
  pub known : T at ≡ Some l
  pub traced : Traced arcs T legs at
  pub whole : Traced arcs T (legs ++ done) q
  pub rows : slip ≡ take (length legs) old ++ (done ++ drop (length (legs ++ done)) old)
  pub room : length (legs ++ done) ≤ length old

pub walk_begin : (arcs : List Arc) (T : Table) (q : Place) (old : List Leg) (l : Label) → T q ≡ Some l → l.legs ≤ length old → (js : List Leg) → Traced arcs T js q
    → Walk arcs T q old old l
walk_begin arcs T q old l e h js t =
    let n : length js ≡ l.legs = traced_length arcs T t l e in
    let nil : js ++ [] ≡ js = append-nil js in
    record {
      at = q;
      legs = js;
      done = [];
      known = e;
      traced = t;
      whole = subst (λ (z : List Leg). Traced arcs T z q) (sym nil) t;
      rows = sym (take-append-drop (length js) old) ∙ ap (λ (z : List Leg). take (length js) old ++ drop (length z) old) (sym nil);
      room = let m : length (js ++ []) ≡ length js = ap length nil in omega arith;
    }

module _ (arcs : List Arc) (T : Table) (q : Place) (old slip : List Leg) (l : Label) (walk : Walk arcs T q old slip l) where
  pub walk_back : 0 < l.legs → (m : Label) × Before arcs T l m
  walk_back pos = let y = last_of arcs T l walk.traced walk.known pos in (y.label, (y.arc, y.numbered, y.known))

  -- one leg back: written into the row that its place's label names
  module _ (m : Label) (pos : 0 < l.legs) (b : Before arcs T l m) where
    leg : Leg
    leg = record { arc = l.arc; entered = m.second; arrived = l.second }

    pub last : Last arcs T walk.legs walk.at l
    last = last_of arcs T l walk.traced walk.known pos

    arc_is : last.arc ≡ b.0
    arc_is = one_some (slice_get arcs l.arc) last.arc b.0 last.numbered b.1

    label_is : last.label ≡ m
    label_is = one_some (T (place b.0.tail l.state)) last.label m (subst (λ (z : Arc). T (place z.tail l.state) ≡ Some last.label) arc_is last.known) b.2

    pub fewer : l.legs ≡ suc m.legs
    fewer = last.fewer ∙ ap (λ (z : Label). suc z.legs) label_is

    legs_are : walk.legs ≡ last.before ++ (leg ∷ [])
    unfolding leg
    legs_are = last.is ∙ ap (λ (z : Label). last.before ++ (record { arc = l.arc; entered = z.second; arrived = l.second } ∷ [])) label_is

    before_length : length last.before ≡ m.legs
    before_length = traced_length arcs T last.traced m (subst (λ (z : Label). T (place last.arc.tail l.state) ≡ Some z) label_is last.known)

    whole_is : walk.legs ++ walk.done ≡ last.before ++ (leg ∷ walk.done)
    whole_is = ap (λ (z : List Leg). z ++ walk.done) legs_are ∙ append_assoc last.before (leg ∷ []) walk.done

    within : m.legs < length old
    within =
        let a : length (walk.legs ++ walk.done) ≤ length old = walk.room in
        let c : length (walk.legs ++ walk.done) ≡ length last.before + length (leg ∷ walk.done) = ap length whole_is ∙ length-append last.before (leg ∷ walk.done) in
        let d : length last.before ≡ m.legs = before_length in
        omega arith

    pub row_there : m.legs < length slip
    row_there =
        let w : m.legs < length old = within in
        let n : length walk.legs ≡ l.legs = traced_length arcs T walk.traced l walk.known in
        let f : l.legs ≡ suc m.legs = fewer in
        let e : length slip ≡ length (take (length walk.legs) old) + length (walk.done ++ drop (length (walk.legs ++ walk.done)) old)
        = ap length walk.rows ∙ length-append (take (length walk.legs) old) (walk.done ++ drop (length (walk.legs ++ walk.done)) old) in
        let t = length-take (length walk.legs) old in
        let r : length walk.legs ≤ length old = omega arith in
        omega arith

    rest : List Leg
    rest = walk.done ++ drop (length (walk.legs ++ walk.done)) old

    slip_is : slip ≡ take m.legs old ++ (get_or old m.legs leg ∷ rest)
    unfolding rest
    slip_is =
        let n : length walk.legs ≡ l.legs = traced_length arcs T walk.traced l walk.known in
        let f : l.legs ≡ suc m.legs = fewer in
        let k : length walk.legs ≡ m.legs + 1 = omega arith in
        walk.rows
        ∙ ap (λ (z : ℕ). take z old ++ rest) k
        ∙ ap (λ (z : List Leg). z ++ rest) (take_more old m.legs leg within)
        ∙ append_assoc (take m.legs old) (get_or old m.legs leg ∷ []) rest

    written : set slip m.legs leg ≡ take m.legs old ++ (leg ∷ rest)
    written =
        let n : length (take m.legs old) ≡ m.legs = let t = length-take m.legs old in let w : m.legs < length old = within in omega arith in
        ap (λ (z : List Leg). set z m.legs leg) slip_is
        ∙ set_at (take m.legs old) (get_or old m.legs leg) rest leg m.legs n

    pub walk_on : Walk arcs T q old (set slip m.legs (record { arc = l.arc; entered = m.second; arrived = l.second })) m
    unfolding leg rest
    walk_on = record {
      at = place last.arc.tail l.state;
      legs = last.before;
      done = leg ∷ walk.done;
      known = subst (λ (z : Label). T (place last.arc.tail l.state) ≡ Some z) label_is last.known;
      traced = last.traced;
      whole = subst (λ (z : List Leg). Traced arcs T z q) whole_is walk.whole;
      rows =
          written
          ∙ ap (λ (n : ℕ). take n old ++ (leg ∷ rest)) (sym before_length)
          ∙ ap (λ (z : List Leg). take (length last.before) old ++ (leg ∷ (walk.done ++ drop (length z) old))) whole_is;
      room = subst (λ (z : List Leg). length z ≤ length old) whole_is walk.room;
    }

  -- at the first place all legs are written
  pub walk_end : l.legs ≡ 0 → (js : List Leg) → Traced arcs T js q → slip ≡ js ++ drop (length js) old
  walk_end h js t =
      let none : walk.legs ≡ [] = traced_none arcs T l walk.traced walk.known h in
      let all : walk.legs ++ walk.done ≡ js = traced_one arcs T walk.whole t in
      let done : walk.done ≡ js = ap (λ (z : List Leg). z ++ walk.done) (sym none) ∙ all in
      walk.rows
      ∙ ap (λ (z : List Leg). take (length z) old ++ (walk.done ++ drop (length (walk.legs ++ walk.done)) old)) none
      ∙ (λ i. done i ++ drop (length (all i)) old)
