-- What the edits of a table's rows do to the notices that it holds.
use Rattle.std.proofs.Common.{◌≡◌, ℕ, replicate, Some, eqb, ◌+◌, ◌-◌, ◌<◌, ◌≤◌, ◌≢◌, List, length, get_or, take, set, sym, ap, ◌∙◌, ⊎_elim, arith}
use Rattle.std.specs.List.{remove, position, CopiedTo, SameBelow, SameFrom}
use Rattle.std.proofs.Math.Seq.{take-set-lt}
use Rattle.std.proofs.lemmas.List.{length-take-le, length-replicate, get_or-take, get_or-replicate, get_or_past, get_or-set_same, get_or-set_other, take-set, ext_get_or}
use Rattle.std.proofs.lemmas.List.Edits.{length-remove, get_or-remove_below, get_or-remove_above}
use Rattle.std.proofs.lemmas.Bool.{cases_lt, cases_eq}
use Rattle.notices.specs.declared.notice.Notice.{Notice}
use Rattle.notices.specs.Notices.{amended, put_in}
use Rattle.notices.specs.Blanks.{blank, BlankFrom}
use Rattle.notices.proofs.Places.{position_within, put_over}

-- a row written within what stands, or as its new end
pub written_blank : (rows : List Notice) (n m i : ℕ) (v : Notice) → n ≤ m → i < m → BlankFrom n rows → BlankFrom m (set rows i v)
written_blank rows n m i v le lt b =
    λ k h. let ne : k ≢ i = omega arith in get_or-set_other rows i k v blank ne ∙ b k (omega arith)

-- the rows behind the one at `at` moved down over it, and the last one blank
pub lifted : (rows moved : List Notice) (n at : ℕ) → n ≤ length rows → length moved ≡ length rows → at < n → CopiedTo rows moved (at + 1) at (n - (at + 1)) → SameBelow rows moved at
    → take (n - 1) (set moved (n - 1) blank) ≡ remove (take n rows) at
lifted rows moved n at le same lt copied below =
    let L = take n rows in
    let l : length L ≡ n = length-take-le n rows le in
    let r : length (remove L at) + 1 ≡ length L = length-remove L at (omega arith) in
    let t : length (take (n - 1) moved) ≡ n - 1 = length-take-le (n - 1) moved (omega arith) in
    take-set moved (n - 1) blank ∙
    ext_get_or blank (take (n - 1) moved) (remove L at) (omega arith) (λ k h.
    get_or-take (n - 1) moved k blank (omega arith) ∙
    ⊎_elim
    (λ (b : k < at). below k blank b ∙ sym (get_or-take n rows k blank (omega arith)) ∙ sym (get_or-remove_below L at blank k b (omega arith)))
    (λ (a : at ≤ k).
    let here : (at + 1) + (k - at) ≡ k + 1 = omega arith in
    copied k blank a (omega arith) ∙ ap (λ i. get_or rows i blank) here ∙ sym (get_or-take n rows (k + 1) blank (omega arith)) ∙ sym (get_or-remove_above L at blank k a (omega arith)))
    (cases_lt k at))

pub lifted_blank : (rows moved : List Notice) (n m : ℕ) → n ≤ length rows → length moved ≡ length rows → 0 < n → m ≤ n → SameFrom rows moved m → BlankFrom n rows → BlankFrom (n - 1) (set moved (n - 1) blank)
lifted_blank rows moved n m le same lt within from b =
    λ k h. ⊎_elim
    (λ (e : k ≡ n - 1). ap (λ j. get_or (set moved (n - 1) blank) j blank) e ∙ get_or-set_same moved (n - 1) blank blank (omega arith))
    (λ (ne : k ≢ n - 1). get_or-set_other moved (n - 1) k blank blank ne ∙ from k blank (omega arith) ∙ b k (omega (arith, ne)))
    (cases_eq k (n - 1))

pub all_blank : (n m : ℕ) → BlankFrom m (replicate n blank)
all_blank n m = λ k h. ⊎_elim (λ (lt : k < n). get_or-replicate n k blank blank lt) (λ (le : n ≤ k). get_or_past (replicate n blank) k blank (omega (arith, length-replicate n blank))) (cases_lt k n)

-- a notice put over the one of its service
pub put_over_row : (n : Notice) (rows : List Notice) (len at : ℕ) → len ≤ 64 → len ≤ length rows → position (λ m. eqb m.service n.service) (take len rows) ≡ Some at → take len (set rows at (amended (get_or rows at blank) n)) ≡ put_in n (take len rows)
put_over_row n rows len at most le e =
    let L = take len rows in
    let l : length L ≡ len = length-take-le len rows le in
    let lt : at < len = omega (arith, position_within n.service L at e) in
    take-set-lt len rows at (amended (get_or rows at blank) n) lt ∙
    ap (λ m. set L at (amended m n)) (sym (get_or-take len rows at blank lt)) ∙
    (put_over n L at blank e (omega arith)).1
