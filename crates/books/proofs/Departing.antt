-- The connections of a list that depart at or after a second, and the rows of a service.
use Rattle.std.proofs.Common.{◌≡◌, ℕ, suc, ◌<◌, ◌≤◌, cond, List, [], ◌∷◌, length, get_or, None, sym, refl, ap, ◌∙◌, subst, ⊎_elim, arith}
use Rattle.std.proofs.lemmas.List.{get_or_past}
use Rattle.std.proofs.lemmas.Bool.{lt-leb, lt-ltb, le-ltb, cases_lt}
use Rattle.model.specs.declared.tables.Connection.{Connection}
use Rattle.model.specs.declared.tables.Span.{Span}
use Rattle.meanings.specs.Spans.{rows, service_rows, no_span, Each}
use Rattle.meanings.specs.Timetables.{caught, earliest, timetabled, no_connection, Rising}

-- a service that is not there has no rows
pub no_rows : (cs : List Connection) (spans : List Span) (s : ℕ) → length spans ≤ s → service_rows cs spans s ≡ []
no_rows cs spans s over = ap (rows cs) (get_or_past spans s no_span over)

-- after the last departure there is none
pub none_caught : (cs : List Connection) (t : ℕ) → ((k : ℕ) → k < length cs → (get_or cs k no_connection).departure < t) → caught t cs ≡ []
none_caught [] t before = refl
none_caught (c ∷ cs) t before = let h : c.departure < t = before 0 (omega arith) in rw (lt-leb t c.departure h) (none_caught cs t (λ k l. before (suc k) (omega arith)))

-- what holds of the rows of every service, and of no rows, holds of those of any service, there or not
pub of_any_service : (P : List Connection → Type 0) (cs : List Connection) (spans : List Span) → P [] → Each P cs spans → (s : ℕ) → P (service_rows cs spans s)
of_any_service P cs spans none each s = ⊎_elim (each s) (λ over. subst P (sym (no_rows cs spans s over)) none) (cases_lt s (length spans))

pub rising_rows : (cs : List Connection) (spans : List Span) → Each Rising cs spans → (s : ℕ) → Rising (service_rows cs spans s)
rising_rows cs spans = of_any_service Rising cs spans (λ j l. absurd (omega arith))

-- a service that is not there has no rows, so nothing is to be tested for what it answers
pub answer_by_rows : (cs : List Connection) (spans : List Span) (s t : ℕ) → timetabled cs spans s t ≡ earliest (service_rows cs spans s) t
answer_by_rows cs spans s t = ⊎_elim
    (λ h. rw (lt-ltb s (length spans) h))
    (λ over. ap (λ b. cond b (earliest (service_rows cs spans s) t) None) (le-ltb s (length spans) over) ∙ sym (ap (λ l. earliest l t) (no_rows cs spans s over)))
    (cases_lt s (length spans))
