-- Where the steps of a word lead.
use Rattle.std.proofs.Common.{◌≡◌, ℕ, ◌<◌, Bool, false, List, [], ◌∷◌, Some, None, Decides, sym, ap, ◌∙◌, arith}
use Rattle.std.proofs.lemmas.Option.{none-some}
use Rattle.model.specs.Rules.{Automaton, LawfulRule, Accepts, leads}
use Rattle.model.proofs.Options.{onward_parts}

-- a word leads from a state to a state
pub leads_below : (a : Automaton) → LawfulRule a → (s : ℕ) (word : List ℕ) (t : ℕ) → s < a.states → leads a.next s word ≡ Some t → t < a.states
leads_below a law s [] t lt h = let e : s ≡ t = cc in omega arith
leads_below a law s (x ∷ xs) t lt h =
    let p = onward_parts (a.next s x) (λ n. leads a.next n xs) t h in
    leads_below a law p.0 xs t (law.closed s x p.0 p.1) p.2

-- a word that leads to a state is accepted if and only if that is an end
pub decides_at_end : (a : Automaton) (word : List ℕ) (s : ℕ) (r : Bool) → leads a.next 0 word ≡ Some s → r ≡ a.ends s → Decides r (Accepts a word)
decides_at_end a word s r led is = (
  λ e. record { last = s; led = led; ending = sym is ∙ e },
  λ h. let last : h.last ≡ s = same_some h.led in is ∙ ap (λ t. a.ends t) (sym last) ∙ h.ending,
)
  where
    same_some : {t : ℕ} → leads a.next 0 word ≡ Some t → t ≡ s
    same_some e = cc

-- a word that leads nowhere is not accepted
pub decides_nowhere : (a : Automaton) (word : List ℕ) → leads a.next 0 word ≡ None → Decides false (Accepts a word)
decides_nowhere a word lost = (
  λ e. let z : ◌≡◌ {A = ℕ} 0 1 = cc in absurd (omega arith),
  λ h. absurd (none-some h.last (sym lost ∙ h.led)),
)
