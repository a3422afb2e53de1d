-- An enquiry in an input: start, target and second, as numbers of any size.
use Rattle.std.specs.Prelude.{ℕ, ◌^◌, ◌<◌}
use Rattle.model.specs.declared.enquiry.Enquiry.{Enquiry}
use Rattle.wire.specs.Grammar.{Format, number, both, mapped}

-- a number that a file can hold
abbrev pub Small : ℕ → Type 0
Small n = n < 2 ^ 32

abbrev pub enquiry : Format Enquiry
enquiry =
    mapped (λ x. record { start = x.0; target = x.1.0; second = x.1.1 }) (λ e. (e.start, (e.target, e.second)))
    (λ e. Small e.start × Small e.target × Small e.second)
    (both number (λ _. both number (λ _. number)))
