-- The lines of a summary of the sample.
use Rattle.std.proofs.Common.{◌≡◌, ◌∙◌, ℕ, ◌+◌, ◌*◌, Bool, true, List, Result, Ok, Err, IfOk, ap}
use Rattle.nd_base.specs.declared.octets.Memory.{Memory}
use Rattle.command_sample.specs.Nodes.{sample_sum, sample_lines}
use Rattle.command_sample.specs.Steps.{summary_lines}

pub lines_are : (seed n cells octets sum : ℕ) (same : Bool) (text : List ℕ) → cells ≡ n → octets ≡ 4 + 12 * n → sum ≡ sample_sum n seed → same ≡ true
    → text ≡ summary_lines cells octets sum same → text ≡ sample_lines seed n
lines_are seed n cells octets sum same text cells_is octets_is sum_is same_is is =
    is
    ∙ ap (λ a. summary_lines a octets sum same) cells_is
    ∙ ap (λ a. summary_lines n a sum same) octets_is
    ∙ ap (λ a. summary_lines n (4 + 12 * n) a same) sum_is
    ∙ ap (λ b. summary_lines n (4 + 12 * n) (sample_sum n seed) b) same_is

pub lines_ok : (seed n cells octets sum : ℕ) (same : Bool) (result : Result (List ℕ) Memory) → cells ≡ n → octets ≡ 4 + 12 * n → sum ≡ sample_sum n seed → same ≡ true
    → IfOk result (λ text. text ≡ summary_lines cells octets sum same) → IfOk result (λ text. text ≡ sample_lines seed n)
lines_ok seed n cells octets sum same (Ok text) cells_is octets_is sum_is same_is is = lines_are seed n cells octets sum same text cells_is octets_is sum_is same_is is
lines_ok seed n cells octets sum same (Err e) cells_is octets_is sum_is same_is is = tt
