-- How a refusal is answered.
use Rattle.std.specs.Prelude.{◌≡◌, ℕ, ◌≤◌, if◌then◌else◌}
use Rattle.idl_grammar.specs.declared.refusal.Refusal.{Refusal}
use Rattle.idl_grammar.specs.declared.refusal.Refusal.TheVariants as refusal
use Rattle.idl_grammar.specs.Text.{Text}
use Rattle.idl_grammar.specs.Answers.{is_banned}
use Rattle.idl_grammar.specs.declared.fault.SyntaxFault.{SyntaxFault}
use Rattle.idl_grammar.specs.declared.fault.SyntaxFault.TheVariants as errors

-- the token of a refusal is one of the text, or its end
abbrev pub IsWithin : Refusal → ℕ → Type 0
IsWithin refusal.Memory n = Unit {0}
IsWithin (refusal.Syntax k) n = k ≤ n
IsWithin (refusal.Deep k) n = k ≤ n
IsWithin (refusal.Banned k) n = k ≤ n

-- a refusal as it is answered: a word that is banned anywhere is named as such
abbrev pub IsNamed : Text → Refusal → SyntaxFault → Type 0
IsNamed t refusal.Memory f = f ≡ errors.Memory
IsNamed t (refusal.Syntax k) f = f ≡ (if is_banned t k then errors.Banned k else errors.Syntax k)
IsNamed t (refusal.Deep k) f = f ≡ errors.Deep k
IsNamed t (refusal.Banned k) f = f ≡ errors.Banned k
