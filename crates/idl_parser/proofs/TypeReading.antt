-- The reading of types at a number that is not 0.
use Rattle.std.proofs.Common.{◌≡◌, ℕ, zero, suc, ◌+◌, ◌-◌, ◌<◌, [], ◌∷◌, sym, ap, arith, false}
use Rattle.idl_grammar.specs.Text.{Text}
use Rattle.idl_grammar.specs.ReadPhrases.{Read, turned}
use Rattle.idl_grammar.specs.Symbols as symbol
use Rattle.idl_grammar.specs.Tree as tree
use Rattle.idl_grammar.specs.Tree.{TypeSpec}
use Rattle.idl_grammar.specs.ReadExpressions.{placed_read, ident_read}
use Rattle.idl_grammar.proofs.Rows.{cases_are, arms_are}
use Rattle.idl_grammar.specs.Reading.{branch_read, bind_read, simple_firsts, simple_read, struct_read, union_read, enum_read, type_read}

-- a type, inside whose brackets another function reads types
abbrev pub type_body : ℕ → Text → ℕ → (ℕ → Read TypeSpec) → ℕ → Read TypeSpec
type_body nesting t depth again i =
    branch_read simple_firsts t i (turned tree.Simple (simple_read t i))
    (branch_read (symbol.Struct ∷ []) t i
    (bind_read (placed_read symbol.Struct t i) (λ at m. struct_read nesting t depth again at m))
    (branch_read (symbol.Union ∷ []) t i
    (bind_read (placed_read symbol.Union t i) (λ at m. union_read nesting t depth again at m))
    (branch_read (symbol.Enum ∷ []) t i
    (bind_read (placed_read symbol.Enum t i) (λ at m. enum_read nesting t depth at m))
    (turned tree.Name (ident_read false t i)))))

pub type_is : (f nesting : ℕ) (t : Text) (depth i : ℕ) → 0 < f → type_read f nesting t depth i ≡ type_body nesting t depth (type_read (f - 1) nesting t (depth + 1)) i
type_is zero nesting t depth i h = absurd (omega (arith, h))
type_is (suc f) nesting t depth i h = let e : suc f - 1 ≡ f = omega arith in ap (λ (g : ℕ). type_body nesting t depth (type_read g nesting t (depth + 1)) i) (sym e)

-- what the function that reads a union's body names
pub ruleset unions = (cases_are, arms_are)
