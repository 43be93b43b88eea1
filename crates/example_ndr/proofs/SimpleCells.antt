-- Types of the basic table are simple, and so are cells of a plain interface.
use Rattle.std.proofs.Common.{◌≡◌, ℕ, zero, suc, true, List, [], ◌∷◌, refl, sym, subst}
use Rattle.std.specs.List.{list_all, slice_get}
use Rattle.std.specs.Cmp.Derive.{both_true}
use Rattle.std.proofs.lemmas.Bool.{and_parts}
use Rattle.nd_types.specs.declared.types.TypeDef.{TypeDef}
use Rattle.nd_types.specs.declared.types.Operation.{Operation}
use Rattle.nd_types.specs.Table.{Table, type_at}
use Rattle.nd_types.specs.Kinds.{basic_types, is_basic}
use Rattle.nd_types.specs.Plain.{IsPlainInterface}
use Rattle.nd_value.specs.declared.value.Graph.{Graph}
use Rattle.nd_value.specs.Tree.{Referent}
use Rattle.example_ndr.specs.Simple.{is_simple, has_simple_cells}

simple_get : (ds : List TypeDef) (t : ℕ) → list_all is_basic ds ≡ true → is_simple (slice_get ds t) ≡ true
simple_get [] t e = refl
simple_get (d ∷ ds) zero e = (and_parts (is_basic d) (list_all is_basic ds) e).0
simple_get (d ∷ ds) (suc t) e = simple_get ds t (and_parts (is_basic d) (list_all is_basic ds) e).1

all_simple : (xs : List Referent) → list_all (λ (c : Referent). is_simple (type_at basic_types c.of)) xs ≡ true
all_simple [] = refl
all_simple (x ∷ xs) = both_true (simple_get basic_types x.of refl) (all_simple xs)

-- cells under the basic table
pub basic_cells : (types : Table) (g : Graph) → types ≡ basic_types → has_simple_cells types g ≡ true
basic_cells types g e = subst (λ (t : Table). has_simple_cells t g ≡ true) (sym e) (all_simple g.cells)

pub plain_cells : (types : Table) (operations : List Operation) (g : Graph) → IsPlainInterface types operations → has_simple_cells types g ≡ true
plain_cells types operations g h = basic_cells types g h.basic
