-- The sides of the operations of an interface are legal, and what represents a graph begins with it.
use Rattle.std.proofs.Common.{◌≡◌, ℕ, zero, suc, List, [], ◌∷◌, length, Some, inl, inr, sym, subst, arith}
use Rattle.std.proofs.lemmas.Option.{same_Some}
use Rattle.std.specs.List.{slice_get}
use Rattle.nd_base.specs.declared.octets.Order.{Order}
use Rattle.nd_value.specs.declared.value.Graph.{Graph}
use Rattle.nd_value.specs.Setting.{Setting, Among}
use Rattle.nd_value.specs.Conforms.{Conforms}
use Rattle.nd_grammar.specs.Stream.{Represents, BeginsWith}
use Rattle.std.proofs.lemmas.List.{take_all as take_whole}

pub whole_begins : (w : Setting) (order : Order) (octets : List ℕ) (g : Graph) → Represents w order octets g → Conforms w g
    → BeginsWith w order octets (length octets) g
whole_begins w order octets g r c = record {
  within = omega arith;
  represented = subst (λ os. Represents w order os g) (sym (take_whole (length octets) octets (omega arith))) r;
  conforms = c;
}

-- an item of a list is among its items
among_at : {X : Type 0} (xs : List X) (n : ℕ) (x : X) → slice_get xs n ≡ Some x → Among xs x
among_at [] n x e = cc
among_at (y ∷ xs) zero x e = inl (sym (same_Some _ _ e))
among_at (y ∷ xs) (suc n) x e = inr (among_at xs n x e)
