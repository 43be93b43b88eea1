-- The numbers that roots and cells are, where these were read, can be kept: each is in the range of its type.
-- `d` is a type's definition, `u` a value, `z` the number that it is.
use Rattle.std.proofs.Common.{◌≡◌, ℕ, ℤ, zero, suc, Bool, true, false, List, [], ◌∷◌, ◌++◌, Option, Some, None, refl, sym, ◌∙◌, subst, replicate, inl, inr, append-nil}
use Rattle.std.specs.List.{AllByRecursion, slice_get}
use Rattle.std.proofs.lemmas.Option.{same_Some}
use Rattle.nd_base.specs.declared.octets.Order.{Order}
use Rattle.nd_types.specs.declared.types.TypeDef.{TypeDef}
use Rattle.nd_types.specs.declared.types.TypeDef.TheVariants as def
use Rattle.nd_types.specs.declared.types.Primitive.TheVariants.{Short}
use Rattle.nd_types.specs.Number.{AreOctets}
use Rattle.nd_types.specs.Roots.{Root}
use Rattle.nd_types.specs.Table.{Table, type_at, fits_octets}
use Rattle.nd_value.specs.declared.item.Item.{Item}
use Rattle.nd_value.specs.Agreement.{number_of, starred}
use Rattle.nd_value.specs.Misfit.{has_range}
use Rattle.nd_value.specs.Setting.{Setting, root_list, root_at, cell_at, cell_tree, or_unread, unread}
use Rattle.nd_value.specs.Tree as tree
use Rattle.nd_value.specs.Tree.{Tree, Trees, Referent, Label, node, none, more}
use Rattle.nd_flat.specs.FlatForm.{IsKeepableNumber}
use Rattle.nd_flat.proofs.Keepables.{number_keepable}
use Rattle.nd_grammar.specs.Entry.{EntryAt}
use Rattle.nd_grammar.specs.LegalSide.{IsLegalSide}
use Rattle.nd_grammar.specs.StreamReader.{Reading}
use Rattle.nd_grammar.specs.MadeTrees.{MadeNode, MadeTrees}
use Rattle.nd_grammar.specs.ReaderState.{CellMade, RootsMade}
use Rattle.ndr_decoder_laws.specs.stream.Between.{Between, Keeps, Agrees}
use Rattle.ndr_decoder_laws.specs.stream.Parameters.{root_number, with_pipes}
use Rattle.ndr_decoder_laws.proofs.stream.Parameters as law

pub in_its_range : (table : Table) (d : Option TypeDef) (z : ℤ) → has_range fits_octets table d (tree.Num z) ≡ true → IsKeepableNumber z
in_its_range table (Some (def.Prim p)) z h = number_keepable p z h
in_its_range table (Some (def.Enum values)) z h = number_keepable Short z h
in_its_range table _ z h = (let n : false ≡ true = h in cc)

label_keepable : (table : Table) (d : Option TypeDef) (l : Label) (ks : Trees) (z : ℤ) → MadeNode table d l ks → number_of (node l ks) ≡ Some z → IsKeepableNumber z
label_keepable table d (tree.Num y) ks z (inl e) is = (let n : tree.Num y ≡ tree.Unread = e in cc)
label_keepable table d (tree.Num y) ks z (inr f) is = subst IsKeepableNumber (same_Some y z is) (in_its_range table d y f.range)
label_keepable table d _ ks z m is = (let n : None ≡ Some z = is in cc)

made_keepable : (table : Table) (t : ℕ) (u : Tree) (z : ℤ) → MadeTrees table (t ∷ []) (more u none) → number_of u ≡ Some z → IsKeepableNumber z
made_keepable table t (node l ks) z m is = label_keepable table (type_at table t) l ks z m.0 is

no_number : (n v : ℕ) → number_of (or_unread (slice_get (replicate {A = Tree} n unread) v)) ≡ None
no_number zero zero = refl
no_number zero (suc v) = refl
no_number (suc n) zero = refl
no_number (suc n) (suc v) = no_number n v

root_keepable : (table : Table) (rs : List Root) (vs : List Tree) (n v : ℕ) (z : ℤ) → RootsMade table rs vs
    → number_of (or_unread (slice_get (vs ++ replicate {A = Tree} n unread) v)) ≡ Some z → IsKeepableNumber z
root_keepable table rs [] n v z m is = (let e : None ≡ Some z = sym (no_number n v) ∙ is in cc)
root_keepable table [] (u ∷ vs) n v z m is = absurd m
root_keepable table (r ∷ rs) (u ∷ vs) n zero z m is = made_keepable table r.of u z m.0 is
root_keepable table (r ∷ rs) (u ∷ vs) n (suc v) z m is = root_keepable table rs vs n v z m.1 is

cell_keepable : (table : Table) (cells : List Referent) (i : ℕ) (z : ℤ) → AllByRecursion (CellMade table) cells → number_of (cell_tree (slice_get cells i)) ≡ Some z → IsKeepableNumber z
cell_keepable table [] zero z m is = (let e : None ≡ Some z = is in cc)
cell_keepable table [] (suc i) z m is = (let e : None ≡ Some z = is in cc)
cell_keepable table (x ∷ xs) zero z m is = made_keepable table x.of x.val z m.0 is
cell_keepable table (x ∷ xs) (suc i) z m is = cell_keepable table xs i z m.1 is

module _ (w : Setting) (side : IsLegalSide w) (order : Order) (fetched : List ℕ) (noted : List Item) (direct : ℕ) (b : Between) (s : Reading) (before : List EntryAt)
    (ag : Agrees w side order fetched noted direct b s before [] 0) where
  all_octets : AreOctets (fetched ++ [])
  all_octets = subst AreOctets (sym (append-nil fetched)) ag.octets

  cell_there : (c : ℕ) (z : ℤ) → number_of (cell_at (with_pipes s 0) c) ≡ Some z → IsKeepableNumber z
  cell_there zero z is = (let e : None ≡ Some z = is in cc)
  cell_there (suc i) z is = cell_keepable w.table s.names.cells i z (ag.state [] all_octets).1.cells_made is

  starred_keepable : (star : Bool) (u : Tree) (z : ℤ) → (number_of u ≡ Some z → IsKeepableNumber z) → starred (with_pipes s 0) star u ≡ Some z → IsKeepableNumber z
  starred_keepable false u z own is = own is
  starred_keepable true (node (tree.Ptr (Some c)) ks) z own is = cell_there c z is
  starred_keepable true _ z own is = (let e : None ≡ Some z = is in cc)

  pub kept_keepable : (seen : List EntryAt) → Keeps w order fetched noted direct b s seen [] → (v : ℕ) (star : Bool) (z : ℤ) → root_number b.read star (slice_get b.roots v) ≡ Some z
      → IsKeepableNumber z
  kept_keepable seen kp v star z is =
      starred_keepable star (root_at (with_pipes s 0) v) z
      (root_keepable w.table (root_list w) s.roots 0 v z (ag.state [] all_octets).1.roots_made)
      (sym (law.variable_is w side order fetched noted direct b s before 0 0 ag seen kp v star) ∙ is)
