-- The types that a type of the table names are of the table.
use Rattle.std.proofs.Common.{◌≡◌, ℕ, zero, suc, ◌<◌, Bool, true, List, [], ◌∷◌, length, map, Option, Some, None, ℤ, sym, ap, ◌∙◌}
use Rattle.std.specs.List.{slice_get, list_all}
use Rattle.std.proofs.lemmas.Option.{same_Some}
use Rattle.std.proofs.lemmas.Bool.{and_parts, ltb-true}
use Rattle.nd_types.specs.declared.types.TypeId.{TypeId}
use Rattle.nd_types.specs.declared.types.TypeDef.TheVariants as def
use Rattle.nd_types.specs.declared.types.Field.{Field}
use Rattle.nd_types.specs.declared.types.Arm.{Arm}
use Rattle.nd_types.specs.Layout.{type_list}
use Rattle.nd_types.specs.Legal.{is_in_table}
use Rattle.nd_types.specs.Table.{Table, type_at, selected}
use Rattle.nd_value.specs.Tree.{Tree, none, more}
use Rattle.nd_value.specs.Nodes.{selected_types}
use Rattle.text_grammar.specs.Dues.{named_type}
use Rattle.text_grammar.specs.Values.{noted}
use Rattle.text_grammar.proofs.Taken.{parts_known, selected_passes}
use Rattle.text_grammar.proofs.Back.{type_known, values_known}
use Rattle.text_parser.specs.Known.{AreKnown, IsType, IsUnion, AreOf, NamesKnown}

module _ (table : Table) (known : AreKnown table) where
  pub array_known : (t : ℕ) (elem : TypeId) (bound : Option ℕ) (varying : Bool) → type_at table t ≡ Some (def.Array elem bound varying) → elem.0 < length table
  array_known t elem bound varying e = ltb-true elem.0 (length table) (and_parts (is_in_table table elem.0) true (parts_known table known t (def.Array elem bound varying) e)).0

  pub pipe_known : (t : ℕ) (elem : TypeId) → type_at table t ≡ Some (def.Pipe elem) → elem.0 < length table
  pipe_known t elem e = ltb-true elem.0 (length table) (and_parts (is_in_table table elem.0) true (parts_known table known t (def.Pipe elem) e)).0

  member_in : (fs : List Field) (at : ℕ) (f : Field) → list_all (is_in_table table) (map (λ (f : Field). f.of.0) fs) ≡ true → slice_get fs at ≡ Some f → is_in_table table f.of.0 ≡ true
  member_in [] at f h e = cc
  member_in (g ∷ fs) zero f h e =
      ap (λ (x : Field). is_in_table table x.of.0) (sym (same_Some _ _ e)) ∙ (and_parts (is_in_table table g.of.0) (list_all (is_in_table table) (map (λ (f : Field). f.of.0) fs)) h).0
  member_in (g ∷ fs) (suc at) f h e = member_in fs at f (and_parts (is_in_table table g.of.0) (list_all (is_in_table table) (map (λ (f : Field). f.of.0) fs)) h).1 e

  pub member_known : (fs : List Field) (at : ℕ) (f : Field) → IsType table (def.Struct fs) → slice_get fs at ≡ Some f → f.of.0 < length table
  member_known fs at f s e = ltb-true f.of.0 (length table) (member_in fs at f (parts_known table known s.0 (def.Struct fs) s.1) e)

  pub arm_known : (arms : List Arm) (default : Option Arm) (z : ℤ) (of : Option TypeId) → IsUnion table arms default → type_list of ≡ selected_types (selected arms default z) → AreOf table of
  arm_known arms default z None u e = tt
  arm_known arms default z (Some t) u e =
      ltb-true t.0 (length table) (and_parts (is_in_table table t.0) true
      (ap (list_all (is_in_table table)) e ∙ selected_passes (is_in_table table) arms default z (parts_known table known u.2.0 (def.Union u.0 u.1 arms default) u.2.1))).0

  pub cell_known : (ns : List (ℕ × ℕ)) (c t : ℕ) → NamesKnown table ns → named_type ns c ≡ Some t → t < length table
  cell_known ns c t h e = ltb-true t (length table) (type_known table known ns c t h e)

  pub names_known : (t : ℕ) (x : Tree) (ns ms : List (ℕ × ℕ)) → NamesKnown table ns → ms ≡ noted table (t ∷ []) (more x none) ns → NamesKnown table ms
  names_known t x ns ms h e = ap (list_all (λ (x : ℕ × ℕ). is_in_table table x.1)) e ∙ values_known table known (t ∷ []) (more x none) ns h
