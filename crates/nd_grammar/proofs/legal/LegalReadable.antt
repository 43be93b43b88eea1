-- In a legal interface each type that holds no pipe can be read in its place, and so can what its pointers point to.
use Rattle.std.proofs.Common.{◌≡◌, ℕ, zero, suc, true, false, List, [], ◌∷◌, ◌++◌, length, Option, Some, None, refl, ap, subst}
use Rattle.std.specs.List.{AllByRecursion, list_all}
use Rattle.std.proofs.lemmas.Bool.{and_parts, ltb-true}
use Rattle.nd_types.specs.declared.types.TypeDef.{TypeDef}
use Rattle.nd_types.specs.declared.types.TypeDef.TheVariants as def
use Rattle.nd_types.specs.declared.types.Primitive.{Primitive}
use Rattle.nd_types.specs.declared.types.Primitive.TheVariants.{Short}
use Rattle.nd_types.specs.declared.types.Operation.{Operation}
use Rattle.nd_types.specs.declared.TheConstants.{NESTING_LIMIT}
use Rattle.nd_types.specs.Table.{Table, type_at, carrier}
use Rattle.nd_types.specs.Layout.{parts, nests}
use Rattle.nd_types.specs.Kinds.{is_pipe, is_switch_type}
use Rattle.nd_types.specs.Legal.{IsLegal, named_types, is_in_table, has_switch_tag, tag_of, pointee_of}
use Rattle.nd_types.proofs.LegalLaws.{passes_at}
use Rattle.nd_types.proofs.LayoutLaws.{shallow_all}
use Rattle.nd_value.proofs.NodeFacts.{all_of_list}
use Rattle.nd_value.proofs.Apart.{all_left, all_weaker}
use Rattle.nd_grammar.specs.ReaderState.{IsNoPipe, Known}
use Rattle.nd_grammar.proofs.legal.LegalPipes.{parts_alone}
use Rattle.nd_grammar.proofs.reader.ReaderInPlace.{Fine, Readable}
use Rattle.nd_lemmas.proofs.Lists.{item_at as in_table}

carried : (d : Option TypeDef) → is_switch_type d ≡ true → (p : Primitive) × (carrier d ≡ Some p)
carried (Some (def.Prim p)) h = (p, refl)
carried (Some (def.Enum vs)) h = (Short, refl)
carried None h = cc
carried (Some _) h = cc

module _ (table : Table) (operations : List Operation) (legal : IsLegal table operations) where
  pub named_known : (t : ℕ) (d : TypeDef) → type_at table t ≡ Some d → AllByRecursion (Known table) ((parts (Some d) ++ tag_of d) ++ pointee_of d)
  named_known t d e =
      let h : list_all (is_in_table table) ((parts (Some d) ++ tag_of d) ++ pointee_of d) ≡ true = passes_at (λ u. list_all (is_in_table table) (named_types u)) table t d legal.types_known e in
      all_weaker _ (Known table) (λ u k. in_table table u (ltb-true u (length table) k)) ((parts (Some d) ++ tag_of d) ++ pointee_of d) (all_of_list _ _ h)

  fine : (t : ℕ) (d : TypeDef) → type_at table t ≡ Some d → IsNoPipe table t → Fine table d
  fine t (def.Pipe x) e p = absurd (both_pipes (ap is_pipe e) p.itself)
    where
      both_pipes : is_pipe (type_at table t) ≡ true → is_pipe (type_at table t) ≡ false → ⊥
      both_pipes a b = cc
  fine t (def.Union tag enc arms default) e p =
      let h : list_all (λ u. is_switch_type (type_at table u)) (tag.0 ∷ []) ≡ true = passes_at (has_switch_tag table) table t (def.Union tag enc arms default) legal.tags e in
      let (a, b) = and_parts _ _ h in
      carried (type_at table tag.0) a
  fine t (def.Prim q) e p = tt
  fine t (def.Enum vs) e p = tt
  fine t (def.Struct ms) e p = tt
  fine t (def.Array x b v) e p = tt
  fine t (def.Text x b) e p = tt
  fine t (def.Pointer c to) e p = tt
  fine t def.Context e p = tt

  readable : (n t : ℕ) → Known table t → nests n table t ≡ true → IsNoPipe table t → Readable table n t
  readable zero t k h p = cc
  readable (suc n) t (d, e) h p =
      let s : list_all (nests n table) (parts (Some d)) ≡ true = subst (λ u. list_all (nests n table) (parts u) ≡ true) e h in (
        d,
        e,
        fine t d e p,
        each (parts (Some d))
            (all_left (Known table) (parts (Some d)) (tag_of d) (all_left (Known table) (parts (Some d) ++ tag_of d) (pointee_of d) (named_known t d e)))
            (all_of_list (nests n table) (parts (Some d)) s) (parts_alone table operations legal t (Some d) e) (readable n),
      )
    where
      each : (ts : List ℕ) → AllByRecursion (Known table) ts → AllByRecursion (λ u. nests n table u ≡ true) ts → AllByRecursion (IsNoPipe table) ts
          → ((t : ℕ) → Known table t → nests n table t ≡ true → IsNoPipe table t → Readable table n t) → AllByRecursion (Readable table n) ts
      each [] a b c law = tt
      each (u ∷ us) a b c law = (law u a.0 b.0 c.0, each us a.1 b.1 c.1 law)

  -- a type of the table that holds no pipe can be read
  pub legal_readable : (t : ℕ) → Known table t → IsNoPipe table t → Readable table 32 t
  legal_readable t k p = readable NESTING_LIMIT t k (shallow_all table legal.nesting t) p
