-- Nodes that fit have the forms of their types.
use Rattle.std.proofs.Common.{◌≡◌, ℕ, ◌+◌, zero, suc, ℤ, Bool, true, false, List, [], ◌∷◌, length, take, drop, Option, Some, None, refl, ap, sym, ◌∙◌, subst, arith}
use Rattle.std.specs.Prelude.{not, ◌==◌}
use Rattle.std.specs.List.{AllByRecursion, slice_get, list_all}
use Rattle.std.proofs.lemmas.Option.{same_Some}
use Rattle.std.proofs.lemmas.Bool.{eqb-true}
use lib.Pointwise.{pointwise}
use Rattle.nd_types.specs.declared.types.Operation.{Operation}
use Rattle.nd_types.specs.declared.types.Arm.{Arm}
use Rattle.nd_types.specs.declared.types.TypeDef.{TypeDef}
use Rattle.nd_types.specs.declared.types.TypeDef.TheVariants as def
use Rattle.nd_types.specs.declared.types.Primitive.{Primitive}
use Rattle.nd_types.specs.declared.types.Primitive.TheVariants.{Boolean, Char, Byte, Small, UnsignedSmall, Short, UnsignedShort, Long, UnsignedLong, Hyper, UnsignedHyper}
use Rattle.nd_types.specs.Kinds.{prim_number, basic_types, basic_number, is_basic, is_same_basic}
use Rattle.nd_types.specs.Legal.{IsLegal}
use Rattle.nd_types.specs.Table.{Table, type_at, carrier, selected}
use Rattle.nd_types.specs.Layout.{parts}
use Rattle.nd_types.proofs.LegalLaws.{passes_at, prim_at}
use Rattle.nd_lemmas.proofs.Booleans.{first_true as left_true, second_true as right_true}
use Rattle.nd_value.specs.declared.value.Graph.{Graph}
use Rattle.nd_value.specs.Tree as tree
use Rattle.nd_value.specs.Tree.{Trees, node, none, more, Label}
use Rattle.nd_value.specs.Agreement.{Agreement}
use Rattle.nd_value.specs.Nodes.{child_types, child_agreements, rest_agreements}
use Rattle.nd_value.specs.Misfit.{has_shape, has_arm, selects}
use Rattle.nd_grammar.proofs.conforming.GoodTrees.{GoodTrees}
use Rattle.nd_grammar.proofs.next.Mapped.{in_parts}
use Rattle.nd_grammar.proofs.reader.ReaderInPlace.{Fine, Readable}
use Rattle.ndr_encoder_laws.specs.written.Run.{carrier_of}
use Rattle.ndr_encoder_laws.specs.written.Shaped.{Form, form_num, form_enum, form_struct, form_array, form_text, form_union, form_pointer, form_context, TagType, tag_prim, tag_enum, Shaped}

-- two numbers are there and equal, as the types' definitions have it
abbrev same_number : Option ℕ → Option ℕ → Bool
same_number (Some m) (Some n) = m == n
same_number _ _ = false

-- these basic types have the numbers from k on
abbrev AreNumbered : ℕ → Table → Type 0
AreNumbered k [] = Unit {0}
AreNumbered k (b ∷ bs) = (basic_number b ≡ Some k) × AreNumbered (suc k) bs

-- a table that begins with them, and has no basic type later, has each primitive at its number alone
own_number : (k : ℕ) (bs types : Table) (i : ℕ) (p : Primitive) → AreNumbered k bs → pointwise is_same_basic bs (take (length bs) types) ≡ true
    → list_all (λ d. not (is_basic d)) (drop (length bs) types) ≡ true → slice_get types i ≡ Some (def.Prim p) → k + i ≡ prim_number p
own_number k [] [] i p n same gone at = cc
own_number k [] (d ∷ ds) i p n same gone at =
    let wrong : not (is_basic (def.Prim p)) ≡ true = passes_at (λ d. not (is_basic d)) (d ∷ ds) i (def.Prim p) gone at in cc
own_number k (b ∷ bs) [] i p n same gone at = cc
own_number k (b ∷ bs) (d ∷ ds) zero p n same gone at =
    let one : is_same_basic b d ≡ true = left_true (is_same_basic b d) (pointwise is_same_basic bs (take (length bs) ds)) same in
    let it : is_same_basic b (def.Prim p) ≡ true = subst (λ x. is_same_basic b x ≡ true) (same_Some d (def.Prim p) at) one in
    let numbered : same_number (Some k) (Some (prim_number p)) ≡ true = subst (λ o. same_number o (Some (prim_number p)) ≡ true) n.0 it in
    let e : k ≡ prim_number p = eqb-true k (prim_number p) numbered in omega (arith, e)
own_number k (b ∷ bs) (d ∷ ds) (suc i) p n same gone at =
    let e : suc k + i ≡ prim_number p = own_number (suc k) bs ds i p n.1 (right_true (is_same_basic b d) (pointwise is_same_basic bs (take (length bs) ds)) same) gone at in omega (arith, e)

carrier_back : (p : Primitive) → carrier_of (prim_number p) ≡ p
carrier_back Boolean = refl
carrier_back Char = refl
carrier_back Byte = refl
carrier_back Small = refl
carrier_back UnsignedSmall = refl
carrier_back Short = refl
carrier_back UnsignedShort = refl
carrier_back Long = refl
carrier_back UnsignedLong = refl
carrier_back Hyper = refl
carrier_back UnsignedHyper = refl

-- an arm is selected
arm_is : (o : Option Arm) → selects o ≡ true → (a : Arm) × (o ≡ Some a)
arm_is None h = cc
arm_is (Some a) h = (a, refl)

module _ (table : Table) (operations : List Operation) (legal : IsLegal table operations) where
  carried : (t : ℕ) (p : Primitive) → type_at table t ≡ Some (def.Prim p) → carrier_of t ≡ p
  carried t p is =
      let z : 0 + t ≡ t = omega arith in
      let e : 0 + t ≡ prim_number p =
      own_number 0 basic_types table t p (refl, (refl, (refl, (refl, (refl, (refl, (refl, (refl, (refl, (refl, (refl, (refl, tt)))))))))))) legal.basic legal.no_later_basic is in
      ap carrier_of (sym z ∙ e) ∙ carrier_back p

  -- the number of a primitive has no enumerated type
  no_enum : (p : Primitive) (values : List ℤ) → type_at table (prim_number p) ≡ Some (def.Enum values) → ⊥
  no_enum p values is = let h : Some (def.Prim p) ≡ Some (def.Enum values) = sym (prim_at table operations legal p) ∙ is in cc

  enum_carried : (t : ℕ) (values : List ℤ) → type_at table t ≡ Some (def.Enum values) → carrier_of t ≡ Short
  enum_carried zero values is = absurd (no_enum Boolean values is)
  enum_carried (suc zero) values is = absurd (no_enum Char values is)
  enum_carried (suc (suc zero)) values is = absurd (no_enum Byte values is)
  enum_carried (suc (suc (suc zero))) values is = absurd (no_enum Small values is)
  enum_carried (suc (suc (suc (suc zero)))) values is = absurd (no_enum UnsignedSmall values is)
  enum_carried (suc (suc (suc (suc (suc zero))))) values is = refl
  enum_carried (suc (suc (suc (suc (suc (suc zero)))))) values is = absurd (no_enum UnsignedShort values is)
  enum_carried (suc (suc (suc (suc (suc (suc (suc zero))))))) values is = absurd (no_enum Long values is)
  enum_carried (suc (suc (suc (suc (suc (suc (suc (suc zero)))))))) values is = absurd (no_enum UnsignedLong values is)
  enum_carried (suc (suc (suc (suc (suc (suc (suc (suc (suc zero))))))))) values is = absurd (no_enum Hyper values is)
  enum_carried (suc (suc (suc (suc (suc (suc (suc (suc (suc (suc zero)))))))))) values is = absurd (no_enum UnsignedHyper values is)
  enum_carried (suc (suc (suc (suc (suc (suc (suc (suc (suc (suc (suc t))))))))))) values is = refl

  tag_by : (t : ℕ) (o : Option TypeDef) (p : Primitive) → type_at table t ≡ o → carrier o ≡ Some p → TagType table t
  tag_by t (Some (def.Prim q)) p is e = tag_prim is (carried t q is)
  tag_by t (Some (def.Enum values)) p is e = tag_enum is (enum_carried t values is)
  tag_by t _ p is e = cc

  form_by : (t : ℕ) (d : TypeDef) (l : Label) (ks : Trees) → type_at table t ≡ Some d → Fine table d → has_shape (Some d) l ks ≡ true → has_arm (Some d) l ≡ true → Form table t l ks
  form_by t (def.Prim p) (tree.Num z) none is f s a = form_num is (carried t p is)
  form_by t (def.Enum values) (tree.Num z) none is f s a = form_enum is
  form_by t (def.Struct members) tree.Rec ks is f s a = form_struct is
  form_by t (def.Array elem bound varying) (tree.Arr max offset) ks is f s a = form_array is
  form_by t (def.Text elem bound) (tree.Text max os) none is f s a = form_text is
  form_by t (def.Union tag own arms default) (tree.Union v) ks is f s a =
      let (b, chosen) = arm_is (selected arms default v) a in form_union b is (tag_by tag.0 (type_at table tag.0) f.0 refl f.1) chosen
  form_by t (def.Pointer class to) (tree.Ptr c) none is f s a = form_pointer is
  form_by t def.Context (tree.Context attributes os) none is f s a = form_context is
  form_by t (def.Pipe elem) l ks is f s a = absurd f
  form_by t _ _ ks is f s a = cc

  -- trees that fit, of types that are read in place, have the forms of their types
  pub shaped : (g : Graph) (depth : ℕ) (types : List ℕ) (given : List (List Agreement)) (ts : Trees) → AllByRecursion (Readable table depth) types
      → GoodTrees table g types given ts → Shaped depth table types ts
  shaped g depth [] given none r a = tt
  shaped g depth [] given (more t ts) r a = absurd a
  shaped g depth (t ∷ types) given none r a = absurd a
  shaped g zero (t ∷ types) given (more u ts) r a = absurd r.0
  shaped g (suc depth) (t ∷ types) given (more (node l ks) ts) r a =
      let (d, is, fine, inner) = r.0 in (
        form_by t d l ks is fine (subst (λ o. has_shape o l ks ≡ true) is a.0.shape) (subst (λ o. has_arm o l ≡ true) is a.0.arm),
        (
          shaped g depth (child_types (type_at table t) l ks) (child_agreements (type_at table t) ks) ks
              (in_parts (Readable table depth) (type_at table t) l ks (subst (λ o. AllByRecursion (Readable table depth) (parts o)) (sym is) inner)) a.2,
          shaped g (suc depth) types (rest_agreements given) ts r.1 a.3,
        ),
      )
