-- The value whose maximum count is in front of a home's value, in a legal table: it is found from struct to last member.
-- `table` are the types, `t` is a type's number, `d` what it is, `fs` are members, `p` is the path of a value, `f` and `g` go on with a type and a path.
use Rattle.std.proofs.Common.{◌≡◌, ◌∙◌, ℕ, zero, suc, Bool, true, List, [], ◌∷◌, Option, Some, None, map, refl, sym, ap}
use Rattle.std.specs.Prelude.{◌||◌}
use Rattle.std.specs.List.{AllByRecursion, list_all}
use Rattle.std.proofs.lemmas.Bool.{and_parts}
use Rattle.std.proofs.lemmas.Option.{same_Some}
use Rattle.nd_types.specs.declared.types.AttrVar.{AttrVar}
use Rattle.nd_types.specs.declared.types.Field.{Field}
use Rattle.nd_types.specs.declared.types.Operation.{Operation}
use Rattle.nd_types.specs.declared.types.TypeDef.{TypeDef}
use Rattle.nd_types.specs.declared.types.TypeDef.TheVariants as def
use Rattle.nd_types.specs.declared.TheConstants.{NESTING_LIMIT}
use Rattle.nd_types.specs.Kinds.{is_conformant_array, is_conformant_text, pointee_by}
use Rattle.nd_types.specs.Layout.{hoists_by, nests, parts}
use Rattle.nd_types.specs.Legal.{IsLegal}
use Rattle.nd_types.specs.Table.{Table, type_at}
use Rattle.nd_types.proofs.LayoutLaws.{shallow_all}
use Rattle.nd_grammar.proofs.next.HoistedMaxes.{last_of}
use Rattle.text_grammar.specs.Paths.{member_path}
use Rattle.nd_value.specs.declared.item.ItemKind.TheVariants as item
use Rattle.ndr_trace_value.specs.Attributes.{first_of}
use Rattle.ndr_trace_value.specs.LastMembers.{last_field, last_member, last_path, last_variable, last_within, onward, stated_by, stated_by_last, stated_in, struct_of, variable_within}

-- ## One level after the other

-- what holds of the types of all members holds of the last
last_passes : (test : ℕ → Bool) (fs : List Field) (f : Field) → last_field fs ≡ Some f → list_all test (map (λ m. m.of.0) fs) ≡ true → test f.of.0 ≡ true
last_passes test [] f e h = cc
last_passes test (m ∷ []) f e h = ap (λ x. test x.of.0) (sym (same_Some _ _ e)) ∙ (and_parts (test m.of.0) true h).0
last_passes test (m ∷ n ∷ fs) f e h = last_passes test (n ∷ fs) f e (and_parts (test m.of.0) (list_all test (map (λ q. q.of.0) (n ∷ fs))) h).1

module _ (test : ℕ → Bool) (f g : ℕ → List ℕ → List ℕ) (agree : (u : ℕ) → test u ≡ true → (q : List ℕ) → f u q ≡ g u q) (p : List ℕ) where
  -- the way on is by the types of the members alone
  fields_alike : (fs : List Field) (o : Option Field) → last_field fs ≡ o → list_all test (map (λ m. m.of.0) fs) ≡ true → onward f p o ≡ onward g p o
  fields_alike fs None e h = refl
  fields_alike fs (Some m) e h = agree m.of.0 (last_passes test fs m e h) (member_path p m.name)

  members_alike : (d : Option TypeDef) → list_all test (parts d) ≡ true → onward f p (last_member d) ≡ onward g p (last_member d)
  members_alike (Some (def.Struct fs)) h = fields_alike fs (last_field fs) refl h
  members_alike None h = refl
  members_alike (Some _) h = refl

within_suc : (table : Table) (n t : ℕ) (p : List ℕ) → nests n table t ≡ true → last_within n table t p ≡ last_within (suc n) table t p
within_suc table zero t p h = cc
within_suc table (suc n) t p h =
    members_alike (nests n table) (last_within n table) (last_within (suc n) table) (λ u e q. within_suc table n u q e) p (type_at table t) h

-- in a legal table the path of the last value is that of the last member's
pub last_path-legal : (table : Table) (operations : List Operation) → IsLegal table operations → (t : ℕ) (p : List ℕ)
    → last_path table t p ≡ onward (last_path table) p (last_member (type_at table t))
unfolding last_path
last_path-legal table operations legal t p = within_suc table NESTING_LIMIT t p (shallow_all table legal.nesting t)

-- ## The last of some values

-- the last of values of these types and with these paths has this path, or its last member has it, and so on
abbrev pub LastIs : Table → List ℕ → List ℕ → List (List ℕ) → Type 0
LastIs table q (t ∷ []) (p ∷ paths) = q ≡ last_path table t p
LastIs table q (t ∷ u ∷ types) (p ∷ paths) = LastIs table q (u ∷ types) paths
LastIs table q _ _ = ⊥

-- the last of a struct's members
pub last_member_is : (table : Table) (h : ℕ → Bool) (q p : List ℕ) (fs : List Field) → last_of h (map (λ f. f.of.0) fs) ≡ true
    → q ≡ onward (last_path table) p (last_field fs) → LastIs table q (map (λ f. f.of.0) fs) (map (λ f. member_path p f.name) fs)
last_member_is table h q p [] e f = cc
last_member_is table h q p (m ∷ []) e f = f
last_member_is table h q p (m ∷ n ∷ fs) e f = last_member_is table h q p (n ∷ fs) e f

-- ## The variable of a last member

module _ (test : ℕ → Bool) (f g : ℕ → List ℕ → List ℕ) (agree : (u : ℕ) → test u ≡ true → (q : List ℕ) → f u q ≡ g u q) (p : List ℕ) where
  by_alike : (ms : List Field) (m : Field) (o : Option AttrVar) → test m.of.0 ≡ true → stated_by f p ms m o ≡ stated_by g p ms m o
  by_alike ms m (Some by) e = refl
  by_alike ms m None e = agree m.of.0 e (member_path p m.name)

  last_alike : (ms : List Field) (o : Option Field) → last_field ms ≡ o → list_all test (map (λ m. m.of.0) ms) ≡ true → stated_by_last f p ms o ≡ stated_by_last g p ms o
  last_alike ms None e h = refl
  last_alike ms (Some m) e h = by_alike ms m (first_of item.Max m.vars) (last_passes test ms m e h)

  in_alike : (d : Option TypeDef) → list_all test (parts d) ≡ true → stated_in f p (struct_of d) ≡ stated_in g p (struct_of d)
  in_alike (Some (def.Struct ms)) h = last_alike ms (last_field ms) refl h
  in_alike None h = refl
  in_alike (Some _) h = refl

variable_suc : (table : Table) (n t : ℕ) (p : List ℕ) → nests n table t ≡ true → variable_within n table t p ≡ variable_within (suc n) table t p
variable_suc table zero t p h = cc
variable_suc table (suc n) t p h =
    in_alike (nests n table) (variable_within n table) (variable_within (suc n) table) (λ u e q. variable_suc table n u q e) p (type_at table t) h

-- in a legal table it is found one level further down
pub last_variable-legal : (table : Table) (operations : List Operation) → IsLegal table operations → (t : ℕ) (p : List ℕ)
    → last_variable table t p ≡ stated_in (last_variable table) p (struct_of (type_at table t))
unfolding last_variable
last_variable-legal table operations legal t p = variable_suc table NESTING_LIMIT t p (shallow_all table legal.nesting t)

-- a struct that is the last of values of these types and with these paths has this variable
abbrev pub LastSays : Table → List ℕ → List ℕ → List (List ℕ) → Type 0
LastSays table v (t ∷ []) (p ∷ paths) = (ms : List Field) → type_at table t ≡ Some (def.Struct ms) → v ≡ last_variable table t p
LastSays table v (t ∷ u ∷ types) (p ∷ paths) = LastSays table v (u ∷ types) paths
LastSays table v _ _ = Unit {0}

-- a member that is a struct has no attribute on a maximum count
abbrev pub AreBare : Table → List Field → Type 0
AreBare table fs = AllByRecursion (λ (f : Field). (ms : List Field) → type_at table f.of.0 ≡ Some (def.Struct ms) → first_of item.Max f.vars ≡ None) fs

-- the last of a struct's members, where that is a struct
pub last_member_says : (table : Table) (v p : List ℕ) (all fs : List Field) → AreBare table fs → v ≡ stated_by_last (last_variable table) p all (last_field fs)
    → LastSays table v (map (λ f. f.of.0) fs) (map (λ f. member_path p f.name) fs)
last_member_says table v p all [] b e = tt
last_member_says table v p all (m ∷ []) b e = λ ms d. e ∙ ap (stated_by (last_variable table) p all m) (b.0 ms d)
last_member_says table v p all (m ∷ n ∷ fs) b e = last_member_says table v p all (n ∷ fs) b.1 e

-- ## Arrays and texts that have a maximum count

-- such a type has no members
pub no_member : (d : Option TypeDef) → (is_conformant_array d || is_conformant_text d) ≡ true → last_member d ≡ None
no_member (Some (def.Struct fs)) c = cc
no_member None c = refl
no_member (Some _) c = refl

-- nor has a pointer to one
pub no_member_behind : (table : Table) (t : ℕ) (d : Option TypeDef) → type_at table t ≡ d
    → (is_conformant_array (type_at table (pointee_by t d)) || is_conformant_text (type_at table (pointee_by t d))) ≡ true → last_member d ≡ None
no_member_behind table t (Some (def.Struct fs)) e c = ap last_member (sym e) ∙ no_member (type_at table t) c
no_member_behind table t None e c = refl
no_member_behind table t (Some _) e c = refl

-- it hoists
pub conformant_hoists : (h : ℕ → Bool) (d : Option TypeDef) → (is_conformant_array d || is_conformant_text d) ≡ true → hoists_by h d ≡ true
conformant_hoists h (Some (def.Array e None v)) c = refl
conformant_hoists h (Some (def.Array e (Some n) v)) c = cc
conformant_hoists h (Some (def.Text e None)) c = refl
conformant_hoists h (Some (def.Text e (Some n))) c = cc
conformant_hoists h None c = cc
conformant_hoists h (Some _) c = cc
