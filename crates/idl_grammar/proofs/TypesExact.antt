-- Types are read exactly.
use Rattle.std.proofs.Common.{◌≡◌, ℕ, zero, suc, ◌+◌, ◌<◌, ◌≤◌, true, false, List, [], ◌∷◌, length, refl, sym, ap, subst, arith, ◌∙◌, inl, inr, Option, Some, None, Ok}
use Rattle.idl_grammar.specs.Text.{Text, Lifted, Rel, made}
use Rattle.idl_grammar.specs.ReadPhrases.{Read, and_then, turned}
use Rattle.idl_grammar.proofs.Exact.{Exact}
use Rattle.idl_grammar.proofs.Sequences.{stops, Begins, disjoint, subset, fewer_stops, made_exact, made_begins}
use Rattle.idl_grammar.specs.declared.words.Spelling.{Spelling}
use Rattle.idl_grammar.specs.declared.types.TagKind.{TagKind}
use Rattle.idl_grammar.specs.declared.types.Discriminant.{Discriminant}
use Rattle.idl_grammar.specs.declared.types.TagKind.TheVariants as tags
use Rattle.idl_grammar.specs.Symbols as symbol
use Rattle.idl_grammar.specs.Expressions.{names, ident}
use Rattle.idl_grammar.specs.Tree as tree
use Rattle.idl_grammar.specs.Tree.{Enumerator, Label, TypeSpec, Members, Cases, Arms, Arm}
use Rattle.idl_grammar.specs.ReadExpressions.{ident_read}
use Rattle.idl_grammar.specs.Grammar.{simple, enumerators, type_spec}
use Rattle.idl_grammar.specs.Reading.{branch_read, bind_read, simple_firsts, simple_read, enumerators_read, struct_body_read, struct_read, union_body_read, union_read, enum_read, tagged_read}
use Rattle.idl_grammar.specs.Reading.{type_read}
use Rattle.idl_grammar.proofs.Combine.{changed_exact, either, either_exact, either_begins, branch_is, bind_alike, ident_exact, ident_begins}
use Rattle.idl_grammar.proofs.SimpleExact.{simple_ends, simple_exact, simple_begins}
use Rattle.idl_grammar.proofs.BodiesExact.{enumerators_exact, enumerators_has, enumerators_begin}
use Rattle.idl_grammar.proofs.TypeParts.{type_ends, struct_body, union_body, struct_body_has, struct_body_begins, union_body_begins, union_body_has, struct_body_exact, union_parts_read}
use Rattle.idl_grammar.proofs.TypeParts.{union_body_exact}
use Rattle.idl_grammar.proofs.Tagged.{Tagging, tagged_of, tagging_read, tagged_is, tagged, tagged_begins, tagged_exact}
use Rattle.idl_grammar.specs.ReadExpressions.{placed_read}
use Rattle.idl_grammar.proofs.TypeAlternatives.{curly_no_name, switch_no_name, inner, inner_has, inner_begins, struct_alone, struct_full, struct_of, struct_parts, structs, structs_begin, struct_forth}
use Rattle.idl_grammar.proofs.TypeAlternatives.{struct_back, union_alone, union_full, Union_body, union_of, union_parts, unions, unions_begin, union_forth, cases_out, arms_out}

module _ (depth : ℕ) where
  abbrev body_of_union : Rel (Union_body depth)
  body_of_union = union_body depth (inner depth) (inner_has depth) (inner_begins depth)

  cased_back : (at : ℕ) (tag : Option Spelling) (d : Discriminant) (name : Option Spelling) (list : Cases) (lifted : Lifted) (x : Text) (i j : ℕ)
      → type_spec depth (tree.EncapsulatedUnion at tag d name list) lifted x i j → unions depth (tree.EncapsulatedUnion at tag d name list) lifted x i j
  cased_back at None d name list lifted x i j ph =
      let rest = ph.2.2 in
      let l = cases_out depth list lifted x rest.0 j rest.2 in (
        (at, inr (inl ((d, name), l.items))),
        ap (λ (r : Cases). tree.EncapsulatedUnion at None d name r) l.is,
        (ph.0, ph.1, subst (λ (k : ℕ). body_of_union (inl ((d, name), l.items)) lifted x k j) ph.2.1 (rest.0, rest.1, l.phrase)),
      )
  cased_back at (Some tag) d name list lifted x i j ph =
      let rest = ph.2.2 in
      let l = cases_out depth list lifted x rest.0 j rest.2 in (
        (at, inl (tag, Some (inl ((d, name), l.items)))),
        ap (λ (r : Cases). tree.EncapsulatedUnion at (Some tag) d name r) l.is,
        (ph.0, ph.1, (ph.2.0, ph.2.1, (rest.0, rest.1, l.phrase))),
      )

  armed_back : (at : ℕ) (tag : Option Spelling) (list : Arms) (lifted : Lifted) (x : Text) (i j : ℕ)
      → type_spec depth (tree.NonEncapsulatedUnion at tag list) lifted x i j → unions depth (tree.NonEncapsulatedUnion at tag list) lifted x i j
  armed_back at None list lifted x i j ph =
      let l = arms_out depth list lifted x ph.2.0 j ph.2.2 in (
        (at, inr (inr l.items)),
        ap (λ (r : Arms). tree.NonEncapsulatedUnion at None r) l.is,
        (ph.0, ph.1, subst (λ (k : ℕ). body_of_union (inr l.items) lifted x k j) ph.2.1 l.phrase),
      )
  armed_back at (Some tag) list lifted x i j ph =
      let l = arms_out depth list lifted x ph.2.0 j ph.2.2 in
      ((at, inl (tag, Some (inr l.items))), ap (λ (r : Arms). tree.NonEncapsulatedUnion at (Some tag) r) l.is, (ph.0, ph.1, (ph.2.0, ph.2.1, l.phrase)))

  -- enumerations

  abbrev enum_alone : ℕ → Spelling → TypeSpec
  enum_alone at tag = tree.Tag at tags.Enum tag

  abbrev enum_full : ℕ → Option Spelling → List Enumerator → TypeSpec
  enum_full at tag es = tree.Enum at tag es

  abbrev enum_of : ℕ × Tagging (List Enumerator) → TypeSpec
  enum_of p = tagged_of enum_alone enum_full p

  abbrev enum_parts : Rel (ℕ × Tagging (List Enumerator))
  enum_parts = tagged (enumerators depth) (symbol.OpenCurly ∷ []) (enumerators_begin depth) (enumerators_has depth) refl curly_no_name symbol.Enum

  abbrev enums : Rel TypeSpec
  enums = made enum_of enum_parts

  enums_begin : Begins enums (symbol.Enum ∷ [])
  enums_begin =
      made_begins enum_of enum_parts (symbol.Enum ∷ [])
      (tagged_begins (enumerators depth) (symbol.OpenCurly ∷ []) (enumerators_begin depth) (enumerators_has depth) refl curly_no_name symbol.Enum refl)

  enum_forth : (p : ℕ × Tagging (List Enumerator)) (lifted : Lifted) (x : Text) (i j : ℕ) → enum_parts p lifted x i j → type_spec depth (enum_of p) lifted x i j
  enum_forth (at, inl (tag, None)) lifted x i j ph = (ph.0, ph.1, subst (λ (k : ℕ). ident false tag lifted x ph.0 k) (sym ph.2.2) ph.2.1)
  enum_forth (at, inl (tag, Some es)) lifted x i j ph = ph
  enum_forth (at, inr es) lifted x i j ph = (ph.0, ph.1, (ph.0, refl, ph.2))

  enum_back : (at : ℕ) (tag : Option Spelling) (es : List Enumerator) (lifted : Lifted) (x : Text) (i j : ℕ) → type_spec depth (tree.Enum at tag es) lifted x i j
      → enums (tree.Enum at tag es) lifted x i j
  enum_back at None es lifted x i j ph = ((at, inr es), refl, (ph.0, ph.1, subst (λ (k : ℕ). enumerators depth es lifted x k j) ph.2.1 ph.2.2))
  enum_back at (Some tag) es lifted x i j ph = ((at, inl (tag, Some es)), refl, ph)

  -- all of them

  abbrev simples : Rel TypeSpec
  simples = made tree.Simple simple

  abbrev named : Rel TypeSpec
  named = made tree.Name (ident false)

  abbrev from_enum : Rel TypeSpec
  from_enum = either enums named

  abbrev from_union : Rel TypeSpec
  from_union = either (unions depth) from_enum

  abbrev from_struct : Rel TypeSpec
  from_struct = either (structs depth) from_union

  abbrev alternatives : Rel TypeSpec
  alternatives = either simples from_struct

  types_forth : (lifted : Lifted) (x : Text) (i j : ℕ) (c : TypeSpec) → alternatives c lifted x i j → type_spec depth c lifted x i j
  types_forth lifted x i j c (inl ph) = subst (λ (v : TypeSpec). type_spec depth v lifted x i j) (sym ph.1) ph.2
  types_forth lifted x i j c (inr (inl ph)) = subst (λ (v : TypeSpec). type_spec depth v lifted x i j) (sym ph.1) (struct_forth depth ph.0 lifted x i j ph.2)
  types_forth lifted x i j c (inr (inr (inl ph))) = subst (λ (v : TypeSpec). type_spec depth v lifted x i j) (sym ph.1) (union_forth depth ph.0 lifted x i j ph.2)
  types_forth lifted x i j c (inr (inr (inr (inl ph)))) = subst (λ (v : TypeSpec). type_spec depth v lifted x i j) (sym ph.1) (enum_forth ph.0 lifted x i j ph.2)
  types_forth lifted x i j c (inr (inr (inr (inr ph)))) = subst (λ (v : TypeSpec). type_spec depth v lifted x i j) (sym ph.1) ph.2

  tag_back : (at : ℕ) (kind : TagKind) (tag : Spelling) (lifted : Lifted) (x : Text) (i j : ℕ) → type_spec depth (tree.Tag at kind tag) lifted x i j → alternatives (tree.Tag at kind tag) lifted x i j
  tag_back at tags.Struct tag lifted x i j ph = inr (inl ((at, inl (tag, None)), refl, (ph.0, ph.1, (j, ph.2, refl))))
  tag_back at tags.Union tag lifted x i j ph = inr (inr (inl ((at, inl (tag, None)), refl, (ph.0, ph.1, (j, ph.2, refl)))))
  tag_back at tags.Enum tag lifted x i j ph = inr (inr (inr (inl ((at, inl (tag, None)), refl, (ph.0, ph.1, (j, ph.2, refl))))))

  types_back : (lifted : Lifted) (x : Text) (i j : ℕ) (c : TypeSpec) → type_spec depth c lifted x i j → alternatives c lifted x i j
  types_back lifted x i j (tree.Simple s) ph = inl (s, refl, ph)
  types_back lifted x i j (tree.Name n) ph = inr (inr (inr (inr (n, refl, ph))))
  types_back lifted x i j (tree.Tag at kind tag) ph = tag_back at kind tag lifted x i j ph
  types_back lifted x i j (tree.Struct at tag ms) ph = inr (inl (struct_back depth at tag ms lifted x i j ph))
  types_back lifted x i j (tree.EncapsulatedUnion at tag d name cs) ph = inr (inr (inl (cased_back at tag d name cs lifted x i j ph)))
  types_back lifted x i j (tree.NonEncapsulatedUnion at tag a) ph = inr (inr (inl (armed_back at tag a lifted x i j ph)))
  types_back lifted x i j (tree.Enum at tag es) ph = inr (inr (inr (inl (enum_back at tag es lifted x i j ph))))

  abbrev enum_on : List ℕ
  enum_on = symbol.Enum ∷ names false

  abbrev union_on : List ℕ
  union_on = symbol.Union ∷ enum_on

  abbrev struct_on : List ℕ
  struct_on = symbol.Struct ∷ union_on

  named_begin : Begins named (names false)
  named_begin = made_begins tree.Name (ident false) (names false) (ident_begins false)

  simples_begin : Begins simples simple_firsts
  simples_begin = made_begins tree.Simple simple simple_firsts simple_begins

  names_enum : disjoint (names false) (symbol.Enum ∷ []) ≡ true
  unfolding names
  names_enum = refl

  names_in_enum : subset (names false) enum_on ≡ true
  unfolding names
  names_in_enum = refl

  from_enum_begins : Begins from_enum enum_on
  from_enum_begins = either_begins enums named (symbol.Enum ∷ []) (names false) enums_begin named_begin names_enum enum_on refl names_in_enum

  enum_union : disjoint enum_on (symbol.Union ∷ []) ≡ true
  unfolding names
  enum_union = refl

  enum_in_union : subset enum_on union_on ≡ true
  unfolding names
  enum_in_union = refl

  from_union_begins : Begins from_union union_on
  from_union_begins = either_begins (unions depth) from_enum (symbol.Union ∷ []) enum_on (unions_begin depth) from_enum_begins enum_union union_on refl enum_in_union

  union_struct : disjoint union_on (symbol.Struct ∷ []) ≡ true
  unfolding names
  union_struct = refl

  union_in_struct : subset union_on struct_on ≡ true
  unfolding names
  union_in_struct = refl

  from_struct_begins : Begins from_struct struct_on
  from_struct_begins = either_begins (structs depth) from_union (symbol.Struct ∷ []) union_on (structs_begin depth) from_union_begins union_struct struct_on refl union_in_struct

  struct_simple : disjoint struct_on simple_firsts ≡ true
  unfolding names simple_firsts
  struct_simple = refl

  -- ## readings

  module _ (nesting : ℕ) (enough : 129 ≤ nesting) (t : Text) (again : ℕ → Read TypeSpec)
      (exact : depth < 64 → (i : ℕ) → i ≤ length t → Exact (inner depth) (stops type_ends) t i (again i)) where
    structs_exact : (i : ℕ) → i ≤ length t → Exact (structs depth) (stops type_ends) t i (bind_read (placed_read symbol.Struct t i) (λ at m. struct_read nesting t depth again at m))
    unfolding struct_read
    structs_exact i in_text =
        subst (λ (r : Read TypeSpec). Exact (structs depth) (stops type_ends) t i r)
        (tagged_is (struct_alone depth) (struct_full depth) (symbol.OpenCurly ∷ []) t (struct_body_read nesting t depth again) symbol.Struct i)
        (made_exact (struct_of depth) (struct_parts depth) (stops type_ends) t i _
        (tagged_exact (struct_body depth (inner depth) (inner_has depth) (inner_begins depth)) (symbol.OpenCurly ∷ []) (struct_body_begins depth (inner depth) (inner_has depth) (inner_begins depth))
        (struct_body_has depth (inner depth) (inner_has depth) (inner_begins depth)) refl curly_no_name symbol.Struct refl t i in_text (struct_body_read nesting t depth again)
        (λ m in_m. struct_body_exact depth (inner depth) (inner_has depth) (inner_begins depth) nesting enough t again exact m in_m)))

    enums_exact : (i : ℕ) → i ≤ length t → Exact enums (stops type_ends) t i (bind_read (placed_read symbol.Enum t i) (λ at m. enum_read nesting t depth at m))
    unfolding enum_read
    enums_exact i in_text =
        subst (λ (r : Read TypeSpec). Exact enums (stops type_ends) t i r) (tagged_is enum_alone enum_full (symbol.OpenCurly ∷ []) t (enumerators_read nesting t depth) symbol.Enum i)
        (made_exact enum_of enum_parts (stops type_ends) t i _
        (tagged_exact (enumerators depth) (symbol.OpenCurly ∷ []) (enumerators_begin depth) (enumerators_has depth) refl curly_no_name symbol.Enum refl t i in_text (enumerators_read nesting t depth)
        (λ m in_m. enumerators_exact nesting enough t depth m in_m)))

    abbrev parts_of_union : ℕ → Read (Union_body depth)
    parts_of_union = union_parts_read depth (inner depth) (inner_has depth) (inner_begins depth) nesting enough t again exact

    -- what is made of the body of a union is read at once
    union_body_is : (at : ℕ) (tag : Option Spelling) (m : ℕ) → turned (union_full depth at tag) (parts_of_union m) ≡ union_body_read nesting t depth again at tag m
    unfolding union_body_read
    union_body_is at tag m = branch_is (union_full depth at tag) (symbol.Switch ∷ []) t m _ _

    tagged_alike : (alone : Spelling → TypeSpec) (f g : Option Spelling → ℕ → Read TypeSpec) → ((tag : Option Spelling) (m : ℕ) → f tag m ≡ g tag m) → (firsts : List ℕ) (m : ℕ)
        → tagged_read firsts t alone f m ≡ tagged_read firsts t alone g m
    tagged_alike alone f g same firsts m =
        ap (λ (r : Read TypeSpec). branch_read (names false) t m r (f None m))
        (bind_alike (ident_read false t m) _ _ (λ tag o. ap (λ (r : Read TypeSpec). branch_read firsts t o r (Ok (alone tag, o))) (same (Some tag) o)))
        ∙ ap (λ (r : Read TypeSpec). branch_read (names false) t m (bind_read (ident_read false t m) (λ tag o. branch_read firsts t o (g (Some tag) o) (Ok (alone tag, o)))) r) (same None m)

    abbrev union_firsts : List ℕ
    union_firsts = symbol.Switch ∷ symbol.OpenCurly ∷ []

    union_is : (i : ℕ) → turned (union_of depth) (and_then (placed_read symbol.Union t i) (λ at m. tagging_read (union_alone depth) (union_full depth) union_firsts t parts_of_union m))
        ≡ bind_read (placed_read symbol.Union t i) (λ at m. union_read nesting t depth again at m)
    unfolding union_read
    union_is i =
        tagged_is (union_alone depth) (union_full depth) union_firsts t parts_of_union symbol.Union i
        ∙ bind_alike (placed_read symbol.Union t i) _ _ (λ at m. tagged_alike (union_alone depth at) _ _ (λ tag o. union_body_is at tag o) union_firsts m)

    unions_exact : (i : ℕ) → i ≤ length t → Exact (unions depth) (stops type_ends) t i (bind_read (placed_read symbol.Union t i) (λ at m. union_read nesting t depth again at m))
    unions_exact i in_text =
        subst (λ (r : Read TypeSpec). Exact (unions depth) (stops type_ends) t i r) (union_is i)
        (made_exact (union_of depth) (union_parts depth) (stops type_ends) t i _
        (tagged_exact body_of_union union_firsts (union_body_begins depth (inner depth) (inner_has depth) (inner_begins depth))
        (union_body_has depth (inner depth) (inner_has depth) (inner_begins depth)) refl
        switch_no_name symbol.Union refl t i in_text parts_of_union
        (λ m in_m. union_body_exact depth (inner depth) (inner_has depth) (inner_begins depth) nesting enough t again exact m in_m)))

    type_step : (i : ℕ) → i ≤ length t → Exact (type_spec depth) (stops type_ends) t i
        (branch_read simple_firsts t i (turned tree.Simple (simple_read t i))
        (branch_read (symbol.Struct ∷ []) t i (bind_read (placed_read symbol.Struct t i) (λ at m. struct_read nesting t depth again at m))
        (branch_read (symbol.Union ∷ []) t i (bind_read (placed_read symbol.Union t i) (λ at m. union_read nesting t depth again at m))
        (branch_read (symbol.Enum ∷ []) t i (bind_read (placed_read symbol.Enum t i) (λ at m. enum_read nesting t depth at m)) (turned tree.Name (ident_read false t i))))))
    type_step i in_text =
        changed_exact alternatives (type_spec depth) types_forth (stops type_ends) t i (λ lifted x e c j ph stop. types_back lifted x i j c ph) _
        (either_exact simples from_struct simple_firsts struct_on simples_begin from_struct_begins struct_simple (stops type_ends) t i _ _
        (λ h. made_exact tree.Simple simple (stops type_ends) t i (simple_read t i) (fewer_stops simple simple_ends type_ends t i refl (simple_read t i) (simple_exact t i in_text)))
        (either_exact (structs depth) from_union (symbol.Struct ∷ []) union_on (structs_begin depth) from_union_begins union_struct (stops type_ends) t i _ _ (λ h. structs_exact i in_text)
        (either_exact (unions depth) from_enum (symbol.Union ∷ []) enum_on (unions_begin depth) from_enum_begins enum_union (stops type_ends) t i _ _ (λ h. unions_exact i in_text)
        (either_exact enums named (symbol.Enum ∷ []) (names false) enums_begin named_begin names_enum (stops type_ends) t i _ _ (λ h. enums_exact i in_text)
        (made_exact tree.Name (ident false) (stops type_ends) t i (ident_read false t i) (ident_exact false (stops type_ends) t i in_text))))))

-- A type, inside which more levels of brackets may open than the limit lets.
pub type_exact : (nesting : ℕ) → 129 ≤ nesting → (t : Text) (fuel depth i : ℕ) → depth ≤ 64 → 65 ≤ fuel + depth → i ≤ length t
    → Exact (type_spec depth) (stops type_ends) t i (type_read fuel nesting t depth i)
type_exact nesting enough t zero depth i shallow fueled in_text = absurd (omega arith)
type_exact nesting enough t (suc fuel) depth i shallow fueled in_text =
    type_step depth nesting enough t (type_read fuel nesting t (depth + 1)) (λ room m in_m. type_exact nesting enough t fuel (depth + 1) m (omega arith) (omega arith) in_m) i in_text
