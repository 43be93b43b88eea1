-- The alternatives of a type as the grammar has them, and as they are read.
use Rattle.std.proofs.Common.{◌≡◌, ℕ, ◌+◌, true, false, List, [], ◌∷◌, refl, sym, ap, subst, ◌⊎◌, inl, inr, Option, Some, None}
use Rattle.idl_grammar.specs.Text.{Text, symbol_at, is, is_in, Lifted, Rel, made}
use Rattle.idl_grammar.proofs.Exact.{HasPhrase}
use Rattle.idl_grammar.proofs.Parts.{turned_has}
use Rattle.idl_grammar.proofs.Sequences.{Begins, disjoint, subset, in_more, made_begins}
use Rattle.idl_grammar.specs.declared.words.Spelling.{Spelling}
use Rattle.idl_grammar.specs.declared.types.TagKind.{TagKind}
use Rattle.idl_grammar.specs.declared.types.TagKind.TheVariants as tags
use Rattle.idl_grammar.specs.Symbols as symbol
use Rattle.idl_grammar.specs.Expressions.{names, ident}
use Rattle.idl_grammar.specs.Tree as tree
use Rattle.idl_grammar.specs.Tree.{Enumerator, Label, TypeSpec, Members, Cases, Arms, Arm}
use Rattle.idl_grammar.specs.Grammar.{simple, tag_symbol, in_curly, type_spec, some_members, some_cases, some_arms}
use Rattle.idl_grammar.specs.Reading.{simple_firsts, type_firsts, MemberParts, members_of, cases_of, arms_of}
use Rattle.idl_grammar.proofs.Combine.{alone_in}
use Rattle.idl_grammar.proofs.SimpleExact.{simple_has, simple_begins}
use Rattle.idl_grammar.proofs.TypeParts.{struct_body, cases_body, arms_body, Cased, union_body, struct_body_has, struct_body_begins, union_body_begins, union_body_has}
use Rattle.idl_grammar.proofs.TypeLists.{Listed, members_forth, members_back, cases_forth, cases_back, arms_forth, arms_back}
use Rattle.idl_grammar.proofs.Tagged.{Tagging, tagged_of, tagged, tagged_begins}

-- ## what a type begins with

pub simple_type : subset simple_firsts type_firsts ≡ true
unfolding simple_firsts type_firsts names
simple_type = refl

pub name_type : subset (names false) type_firsts ≡ true
unfolding type_firsts names
name_type = refl

pub struct_type : subset (symbol.Struct ∷ []) type_firsts ≡ true
unfolding type_firsts names
struct_type = refl

pub union_type : subset (symbol.Union ∷ []) type_firsts ≡ true
unfolding type_firsts names
union_type = refl

pub enum_type : subset (symbol.Enum ∷ []) type_firsts ≡ true
unfolding type_firsts names
enum_type = refl

abbrev pub word_begins : (s : ℕ) → subset (s ∷ []) type_firsts ≡ true → (x : Text) (i : ℕ) → is (symbol_at x i) s ≡ true → is_in type_firsts (symbol_at x i) ≡ true
word_begins s sub x i h = in_more (s ∷ []) type_firsts (symbol_at x i) sub (alone_in s (symbol_at x i) h)

pub tag_begins : (kind : TagKind) (x : Text) (i : ℕ) → is (symbol_at x i) (tag_symbol kind) ≡ true → is_in type_firsts (symbol_at x i) ≡ true
tag_begins tags.Struct x i h = word_begins symbol.Struct struct_type x i h
tag_begins tags.Union x i h = word_begins symbol.Union union_type x i h
tag_begins tags.Enum x i h = word_begins symbol.Enum enum_type x i h

pub type_begins : (depth : ℕ) → Begins (type_spec depth) type_firsts
type_begins depth lifted x i j (tree.Simple s) ph = in_more simple_firsts type_firsts (symbol_at x i) simple_type (simple_begins lifted x i j s ph)
type_begins depth lifted x i j (tree.Name n) ph = in_more (names false) type_firsts (symbol_at x i) name_type ph.0
type_begins depth lifted x i j (tree.Tag at kind tag) ph = tag_begins kind x i ph.1.0
type_begins depth lifted x i j (tree.Struct at tag ms) ph = word_begins symbol.Struct struct_type x i ph.1.0
type_begins depth lifted x i j (tree.EncapsulatedUnion at tag d name cs) ph = word_begins symbol.Union union_type x i ph.1.0
type_begins depth lifted x i j (tree.NonEncapsulatedUnion at tag a) ph = word_begins symbol.Union union_type x i ph.1.0
type_begins depth lifted x i j (tree.Enum at tag es) ph = word_begins symbol.Enum enum_type x i ph.1.0

pub type_has : (depth : ℕ) → HasPhrase (type_spec depth)
type_has depth = turned_has simple (type_spec depth) tree.Simple (λ lifted x i j a ph. ph) simple_has

-- ## the alternatives

pub curly_no_name : disjoint (symbol.OpenCurly ∷ []) (names false) ≡ true
unfolding names
curly_no_name = refl

pub switch_no_name : disjoint (symbol.Switch ∷ symbol.OpenCurly ∷ []) (names false) ≡ true
unfolding names
switch_no_name = refl

module _ (depth : ℕ) where
  abbrev pub inner : Rel TypeSpec
  inner = type_spec (depth + 1)

  abbrev pub inner_has : HasPhrase inner
  inner_has = type_has (depth + 1)

  abbrev pub inner_begins : Begins inner type_firsts
  inner_begins = type_begins (depth + 1)

  -- structs

  abbrev pub struct_alone : ℕ → Spelling → TypeSpec
  struct_alone at tag = tree.Tag at tags.Struct tag

  abbrev pub struct_full : ℕ → Option Spelling → List MemberParts → TypeSpec
  struct_full at tag ms = tree.Struct at tag (members_of ms)

  abbrev pub struct_of : ℕ × Tagging (List MemberParts) → TypeSpec
  struct_of p = tagged_of struct_alone struct_full p

  abbrev pub struct_parts : Rel (ℕ × Tagging (List MemberParts))
  struct_parts =
      tagged (struct_body depth inner inner_has inner_begins) (symbol.OpenCurly ∷ []) (struct_body_begins depth inner inner_has inner_begins)
      (struct_body_has depth inner inner_has inner_begins) refl curly_no_name symbol.Struct

  abbrev pub structs : Rel TypeSpec
  structs = made struct_of struct_parts

  pub structs_begin : Begins structs (symbol.Struct ∷ [])
  structs_begin =
      made_begins struct_of struct_parts (symbol.Struct ∷ [])
      (tagged_begins (struct_body depth inner inner_has inner_begins) (symbol.OpenCurly ∷ []) (struct_body_begins depth inner inner_has inner_begins)
      (struct_body_has depth inner inner_has inner_begins) refl curly_no_name symbol.Struct refl)

  pub members_in : (ms : List MemberParts) (lifted : Lifted) (x : Text) (i j : ℕ) → struct_body depth inner inner_has inner_begins ms lifted x i j
      → in_curly depth (some_members (depth + 1) (members_of ms)) lifted x i j
  members_in ms lifted x i j ph = (ph.0, ph.1, (ph.2.0, members_forth (depth + 1) inner_has inner_begins ms lifted x ph.0 ph.2.0 ph.2.1, ph.2.2))

  pub struct_forth : (p : ℕ × Tagging (List MemberParts)) (lifted : Lifted) (x : Text) (i j : ℕ) → struct_parts p lifted x i j → type_spec depth (struct_of p) lifted x i j
  struct_forth (at, inl (tag, None)) lifted x i j ph = (ph.0, ph.1, subst (λ (k : ℕ). ident false tag lifted x ph.0 k) (sym ph.2.2) ph.2.1)
  struct_forth (at, inl (tag, Some ms)) lifted x i j ph = (ph.0, ph.1, (ph.2.0, ph.2.1, members_in ms lifted x ph.2.0 j ph.2.2))
  struct_forth (at, inr ms) lifted x i j ph = (ph.0, ph.1, (ph.0, refl, members_in ms lifted x ph.0 j ph.2))

  pub members_out : (ms : Members) (lifted : Lifted) (x : Text) (i j : ℕ) → in_curly depth (some_members (depth + 1) ms) lifted x i j
      → Listed (struct_body depth inner inner_has inner_begins) members_of ms lifted x i j
  members_out ms lifted x i j ph =
      let l = members_back (depth + 1) inner_has inner_begins ms lifted x ph.0 ph.2.0 ph.2.1 in
      record { items = l.items; is = l.is; phrase = (ph.0, ph.1, (ph.2.0, l.phrase, ph.2.2)) }

  pub struct_back : (at : ℕ) (tag : Option Spelling) (ms : Members) (lifted : Lifted) (x : Text) (i j : ℕ) → type_spec depth (tree.Struct at tag ms) lifted x i j
      → structs (tree.Struct at tag ms) lifted x i j
  struct_back at None ms lifted x i j ph =
      let body = ph.2 in
      let l = members_out ms lifted x body.0 j body.2 in
      ((at, inr l.items), ap (λ (r : Members). tree.Struct at None r) l.is, (ph.0, ph.1, subst (λ (k : ℕ). struct_body depth inner inner_has inner_begins l.items lifted x k j) body.1 l.phrase))
  struct_back at (Some tag) ms lifted x i j ph =
      let body = ph.2 in
      let l = members_out ms lifted x body.0 j body.2 in
      ((at, inl (tag, Some l.items)), ap (λ (r : Members). tree.Struct at (Some tag) r) l.is, (ph.0, ph.1, (body.0, body.1, l.phrase)))

  -- unions

  abbrev pub union_alone : ℕ → Spelling → TypeSpec
  union_alone at tag = tree.Tag at tags.Union tag

  abbrev pub union_full : ℕ → Option Spelling → Cased depth inner inner_has inner_begins ⊎ List Arm → TypeSpec
  union_full at tag (inl p) = tree.EncapsulatedUnion at tag p.0.0 p.0.1 (cases_of p.1)
  union_full at tag (inr a) = tree.NonEncapsulatedUnion at tag (arms_of a)

  abbrev pub Union_body : Type 0
  Union_body = Cased depth inner inner_has inner_begins ⊎ List Arm

  abbrev pub union_of : ℕ × Tagging Union_body → TypeSpec
  union_of p = tagged_of union_alone union_full p

  abbrev pub union_parts : Rel (ℕ × Tagging Union_body)
  union_parts =
      tagged (union_body depth inner inner_has inner_begins) (symbol.Switch ∷ symbol.OpenCurly ∷ []) (union_body_begins depth inner inner_has inner_begins)
      (union_body_has depth inner inner_has inner_begins) refl switch_no_name symbol.Union

  abbrev pub unions : Rel TypeSpec
  unions = made union_of union_parts

  pub unions_begin : Begins unions (symbol.Union ∷ [])
  unions_begin =
      made_begins union_of union_parts (symbol.Union ∷ [])
      (tagged_begins (union_body depth inner inner_has inner_begins) (symbol.Switch ∷ symbol.OpenCurly ∷ []) (union_body_begins depth inner inner_has inner_begins)
      (union_body_has depth inner inner_has inner_begins) refl switch_no_name symbol.Union refl)

  pub cases_in : (list : List (List Label × Arm)) (lifted : Lifted) (x : Text) (i j : ℕ) → cases_body depth inner inner_has inner_begins list lifted x i j
      → in_curly depth (some_cases (depth + 1) (cases_of list)) lifted x i j
  cases_in list lifted x i j ph = (ph.0, ph.1, (ph.2.0, cases_forth (depth + 1) inner_has inner_begins list lifted x ph.0 ph.2.0 ph.2.1, ph.2.2))

  pub arms_in : (list : List Arm) (lifted : Lifted) (x : Text) (i j : ℕ) → arms_body depth inner inner_has inner_begins list lifted x i j
      → in_curly depth (some_arms (depth + 1) (arms_of list)) lifted x i j
  arms_in list lifted x i j ph = (ph.0, ph.1, (ph.2.0, arms_forth (depth + 1) inner_has inner_begins list lifted x ph.0 ph.2.0 ph.2.1, ph.2.2))

  pub union_forth : (p : ℕ × Tagging Union_body) (lifted : Lifted) (x : Text) (i j : ℕ) → union_parts p lifted x i j → type_spec depth (union_of p) lifted x i j
  union_forth (at, inl (tag, None)) lifted x i j ph = (ph.0, ph.1, subst (λ (k : ℕ). ident false tag lifted x ph.0 k) (sym ph.2.2) ph.2.1)
  union_forth (at, inl (tag, Some (inl (s, list)))) lifted x i j ph =
      let body = ph.2.2 in
      (ph.0, ph.1, (ph.2.0, ph.2.1, (body.0, body.1, cases_in list lifted x body.0 j body.2)))
  union_forth (at, inl (tag, Some (inr list))) lifted x i j ph = (ph.0, ph.1, (ph.2.0, ph.2.1, arms_in list lifted x ph.2.0 j ph.2.2))
  union_forth (at, inr (inl (s, list))) lifted x i j ph =
      let body = ph.2 in
      (ph.0, ph.1, (ph.0, refl, (body.0, body.1, cases_in list lifted x body.0 j body.2)))
  union_forth (at, inr (inr list)) lifted x i j ph = (ph.0, ph.1, (ph.0, refl, arms_in list lifted x ph.0 j ph.2))

  pub cases_out : (list : Cases) (lifted : Lifted) (x : Text) (i j : ℕ) → in_curly depth (some_cases (depth + 1) list) lifted x i j
      → Listed (cases_body depth inner inner_has inner_begins) cases_of list lifted x i j
  cases_out list lifted x i j ph =
      let l = cases_back (depth + 1) inner_has inner_begins list lifted x ph.0 ph.2.0 ph.2.1 in
      record { items = l.items; is = l.is; phrase = (ph.0, ph.1, (ph.2.0, l.phrase, ph.2.2)) }

  pub arms_out : (list : Arms) (lifted : Lifted) (x : Text) (i j : ℕ) → in_curly depth (some_arms (depth + 1) list) lifted x i j
      → Listed (arms_body depth inner inner_has inner_begins) arms_of list lifted x i j
  arms_out list lifted x i j ph =
      let l = arms_back (depth + 1) inner_has inner_begins list lifted x ph.0 ph.2.0 ph.2.1 in
      record { items = l.items; is = l.is; phrase = (ph.0, ph.1, (ph.2.0, l.phrase, ph.2.2)) }
