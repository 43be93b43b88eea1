-- The bodies of types are read exactly, over any phrases of types inside them.
use Rattle.std.proofs.Common.{◌≡◌, ℕ, ◌+◌, ◌<◌, ◌≤◌, true, false, List, [], ◌∷◌, length, refl, arith, ◌⊎◌, inl, inr, Option, Some, None}
use Rattle.idl_grammar.specs.Text.{Text, is_in, Lifted, Rel, mark, optional, bracketed, some_of, located, made, ◌⊗◌, ◌⊲◌, ◌∣◌}
use Rattle.idl_grammar.specs.ReadPhrases.{Read, and_then, mark_read, choice_read}
use Rattle.idl_grammar.proofs.Exact.{Exact, HasPhrase, Part, pair_exact}
use Rattle.idl_grammar.proofs.Parts.{marked, mark_exact, mark_has, pair_has, turned_has, optional_has}
use Rattle.idl_grammar.proofs.Sequences.{stops, Begins, subset, disjoint, meets_first, ends_at, end_exact, end_has, end_begins, pair_begins, or_pair_begins, located_exact, located_has}
use Rattle.idl_grammar.proofs.Sequences.{located_begins, some_exact, some_has, bracketed_exact, bracketed_has, bracketed_begins, choice_exact, choice_begins, made_exact, made_begins, made_has}
use Rattle.idl_grammar.specs.declared.words.Spelling.{Spelling}
use Rattle.idl_grammar.specs.declared.types.Discriminant.{Discriminant}
use Rattle.idl_grammar.specs.Symbols as symbol
use Rattle.idl_grammar.specs.Expressions.{names}
use Rattle.idl_grammar.specs.Tree as tree
use Rattle.idl_grammar.specs.Tree.{Attributes, Declarator, Label, TypeSpec, Arm}
use Rattle.idl_grammar.specs.Grammar.{attributes, declarator, declarators, labels, union_switch}
use Rattle.idl_grammar.specs.Reading.{line_read, maybe_attributes_read, declarator_read, declarators_read, labels_read, label_firsts, union_switch_read, type_firsts, member_firsts, arm_firsts}
use Rattle.idl_grammar.specs.Reading.{MemberParts, member_read, members_read, struct_body_read, arm_field_read, arm_read, case_read, cases_read, cases_body_read, arms_read, arms_body_read}
use Rattle.idl_grammar.proofs.Combine.{branch_exact, branch_begins, mark_begins}
use Rattle.idl_grammar.proofs.AttributeLists.{maybe_attributes_exact, maybe_attributes_begin}
use Rattle.idl_grammar.proofs.DeclaratorsExact.{declarator_firsts, declarator_ends, declarators_ends, declarator_exact, declarator_has, declarator_begins, declarators_exact, declarators_has}
use Rattle.idl_grammar.proofs.DeclaratorsExact.{declarators_begin}
use Rattle.idl_grammar.proofs.BodiesExact.{labels_exact, labels_has, labels_begin, union_switch_exact, union_switch_begins}

-- what goes on with a type
abbrev pub type_ends : List ℕ
type_ends = symbol.OpenCurly ∷ symbol.Switch ∷ symbol.Unsigned ∷ symbol.Int ∷ []

-- ## what the lists of symbols say

pub declarators_end_types : disjoint declarator_firsts type_ends ≡ true
unfolding declarator_firsts names
declarators_end_types = refl

pub types_no_square : disjoint type_firsts (symbol.OpenSquare ∷ []) ≡ true
unfolding type_firsts names
types_no_square = refl

types_no_semicolon : disjoint type_firsts (symbol.Semicolon ∷ []) ≡ true
unfolding type_firsts names
types_no_semicolon = refl

pub types_real : is_in type_firsts 0 ≡ false
unfolding type_firsts names
types_real = refl

members_real : is_in member_firsts 0 ≡ false
unfolding member_firsts type_firsts names
members_real = refl

arms_real : is_in arm_firsts 0 ≡ false
unfolding arm_firsts type_firsts names
arms_real = refl

types_member : subset type_firsts member_firsts ≡ true
unfolding member_firsts type_firsts names
types_member = refl

square_member : subset (symbol.OpenSquare ∷ []) member_firsts ≡ true
unfolding member_firsts
square_member = refl

members_same : subset member_firsts member_firsts ≡ true
unfolding member_firsts type_firsts names
members_same = refl

members_close : is_in member_firsts symbol.CloseCurly ≡ false
unfolding member_firsts type_firsts names
members_close = refl

tails_arm : subset (symbol.Semicolon ∷ type_firsts) arm_firsts ≡ true
unfolding arm_firsts type_firsts names
tails_arm = refl

types_tail : subset type_firsts (symbol.Semicolon ∷ type_firsts) ≡ true
unfolding type_firsts names
types_tail = refl

square_arm : subset (symbol.OpenSquare ∷ []) arm_firsts ≡ true
unfolding arm_firsts
square_arm = refl

arms_same : subset arm_firsts arm_firsts ≡ true
unfolding arm_firsts type_firsts names
arms_same = refl

arms_close : is_in arm_firsts symbol.CloseCurly ≡ false
unfolding arm_firsts type_firsts names
arms_close = refl

tails_no_square : disjoint (symbol.Semicolon ∷ type_firsts) (symbol.OpenSquare ∷ []) ≡ true
unfolding type_firsts names
tails_no_square = refl

arms_no_label : disjoint arm_firsts label_firsts ≡ true
unfolding arm_firsts type_firsts names
arms_no_label = refl

-- ## with phrases of types inside

module _ (R : Rel TypeSpec) (R_has : HasPhrase R) (R_begins : Begins R type_firsts) (depth : ℕ) where
  -- [ attrs ] type declr { "," declr } ";"
  abbrev pub member_tail : Rel (Option Attributes × (TypeSpec × List Declarator))
  member_tail = optional (attributes depth) ⊗ (R ⊗ (declarators depth ⊲ symbol.Semicolon))

  abbrev pub member_line : Rel MemberParts
  member_line = located member_tail

  declared_has : HasPhrase (R ⊗ (declarators depth ⊲ symbol.Semicolon))
  declared_has = pair_has _ _ R_has (end_has (declarators depth) symbol.Semicolon refl (declarators_has depth))

  declared_begins : Begins (R ⊗ (declarators depth ⊲ symbol.Semicolon)) type_firsts
  declared_begins = pair_begins R (declarators depth ⊲ symbol.Semicolon) type_firsts R_begins

  member_tail_begins : Begins member_tail member_firsts
  member_tail_begins =
      or_pair_begins (optional (attributes depth)) (R ⊗ (declarators depth ⊲ symbol.Semicolon)) (symbol.OpenSquare ∷ []) type_firsts member_firsts
      (maybe_attributes_begin depth) declared_begins square_member types_member

  pub member_begins : Begins member_line member_firsts
  member_begins = located_begins member_tail member_firsts member_tail_begins

  pub member_has : HasPhrase member_line
  member_has = located_has member_tail (pair_has _ _ (optional_has (attributes depth)) declared_has)

  -- an arm after its attributes
  abbrev pub arm_tail : Rel (Option (TypeSpec × Declarator))
  arm_tail None = mark symbol.Semicolon
  arm_tail (Some f) = (R ⊗ (declarator depth ⊲ symbol.Semicolon)) f

  abbrev pub arm_parts : Rel (ℕ × (Option Attributes × Option (TypeSpec × Declarator)))
  arm_parts = located (optional (attributes depth) ⊗ arm_tail)

  abbrev pub arm_of : ℕ × (Option Attributes × Option (TypeSpec × Declarator)) → Arm
  arm_of p = elim p.1.1 [ None ↦ tree.Empty p.0 p.1.0 | Some f ↦ tree.Typed p.0 p.1.0 f.0 f.1 ]

  abbrev pub arm_line : Rel Arm
  arm_line = made arm_of arm_parts

  abbrev pub case_line : Rel (List Label × Arm)
  case_line = labels depth ⊗ arm_line

  field_has : HasPhrase (R ⊗ (declarator depth ⊲ symbol.Semicolon))
  field_has = pair_has _ _ R_has (end_has (declarator depth) symbol.Semicolon refl (declarator_has depth))

  field_begins : Begins (R ⊗ (declarator depth ⊲ symbol.Semicolon)) type_firsts
  field_begins = pair_begins R (declarator depth ⊲ symbol.Semicolon) type_firsts R_begins

  abbrev tail_of : Unit {0} ⊎ (TypeSpec × Declarator) → Option (TypeSpec × Declarator)
  tail_of (inl u) = None
  tail_of (inr f) = Some f

  abbrev tails : Rel (Unit {0} ⊎ (TypeSpec × Declarator))
  tails = marked symbol.Semicolon ∣ (R ⊗ (declarator depth ⊲ symbol.Semicolon))

  tail_forth : (lifted : Lifted) (x : Text) (i j : ℕ) (a : Unit {0} ⊎ (TypeSpec × Declarator)) → tails a lifted x i j → arm_tail (tail_of a) lifted x i j
  tail_forth lifted x i j (inl u) ph = ph
  tail_forth lifted x i j (inr f) ph = ph

  tail_back : (lifted : Lifted) (x : Text) (i j : ℕ) (c : Option (TypeSpec × Declarator)) → arm_tail c lifted x i j → Part tails arm_tail tail_of lifted x i j c
  tail_back lifted x i j None ph = record { part = inl tt; is = refl; phrase = ph }
  tail_back lifted x i j (Some f) ph = record { part = inr f; is = refl; phrase = ph }

  tail_begins : Begins arm_tail (symbol.Semicolon ∷ type_firsts)
  tail_begins =
      branch_begins (marked symbol.Semicolon) (R ⊗ (declarator depth ⊲ symbol.Semicolon)) arm_tail tail_of (symbol.Semicolon ∷ []) type_firsts
      (mark_begins symbol.Semicolon refl) field_begins types_no_semicolon
      tail_forth tail_back (symbol.Semicolon ∷ type_firsts) refl types_tail

  tail_has : HasPhrase arm_tail
  tail_has = turned_has (marked symbol.Semicolon) arm_tail (λ u. None) (λ lifted x i j a ph. ph) (mark_has symbol.Semicolon refl)

  arm_parts_begin : Begins (optional (attributes depth) ⊗ arm_tail) arm_firsts
  arm_parts_begin =
      or_pair_begins (optional (attributes depth)) arm_tail (symbol.OpenSquare ∷ []) (symbol.Semicolon ∷ type_firsts) arm_firsts (maybe_attributes_begin depth) tail_begins square_arm tails_arm

  pub arm_begins : Begins arm_line arm_firsts
  arm_begins = made_begins arm_of arm_parts arm_firsts (located_begins (optional (attributes depth) ⊗ arm_tail) arm_firsts arm_parts_begin)

  pub arm_has : HasPhrase arm_line
  arm_has = made_has arm_of arm_parts (located_has (optional (attributes depth) ⊗ arm_tail) (pair_has _ _ (optional_has (attributes depth)) tail_has))

  pub case_begins : Begins case_line label_firsts
  case_begins = pair_begins (labels depth) arm_line label_firsts (labels_begin depth)

  pub case_has : HasPhrase case_line
  case_has = pair_has _ _ (labels_has depth) arm_has

  module _ (nesting : ℕ) (enough : 129 ≤ nesting) (t : Text) (shallow : depth ≤ 64) (again : ℕ → Read TypeSpec)
      (exact : (i : ℕ) → i ≤ length t → Exact R (stops type_ends) t i (again i)) where
    pub member_exact : (i : ℕ) → i ≤ length t → Exact member_line (stops []) t i (member_read nesting t depth again i)
    unfolding member_read
    member_exact i in_text =
        located_exact member_tail member_firsts (stops []) t i member_tail_begins members_real _
        (pair_exact (optional (attributes depth)) (R ⊗ (declarators depth ⊲ symbol.Semicolon)) (stops (symbol.OpenSquare ∷ [])) (stops [])
        (meets_first (R ⊗ (declarators depth ⊲ symbol.Semicolon)) type_firsts (symbol.OpenSquare ∷ []) (stops []) declared_begins types_no_square) declared_has t i
        (maybe_attributes_read nesting t depth i) _ (maybe_attributes_exact nesting enough t depth i in_text)
        (λ a m found.
        pair_exact R (declarators depth ⊲ symbol.Semicolon) (stops type_ends) (stops [])
        (meets_first (declarators depth ⊲ symbol.Semicolon) declarator_firsts type_ends (stops [])
        (end_begins (declarators depth) symbol.Semicolon declarator_firsts (declarators_begin depth)) declarators_end_types)
        (end_has (declarators depth) symbol.Semicolon refl (declarators_has depth)) t m (again m) (λ c o. line_read t (declarators_read nesting t depth o)) (exact m found.within)
        (λ c o found_c. end_exact (declarators depth) symbol.Semicolon declarators_ends (stops []) t o refl refl (declarators_read nesting t depth o)
        (declarators_exact nesting enough t depth o found_c.within))))

    pub members_exact : (i : ℕ) → i ≤ length t → Exact (some_of member_line) (stops member_firsts) t i (members_read nesting t depth again i)
    unfolding members_read
    members_exact i in_text =
        some_exact member_line member_firsts [] member_firsts member_begins members_real members_same refl (nothing_apart member_firsts) t i (member_read nesting t depth again)
        (λ m based in_m. member_exact m in_m) i (omega arith) in_text where
          nothing_apart : (xs : List ℕ) → disjoint xs [] ≡ true
          nothing_apart [] = refl
          nothing_apart (d ∷ ds) = nothing_apart ds

    arm_field_exact : (i : ℕ) → i ≤ length t → Exact (R ⊗ (declarator depth ⊲ symbol.Semicolon)) (stops []) t i (arm_field_read nesting t depth again i)
    unfolding arm_field_read
    arm_field_exact i in_text =
        pair_exact R (declarator depth ⊲ symbol.Semicolon) (stops type_ends) (stops [])
        (meets_first (declarator depth ⊲ symbol.Semicolon) declarator_firsts type_ends (stops [])
        (end_begins (declarator depth) symbol.Semicolon declarator_firsts (declarator_begins depth)) declarators_end_types)
        (end_has (declarator depth) symbol.Semicolon refl (declarator_has depth)) t i (again i) (λ c o. line_read t (declarator_read nesting t depth o)) (exact i in_text)
        (λ c o found. end_exact (declarator depth) symbol.Semicolon declarator_ends (stops []) t o refl refl (declarator_read nesting t depth o)
        (declarator_exact nesting enough t depth o found.within))

    pub arm_exact : (i : ℕ) → i ≤ length t → Exact arm_line (stops []) t i (arm_read nesting t depth again i)
    unfolding arm_read
    arm_exact i in_text =
        made_exact arm_of arm_parts (stops []) t i _
        (located_exact (optional (attributes depth) ⊗ arm_tail) arm_firsts (stops []) t i arm_parts_begin arms_real _
        (pair_exact (optional (attributes depth)) arm_tail (stops (symbol.OpenSquare ∷ [])) (stops [])
        (meets_first arm_tail (symbol.Semicolon ∷ type_firsts) (symbol.OpenSquare ∷ []) (stops []) tail_begins tails_no_square) tail_has t i
        (maybe_attributes_read nesting t depth i) _ (maybe_attributes_exact nesting enough t depth i in_text)
        (λ a m found.
        branch_exact (marked symbol.Semicolon) (R ⊗ (declarator depth ⊲ symbol.Semicolon)) arm_tail tail_of (symbol.Semicolon ∷ []) type_firsts
        (mark_begins symbol.Semicolon refl) field_begins types_no_semicolon
        tail_forth tail_back (stops []) t m (mark_read symbol.Semicolon t m) (arm_field_read nesting t depth again m) (λ h. mark_exact symbol.Semicolon refl (stops []) t m found.within)
        (arm_field_exact m found.within))))

    pub case_exact : (i : ℕ) → i ≤ length t → Exact case_line (stops []) t i (case_read nesting t depth again i)
    unfolding case_read
    case_exact i in_text =
        pair_exact (labels depth) arm_line (stops label_firsts) (stops []) (meets_first arm_line arm_firsts label_firsts (stops []) arm_begins arms_no_label) arm_has t i
        (labels_read nesting t depth i) (λ ls m. arm_read nesting t depth again m) (labels_exact depth nesting enough shallow t i in_text) (λ ls m found. arm_exact m found.within)

    pub cases_exact : (i : ℕ) → i ≤ length t → Exact (some_of case_line) (stops label_firsts) t i (cases_read nesting t depth again i)
    unfolding cases_read
    cases_exact i in_text =
        some_exact case_line label_firsts [] label_firsts case_begins refl refl refl refl t i (case_read nesting t depth again) (λ m based in_m. case_exact m in_m) i (omega arith) in_text

    pub arms_exact : (i : ℕ) → i ≤ length t → Exact (some_of arm_line) (stops arm_firsts) t i (arms_read nesting t depth again i)
    unfolding arms_read
    arms_exact i in_text =
        some_exact arm_line arm_firsts [] arm_firsts arm_begins arms_real arms_same refl (nothing_apart arm_firsts) t i (arm_read nesting t depth again)
        (λ m based in_m. arm_exact m in_m) i (omega arith) in_text where
          nothing_apart : (xs : List ℕ) → disjoint xs [] ≡ true
          nothing_apart [] = refl
          nothing_apart (d ∷ ds) = nothing_apart ds

-- ## bodies, at a depth, of what stands one bracket deeper

module _ (depth : ℕ) (R : Rel TypeSpec) (R_has : HasPhrase R) (R_begins : Begins R type_firsts) where
  abbrev pub struct_body : Rel (List MemberParts)
  struct_body = bracketed depth symbol.OpenCurly symbol.CloseCurly (some_of (member_line R R_has R_begins (depth + 1)))

  abbrev pub cases_body : Rel (List (List Label × Arm))
  cases_body = bracketed depth symbol.OpenCurly symbol.CloseCurly (some_of (case_line R R_has R_begins (depth + 1)))

  abbrev pub arms_body : Rel (List Arm)
  arms_body = bracketed depth symbol.OpenCurly symbol.CloseCurly (some_of (arm_line R R_has R_begins (depth + 1)))

  abbrev pub Cased : Type 0
  Cased = (Discriminant × Option Spelling) × List (List Label × Arm)

  abbrev pub union_body : Rel (Cased ⊎ List Arm)
  union_body = (union_switch depth ⊗ cases_body) ∣ arms_body

  pub struct_body_has : HasPhrase struct_body
  struct_body_has = bracketed_has depth symbol.OpenCurly symbol.CloseCurly _ refl refl (some_has (member_line R R_has R_begins (depth + 1)) (member_has R R_has R_begins (depth + 1)))

  pub struct_body_begins : Begins struct_body (symbol.OpenCurly ∷ [])
  struct_body_begins = bracketed_begins depth symbol.OpenCurly symbol.CloseCurly (some_of (member_line R R_has R_begins (depth + 1))) refl refl

  cases_body_has : HasPhrase cases_body
  cases_body_has = bracketed_has depth symbol.OpenCurly symbol.CloseCurly _ refl refl (some_has (case_line R R_has R_begins (depth + 1)) (case_has R R_has R_begins (depth + 1)))

  cases_body_begins : Begins cases_body (symbol.OpenCurly ∷ [])
  cases_body_begins = bracketed_begins depth symbol.OpenCurly symbol.CloseCurly (some_of (case_line R R_has R_begins (depth + 1))) refl refl

  arms_body_has : HasPhrase arms_body
  arms_body_has = bracketed_has depth symbol.OpenCurly symbol.CloseCurly _ refl refl (some_has (arm_line R R_has R_begins (depth + 1)) (arm_has R R_has R_begins (depth + 1)))

  arms_body_begins : Begins arms_body (symbol.OpenCurly ∷ [])
  arms_body_begins = bracketed_begins depth symbol.OpenCurly symbol.CloseCurly (some_of (arm_line R R_has R_begins (depth + 1))) refl refl

  switched_begins : Begins (union_switch depth ⊗ cases_body) (symbol.Switch ∷ [])
  switched_begins = pair_begins (union_switch depth) cases_body (symbol.Switch ∷ []) (union_switch_begins depth)

  pub union_body_begins : Begins union_body (symbol.Switch ∷ symbol.OpenCurly ∷ [])
  union_body_begins =
      choice_begins (union_switch depth ⊗ cases_body) arms_body (symbol.Switch ∷ []) (symbol.OpenCurly ∷ []) (symbol.Switch ∷ symbol.OpenCurly ∷ []) switched_begins arms_body_begins refl refl

  pub union_body_has : HasPhrase union_body
  union_body_has = turned_has arms_body union_body inr (λ lifted x i j a ph. ph) arms_body_has

  module _ (nesting : ℕ) (enough : 129 ≤ nesting) (t : Text) (again : ℕ → Read TypeSpec)
      (exact : depth < 64 → (i : ℕ) → i ≤ length t → Exact R (stops type_ends) t i (again i)) where
    pub struct_body_exact : (i : ℕ) → i ≤ length t → Exact struct_body (stops []) t i (struct_body_read nesting t depth again i)
    unfolding struct_body_read
    struct_body_exact i in_text =
        bracketed_exact depth symbol.OpenCurly symbol.CloseCurly (some_of (member_line R R_has R_begins (depth + 1))) refl refl (stops member_firsts) (stops []) t i in_text
        (ends_at symbol.CloseCurly member_firsts (stops []) members_close) (some_has (member_line R R_has R_begins (depth + 1)) (member_has R R_has R_begins (depth + 1)))
        (members_read nesting t (depth + 1) again)
        (λ room m after in_m. members_exact R R_has R_begins (depth + 1) nesting enough t (omega arith) again (exact room) m in_m)

    cases_body_exact : (i : ℕ) → i ≤ length t → Exact cases_body (stops []) t i (cases_body_read nesting t depth again i)
    unfolding cases_body_read
    cases_body_exact i in_text =
        bracketed_exact depth symbol.OpenCurly symbol.CloseCurly (some_of (case_line R R_has R_begins (depth + 1))) refl refl (stops label_firsts) (stops []) t i in_text
        (ends_at symbol.CloseCurly label_firsts (stops []) refl) (some_has (case_line R R_has R_begins (depth + 1)) (case_has R R_has R_begins (depth + 1)))
        (cases_read nesting t (depth + 1) again)
        (λ room m after in_m. cases_exact R R_has R_begins (depth + 1) nesting enough t (omega arith) again (exact room) m in_m)

    arms_body_exact : (i : ℕ) → i ≤ length t → Exact arms_body (stops []) t i (arms_body_read nesting t depth again i)
    unfolding arms_body_read
    arms_body_exact i in_text =
        bracketed_exact depth symbol.OpenCurly symbol.CloseCurly (some_of (arm_line R R_has R_begins (depth + 1))) refl refl (stops arm_firsts) (stops []) t i in_text
        (ends_at symbol.CloseCurly arm_firsts (stops []) arms_close) (some_has (arm_line R R_has R_begins (depth + 1)) (arm_has R R_has R_begins (depth + 1)))
        (arms_read nesting t (depth + 1) again)
        (λ room m after in_m. arms_exact R R_has R_begins (depth + 1) nesting enough t (omega arith) again (exact room) m in_m)

    -- the body of a union, before its type is made
    abbrev pub union_parts_read : ℕ → Read (Cased ⊎ List Arm)
    union_parts_read i =
        choice_read (symbol.Switch ∷ []) t i (and_then (union_switch_read t depth i) (λ s m. cases_body_read nesting t depth again m)) (arms_body_read nesting t depth again i)

    curly_no_name : disjoint (symbol.OpenCurly ∷ []) (names false) ≡ true
    unfolding names
    curly_no_name = refl

    pub union_body_exact : (i : ℕ) → i ≤ length t → Exact union_body (stops []) t i (union_parts_read i)
    union_body_exact i in_text =
        choice_exact (union_switch depth ⊗ cases_body) arms_body (symbol.Switch ∷ []) (symbol.OpenCurly ∷ []) switched_begins arms_body_begins refl (stops []) t i _ _
        (λ h.
        pair_exact (union_switch depth) cases_body (stops (names false)) (stops [])
        (meets_first cases_body (symbol.OpenCurly ∷ []) (names false) (stops []) cases_body_begins curly_no_name) cases_body_has t i
        (union_switch_read t depth i) (λ s m. cases_body_read nesting t depth again m) (union_switch_exact t depth i in_text) (λ s m found. cases_body_exact m found.within))
        (arms_body_exact i in_text)
