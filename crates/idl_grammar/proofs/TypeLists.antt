-- The lists in the tree of a type, and lists of their parts.
use Rattle.std.proofs.Common.{◌≡◌, ℕ, ◌+◌, Bool, List, [], ◌∷◌, refl, ap, ◌∙◌, Option, Some, None}
use Rattle.idl_grammar.specs.Text.{Text, Lifted, Rel, many, some_of}
use Rattle.idl_grammar.proofs.Exact.{HasPhrase}
use Rattle.idl_grammar.proofs.Sequences.{Begins}
use Rattle.idl_grammar.specs.Tree as tree
use Rattle.idl_grammar.specs.Tree.{Attributes, Declarator, Label, TypeSpec, Members, Cases, Arms, Arm}
use Rattle.idl_grammar.specs.Grammar.{type_spec, members, some_members, cases, some_cases, arms, some_arms, arm}
use Rattle.idl_grammar.specs.Reading.{type_firsts, MemberParts, members_of, cases_of, arms_of}
use Rattle.idl_grammar.proofs.TypeParts.{member_line, arm_line, arm_tail, case_line}

-- what is made of a list, and the phrases of that list
pub record Listed {A C : Type 0} (P : Rel (List A)) (make : List A → C) (c : C) (lifted : Lifted) (x : Text) (i j : ℕ) : Type 0 where
  pub items : List A
  pub is : c ≡ make items
  pub phrase : P items lifted x i j

module _ (depth : ℕ) (has : HasPhrase (type_spec depth)) (begins : Begins (type_spec depth) type_firsts) where
  abbrev line : Rel MemberParts
  line = member_line (type_spec depth) has begins depth

  many_members : (ms : List MemberParts) (lifted : Lifted) (x : Text) (i j : ℕ) → many line ms lifted x i j → members depth (members_of ms) lifted x i j
  many_members [] lifted x i j ph = ph
  many_members (m ∷ ms) lifted x i j ph = (ph.0, ph.1, many_members ms lifted x ph.0 j ph.2)

  pub members_forth : (ms : List MemberParts) (lifted : Lifted) (x : Text) (i j : ℕ) → some_of line ms lifted x i j → some_members depth (members_of ms) lifted x i j
  members_forth [] lifted x i j ph = absurd ph
  members_forth (m ∷ ms) lifted x i j ph = (ph.0, ph.1, many_members ms lifted x ph.0 j ph.2)

  members_many : (ms : Members) (lifted : Lifted) (x : Text) (i j : ℕ) → members depth ms lifted x i j → Listed (many line) members_of ms lifted x i j
  members_many tree.no_members lifted x i j ph = record { items = []; is = refl; phrase = ph }
  members_many (tree.next_member at a type ds others) lifted x i j ph =
      let rest = members_many others lifted x ph.0 j ph.2 in
      record { items = (at, (a, (type, ds))) ∷ rest.items; is = ap (λ (r : Members). tree.next_member at a type ds r) rest.is; phrase = (ph.0, ph.1, rest.phrase) }

  pub members_back : (ms : Members) (lifted : Lifted) (x : Text) (i j : ℕ) → some_members depth ms lifted x i j → Listed (some_of line) members_of ms lifted x i j
  members_back tree.no_members lifted x i j ph = absurd ph
  members_back (tree.next_member at a type ds others) lifted x i j ph =
      let rest = members_many others lifted x ph.0 j ph.2 in
      record { items = (at, (a, (type, ds))) ∷ rest.items; is = ap (λ (r : Members). tree.next_member at a type ds r) rest.is; phrase = (ph.0, ph.1, rest.phrase) }

  -- ## arms

  abbrev arms_line : Rel Arm
  arms_line = arm_line (type_spec depth) has begins depth

  arm_forth : (a : Arm) (lifted : Lifted) (x : Text) (i j : ℕ) → arms_line a lifted x i j → arm depth a lifted x i j
  arm_forth a lifted x i j ph = Rattle.std.proofs.Common.subst (λ (v : Arm). arm depth v lifted x i j) (Rattle.std.proofs.Common.sym ph.1) (by_case ph.0 ph.2) where
    by_case : (p : ℕ × (Option Attributes × Option (TypeSpec × Declarator))) → Rattle.idl_grammar.proofs.TypeParts.arm_parts (type_spec depth) has begins depth p lifted x i j
        → arm depth (Rattle.idl_grammar.proofs.TypeParts.arm_of (type_spec depth) has begins depth p) lifted x i j
    by_case (at, (a, None)) q = q
    by_case (at, (a, Some f)) q = q

  arm_back : (a : Arm) (lifted : Lifted) (x : Text) (i j : ℕ) → arm depth a lifted x i j → arms_line a lifted x i j
  arm_back (tree.Empty at a) lifted x i j ph = ((at, (a, None)), refl, ph)
  arm_back (tree.Typed at a type d) lifted x i j ph = ((at, (a, Some (type, d))), refl, ph)

  many_arms : (list : List Arm) (lifted : Lifted) (x : Text) (i j : ℕ) → many arms_line list lifted x i j → arms depth (arms_of list) lifted x i j
  many_arms [] lifted x i j ph = ph
  many_arms (a ∷ others) lifted x i j ph = (ph.0, arm_forth a lifted x i ph.0 ph.1, many_arms others lifted x ph.0 j ph.2)

  pub arms_forth : (list : List Arm) (lifted : Lifted) (x : Text) (i j : ℕ) → some_of arms_line list lifted x i j → some_arms depth (arms_of list) lifted x i j
  arms_forth [] lifted x i j ph = absurd ph
  arms_forth (a ∷ others) lifted x i j ph = (ph.0, arm_forth a lifted x i ph.0 ph.1, many_arms others lifted x ph.0 j ph.2)

  arms_many : (list : Arms) (lifted : Lifted) (x : Text) (i j : ℕ) → arms depth list lifted x i j → Listed (many arms_line) arms_of list lifted x i j
  arms_many tree.no_arms lifted x i j ph = record { items = []; is = refl; phrase = ph }
  arms_many (tree.next_arm a others) lifted x i j ph =
      let rest = arms_many others lifted x ph.0 j ph.2 in
      record { items = a ∷ rest.items; is = ap (λ (r : Arms). tree.next_arm a r) rest.is; phrase = (ph.0, arm_back a lifted x i ph.0 ph.1, rest.phrase) }

  pub arms_back : (list : Arms) (lifted : Lifted) (x : Text) (i j : ℕ) → some_arms depth list lifted x i j → Listed (some_of arms_line) arms_of list lifted x i j
  arms_back tree.no_arms lifted x i j ph = absurd ph
  arms_back (tree.next_arm a others) lifted x i j ph =
      let rest = arms_many others lifted x ph.0 j ph.2 in
      record { items = a ∷ rest.items; is = ap (λ (r : Arms). tree.next_arm a r) rest.is; phrase = (ph.0, arm_back a lifted x i ph.0 ph.1, rest.phrase) }

  -- ## cases

  abbrev cases_line : Rel (List Label × Arm)
  cases_line = case_line (type_spec depth) has begins depth

  many_cases : (list : List (List Label × Arm)) (lifted : Lifted) (x : Text) (i j : ℕ) → many cases_line list lifted x i j → cases depth (cases_of list) lifted x i j
  many_cases [] lifted x i j ph = ph
  many_cases (c ∷ others) lifted x i j ph =
      let one = ph.1 in
      (one.0, one.1, (ph.0, arm_forth c.1 lifted x one.0 ph.0 one.2, many_cases others lifted x ph.0 j ph.2))

  pub cases_forth : (list : List (List Label × Arm)) (lifted : Lifted) (x : Text) (i j : ℕ) → some_of cases_line list lifted x i j → some_cases depth (cases_of list) lifted x i j
  cases_forth [] lifted x i j ph = absurd ph
  cases_forth (c ∷ others) lifted x i j ph =
      let one = ph.1 in
      (one.0, one.1, (ph.0, arm_forth c.1 lifted x one.0 ph.0 one.2, many_cases others lifted x ph.0 j ph.2))

  cases_many : (list : Cases) (lifted : Lifted) (x : Text) (i j : ℕ) → cases depth list lifted x i j → Listed (many cases_line) cases_of list lifted x i j
  cases_many tree.no_cases lifted x i j ph = record { items = []; is = refl; phrase = ph }
  cases_many (tree.next_case ls a others) lifted x i j ph =
      let tail = ph.2 in
      let rest = cases_many others lifted x tail.0 j tail.2 in
      record { items = (ls, a) ∷ rest.items; is = ap (λ (r : Cases). tree.next_case ls a r) rest.is; phrase = (tail.0, (ph.0, ph.1, arm_back a lifted x ph.0 tail.0 tail.1), rest.phrase) }

  pub cases_back : (list : Cases) (lifted : Lifted) (x : Text) (i j : ℕ) → some_cases depth list lifted x i j → Listed (some_of cases_line) cases_of list lifted x i j
  cases_back tree.no_cases lifted x i j ph = absurd ph
  cases_back (tree.next_case ls a others) lifted x i j ph =
      let tail = ph.2 in
      let rest = cases_many others lifted x tail.0 j tail.2 in
      record { items = (ls, a) ∷ rest.items; is = ap (λ (r : Cases). tree.next_case ls a r) rest.is; phrase = (tail.0, (ph.0, ph.1, arm_back a lifted x ph.0 tail.0 tail.1), rest.phrase) }
