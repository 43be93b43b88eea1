-- The names that a text declares are identifiers: that of its interface, and those of members, arms, operations and parameters.
use Rattle.std.proofs.Common.{◌≡◌, ℕ, ◌+◌, Bool, true, false, ◌&&◌, List, [], ◌∷◌, length, refl, sym, ap, subst, ◌∙◌}
use Rattle.std.specs.List.{list_all}
use Rattle.std.specs.Cmp.Derive.{both_true}
use Rattle.idl_grammar.specs.declared.language.Language.{Language}
use Rattle.nd_base.specs.Text.{is_identifier}
use Rattle.idl_grammar.specs.Text.{Text, Lifted, many, ◌⊳◌, lexemes, IsFormed}
use Rattle.idl_grammar.specs.Answers.{strict}
use Rattle.idl_lexer.specs.Verdict.{AreFormed, AreTokens}
use Rattle.idl_lexer.proofs.Words.{tokens_formed}
use Rattle.idl_grammar.specs.declared.words.Spelling.{Spelling}
use Rattle.idl_grammar.specs.Symbols as symbol
use Rattle.idl_grammar.specs.Expressions.{ident}
use Rattle.idl_grammar.specs.Tree.{Declarator, TypeSpec, Members, Cases, Arms, Arm, Parameter, Parameters, Export, Tree}
use Rattle.idl_grammar.specs.Tree as tree
use Rattle.idl_grammar.specs.Grammar.{declarator, declarators, type_spec, some_members, members, some_cases, cases, some_arms, arms, arm, parameter, parameters, export, file}
use Rattle.idl_grammar.proofs.Formed.{lexemes_formed}
use Rattle.idl_tokens.proofs.Basics.{name_is_word}
use Rattle.idl_scope.specs.Steps.{parameters_of}
use Rattle.idl_names.specs.Walk.{IsFile}

-- ## The names of a tree

abbrev pub is_named : Declarator → Bool
is_named d = is_identifier d.name.octets

abbrev pub are_named : List Declarator → Bool
are_named ds = list_all is_named ds

abbrev mutual
  -- the members and arms of a type, and of the types in it, have identifiers for names
  pub type_named : TypeSpec → Bool
  type_named (tree.Simple s) = true
  type_named (tree.Name n) = true
  type_named (tree.Tag at kind tag) = true
  type_named (tree.Struct at tag ms) = members_named ms
  type_named (tree.EncapsulatedUnion at tag d name cs) = cases_named cs
  type_named (tree.NonEncapsulatedUnion at tag a) = arms_named a
  type_named (tree.Enum at tag es) = true

  pub members_named : Members → Bool
  members_named tree.no_members = true
  members_named (tree.next_member at a type ds others) = type_named type && (are_named ds && members_named others)

  pub cases_named : Cases → Bool
  cases_named tree.no_cases = true
  cases_named (tree.next_case ls a others) = arm_named a && cases_named others

  pub arms_named : Arms → Bool
  arms_named tree.no_arms = true
  arms_named (tree.next_arm a others) = arm_named a && arms_named others

  pub arm_named : Arm → Bool
  arm_named (tree.Empty at a) = true
  arm_named (tree.Typed at a type d) = type_named type && is_named d

abbrev pub parameter_named : Parameter → Bool
parameter_named p = type_named p.type && is_named p.declarator

abbrev pub export_named : Export → Bool
export_named (tree.Typedef at a pipe type ds) = type_named type
export_named (tree.Const at type star name value) = true
export_named (tree.Tagged at a type) = type_named type
export_named (tree.Operation at a result name ps) = is_identifier name.octets && (type_named result && list_all parameter_named (parameters_of ps))

abbrev pub tree_named : Tree → Bool
tree_named t = is_identifier t.name.octets && list_all export_named t.exports

-- ## The names of a text

module _ (x : Text) (formed : IsFormed x) (lifted : Lifted) where
  name_is : (inside : Bool) (n : Spelling) (i j : ℕ) → ident inside n lifted x i j → is_identifier n.octets ≡ true
  name_is inside n i j ph = ap (λ (s : Spelling). is_identifier s.octets) ph.1 ∙ formed.word i (name_is_word x i inside ph.0)

  declarator_is : (depth : ℕ) (d : Declarator) (i j : ℕ) → declarator depth d lifted x i j → is_named d ≡ true
  unfolding declarator
  declarator_is depth d i j ph = name_is false d.name ph.0 ph.2.0 ph.2.1

  others_are : (depth : ℕ) (ds : List Declarator) (i j : ℕ) → many (symbol.Comma ⊳ declarator depth) ds lifted x i j → are_named ds ≡ true
  others_are depth [] i j ph = refl
  others_are depth (d ∷ ds) i j ph = both_true (declarator_is depth d ph.1.0 ph.0 ph.1.2) (others_are depth ds ph.0 j ph.2)

  declarators_are : (depth : ℕ) (ds : List Declarator) (i j : ℕ) → declarators depth ds lifted x i j → are_named ds ≡ true
  unfolding declarators
  declarators_are depth [] i j ph = absurd ph
  declarators_are depth (d ∷ ds) i j ph = both_true (declarator_is depth d i ph.0 ph.1) (others_are depth ds ph.0 j ph.2)

  mutual
    type_is : (depth : ℕ) (t : TypeSpec) (i j : ℕ) → type_spec depth t lifted x i j → type_named t ≡ true
    type_is depth (tree.Simple s) i j ph = refl
    type_is depth (tree.Name n) i j ph = refl
    type_is depth (tree.Tag at kind tag) i j ph = refl
    type_is depth (tree.Struct at tag ms) i j ph = let c = ph.2.2 in some_members_are (depth + 1) ms c.0 c.2.0 c.2.1
    type_is depth (tree.EncapsulatedUnion at tag d name cs) i j ph = let c = ph.2.2.2 in some_cases_are (depth + 1) cs c.0 c.2.0 c.2.1
    type_is depth (tree.NonEncapsulatedUnion at tag a) i j ph = let c = ph.2.2 in some_arms_are (depth + 1) a c.0 c.2.0 c.2.1
    type_is depth (tree.Enum at tag es) i j ph = refl

    some_members_are : (depth : ℕ) (ms : Members) (i j : ℕ) → some_members depth ms lifted x i j → members_named ms ≡ true
    some_members_are depth tree.no_members i j ph = absurd ph
    some_members_are depth (tree.next_member at a type ds others) i j ph =
        let m = ph.1.1 in
        both_true (type_is depth type m.0 m.2.0 m.2.1) (both_true (declarators_are depth ds m.2.0 m.2.2.0 m.2.2.1) (members_are depth others ph.0 j ph.2))

    members_are : (depth : ℕ) (ms : Members) (i j : ℕ) → members depth ms lifted x i j → members_named ms ≡ true
    members_are depth tree.no_members i j ph = refl
    members_are depth (tree.next_member at a type ds others) i j ph =
        let m = ph.1.1 in
        both_true (type_is depth type m.0 m.2.0 m.2.1) (both_true (declarators_are depth ds m.2.0 m.2.2.0 m.2.2.1) (members_are depth others ph.0 j ph.2))

    some_cases_are : (depth : ℕ) (cs : Cases) (i j : ℕ) → some_cases depth cs lifted x i j → cases_named cs ≡ true
    some_cases_are depth tree.no_cases i j ph = absurd ph
    some_cases_are depth (tree.next_case ls a others) i j ph = both_true (arm_is depth a ph.0 ph.2.0 ph.2.1) (cases_are depth others ph.2.0 j ph.2.2)

    cases_are : (depth : ℕ) (cs : Cases) (i j : ℕ) → cases depth cs lifted x i j → cases_named cs ≡ true
    cases_are depth tree.no_cases i j ph = refl
    cases_are depth (tree.next_case ls a others) i j ph = both_true (arm_is depth a ph.0 ph.2.0 ph.2.1) (cases_are depth others ph.2.0 j ph.2.2)

    some_arms_are : (depth : ℕ) (xs : Arms) (i j : ℕ) → some_arms depth xs lifted x i j → arms_named xs ≡ true
    some_arms_are depth tree.no_arms i j ph = absurd ph
    some_arms_are depth (tree.next_arm a others) i j ph = both_true (arm_is depth a i ph.0 ph.1) (arms_are depth others ph.0 j ph.2)

    arms_are : (depth : ℕ) (xs : Arms) (i j : ℕ) → arms depth xs lifted x i j → arms_named xs ≡ true
    arms_are depth tree.no_arms i j ph = refl
    arms_are depth (tree.next_arm a others) i j ph = both_true (arm_is depth a i ph.0 ph.1) (arms_are depth others ph.0 j ph.2)

    arm_is : (depth : ℕ) (a : Arm) (i j : ℕ) → arm depth a lifted x i j → arm_named a ≡ true
    arm_is depth (tree.Empty at a) i j ph = refl
    arm_is depth (tree.Typed at a type d) i j ph =
        let m = ph.1 in both_true (type_is depth type m.0 m.2.0 m.2.1) (declarator_is depth d m.2.0 m.2.2.0 m.2.2.1)

  parameter_is : (depth : ℕ) (p : Parameter) (i j : ℕ) → parameter depth p lifted x i j → parameter_named p ≡ true
  unfolding parameter
  parameter_is depth p i j ph = both_true (type_is depth p.type ph.1.0 ph.1.2.0 ph.1.2.1) (declarator_is depth p.declarator ph.1.2.0 j ph.1.2.2)

  more_are : (depth : ℕ) (ps : List Parameter) (i j : ℕ) → many (symbol.Comma ⊳ parameter depth) ps lifted x i j → list_all parameter_named ps ≡ true
  more_are depth [] i j ph = refl
  more_are depth (p ∷ ps) i j ph = both_true (parameter_is depth p ph.1.0 ph.0 ph.1.2) (more_are depth ps ph.0 j ph.2)

  parameters_are : (depth : ℕ) (ps : Parameters) (i j : ℕ) → parameters depth ps lifted x i j → list_all parameter_named (parameters_of ps) ≡ true
  unfolding parameters
  parameters_are depth tree.Absent i j ph = refl
  parameters_are depth tree.Void i j ph = refl
  parameters_are depth (tree.Listed []) i j ph = absurd ph
  parameters_are depth (tree.Listed (p ∷ ps)) i j ph = both_true (parameter_is depth p i ph.0 ph.1) (more_are depth ps ph.0 j ph.2)

  export_is : (depth : ℕ) (e : Export) (i j : ℕ) → export depth e lifted x i j → export_named e ≡ true
  unfolding export
  export_is depth (tree.Typedef at a pipe type ds) i j ph = let m = ph.1.2.2.2 in type_is depth type ph.1.2.2.0 m.0 m.1
  export_is depth (tree.Const at type star name value) i j ph = refl
  export_is depth (tree.Tagged at a type) i j ph = let m = ph.1 in type_is depth type m.0 m.2.0 m.2.1
  export_is depth (tree.Operation at a result name ps) i j ph =
      let m = ph.1 in
      let named = m.2.2 in
      let bracketed = named.2.1 in
      both_true (name_is false name m.2.0 named.0 named.1)
      (both_true (type_is depth result m.0 m.2.0 m.2.1) (parameters_are (depth + 1) ps bracketed.0 bracketed.2.0 bracketed.2.1))

  exports_are : (depth : ℕ) (es : List Export) (i j : ℕ) → many (export depth) es lifted x i j → list_all export_named es ≡ true
  exports_are depth [] i j ph = refl
  exports_are depth (e ∷ es) i j ph = both_true (export_is depth e i ph.0 ph.1) (exports_are depth es ph.0 j ph.2)

  tree_is : (t : Tree) (i j : ℕ) → file t lifted x i j → tree_named t ≡ true
  unfolding file
  tree_is t i j ph =
      let bracketed = ph.2.2.2 in
      let inner = bracketed.2.1 in
      both_true (name_is false t.name ph.2.0 ph.2.2.0 ph.2.2.1) (exports_are 1 t.exports inner.0 bracketed.2.0 inner.2)

-- a file of the language has identifiers for names
pub file_named : {language : Language} (text : List ℕ) (t : Tree) → IsFile language text t → tree_named t ≡ true
file_named {language} text t f =
    let l = f.lexed in
    let formed : AreFormed l = tokens_formed l.text l.tokens (subst (λ (s : List ℕ). AreTokens s l.tokens) (sym f.read.text_is) f.read.tokens) in
    tree_is (lexemes language l) (lexemes_formed language l formed) strict t 0 (length (lexemes language l)) f.read.answered.derived
