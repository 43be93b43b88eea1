-- A file is one with `string` in the place of each word that only the windows language has.
use Rattle.std.proofs.Common.{◌≡◌, ℕ, ◌+◌, Bool, true, false, List, [], ◌∷◌, length, refl, sym, ap, subst, ◌∙◌, leb, cond, map, Option, Some, None, option_map}
use Rattle.std.proofs.lemmas.List.{length-map}
use Rattle.idl_grammar.specs.Text.{Lexeme, Text, Phrase, Rel, Lifted, is, is_in, symbol_at, lexeme_at, mark, token, optional, many, bracketed, many_brackets, ◌▹◌, ◌⊗◌, ◌⊳◌}
use Rattle.idl_grammar.specs.ReadPhrases.{to_unit}
use Rattle.idl_grammar.specs.Answers.{derives}
use Rattle.idl_grammar.specs.declared.words.Spelling.{Spelling}
use Rattle.idl_grammar.specs.declared.expressions.Operand.{Operand}
use Rattle.idl_grammar.specs.declared.expressions.Operand.TheVariants as operand
use Rattle.idl_grammar.specs.declared.attributes.PointerClass.{PointerClass}
use Rattle.idl_grammar.specs.declared.attributes.PointerClass.TheVariants as class
use Rattle.idl_grammar.specs.declared.attributes.VariableWord.{VariableWord}
use Rattle.idl_grammar.specs.declared.attributes.VariableWord.TheVariants as variable
use Rattle.idl_grammar.specs.declared.attributes.Variable.{Variable}
use Rattle.idl_grammar.specs.declared.types.Width.{Width}
use Rattle.idl_grammar.specs.declared.types.Width.TheVariants as widths
use Rattle.idl_grammar.specs.declared.types.IntegerType.{IntegerType}
use Rattle.idl_grammar.specs.declared.types.IntegerType.TheVariants as integers
use Rattle.idl_grammar.specs.declared.types.SimpleType.{SimpleType}
use Rattle.idl_grammar.specs.declared.types.SimpleType.TheVariants as types
use Rattle.idl_grammar.specs.declared.types.SwitchType.{SwitchType}
use Rattle.idl_grammar.specs.declared.types.SwitchType.TheVariants as switches
use Rattle.idl_grammar.specs.declared.types.TagKind.{TagKind}
use Rattle.idl_grammar.specs.declared.types.TagKind.TheVariants as tags
use Rattle.idl_grammar.specs.declared.types.Discriminant.{Discriminant}
use Rattle.idl_grammar.specs.Symbols as symbol
use Rattle.idl_grammar.specs.Expressions.{Meant, symbols_of, value_of, names, symbol_level, is_unary, binary_operators, unary_operators, binary_of, unary_of, spelling, spelled, placed, ident, leaf}
use Rattle.idl_grammar.specs.Expressions.{expr, outer}
use Rattle.idl_grammar.specs.Tree as tree
use Rattle.idl_grammar.specs.Tree.{Expr, AttributeKind, Attribute, Attributes, Bound, Declarator, Init, Enumerator, Label, TypeSpec, Members, Cases, Arms, Arm, Import, Parameter, Parameters, Export}
use Rattle.idl_grammar.specs.Tree.{Tree}
use Rattle.idl_grammar.specs.Grammar.{one_of, commas}
use Rattle.idl_grammar.specs.Grammar.{in_round, width_words, class_words, variable_words, width, integer, simple, switch_type, pointer_class, variable_word, variable_name, attribute_kind}
use Rattle.idl_grammar.specs.Grammar.{attribute, attributes, bound, dimension, declarator, declarators, enumerator, enumerators, label, labels, discriminant, union_switch, tag_symbol, in_curly}
use Rattle.idl_grammar.specs.Grammar.{member, type_spec, some_members, members, some_cases, cases, some_arms, arms, arm, parameter, parameters, init, export, import, file}
use Rattle.idl_grammar.specs.Symbols.{windows_symbols}
use Rattle.idl_grammar.specs.Expressions.{counted, many_operators}
use Rattle.idl_grammar.specs.Grammar.{is_banned_attribute}
use Rattle.idl_words.specs.Replaced.{symbol_with_string, lexeme_with_string, text_with_string, kind_with_string, attribute_with_string, attributes_with_string, type_with_string}
use Rattle.idl_words.specs.Replaced.{members_with_string, cases_with_string, arms_with_string, arm_with_string, parameter_with_string, parameters_with_string, export_with_string, tree_with_string}
use Rattle.idl_words.proofs.Turns.{Turns, Passes, lexeme_there, token_turns, mark_turns, word_turns, nothing_turns, never_turns, then_turns, unless_turns, only_turns, at_turns, flag_turns}
use Rattle.idl_words.proofs.Turns.{optional_turns, many_turns, separated_turns, optional_stays, many_stays, some_stays, separated_stays, bracketed_turns, located_turns, brackets_same, banned_same}
use Rattle.idl_words.proofs.Turns.{many_operators_same, same_there}

-- ## tokens

spelled_turns : (s : ℕ) → Passes (λ c. is c s) → (a : Spelling) → Turns (spelled s a) (spelled s a)
spelled_turns s n a = token_turns (λ c. is c s) n spelling a

placed_turns : (s : ℕ) → Passes (λ c. is c s) → (a : ℕ) → Turns (placed s a) (placed s a)
placed_turns s n a = token_turns (λ c. is c s) n (λ l. l.at) a

-- outside attribute brackets the two words and `string` are names
still_name : (s : ℕ) → is_in (names false) s ≡ true → is_in (names false) (symbol_with_string s) ≡ true
unfolding names
still_name s h = by_case (is_in windows_symbols s) where
  by_case : (b : Bool) → is_in (names false) (cond b symbol.String s) ≡ true
  by_case true = refl
  by_case false = h

not_inside : Passes (λ c. is_in (names true) c)
unfolding names
not_inside = (refl, refl)

ident_turns : (inside : Bool) (a : Spelling) → Turns (ident inside a) (ident inside a)
ident_turns true a = token_turns (λ c. is_in (names true) c) not_inside spelling a
ident_turns false a = record {
  turns = λ lifted x i j ph.
      let e = lexeme_there x i in (
        ap (λ (l : Lexeme). is_in (names false) l.symbol) e ∙ still_name (symbol_at x i) ph.0,
        ph.1 ∙ sym (ap spelling e),
        ph.2,
      );
}

one_of_turns : {A : Type 0} (otherwise : A) (list : List (Meant A)) → Passes (λ c. is_in (symbols_of list) c) → (a : A) → Turns (one_of otherwise list a) (one_of otherwise list a)
one_of_turns otherwise list n a = token_turns (λ c. is_in (symbols_of list) c) n (λ l. value_of otherwise list l.symbol) a

-- ## expressions

leaf_turns : (inside : Bool) (a : Operand) → Turns (leaf inside a) (leaf inside a)
leaf_turns inside (operand.Number s) = spelled_turns symbol.Number (refl, refl) s
leaf_turns inside (operand.Character s) = spelled_turns symbol.Character (refl, refl) s
leaf_turns inside (operand.Name s) = ident_turns inside s
leaf_turns inside (operand.True at) = placed_turns symbol.True (refl, refl) at
leaf_turns inside (operand.False at) = placed_turns symbol.False (refl, refl) at

no_level : Passes (λ b. leb 1 (symbol_level b))
unfolding symbol_level binary_operators
no_level = (refl, refl)

no_unary : Passes is_unary
unfolding is_unary unary_operators
no_unary = (refl, refl)

counted_turns : {p q : Phrase} (start : ℕ) → Turns p q → Turns (counted start p) (counted start q)
counted_turns start c = unless_turns _ (many_operators start) (many_operators_same start) c

expr_turns : (inside : Bool) (depth start n : ℕ) (e : Expr) → Turns (expr inside depth start n e) (expr inside depth start n e)
expr_turns inside depth start n (tree.Leaf a) = leaf_turns inside a
expr_turns inside depth start n (tree.Round at e) =
    then_turns (unless_turns _ (many_brackets depth) (brackets_same depth) (placed_turns symbol.OpenRound (refl, refl) at))
    (then_turns (expr_turns inside (depth + 1) start 0 e) (mark_turns symbol.CloseRound (refl, refl)))
expr_turns inside depth start n (tree.Unary at s e) =
    then_turns (counted_turns start (token_turns is_unary no_unary (λ l. (l.at, unary_of l.symbol)) (at, s))) (expr_turns inside depth start 11 e)
expr_turns inside depth start n (tree.Binary l at s r) =
    only_turns _
    (then_turns (expr_turns inside depth start _ l)
    (then_turns (counted_turns start (token_turns (λ b. leb 1 (symbol_level b)) no_level (λ l. (l.at, binary_of l.symbol)) (at, s))) (expr_turns inside depth start _ r)))
expr_turns inside depth start n (tree.Conditional c at a b) =
    only_turns _
    (then_turns (expr_turns inside depth start 1 c)
    (then_turns (counted_turns start (placed_turns symbol.Question (refl, refl) at))
    (then_turns (expr_turns inside depth start 0 a) (then_turns (mark_turns symbol.Colon (refl, refl)) (expr_turns inside depth start 0 b)))))

outer_turns : (inside : Bool) (depth : ℕ) (e : Expr) → Turns (outer inside depth e) (outer inside depth e)
unfolding outer
outer_turns inside depth e = record { turns = λ lifted x i j ph. (expr_turns inside depth i 0 e).turns lifted x i j ph }

-- ## types without parts

width_turns : (w : Width) → Turns (width w) (width w)
unfolding width
width_turns w = one_of_turns widths.Small width_words (refl, refl) w

integer_turns : (n : IntegerType) → Turns (integer n) (integer n)
unfolding integer
integer_turns (integers.WidthFirst w u int) = then_turns (width_turns w) (then_turns (flag_turns symbol.Unsigned (refl, refl) u) (flag_turns symbol.Int (refl, refl) int))
integer_turns (integers.UnsignedFirst w int) = then_turns (mark_turns symbol.Unsigned (refl, refl)) (then_turns (width_turns w) (flag_turns symbol.Int (refl, refl) int))

simple_turns : (s : SimpleType) → Turns (simple s) (simple s)
unfolding simple
simple_turns (types.Integer n) = integer_turns n
simple_turns (types.Char u) = then_turns (flag_turns symbol.Unsigned (refl, refl) u) (mark_turns symbol.Char (refl, refl))
simple_turns types.Boolean = mark_turns symbol.Boolean (refl, refl)
simple_turns types.Byte = mark_turns symbol.Byte (refl, refl)
simple_turns types.Void = mark_turns symbol.Void (refl, refl)
simple_turns types.Handle = mark_turns symbol.HandleT (refl, refl)

switch_type_turns : (inside : Bool) (s : SwitchType) → Turns (switch_type inside s) (switch_type inside s)
unfolding switch_type
switch_type_turns inside (switches.Simple s) = simple_turns s
switch_type_turns inside (switches.Name n) = ident_turns inside n

-- ## attributes

class_turns : (c : PointerClass) → Turns (pointer_class c) (pointer_class c)
unfolding pointer_class
class_turns c = one_of_turns class.Reference class_words (refl, refl) c

variable_word_turns : (w : VariableWord) → Turns (variable_word w) (variable_word w)
unfolding variable_word
variable_word_turns w = one_of_turns variable.SizeIs variable_words (refl, refl) w

variable_turns : (v : Variable) → Turns (variable_name v) (variable_name v)
unfolding variable_name
variable_turns v = then_turns (flag_turns symbol.Star (refl, refl) v.star) (ident_turns true v.name)

round_turns : {A : Type 0} (depth : ℕ) (P : Rel A) (a b : A) → Turns (P a) (P b) → Turns (in_round depth P a) (in_round depth P b)
round_turns depth P a b each = bracketed_turns depth symbol.OpenRound symbol.CloseRound (refl, refl) (refl, refl) P a b each

dotted_turns : (o : Option Spelling) → Turns (optional (λ s. mark symbol.Dot ▹ spelled symbol.Number s) o) (optional (λ s. mark symbol.Dot ▹ spelled symbol.Number s) o)
dotted_turns o =
    optional_stays (λ s. mark symbol.Dot ▹ spelled symbol.Number s) (λ s. then_turns (mark_turns symbol.Dot (refl, refl)) (spelled_turns symbol.Number (refl, refl) s)) o

kind_turns : (depth : ℕ) (k : AttributeKind) → Turns (attribute_kind depth k) (attribute_kind depth (kind_with_string k))
unfolding attribute_kind
kind_turns depth (tree.Uuid u) =
    then_turns (mark_turns symbol.Uuid (refl, refl)) (round_turns depth (spelled symbol.UuidValue) u u (spelled_turns symbol.UuidValue (refl, refl) u))
kind_turns depth (tree.Version major minor) =
    then_turns (mark_turns symbol.Version (refl, refl))
    (round_turns {A = Spelling × Option Spelling} depth (spelled symbol.Number ⊗ optional (symbol.Dot ⊳ spelled symbol.Number)) (major, minor) (major, minor)
    (then_turns (spelled_turns symbol.Number (refl, refl) major) (dotted_turns minor)))
kind_turns depth (tree.Endpoint list) =
    then_turns (mark_turns symbol.Endpoint (refl, refl))
    (round_turns depth (commas (spelled symbol.Quoted)) list list (separated_stays symbol.Comma (refl, refl) (spelled symbol.Quoted) (spelled_turns symbol.Quoted (refl, refl)) list))
kind_turns depth tree.Local =
    unless_turns _ is_banned_attribute banned_same (token_turns (λ s. is_in (symbol.Local ∷ symbol.BannedAttribute ∷ []) s) (refl, refl) to_unit tt)
kind_turns depth (tree.PointerDefault c) = then_turns (mark_turns symbol.PointerDefault (refl, refl)) (round_turns depth pointer_class c c (class_turns c))
kind_turns depth (tree.Class c) = class_turns c
kind_turns depth tree.In = mark_turns symbol.In (refl, refl)
kind_turns depth tree.Out = mark_turns symbol.Out (refl, refl)
kind_turns depth tree.String = mark_turns symbol.String (refl, refl)
kind_turns depth tree.ContextHandle = mark_turns symbol.ContextHandle (refl, refl)
kind_turns depth (tree.Of w v) = then_turns (variable_word_turns w) (round_turns depth variable_name v v (variable_turns v))
kind_turns depth (tree.SwitchTypeIs s) = then_turns (mark_turns symbol.SwitchType (refl, refl)) (round_turns depth (switch_type true) s s (switch_type_turns true s))
kind_turns depth (tree.Case values) =
    then_turns (mark_turns symbol.Case (refl, refl))
    (round_turns depth (commas (outer true (depth + 1))) values values (separated_stays symbol.Comma (refl, refl) (outer true (depth + 1)) (outer_turns true (depth + 1)) values))
kind_turns depth tree.Default = mark_turns symbol.Default (refl, refl)
kind_turns depth tree.Idempotent = mark_turns symbol.Idempotent (refl, refl)
kind_turns depth tree.Broadcast = mark_turns symbol.Broadcast (refl, refl)
kind_turns depth tree.Maybe = mark_turns symbol.Maybe (refl, refl)
kind_turns depth tree.AnySize = word_turns symbol.AnySize refl
kind_turns depth tree.AnyLength = word_turns symbol.AnyLength refl

attribute_turns : (depth : ℕ) (a : Attribute) → Turns (attribute depth a) (attribute depth (attribute_with_string a))
unfolding attribute
attribute_turns depth a = located_turns (attribute_kind depth) a.at a.kind (kind_with_string a.kind) (kind_turns depth a.kind)

attributes_turn : (depth : ℕ) (a : Attributes) → Turns (attributes depth a) (attributes depth (attributes_with_string a))
unfolding attributes
attributes_turn depth a =
    located_turns (bracketed depth symbol.OpenSquare symbol.CloseSquare (commas (attribute (depth + 1)))) a.at a.list (map attribute_with_string a.list)
    (bracketed_turns depth symbol.OpenSquare symbol.CloseSquare (refl, refl) (refl, refl) (commas (attribute (depth + 1))) a.list (map attribute_with_string a.list)
    (separated_turns symbol.Comma (refl, refl) (attribute (depth + 1)) attribute_with_string (attribute_turns (depth + 1)) a.list))

maybe_turns : (depth : ℕ) (a : Option Attributes) → Turns (optional (attributes depth) a) (optional (attributes depth) (option_map attributes_with_string a))
maybe_turns depth a = optional_turns (attributes depth) attributes_with_string (attributes_turn depth) a

-- ## declarators

bound_turns : (depth : ℕ) (b : Bound) → Turns (bound depth b) (bound depth b)
unfolding bound
bound_turns depth tree.Star = mark_turns symbol.Star (refl, refl)
bound_turns depth (tree.Count e) = outer_turns false depth e
bound_turns depth (tree.From e) = then_turns (outer_turns false depth e) (then_turns (mark_turns symbol.DotDot (refl, refl)) (mark_turns symbol.Star (refl, refl)))
bound_turns depth (tree.Between e f) = then_turns (outer_turns false depth e) (then_turns (mark_turns symbol.DotDot (refl, refl)) (outer_turns false depth f))

dimension_turns : (depth : ℕ) (b : Option Bound) → Turns (dimension depth b) (dimension depth b)
unfolding dimension
dimension_turns depth b =
    bracketed_turns depth symbol.OpenSquare symbol.CloseSquare (refl, refl) (refl, refl) (optional (bound (depth + 1))) b b
    (optional_stays (bound (depth + 1)) (bound_turns (depth + 1)) b)

declarator_turns : (depth : ℕ) (d : Declarator) → Turns (declarator depth d) (declarator depth d)
unfolding declarator
declarator_turns depth d =
    then_turns (many_stays (placed symbol.Star) (placed_turns symbol.Star (refl, refl)) d.stars)
    (then_turns (ident_turns false d.name) (many_stays (dimension depth) (dimension_turns depth) d.dimensions))

declarators_turn : (depth : ℕ) (ds : List Declarator) → Turns (declarators depth ds) (declarators depth ds)
unfolding declarators
declarators_turn depth ds = separated_stays symbol.Comma (refl, refl) (declarator depth) (declarator_turns depth) ds

-- ## types

valued_turns : (depth : ℕ) (o : Option Expr) → Turns (optional (λ e. mark symbol.Equals ▹ outer false depth e) o) (optional (λ e. mark symbol.Equals ▹ outer false depth e) o)
valued_turns depth o = optional_stays (λ e. mark symbol.Equals ▹ outer false depth e) (λ e. then_turns (mark_turns symbol.Equals (refl, refl)) (outer_turns false depth e)) o

enumerator_turns : (depth : ℕ) (e : Enumerator) → Turns (enumerator depth e) (enumerator depth e)
unfolding enumerator
enumerator_turns depth e = then_turns (ident_turns false e.name) (valued_turns depth e.value)

enumerators_turn : (depth : ℕ) (es : List Enumerator) → Turns (enumerators depth es) (enumerators depth es)
unfolding enumerators
enumerators_turn depth es =
    bracketed_turns depth symbol.OpenCurly symbol.CloseCurly (refl, refl) (refl, refl) (commas (enumerator (depth + 1))) es es
    (separated_stays symbol.Comma (refl, refl) (enumerator (depth + 1)) (enumerator_turns (depth + 1)) es)

label_turns : (depth : ℕ) (l : Label) → Turns (label depth l) (label depth l)
unfolding label
label_turns depth (tree.Value at e) = then_turns (placed_turns symbol.Case (refl, refl) at) (then_turns (outer_turns false depth e) (mark_turns symbol.Colon (refl, refl)))
label_turns depth (tree.Default at) = then_turns (placed_turns symbol.Default (refl, refl) at) (mark_turns symbol.Colon (refl, refl))

labels_turn : (depth : ℕ) (ls : List Label) → Turns (labels depth ls) (labels depth ls)
unfolding labels
labels_turn depth ls = some_stays (label depth) (label_turns depth) ls

discriminant_turns : (d : Discriminant) → Turns (discriminant d) (discriminant d)
unfolding discriminant
discriminant_turns d = then_turns (switch_type_turns false d.of) (ident_turns false d.name)

maybe_name_turns : (o : Option Spelling) → Turns (optional (ident false) o) (optional (ident false) o)
maybe_name_turns o = optional_stays (ident false) (ident_turns false) o

union_switch_turns : (depth : ℕ) (s : Discriminant × Option Spelling) → Turns (union_switch depth s) (union_switch depth s)
unfolding union_switch
union_switch_turns depth s =
    then_turns (mark_turns symbol.Switch (refl, refl)) (then_turns (round_turns depth discriminant s.0 s.0 (discriminant_turns s.0)) (maybe_name_turns s.1))

tag_turns : (kind : TagKind) (at : ℕ) → Turns (placed (tag_symbol kind) at) (placed (tag_symbol kind) at)
tag_turns tags.Struct at = placed_turns symbol.Struct (refl, refl) at
tag_turns tags.Union at = placed_turns symbol.Union (refl, refl) at
tag_turns tags.Enum at = placed_turns symbol.Enum (refl, refl) at

curly_turns : {p q : Phrase} (depth : ℕ) → Turns p q → Turns (in_curly depth p) (in_curly depth q)
curly_turns depth c =
    then_turns (unless_turns _ (many_brackets depth) (brackets_same depth) (mark_turns symbol.OpenCurly (refl, refl))) (then_turns c (mark_turns symbol.CloseCurly (refl, refl)))

line_turns : {p q : Phrase} (depth at : ℕ) (a : Option Attributes) → Turns p q → (ds : List Declarator)
    → Turns (member depth at a p ds) (member depth at (option_map attributes_with_string a) q ds)
line_turns depth at a c ds = at_turns at (then_turns (maybe_turns depth a) (then_turns c (then_turns (declarators_turn depth ds) (mark_turns symbol.Semicolon (refl, refl)))))

mutual
  type_turns : (depth : ℕ) (c : TypeSpec) → Turns (type_spec depth c) (type_spec depth (type_with_string c))
  type_turns depth (tree.Simple s) = simple_turns s
  type_turns depth (tree.Name n) = ident_turns false n
  type_turns depth (tree.Tag at kind tag) = then_turns (tag_turns kind at) (ident_turns false tag)
  type_turns depth (tree.Struct at tag ms) =
      then_turns (placed_turns symbol.Struct (refl, refl) at) (then_turns (maybe_name_turns tag) (curly_turns depth (some_members_turn (depth + 1) ms)))
  type_turns depth (tree.EncapsulatedUnion at tag d name cs) =
      then_turns (placed_turns symbol.Union (refl, refl) at)
      (then_turns (maybe_name_turns tag) (then_turns (union_switch_turns depth (d, name)) (curly_turns depth (some_cases_turn (depth + 1) cs))))
  type_turns depth (tree.NonEncapsulatedUnion at tag a) =
      then_turns (placed_turns symbol.Union (refl, refl) at) (then_turns (maybe_name_turns tag) (curly_turns depth (some_arms_turn (depth + 1) a)))
  type_turns depth (tree.Enum at tag es) = then_turns (placed_turns symbol.Enum (refl, refl) at) (then_turns (maybe_name_turns tag) (enumerators_turn depth es))

  some_members_turn : (depth : ℕ) (ms : Members) → Turns (some_members depth ms) (some_members depth (members_with_string ms))
  some_members_turn depth tree.no_members = never_turns
  some_members_turn depth (tree.next_member at a type ds others) = then_turns (line_turns depth at a (type_turns depth type) ds) (members_turn depth others)

  members_turn : (depth : ℕ) (ms : Members) → Turns (members depth ms) (members depth (members_with_string ms))
  members_turn depth tree.no_members = nothing_turns
  members_turn depth (tree.next_member at a type ds others) = then_turns (line_turns depth at a (type_turns depth type) ds) (members_turn depth others)

  some_cases_turn : (depth : ℕ) (cs : Cases) → Turns (some_cases depth cs) (some_cases depth (cases_with_string cs))
  some_cases_turn depth tree.no_cases = never_turns
  some_cases_turn depth (tree.next_case ls a others) = then_turns (labels_turn depth ls) (then_turns (arm_turns depth a) (cases_turn depth others))

  cases_turn : (depth : ℕ) (cs : Cases) → Turns (cases depth cs) (cases depth (cases_with_string cs))
  cases_turn depth tree.no_cases = nothing_turns
  cases_turn depth (tree.next_case ls a others) = then_turns (labels_turn depth ls) (then_turns (arm_turns depth a) (cases_turn depth others))

  some_arms_turn : (depth : ℕ) (list : Arms) → Turns (some_arms depth list) (some_arms depth (arms_with_string list))
  some_arms_turn depth tree.no_arms = never_turns
  some_arms_turn depth (tree.next_arm a others) = then_turns (arm_turns depth a) (arms_turn depth others)

  arms_turn : (depth : ℕ) (list : Arms) → Turns (arms depth list) (arms depth (arms_with_string list))
  arms_turn depth tree.no_arms = nothing_turns
  arms_turn depth (tree.next_arm a others) = then_turns (arm_turns depth a) (arms_turn depth others)

  arm_turns : (depth : ℕ) (a : Arm) → Turns (arm depth a) (arm depth (arm_with_string a))
  arm_turns depth (tree.Empty at a) = at_turns at (then_turns (maybe_turns depth a) (mark_turns symbol.Semicolon (refl, refl)))
  arm_turns depth (tree.Typed at a type d) =
      at_turns at (then_turns (maybe_turns depth a) (then_turns (type_turns depth type) (then_turns (declarator_turns depth d) (mark_turns symbol.Semicolon (refl, refl)))))

-- ## files

parameter_turns : (depth : ℕ) (p : Parameter) → Turns (parameter depth p) (parameter depth (parameter_with_string p))
unfolding parameter
parameter_turns depth p = at_turns p.at (then_turns (maybe_turns depth p.attributes) (then_turns (type_turns depth p.type) (declarator_turns depth p.declarator)))

parameters_turn : (depth : ℕ) (ps : Parameters) → Turns (parameters depth ps) (parameters depth (parameters_with_string ps))
unfolding parameters
parameters_turn depth tree.Absent = nothing_turns
parameters_turn depth tree.Void = mark_turns symbol.Void (refl, refl)
parameters_turn depth (tree.Listed ps) = separated_turns symbol.Comma (refl, refl) (parameter depth) parameter_with_string (parameter_turns depth) ps

init_turns : (depth : ℕ) (v : Init) → Turns (init depth v) (init depth v)
unfolding init
init_turns depth (tree.Text s) = spelled_turns symbol.Quoted (refl, refl) s
init_turns depth (tree.Null at) = placed_turns symbol.Null (refl, refl) at
init_turns depth (tree.Value e) = outer_turns false depth e

export_turns : (depth : ℕ) (e : Export) → Turns (export depth e) (export depth (export_with_string e))
unfolding export
export_turns depth (tree.Typedef at a pipe type ds) =
    at_turns at
    (then_turns (mark_turns symbol.Typedef (refl, refl))
    (then_turns (maybe_turns depth a)
    (then_turns (flag_turns symbol.Pipe (refl, refl) pipe)
    (then_turns (type_turns depth type) (then_turns (declarators_turn depth ds) (mark_turns symbol.Semicolon (refl, refl)))))))
export_turns depth (tree.Const at type star name value) =
    at_turns at
    (then_turns (mark_turns symbol.Const (refl, refl))
    (then_turns (simple_turns type)
    (then_turns (flag_turns symbol.Star (refl, refl) star)
    (then_turns (ident_turns false name) (then_turns (mark_turns symbol.Equals (refl, refl)) (then_turns (init_turns depth value) (mark_turns symbol.Semicolon (refl, refl))))))))
export_turns depth (tree.Tagged at a type) = at_turns at (then_turns (maybe_turns depth a) (then_turns (type_turns depth type) (mark_turns symbol.Semicolon (refl, refl))))
export_turns depth (tree.Operation at a result name ps) =
    at_turns at
    (then_turns (maybe_turns depth a)
    (then_turns (type_turns depth result)
    (then_turns (ident_turns false name)
    (then_turns (round_turns depth (parameters (depth + 1)) ps (parameters_with_string ps) (parameters_turn (depth + 1) ps)) (mark_turns symbol.Semicolon (refl, refl))))))

import_turns : (m : Import) → Turns (import m) (import m)
unfolding import
import_turns m =
    then_turns (mark_turns symbol.Import (refl, refl))
    (then_turns (separated_stays symbol.Comma (refl, refl) (spelled symbol.Quoted) (spelled_turns symbol.Quoted (refl, refl)) m.files) (mark_turns symbol.Semicolon (refl, refl)))

file_turns : (f : Tree) → Turns (file f) (file (tree_with_string f))
unfolding file
file_turns f =
    then_turns (attributes_turn 0 f.attributes)
    (then_turns (mark_turns symbol.Interface (refl, refl))
    (then_turns (ident_turns false f.name)
    (bracketed_turns {A = List Import × List Export} 0 symbol.OpenCurly symbol.CloseCurly (refl, refl) (refl, refl) (many import ⊗ many (export 1))
    (f.imports, f.exports) (f.imports, map export_with_string f.exports)
    (then_turns (many_stays import import_turns f.imports) (many_turns (export 1) export_with_string (export_turns 1) f.exports)))))

-- a whole file
pub file_replaced : (lifted : Lifted) (f : Tree) (x : Text) → derives file lifted f x → derives file lifted (tree_with_string f) (text_with_string x)
file_replaced lifted f x d =
    subst (λ (n : ℕ). file (tree_with_string f) lifted (text_with_string x) 0 n) (sym (length-map x lexeme_with_string)) ((file_turns f).turns lifted x 0 (length x) d)
