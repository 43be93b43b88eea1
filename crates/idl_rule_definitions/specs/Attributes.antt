-- What is in a list of attributes (C706, sections 4.2.4, 4.2.9 and 4.2.12 to 4.2.14).
-- `a` is an attribute, `attributes` a list of them, `word` the word with which one begins.
use Rattle.std.specs.Prelude.{ℕ, Bool, List, [], ◌∷◌, Option, Some, None, codes}
use Rattle.std.specs.List.{list_any}
use Rattle.std.specs.Str.{bytes_eq}
use Rattle.idl_grammar.specs.declared.attributes.PointerClass.{PointerClass}
use Rattle.idl_grammar.specs.declared.attributes.PointerClass.TheVariants as class
use Rattle.idl_grammar.specs.declared.attributes.VariableWord.{VariableWord}
use Rattle.idl_grammar.specs.declared.attributes.VariableWord.TheVariants as variable
use Rattle.idl_grammar.specs.declared.attributes.Variable.{Variable}
use Rattle.idl_grammar.specs.declared.types.SwitchType.{SwitchType}
use Rattle.idl_grammar.specs.Tree.{AttributeKind, Attribute, Attributes}
use Rattle.idl_grammar.specs.Tree as tree

-- the attributes of a list that may be missing
abbrev pub attribute_list : Option Attributes → List Attribute
attribute_list None = []
attribute_list (Some a) = a.list

abbrev pub class_word : PointerClass → List ℕ
class_word class.Reference = codes "ref"
class_word class.Unique = codes "unique"
class_word class.Full = codes "ptr"

abbrev pub variable_word : VariableWord → List ℕ
variable_word variable.SizeIs = codes "size_is"
variable_word variable.MaxIs = codes "max_is"
variable_word variable.LengthIs = codes "length_is"
variable_word variable.FirstIs = codes "first_is"
variable_word variable.LastIs = codes "last_is"
variable_word variable.SwitchIs = codes "switch_is"

-- the word with which an attribute begins
abbrev pub word_of : AttributeKind → List ℕ
word_of (tree.Uuid u) = codes "uuid"
word_of (tree.Version major minor) = codes "version"
word_of (tree.Endpoint strings) = codes "endpoint"
word_of tree.Local = codes "local"
word_of (tree.PointerDefault c) = codes "pointer_default"
word_of (tree.Class c) = class_word c
word_of tree.In = codes "in"
word_of tree.Out = codes "out"
word_of tree.String = codes "string"
word_of tree.ContextHandle = codes "context_handle"
word_of (tree.Of w v) = variable_word w
word_of (tree.SwitchTypeIs s) = codes "switch_type"
word_of (tree.Case values) = codes "case"
word_of tree.Default = codes "default"
word_of tree.Idempotent = codes "idempotent"
word_of tree.Broadcast = codes "broadcast"
word_of tree.Maybe = codes "maybe"
word_of tree.AnySize = codes "any_size"
word_of tree.AnyLength = codes "any_length"

abbrev pub string_word : List ℕ
string_word = codes "string"

abbrev pub context_handle_word : List ℕ
context_handle_word = codes "context_handle"

abbrev pub switch_is_word : List ℕ
switch_is_word = codes "switch_is"

abbrev pub in_word : List ℕ
in_word = codes "in"

abbrev pub out_word : List ℕ
out_word = codes "out"

-- ## Words of a list

abbrev pub is_word : List ℕ → Attribute → Bool
is_word word a = bytes_eq word (word_of a.kind)

-- the attribute of this word is in the list
abbrev pub has : List ℕ → List Attribute → Bool
has word attributes = list_any (is_word word) attributes

-- one of these words is in the list
abbrev pub has_one_of : List (List ℕ) → List Attribute → Bool
has_one_of words attributes = list_any (λ word. has word attributes) words

abbrev pub classes : List (List ℕ)
classes = codes "ref" ∷ codes "unique" ∷ codes "ptr" ∷ []

-- the attributes of a maximum count: two state it by a variable, and of the third nothing does
abbrev pub sizes : List (List ℕ)
sizes = codes "size_is" ∷ codes "max_is" ∷ codes "any_size" ∷ []

-- the attributes that make an array varying
abbrev pub lengths : List (List ℕ)
lengths = codes "first_is" ∷ codes "length_is" ∷ codes "last_is" ∷ codes "any_length" ∷ []

abbrev pub is_class : Attribute → Bool
is_class a = has_one_of classes (a ∷ [])

-- ## What attributes say

abbrev pub first_said : {X : Type 0} → (AttributeKind → Option X) → List Attribute → Option X
first_said says [] = None
first_said says (a ∷ more) = elim (says a.kind) [ Some x ↦ Some x | None ↦ first_said says more ]

abbrev pub class_said : AttributeKind → Option PointerClass
class_said (tree.Class c) = Some c
class_said _ = None

abbrev pub default_said : AttributeKind → Option PointerClass
default_said (tree.PointerDefault c) = Some c
default_said _ = None

abbrev pub switch_said : AttributeKind → Option SwitchType
switch_said (tree.SwitchTypeIs s) = Some s
switch_said _ = None

-- the class that a list gives
abbrev pub class_in : List Attribute → Option PointerClass
class_in attributes = first_said class_said attributes

-- the class that a header gives to pointers without one
abbrev pub default_class_in : List Attribute → Option PointerClass
default_class_in attributes = first_said default_said attributes

-- the type that switch_type gives
abbrev pub switch_type_in : List Attribute → Option SwitchType
switch_type_in attributes = first_said switch_said attributes

-- the variable of size_is, max_is, first_is, length_is, last_is or switch_is
abbrev pub variable_said : AttributeKind → Option (List ℕ × Variable)
variable_said (tree.Of w v) = Some (variable_word w, v)
variable_said _ = None
