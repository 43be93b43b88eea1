-- Lists of names that say the same of each name.
use Rattle.std.proofs.Common.{◌≡◌, ℕ, Bool, true, false, not, ◌||◌, cond, List, [], ◌∷◌, ◌++◌, map, Option, Some, None, option_map, refl, sym, ap, ◌∙◌}
use Rattle.std.specs.List.{list_any}
use Rattle.idl_grammar.specs.declared.attributes.Variable.{Variable}
use Rattle.idl_grammar.specs.declared.types.SwitchType.{SwitchType}
use Rattle.idl_grammar.specs.declared.types.SwitchType.TheVariants as switch
use Rattle.idl_grammar.specs.Tree.{TypeSpec}
use Rattle.idl_grammar.specs.Tree as tree
use Rattle.idl_scope.specs.Known.{Known, found}
use Rattle.idl_rule_definitions.specs.Nodes.{Construct, Declared}
use Rattle.idl_rule_definitions.specs.DeclarationRules.{is_parameter}
use Rattle.idl_rule_definitions.specs.Types.{IdlType, Names, or_void, pipe_or_plain, written_type, switch_type, type_before, declared_from, declared_type, type_of, with_attributes}
use Rattle.idl_rule_definitions.specs.Scene.{Scene, Use, use_of, tag_type, tag_written}
use Rattle.idl_rule_definitions.specs.VariableRules.{Listed, is_right_variable, passes, passes_listed, variable_of, variables, is_integer, may_be_switched, has_wrong_variable}
use Rattle.idl_rule_definitions.specs.Attributes.{sizes, lengths, switch_is_word}
use Rattle.idl_declared_types.specs.SeenTypes.{has_wrong_switch_variable}

-- of each name these lists say the same
abbrev pub Same : Names → Names → Type 0
Same a b = (name : List ℕ) → found name a ≡ found name b

pub written_same : (known : Known) (a b : Names) (file : ℕ) (t : TypeSpec) → Same a b → written_type known a file t ≡ written_type known b file t
written_same known a b file (tree.Simple s) h = refl
written_same known a b file (tree.Name n) h = ap or_void (h n.octets)
written_same known a b file (tree.Tag at kind tag) h = refl
written_same known a b file (tree.Struct at tag _) h = refl
written_same known a b file (tree.EncapsulatedUnion at tag d name cases) h = refl
written_same known a b file (tree.NonEncapsulatedUnion at tag arms) h = refl
written_same known a b file (tree.Enum at tag es) h = refl

pub declared_same : (known : Known) (a b : Names) (d : Declared) → Same a b → declared_type known a d ≡ declared_type known b d
declared_same known a b d h = ap (λ t. declared_from known d (pipe_or_plain d.is_pipe t)) (written_same known a b d.construct.file d.type h)

pub type_same : (known : Known) (a b : Names) (d : Declared) → Same a b → type_of known a d ≡ type_of known b d
type_same known a b d h = ap (with_attributes d.construct.attributes) (declared_same known a b d h)

pub types_same : (known : Known) (a b : Names) (ds : List Declared) → Same a b → map (type_of known a) ds ≡ map (type_of known b) ds
types_same known a b [] h = refl
types_same known a b (d ∷ ds) h = ap (λ t. t ∷ map (type_of known a) ds) (type_same known a b d h) ∙ ap (λ r. type_of known b d ∷ r) (types_same known a b ds h)

pub switch_same : (a b : Names) (s : SwitchType) → Same a b → switch_type a s ≡ switch_type b s
switch_same a b (switch.Simple s) h = refl
switch_same a b (switch.Name n) h = ap or_void (h n.octets)

pub tag_same : (c : Construct) (a b : Names) (body : TypeSpec) → Same a b → tag_type c a body ≡ tag_type c b body
tag_same c a b body h = by (tag_written c body)
  where
    by : (o : Option SwitchType) → option_map (switch_type a) o ≡ option_map (switch_type b) o
    by None = refl
    by (Some s) = ap Some (switch_same a b s h)

-- ## Variables

pub any_same : {X : Type 0} (f g : X → Bool) (xs : List X) → ((x : X) → f x ≡ g x) → list_any f xs ≡ list_any g xs
any_same f g [] h = refl
any_same f g (x ∷ xs) h = ap (λ b. b || list_any f xs) (h x) ∙ ap (λ r. g x || r) (any_same f g xs h)

right_same : (s : Scene) (a b : Names) (list : List Declared) (index : ℕ) (d : Declared) (test : IdlType → Bool) (v : Variable) → Same a b
    → is_right_variable s (use_of s.known a list index d) test v ≡ is_right_variable s (use_of s.known b list index d) test v
right_same s a b list index d test v h = by (variable_of (use_of s.known a list index d) v)
  where
    by : (o : Option Listed) → passes_listed s (use_of s.known a list index d) test v.star o ≡ passes_listed s (use_of s.known b list index d) test v.star o
    by None = refl
    by (Some l) = ap (λ t. passes test (is_parameter l.it.construct.position) v.star t) (type_same s.known a b l.it h)

pub wrong_same : (s : Scene) (a b : Names) (list : List Declared) (index : ℕ) (d : Declared) → Same a b
    → has_wrong_variable s (use_of s.known a list index d) ≡ has_wrong_variable s (use_of s.known b list index d)
wrong_same s a b list index d h =
    any_same (λ v. not (is_right_variable s (use_of s.known a list index d) is_integer v)) (λ v. not (is_right_variable s (use_of s.known b list index d) is_integer v))
    (variables (sizes ++ lengths) d.construct.attributes) (λ v. ap not (right_same s a b list index d is_integer v h))

pub wrong_switch_same : (s : Scene) (a b : Names) (list : List Declared) (index : ℕ) (d : Declared) → Same a b
    → has_wrong_switch_variable s (use_of s.known a list index d) ≡ has_wrong_switch_variable s (use_of s.known b list index d)
wrong_switch_same s a b list index d h =
    any_same (λ v. not (is_right_variable s (use_of s.known a list index d) may_be_switched v)) (λ v. not (is_right_variable s (use_of s.known b list index d) may_be_switched v))
    (variables (switch_is_word ∷ []) d.construct.attributes) (λ v. ap not (right_same s a b list index d may_be_switched v h))
