-- What rule 39 counts, by the nodes of the program.
use Rattle.std.specs.Prelude.{ℕ, zero, suc, List, [], ◌∷◌, map, length, replicate, Vec}
use Rattle.idl_grammar.specs.Seen.{seen_type}
use Rattle.idl_constructs.specs.declared.nodes.Declared as declared
use Rattle.idl_constructs.specs.declared.nodes.Node as program_node
use Rattle.idl_constructs.specs.declared.nodes.Node.TheVariants as node
use Rattle.idl_rule_definitions.specs.Nodes.{Construct, place_in, labels_of}
use Rattle.idl_rule_definitions.specs.Rules.{Breach, breach}
use Rattle.idl_rule_definitions.specs.DeclarationRules.{first_past, member_of}
use Rattle.idl_constructs.specs.SeenNodes.{seen_construct, seen_result, list_at}
use Rattle.idl_rule_definitions.specs.declared.rule.TheConstants as Rule

-- the thing of a list with this number, counted from 1, alone; none has number 0
abbrev pub numbered : {A : Type 0} → ℕ → List A → List A
numbered zero xs = []
numbered (suc n) xs = first_past n xs

-- a construct that is one too many, or has what is
abbrev pub one_too_many : Construct → Breach
one_too_many c = breach Rule.COUNTS (place_in c c.at)

abbrev pub operations_at : program_node.Node → List Construct
operations_at (node.Operation it parameters) = seen_construct it.construct ∷ []
operations_at _ = []

abbrev pub parameters_at : {A : Type 0} → List (Vec declared.Declared A) → ℕ → program_node.Node → List Construct
parameters_at lists limit (node.Operation it parameters) = first_past limit (map (λ p. p.construct) (list_at lists parameters))
parameters_at lists limit _ = []

abbrev pub parts_at : program_node.Node → List Construct
parts_at (node.Declarator list index it) = member_of (seen_construct it.construct).position (seen_construct it.construct)
parts_at (node.Result it) = member_of (seen_result it).construct.position (seen_result it).construct
parts_at (node.Labels c body) = replicate (length (labels_of (seen_type body.now))) (seen_construct c)
parts_at _ = []
