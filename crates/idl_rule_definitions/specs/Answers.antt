-- What is answered on files that are resolved: their interface, or the rule that is reported.
use Rattle.std.specs.Prelude.{◌≡◌, [], ◌∷◌, Some, None, Result, Ok, Err}
use Rattle.nd_types.specs.declared.interface.Interface.{Interface}
use Rattle.idl_rule_definitions.specs.declared.fault.RuleFault.{RuleFault}
use Rattle.idl_rule_definitions.specs.declared.fault.RuleFault.TheVariants as fault
use Rattle.idl_rule_definitions.specs.Nodes.{World}
use Rattle.idl_rule_definitions.specs.Rules.{breach, first_broken}
use Rattle.idl_rule_definitions.specs.Meaning.{meaning}
use Rattle.nd_types.specs.Meant.{meant_by}

-- Files that keep all rules, and their interface.
pub record IsMeaning (w : World) (i : Interface) : Type 0 where
  pub keeps : first_broken w ≡ None
  pub means : meaning w ≡ meant_by i ∷ []

-- A rule is reported exactly where it is the first broken one.
abbrev pub Answers : World → Result Interface RuleFault → Type 0
Answers w (Ok i) = IsMeaning w i
Answers w (Err fault.Memory) = Unit {0}
Answers w (Err (fault.Broken rule place)) = first_broken w ≡ Some (breach rule place)
