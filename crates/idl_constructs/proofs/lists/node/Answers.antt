use Rattle.std.proofs.Common.{option_map, refl, ap, sym}
use Rattle.idl_rule_definitions.specs.Noted.{noted}
use Rattle.idl_rule_definitions.specs.Found.{seen_breach}
use Rattle.idl_constructs.proofs.NoListRules.{nothing_there}
use Rattle.idl_constructs.proofs.lists.node.Goals as goal

pub returns-in_default : goal.returns-in_default
returns-in_default c = record {
  files = refl;
  first = λ w nodes files. sym
      (ap (λ l. noted w (option_map seen_breach c.args.finder.now.first) l) (nothing_there nodes.lists.items c.args.node.now c.in_default.not-Header c.in_default.not-Attributes));
}
