use Rattle.std.proofs.Common.{◌∙◌, refl, ap, sym}
use Rattle.idl_constructs.specs.SeenNodes.{seen_declared}
use Rattle.idl_rule_definitions.specs.DeclarationRules.{has_lower_bounds}
use Rattle.idl_rules.proofs.uses.asked_listed.Goals as goal

pub returns : goal.returns
returns c s names ks known h =
    let d = seen_declared c.args.it.now in
    record {
      construct = refl;
      typed = h;
      followed = c.is_followed.ensures;
      lower_bounds = c.has_lower_bounds.ensures d refl ∙ ap (λ k. has_lower_bounds k d) (sym known);
      no_variable = h.no_variable;
    }
