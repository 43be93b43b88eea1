use Rattle.std.proofs.Common.{rules, ◌≡◌, ◌||◌, ◌&&◌, not, true, refl}
use Rattle.std.specs.Prelude.{is_none}
use Rattle.idl_rule_definitions.specs.TypeRules.{is_right_count}
use Rattle.idl_value_rules.proofs.CountedTypes.{array_counted}
use Rattle.idl_value_rules.proofs.counted.Counted.in_array.Goals as goal

pub returns-then-self-2 : goal.returns-then-self-2
returns-then-self-2 c t varying is =
    let wrong : c.if-not-is_right.result ≡ (c.args.self.holds_wrong || (not (is_right_count c.args.count) || not (is_right_count c.times-elements.result))) = search rules in
    let unfixed : c.if-is_none.not_fixed ≡ (is_none c.args.count || c.args.self.not_fixed) = search rules in
    let many : c.args.self.holds_many_not_fixed ≡ (c.args.self.holds_many_not_fixed || (c.args.self.array && c.if-is_none.not_fixed)) = search rules in
    array_counted t varying c.args.count c.args.self _ is wrong many refl refl unfixed c.times-elements.ensures.right c.times-elements.ensures.same
