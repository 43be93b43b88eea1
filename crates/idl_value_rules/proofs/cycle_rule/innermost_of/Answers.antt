use Rattle.std.proofs.Common.{◌≡◌, ◌∙◌, true, ltb, sym, ap}
use Rattle.std.proofs.lemmas.Bool.{ltb-true}
use Rattle.idl_declared_types.specs.Kinds.{type_by, seen_types, is_inside}
use Rattle.idl_rule_definitions.specs.TypeRules.{innermost}
use Rattle.idl_value_rules.specs.Cycles.{option_list}
use Rattle.idl_value_rules.proofs.cycle_rule.innermost_of.Goals as goal

pub returns-in-Array : goal.returns-in-Array
returns-in-Array c ks count below inside =
    let within : ltb c.in-Array.element count ≡ true = sym (ap (is_inside count) c.in-Array.is) ∙ inside in
    ap option_list c.place_at.ensures ∙ below c.in-Array.element (ltb-true c.in-Array.element count within) ∙ sym (ap (λ k. innermost (type_by (seen_types ks) k)) c.in-Array.is)

pub returns-in-Text : goal.returns-in-Text
returns-in-Text c ks count below inside =
    let within : ltb c.in-Text.element count ≡ true = sym (ap (is_inside count) c.in-Text.is) ∙ inside in
    ap option_list c.place_at-in-Text.ensures ∙ below c.in-Text.element (ltb-true c.in-Text.element count within) ∙ sym (ap (λ k. innermost (type_by (seen_types ks) k)) c.in-Text.is)

pub returns-in-Pipe : goal.returns-in-Pipe
returns-in-Pipe c ks count below inside =
    let within : ltb c.in-Pipe.element count ≡ true = sym (ap (is_inside count) c.in-Pipe.is) ∙ inside in
    ap option_list c.place_at-in-Pipe.ensures ∙ below c.in-Pipe.element (ltb-true c.in-Pipe.element count within) ∙ sym (ap (λ k. innermost (type_by (seen_types ks) k)) c.in-Pipe.is)
