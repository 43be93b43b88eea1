use Rattle.std.proofs.Common.{◌≡◌, ◌∙◌, ◌<◌, ◌≤◌, List, Some, map, length, get_or, sym, ap, subst}
use Rattle.std.specs.List.{flat_map}
use Rattle.std.specs.Result.{IfOk}
use Rattle.std.proofs.lemmas.Bool.{ltb-true, ltb-false}
use Rattle.nd_base.specs.declared.octets.Place.{Place}
use Rattle.idl_declared_types.specs.declared.types.BodyTypes.{BodyTypes}
use Rattle.idl_rule_definitions.specs.TypeRules.{innermost}
use Rattle.idl_declared_types.specs.Kinds.{type_at}
use Rattle.idl_declared_types.specs.Places.{found_place}
use Rattle.idl_value_rules.specs.Cycles.{numbers_of}
use Rattle.idl_declared_types.proofs.BodyParts.{parts_found, parts_missed}
use Rattle.idl_value_rules.proofs.CycleGraph.{held_parts}
use Rattle.idl_value_rules.proofs.CycleLoops.{held_none}
use Rattle.idl_value_rules.proofs.cycle_rule.row_of.Goals as goal

pub returns-in-Some-get : goal.returns-in-Some-get
returns-in-Some-get c s n is inner =
    let t = c.args.types.now in
    let found : found_place c.args.place t.by_place ≡ Some c.in-Some.number = sym c.body_of.ensures ∙ c.in-Some.is in
    let within : c.in-Some.number < length c.deref.result.now = ltb-true c.in-Some.number (length c.deref.result.now) (sym c.in-Some-get.ensures.lookup.0) in
    let below : c.in-Some.number < length t.bodies.items = subst (λ (l : List BodyTypes). c.in-Some.number < length l) c.deref.ensures.value within in
    let same : c.in-Some-get.body.now ≡ get_or t.bodies.items c.in-Some.number c.in-Some-get.body.now =
    c.in-Some-get.ensures.lookup.1 ∙ ap (λ l. get_or l c.in-Some.number c.in-Some-get.body.now) c.deref.ensures.value in
    let parts = ap (map (type_at t.kinds)) c.as_slice.ensures.value ∙ parts_found s n t is c.args.place c.in-Some.number c.in-Some-get.body.now found below same in
    let whole = ap (flat_map innermost) parts ∙ sym (held_parts s c.args.place) in
    subst (λ (l : List Place). IfOk c.row.result (λ v. v.items ≡ numbers_of t l)) whole (c.row.ensures t.kinds inner)

pub returns-in-None : goal.returns-in-None
returns-in-None c s n is inner =
    let t = c.args.types.now in
    let found : found_place c.args.place t.by_place ≡ Some c.in-Some.number = sym c.body_of.ensures ∙ c.in-Some.is in
    let past : length c.deref.result.now ≤ c.in-Some.number = ltb-false c.in-Some.number (length c.deref.result.now) (sym c.in-None.ensures.lookup.0) in
    let beyond : length t.bodies.items ≤ c.in-Some.number = subst (λ (l : List BodyTypes). length l ≤ c.in-Some.number) c.deref.ensures.value past in
    let none = parts_missed s n t is c.args.place c.in-Some.number found beyond in
    c.new-in-None.ensures.items ∙ ap (λ l. numbers_of t (flat_map innermost l)) none ∙ ap (numbers_of t) (sym (held_parts s c.args.place))

pub returns-in_default : goal.returns-in_default
returns-in_default c s n is inner =
    let t = c.args.types.now in
    c.new.ensures.items ∙ sym (ap (numbers_of t) (held_none s n t is c.args.place (sym c.body_of.ensures ∙ c.in_default.is)))
