use Rattle.std.proofs.Common.{◌≡◌, ◌∙◌, ℕ, ◌<◌, ◌≤◌, List, [], Some, map, length, get_or, refl, sym, ap, subst, arith}
use Rattle.std.proofs.lemmas.Bool.{ltb-true, ltb-false}
use Rattle.idl_declared_types.specs.declared.types.BodyTypes.{BodyTypes}
use Rattle.idl_rule_definitions.specs.Types.{IdlType}
use Rattle.idl_declared_types.specs.Kinds.{type_at}
use Rattle.idl_declared_types.specs.Places.{found_place}
use Rattle.idl_declared_types.specs.InPlace.{AreHeld, parts_in_place}
use Rattle.idl_declared_types.proofs.BodyParts.{parts_found, parts_missed}
use Rattle.idl_value_rules.proofs.in_place.parts_of.Goals as goal
use Rattle.std.specs.Result.{IfOk}

pub returns-in-Some-get : goal.returns-in-Some-get
returns-in-Some-get c s n is size =
    let t = c.args.types.now in
    let found : found_place c.args.place t.by_place ≡ Some c.in-Some.number = sym c.body_of.ensures ∙ c.in-Some.is in
    let within : c.in-Some.number < length c.deref.result.now = ltb-true c.in-Some.number (length c.deref.result.now) (sym c.in-Some-get.ensures.lookup.0) in
    let below : c.in-Some.number < length t.bodies.items = subst (λ (l : List BodyTypes). c.in-Some.number < length l) c.deref.ensures.value within in
    let same : c.in-Some-get.body.now ≡ get_or t.bodies.items c.in-Some.number c.in-Some-get.body.now =
    c.in-Some-get.ensures.lookup.1 ∙ ap (λ l. get_or l c.in-Some.number c.in-Some-get.body.now) c.deref.ensures.value in
    let parts = ap (map (type_at t.kinds)) c.as_slice.ensures.value ∙ parts_found s n t is c.args.place c.in-Some.number c.in-Some-get.body.now found below same in
    subst (λ (l : List IdlType). IfOk c.nodes.result (λ v. AreHeld t.kinds c.args.count v.items l)) parts (c.nodes.ensures t.kinds size)

pub returns-in-None : goal.returns-in-None
returns-in-None c s n is size =
    let t = c.args.types.now in
    let found : found_place c.args.place t.by_place ≡ Some c.in-Some.number = sym c.body_of.ensures ∙ c.in-Some.is in
    let past : length c.deref.result.now ≤ c.in-Some.number = ltb-false c.in-Some.number (length c.deref.result.now) (sym c.in-None.ensures.lookup.0) in
    let beyond : length t.bodies.items ≤ c.in-Some.number = subst (λ (l : List BodyTypes). length l ≤ c.in-Some.number) c.deref.ensures.value past in
    let none = parts_missed s n t is c.args.place c.in-Some.number found beyond in
    subst (λ (l : List IdlType). AreHeld t.kinds c.args.count c.new-in-None.result.items l) none
    (subst (λ (l : List ℕ). AreHeld t.kinds c.args.count l []) (sym c.new-in-None.ensures.items) (record { seen = refl; within = refl }))
