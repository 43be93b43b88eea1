use Rattle.std.proofs.Common.{◌≡◌, ◌∙◌, ◌<◌, ◌≤◌, List, Some, length, get_or, sym, ap, subst}
use Rattle.std.proofs.lemmas.Bool.{ltb-true, ltb-false}
use Rattle.idl_declared_types.specs.declared.types.BodyTypes.{BodyTypes}
use Rattle.idl_declared_types.specs.Places.{found_place}
use Rattle.idl_declared_types.proofs.BodyParts.{union_found, union_missed}
use Rattle.idl_value_rules.proofs.marks.is_nonencapsulated_at.Goals as goal

pub returns-in-Some-get : goal.returns-in-Some-get
returns-in-Some-get c s n is =
    let t = c.args.types.now in
    let found : found_place c.args.place t.by_place ≡ Some c.in-Some.number = sym c.body_of.ensures ∙ c.in-Some.is in
    let within : c.in-Some.number < length c.deref.result.now = ltb-true c.in-Some.number (length c.deref.result.now) (sym c.in-Some-get.ensures.lookup.0) in
    let below : c.in-Some.number < length t.bodies.items = subst (λ (l : List BodyTypes). c.in-Some.number < length l) c.deref.ensures.value within in
    let same : c.in-Some-get.body.now ≡ get_or t.bodies.items c.in-Some.number c.in-Some-get.body.now =
    c.in-Some-get.ensures.lookup.1 ∙ ap (λ l. get_or l c.in-Some.number c.in-Some-get.body.now) c.deref.ensures.value in
    union_found s n t is c.args.place c.in-Some.number c.in-Some-get.body.now found below same

pub returns-in-None : goal.returns-in-None
returns-in-None c s n is =
    let t = c.args.types.now in
    let found : found_place c.args.place t.by_place ≡ Some c.in-Some.number = sym c.body_of.ensures ∙ c.in-Some.is in
    let past : length c.deref.result.now ≤ c.in-Some.number = ltb-false c.in-Some.number (length c.deref.result.now) (sym c.in-None.ensures.lookup.0) in
    union_missed s n t is c.args.place c.in-Some.number found (subst (λ (l : List BodyTypes). length l ≤ c.in-Some.number) c.deref.ensures.value past)
