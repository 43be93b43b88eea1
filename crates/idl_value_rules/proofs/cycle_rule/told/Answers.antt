use Rattle.std.proofs.Common.{◌≡◌, ◌∙◌, ◌<◌, ◌≤◌, List, Some, length, get_or, slice_get, refl, sym, ap, subst, arith}
use Rattle.std.proofs.lemmas.Bool.{ltb-true, ltb-false}
use Rattle.std.proofs.lemmas.Option.{slice_get_read, slice_get_within}
use Rattle.idl_declared_types.specs.declared.types.BodyTypes.{BodyTypes}
use Rattle.idl_rule_definitions.specs.Scene.{bodies}
use Rattle.idl_value_rules.proofs.cycle_rule.told.Goals as goal

pub returns-in-Some : goal.returns-in-Some
returns-in-Some c s b is there =
    let t = c.args.types.now in
    let within : c.args.number < length c.deref.result.now = ltb-true c.args.number (length c.deref.result.now) (sym c.in-Some.ensures.lookup.0) in
    let below : c.args.number < length t.bodies.items = subst (λ (l : List BodyTypes). c.args.number < length l) c.deref.ensures.value within in
    let same : c.in-Some.body.now ≡ get_or t.bodies.items c.args.number c.in-Some.body.now = c.in-Some.ensures.lookup.1 ∙ ap (λ l. get_or l c.args.number c.in-Some.body.now) c.deref.ensures.value in
    let here : slice_get t.bodies.items c.args.number ≡ Some c.in-Some.body.now = slice_get_read t.bodies.items (length t.bodies.items) c.args.number c.in-Some.body.now refl below same in
    ap (λ p. Some p) (c.place_told.ensures s.known b (is.body c.args.number b c.in-Some.body.now there here).node)

pub returns-in-None : goal.returns-in-None
returns-in-None c s b is there =
    let t = c.args.types.now in
    let past : length c.deref.result.now ≤ c.args.number = ltb-false c.args.number (length c.deref.result.now) (sym c.in-None.ensures.lookup.0) in
    let beyond : length t.bodies.items ≤ c.args.number = subst (λ (l : List BodyTypes). length l ≤ c.args.number) c.deref.ensures.value past in
    let within = slice_get_within (bodies s) c.args.number b there in
    let count = is.body_count in
    absurd (omega (arith, beyond, within, count))
