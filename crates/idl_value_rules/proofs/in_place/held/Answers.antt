use Rattle.std.proofs.Common.{sym, subst}
use Rattle.std.specs.Result.{IfOk}
use Rattle.idl_declared_types.specs.declared.kinds.Kind.{Kind}
use Rattle.idl_rule_definitions.specs.Scene.{in_place}
use Rattle.idl_declared_types.specs.Kinds.{type_by, seen_types}
use Rattle.idl_declared_types.specs.InPlace.{AreHeld}
use Rattle.idl_value_rules.proofs.in_place.held.Goals as goal

pub returns-in-Struct : goal.returns-in-Struct
returns-in-Struct c s n is size =
    let ks = c.args.types.now.kinds in
    subst (λ (k : Kind). IfOk c.parts_of.result (λ v. AreHeld ks c.args.count v.items (in_place s (type_by (seen_types ks) k)))) (sym c.in-Struct.is) (c.parts_of.ensures s n is size)

pub returns-in-Union : goal.returns-in-Union
returns-in-Union c s n is size =
    let ks = c.args.types.now.kinds in
    subst (λ (k : Kind). IfOk c.parts_of-in-Union.result (λ v. AreHeld ks c.args.count v.items (in_place s (type_by (seen_types ks) k)))) (sym c.in-Union.is) (c.parts_of-in-Union.ensures s n is size)
