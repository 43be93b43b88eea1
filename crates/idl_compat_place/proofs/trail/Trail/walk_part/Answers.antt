use Rattle.std.proofs.Common.{rules, ◌≡◌, Some, subst}
use Rattle.std.specs.Prelude.{slice_get}
use Rattle.idl_compat_place.specs.Trails.{IsWanted}
use Rattle.idl_compat_place.proofs.Operated.{nothing_more, part_origin, part_if_ok}
use Rattle.idl_compat_place.proofs.trail.Trail.walk_part.Goals as goal

pub returns-in-Nothing : goal.returns-in-Nothing
returns-in-Nothing c = λ a.
    let i = c.args.older.now in
    let j = c.args.newer.now in
    let o = c.in-Some.operation.now in
    let q = c.in-Some-get.other.now in
    let is : slice_get i.operations c.args.op ≡ Some o = search rules in
    let is' : slice_get j.operations c.args.op ≡ Some q = search rules in
    nothing_more i j c.args.op c.args.part c.args.self.now a o q is is' (subst (IsWanted o q c.args.part) c.in-Nothing.is c.in_ok-wanted_parts.ensures)

pub returns-in-Types : goal.returns-in-Types
returns-in-Types c = λ a.
    let i = c.args.older.now in
    let j = c.args.newer.now in
    let s = c.args.self.now in
    let o = c.in-Some.operation.now in
    let q = c.in-Some-get.other.now in
    let p = c.in-Types.pair in
    let is : slice_get i.operations c.args.op ≡ Some o = search rules in
    let is' : slice_get j.operations c.args.op ≡ Some q = search rules in
    let w = subst (IsWanted o q c.args.part) c.in-Types.is c.in_ok-wanted_parts.ensures in
    part_if_ok i j c.args.op c.args.part s a o q is is' p w c.walk_from.new.self c.walk_from.result
    (c.walk_from.ensures c.args.op c.args.part a.trail a.alike.types (part_origin i j c.args.op c.args.part s a o q is is' p w))
