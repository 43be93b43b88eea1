use Rattle.std.proofs.Common.{length, ap, arith}
use Rattle.std.proofs.lemmas.List.{length-map}
use Rattle.idl_constructs.specs.SeenNodes.{seen_declared}
use Rattle.idl_interface.proofs.definitions.struct_of.Goals as goal

pub fields-requires : goal.fields-requires
fields-requires c =
    let list = c.in_ok-list.list.items in
    let same = ap length c.in_ok-list.ensures in
    let count = length-map list seen_declared in
    let whole = ap length c.as_slice-2.ensures.value in
    let few = c.requires.few in
    omega (arith, same, count, whole, few)
