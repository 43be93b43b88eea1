use Rattle.std.proofs.Common.{rules, ◌≡◌, length, drop, ap, ◌∙◌, arith, length-drop}
use Rattle.nd_types.proofs.NumberLaws.{spelling-length}
use Rattle.ndr_prim.proofs.Contexts.{written_whole}
use Rattle.ndr_prim.proofs.context.write_context.Goals as goal

pub returns : goal.returns
returns c =
    let front : length c.write_long.new.to ≡ 4 = ap length c.write_long.ensures ∙ spelling-length c.args.order 4 c.args.attributes in
    let whole : length c.args.to.now ≡ 20 = search rules in
    let back : length (drop 4 c.args.to.now) ≡ 16 = length-drop 4 c.args.to.now ∙ omega (arith, whole) in
    written_whole _ _ _ _ _ front back c.write_long.ensures (c.copy_from_slice.ensures.after ∙ c.id_octets.ensures)
