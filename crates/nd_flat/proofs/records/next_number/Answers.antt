use Rattle.std.proofs.Common.{◌∙◌, ◌+◌, refl, rules}
use Rattle.std.proofs.lemmas.Int.{to_z-of_z}
use mir.Val.{SFits}
use mir.Syntax.{w128}
use Rattle.nd_flat.proofs.RecordLaws.{number_cut}
use Rattle.nd_flat.proofs.records.next_number.Goals as goal

pub returns : goal.returns
returns c =
    let r = c.args.records.now in
    let fits : SFits w128 c.read_num.result = search rules in
    to_z-of_z w128 c.read_num.result fits ∙ c.read_num.ensures
    ∙ number_cut c.args.octets.now r c.next_of-prim.result c.place_of.result (r.from + c.place_of.result) c.width_of.result (r.from + c.place_of.result + c.width_of.result)
    c.next_of-prim.ensures c.place_of.ensures refl c.width_of.ensures.value refl
