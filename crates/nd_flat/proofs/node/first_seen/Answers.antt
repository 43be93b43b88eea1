use Rattle.std.proofs.Common.{ap, sym, take, drop, ◌∙◌, ◌∷◌, subst, rules}
use Rattle.std.proofs.lemmas.Int.{to_z-of_z}
use mir.Val.{SFits}
use mir.Syntax.{w128}
use Rattle.nd_flat.specs.FlatForm.{seen_nodes, after_first, num_flat, HasOctets}
use Rattle.nd_types.specs.Table.{width}
use Rattle.nd_types.specs.Number.{value_of_octets}
use Rattle.nd_flat.specs.declared.node.Node.{Node}
use Rattle.nd_flat.proofs.RowLaws.{kept_row_first}
use Rattle.nd_flat.proofs.RecordLaws.{node_first}
use Rattle.nd_flat.proofs.node.first_seen.Goals as goal

pub returns-in-Row : goal.returns-in-Row
returns-in-Row c =
    let os = c.args.octets.now in
    let r = c.in-Row.row in
    let z = c.first_number.result in
    let fits : SFits w128 z = search rules in
    let v = value_of_octets r.order r.of (take (width r.of) (drop r.from os)) in
    let there = subst (HasOctets os) c.in-Row.is c.requires.within in
    ap (λ z. num_flat z ∷ after_first os c.args.node.now) (to_z-of_z w128 z fits ∙ c.first_number.ensures)
    ∙ ap (λ (n : Node). num_flat v ∷ after_first os n) c.in-Row.is
    ∙ sym (kept_row_first os r there.1) ∙ sym (ap (seen_nodes os) c.in-Row.is)

pub returns-in-Records : goal.returns-in-Records
returns-in-Records c =
    node_first c.args.octets.now c.args.node.now c.in-Records._order c.in-Records.members c.in-Records._count c.in-Records._from c.in-Records.is c.requires.within
