use Rattle.std.proofs.Common.{ap, sym, ◌∙◌, ℕ, List, length, subst}
use Rattle.nd_flat.specs.FlatForm.{seen_nodes, HasOctets}
use Rattle.nd_flat.specs.declared.node.Node.{Node}
use Rattle.nd_flat.specs.declared.node.Node.TheVariants as kept
use Rattle.nd_flat.proofs.RecordLaws.{kept_there, kept_as_given}
use Rattle.nd_flat.proofs.node.kept_records.Goals as goal

pub returns-clause-within : goal.returns-clause-within
returns-clause-within c =
    let r = c.args.records.now in
    let n : Node = kept.Records r.order r.members r.count (length c.as_slice-from.result.now) in
    subst (λ (os : List ℕ). HasOctets os n) (sym c.in_ok-append.ensures.ok)
    (kept_there c.args.octets.now r (length c.as_slice-from.result.now) (ap length c.as_slice-from.ensures) c.requires.whole c.requires.some)

pub returns-clause-node : goal.returns-clause-node
returns-clause-node c =
    let r = c.args.records.now in
    let n : Node = kept.Records r.order r.members r.count (length c.as_slice-from.result.now) in
    ap (λ (os : List ℕ). seen_nodes os n) c.in_ok-append.ensures.ok
    ∙ kept_as_given c.args.octets.now r (length c.as_slice-from.result.now) (ap length c.as_slice-from.ensures)
