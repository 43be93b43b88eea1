use Rattle.std.proofs.Common.{refl}
use Rattle.nd_flat.specs.FlatForm.{flat_seen, text_of}
use Rattle.library_nodes.proofs.Adding.{alone}
use Rattle.library_nodes.proofs.laying.add_single.Goals as goal

pub returns : goal.returns
returns c =
    alone (flat_seen c.args.seen.now) c.in_ok-node.node c.args.list.now _ (text_of (flat_seen c.args.seen.now).0) c.in_ok-push.ensures.ok refl
    c.in_ok-node.ensures.octets c.in_ok-node.ensures.node c.in_ok-node.ensures.gathered c.in_ok-node.ensures.there
