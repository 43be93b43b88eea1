use Rattle.std.proofs.Common.{[], refl}
use Rattle.nd_flat.specs.FlatForm.{flat_seen, text_of}
use Rattle.library_nodes.proofs.Adding.{plain_more, array_opened, pipe_opened}
use Rattle.library_nodes.proofs.Gathered.{plain_seen, after_any}
use Rattle.library_nodes.proofs.laying.begin.Goals as goal

pub returns-in-Arr : goal.returns-in-Arr
returns-in-Arr c a fs h =
    rw c.in-Arr.is (array_opened fs c.in-Arr.max c.in-Arr.offset c.in-Arr.count c.no_numbers.result c.as_slice.result.now a c.args.list.now c.no_numbers.ensures c.as_slice.ensures.value h)

pub returns-in-Pipe : goal.returns-in-Pipe
returns-in-Pipe c a fs h =
    rw c.in-Pipe.is (pipe_opened fs c.in-Pipe.count c.no_numbers-in-Pipe.result c.as_slice-in-Pipe.result.now a c.args.list.now c.no_numbers-in-Pipe.ensures c.as_slice-in-Pipe.ensures.value h)

pub returns-in_ok-push-in_default : goal.returns-in_ok-push-in_default
returns-in_ok-push-in_default c a fs h =
    let n = c.in_ok-node-in_default.node in
    let plain = plain_seen c.args.seen.now n c.requires c.in_default.not-Arr c.in_default.not-Pipe _ (c.in_ok-node-in_default.ensures.node [] []) in
    plain_more fs (flat_seen c.args.seen.now) n a c.args.list.now _ (text_of (flat_seen c.args.seen.now).0) c.in_ok-push-in_default.ensures.ok refl
    c.in_ok-node-in_default.ensures.octets c.in_ok-node-in_default.ensures.node plain.1 h (after_any h.grows.nodes n [] plain.0 h.gathered)
