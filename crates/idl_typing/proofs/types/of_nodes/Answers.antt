use Rattle.std.proofs.Common.{◌≡◌, length, arith}
use Rattle.idl_scope.specs.Seen.{known_in}
use Rattle.idl_typing.proofs.ReadAll.{none_read, all_read, all_tags, all_operations}
use Rattle.idl_typing.proofs.types.of_nodes.Goals as goal

pub loop-index-init : goal.loop-index-init
loop-index-init c = none_read (known_in c.args.scope.now) c.args.nodes.now _ c.new-names.result c.new-names.ensures c.new-2.ensures.items c.new-3.ensures.items c.new-4.ensures c.new-5.ensures.items

pub returns : goal.returns
returns c =
    let end : c.loop-index.index ≡ length c.args.nodes.now.items.items = omega (arith, c.len-index-end.ensures) in
    record {
      types = all_read (known_in c.args.scope.now) c.args.nodes.now c.loop-index.index c.loop-index.types c.loop-index.names end c.loop-index.invariant;
      tags = all_tags (known_in c.args.scope.now) c.args.nodes.now c.loop-index.index c.loop-index.types c.loop-index.names end c.loop-index.invariant;
      operations = all_operations (known_in c.args.scope.now) c.args.nodes.now c.loop-index.index c.loop-index.types c.loop-index.names end c.loop-index.invariant;
    }
