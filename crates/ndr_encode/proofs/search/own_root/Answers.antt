use Rattle.ndr_encode.proofs.Searching.{ready_can, ready_after, root_ready}
use Rattle.ndr_encode.proofs.search.own_root.Goals as goal

pub take_turn-requires : goal.take_turn-requires
take_turn-requires c =
    let r = c.requires in
    ready_can c.args.code.now c.args.chunk c.args.fit.now.graph r.stream r.searchable r.due _ c.args.search.now
    (root_ready c.args.code.now c.args.chunk c.args.fit.now.graph r.stream r.searchable c.args.root c.args.run r.due c.args.search.now r.searched r.pending)

pub returns : goal.returns
returns c x due y none s =
    ready_after c.args.code.now c.args.chunk c.args.fit.now.graph x y due _ c.args.search.now
    (root_ready c.args.code.now c.args.chunk c.args.fit.now.graph x y c.args.root c.args.run due c.args.search.now s none) _ c.in_ok-take_turn.ensures
