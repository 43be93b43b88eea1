use Rattle.std.proofs.Common.{◌∙◌, subst, sym}
use Rattle.nd_flat.specs.Building.{HasNoUnread}
use Rattle.nd_fit.proofs.Homes.{built_graph, no_unread}
use Rattle.nd_fit.proofs.graph.flattened.Goals as goal

pub into_graph-requires-clause-read : goal.into_graph-requires-clause-read
into_graph-requires-clause-read c =
    subst HasNoUnread
    (sym (built_graph c.args.graph.now c.begin-builder.result c.reserve_all.new.builder c.root_all.new.builder c.fill_all.new.builder c.args.tie c.args.op c.args.side _
    c.begin-builder.ensures c.in_ok-reserve_all.ensures c.in_ok-root_all.ensures c.in_ok-fill_all.ensures))
    (no_unread c.args.graph.now c.requires.keepable)

pub returns : goal.returns
returns c =
    c.into_graph.ensures
    ∙ built_graph c.args.graph.now c.begin-builder.result c.reserve_all.new.builder c.root_all.new.builder c.fill_all.new.builder c.args.tie c.args.op c.args.side _
    c.begin-builder.ensures c.in_ok-reserve_all.ensures c.in_ok-root_all.ensures c.in_ok-fill_all.ensures
