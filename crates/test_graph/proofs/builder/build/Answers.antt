use Rattle.std.proofs.Common.{sym, subst}
use Rattle.nd_flat.specs.Building.{Building, HasNoUnread, closed}
use Rattle.test_graph.proofs.Built.{no_unread}
use Rattle.test_graph.proofs.builder.build.Goals as goal

pub into_graph-requires-clause-read : goal.into_graph-requires-clause-read
into_graph-requires-clause-read c =
    subst (λ (b : Building). HasNoUnread (closed b)) (sym c.in_ok-builder.ensures) (no_unread c.args.tie)
