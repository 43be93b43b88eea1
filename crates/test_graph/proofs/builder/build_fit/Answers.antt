use Rattle.std.proofs.Common.{◌∙◌, ap, sym}
use Rattle.nd_types.specs.declared.interface.Interface.{Interface}
use Rattle.nd_flat.specs.Building.{fitting}
use Rattle.test_graph.specs.Built.{with_leaves}
use Rattle.test_graph.proofs.builder.build_fit.Goals as goal

pub finished-requires-clause-alike : goal.finished-requires-clause-alike
finished-requires-clause-alike c =
    ap fitting c.in_ok-builder.ensures ∙ ap (λ (i : Interface). fitting (with_leaves i)) c.tie.ensures ∙ sym c.requires.of
