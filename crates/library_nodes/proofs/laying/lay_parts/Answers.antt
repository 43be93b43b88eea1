use Rattle.std.proofs.Common.{[], subst}
use Rattle.std.proofs.lemmas.Result.{on_ok_weaker}
use Rattle.nd_value.specs.Tree.{Trees, flat}
use Rattle.library_nodes.specs.Laying.{Adds}
use Rattle.library_nodes.proofs.Adding.{open_none}
use Rattle.library_nodes.proofs.laying.lay_parts.Goals as goal

pub returns : goal.returns
returns c =
    on_ok_weaker c.lay_all.result
    (λ h. subst (λ (w : Trees). Adds (flat w) c.args.list.now c.lay_all.new.list) c.walk-nodes.ensures (h c.args.list.now [] (open_none c.args.list.now))) c.lay_all.ensures
