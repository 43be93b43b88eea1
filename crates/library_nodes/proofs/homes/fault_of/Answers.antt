use Rattle.std.proofs.Common.{◌++◌, ◌-◌, ◌∙◌, ap, subst}
use Rattle.library_nodes.specs.declared.stop.Stop.{Stop}
use Rattle.library_nodes.specs.Listings.{said}
use Rattle.library_nodes.specs.Steps.{IsStop}
use Rattle.library_nodes.specs.Built.{root_types, whole}
use Rattle.library_nodes.proofs.homes.fault_of.Goals as goal

pub returns-in-At : goal.returns-in-At
returns-in-At c =
    λ w h.
    record {
      rest = c.in-At.left;
      wrong = subst (λ (e : Stop). IsStop e (said w.table (root_types w ++ c.args.listing.now.cells.now) (whole c.args.listing.now))) c.in-At.is h;
      place = c.saturating_sub.ensures;
    }
