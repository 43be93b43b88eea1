use Rattle.nd_types.specs.Meant.{meant_by}
use Rattle.idl_listing.proofs.ListedWhole.{whole}
use Rattle.idl_listing.proofs.interface_lines.interface_listing.Goals as goal

pub returns : goal.returns
returns c = whole (meant_by c.args.interface.now) _ _ _ _ c.new-text.ensures c.in_ok-header_line.ensures c.in_ok-own_types.ensures c.in_ok-all_operations.ensures
