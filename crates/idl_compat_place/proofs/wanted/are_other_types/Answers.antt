use Rattle.idl_compat_place.proofs.Operated.{types_asked}
use Rattle.idl_compat_place.proofs.wanted.are_other_types.Goals as goal

pub returns : goal.returns
returns c = types_asked c.args.old.now c.args.new.now c.new-queue.result c.ask_types.new.queue c.in_ok-ok.ok c.in_ok-ok.ensures
