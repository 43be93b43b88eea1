use Rattle.idl_compat_place.proofs.Operated.{params_asked}
use Rattle.idl_compat_place.proofs.wanted.are_other_params.Goals as goal

pub returns : goal.returns
returns c = params_asked c.args.old.now c.args.new.now c.new-queue.result c.ask_param.new.queue c.in_ok-ok.ok c.in_ok-ok.ensures
