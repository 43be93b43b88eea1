use Rattle.std.proofs.Common.{refl}
use Rattle.ndr_explain.specs.declared.names.HomeName.TheVariants as named
use Rattle.ndr_trace_value.specs.declared.progress.Halt.TheVariants as halts
use Rattle.ndr_trace_value.proofs.Passing.{err_as}
use Rattle.ndr_trace.proofs.RootWalks.{own_of}
use Rattle.ndr_trace.proofs.SolePointers.{from_root}
use Rattle.ndr_trace.proofs.homes.walk_plain.Goals as goal

pub returns-in_err-walk_home-clause-ends : goal.returns-in_err-walk_home-clause-ends
returns-in_err-walk_home-clause-ends c k u s r never due rest names empty a e =
    let at_it = own_of k due rest names s c.args.at c.args.root (named.Word c.args.root.name) r never c.args.walker.now refl a empty in
    c.in_err-walk_home.ensures.ends k u at_it.its (from_root k c.args.at) at_it.later at_it.after_names at_it.tracing at_it.naming
    (err_as c.from_residual.result c.in_err-walk_home.field-0.0 halts.Here c.from_residual.ensures.1 e)

pub returns-clause-goes : goal.returns-clause-goes
returns-clause-goes c k u s r never due rest names empty a =
    let at_it = own_of k due rest names s c.args.at c.args.root (named.Word c.args.root.name) r never c.args.walker.now refl a empty in
    let walked = c.in_ok-walk_home.ensures.goes k u at_it.its (from_root k c.args.at) at_it.later at_it.after_names at_it.tracing at_it.naming in
    at_it.after c.walk_home.new.walker walked.0 walked.1
