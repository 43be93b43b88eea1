use Rattle.std.proofs.Common.{refl, ap, sym, subst, ◌∙◌}
use Rattle.nd_value.specs.declared.item.Home.TheVariants as home
use Rattle.ndr_trace_value.specs.declared.nodes.Walker.{Walker}
use Rattle.ndr_trace_value.specs.declared.progress.Halt.TheVariants as halts
use Rattle.ndr_trace_value.specs.Naming.{stands_at}
use Rattle.ndr_trace_value.specs.Tracing.{IsFrom}
use Rattle.ndr_trace_value.proofs.LevelWalk.{ended_there, ready_after}
use Rattle.ndr_trace_value.proofs.Passing.{err_as}
use Rattle.ndr_trace.proofs.RootWalks.{direct_root}
use Rattle.ndr_trace.proofs.SolePointers.{root_spot}
use Rattle.ndr_trace.proofs.homes.walk_direct.Goals as goal

pub returns-in_err-walk_home-clause-ends : goal.returns-in_err-walk_home-clause-ends
returns-in_err-walk_home-clause-ends c k u s root there type_of due rest names empty a e =
    let w : Walker = record { progress = c.args.walker.now.progress; cells = c.come_to.new.cells; search = c.note_direct.new.search } in
    let ready = ready_after k c.args.ground.now u c.args.walker.now.progress c.args.walker.now.progress refl c.in_ok-at_end.ensures.ready in
    let at_it =
    direct_root k due rest names s c.args.at root there c.args.walker.now w c.args.to c.new_cell-cell.result type_of ready a empty c.new_cell-cell.ensures.next
    (c.in_ok-come_to.ensures.count ∙ c.new_cell-cell.ensures.count) (c.in_ok-come_to.ensures.numbers ∙ c.new_cell-cell.ensures.numbers)
    (c.in_ok-come_to.ensures.pending ∙ c.new_cell-cell.ensures.pending) refl c.in_ok-come_to.ensures.stands
    (λ d n. c.in_ok-come_to.ensures.others d n ∙ ap (λ z. stands_at z.items d) c.new_cell-cell.ensures.stands) in
    let from = subst (IsFrom k (home.Cell c.new_cell-cell.result)) (sym (root_spot k c.args.at c.new.result c.new.ensures)) at_it.1 in
    c.in_err-walk_home.ensures.ends k u at_it.0.its from at_it.0.later at_it.0.after_names at_it.0.tracing at_it.0.naming
    (err_as c.from_residual-in_err-walk_home.result c.in_err-walk_home.field-0.0 halts.Here c.from_residual-in_err-walk_home.ensures.1 e)

pub returns-clause-goes : goal.returns-clause-goes
returns-clause-goes c k u s root there type_of due rest names empty a =
    let w : Walker = record { progress = c.args.walker.now.progress; cells = c.come_to.new.cells; search = c.note_direct.new.search } in
    let ready = ready_after k c.args.ground.now u c.args.walker.now.progress c.args.walker.now.progress refl c.in_ok-at_end.ensures.ready in
    let at_it =
    direct_root k due rest names s c.args.at root there c.args.walker.now w c.args.to c.new_cell-cell.result type_of ready a empty c.new_cell-cell.ensures.next
    (c.in_ok-come_to.ensures.count ∙ c.new_cell-cell.ensures.count) (c.in_ok-come_to.ensures.numbers ∙ c.new_cell-cell.ensures.numbers)
    (c.in_ok-come_to.ensures.pending ∙ c.new_cell-cell.ensures.pending) refl c.in_ok-come_to.ensures.stands
    (λ d n. c.in_ok-come_to.ensures.others d n ∙ ap (λ z. stands_at z.items d) c.new_cell-cell.ensures.stands) in
    let from = subst (IsFrom k (home.Cell c.new_cell-cell.result)) (sym (root_spot k c.args.at c.new.result c.new.ensures)) at_it.1 in
    let walked = c.in_ok-walk_home.ensures.goes k u at_it.0.its from at_it.0.later at_it.0.after_names at_it.0.tracing at_it.0.naming in
    at_it.0.after c.walk_home.new.walker walked.0 walked.1

pub returns-in_err-at_end-clause-ends : goal.returns-in_err-at_end-clause-ends
returns-in_err-at_end-clause-ends c k u s root there type_of due rest names empty a e =
    ended_there k c.args.ground.now u c.args.walker.now.progress c.args.walker.now.progress _ refl a.deferring.tracing
    (c.in_err-at_end.ensures.ends (err_as c.from_residual.result c.in_err-at_end.field-0.0 halts.Here c.from_residual.ensures.1 e))
