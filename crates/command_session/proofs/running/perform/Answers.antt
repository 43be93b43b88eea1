use Rattle.std.proofs.Common.{◌≡◌, refl, sym, subst}
use Rattle.std.proofs.lemmas.Result.{err_from_is_err_and}
use Rattle.nd_base.specs.Over.{source_over}
use Rattle.command_streams.specs.Input.{AreRead}
use Rattle.ctx_session.specs.Outcome.{stock_over}
use Rattle.command_session.specs.Session.{script_limit}
use Rattle.command_session.proofs.Ends.{unread, ran}
use Rattle.command_session.proofs.running.perform.Goals as goal

pub returns-in_err-script : goal.returns-in_err-script
returns-in_err-script g c =
    let p = err_from_is_err_and c.from_residual.result c.from_residual.ensures.1 in
    rw (p.1, p.2)
    (unread (source_over g.S.Source.seen c.args.input.now c.read_input.new.input)
    (stock_over g.R.Resource.shows c.args.stock.now c.args.stock.now) _ c.in_err-script.ensures.cause (record { fresh = refl; spent = refl }))

pub returns : goal.returns
returns g c =
    let s = source_over g.S.Source.seen c.args.input.now c.read_input.new.input in
    ran s (stock_over g.R.Resource.shows c.args.stock.now c.run.new.stock) c.as_slice.result.now
    (subst (AreRead s script_limit) (sym c.as_slice.ensures)
    (record { taken = c.in_ok-script.ensures.octets; few = c.in_ok-script.ensures.few; whole = c.in_ok-script.ensures.whole; none_left = c.in_ok-script.ensures.none_left }))
    c.run.result c.run.ensures
