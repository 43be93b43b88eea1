use Rattle.std.proofs.Common.{◌-◌, length, vec_len, vec_capacity}
use Rattle.ctx_store.specs.Seen.{store_spare}
use Rattle.ctx_session.specs.Session.{IsReady}
use Rattle.ctx_session.specs.Stocked.{state_of, spent_room}
use Rattle.ctx_session.proofs.UnderWay.{IsUnderWay}
use Rattle.ctx_session.proofs.session.do_lines.Given as goal

abbrev pub invariant-loop-rest : goal.invariant-loop-rest
invariant-loop-rest g l =
    IsUnderWay l.fn.script l.rest (state_of g.R.Resource.shows l.initial.store l.initial.stock) (state_of g.R.Resource.shows l.store l.stock) l.initial.out.items l.out.items
    (store_spare l.store) (vec_capacity l.out - vec_len l.out)
    × IsReady (state_of g.R.Resource.shows l.store l.stock) (spent_room l.stock)

abbrev pub decreases-loop-rest : goal.decreases-loop-rest
decreases-loop-rest g l = length l.rest
