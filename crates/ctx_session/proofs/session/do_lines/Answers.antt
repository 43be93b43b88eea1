use Rattle.std.proofs.Common.{sym, subst, List, ℕ, ◌+◌, ◌≤◌, ◌-◌, take, vec_len, vec_capacity, arith}
use Rattle.ctx_store.specs.Seen.{store_spare}
use Rattle.ctx_session.specs.Script.{opens_of}
use Rattle.ctx_session.specs.Lines.{line_meant}
use Rattle.ctx_session.specs.Session.{DoesLine}
use Rattle.ctx_session.specs.Stocked.{state_of}
use Rattle.ctx_session.proofs.UnderWay.{way_front, way_spare, way_room, way_next, way_done}
use Rattle.ctx_session.proofs.session.do_lines.Goals as goal

pub line_at_front-first-requires : goal.line_at_front-first-requires
line_at_front-first-requires g c =
    way_front c.args.script.now c.loop-rest.rest.now (state_of g.R.Resource.shows c.args.store.now c.args.stock.now) (state_of g.R.Resource.shows c.loop-rest.store c.loop-rest.stock)
    c.args.out.now.items c.loop-rest.out.items
    (store_spare c.loop-rest.store) (vec_capacity c.loop-rest.out - vec_len c.loop-rest.out) c.loop-rest.invariant.0 (omega arith)

pub do_line-answer-requires-clause-spare : goal.do_line-answer-requires-clause-spare
do_line-answer-requires-clause-spare g c =
    let first = c.line_at_front-first.result in
    let P : List ℕ → Type 0 = λ o. opens_of (line_meant o first.line) ≤ store_spare c.loop-rest.store in
    subst P (sym c.front.ensures)
    (way_spare c.args.script.now c.loop-rest.rest.now (state_of g.R.Resource.shows c.args.store.now c.args.stock.now) (state_of g.R.Resource.shows c.loop-rest.store c.loop-rest.stock)
    c.args.out.now.items c.loop-rest.out.items
    (store_spare c.loop-rest.store) (vec_capacity c.loop-rest.out - vec_len c.loop-rest.out) c.loop-rest.invariant.0
    first.end (line_meant (take first.end c.loop-rest.rest.now) first.line) c.line_at_front-first.ensures.line)

pub write_answer-requires-clause-room : goal.write_answer-requires-clause-room
write_answer-requires-clause-room g c =
    let first = c.line_at_front-first.result in
    way_room c.args.script.now c.loop-rest.rest.now (state_of g.R.Resource.shows c.args.store.now c.args.stock.now) (state_of g.R.Resource.shows c.loop-rest.store c.loop-rest.stock)
    c.args.out.now.items c.loop-rest.out.items
    (store_spare c.loop-rest.store) (vec_capacity c.loop-rest.out - vec_len c.loop-rest.out) c.loop-rest.invariant.0
    first.end (line_meant (take first.end c.loop-rest.rest.now) first.line) c.line_at_front-first.ensures.line

pub loop-rest-preserved : goal.loop-rest-preserved
loop-rest-preserved g c =
    let first = c.line_at_front-first.result in
    let next = state_of g.R.Resource.shows c.do_line-answer.new.store c.do_line-answer.new.stock in
    let P : List ℕ → Type 0 = λ o. DoesLine (state_of g.R.Resource.shows c.loop-rest.store c.loop-rest.stock) (line_meant o first.line) c.do_line-answer.result next in
    let Q : List ℕ → Type 0 = λ o. store_spare c.loop-rest.store ≤ store_spare c.do_line-answer.new.store + opens_of (line_meant o first.line) in (
      way_next c.args.script.now c.loop-rest.rest.now (state_of g.R.Resource.shows c.args.store.now c.args.stock.now) (state_of g.R.Resource.shows c.loop-rest.store c.loop-rest.stock)
          c.args.out.now.items c.loop-rest.out.items
          (store_spare c.loop-rest.store) (vec_capacity c.loop-rest.out - vec_len c.loop-rest.out) c.loop-rest.invariant.0
          first.end (line_meant (take first.end c.loop-rest.rest.now) first.line) c.line_at_front-first.ensures.line
          c.rest_at-rest.result.now next c.do_line-answer.result c.write_answer.new.out.items (store_spare c.do_line-answer.new.store)
          (vec_capacity c.write_answer.new.out - vec_len c.write_answer.new.out) (subst P c.front.ensures c.do_line-answer.ensures.does) c.rest_at-rest.ensures
          c.write_answer.ensures.octets (subst Q c.front.ensures c.do_line-answer.ensures.spare) c.write_answer.ensures.room,
      c.do_line-answer.ensures.ready,
    )

pub returns-clause-does : goal.returns-clause-does
returns-clause-does g c =
    way_done c.args.script.now c.loop-rest.rest.now (state_of g.R.Resource.shows c.args.store.now c.args.stock.now) (state_of g.R.Resource.shows c.loop-rest.store c.loop-rest.stock)
    c.args.out.now.items c.loop-rest.out.items
    (store_spare c.loop-rest.store) (vec_capacity c.loop-rest.out - vec_len c.loop-rest.out) c.loop-rest.invariant.0 (omega arith)
