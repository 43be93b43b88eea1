use Rattle.std.proofs.Common.{◌≡◌, ◌*◌, ◌∷◌, refl, arith}
use Rattle.nd_value.specs.declared.item.Home.TheVariants as homes
use Rattle.nd_grammar.specs.Entry.{Chunk}
use Rattle.ndr_trace_value.specs.declared.progress.Halt.TheVariants as halts
use Rattle.ndr_trace_value.specs.Left.{least_items}
use Rattle.ndr_trace.proofs.ChunkWalk.{at_first, at_home, at_none, at_some, elements_end, elements_go, elements_least, head}
use Rattle.ndr_trace.proofs.SolePointers.{from_root}
use Rattle.ndr_trace_value.proofs.Passing.{err_as}
use Rattle.ndr_trace.proofs.pipes.walk_chunk.Goals as goal

pub returns-in_err-gap-clause-ends : goal.returns-in_err-gap-clause-ends
returns-in_err-gap-clause-ends c k u rest names g e =
    let h = homes.Root c.args.at in
    let name = c.args.root.name.now in
    let d = head k h name c.args.elem.0 c.args.before rest names c.args.walker.now g in
    c.in_err-gap.ensures.ends k u 0 (at_home k h name g.own_path c.args.root.of _ refl refl refl c.new-below.ensures.items (from_root k c.args.at))
    (record { home = h; node = 0; kind = Chunk d.size } ∷ d.later) d.tracing
    (err_as c.from_residual.result c.in_err-gap.field-0.0 halts.Here c.from_residual.ensures.1 e)

pub returns-in_err-size-clause-ends : goal.returns-in_err-size-clause-ends
returns-in_err-size-clause-ends c k u rest names g e =
    let h = homes.Root c.args.at in
    let name = c.args.root.name.now in
    let d = head k h name c.args.elem.0 c.args.before rest names c.args.walker.now g in
    let first = c.in_ok-gap.ensures.goes k u 0 (record { home = h; node = 0; kind = Chunk d.size } ∷ d.later) d.tracing in
    c.in_err-size.ensures.ends k u 0 (at_home k h name g.own_path c.args.root.of _ refl refl refl c.new-below.ensures.items (from_root k c.args.at)) (Chunk d.size) tt d.later first
    (err_as c.from_residual-in_err-size.result c.in_err-size.field-0.0 halts.Here c.from_residual-in_err-size.ensures.1 e)

pub returns-then-size-eq0-clause-goes : goal.returns-then-size-eq0-clause-goes
returns-then-size-eq0-clause-goes c k u rest names g =
    let h = homes.Root c.args.at in
    let name = c.args.root.name.now in
    let w = c.args.walker.now in
    let d = head k h name c.args.elem.0 c.args.before rest names w g in
    let first = c.in_ok-gap.ensures.goes k u 0 (record { home = h; node = 0; kind = Chunk d.size } ∷ d.later) d.tracing in
    let both = c.in_ok-size.ensures.goes k u 0 (at_home k h name g.own_path c.args.root.of _ refl refl refl c.new-below.ensures.items (from_root k c.args.at)) (Chunk d.size) tt tt d.later first in
    at_none k h name c.args.elem.0 c.args.before rest names w g.node d c.in_ok-size.size both.1 c.if-size-eq0.true c.count.new.progress both.0

pub returns-in_err-walk_level-clause-ends : goal.returns-in_err-walk_level-clause-ends
returns-in_err-walk_level-clause-ends c k u rest names g e =
    let h = homes.Root c.args.at in
    let name = c.args.root.name.now in
    let w = c.args.walker.now in
    let d = head k h name c.args.elem.0 c.args.before rest names w g in
    let first = c.in_ok-gap.ensures.goes k u 0 (record { home = h; node = 0; kind = Chunk d.size } ∷ d.later) d.tracing in
    let both = c.in_ok-size.ensures.goes k u 0 (at_home k h name g.own_path c.args.root.of _ refl refl refl c.new-below.ensures.items (from_root k c.args.at)) (Chunk d.size) tt tt d.later first in
    let el = at_some k h name c.args.elem.0 c.args.before rest names w g.node d c.in_ok-size.size both.1 c.if-size-eq0.false in
    elements_end k h name c.args.elem.0 c.args.before rest names w g.node c.in_ok-size.size d.later el c.count.new.progress both.0
    (λ some ks there others tr more nm.
    c.in_err-walk_level.ensures.ends k u (from_root k c.args.at) g.node ks there others tr more nm
    (err_as c.from_residual-in_err-walk_level.result c.in_err-walk_level.field-0.0 halts.Here c.from_residual-in_err-walk_level.ensures.1 e))

pub returns-clause-goes : goal.returns-clause-goes
returns-clause-goes c k u rest names g =
    let h = homes.Root c.args.at in
    let name = c.args.root.name.now in
    let w = c.args.walker.now in
    let d = head k h name c.args.elem.0 c.args.before rest names w g in
    let first = c.in_ok-gap.ensures.goes k u 0 (record { home = h; node = 0; kind = Chunk d.size } ∷ d.later) d.tracing in
    let both = c.in_ok-size.ensures.goes k u 0 (at_home k h name g.own_path c.args.root.of _ refl refl refl c.new-below.ensures.items (from_root k c.args.at)) (Chunk d.size) tt tt d.later first in
    let el = at_some k h name c.args.elem.0 c.args.before rest names w g.node d c.in_ok-size.size both.1 c.if-size-eq0.false in
    elements_go k h name c.args.elem.0 c.args.before rest names w g.node c.in_ok-size.size d.later el c.count.new.progress both.0 c.walk_level.new.walker
    (λ some ks there others tr more nm. c.in_ok-walk_level.ensures.goes k u (from_root k c.args.at) g.node ks there others tr more nm)

pub walk_level-requires : goal.walk_level-requires
walk_level-requires c = record { some = at_first c.args.elem.0 c.in_ok-size.size c.if-size-eq0.false }

pub returns-then-size-eq0-clause-taken : goal.returns-then-size-eq0-clause-taken
returns-then-size-eq0-clause-taken c =
    let none : 0 * least_items c.args.ground.now.interface.now.types c.args.elem.0 ≡ 0 = omega arith in
    omega (arith, none, c.in_ok-gap.ensures.later, c.in_ok-size.ensures.next)

pub returns-clause-taken : goal.returns-clause-taken
returns-clause-taken c =
    let f = least_items c.args.ground.now.interface.now.types in
    let e = elements_least f c.args.elem.0 c.in_ok-size.size in
    omega (arith, e, c.in_ok-gap.ensures.later, c.in_ok-size.ensures.next, c.in_ok-walk_level.ensures.taken)
