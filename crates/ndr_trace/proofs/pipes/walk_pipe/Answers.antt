use Rattle.std.proofs.Common.{refl, ◌≡◌, ◌≤◌, ◌∙◌, length, option_map, sym, ap, subst, arith, le_refl}
use Rattle.nd_types.specs.Table.{type_at}
use Rattle.nd_value.specs.declared.item.Home.TheVariants as homes
use Rattle.nd_value.specs.Setting.{root_at}
use Rattle.ndr_explain.specs.Cursors.{pipe_element}
use Rattle.ndr_explain.specs.declared.names.HomeName.TheVariants as named
use Rattle.ndr_trace_value.specs.declared.progress.Halt.TheVariants as halts
use Rattle.ndr_trace.specs.Homes.{HasHome}
use Rattle.ndr_trace_value.proofs.LevelWalk.{ended_there, ready_after}
use Rattle.ndr_trace_value.proofs.Passing.{err_as}
use Rattle.ndr_trace_value.specs.Left.{least_items}
use Rattle.ndr_trace_value.proofs.Left.{element_some}
use Rattle.ndr_trace.proofs.ChunkWalk.{elements_taken, within_log}
use Rattle.ndr_trace.proofs.PartialHomes.{root_has_home}
use Rattle.ndr_trace.proofs.PipeStart.{next_chunk, no_pipe, pipe_end, pipe_start}
use Rattle.ndr_trace.proofs.pipes.walk_pipe.Goals as goal

pub returns-in_err-at_end-clause-ends : goal.returns-in_err-at_end-clause-ends
returns-in_err-at_end-clause-ends c k u part root cut cuts rest names tr nm e =
    ended_there k c.args.ground.now u c.args.walker.now.progress c.args.walker.now.progress _ refl tr
    (c.in_err-at_end.ensures.ends (err_as c.from_residual.result c.in_err-at_end.field-0.0 halts.Here c.from_residual.ensures.1 e))

pub returns-in_default-clause-goes : goal.returns-in_default-clause-goes
returns-in_default-clause-goes c k u part root cut cuts rest names tr nm =
    let ready = ready_after k c.args.ground.now u c.args.walker.now.progress c.args.walker.now.progress refl c.in_ok-at_end.ensures.ready in
    no_pipe k c.args.at (type_at k.setting.table c.args.root.of.0)
    (ap (λ ts. pipe_element (type_at ts c.args.root.of.0)) (sym u.table) ∙ sym c.pipe_elem.ensures ∙ ap (option_map (λ t. t.0)) c.in_default.is)
    c.args.walker.now.progress ready cut (root_at k.graph c.args.at) rest tr

pub loop-chunk-init : goal.loop-chunk-init
loop-chunk-init c = record {
  many = le_refl _;
  small = omega arith;
  taken = omega arith;
  here = λ k u part root cut cuts rest names tr nm.
      let ready = ready_after k c.args.ground.now u c.args.walker.now.progress c.args.walker.now.progress refl c.in_ok-at_end.ensures.ready in
      let has = root_has_home k part c.args.at root.its (named.Word c.args.root.name) root.there root.name in
      pipe_start k c.args.at (named.Word c.args.root.name) c.args.root.of.0 c.in-Some.elem.0 (subst (HasHome k (homes.Root c.args.at) (named.Word c.args.root.name)) root.of has)
      (ap (λ ts. pipe_element (type_at ts c.args.root.of.0)) (sym u.table) ∙ sym c.pipe_elem.ensures ∙ ap (option_map (λ t. t.0)) c.in-Some.is) c.args.walker.now ready
      cut cuts rest names tr nm;
}

pub returns-in_err-size-clause-ends : goal.returns-in_err-size-clause-ends
returns-in_err-size-clause-ends c k u part root cut cuts rest names tr nm e =
    let g = c.loop-chunk.invariant.here k u part root cut cuts rest names tr nm in
    c.in_err-size.ensures.ends k u rest names g (err_as c.from_residual-in_err-size.result c.in_err-size.field-0.0 halts.Here c.from_residual-in_err-size.ensures.1 e)

pub returns-then-size-eq0-clause-goes : goal.returns-then-size-eq0-clause-goes
returns-then-size-eq0-clause-goes c k u part root cut cuts rest names tr nm =
    let g = c.loop-chunk.invariant.here k u part root cut cuts rest names tr nm in
    pipe_end k (homes.Root c.args.at) c.args.root.name.now c.in-Some.elem.0 c.loop-chunk.before rest names c.walk_chunk.new.walker c.in_ok-size.size
    (c.in_ok-size.ensures.goes k u rest names g) c.if-size-eq0.true

-- the walk took as many items as there are elements, and the log has not so many
pub returns-in_default-checked_add-clause-ends : goal.returns-in_default-checked_add-clause-ends
returns-in_default-checked_add-clause-ends c k u part root cut cuts rest names tr nm e =
    let i = c.args.ground.now.interface.now in
    let some = element_some i.types i.operations i.legal c.args.root.of.0 c.in-Some.elem.0 (sym c.pipe_elem.ensures ∙ ap (option_map (λ t. t.0)) c.in-Some.is) in
    let taken = elements_taken c.in_ok-size.size (least_items i.types c.in-Some.elem.0) c.loop-chunk.walker.progress.next c.walk_chunk.new.walker.progress.next some c.in_ok-size.ensures.taken in
    let so_far = c.loop-chunk.invariant.taken in
    let g = c.loop-chunk.invariant.here k u part root cut cuts rest names tr nm in
    let within = within_log k (homes.Root c.args.at) c.args.root.name.now c.in-Some.elem.0 c.loop-chunk.before rest names c.walk_chunk.new.walker c.in_ok-size.size
    (c.in_ok-size.ensures.goes k u rest names g) in
    let same : length k.log ≡ length c.args.ground.now.items.now.items = ap (λ xs. length xs) (sym u.items) in
    absurd (omega (arith, c.in_default-checked_add.ensures, taken, so_far, within, same, u.few))

pub loop-chunk-preserved : goal.loop-chunk-preserved
loop-chunk-preserved c =
    let i = c.args.ground.now.interface.now in
    let some = element_some i.types i.operations i.legal c.args.root.of.0 c.in-Some.elem.0 (sym c.pipe_elem.ensures ∙ ap (option_map (λ t. t.0)) c.in-Some.is) in
    let taken = elements_taken c.in_ok-size.size (least_items i.types c.in-Some.elem.0) c.loop-chunk.walker.progress.next c.walk_chunk.new.walker.progress.next some c.in_ok-size.ensures.taken in
    let many = c.loop-chunk.invariant.many in
    let so_far = c.loop-chunk.invariant.taken in
    let sum = c.in-Some-checked_add.ensures.1 in
    record {
      many = omega (arith, many, sum, c.if-size-eq0.false);
      small = (let room = c.in-Some-checked_add.ensures.0 in omega (arith, room, sum));
      taken = omega (arith, so_far, sum, taken);
      here = λ k u part root cut cuts rest names tr nm.
          let g = c.loop-chunk.invariant.here k u part root cut cuts rest names tr nm in
          next_chunk k (homes.Root c.args.at) c.args.root.name.now c.in-Some.elem.0 c.loop-chunk.before rest names c.walk_chunk.new.walker c.in_ok-size.size
          c.in-Some-checked_add.next (c.in_ok-size.ensures.goes k u rest names g) c.if-size-eq0.false c.in-Some-checked_add.ensures.1;
    }

pub unreachable-requires : goal.unreachable-requires
unreachable-requires c =
    let many : c.loop-chunk._chunk ≤ c.loop-chunk.before = c.loop-chunk.invariant.many in
    let few = c.loop-chunk.invariant.small in
    omega (arith, many, few, c.loop-chunk-test.false)
