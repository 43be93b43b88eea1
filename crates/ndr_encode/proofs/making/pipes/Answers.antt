use Rattle.std.proofs.Common.{rules, ◌≡◌, ◌<◌, ◌+◌, length, ap, sym, ◌∙◌, subst, arith}
use Rattle.nd_value.specs.declared.item.Home.TheVariants as home
use Rattle.ndr_code.specs.declared.lists.PlanLine.TheVariants as line
use Rattle.ndr_encode.specs.Search.{IsTaken, CanTake}
use Rattle.ndr_encode.proofs.MadeLines.{line_read}
use Rattle.ndr_encode.proofs.MadePipes.{pipes_begin, pipes_taken, line_within, no_checks_here, can_take, pipe_went}
use Rattle.ndr_encode.proofs.making.pipes.Goals as goal

pub loop-pipe-init : goal.loop-pipe-init
loop-pipe-init c = record { so_far = pipes_begin c.args.plan.now c.args.chunk c.args.fit.now c.requires.tied c.args.first c.args.next c.args.search.now c.requires.begins; here = omega arith }

pub bounds-lines-line : goal.bounds-lines-line
bounds-lines-line c =
    (let within =
    line_within c.args.plan.now c.args.chunk c.args.fit.now c.requires.tied c.args.first c.args.next c.args.search.now c.requires.begins c.loop-pipe.pipe c.loop-pipe.line c.loop-pipe.search
    c.loop-pipe.invariant.so_far c.loop-pipe.invariant.here
    (let below = c.loop-pipe-test.true in let many = c.root_count-pipe-end.ensures ∙ ap (λ g. length g.roots) c.flat.ensures.graph in omega (arith, below, many)) in
    subst (λ ls. c.loop-pipe.line < length ls) (sym c.as_slice-lines.ensures) within)

pub offset_bounds-lines-line : goal.offset_bounds-lines-line
offset_bounds-lines-line c =
    let within : c.loop-pipe.line < length c.as_slice-lines.result.now =
    (let within =
    line_within c.args.plan.now c.args.chunk c.args.fit.now c.requires.tied c.args.first c.args.next c.args.search.now c.requires.begins c.loop-pipe.pipe c.loop-pipe.line c.loop-pipe.search
    c.loop-pipe.invariant.so_far c.loop-pipe.invariant.here
    (let below = c.loop-pipe-test.true in let many = c.root_count-pipe-end.ensures ∙ ap (λ g. length g.roots) c.flat.ensures.graph in omega (arith, below, many)) in
    subst (λ ls. c.loop-pipe.line < length ls) (sym c.as_slice-lines.ensures) within) in
    search rules

pub overflow_add-line : goal.overflow_add-line
overflow_add-line c =
    let within : c.loop-pipe.line < length c.as_slice-lines.result.now =
    (let within =
    line_within c.args.plan.now c.args.chunk c.args.fit.now c.requires.tied c.args.first c.args.next c.args.search.now c.requires.begins c.loop-pipe.pipe c.loop-pipe.line c.loop-pipe.search
    c.loop-pipe.invariant.so_far c.loop-pipe.invariant.here
    (let below = c.loop-pipe-test.true in let many = c.root_count-pipe-end.ensures ∙ ap (λ g. length g.roots) c.flat.ensures.graph in omega (arith, below, many)) in
    subst (λ ls. c.loop-pipe.line < length ls) (sym c.as_slice-lines.ensures) within) in
    search rules

pub unreachable-requires : goal.unreachable-requires
unreachable-requires c =
    no_checks_here c.args.plan.now c.args.chunk c.args.fit.now c.requires.tied c.args.first c.args.next c.args.search.now c.requires.begins c.loop-pipe.pipe c.loop-pipe.line c.loop-pipe.search
    c.loop-pipe.invariant.so_far c.loop-pipe.invariant.here
    (let below = c.loop-pipe-test.true in let many = c.root_count-pipe-end.ensures ∙ ap (λ g. length g.roots) c.flat.ensures.graph in
    omega (arith, below, many)) c.in-Checks.op c.in-Checks.side c.in-Checks.at
    (line_read c.args.plan.now c.as_slice-lines.result.now c.loop-pipe.line c.index-lines-line.result (line.Checks c.in-Checks.op c.in-Checks.side c.in-Checks.at) c.as_slice-lines.ensures
    (let within =
    line_within c.args.plan.now c.args.chunk c.args.fit.now c.requires.tied c.args.first c.args.next c.args.search.now c.requires.begins c.loop-pipe.pipe c.loop-pipe.line c.loop-pipe.search
    c.loop-pipe.invariant.so_far c.loop-pipe.invariant.here
    (let below = c.loop-pipe-test.true in let many = c.root_count-pipe-end.ensures ∙ ap (λ g. length g.roots) c.flat.ensures.graph in omega (arith, below, many)) in
    subst (λ ls. c.loop-pipe.line < length ls) (sym c.as_slice-lines.ensures) within) c.index-lines-line.is c.in-Checks.is)

pub take_turn-requires : goal.take_turn-requires
take_turn-requires c =
    subst (λ cs. CanTake cs c.args.chunk c.args.fit.now.graph (record { home = home.Root c.loop-pipe.pipe; start = c.in-Entry.at }) c.loop-pipe.search) (sym c.as_slice-code.ensures)
    (can_take c.args.plan.now c.args.chunk c.args.fit.now c.requires.tied c.args.first c.args.next c.args.search.now c.requires.begins c.loop-pipe.pipe c.loop-pipe.line c.loop-pipe.search
    c.loop-pipe.invariant.so_far c.loop-pipe.invariant.here
    (let below = c.loop-pipe-test.true in let many = c.root_count-pipe-end.ensures ∙ ap (λ g. length g.roots) c.flat.ensures.graph in
    omega (arith, below, many)) c.in-Entry.op c.in-Entry.side c.in-Entry.name c.in-Entry.at
    (line_read c.args.plan.now c.as_slice-lines.result.now c.loop-pipe.line c.index-lines-line.result
    (line.Entry c.in-Entry.op c.in-Entry.side c.in-Entry.name c.in-Entry.at) c.as_slice-lines.ensures
    (let within =
    line_within c.args.plan.now c.args.chunk c.args.fit.now c.requires.tied c.args.first c.args.next c.args.search.now c.requires.begins c.loop-pipe.pipe c.loop-pipe.line c.loop-pipe.search
    c.loop-pipe.invariant.so_far c.loop-pipe.invariant.here
    (let below = c.loop-pipe-test.true in let many = c.root_count-pipe-end.ensures ∙ ap (λ g. length g.roots) c.flat.ensures.graph in omega (arith, below, many)) in
    subst (λ ls. c.loop-pipe.line < length ls) (sym c.as_slice-lines.ensures) within) c.index-lines-line.is c.in-Entry.is))

pub loop-pipe-preserved : goal.loop-pipe-preserved
loop-pipe-preserved c =
    let here : c.loop-pipe.line + c.args.next ≡ c.args.first + c.loop-pipe.pipe = c.loop-pipe.invariant.here in
    record {
      so_far =
          pipe_went c.args.plan.now c.args.chunk c.args.fit.now c.requires.tied c.args.first c.args.next c.args.search.now c.requires.begins c.loop-pipe.pipe c.loop-pipe.line c.loop-pipe.search
          c.loop-pipe.invariant.so_far c.loop-pipe.invariant.here
          (let below = c.loop-pipe-test.true in let many = c.root_count-pipe-end.ensures ∙ ap (λ g. length g.roots) c.flat.ensures.graph in
          omega (arith, below, many)) c.in-Entry.op c.in-Entry.side c.in-Entry.name c.in-Entry.at
          (line_read c.args.plan.now c.as_slice-lines.result.now c.loop-pipe.line c.index-lines-line.result
          (line.Entry c.in-Entry.op c.in-Entry.side c.in-Entry.name c.in-Entry.at) c.as_slice-lines.ensures
          (let within =
          line_within c.args.plan.now c.args.chunk c.args.fit.now c.requires.tied c.args.first c.args.next c.args.search.now c.requires.begins c.loop-pipe.pipe c.loop-pipe.line c.loop-pipe.search
          c.loop-pipe.invariant.so_far c.loop-pipe.invariant.here
          (let below = c.loop-pipe-test.true in let many = c.root_count-pipe-end.ensures ∙ ap (λ g. length g.roots) c.flat.ensures.graph in omega (arith, below, many)) in
          subst (λ ls. c.loop-pipe.line < length ls) (sym c.as_slice-lines.ensures) within) c.index-lines-line.is c.in-Entry.is) c.take_turn.new.search
          (subst (λ cs. IsTaken cs c.args.chunk c.args.fit.now.graph
          (record { home = home.Root c.loop-pipe.pipe; start = c.in-Entry.at }) c.loop-pipe.search c.take_turn.new.search) c.as_slice-code.ensures
          c.in_ok-take_turn-in-Entry.ensures);
      here = omega (arith, here);
    }

pub returns : goal.returns
returns c =
    record {
      taken =
          pipes_taken c.args.plan.now c.args.chunk c.args.fit.now c.requires.tied c.args.first c.args.next c.args.search.now c.requires.begins c.loop-pipe.pipe c.loop-pipe.line c.loop-pipe.search
          c.loop-pipe.invariant.so_far c.loop-pipe.invariant.here
          (let past = c.loop-pipe-test.false in let many = c.root_count-pipe-end.ensures ∙ ap (λ g. length g.roots) c.flat.ensures.graph in omega (arith, past, many));
    }
