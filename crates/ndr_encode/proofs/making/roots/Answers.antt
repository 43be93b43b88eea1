use Rattle.std.proofs.Common.{◌≡◌, ◌≤◌, ◌<◌, ◌+◌, ◌^◌, length, ap, sym, ◌∙◌, subst, arith}
use Rattle.std.specs.List.{slice_get}
use Rattle.std.proofs.Math.Facts.{Fits-of_lt}
use mir.Syntax.{w32}
use Rattle.nd_types.specs.declared.interface.Interface.{Interface}
use Rattle.ndr_code.specs.declared.lists.PlanLine.TheVariants as line
use Rattle.ndr_encode.specs.Search.{CanSearch, StillSearched, CanRoot, RootTaken}
use Rattle.ndr_encode.proofs.MadeLines.{line_read}
use Rattle.ndr_encode.proofs.MadeRoots.{roots_begin, more_lines, can_root, few_roots, can_search, root_went, roots_taken, roots_counted}
use Rattle.ndr_encode.proofs.making.roots.Goals as goal

pub loop-line-init : goal.loop-line-init
loop-line-init c = record { so_far = roots_begin c.args.plan.now c.args.chunk c.args.fit.now c.args.search.now; here = omega arith }

pub returns-in-Checks-clause-taken : goal.returns-in-Checks-clause-taken
returns-in-Checks-clause-taken c =
    roots_taken c.args.plan.now c.args.chunk c.args.fit.now c.requires.tied c.args.first c.args.search.now c.requires.begins c.loop-line.next c.loop-line.line c.loop-line.search
    c.loop-line.invariant.so_far c.loop-line.invariant.here c.in-Checks.op c.in-Checks.side c.in-Checks.at
    (line_read c.args.plan.now c.as_slice-lines.result.now c.loop-line.line c.index-lines-line.result
    (line.Checks c.in-Checks.op c.in-Checks.side c.in-Checks.at) c.as_slice-lines.ensures c.loop-line-test.true c.index-lines-line.is c.in-Checks.is)

pub returns-in-Checks-clause-count : goal.returns-in-Checks-clause-count
returns-in-Checks-clause-count c o there =
    roots_counted c.args.plan.now c.args.chunk c.args.fit.now c.requires.tied c.args.first c.args.search.now c.requires.begins c.loop-line.next c.loop-line.line c.loop-line.search
    c.loop-line.invariant.so_far c.loop-line.invariant.here c.in-Checks.op c.in-Checks.side c.in-Checks.at
    (line_read c.args.plan.now c.as_slice-lines.result.now c.loop-line.line c.index-lines-line.result
    (line.Checks c.in-Checks.op c.in-Checks.side c.in-Checks.at) c.as_slice-lines.ensures c.loop-line-test.true c.index-lines-line.is c.in-Checks.is) o
    (ap (λ (i : Interface). slice_get i.operations c.args.fit.now.op) (sym c.requires.tied) ∙ there)

pub root-requires : goal.root-requires
root-requires c =
    subst (λ cs. CanRoot cs c.args.chunk c.args.fit.now.graph c.loop-line.next (slice_get cs c.in-Entry.at) c.loop-line.search) (sym c.as_slice-code.ensures)
    (can_root c.args.plan.now c.args.chunk c.args.fit.now c.requires.tied c.args.first c.args.search.now c.requires.begins c.loop-line.next c.loop-line.line c.loop-line.search
    c.loop-line.invariant.so_far c.loop-line.invariant.here c.in-Entry.op c.in-Entry.side c.in-Entry.name c.in-Entry.at
    (line_read c.args.plan.now c.as_slice-lines.result.now c.loop-line.line c.index-lines-line.result
    (line.Entry c.in-Entry.op c.in-Entry.side c.in-Entry.name c.in-Entry.at) c.as_slice-lines.ensures c.loop-line-test.true c.index-lines-line.is c.in-Entry.is))

pub overflow_add-next : goal.overflow_add-next
overflow_add-next c = let few : c.loop-line.next + 1 < 2 ^ 32 =
    few_roots c.args.plan.now c.args.chunk c.args.fit.now c.requires.tied c.args.first c.args.search.now c.requires.begins c.loop-line.next c.loop-line.line c.loop-line.search
    c.loop-line.invariant.so_far c.loop-line.invariant.here c.in-Entry.op c.in-Entry.side c.in-Entry.name c.in-Entry.at
    (line_read c.args.plan.now c.as_slice-lines.result.now c.loop-line.line c.index-lines-line.result
    (line.Entry c.in-Entry.op c.in-Entry.side c.in-Entry.name c.in-Entry.at) c.as_slice-lines.ensures c.loop-line-test.true c.index-lines-line.is c.in-Entry.is) in Fits-of_lt {w = w32} few

pub referents-requires : goal.referents-requires
referents-requires c =
    subst (λ cs. CanSearch cs c.args.chunk c.args.fit.now.graph c.root.new.search) (sym c.as_slice-code.ensures)
    (can_search c.args.plan.now c.args.chunk c.args.fit.now c.requires.tied c.args.first c.args.search.now c.requires.begins c.loop-line.next c.loop-line.line c.loop-line.search
    c.loop-line.invariant.so_far c.loop-line.invariant.here c.in-Entry.op c.in-Entry.side c.in-Entry.name c.in-Entry.at
    (line_read c.args.plan.now c.as_slice-lines.result.now c.loop-line.line c.index-lines-line.result
    (line.Entry c.in-Entry.op c.in-Entry.side c.in-Entry.name c.in-Entry.at) c.as_slice-lines.ensures c.loop-line-test.true c.index-lines-line.is c.in-Entry.is) c.root.new.search
    (subst (λ cs. RootTaken cs c.args.chunk c.args.fit.now.graph c.loop-line.next
    (slice_get cs c.in-Entry.at) c.loop-line.search c.root.new.search) c.as_slice-code.ensures c.in_ok-root-in-Entry.ensures))

pub loop-line-preserved : goal.loop-line-preserved
loop-line-preserved c =
    let here : c.loop-line.line ≡ c.args.first + c.loop-line.next = c.loop-line.invariant.here in
    record {
      so_far =
          root_went c.args.plan.now c.args.chunk c.args.fit.now c.requires.tied c.args.first c.args.search.now c.requires.begins c.loop-line.next c.loop-line.line c.loop-line.search
          c.loop-line.invariant.so_far c.loop-line.invariant.here c.in-Entry.op c.in-Entry.side c.in-Entry.name c.in-Entry.at
          (line_read c.args.plan.now c.as_slice-lines.result.now c.loop-line.line c.index-lines-line.result
          (line.Entry c.in-Entry.op c.in-Entry.side c.in-Entry.name c.in-Entry.at) c.as_slice-lines.ensures c.loop-line-test.true c.index-lines-line.is c.in-Entry.is) c.root.new.search
          (subst (λ cs. RootTaken cs c.args.chunk c.args.fit.now.graph c.loop-line.next
          (slice_get cs c.in-Entry.at) c.loop-line.search c.root.new.search) c.as_slice-code.ensures c.in_ok-root-in-Entry.ensures) c.referents.new.search
          (subst (λ cs. StillSearched cs c.args.chunk c.args.fit.now.graph c.root.new.search c.referents.new.search) c.as_slice-code.ensures c.in_ok-referents-in-Entry.ensures.searched)
          c.in_ok-referents-in-Entry.ensures.over;
      here = omega (arith, here);
    }

pub unreachable-requires : goal.unreachable-requires
unreachable-requires c =
    more_lines c.args.plan.now c.args.chunk c.args.fit.now c.requires.tied c.args.first c.args.search.now c.requires.begins c.loop-line.next c.loop-line.line c.loop-line.search
    c.loop-line.invariant.so_far c.loop-line.invariant.here (subst (λ ls. length ls ≤ c.loop-line.line) c.as_slice-lines.ensures (let past = c.loop-line-test.false in omega (arith, past)))
