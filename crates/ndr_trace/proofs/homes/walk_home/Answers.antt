use Rattle.std.proofs.Common.{◌≡◌, ◌+◌, rules, ◌∷◌, ◌++◌, [], refl, sym, ap, length, subst, arith}
use Rattle.nd_value.specs.Tree.{more, none}
use Rattle.text_grammar.specs.Paths.{home_value}
use Rattle.ndr_trace_value.specs.declared.progress.Halt.TheVariants as halts
use Rattle.ndr_trace_value.specs.declared.cells.Cells.{Cells}
use Rattle.ndr_trace_value.specs.Naming.{HasNamed, IsNaming, names_in}
use Rattle.ndr_trace_value.specs.Walking.{values_due}
use Rattle.ndr_trace.proofs.HomeThere.{home_there}
use Rattle.ndr_trace.proofs.HomeWalks.{turned_round, value_names}
use Rattle.ndr_trace_value.proofs.Passing.{err_as}
use Rattle.ndr_trace.proofs.homes.walk_home.Goals as goal

pub walk_level-requires : goal.walk_level-requires
walk_level-requires c = record { some = omega arith }

pub returns-in_err-walk_level-clause-ends : goal.returns-in_err-walk_level-clause-ends
returns-in_err-walk_level-clause-ends c k u a from rest names tr nm e =
    let front = c.in_ok-max.ensures.goes k u a from rest tr in
    let naming =
    subst (λ z. IsNaming k z (names_in (values_due k c.args.home (c.args.of.0 ∷ []) 0 (more (home_value k.graph c.args.home) none)) ++ names)) (sym c.in_ok-max.ensures.cells)
    (subst (λ ns. IsNaming k c.args.walker.now.cells (ns ++ names)) (value_names k c.args.home c.args.of.0) nm) in
    c.in_err-walk_level.ensures.ends k u from 0 (more (home_value k.graph c.args.home) none)
    (home_there k c.args.home c.args.name c.args.of.0 c.in_ok-max.max a front.1) rest front.0 names naming
    (err_as c.from_residual-in_err-walk_level.result c.in_err-walk_level.field-0.0 halts.Here c.from_residual-in_err-walk_level.ensures.1 e)

pub returns-clause-goes : goal.returns-clause-goes
returns-clause-goes c k u a from rest names tr nm =
    let front = c.in_ok-max.ensures.goes k u a from rest tr in
    let due = values_due k c.args.home (c.args.of.0 ∷ []) 0 (more (home_value k.graph c.args.home) none) in
    let naming =
    subst (λ z. IsNaming k z (names_in due ++ names)) (sym c.in_ok-max.ensures.cells)
    (subst (λ ns. IsNaming k c.args.walker.now.cells (ns ++ names)) (value_names k c.args.home c.args.of.0) nm) in
    let walked =
    c.in_ok-walk_level.ensures.goes k u from 0 (more (home_value k.graph c.args.home) none)
    (home_there k c.args.home c.args.name c.args.of.0 c.in_ok-max.max a front.1) rest front.0 names naming in
    let before : c.len-before.result ≡ length c.args.walker.now.cells.pending.items = search rules in (
      walked.0,
      turned_round k c.args.home c.args.of.0 c.args.walker.now.cells c.walk_level.new.walker.cells _ names
          (subst (λ z. HasNamed k z c.walk_level.new.walker.cells due names) c.in_ok-max.ensures.cells walked.1) refl refl refl c.len-before.result before c.turn.ensures.turned,
    )

pub returns-clause-paid : goal.returns-clause-paid
returns-clause-paid c =
    let front = c.in_ok-max.ensures.later in
    let same : length c.front.new.walker.cells.pending.items ≡ length c.args.walker.now.cells.pending.items = ap (λ (a : Cells). length a.pending.items) c.in_ok-max.ensures.cells in
    let (later, paid) = c.in_ok-walk_level.ensures.paid in
    let turned = c.turn.ensures.same in
    (omega (arith, front, later), omega (arith, front, same, later, paid, turned))
