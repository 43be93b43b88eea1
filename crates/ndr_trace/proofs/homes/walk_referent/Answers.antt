use Rattle.std.proofs.Common.{◌≡◌, rules, true, false, length, refl, sym, ap, arith, le_refl, vec_items, ◌∙◌}
use Rattle.ndr_trace_value.specs.declared.progress.Halt.TheVariants as halts
use Rattle.ndr_trace_value.specs.declared.nodes.Walker.{Walker}
use Rattle.ndr_trace_value.proofs.Passing.{err_as}
use Rattle.ndr_trace.proofs.Referents.{entering, referent_from, skipped}
use Rattle.ndr_trace.proofs.homes.walk_referent.Goals as goal

pub returns-then-not-first-clause-goes : goal.returns-then-not-first-clause-goes
returns-then-not-first-clause-goes c k u s due rest names n =
    let no : c.in_ok-first.first ≡ false = search rules in
    skipped k due rest names c.args.walker.now _ c.args.next n (sym no ∙ c.in_ok-first.ensures.first) c.in_ok-first.ensures.stands c.in_ok-first.ensures.others c.in_ok-first.ensures.count
    c.in_ok-first.ensures.numbers c.in_ok-first.ensures.pending refl

pub returns-in_err-walk_home-clause-ends : goal.returns-in_err-walk_home-clause-ends
returns-in_err-walk_home-clause-ends c k u s due rest names n e =
    let yes : c.in_ok-first.first ≡ true = search rules in
    let v : Walker = record { progress = c.args.walker.now.progress; cells = c.come_to.new.cells; search = c.args.walker.now.search } in
    let at_it =
    entering k due rest names c.args.walker.now v c.args.next s n (sym yes ∙ c.in_ok-first.ensures.first) c.in_ok-first.ensures.stands c.in_ok-first.ensures.others
    c.in_ok-first.ensures.count c.in_ok-first.ensures.numbers c.in_ok-first.ensures.pending refl in
    c.in_err-walk_home.ensures.ends k u at_it.its (referent_from k due rest names c.args.walker.now c.args.next s n) at_it.later at_it.after_names at_it.tracing at_it.naming
    (err_as c.from_residual-in_err-walk_home.result c.in_err-walk_home.field-0.0 halts.Here c.from_residual-in_err-walk_home.ensures.1 e)

pub returns-clause-goes : goal.returns-clause-goes
returns-clause-goes c k u s due rest names n =
    let yes : c.in_ok-first.first ≡ true = search rules in
    let v : Walker = record { progress = c.args.walker.now.progress; cells = c.come_to.new.cells; search = c.args.walker.now.search } in
    let at_it =
    entering k due rest names c.args.walker.now v c.args.next s n (sym yes ∙ c.in_ok-first.ensures.first) c.in_ok-first.ensures.stands c.in_ok-first.ensures.others
    c.in_ok-first.ensures.count c.in_ok-first.ensures.numbers c.in_ok-first.ensures.pending refl in
    let walked = c.in_ok-walk_home.ensures.goes k u at_it.its (referent_from k due rest names c.args.walker.now c.args.next s n) at_it.later at_it.after_names at_it.tracing at_it.naming in
    at_it.after c.walk_home.new.walker walked.0 walked.1

pub returns-then-not-first-clause-paid : goal.returns-then-not-first-clause-paid
returns-then-not-first-clause-paid c =
    let same : length c.come_to.new.cells.pending.items ≡ length c.args.walker.now.cells.pending.items = ap (λ ps. length ps) (ap vec_items c.in_ok-first.ensures.pending) in
    (le_refl _, omega (arith, same))

pub returns-clause-paid : goal.returns-clause-paid
returns-clause-paid c =
    let same : length c.come_to.new.cells.pending.items ≡ length c.args.walker.now.cells.pending.items = ap (λ ps. length ps) (ap vec_items c.in_ok-first.ensures.pending) in
    let (later, paid) = c.in_ok-walk_home.ensures.paid in
    (later, omega (arith, same, paid))
