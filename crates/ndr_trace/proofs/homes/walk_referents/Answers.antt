use Rattle.std.proofs.Common.{◌≡◌, ◌-◌, ◌<◌, ◌^◌, ◌∙◌, ◌∷◌, rules, [], length, length-append, ap, arith, refl}
use Rattle.ndr_trace_value.specs.declared.progress.Halt.TheVariants as halts
use Rattle.ndr_trace_value.proofs.Passing.{err_as}
use Rattle.ndr_trace.proofs.Referents.{emptied, taken}
use Rattle.ndr_trace.proofs.homes.walk_referents.Goals as goal

pub loop-next-init : goal.loop-next-init
loop-next-init c k u s due rest names a = a

pub loop-next-smaller : goal.loop-next-smaller
loop-next-smaller c =
    let (later, paid) = c.in_ok-walk_referent.ensures.paid in
    let one_less = ap (λ ps. length ps) c.in-Some.ensures.items ∙ length-append c.pop.new.self.items (c.in-Some.next ∷ []) in
    omega (arith, c.has_64_bits.ensures, later, paid, one_less)

pub loop-next-preserved : goal.loop-next-preserved
loop-next-preserved c k u s due rest names a =
    c.in_ok-walk_referent.ensures.goes k u s due rest names
    (taken k due rest names c.loop-next.walker _ c.in-Some.next (c.loop-next.invariant k u s due rest names a) c.in-Some.ensures.items refl refl refl refl)

pub returns-clause-goes : goal.returns-clause-goes
returns-clause-goes c k u s due rest names a =
    let before : c.loop-next.walker.cells.pending.items ≡ [] = search rules in
    let after : c.pop.new.self.items ≡ [] = search rules in
    (after, emptied k due rest names c.loop-next.walker _ (c.loop-next.invariant k u s due rest names a) before after refl refl refl refl)

pub returns-in_err-walk_referent-clause-ends : goal.returns-in_err-walk_referent-clause-ends
returns-in_err-walk_referent-clause-ends c k u s due rest names a e =
    c.in_err-walk_referent.ensures.ends k u s due rest names
    (taken k due rest names c.loop-next.walker _ c.in-Some.next (c.loop-next.invariant k u s due rest names a) c.in-Some.ensures.items refl refl refl refl)
    (err_as c.from_residual.result c.in_err-walk_referent.field-0.0 halts.Here c.from_residual.ensures.1 e)
