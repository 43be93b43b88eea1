use Rattle.std.proofs.Common.{◌≡◌, ◌≤◌, ◌^◌, ◌+◌, ℤ, pos, ◌+ℤ◌, true, length, option_map, Some, sym, ap, subst, ◌∙◌, rules, arith}
use mir.Val.{SFits}
use mir.Syntax.{w128}
use Rattle.idl_scope.specs.declared.meaning.Meaning.TheVariants as meaning
use Rattle.idl_scope.specs.Known.{Known, next_meaning, next_of, found}
use Rattle.idl_scope.specs.Small.{is_below}
use Rattle.idl_scope.proofs.Small.{found_below, next_below, sum_fits, sum_is}
use Rattle.idl_scope.proofs.known.NameTables.next_meaning.Goals as goal

pub overflow_add-result : goal.overflow_add-result
overflow_add-result c =
    let z = c.in-Some-Number.number in
    let fits : SFits w128 z = search rules in
    let e : c.get.result ≡ Some (meaning.Number z) = search rules in
    let many = length c.self.inside.places in
    let few : many ≤ 2 ^ 64 = omega (arith, c.len-count.ensures) in
    sum_fits many z few (found_below many c.as_slice.result.now c.self.inside.meanings z c.self.invariant (sym c.get.ensures ∙ e)) fits

pub returns-in-Some-Number-clause-next : goal.returns-in-Some-Number-clause-next
returns-in-Some-Number-clause-next c =
    let z = c.in-Some-Number.number in
    let fits : SFits w128 z = search rules in
    let e : c.get.result ≡ Some (meaning.Number z) = search rules in
    let many = length c.self.inside.places in
    let few : many ≤ 2 ^ 64 = omega (arith, c.len-count.ensures) in
    let here = sym c.get.ensures ∙ e in
    let known : found c.in-Some.previous.now.octets c.args.self.now.meanings ≡ Some (meaning.Number z) =
    ap (λ n. found n c.args.self.now.meanings) (sym c.as_slice.ensures) ∙ ap (λ (k : Known). found c.as_slice.result.now k.meanings) (sym c.self.view_is) ∙ here in
    ap (λ x. meaning.Number x) (sum_is many z few (found_below many c.as_slice.result.now c.self.inside.meanings z c.self.invariant here) fits)
    ∙ sym (ap (λ o. next_meaning c.args.self.now (option_map (λ s. s.now) o)) c.in-Some.is ∙ ap next_of known)

pub returns-in-Some-Number-clause-small : goal.returns-in-Some-Number-clause-small
returns-in-Some-Number-clause-small c =
    let z = c.in-Some-Number.number in
    let fits : SFits w128 z = search rules in
    let e : c.get.result ≡ Some (meaning.Number z) = search rules in
    let many = length c.self.inside.places in
    let few : many ≤ 2 ^ 64 = omega (arith, c.len-count.ensures) in
    let below = found_below many c.as_slice.result.now c.self.inside.meanings z c.self.invariant (sym c.get.ensures ∙ e) in
    subst (λ (x : ℤ). is_below (length c.args.self.now.places + 1) x ≡ true) (sym (sum_is many z few below fits))
    (subst (λ (k : Known). is_below (length k.places + 1) (z +ℤ pos 1) ≡ true) c.self.view_is (next_below many z below))
