use Rattle.std.proofs.Common.{◌≡◌, ℕ, ℤ, true, length, List, sym, subst, rules}
use Rattle.std.proofs.lemmas.Int.{to_z-of_z}
use mir.Val.{SFits, to_z, of_z}
use mir.Syntax.{w128}
use Rattle.idl_scope.specs.declared.meaning.Meaning.{Meaning}
use Rattle.idl_scope.specs.Known.{Known}
use Rattle.idl_scope.specs.Small.{is_below, are_small}
use Rattle.idl_scope.specs.declared.meaning.Meaning.TheVariants as meaning
use Rattle.idl_scope.proofs.Small.{put_small}
use Rattle.idl_scope.proofs.known.NameTables.know_value.Goals as goal

pub invariant_of-self : goal.invariant_of-self
invariant_of-self c =
    subst (λ (ms : List (List ℕ × Meaning)). are_small (length c.self.inside.places) ms ≡ true) (sym c.in_err-insert.ensures) c.self.invariant

pub invariant_of-self-2 : goal.invariant_of-self-2
invariant_of-self-2 c =
    let many = length c.self.inside.places in
    let z = c.in_ok-value.value in
    let fits : SFits w128 z = search rules in
    let below : is_below many z ≡ true = subst (λ (k : Known). is_below (length k.places) z ≡ true) (sym c.self.view_is) c.in_ok-value.ensures.small in
    subst (λ (ms : List (List ℕ × Meaning)). are_small many ms ≡ true) (sym c.in_ok-insert.ensures)
    (put_small many c.as_slice.result.now (meaning.Number (to_z w128 (of_z w128 z))) c.self.inside.meanings c.self.invariant
    (subst (λ (x : ℤ). is_below many x ≡ true) (sym (to_z-of_z w128 z fits)) below))
