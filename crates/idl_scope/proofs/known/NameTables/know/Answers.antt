use Rattle.std.proofs.Common.{◌≡◌, ℕ, true, length, List, sym, subst, arith}
use Rattle.idl_scope.specs.declared.meaning.Meaning.{Meaning}
use Rattle.idl_scope.specs.Small.{are_small}
use Rattle.idl_scope.proofs.Small.{small_more, put_small}
use Rattle.idl_scope.proofs.known.NameTables.know.Goals as goal

pub invariant_of-self : goal.invariant_of-self
invariant_of-self c =
    subst (λ (ms : List (List ℕ × Meaning)). are_small (length c.self.inside.places) ms ≡ true) (sym c.in_err-insert.ensures) c.self.invariant

pub invariant_of-self-2 : goal.invariant_of-self-2
invariant_of-self-2 c =
    let many = length c.self.inside.places in
    subst (λ (ms : List (List ℕ × Meaning)). are_small many ms ≡ true) (sym c.in_ok-insert.ensures)
    (put_small many c.as_slice.result.now c.args.meaning c.self.inside.meanings c.self.invariant (small_more 0 many c.args.meaning (omega arith) c.requires))
