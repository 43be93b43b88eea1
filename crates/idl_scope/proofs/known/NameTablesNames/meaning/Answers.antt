use Rattle.std.proofs.Common.{◌≡◌, true, length, sym, subst, Option}
use Rattle.std.specs.Option.{IfSome}
use Rattle.idl_scope.specs.declared.meaning.Meaning.{Meaning}
use Rattle.idl_scope.specs.Known.{Known}
use Rattle.idl_scope.specs.Small.{is_small}
use Rattle.idl_scope.proofs.Small.{found_small}
use Rattle.idl_scope.proofs.known.NameTablesNames.meaning.Goals as goal

pub returns-clause-small : goal.returns-clause-small
returns-clause-small c =
    let many = length c.self.inside.places in
    subst (λ (k : Known). IfSome c.get.result (λ m. is_small (length k.places) m ≡ true)) c.self.view_is
    (subst (λ (o : Option Meaning). IfSome o (λ m. is_small many m ≡ true)) (sym c.get.ensures) (found_small many c.args.name.now c.self.inside.meanings c.self.invariant))
