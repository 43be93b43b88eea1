use Rattle.std.proofs.Common.{◌≡◌, ◌∙◌, sym, ap, arith}
use Rattle.idl_scope.specs.Known.{is_defined}
use Rattle.idl_scope.proofs.Uses.{is_first_undefined}
use Rattle.idl_scope.proofs.known.NameTables.first_undefined.Goals as goal

pub returns-then-not-is_defined : goal.returns-then-not-is_defined
returns-then-not-is_defined c =
    sym (c.loop-one.invariant
    ∙ is_first_undefined c.args.self.now c.deref-one-items.result.now c.loop-one.one-index c.one-item.result (omega arith) c.one-item.is
    (ap (λ t. is_defined c.args.self.now c.one-item.result.kind t) (sym c.as_slice.ensures) ∙ (sym c.is_defined.ensures ∙ c.if-not-is_defined.true)))
