use Rattle.std.proofs.Common.{◌≡◌, sym, ap, Some, ◌∙◌}
use Rattle.idl_scope.specs.Known.{found}
use Rattle.idl_declared_types.proofs.NameLists.{named_some, named_none}
use Rattle.idl_declared_types.proofs.written.named.Goals as goal

pub returns-in-Some-clause-stands : goal.returns-in-Some-clause-stands
returns-in-Some-clause-stands c =
    named_some c.args.kinds.now c.args.names.now c.args.name.now.octets c.in-Some.number c.requires (ap (λ o. found o c.args.names.now) (sym c.as_slice.ensures) ∙ sym c.in-Some.ensures)

pub returns-in-None-clause-stands : goal.returns-in-None-clause-stands
returns-in-None-clause-stands c =
    rw (named_none c.args.kinds.now c.args.names.now c.args.name.now.octets (ap (λ o. found o c.args.names.now) (sym c.as_slice.ensures) ∙ sym c.in-None.ensures)) c.simple.ensures.stands
