use Rattle.std.proofs.Common.{◌≡◌, sym, ap, ◌∙◌, OnOk, None, Some}
use Rattle.idl_scope.specs.Known.{found, put}
use Rattle.idl_declared_types.specs.SeenNames.{and_name}
use Rattle.idl_declared_types.proofs.NameLists.{and_name-there, and_name-new}
use Rattle.idl_typing.proofs.NotedTypes.{on_ok_then}
use Rattle.idl_typing.proofs.types.put_first.Goals as goal

pub returns-in-Some : goal.returns-in-Some
returns-in-Some c = and_name-there c.args.names.now c.args.name.now.octets c.args.of c.in-Some.field-0 (ap (λ o. found o c.args.names.now) (sym c.as_slice-name.ensures) ∙ sym c.in-Some.ensures)

pub returns-in-None : goal.returns-in-None
returns-in-None c =
    let e = c.as_slice-name.ensures in
    let none : found c.args.name.now.octets c.args.names.now ≡ None = ap (λ o. found o c.args.names.now) (sym e) ∙ sym c.in-None.ensures in
    on_ok_then c.put.result c.put.ensures (λ h. h ∙ ap (λ o. put c.args.names.now o c.args.of) e ∙ and_name-new c.args.names.now c.args.name.now.octets c.args.of none)
