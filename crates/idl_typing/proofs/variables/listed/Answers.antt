use Rattle.std.proofs.Common.{◌≡◌, ℕ, List, map, Option, Some, None, slice_get, option_map, refl, sym, ap, ◌∙◌, arith, Bor}
use Rattle.idl_constructs.specs.declared.nodes.Declared.{Declared}
use Rattle.idl_constructs.specs.SeenNodes.{seen_declared, list_at, or_empty}
use Rattle.idl_rule_definitions.specs.VariableRules.{Listed, listed_from}
use Rattle.idl_typing.proofs.LookupSteps.{index_of}
use Rattle.idl_typing.proofs.Wanted.{listed_at}
use Rattle.idl_typing.proofs.variables.listed.Goals as goal

pub returns : goal.returns
returns c =
    let lists = c.args.nodes.now.lists.items in
    let n = c.args.list in
    let name = c.args.name.now in
    let place = c.in_ok-place.place in
    let xs = c.in_ok-list.list.now in
    let is : list_at lists n ≡ map seen_declared xs = ap or_empty (sym c.in_ok-list.ensures) in
    let index : index_of (listed_from 0 (list_at lists n) name) ≡ Some place = sym (c.requires n name) ∙ sym c.in_ok-place.ensures in
    c.item.ensures ∙ sym (listed_at (list_at lists n) 0 name place index place (omega arith) ∙ ap (λ l. slice_get l place) is)
