-- A conforming graph of a legal side is a partial graph in which nothing is unread.
use Rattle.std.proofs.Common.{◌≡◌, true, List, [], ◌∷◌, length, Option, None, refl}
use Rattle.std.specs.List.{AllByRecursion, list_all}
use Rattle.std.proofs.lemmas.Bool.{and_from, eq-eqb, or_right}
use Rattle.nd_types.specs.declared.types.TypeDef.{TypeDef}
use Rattle.nd_types.specs.declared.types.Operation.{Operation}
use Rattle.nd_types.specs.Table.{Table, type_at}
use Rattle.nd_types.specs.Legal.{IsLegal}
use Rattle.nd_value.specs.declared.value.Graph.{Graph}
use Rattle.nd_value.specs.Tree.{count}
use Rattle.nd_value.specs.Setting.{Setting}
use Rattle.nd_value.specs.Nodes.{TypedNode, child_types}
use Rattle.nd_value.specs.Conforms.{HomeNode, all_nodes, Conforms, IsPartial}
use Rattle.nd_value.specs.Misfit.{misfit_of, is_partial_node, is_unread}
use Rattle.nd_value.proofs.NodeFacts.{IsFit, IsRead, fit_node, fit_is_read}
use Rattle.nd_value.proofs.ValueRanges.{range_fits}
use Rattle.nd_grammar.specs.LegalSide.{IsLegalSide}

module _ (table : Table) (operations : List Operation) (legal : IsLegal table operations) where
  partial_node : (g : Graph) (x : TypedNode) → misfit_of table g x ≡ None → is_partial_node table g x ≡ true
  partial_node g x e =
      let f : IsFit table g x.of x.label x.kids = fit_node table g x e in
      let r : IsRead table g x.of x.label x.kids = fit_is_read table g x.of x.label x.kids f in
      let d : Option TypeDef = type_at table x.of in
      or_right (is_unread x.label x.kids) _
      (and_from _ _ (and_from _ _ (and_from _ _ (and_from _ _ (and_from _ _ (and_from _ _ r.shape (eq-eqb (count x.kids) (length (child_types d x.label x.kids)) r.children))
      (range_fits table legal.enumerators x.of d refl x.label f.range)) r.no_null) r.cell) r.pointee) r.counts)

  partial_nodes : (g : Graph) (xs : List HomeNode) → AllByRecursion (λ x. misfit_of table g x.typed ≡ None) xs → list_all (λ x. is_partial_node table g x.typed) xs ≡ true
  partial_nodes g [] a = refl
  partial_nodes g (x ∷ xs) a = and_from _ _ (partial_node g x.typed a.0) (partial_nodes g xs a.1)

pub conforming_is_partial : (w : Setting) → IsLegalSide w → (g : Graph) → Conforms w g → IsPartial w g
conforming_is_partial w side g c = record {
  all_roots = c.all_roots;
  machine_values = c.machine_values;
  local = partial_nodes w.table side.operations side.legal g (all_nodes w g) c.local;
  unshared = c.unshared;
}
