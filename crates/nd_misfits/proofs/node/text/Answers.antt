use Rattle.std.proofs.Common.{◌≡◌, subst, Some}
use Rattle.nd_types.specs.declared.types.TypeDef.TheVariants as def
use Rattle.nd_value.specs.Tree as tree
use Rattle.nd_value.specs.Tree.{node, none}
use Rattle.nd_misfits.specs.Searched.{misfit_in}
use Rattle.nd_misfits.proofs.node.text.Goals as goal

pub returns-in-Text : goal.returns-in-Text
returns-in-Text c table g elem =
    let v = c.in-Text in
    rw v.is
    (subst (λ xs. c.octets_misfit.result ≡ misfit_in table g (Some (def.Text elem c.args.bound)) (node (tree.Text v.max xs) none))
    c.as_slice.ensures (c.octets_misfit.ensures table g elem))
