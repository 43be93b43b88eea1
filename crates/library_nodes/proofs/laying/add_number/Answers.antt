use Rattle.std.proofs.Common.{[], ◌∷◌, ◌++◌, refl, ap, sym}
use Rattle.std.specs.Prelude.{option_to_list}
use Rattle.std.proofs.lemmas.List.{append-nil}
use Rattle.nd_value.specs.Tree as tree
use Rattle.library_nodes.specs.declared.node.Node.TheVariants as node
use Rattle.library_nodes.specs.Said.{number_flat}
use Rattle.library_nodes.proofs.Adding.{closed, plain_more, number_more}
use Rattle.library_nodes.proofs.Gathered.{after_whole, full_whole}
use Rattle.library_nodes.proofs.laying.add_number.Goals as goal

pub returns-in_ok-push-in-Some : goal.returns-in_ok-push-in-Some
returns-in_ok-push-in-Some c a fs z same h =
    number_more fs z c.args.number c.args.unfinished c.in-Some.node a c.args.list.now _ (sym c.in-Some.ensures) same refl c.in_ok-push-in-Some.ensures.ok refl h

pub returns-in_ok-push-in-None : goal.returns-in_ok-push-in-None
returns-in_ok-push-in-None c a fs z same h =
    plain_more fs (tree.Num z, 0) (node.Number c.args.number) a c.close.new.list _ [] c.in_ok-push-in-None.ensures.ok refl (sym (append-nil c.close.new.list.octets))
    (λ zs os. ap (λ v. number_flat v ∷ []) same) refl
    (closed fs a c.args.list.now c.close.new.list c.args.unfinished c.in_ok-close-in-None.ensures.nodes c.close.ensures.numbers c.close.ensures.octets h)
    (after_whole (h.grows.nodes ++ option_to_list c.args.unfinished) (node.Number c.args.number ∷ [])
    (full_whole h.grows.nodes c.args.unfinished (sym c.in-None.ensures) h.settled) h.gathered)
