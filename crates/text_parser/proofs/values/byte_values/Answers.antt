use Rattle.std.proofs.Common.{◌∙◌, ◌++◌, [], ◌∷◌, ℤ, ap, sym, rules}
use Rattle.std.proofs.lemmas.Int.{to_z-of_z}
use mir.Val.{SFits}
use mir.Syntax.{w128}
use Rattle.nd_value.specs.Tree as tree
use Rattle.nd_value.specs.Tree.{node, none}
use Rattle.text_grammar.specs.Tokens.{hex_pair}
use Rattle.text_grammar.proofs.Quoted.{pair_quote}
use Rattle.text_parser.proofs.Scanning.{begun, one_more, whole}
use Rattle.text_parser.specs.ValueParts.{unit_trees}
use Rattle.text_parser.proofs.ByteLists.{byte_more}
use Rattle.text_parser.proofs.values.byte_values.Goals as goal

pub loop-octet-init : goal.loop-octet-init
loop-octet-init c = ([], c.new-vals.ensures, begun hex_pair c.args.body.now)

pub loop-octet-preserved : goal.loop-octet-preserved
loop-octet-preserved c =
    let i = c.loop-octet.invariant in
    let fits : SFits w128 c.from.result = search rules in (
      i.0 ++ c.in-Some.octet ∷ [],
      byte_more c.loop-octet.vals i.0 c.in-Some.octet c.push.new.self i.1
          (c.in-Ok.ensures.ok ∙ ap (λ (y : ℤ). c.loop-octet.vals ++ node (tree.Num y) none ∷ []) (to_z-of_z w128 c.from.result fits ∙ c.from.ensures)),
      one_more hex_pair pair_quote c.args.body.now i.0 c.loop-octet.rest.now c.in-Some.after.now c.in-Some.octet i.2 (sym c.in-Some.ensures.is),
    )

pub returns-clause-ok : goal.returns-clause-ok
returns-clause-ok c = λ octets end s.
    let i = c.loop-octet.invariant in
    i.1 ∙ ap unit_trees (whole hex_pair pair_quote c.args.body.now i.0 c.loop-octet.rest.now i.2 (sym c.in_default.ensures.is) octets end s)
