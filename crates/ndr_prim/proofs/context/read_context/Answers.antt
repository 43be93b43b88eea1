use Rattle.std.proofs.Common.{rules, ◌≡◌, length, ap, ◌∙◌, arith}
use Rattle.std.proofs.lemmas.Slice.{between_to_end}
use Rattle.ndr_prim.specs.Context.{identifier}
use Rattle.ndr_prim.proofs.context.read_context.Goals as goal

pub returns-clause-identifier : goal.returns-clause-identifier
returns-clause-identifier c =
    let whole : length c.args.from.now ≡ 20 = search rules in
    c.read_id.ensures ∙ ap (identifier c.args.order) (between_to_end c.args.from.now 4 20 (omega (arith, whole)))
