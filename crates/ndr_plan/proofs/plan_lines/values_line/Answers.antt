use Rattle.std.proofs.Common.{◌∙◌, [], ◌∷◌, ◌++◌, map, codes, decimal}
use Rattle.std.specs.Fmt.{signed_decimal}
use Rattle.idl_listing.proofs.WordByWord.{first_word, then_words, then_end}
use Rattle.ndr_plan.proofs.plan_lines.values_line.Goals as goal

pub returns : goal.returns
returns c =
    let t = c.args.text.now in
    let e = c.args.list.now in
    let first = codes "values" in
    let base = t ++ first in
    let e0 = c.in_ok-append.ensures.ok ∙ first_word t first in
    let e1 = c.in_ok-number.ensures ∙ then_words base _ [] (decimal e.of.0 ∷ []) e0 in
    let e2 = c.in_ok-values.ensures ∙ then_words base _ (decimal e.of.0 ∷ []) (map signed_decimal e.values) e1 in
    c.in_ok-append-2.ensures.ok ∙ then_end t first _ (decimal e.of.0 ∷ map signed_decimal e.values) e2
