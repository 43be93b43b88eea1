use Rattle.std.proofs.Common.{◌∙◌, ap, [], ◌∷◌, ◌++◌, decimal}
use Rattle.nd_types.specs.Fields.{param_fields}
use Rattle.idl_listing.specs.Worded.{vars_at}
use Rattle.idl_listing.specs.Listing.{side_word, attrs_words}
use Rattle.idl_listing.proofs.WordByWord.{first_word, then_words, then_end}
use Rattle.idl_listing.proofs.operation_lines.root_line.Goals as goal

pub returns : goal.returns
returns c =
    let t = c.args.text.now in
    let r = c.args.root.now in
    let o = c.args.operation.now in
    let first = side_word c.args.side in
    let base = t ++ first in
    let e0 = c.in_ok-append.ensures.ok ∙ ap (λ w. t ++ w) c.side_word.ensures ∙ first_word t first in
    let e1 = c.in_ok-word.ensures ∙ then_words base _ [] (r.name.now ∷ []) e0 in
    let e2 = c.in_ok-number.ensures ∙ then_words base _ (r.name.now ∷ []) (decimal r.of.0 ∷ []) e1 in
    let e3 = c.in_ok-root_attributes.ensures ∙ then_words base _ (r.name.now ∷ decimal r.of.0 ∷ []) (attrs_words (param_fields o) (vars_at o r.param)) e2 in
    c.in_ok-append-2.ensures.ok ∙ then_end t first _ (r.name.now ∷ decimal r.of.0 ∷ attrs_words (param_fields o) (vars_at o r.param)) e3
