use Rattle.std.proofs.Common.{ℕ, List, [], ◌∷◌, ◌++◌, sym, ◌∙◌}
use Rattle.text_grammar.specs.Tokens.{character, IsString}
use Rattle.text_grammar.proofs.Quoted.{character_quote}
use Rattle.text_parser.proofs.Scanning.{HasQuoted, one_more, unclosed, closes, match_option}
use Rattle.text_parser.proofs.strings.after_string.Goals as goal

pub loop-after-preserved : goal.loop-after-preserved
loop-after-preserved c =
    let i = c.loop-after.invariant in
    record {
      octets = i.octets ++ c.in-Some.field-0-0 ∷ [];
      reaches = one_more character character_quote c.args.body.now i.octets c.loop-after.rest.now c.in-Some.after.now c.in-Some.field-0-0 i.reaches (sym c.in-Some.ensures.is);
    }

pub returns : goal.returns
returns c =
    let body = c.args.body.now in
    let rest = c.loop-after.rest.now in
    let i = c.loop-after.invariant in
    match_option (λ r. r.now) c.after_quote.result ((octets end : List ℕ) → IsString body octets end → ⊥) (HasQuoted character body)
    (λ e. unclosed character character_quote body i.octets rest i.reaches (sym c.in_default.ensures.is) (sym c.after_quote.ensures ∙ e))
    (λ after e. closes character character_quote body i.octets rest after i.reaches (sym c.after_quote.ensures ∙ e))
