use Rattle.std.proofs.Common.{ℕ, List, [], ◌∷◌, ◌++◌, sym, ◌∙◌}
use Rattle.text_grammar.specs.Tokens.{hex_pair, IsByteString}
use Rattle.text_grammar.proofs.Quoted.{pair_quote}
use Rattle.text_parser.proofs.Scanning.{HasQuoted, one_more, unclosed, closes, match_option}
use Rattle.text_parser.proofs.strings.after_bytes.Goals as goal

pub loop-after-preserved : goal.loop-after-preserved
loop-after-preserved c =
    let i = c.loop-after.invariant in
    record {
      octets = i.octets ++ c.in-Some.field-0-0 ∷ [];
      reaches = one_more hex_pair pair_quote c.args.body.now i.octets c.loop-after.rest.now c.in-Some.after.now c.in-Some.field-0-0 i.reaches (sym c.in-Some.ensures.is);
    }

pub returns : goal.returns
returns c =
    let body = c.args.body.now in
    let rest = c.loop-after.rest.now in
    let i = c.loop-after.invariant in
    match_option (λ r. r.now) c.after_quote.result ((octets end : List ℕ) → IsByteString body octets end → ⊥) (HasQuoted hex_pair body)
    (λ e. unclosed hex_pair pair_quote body i.octets rest i.reaches (sym c.in_default.ensures.is) (sym c.after_quote.ensures ∙ e))
    (λ after e. closes hex_pair pair_quote body i.octets rest after i.reaches (sym c.after_quote.ensures ∙ e))
