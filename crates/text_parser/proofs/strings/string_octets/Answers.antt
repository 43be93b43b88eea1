use Rattle.std.proofs.Common.{ℕ, List, sym, subst, ◌∙◌}
use Rattle.text_grammar.specs.Tokens.{character}
use Rattle.text_grammar.proofs.Quoted.{character_quote}
use Rattle.text_parser.proofs.FirstTokens.{rest_is}
use Rattle.text_parser.proofs.Quick.{plain_begun}
use Rattle.text_parser.proofs.Scanning.{Reaches, one_more, whole}
use Rattle.text_parser.proofs.strings.string_octets.Goals as goal

pub loop-octet-init : goal.loop-octet-init
loop-octet-init c =
    plain_begun c.args.body.now _ _ (c.in_ok-octets.ensures ∙ c.plain_end-plain.ensures.plain) (rest_is c.plain_end-plain.result c.args.body.now ∙ c.plain_end-plain.ensures.after)

pub loop-octet-preserved : goal.loop-octet-preserved
loop-octet-preserved c =
    subst (λ (l : List ℕ). Reaches character c.args.body.now l c.in-Some.after.now) (sym c.in_ok-append.ensures.ok)
    (one_more character character_quote c.args.body.now c.loop-octet.octets c.loop-octet.rest.now c.in-Some.after.now c.in-Some.octet c.loop-octet.invariant (sym c.in-Some.ensures.is))

pub returns : goal.returns
returns c = λ octets end s. whole character character_quote c.args.body.now c.loop-octet.octets c.loop-octet.rest.now c.loop-octet.invariant (sym c.in_default.ensures.is) octets end s
