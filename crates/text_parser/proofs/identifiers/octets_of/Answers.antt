use Rattle.std.proofs.Common.{ℕ, List, [], ◌∷◌, ◌++◌, sym, ap, ◌∙◌, append_assoc}
use Rattle.text_grammar.specs.Tokens.{hex_octets}
use Rattle.text_parser.proofs.Uuids.{pair_taken}
use Rattle.text_parser.proofs.identifiers.octets_of.Goals as goal

pub loop-octet-preserved : goal.loop-octet-preserved
loop-octet-preserved c =
    let octets : List ℕ = c.loop-octet.octets in
    let after : List ℕ = c.in-Some.after.now in
    let p = pair_taken c.loop-octet.rest.now c.in-Some.octet after (sym c.in-Some.ensures.is) c.loop-octet.invariant.1 in (
      ap (λ (l : List ℕ). l ++ hex_octets after) c.in_ok-append.ensures.ok
          ∙ (append_assoc octets (c.in-Some.octet ∷ []) (hex_octets after) ∙ (ap (λ (l : List ℕ). octets ++ l) (sym p.0) ∙ c.loop-octet.invariant.0)),
      p.1,
    )
