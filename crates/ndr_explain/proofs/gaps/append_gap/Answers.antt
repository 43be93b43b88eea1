use Rattle.std.proofs.Common.{◌∙◌, ◌++◌, true, false, codes, append-nil, ap, sym}
use Rattle.text_grammar.specs.Written.{hex_text}
use Rattle.ndr_explain.specs.Explained.{are_zero, gap_shown}
use Rattle.ndr_explain.proofs.FilledGaps.{gap_is, no_gap_shown}
use Rattle.ndr_explain.proofs.Lines.{three}
use Rattle.ndr_explain.proofs.gaps.append_gap.Goals as goal

pub returns-then-are_zero : goal.returns-then-are_zero
returns-then-are_zero c =
    let os = c.octets_of-shown.result.now in
    sym (append-nil c.args.text.now) ∙ ap (λ g. c.args.text.now ++ g) (sym (no_gap_shown os (sym c.are_zero.ensures ∙ c.if-are_zero.true)))
    ∙ ap (λ xs. c.args.text.now ++ gap_shown xs) c.octets_of-shown.ensures

pub returns : goal.returns
returns c =
    let os = c.octets_of-shown.result.now in
    three c.args.text.now c.append.new.self c.append_hexes.new.text c.append-2.new.self (codes " x\"") (hex_text os) (codes "\"") c.in_ok-append.ensures.ok c.in_ok-append_hexes.ensures
    c.in_ok-append-2.ensures.ok
    ∙ ap (λ g. c.args.text.now ++ g) (sym (gap_is os (sym c.are_zero.ensures ∙ c.if-are_zero.false))) ∙ ap (λ xs. c.args.text.now ++ gap_shown xs) c.octets_of-shown.ensures
