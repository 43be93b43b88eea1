use Rattle.std.proofs.Common.{ℕ, List, [], ap₂, subst}
use Rattle.std.proofs.lemmas.Result.{err_from_is_err_and}
use Rattle.nd_value.specs.Tree as tree
use Rattle.nd_value.specs.Tree.{node, none}
use Rattle.text_grammar.specs.Tokens.{character}
use Rattle.text_parser.specs.Passing.{Passes, Halts}
use Rattle.text_parser.specs.ValueParts.{written_dues, written_tokens}
use Rattle.text_parser.proofs.ByteLists.{character_octets, quoted_octets}
use Rattle.text_parser.proofs.ValueForms.{bound_halts, string_halts, text_value}
use Rattle.text_parser.proofs.values.characters.Goals as goal

pub returns-in_err-written-clause-err : goal.returns-in_err-written-clause-err
returns-in_err-written-clause-err c =
    let p = err_from_is_err_and c.from_residual.result c.from_residual.ensures.1 in
    rw (p.1, p.2)
    (λ t ns elem is. bound_halts c.args.under.version c.args.under.types.now t elem c.args.bound is ns c.args.text.now c.in_err-written.field-0.0
    (subst (λ b. Halts c.args.under.version c.args.under.types.now (written_dues b) ns c.args.text.now c.in_err-written.field-0.0) c.is_unbound.ensures
    (c.in_err-written.ensures.err c.args.under.types.now ns)))

pub returns-in_err-body-clause-err : goal.returns-in_err-body-clause-err
returns-in_err-body-clause-err c =
    let p = err_from_is_err_and c.from_residual-in_err-body.result c.from_residual-in_err-body.ensures.1 in
    rw (p.1, p.2) (λ t ns elem is.
    string_halts c.args.under.version c.args.under.types.now t elem c.args.bound is ns c.args.text.now c.in_ok-written.written c.in_ok-written.start.now
    (subst (λ b. Passes c.args.under.version c.args.under.types.now (written_dues b) ns c.args.text.now
    (written_tokens b c.in_ok-written.written) [] ns c.in_ok-written.start.now) c.is_unbound.ensures (c.in_ok-written.ensures.ok c.args.under.types.now ns))
    c.in_err-body.field-0.0 c.in_err-body.ensures.err)

pub returns-in_err-octets-clause-err : goal.returns-in_err-octets-clause-err
returns-in_err-octets-clause-err c =
    let p = err_from_is_err_and c.from_residual-in_err-octets.result c.from_residual-in_err-octets.ensures.1 in
    rw (p.1, p.2) (λ t ns elem is. tt)

pub returns-clause-ok : goal.returns-clause-ok
returns-clause-ok c = λ t ns elem is.
    let s = c.in_ok-body.ensures.ok in
    text_value c.args.under.version c.args.under.types.now t elem c.args.bound is ns c.args.text.now c.in_ok-written.written c.in_ok-written.start.now
    (subst (λ b. Passes c.args.under.version c.args.under.types.now (written_dues b) ns c.args.text.now
    (written_tokens b c.in_ok-written.written) [] ns c.in_ok-written.start.now) c.is_unbound.ensures (c.in_ok-written.ensures.ok c.args.under.types.now ns))
    s.0 c.in_ok-body.rest.now _ c.in_ok-written.ensures.fits (quoted_octets character character_octets s.0 c.in_ok-body.body.now c.in_ok-body.rest.now s.1) c.in_ok-written.ensures.less s.2
    (ap₂ (λ m (o : List ℕ). node (tree.Text m o) none) c.maximum_or-max.ensures (c.in_ok-octets.ensures s.0 c.in_ok-body.rest.now s.1))
