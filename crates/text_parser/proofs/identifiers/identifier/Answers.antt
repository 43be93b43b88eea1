use Rattle.std.proofs.Common.{◌≡◌, ℕ, false, List, take, sym, subst}
use Rattle.nd_base.specs.Text.{has_form, uuid_form}
use Rattle.text_grammar.specs.Tokens.{Uuid, skip}
use Rattle.text_grammar.proofs.OneText.{cut_less, form_length as form_long}
use Rattle.text_parser.specs.Lexemes.{for_uuid}
use Rattle.text_parser.specs.Misses.{MissesUuid}
use Rattle.text_parser.specs.Identifiers.{IsUuid}
use Rattle.text_parser.proofs.Uuids.{an_id, uuid_cut, no_uuid}
use Rattle.text_parser.proofs.identifiers.identifier.Goals as goal

pub returns-in_default-clause-err : goal.returns-in_default-clause-err
returns-in_default-clause-err c =
    let none : has_form uuid_form (take 36 (skip c.args.text.now)) ≡ false = subst (λ (l : List ℕ). has_form uuid_form (take 36 l) ≡ false) c.skip_blanks-here.ensures c.in_default.ensures in
    subst (MissesUuid c.args.version c.args.text.now) (sym c.unexpected.ensures)
    (no_uuid c.args.version c.args.text.now none c.scan.result.here.now c.scan.result.rest.now c.scan.result.lexeme c.scan.ensures.here c.scan.ensures.comes)

pub slice_bounds-uuid_of-end-2 : goal.slice_bounds-uuid_of-end-2
slice_bounds-uuid_of-end-2 c = sym (form_long uuid_form (take 36 c.skip_blanks-here.result.now) c.in-Some.ensures.is)

pub returns-clause-ok : goal.returns-clause-ok
returns-clause-ok c =
    let here : List ℕ = c.skip_blanks-here.result.now in
    let came : IsUuid here c.in_ok-id.id c.in-Some.rest.now = record { form = c.in-Some.ensures.is; id_is = c.in_ok-id.ensures; rest_is = c.in-Some.ensures.rest_is } in
    uuid_cut c.args.version c.args.text.now c.in_ok-id.id c.in-Some.rest.now (subst (λ (l : List ℕ). IsUuid l c.in_ok-id.id c.in-Some.rest.now) c.skip_blanks-here.ensures came)

pub returns-clause-form : goal.returns-clause-form
returns-clause-form c = an_id (take 36 c.skip_blanks-here.result.now) c.in_ok-id.id c.in-Some.ensures.is c.in_ok-id.ensures

pub returns-clause-less : goal.returns-clause-less
returns-clause-less c = cut_less (for_uuid c.args.version) c.args.text.now (Uuid c.in_ok-id.id) c.in-Some.rest.now (returns-clause-ok c)
