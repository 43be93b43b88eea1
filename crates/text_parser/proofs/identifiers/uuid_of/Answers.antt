use Rattle.std.proofs.Common.{◌≡◌, true, false, ap, ◌∙◌, length}
use Rattle.std.specs.List.{list_all}
use Rattle.nd_base.specs.Text.{is_hex_digit, uuid_form}
use Rattle.text_grammar.specs.Tokens.{hex_octets}
use Rattle.text_parser.proofs.Uuids.{form_digits, id_length}
use Rattle.text_parser.proofs.identifiers.uuid_of.Goals as goal

pub octets_of-requires : goal.octets_of-requires
octets_of-requires c = ap (list_all is_hex_digit) (c.as_slice.ensures ∙ c.in_ok-digits.ensures) ∙ (form_digits uuid_form c.args.written.now c.requires).0

pub unreachable-requires : goal.unreachable-requires
unreachable-requires c =
    let no : false ≡ true =
    c.in_default.ensures.ok.1
    (ap length (c.as_slice-2.ensures ∙ (c.in_ok-octets.ensures ∙ ap hex_octets (c.as_slice.ensures ∙ c.in_ok-digits.ensures))) ∙ id_length c.args.written.now c.requires) in
    cc
