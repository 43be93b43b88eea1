use Rattle.std.proofs.Common.{◌≡◌, ◌∙◌, ◌||◌, map, option_map, refl, ap, sym, subst}
use Rattle.std.specs.List.{list_any}
use Rattle.idl_grammar.specs.Seen as of_idl
use Rattle.idl_scope.specs.Seen.{known_in}
use Rattle.acf_reader.specs.Seen.{seen_parameter, seen_element}
use Rattle.idl_rule_definitions.specs.Noted.{noted}
use Rattle.idl_rule_definitions.specs.Found.{seen_breach}
use Rattle.idl_check.specs.AcfRules.{broken_at, is_of_type, is_misplaced, is_no_type, parameters_found, breaches_of_element}
use Rattle.idl_check.proofs.AcfNotes.{operation_is}
use Rattle.idl_check.proofs.acf_rule.element.Goals as goal

pub returns-in-Types-clause-first : goal.returns-in-Types-clause-first
returns-in-Types-clause-first c w main files exports =
    let start = option_map seen_breach c.args.finder.now.first in
    let known = known_in c.args.scope.now in
    let list = c.in-Types.attributes.list.items in
    subst (λ e. option_map seen_breach c.note.new.finder.first ≡ noted w start (breaches_of_element known main (seen_element e)))
    (sym c.in-Types.is)
    (c.note.ensures.first w files
    ∙ ap (λ b. noted w start (broken_at c.in-Types.at b))
    (c.breaks_types.ensures ∙ ap (λ l. is_misplaced is_of_type list || list_any (is_no_type known) l) c.as_slice.ensures.value))

pub returns-in-Operation-clause-first : goal.returns-in-Operation-clause-first
returns-in-Operation-clause-first c w main files exports =
    let start = option_map seen_breach c.args.finder.now.first in
    subst (λ e. option_map seen_breach c.operation.new.finder.first ≡ noted w start (breaches_of_element (known_in c.args.scope.now) main (seen_element e)))
    (sym c.in-Operation.is)
    (c.operation.ensures.first w files
    ∙ ap (λ l. noted w start l)
    (operation_is c.in-Operation.at c.attribute_list.ensures (ap (map seen_parameter) c.as_slice-in-Operation.ensures.value)
    (c.parameters.ensures ∙ ap (parameters_found c.in-Operation.name) (sym exports))))
