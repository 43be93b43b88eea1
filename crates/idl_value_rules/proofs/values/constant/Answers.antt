use Rattle.std.proofs.Common.{◌∙◌, ap, ap₂, sym, not, option_map}
use Rattle.idl_grammar.specs.Seen.{seen_init}
use Rattle.idl_scope.specs.Seen.{seen_files, known_in}
use Rattle.idl_constructs.specs.SeenNodes.{seen_construct}
use Rattle.idl_rule_definitions.specs.Noted.{noted, if_broken}
use Rattle.idl_rule_definitions.specs.Found.{seen_breach}
use Rattle.idl_constructs.proofs.ListNotes.{three}
use Rattle.idl_value_rules.proofs.ValueNotes.{constant_others}
use Rattle.idl_value_rules.proofs.values.constant.Goals as goal

pub returns-clause-first : goal.returns-clause-first
returns-clause-first c w s names files known =
    let k = seen_construct c.args.construct.now in
    let first = c.note.ensures.first w files
    ∙ ap₂ (λ p b. noted w (option_map seen_breach c.args.finder.now.first) (if_broken 6 p b)) c.place-place.ensures c.is_void_constant.ensures in
    let second = c.note-2.ensures.first w (files ∙ ap seen_files (sym c.note.ensures.files))
    ∙ ap₂ (λ p b. noted w (option_map seen_breach c.note.new.self.first) (if_broken 7 p b)) c.place-place.ensures c.is_handle_constant.ensures in
    let third = c.note-3.ensures.first w (files ∙ ap seen_files (sym (c.note-2.ensures.files ∙ c.note.ensures.files)))
    ∙ ap₂ (λ p b. noted w (option_map seen_breach c.note-2.new.self.first) (if_broken 38 p b)) c.place-place.ensures (ap not c.is_right_constant.ensures) in
    three w k c.args.construct.now.at 6 7 38 _ _ _ _ _ _ _ first second third
    ∙ ap (λ l. noted w (option_map seen_breach c.args.finder.now.first) l) (constant_others s names (known_in c.args.scope.now) k c.args.of c.args.star (seen_init c.args.value.now) known)
