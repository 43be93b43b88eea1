use Rattle.std.proofs.Common.{◌≡◌, ◌∙◌, ℕ, Bool, not, List, Option, option_map, refl, ap, ap₂, sym}
use Rattle.std.specs.List.{list_any}
use Rattle.std.specs.Str.{bytes_eq}
use Rattle.idl_scope.specs.Seen.{seen_files}
use Rattle.idl_grammar.specs.Seen.{seen_kind, seen_attribute}
use Rattle.idl_rule_definitions.specs.DeclarationRules.{words_in, is_large_version_in}
use Rattle.idl_rule_definitions.specs.Nodes.{place_in}
use Rattle.idl_constructs.specs.SeenNodes.{seen_position, seen_construct}
use Rattle.idl_rule_definitions.specs.Noted.{noted, if_broken}
use Rattle.idl_rule_definitions.specs.Found.{seen_breach}
use Rattle.idl_constructs.specs.ListBreaches.{is_among}
use Rattle.idl_constructs.proofs.ListNotes.{three}
use Rattle.idl_constructs.proofs.lists.attribute.Goals as goal

pub returns-clause-first : goal.returns-clause-first
returns-clause-first c w before files words =
    let co = seen_construct c.args.construct.now in
    let kind = seen_kind c.args.attribute.now.kind in
    let word = c.first_word-word.ensures in
    let out = ap not (c.is_in_place.ensures ∙ ap (λ x. list_any (λ w. bytes_eq w x) (words_in (seen_position c.args.construct.now.position))) word) in
    let again = c.is_among.ensures ∙ ap (λ x. is_among x c.args.words.now) word ∙ words _ in
    let first = c.note.ensures.first w files
    ∙ ap₂ (λ p b. noted w (option_map seen_breach c.args.finder.now.first) (if_broken 1 p b)) c.place-place.ensures out in
    let second = c.note-2.ensures.first w (files ∙ ap seen_files (sym c.note.ensures.files))
    ∙ ap₂ (λ p b. noted w (option_map seen_breach c.note.new.self.first) (if_broken 2 p b)) c.place-place.ensures again in
    let third = c.note-3.ensures.first w (files ∙ ap seen_files (sym (c.note-2.ensures.files ∙ c.note.ensures.files)))
    ∙ ap₂ (λ p b. noted w (option_map seen_breach c.note-2.new.self.first) (if_broken 4 p b)) c.place-place.ensures c.is_large_version.ensures in
    three w co c.args.attribute.now.at 1 2 4 _ _ _ _ _ _ _ first second third
