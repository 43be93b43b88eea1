use Rattle.std.proofs.Common.{◌≡◌, ◌∙◌, [], option_map, refl, ap, sym}
use Rattle.idl_scope.specs.Seen.{seen_files}
use Rattle.idl_rule_definitions.specs.Found.{seen_breach}
use Rattle.idl_rules.specs.Asked.{with_types, with_arrays, with_unions, with_pointers}
use Rattle.idl_rules.proofs.uses.note_use.Goals as goal

pub returns-clause-first : goal.returns-clause-first
returns-clause-first c w s u files are h =
    let start = option_map seen_breach c.args.finder.now.first in
    let n1 = c.note_types.ensures.next w s u start [] files are h refl in
    let f1 = files ∙ ap seen_files (sym c.note_types.ensures.files) in
    let b1 = with_types s u [] in
    let n2 = c.note_arrays.ensures.next w s u start b1 f1 are h n1 in
    let f2 = f1 ∙ ap seen_files (sym c.note_arrays.ensures.files) in
    let b2 = with_arrays s u b1 in
    let n3 = c.note_unions.ensures.next w s u start b2 f2 are h n2 in
    let f3 = f2 ∙ ap seen_files (sym c.note_unions.ensures.files) in
    let b3 = with_unions s u b2 in
    let n4 = c.note_pointers.ensures.next w s u start b3 f3 are h n3 in
    let f4 = f3 ∙ ap seen_files (sym c.note_pointers.ensures.files) in
    let b4 = with_pointers s u b3 in
    c.note_variables.ensures.next w s u start b4 f4 are h n4
