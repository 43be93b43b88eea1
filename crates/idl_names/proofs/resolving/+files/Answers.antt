use Rattle.std.proofs.Common.{◌≡◌, ◌∙◌, ℕ, ◌+◌, refl, sym, ap, subst, arith, List, [], ◌∷◌, map, drop, Some, None, Ok, Err}
use Rattle.std.specs.List.{flat_map}
use Rattle.nd_base.specs.declared.octets.Place.{Place}
use Rattle.idl_grammar.specs.declared.words.Spelling.{Spelling}
use Rattle.idl_grammar.specs.Seen.{seen_tree, seen_import}
use Rattle.idl_scope.specs.declared.name_fault.NameFault.TheVariants as fault
use Rattle.idl_names.specs.Going.{Point, point, Went}
use Rattle.idl_scope.specs.Known.{place_in, has_ended}
use Rattle.idl_names.specs.Loads.{IsLoaded}
use Rattle.idl_scope.specs.Seen.{seen_file, seen_files}
use Rattle.idl_names.specs.Seen.{seen_state}
use Rattle.idl_names.specs.Walk.{file_number, file_named, Load, End, load_of, all_of, with_known}
use Rattle.idl_scope.specs.Steps.{imports_of}
use Rattle.idl_names.proofs.Going as going
use Rattle.idl_names.proofs.Going.{loads, loads_of, one_load, one_import, passed_on}
use Rattle.idl_names.proofs.Spelled.{last_ended}
use Rattle.idl_names.proofs.resolving.+files.Goals as goal

-- ## import

pub import-returns-in_err-name : goal.import-returns-in_err-name
import-returns-in_err-name g t c =
    let p : Point =
    point (g.F.Files.seen c.args.files.now)
    (seen_state c.args.language c.args.sources.now c.args.state.now) in
    let dues = load_of c.args.file c.args.string.now ∷ [] in
    passed_on p p dues [] c.from_residual.result fault.Memory c.from_residual.ensures.1 (going.stops_short p dues fault.Memory refl c.requires)

pub import-returns-in-Some : goal.import-returns-in-Some
import-returns-in-Some g t c =
    let p : Point =
    point (g.F.Files.seen c.args.files.now)
    (seen_state c.args.language c.args.sources.now c.args.state.now) in
    let name = file_named c.args.string.now.octets in
    let is : c.as_str.result.now ≡ name = c.as_str.ensures.value ∙ (c.in_ok-name.ensures ∙ ap file_named c.as_slice.ensures) in
    going.again_went p (place_in c.args.file c.args.string.now) name c.requires c.in-Some.number tt
    (ap (file_number c.args.sources.now) (sym is) ∙ sym c.in-Some.ensures) (sym c.has_ended.ensures ∙ c.if-has_ended.true)

pub import-returns-in-Some-2 : goal.import-returns-in-Some-2
import-returns-in-Some-2 g t c =
    let p : Point =
    point (g.F.Files.seen c.args.files.now)
    (seen_state c.args.language c.args.sources.now c.args.state.now) in
    let name = file_named c.args.string.now.octets in
    let is : c.as_str.result.now ≡ name = c.as_str.ensures.value ∙ (c.in_ok-name.ensures ∙ ap file_named c.as_slice.ensures) in
    going.cycle_went p (place_in c.args.file c.args.string.now) name c.requires c.in-Some.number
    (ap (file_number c.args.sources.now) (sym is) ∙ sym c.in-Some.ensures) (sym c.has_ended.ensures ∙ c.if-has_ended.false)

pub import-returns-in-None : goal.import-returns-in-None
import-returns-in-None g t c =
    let p : Point =
    point (g.F.Files.seen c.args.files.now)
    (seen_state c.args.language c.args.sources.now c.args.state.now) in
    let name = file_named c.args.string.now.octets in
    let is : c.as_str.result.now ≡ name = c.as_str.ensures.value ∙ (c.in_ok-name.ensures ∙ ap file_named c.as_slice.ensures) in
    going.too_many_went p (place_in c.args.file c.args.string.now) name c.requires
    (ap (file_number c.args.sources.now) (sym is) ∙ sym c.in-None.ensures) (omega (arith, c.if-count-ge-WALK_LIMIT.true, c.count.ensures))

pub import-returns : goal.import-returns
import-returns g t c =
    let p : Point =
    point (g.F.Files.seen c.args.files.now)
    (seen_state c.args.language c.args.sources.now c.args.state.now) in
    let q : Point =
    point (g.F.Files.seen c.load.new.files)
    (seen_state c.args.language c.load.new.sources c.args.state.now) in
    let r : Point =
    point (g.F.Files.seen c.whole.new.files)
    (seen_state c.args.language c.whole.new.sources c.whole.new.state) in
    let name = file_named c.args.string.now.octets in
    let is : c.as_str.result.now ≡ name = c.as_str.ensures.value ∙ (c.in_ok-name.ensures ∙ ap file_named c.as_slice.ensures) in
    let same : c.as_str-in-None-2.result.now ≡ name = c.as_str-in-None-2.ensures.value ∙ (c.in_ok-name.ensures ∙ ap file_named c.as_slice.ensures) in
    going.enters_went p (place_in c.args.file c.args.string.now) name c.requires q r (seen_file c.in_ok-loaded-in-None-2.loaded) c.whole.result
    (ap (file_number c.args.sources.now) (sym is) ∙ sym c.in-None.ensures) (omega (arith, c.if-count-ge-WALK_LIMIT.false, c.count.ensures))
    (subst (λ (n : List ℕ). IsLoaded p.state.language p.held p.state.sources n q.state.sources (seen_file c.in_ok-loaded-in-None-2.loaded)) same c.in_ok-loaded-in-None-2.ensures.ok)
    refl refl refl c.in_ok-loaded-in-None-2.ensures.same c.in_ok-loaded-in-None-2.ensures.asked c.in_ok-loaded-in-None-2.ensures.later c.in_ok-loaded-in-None-2.ensures.absences_later
    c.in_ok-loaded-in-None-2.ensures.more
    c.whole.ensures.went

-- ## import_all

pub import_all-returns-in_err-import : goal.import_all-returns-in_err-import
import_all-returns-in_err-import g t c =
    let p : Point =
    point (g.F.Files.seen c.args.files.now)
    (seen_state c.args.language c.args.sources.now c.args.state.now) in
    let q : Point =
    point (g.F.Files.seen c.loop-string.files)
    (seen_state c.args.language c.loop-string.sources c.loop-string.state) in
    let r : Point =
    point (g.F.Files.seen c.import.new.files)
    (seen_state c.args.language c.import.new.sources c.import.new.state) in
    passed_on p r (loads c.args.file c.args.strings.now)
    (loads c.args.file (drop (c.loop-string.string-index + 1) c.args.strings.now)) c.from_residual.result c.in_err-import.field-0.0 c.from_residual.ensures.1
    (going.next_item (loads c.args.file) (λ x. load_of c.args.file x ∷ []) refl (one_load c.args.file) c.args.strings.now p q r
    (loads c.args.file c.args.strings.now) c.loop-string.string-index c.string-item.result
    0 (Err c.in_err-import.field-0.0) (omega arith) c.string-item.is c.loop-string.invariant c.in_err-import.ensures)

pub import_all-returns : goal.import_all-returns
import_all-returns g t c =
    let p : Point =
    point (g.F.Files.seen c.args.files.now)
    (seen_state c.args.language c.args.sources.now c.args.state.now) in
    let q : Point =
    point (g.F.Files.seen c.loop-string.files)
    (seen_state c.args.language c.loop-string.sources c.loop-string.state) in
    going.any_value p q (loads c.args.file c.args.strings.now) [] 0 tt
    (going.no_item (loads c.args.file) (λ x. load_of c.args.file x ∷ []) refl (one_load c.args.file) c.args.strings.now p q (loads c.args.file c.args.strings.now) c.loop-string.string-index 0
    (omega arith) c.loop-string.invariant)

-- ## imports

pub imports-returns-in_err-import_all : goal.imports-returns-in_err-import_all
imports-returns-in_err-import_all g t c =
    let p : Point =
    point (g.F.Files.seen c.args.files.now)
    (seen_state c.args.language c.args.sources.now c.args.state.now) in
    let q : Point =
    point (g.F.Files.seen c.loop-one.files)
    (seen_state c.args.language c.loop-one.sources c.loop-one.state) in
    let r : Point =
    point (g.F.Files.seen c.import_all.new.files)
    (seen_state c.args.language c.import_all.new.sources c.import_all.new.state) in
    passed_on p r (loads_of c.args.file c.args.list.now)
    (loads_of c.args.file (drop (c.loop-one.one-index + 1) c.args.list.now)) c.from_residual.result c.in_err-import_all.field-0.0 c.from_residual.ensures.1
    (going.next_item (loads_of c.args.file) (λ m. loads c.args.file m.files.items) refl (one_import c.args.file) c.args.list.now p q r
    (loads_of c.args.file c.args.list.now) c.loop-one.one-index c.one-item.result
    0 (Err c.in_err-import_all.field-0.0) (omega arith) c.one-item.is c.loop-one.invariant
    (subst (λ (l : List Spelling). Went {A = Unit {0}} q (loads c.args.file l) r [] (Err c.in_err-import_all.field-0.0)) c.as_slice.ensures.value c.in_err-import_all.ensures))

pub imports-returns : goal.imports-returns
imports-returns g t c =
    let p : Point =
    point (g.F.Files.seen c.args.files.now)
    (seen_state c.args.language c.args.sources.now c.args.state.now) in
    let q : Point =
    point (g.F.Files.seen c.loop-one.files)
    (seen_state c.args.language c.loop-one.sources c.loop-one.state) in
    going.any_value p q (loads_of c.args.file c.args.list.now) [] 0 tt
    (going.no_item (loads_of c.args.file) (λ m. loads c.args.file m.files.items) refl (one_import c.args.file) c.args.list.now p q (loads_of c.args.file c.args.list.now) c.loop-one.one-index 0
    (omega arith) c.loop-one.invariant)

-- ## whole

pub whole-returns-in_err-attributes-clause-went : goal.whole-returns-in_err-attributes-clause-went
whole-returns-in_err-attributes-clause-went g t c =
    let p : Point =
    point (g.F.Files.seen c.args.files.now)
    (seen_state c.args.language c.args.sources.now c.args.state.now) in
    let file = c.args.of.file in
    let t = seen_tree c.args.of.tree in
    passed_on p p (all_of file t) (going.behind_attributes file t) c.from_residual.result c.in_err-attributes.field-0.0 c.from_residual.ensures.1
    (going.attributes_went p file t (Err c.in_err-attributes.field-0.0) c.requires c.in_err-attributes.ensures)

pub whole-returns-in_err-imports-clause-went : goal.whole-returns-in_err-imports-clause-went
whole-returns-in_err-imports-clause-went g t c =
    let p : Point =
    point (g.F.Files.seen c.args.files.now)
    (seen_state c.args.language c.args.sources.now c.args.state.now) in
    let q : Point =
    point (g.F.Files.seen c.imports.new.files)
    (seen_state c.args.language c.imports.new.sources c.imports.new.state) in
    let file = c.args.of.file in
    let t = seen_tree c.args.of.tree in
    let strings : List Spelling = flat_map (λ m. m.files) (map seen_import c.as_slice.result.now) in
    let is : strings ≡ imports_of t = ap (λ l. flat_map (λ m. m.files) (map seen_import l)) c.as_slice.ensures.value in
    passed_on p q (all_of file t) (going.behind_imports file t) c.from_residual-in_err-imports.result c.in_err-imports.field-0.0 c.from_residual-in_err-imports.ensures.1
    (going.imports_went p q file t strings c.in_ok-attributes.field-0 (Err c.in_err-imports.field-0.0) is
    (going.attributes_went p file t (Ok c.in_ok-attributes.field-0) c.requires c.in_ok-attributes.ensures) c.in_err-imports.ensures)

pub whole-returns-in_err-exports-clause-went : goal.whole-returns-in_err-exports-clause-went
whole-returns-in_err-exports-clause-went g t c =
    let p : Point =
    point (g.F.Files.seen c.args.files.now)
    (seen_state c.args.language c.args.sources.now c.args.state.now) in
    let q : Point =
    point (g.F.Files.seen c.imports.new.files)
    (seen_state c.args.language c.imports.new.sources c.imports.new.state) in
    let file = c.args.of.file in
    let t = seen_tree c.args.of.tree in
    let strings : List Spelling = flat_map (λ m. m.files) (map seen_import c.as_slice.result.now) in
    let is : strings ≡ imports_of t = ap (λ l. flat_map (λ m. m.files) (map seen_import l)) c.as_slice.ensures.value in
    passed_on p (going.at_state q (with_known q.state c.exports.new.names)) (all_of file t)
    (End file t ∷ []) c.from_residual-in_err-exports.result c.in_err-exports.field-0.0 c.from_residual-in_err-exports.ensures.1
    (going.exports_went p q file t c.exports.new.names c.in_ok-imports.field-0 (Err c.in_err-exports.field-0.0)
    (going.imports_went p q file t strings c.in_ok-attributes.field-0 (Ok c.in_ok-imports.field-0) is
    (going.attributes_went p file t (Ok c.in_ok-attributes.field-0) c.requires c.in_ok-attributes.ensures) c.in_ok-imports.ensures) c.in_err-exports.ensures)

pub whole-returns-in_err-push-clause-went : goal.whole-returns-in_err-push-clause-went
whole-returns-in_err-push-clause-went g t c =
    let p : Point =
    point (g.F.Files.seen c.args.files.now)
    (seen_state c.args.language c.args.sources.now c.args.state.now) in
    let q : Point =
    point (g.F.Files.seen c.imports.new.files)
    (seen_state c.args.language c.imports.new.sources c.imports.new.state) in
    let file = c.args.of.file in
    let t = seen_tree c.args.of.tree in
    let strings : List Spelling = flat_map (λ m. m.files) (map seen_import c.as_slice.result.now) in
    let is : strings ≡ imports_of t = ap (λ l. flat_map (λ m. m.files) (map seen_import l)) c.as_slice.ensures.value in
    let x : Point = going.at_state q (with_known q.state c.exports.new.names) in
    passed_on p (going.at_state x (record x.state { ended = seen_files c.push.new.self })) (all_of file t) [] c.from_residual-in_err-push.result fault.Memory c.from_residual-in_err-push.ensures.1
    (going.unended_went p x file t (seen_files c.push.new.self) c.in_ok-exports.field-0 fault.Memory refl
    (going.exports_went p q file t c.exports.new.names c.in_ok-imports.field-0 (Ok c.in_ok-exports.field-0)
    (going.imports_went p q file t strings c.in_ok-attributes.field-0 (Ok c.in_ok-imports.field-0) is
    (going.attributes_went p file t (Ok c.in_ok-attributes.field-0) c.requires c.in_ok-attributes.ensures) c.in_ok-imports.ensures) c.in_ok-exports.ensures))

pub whole-returns-clause-went : goal.whole-returns-clause-went
whole-returns-clause-went g t c =
    let p : Point =
    point (g.F.Files.seen c.args.files.now)
    (seen_state c.args.language c.args.sources.now c.args.state.now) in
    let q : Point =
    point (g.F.Files.seen c.imports.new.files)
    (seen_state c.args.language c.imports.new.sources c.imports.new.state) in
    let file = c.args.of.file in
    let t = seen_tree c.args.of.tree in
    let strings : List Spelling = flat_map (λ m. m.files) (map seen_import c.as_slice.result.now) in
    let is : strings ≡ imports_of t = ap (λ l. flat_map (λ m. m.files) (map seen_import l)) c.as_slice.ensures.value in
    let x : Point = going.at_state q (with_known q.state c.exports.new.names) in
    going.ended_went p x file t (seen_files c.push.new.self) c.in_ok-exports.field-0 tt c.in_ok-push.ensures
    (going.exports_went p q file t c.exports.new.names c.in_ok-imports.field-0 (Ok c.in_ok-exports.field-0)
    (going.imports_went p q file t strings c.in_ok-attributes.field-0 (Ok c.in_ok-imports.field-0) is
    (going.attributes_went p file t (Ok c.in_ok-attributes.field-0) c.requires c.in_ok-attributes.ensures) c.in_ok-imports.ensures) c.in_ok-exports.ensures)

pub whole-returns-clause-ended : goal.whole-returns-clause-ended
whole-returns-clause-ended g t c = last_ended (seen_files c.imports.new.state.files) (seen_files c.push.new.self) (seen_file c.args.of) c.in_ok-push.ensures
