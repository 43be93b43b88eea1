use Rattle.std.proofs.Common.{◌≤◌, ◌∙◌, sym, ap, length, option_map, eq-eqb, arith}
use Rattle.std.proofs.lemmas.Bool.{ne_eqb}
use Rattle.std.proofs.lemmas.List.{drop_all}
use Rattle.idl_scope.specs.Seen.{seen_file, seen_files}
use Rattle.idl_rule_definitions.specs.Meaning.{main_among}
use Rattle.idl_interface.proofs.MainFile.{main_first, main_later, has_main}
use Rattle.idl_interface.proofs.meaning.main_tree.Goals as goal

pub returns-then-file-eq0 : goal.returns-then-file-eq0
returns-then-file-eq0 c =
    let file = c.in-Some.file.now in
    sym c.loop-at.invariant
    ∙ main_first (seen_files c.args.scope.now.files) c.loop-at.at (seen_file file) (sym c.get.ensures ∙ ap (option_map (λ f. seen_file f.now)) c.in-Some.is) (eq-eqb file.file 0 c.if-file-eq0.true)

pub loop-at-preserved : goal.loop-at-preserved
loop-at-preserved c =
    let file = c.in-Some.file.now in
    sym (main_later (seen_files c.args.scope.now.files) c.loop-at.at (seen_file file) (sym c.get.ensures ∙ ap (option_map (λ f. seen_file f.now)) c.in-Some.is)
    (ne_eqb file.file 0 c.if-file-eq0.false))
    ∙ c.loop-at.invariant

pub unreachable-requires-2 : goal.unreachable-requires-2
unreachable-requires-2 c =
    let files = seen_files c.args.scope.now.files in
    let past : length files ≤ c.loop-at.at = omega arith in
    has_main files c.args.scope.now.has_main (sym c.loop-at.invariant ∙ ap main_among (drop_all c.loop-at.at files past))
