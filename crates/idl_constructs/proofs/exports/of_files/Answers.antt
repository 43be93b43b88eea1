use Rattle.std.proofs.Common.{refl, sym, arith}
use Rattle.std.specs.List.{flat_map}
use Rattle.std.proofs.lemmas.Option.{get_or_from_slice_get}
use Rattle.idl_scope.specs.Seen.{seen_file, seen_files}
use Rattle.idl_rule_definitions.specs.Nodes.{file_nodes}
use Rattle.idl_constructs.proofs.Adding.{turn, over, all_seen}
use Rattle.idl_constructs.proofs.exports.of_files.Goals as goal

pub loop-at-preserved : goal.loop-at-preserved
loop-at-preserved c =
    let xs = seen_files c.args.files.now in
    let l = c.loop-at in
    let x = seen_file c.in-Some.found.now in
    λ end rest. l.invariant end
    (turn (flat_map file_nodes) file_nodes (λ y more. refl) xs l.nodes c.file.new.nodes l.at x (omega (arith, c.len-at-end.ensures, c.loop-at-test.true))
    (sym (get_or_from_slice_get xs l.at x x (sym c.in-Some.ensures)))
    c.in_ok-file.ensures end rest)

pub returns : goal.returns
returns c =
    let xs = seen_files c.args.files.now in
    let l = c.loop-at in
    all_seen c.in_ok-nodes.nodes l.nodes (flat_map file_nodes xs) c.in_ok-nodes.ensures.none c.in_ok-nodes.ensures.empty
    (l.invariant l.nodes (over (flat_map file_nodes) file_nodes (λ y more. refl) xs l.nodes l.at (omega (arith, c.len-at-end.ensures, c.loop-at-test.false)) refl))
