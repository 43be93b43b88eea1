use Rattle.std.specs.Prelude.{drop}
use Rattle.std.proofs.Common.{subst, inr, sym, ap, ◌∙◌, ◌++◌, [], append-nil}
use Rattle.std.proofs.lemmas.Result.{err_from_is_err_and, IfOk-weaker, IfErr-weaker}
use Rattle.idl_grammar.specs.Seen.{seen_tree}
use Rattle.idl_names.specs.Seen.{seen_scope}
use Rattle.idl_names.specs.Walk.{IsResolved, IsRefused, names_of}
use Rattle.command_compile.proofs.AskedFiles.{main_asked}
use Rattle.command_compile.proofs.Compiled.{one_source, main_absent, main_failed, imports_asked, always}
use Rattle.command_compile.proofs.interface.scope_of.Goals as goal

pub returns-in_err-tree-clause-absent : goal.returns-in_err-tree-clause-absent
returns-in_err-tree-clause-absent g c =
    let (name, text, same) = one_source c.args.sources.now c.requires in
    let p = err_from_is_err_and c.from_residual.result c.from_residual.ensures.1 in
    rw (p.1, p.2)
    (main_absent c.args.language (g.F.Files.seen c.args.files.now).absences (g.F.Files.seen c.args.files.now).absences text _
    (c.in_err-tree.ensures.fault name text (same c.args.language)))

pub returns-in_err-tree-clause-failed : goal.returns-in_err-tree-clause-failed
returns-in_err-tree-clause-failed g c =
    let (name, text, same) = one_source c.args.sources.now c.requires in
    let p = err_from_is_err_and c.from_residual.result c.from_residual.ensures.1 in
    rw (p.1, p.2)
    (main_failed c.args.language (g.F.Files.seen c.args.files.now).faults (g.F.Files.seen c.args.files.now).faults text _
    (c.in_err-tree.ensures.fault name text (same c.args.language)))

pub returns-clause-scope : goal.returns-clause-scope
returns-clause-scope g c name text same =
    IfOk-weaker c.resolve.result _ _
    (λ scope r. record {
      tree = seen_tree c.in_ok-tree.tree;
      parsed = c.in_ok-tree.ensures.tree name text same;
      names = subst (λ s. IsResolved c.args.language (g.F.Files.seen c.args.files.now).held s (seen_tree c.in_ok-tree.tree) (seen_scope c.args.language c.resolve.new.sources scope)) same r;
    }) c.resolve.ensures.scope

pub returns-clause-fault : goal.returns-clause-fault
returns-clause-fault g c name text same =
    IfErr-weaker c.resolve.result _ _
    (λ e r. inr (
      seen_tree c.in_ok-tree.tree,
      c.in_ok-tree.ensures.tree name text same,
      subst (λ s. IsRefused c.args.language (g.F.Files.seen c.args.files.now).held s (seen_tree c.in_ok-tree.tree) c.resolve.new.sources e) same r,
    )) c.resolve.ensures.fault

pub returns-in_err-tree-clause-asked : goal.returns-in_err-tree-clause-asked
returns-in_err-tree-clause-asked g c name text same = record {
  rest = [];
  asked_is = sym (append-nil (g.F.Files.seen c.args.files.now).asked);
  due = λ content acf. main_asked (g.F.Files.seen c.args.files.now).held (record { name = name; language = c.args.language }) acf;
}

pub returns-clause-asked : goal.returns-clause-asked
returns-clause-asked g c name text same =
    imports_asked (g.F.Files.seen c.args.files.now).held (record { name = name; language = c.args.language }) text (seen_tree c.in_ok-tree.tree) c.args.sources.now
    (g.F.Files.seen c.args.files.now).asked (g.F.Files.seen c.resolve.new.files).asked
    (c.in_ok-tree.ensures.tree name text same) same c.resolve.ensures.asked

pub returns-clause-all_asked : goal.returns-clause-all_asked
returns-clause-all_asked g c =
    always c.resolve.result (c.resolve.ensures.all_asked ∙ ap (λ n. (g.F.Files.seen c.args.files.now).asked ++ names_of (drop n c.resolve.new.sources)) c.requires)
