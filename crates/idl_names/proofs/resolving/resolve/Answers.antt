use Rattle.std.proofs.Common.{◌≡◌, ◌⊎◌, inl, inr, refl, sym, Ok, Err, [], ◌∷◌}
use Rattle.idl_grammar.specs.Seen.{seen_tree}
use Rattle.idl_names.specs.Going.{Point, point}
use Rattle.idl_scope.specs.Seen.{seen_files}
use Rattle.idl_names.specs.Seen.{seen_state}
use Rattle.idl_names.specs.Walk.{State, IsRefused, all_of, start}
use Rattle.idl_names.proofs.Going.{all_went, all_stopped, at_start, at_error, asks_along}
use Rattle.idl_names.proofs.resolving.resolve.Goals as goal

pub returns-in_err-whole-clause-fault : goal.returns-in_err-whole-clause-fault
returns-in_err-whole-clause-fault g c =
    let p : Point =
    point (g.F.Files.seen c.args.files.now)
    (seen_state c.args.language c.args.sources.now (record { files = c.new.result; names = c.new-2.result })) in
    let q : Point =
    point (g.F.Files.seen c.whole.new.files)
    (seen_state c.args.language c.whole.new.sources c.whole.new.state) in
    at_error c.from_residual.result c.in_err-whole.field-0.0
    (IsRefused c.args.language (g.F.Files.seen c.args.files.now).held c.args.sources.now (seen_tree c.args.tree) c.whole.new.sources) c.from_residual.ensures.1
    (inl (all_stopped p q (all_of 0 (seen_tree c.args.tree)) c.in_err-whole.field-0.0 (start c.args.language c.args.sources.now)
    (at_start c.args.language c.args.sources.now (seen_files c.new.result) c.new-2.result c.new.ensures c.new-2.ensures) c.in_err-whole.ensures.went))

pub returns-in-None-clause-scope : goal.returns-in-None-clause-scope
returns-in-None-clause-scope g c =
    let p : Point =
    point (g.F.Files.seen c.args.files.now)
    (seen_state c.args.language c.args.sources.now (record { files = c.new.result; names = c.new-2.result })) in
    let q : Point =
    point (g.F.Files.seen c.whole.new.files)
    (seen_state c.args.language c.whole.new.sources c.whole.new.state) in
    record {
      walk = all_went p q (all_of 0 (seen_tree c.args.tree)) c.in_ok-whole.field-0 (start c.args.language c.args.sources.now)
          (at_start c.args.language c.args.sources.now (seen_files c.new.result) c.new-2.result c.new.ensures c.new-2.ensures) c.in_ok-whole.ensures.went;
      whole = sym c.in-None.ensures;
    }

pub returns-in-Some-clause-fault : goal.returns-in-Some-clause-fault
returns-in-Some-clause-fault g c =
    let p : Point =
    point (g.F.Files.seen c.args.files.now)
    (seen_state c.args.language c.args.sources.now (record { files = c.new.result; names = c.new-2.result })) in
    let q : Point =
    point (g.F.Files.seen c.whole.new.files)
    (seen_state c.args.language c.whole.new.sources c.whole.new.state) in
    inr (record {
      state = q.state;
      walk = all_went p q (all_of 0 (seen_tree c.args.tree)) c.in_ok-whole.field-0 (start c.args.language c.args.sources.now)
          (at_start c.args.language c.args.sources.now (seen_files c.new.result) c.new-2.result c.new.ensures c.new-2.ensures) c.in_ok-whole.ensures.went;
      sources_are = refl;
      first = sym c.in-Some.ensures;
    })

pub returns-in_err-whole-clause-asked : goal.returns-in_err-whole-clause-asked
returns-in_err-whole-clause-asked g c =
    let p : Point =
    point (g.F.Files.seen c.args.files.now)
    (seen_state c.args.language c.args.sources.now (record { files = c.new.result; names = c.new-2.result })) in
    let q : Point =
    point (g.F.Files.seen c.whole.new.files)
    (seen_state c.args.language c.whole.new.sources c.whole.new.state) in
    asks_along p q c.args.language c.args.sources.now (seen_tree c.args.tree) (Err c.in_err-whole.field-0.0)
    (at_start c.args.language c.args.sources.now (seen_files c.new.result) c.new-2.result c.new.ensures c.new-2.ensures) c.in_err-whole.ensures.went

pub returns-in-None-clause-asked : goal.returns-in-None-clause-asked
returns-in-None-clause-asked g c =
    let p : Point =
    point (g.F.Files.seen c.args.files.now)
    (seen_state c.args.language c.args.sources.now (record { files = c.new.result; names = c.new-2.result })) in
    let q : Point =
    point (g.F.Files.seen c.whole.new.files)
    (seen_state c.args.language c.whole.new.sources c.whole.new.state) in
    asks_along p q c.args.language c.args.sources.now (seen_tree c.args.tree) (Ok c.in_ok-whole.field-0)
    (at_start c.args.language c.args.sources.now (seen_files c.new.result) c.new-2.result c.new.ensures c.new-2.ensures) c.in_ok-whole.ensures.went

pub returns-in-Some-clause-asked : goal.returns-in-Some-clause-asked
returns-in-Some-clause-asked g c =
    let p : Point =
    point (g.F.Files.seen c.args.files.now)
    (seen_state c.args.language c.args.sources.now (record { files = c.new.result; names = c.new-2.result })) in
    let q : Point =
    point (g.F.Files.seen c.whole.new.files)
    (seen_state c.args.language c.whole.new.sources c.whole.new.state) in
    asks_along p q c.args.language c.args.sources.now (seen_tree c.args.tree) (Ok c.in_ok-whole.field-0)
    (at_start c.args.language c.args.sources.now (seen_files c.new.result) c.new-2.result c.new.ensures c.new-2.ensures) c.in_ok-whole.ensures.went
