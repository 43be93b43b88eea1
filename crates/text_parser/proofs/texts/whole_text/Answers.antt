use Rattle.std.proofs.Common.{◌≡◌, ◌∙◌, ℕ, List, length, refl, sym, ap, subst, arith}
use Rattle.std.proofs.lemmas.Result.{err_from_is_err_and}
use Rattle.std.proofs.lemmas.Option.{same_Some}
use Rattle.nd_types.specs.declared.types.Operation.{Operation}
use Rattle.nd_types.specs.Roots.{named_roots}
use Rattle.nd_value.specs.Fitting.{setting_of}
use Rattle.text_grammar.specs.Written.{side_word}
use Rattle.text_parser.specs.Passing.{Named, Halts}
use Rattle.text_parser.specs.Lines.{HasHead, HeadHalts, AreRoots, lines_due}
use Rattle.text_parser.proofs.WholeTexts.{head_refuses, roots_refuse, cells_refuse, whole, roots_known}
use Rattle.text_parser.proofs.TextAnswers.{few_nodes}
use Rattle.nd_grammar.proofs.LegalSides.{interface_side as legal_side}
use Rattle.nd_lemmas.proofs.Lists.{item_at as item_there}
use Rattle.text_parser.proofs.texts.whole_text.Goals as goal

pub returns-in_err-version-clause-err : goal.returns-in_err-version-clause-err
returns-in_err-version-clause-err c =
    let p = err_from_is_err_and c.from_residual.result c.from_residual.ensures.1 in
    rw (p.1, p.2) (λ o there.
    let op : c.in-Some.operation.now ≡ o = same_Some _ _ (sym c.in-Some.ensures.some ∙ there) in
    let names : c.as_slice.result.now ≡ o.name = c.as_slice.ensures.same ∙ ap (λ (x : Operation). x.name) op in
    head_refuses (setting_of c.args.interface.now o c.args.side) c.args.text.now c.in_err-version.field-0.0
    (subst (λ (n : List ℕ). HeadHalts n (side_word c.args.side) c.args.text.now c.in_err-version.field-0.0) names
    (subst (λ (n : List ℕ). HeadHalts c.as_slice.result.now n c.args.text.now c.in_err-version.field-0.0) c.side_name.ensures c.in_err-version.ensures.err)))

pub returns-in_err-roots-clause-err : goal.returns-in_err-roots-clause-err
returns-in_err-roots-clause-err c =
    let p = err_from_is_err_and c.from_residual-in_err-roots.result c.from_residual-in_err-roots.ensures.1 in
    rw (p.1, p.2) (λ o there.
    let op : c.in-Some.operation.now ≡ o = same_Some _ _ (sym c.in-Some.ensures.some ∙ there) in
    let names : c.as_slice.result.now ≡ o.name = c.as_slice.ensures.same ∙ ap (λ (x : Operation). x.name) op in
    let h = subst (λ (n : List ℕ). HasHead n (side_word c.args.side) c.args.text.now c.in_ok-version.version c.in_ok-version.start.now) names
    (subst (λ (n : List ℕ). HasHead c.as_slice.result.now n c.args.text.now c.in_ok-version.version c.in_ok-version.start.now) c.side_name.ensures c.in_ok-version.ensures.ok) in
    roots_refuse (setting_of c.args.interface.now o c.args.side) c.args.text.now c.in_ok-version.version c.in_ok-version.start.now h c.in_err-roots.field-0.0
    (subst (λ (l : Named). Halts c.in_ok-version.version c.args.interface.now.types
    (lines_due (named_roots c.args.interface.now.types c.args.side o)) l c.in_ok-version.start.now c.in_err-roots.field-0.0) c.new-names.ensures (c.in_err-roots.ensures.err o there)))

pub returns-in_err-cells-clause-err : goal.returns-in_err-cells-clause-err
returns-in_err-cells-clause-err c =
    let p = err_from_is_err_and c.from_residual-in_err-cells.result c.from_residual-in_err-cells.ensures.1 in
    rw (p.1, p.2) (λ o there.
    let op : c.in-Some.operation.now ≡ o = same_Some _ _ (sym c.in-Some.ensures.some ∙ there) in
    let names : c.as_slice.result.now ≡ o.name = c.as_slice.ensures.same ∙ ap (λ (x : Operation). x.name) op in
    let h = subst (λ (n : List ℕ). HasHead n (side_word c.args.side) c.args.text.now c.in_ok-version.version c.in_ok-version.start.now) names
    (subst (λ (n : List ℕ). HasHead c.as_slice.result.now n c.args.text.now c.in_ok-version.version c.in_ok-version.start.now) c.side_name.ensures c.in_ok-version.ensures.ok) in
    let r = subst
    (λ (l : Named). AreRoots c.in_ok-version.version c.args.interface.now.types
    (named_roots c.args.interface.now.types c.args.side o) l c.in_ok-version.start.now c.in_ok-roots.roots c.roots.new.names c.in_ok-roots.rest.now) c.new-names.ensures
    (c.in_ok-roots.ensures.ok o there) in
    cells_refuse
    (setting_of c.args.interface.now o c.args.side) c.args.text.now c.in_ok-version.version c.in_ok-version.start.now h c.in_ok-roots.roots c.roots.new.names c.in_ok-roots.rest.now r
    c.in_err-cells.field-0.0 c.in_err-cells.ensures.err)

pub returns-clause-ok : goal.returns-clause-ok
returns-clause-ok c =
    λ o there.
    let op : c.in-Some.operation.now ≡ o = same_Some _ _ (sym c.in-Some.ensures.some ∙ there) in
    let names : c.as_slice.result.now ≡ o.name = c.as_slice.ensures.same ∙ ap (λ (x : Operation). x.name) op in
    let h = subst (λ (n : List ℕ). HasHead n (side_word c.args.side) c.args.text.now c.in_ok-version.version c.in_ok-version.start.now) names
    (subst (λ (n : List ℕ). HasHead c.as_slice.result.now n c.args.text.now c.in_ok-version.version c.in_ok-version.start.now) c.side_name.ensures c.in_ok-version.ensures.ok) in
    let r = subst
    (λ (l : Named). AreRoots c.in_ok-version.version c.args.interface.now.types
    (named_roots c.args.interface.now.types c.args.side o) l c.in_ok-version.start.now c.in_ok-roots.roots c.roots.new.names c.in_ok-roots.rest.now) c.new-names.ensures
    (c.in_ok-roots.ensures.ok o there) in
    whole (setting_of c.args.interface.now o c.args.side) c.args.text.now c.in_ok-version.version c.in_ok-version.start.now h c.in_ok-roots.roots c.roots.new.names c.in_ok-roots.rest.now r
    c.in_ok-cells.cells c.requires.short c.in_ok-cells.ensures.ok

pub returns-clause-few_cells : goal.returns-clause-few_cells
returns-clause-few_cells c =
    let (o, there) = item_there c.args.interface.now.operations c.args.op c.requires.known in
    let r = c.in_ok-roots.ensures.ok o there in
    omega (arith, c.requires.short, c.in_ok-cells.ensures.ok.came.less, r.less, c.in_ok-version.ensures.ok.less)

pub returns-clause-few_nodes : goal.returns-clause-few_nodes
returns-clause-few_nodes c =
    let (o, there) = item_there c.args.interface.now.operations c.args.op c.requires.known in
    let r = c.in_ok-roots.ensures.ok o there in
    few_nodes (length c.in_ok-version.start.now) (length c.in_ok-roots.rest.now) (omega (arith, c.requires.short, c.in_ok-version.ensures.ok.less))
    (omega (arith, c.requires.short, r.less, c.in_ok-version.ensures.ok.less))
    c.in_ok-roots.roots c.in_ok-cells.cells r.few c.in_ok-cells.ensures.ok.came.few

pub roots-requires : goal.roots-requires
roots-requires c =
    record { known = c.requires.known; types = refl; short = omega (arith, c.requires.short, c.in_ok-version.ensures.ok.less) }

pub cells-requires : goal.cells-requires
cells-requires c =
    let (o, there) = item_there c.args.interface.now.operations c.args.op c.requires.known in
    let r = c.in_ok-roots.ensures.ok o there in
    record {
      known = roots_known (setting_of c.args.interface.now o c.args.side)
          (legal_side c.args.interface.now c.args.op o c.args.side there).legal.types_known c.in_ok-roots.roots c.new-names.result c.roots.new.names c.new-names.ensures r.names;
      short = omega (arith, c.requires.short, r.less, c.in_ok-version.ensures.ok.less);
    }
