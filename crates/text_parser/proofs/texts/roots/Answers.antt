use Rattle.std.proofs.Common.{◌<◌, ◌∙◌, List, length, take, refl, sym, subst, arith}
use Rattle.std.proofs.lemmas.Result.{err_from_is_err_and}
use Rattle.std.proofs.lemmas.List.{length_push, take_all}
use Rattle.std.proofs.lemmas.Iterator.Consumers.{YieldsList-from_first, YieldsList-turn, YieldsList-end}
use Rattle.nd_types.specs.Table.{Table}
use Rattle.nd_types.specs.Roots.{NamedRoot, named_roots, root_value}
use Rattle.nd_value.proofs.LocalPass.{given_root}
use Rattle.nd_value.specs.Fitting.{setting_of}
use Rattle.nd_value.specs.Seen.{tree_of}
use Rattle.text_parser.specs.Lines.{AreRoots}
use Rattle.text_parser.proofs.LineParts.{no_roots, root_next, roots_stop}
use Rattle.text_parser.proofs.TextAnswers.{root_known}
use Rattle.nd_grammar.proofs.LegalSides.{interface_side as legal_side}
use Rattle.nd_lemmas.proofs.Lists.{item_at as item_there}
use Rattle.text_parser.proofs.texts.roots.Goals as goal

pub loop-root-init : goal.loop-root-init
loop-root-init c =
    λ o there. no_roots c.args.under.version c.args.under.types.now c.args.names.now c.args.text.now c.new-vals.result c.new-vals.ensures

pub returns-in_err-val-clause-err : goal.returns-in_err-val-clause-err
returns-in_err-val-clause-err c =
    let p = err_from_is_err_and c.from_residual.result c.from_residual.ensures.1 in
    rw (p.1, p.2) (λ o there.
    let i = c.args.interface.now in
    let all = named_roots i.types c.args.side o in
    let walk = YieldsList-from_first root_value (λ w. w) all (c.into_iter-root-iterator.ensures.into_iter_gives ∙ c.params-root-items.ensures o there) in
    let turn = YieldsList-turn walk c.loop-root.yielded _ c.loop-root.yielded_by _ _ c.in-Some.root c.in-Some.is c.next.ensures.steps in
    let root = given_root all _ _ (root_value c.in-Some.root) refl turn in
    roots_stop c.args.under.version c.args.under.types.now all (length c.loop-root.yielded)
    (root_value c.in-Some.root) c.args.names.now c.loop-root.names c.args.text.now c.loop-root.rest.now c.loop-root.vals c.in_err-val.field-0.0 root
    (c.loop-root.invariant o there) c.in_err-val.ensures.err)

pub loop-root-preserved : goal.loop-root-preserved
loop-root-preserved c =
    λ o there.
    let i = c.args.interface.now in
    let all = named_roots i.types c.args.side o in
    let walk = YieldsList-from_first root_value (λ w. w) all (c.into_iter-root-iterator.ensures.into_iter_gives ∙ c.params-root-items.ensures o there) in
    let turn = YieldsList-turn walk c.loop-root.yielded _ c.loop-root.yielded_by _ _ c.in-Some.root c.in-Some.is c.next.ensures.steps in
    let root = given_root all _ _ (root_value c.in-Some.root) refl turn in
    subst (λ n. AreRoots c.args.under.version c.args.under.types.now (take n all) c.args.names.now c.args.text.now c.push.new.self c.root_line.new.names c.in_ok-val.after.now)
    (sym (length_push c.loop-root.yielded c.in-Some.root))
    (root_next c.args.under.version c.args.under.types.now all (length c.loop-root.yielded)
    (root_value c.in-Some.root) c.args.names.now c.loop-root.names c.root_line.new.names c.args.text.now c.loop-root.rest.now c.in_ok-val.after.now c.loop-root.vals c.push.new.self
    (tree_of c.in_ok-val.val) root (c.loop-root.invariant o there) c.in_ok-val.ensures.ok c.in-Ok.ensures.ok)

pub returns-clause-ok : goal.returns-clause-ok
returns-clause-ok c =
    λ o there.
    let i = c.args.interface.now in
    let all = named_roots i.types c.args.side o in
    let walk = YieldsList-from_first root_value (λ w. w) all (c.into_iter-root-iterator.ensures.into_iter_gives ∙ c.params-root-items.ensures o there) in
    let end = YieldsList-end walk c.loop-root.yielded _ c.loop-root.yielded_by _ _ c.in-None.is c.next.ensures.steps in
    subst (λ (l : List NamedRoot). AreRoots c.args.under.version c.args.under.types.now l c.args.names.now c.args.text.now c.loop-root.vals c.loop-root.names c.loop-root.rest.now)
    (take_all (length c.loop-root.yielded) all (omega (arith, end.1))) (c.loop-root.invariant o there)

pub root_line-requires-clause-known : goal.root_line-requires-clause-known
root_line-requires-clause-known c =
    let i = c.args.interface.now in
    let (o, there) = item_there i.operations c.args.op c.requires.known in
    let all = named_roots i.types c.args.side o in
    let walk = YieldsList-from_first root_value (λ w. w) all (c.into_iter-root-iterator.ensures.into_iter_gives ∙ c.params-root-items.ensures o there) in
    let turn = YieldsList-turn walk c.loop-root.yielded _ c.loop-root.yielded_by _ _ c.in-Some.root c.in-Some.is c.next.ensures.steps in
    let root = given_root all _ _ (root_value c.in-Some.root) refl turn in
    let below : c.in-Some.root.of.0 < length i.types =
    root_known (setting_of i o c.args.side) (legal_side i c.args.op o c.args.side there) (length c.loop-root.yielded) (root_value c.in-Some.root) root in
    subst (λ (t : Table). c.in-Some.root.of.0 < length t) (sym c.requires.types) below

pub root_line-requires-clause-short : goal.root_line-requires-clause-short
root_line-requires-clause-short c =
    let (o, there) = item_there c.args.interface.now.operations c.args.op c.requires.known in
    let came = c.loop-root.invariant o there in
    omega (arith, came.less, c.requires.short)
