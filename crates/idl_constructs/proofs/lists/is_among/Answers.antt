use Rattle.std.proofs.Common.{refl, sym, ◌∙◌, arith, List, map, ap, map-id}
use Rattle.std.specs.Str.{bytes_eq}
use Rattle.std.specs.List.{list_any}
use Rattle.idl_constructs.specs.Spelled.{spelled}
use Rattle.idl_constructs.proofs.AnyFrom.{found_copy, no_copy, nowhere}
use Rattle.idl_constructs.proofs.lists.is_among.Goals as goal

pub loop-one-init : goal.loop-one-init
loop-one-init c = ap (λ l. list_any (λ w. bytes_eq (spelled c.args.word) (spelled w)) l) (map-id c.args.words.now)

pub returns-then-is_same : goal.returns-then-is_same
returns-then-is_same c =
    found_copy (λ w. w) (λ w. bytes_eq (spelled c.args.word) (spelled w)) c.args.words.now c.loop-one.one-index _ c.loop-one-test.true
    (sym c.if-is_same.true ∙ c.is_same.ensures)
    ∙ c.loop-one.invariant

pub loop-one-preserved : goal.loop-one-preserved
loop-one-preserved c =
    sym (no_copy (λ w. w) (λ w. bytes_eq (spelled c.args.word) (spelled w)) c.args.words.now c.loop-one.one-index _ c.loop-one-test.true
    (sym c.if-is_same.false ∙ c.is_same.ensures))
    ∙ c.loop-one.invariant

pub returns : goal.returns
returns c =
    nowhere (λ w. w) (λ w. bytes_eq (spelled c.args.word) (spelled w)) c.args.words.now c.loop-one.one-index (omega arith)
    ∙ c.loop-one.invariant
