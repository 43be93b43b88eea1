use Rattle.std.proofs.Common.{◌≡◌, [], ◌∷◌, None, Some, sym, subst, arith}
use Rattle.nd_value.specs.Tree.{more, none}
use Rattle.nd_value.specs.Seen.{tree_of}
use Rattle.nd_misfits.specs.HomeList.{home_tree}
use Rattle.nd_misfits.specs.Disagreeing.{disagreeing_in}
use Rattle.nd_misfits.proofs.Disagreements.{home_own, home_inside, home_agrees}
use Rattle.nd_misfits.proofs.disagreeing.one.Goals as goal

pub home_value-requires : goal.home_value-requires
home_value-requires c = record { few = omega (arith, c.requires.walkable.few); formed = c.requires.walkable.formed }

pub returns-in-Some-clause-first : goal.returns-in-Some-clause-first
returns-in-Some-clause-first c w table op are =
    home_own w c.args.graph.now (home_tree c.args.home) c.in-Some.reason (sym (c.in-Some.ensures w op are))

pub returns-in-Ok-clause-none : goal.returns-in-Ok-clause-none
returns-in-Ok-clause-none c w table op are =
    home_agrees w c.args.graph.now (home_tree c.args.home) (sym (c.in_default.ensures w op are))
    (subst (λ t. disagreeing_in t c.args.graph.now (c.args.home.of.0 ∷ []) [] 0 (more (tree_of c.args.home.val.now) none) ≡ None) (sym table) c.in-Ok.ensures.0)

pub returns-in-Err-clause-first : goal.returns-in-Err-clause-first
returns-in-Err-clause-first c w table op are =
    home_inside w c.args.graph.now (home_tree c.args.home) c.in-Err.field-0 (sym (c.in_default.ensures w op are))
    (subst (λ t. disagreeing_in t c.args.graph.now (c.args.home.of.0 ∷ []) [] 0 (more (tree_of c.args.home.val.now) none) ≡ Some c.in-Err.field-0) (sym table) c.in-Err.ensures)
