use Rattle.std.proofs.Common.{◌++◌, ◌+◌, ◌∙◌, drop, map, refl, ap, arith}
use Rattle.std.proofs.lemmas.List.{drop_all}
use Rattle.std.proofs.lemmas.Result.{err_from_is_err_and}
use Rattle.nd_misfits.specs.HomeList.{home_tree}
use Rattle.nd_misfits.specs.Pointers.{first_clash, pointers_of_homes}
use Rattle.nd_misfits.proofs.Sharing.{tells_same}
use Rattle.nd_misfits.proofs.HomeWalk.{walkable_home, walkable_still, pointers_left}
use Rattle.nd_misfits.proofs.shared.among.Goals as goal

pub loop-at-init : goal.loop-at-init
loop-at-init c = record { length = refl; left = λ rest. refl }

pub in_home-requires : goal.in_home-requires
in_home-requires c = record {
  walkable =
      walkable_still _ _ _ _ c.loop-at.invariant.length
      (walkable_home c.args.types.now _ c.args.homes.now c.loop-at.at _ c.index-homes-at.is (omega (arith, c.loop-at-test.true)) c.requires.walkable);
}

pub returns-in_err-in_home-clause-first : goal.returns-in_err-in_home-clause-first
returns-in_err-in_home-clause-first c =
    let p = err_from_is_err_and c.from_residual.result c.from_residual.ensures.1 in
    let homes = c.args.homes.now in
    rw (p.1, p.2) (λ rest.
    tells_same _ _ _
    (c.loop-at.invariant.left rest
    ∙ ap (first_clash c.loop-at.names.items) (pointers_left c.args.types.now homes c.loop-at.at _ rest c.index-homes-at.is (omega (arith, c.loop-at-test.true))))
    (c.in_err-in_home.ensures.first (pointers_of_homes c.args.types.now (map home_tree (drop (c.loop-at.at + 1) homes)) ++ rest)))

pub loop-at-preserved : goal.loop-at-preserved
loop-at-preserved c = record {
  length = c.in_ok-in_home.ensures.length ∙ c.loop-at.invariant.length;
  left = λ rest.
      let homes = c.args.homes.now in
      c.loop-at.invariant.left rest
      ∙ ap (first_clash c.loop-at.names.items) (pointers_left c.args.types.now homes c.loop-at.at _ rest c.index-homes-at.is (omega (arith, c.loop-at-test.true)))
      ∙ c.in_ok-in_home.ensures.none (pointers_of_homes c.args.types.now (map home_tree (drop (c.loop-at.at + 1) homes)) ++ rest);
}

pub returns-clause-none : goal.returns-clause-none
returns-clause-none c rest =
    c.loop-at.invariant.left rest
    ∙ ap (λ xs. first_clash c.loop-at.names.items (pointers_of_homes c.args.types.now (map home_tree xs) ++ rest)) (drop_all c.loop-at.at c.args.homes.now (omega (arith, c.loop-at-test.false)))
