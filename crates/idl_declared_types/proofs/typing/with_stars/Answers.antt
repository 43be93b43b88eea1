use Rattle.std.proofs.Common.{◌≡◌, ℕ, suc, ◌+◌, ◌<◌, List, length, drop, Option, Some, sym, ap, ◌∙◌, arith}
use Rattle.idl_grammar.specs.declared.attributes.PointerClass.{PointerClass}
use Rattle.idl_declared_types.specs.declared.kinds.Kind.{Kind}
use Rattle.idl_rule_definitions.specs.Types.{IdlType, Pointer, with_stars}
use Rattle.idl_declared_types.specs.Kinds.{seen_class, type_at, Stands}
use Rattle.idl_declared_types.proofs.KindLists.{type_at-stands}
use Rattle.idl_declared_types.proofs.NameLists.{within_stands, stands_within}
use Rattle.idl_declared_types.proofs.Dimensions.{star_next, star_last, no_star}
use Rattle.idl_declared_types.proofs.typing.with_stars.Goals as goal

pub returns-in_default-clause-stands : goal.returns-in_default-clause-stands
returns-in_default-clause-stands c =
    let less : length c.args.stars.now < 1 = omega (arith, c.in_default.ensures) in
    stands_within c.args.kinds.now c.args.of c.requires ∙ ap Some (sym (no_star (seen_class c.args.default) (seen_class c.args.outermost) (type_at c.args.kinds.now c.args.of) c.args.stars.now less))

-- one star more
more : (new : List Kind) (number : ℕ) (d o : Option PointerClass) (t : IdlType) (stars : List ℕ) (i : ℕ) → i + 1 < length stars → Stands new number (Pointer d t)
    → with_stars d o t (drop i stars) ≡ with_stars d o (type_at new number) (drop (i + 1) stars)
more new number d o t stars i below stands =
    let next : suc i ≡ i + 1 = omega arith in
    star_next d o t stars i below ∙ ap (λ u. with_stars d o u (drop (suc i) stars)) (sym (type_at-stands new number (Pointer d t) stands))
    ∙ ap (λ j. with_stars d o (type_at new number) (drop j stars)) next

pub loop-index-preserved : goal.loop-index-preserved
loop-index-preserved c = record {
  within = within_stands c.add.new.self c.in_ok-to.to _ c.in_ok-to.ensures.stands;
  keeps = λ n t h. c.in_ok-to.ensures.keeps n t (c.loop-index.invariant.keeps n t h);
  same =
      let below : c.loop-index.index + 1 < length c.args.stars.now = omega (arith, c.in-Some.ensures) in
      c.loop-index.invariant.same
      ∙ more c.add.new.self c.in_ok-to.to (seen_class c.args.default) (seen_class c.args.outermost)
      (type_at c.loop-index.kinds c.loop-index.to) c.args.stars.now c.loop-index.index below c.in_ok-to.ensures.stands;
}

pub returns-clause-stands : goal.returns-clause-stands
returns-clause-stands c =
    let end : c.loop-index.index + 1 ≡ length c.args.stars.now = omega (arith, c.in-Some.ensures) in
    c.in_ok-number.ensures.stands
    ∙ ap Some (sym (c.loop-index.invariant.same
    ∙ star_last (seen_class c.args.default) (seen_class c.args.outermost) (type_at c.loop-index.kinds c.loop-index.to) c.args.stars.now c.loop-index.index end))
