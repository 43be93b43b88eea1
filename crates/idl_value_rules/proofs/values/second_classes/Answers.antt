use Rattle.std.proofs.Common.{◌∙◌, map, take, ap, ap₂, sym, refl, arith, option_map, ◌&&◌, ◌+◌}
use Rattle.idl_grammar.specs.Seen.{seen_attribute}
use Rattle.idl_scope.specs.Seen.{seen_files}
use Rattle.idl_rule_definitions.specs.DeclarationRules.{is_second_class}
use Rattle.idl_rule_definitions.specs.Rules.{broken_at}
use Rattle.idl_constructs.specs.SeenNodes.{seen_construct}
use Rattle.idl_rule_definitions.specs.Noted.{noted, if_broken}
use Rattle.idl_rule_definitions.specs.Found.{seen_breach}
use Rattle.idl_constructs.proofs.ListNotes.{if_broken_is}
use Rattle.idl_rule_definitions.proofs.OtherNotes.{part_noted}
use Rattle.idl_value_rules.proofs.ValueNotes.{class_breaches, class_next, classes_left, no_class_left}
use Rattle.idl_value_rules.proofs.values.second_classes.Goals as goal
use Rattle.idl_rule_definitions.specs.declared.rule.TheConstants as Rule

pub loop-one-init : goal.loop-one-init
loop-one-init c = (refl, refl, (λ w s names files. refl))

pub loop-one-preserved : goal.loop-one-preserved
loop-one-preserved c =
    let k = seen_construct c.args.construct.now in
    let xs = c.args.construct.now.attributes.now in
    let i = c.loop-one.one-index in
    let x = c.one-item.result in
    let broken = ap₂ (λ a b. a && b) c.is_class-class.ensures c.loop-one.invariant.1 in (
      c.note.ensures.files ∙ c.loop-one.invariant.0,
      class_next xs i x c.loop-one.found _ (omega arith) c.one-item.is c.loop-one.invariant.1 c.is_class-class.ensures,
      (λ w s names files. part_noted w (broken_at k Rule.CLASSES_ON_POINTERS k.at (is_second_class (map seen_attribute (take i xs)) (seen_attribute x))) (class_breaches s names k xs (i + 1))
          (class_breaches s names k xs i) _ _ _
          (classes_left s names k xs i x (omega arith) c.one-item.is)
          (c.note.ensures.first w (files ∙ ap seen_files (sym c.loop-one.invariant.0))
          ∙ ap₂ (λ p b. noted w (option_map seen_breach c.loop-one.finder.first) (if_broken 26 p b)) c.place.ensures broken
          ∙ ap (λ l. noted w (option_map seen_breach c.loop-one.finder.first) l) (if_broken_is k 26 k.at (is_second_class (map seen_attribute (take i xs)) (seen_attribute x))))
          (c.loop-one.invariant.2 w s names files)),
    )

pub returns-clause-files : goal.returns-clause-files
returns-clause-files c = c.loop-one.invariant.0

pub returns-clause-first : goal.returns-clause-first
returns-clause-first c w s names files =
    no_class_left w s names (seen_construct c.args.construct.now) c.args.construct.now.attributes.now c.loop-one.one-index _ _ (omega arith) (c.loop-one.invariant.2 w s names files)
