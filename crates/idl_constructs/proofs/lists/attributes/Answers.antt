use Rattle.std.proofs.Common.{◌≡◌, ◌∙◌, ℕ, List, map, take, option_map, refl, ap, sym, arith}
use Rattle.idl_scope.specs.Seen.{seen_files}
use Rattle.idl_grammar.specs.Seen.{seen_attribute}
use Rattle.idl_constructs.specs.SeenNodes.{seen_construct}
use Rattle.idl_rule_definitions.specs.Found.{seen_breach}
use Rattle.idl_constructs.specs.ListBreaches.{is_among, AreWords}
use Rattle.idl_constructs.proofs.ListNotes.{one_noted, none_left, words_next}
use Rattle.idl_constructs.proofs.lists.attributes.Goals as goal

pub loop-one-init : goal.loop-one-init
loop-one-init c = (refl, (λ word. ap (λ l. is_among word l) c.new-words.ensures.items), (λ w files. refl))

pub returns-in_err-enlist-clause-files : goal.returns-in_err-enlist-clause-files
returns-in_err-enlist-clause-files c = c.attribute.ensures.files ∙ c.loop-one.invariant.0

pub loop-one-preserved : goal.loop-one-preserved
loop-one-preserved c =
    let xs = c.args.construct.now.attributes.now in
    let i = c.loop-one.one-index in
    let below = c.loop-one-test.true in (
      c.attribute.ensures.files ∙ c.loop-one.invariant.0,
      words_next c.enlist.new.words.items xs i c.one-item.result below c.one-item.is
          (c.in_ok-enlist.ensures (map seen_attribute (take i xs)) (seen_attribute c.one-item.result) c.loop-one.invariant.1 c.first_word.ensures),
      (λ w files. one_noted w (seen_construct c.args.construct.now) xs i c.one-item.result _ _ _ below c.one-item.is
          (c.attribute.ensures.first w (map seen_attribute (take i xs)) (files ∙ ap seen_files (sym c.loop-one.invariant.0))
          (λ word. ap (λ l. is_among word l) c.as_slice.ensures.value ∙ c.loop-one.invariant.1 word))
          (c.loop-one.invariant.2 w files)),
    )

pub returns-clause-files : goal.returns-clause-files
returns-clause-files c = c.loop-one.invariant.0

pub returns-clause-first : goal.returns-clause-first
returns-clause-first c w files =
    none_left w (seen_construct c.args.construct.now) c.args.construct.now.attributes.now c.loop-one.one-index _ _ (omega arith) (c.loop-one.invariant.2 w files)
