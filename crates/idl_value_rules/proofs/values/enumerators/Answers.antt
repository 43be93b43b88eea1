use Rattle.std.proofs.Common.{◌∙◌, ap, ap₂, sym, refl, arith, option_map}
use Rattle.idl_scope.specs.Seen.{seen_files}
use Rattle.idl_rule_definitions.specs.DeclarationRules.{is_large_enumerator}
use Rattle.idl_rule_definitions.specs.Nodes.{place_in}
use Rattle.idl_constructs.specs.SeenNodes.{seen_construct}
use Rattle.idl_rule_definitions.specs.Noted.{noted, if_broken}
use Rattle.idl_rule_definitions.specs.Found.{seen_breach}
use Rattle.idl_constructs.proofs.ListNotes.{if_broken_is}
use Rattle.idl_rule_definitions.proofs.OtherNotes.{item_noted, all_noted}
use Rattle.idl_value_rules.proofs.ValueNotes.{enumerator_breaches, enumerator_breach, enumerators_cons}
use Rattle.idl_value_rules.proofs.values.enumerators.Goals as goal

pub loop-one-init : goal.loop-one-init
loop-one-init c = (refl, (λ w s names files known. refl))

pub loop-one-preserved : goal.loop-one-preserved
loop-one-preserved c =
    let k = seen_construct c.args.construct.now in
    let e = c.one-item.result in (
      c.note.ensures.files ∙ c.loop-one.invariant.0,
      (λ w s names files known. item_noted (enumerator_breach s k) (enumerator_breaches s names k) (enumerators_cons s names k) refl c.args.list.now w c.loop-one.one-index e _ _ _
          (omega arith) c.one-item.is
          (c.note.ensures.first w (files ∙ ap seen_files (sym c.loop-one.invariant.0))
          ∙ ap₂ (λ p b. noted w (option_map seen_breach c.loop-one.finder.first) (if_broken 13 p b)) (c.place.ensures ∙ ap (place_in k) c.at.ensures)
          (c.is_large_enumerator-broken.ensures ∙ ap (λ n. is_large_enumerator n e.name) (sym known))
          ∙ ap (λ l. noted w (option_map seen_breach c.loop-one.finder.first) l) (if_broken_is k 13 e.name.at (is_large_enumerator s.known e.name)))
          (c.loop-one.invariant.1 w s names files known)),
    )

pub returns-clause-files : goal.returns-clause-files
returns-clause-files c = c.loop-one.invariant.0

pub returns-clause-first : goal.returns-clause-first
returns-clause-first c w s names files known =
    let k = seen_construct c.args.construct.now in
    all_noted (enumerator_breach s k) (enumerator_breaches s names k) (enumerators_cons s names k) refl c.args.list.now w c.loop-one.one-index _ _ (omega arith)
    (c.loop-one.invariant.1 w s names files known)
