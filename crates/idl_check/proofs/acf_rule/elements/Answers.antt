use Rattle.std.proofs.Common.{◌∙◌, refl, sym, ap, option_map, arith}
use Rattle.idl_scope.specs.Seen.{seen_files, known_in}
use Rattle.acf_reader.specs.Seen.{seen_element}
use Rattle.idl_rule_definitions.specs.Found.{seen_breach}
use Rattle.idl_check.specs.AcfRules.{breaches_of_element}
use Rattle.idl_check.proofs.AcfNotes.{one_part, no_part}
use Rattle.idl_check.proofs.acf_rule.elements.Goals as goal

pub loop-one-init : goal.loop-one-init
loop-one-init c = (refl, (λ w main files exports. refl))

pub loop-one-preserved : goal.loop-one-preserved
loop-one-preserved c = (
  c.element.ensures.files ∙ c.loop-one.invariant.0,
  (λ w main files exports.
      one_part seen_element (breaches_of_element (known_in c.args.scope.now) main) c.args.body.now w (option_map seen_breach c.loop-one.finder.first) _ c.loop-one.one-index
      c.one-item.result c.loop-one-test.true c.one-item.is
      (c.element.ensures.first w main (files ∙ ap seen_files (sym c.loop-one.invariant.0)) exports)
      ∙ c.loop-one.invariant.1 w main files exports),
)

pub returns-clause-files : goal.returns-clause-files
returns-clause-files c = c.loop-one.invariant.0

pub returns-clause-first : goal.returns-clause-first
returns-clause-first c w main files exports =
    sym (no_part seen_element (breaches_of_element (known_in c.args.scope.now) main) c.args.body.now w (option_map seen_breach c.loop-one.finder.first) c.loop-one.one-index (omega arith))
    ∙ c.loop-one.invariant.1 w main files exports
