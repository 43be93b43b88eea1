use Rattle.std.proofs.Common.{◌∙◌, refl, sym, ap, map, option_map, arith}
use Rattle.idl_grammar.specs.Seen as of_idl
use Rattle.idl_scope.specs.Seen.{seen_files}
use Rattle.acf_reader.specs.Seen.{seen_parameter}
use Rattle.idl_rule_definitions.specs.Noted.{noted}
use Rattle.idl_rule_definitions.specs.Found.{seen_breach}
use Rattle.idl_check.specs.AcfRules.{breaches_of_parameter}
use Rattle.idl_check.proofs.AcfNotes.{one_part, no_part}
use Rattle.idl_check.proofs.acf_rule.parameters.Goals as goal

pub loop-one-init : goal.loop-one-init
loop-one-init c = (refl, (λ w files. refl))

pub loop-one-preserved : goal.loop-one-preserved
loop-one-preserved c =
    let breaches = breaches_of_parameter (map of_idl.seen_parameter c.args.parameters.now) in (
      c.note.ensures.files ∙ c.loop-one.invariant.0,
      (λ w files.
          one_part seen_parameter breaches c.args.list.now w (option_map seen_breach c.loop-one.finder.first) _ c.loop-one.one-index c.one-item.result c.loop-one-test.true c.one-item.is
          (c.note.ensures.first w (files ∙ ap seen_files (sym c.loop-one.invariant.0))
          ∙ ap (λ l. noted w (option_map seen_breach c.loop-one.finder.first) l) c.breaks_parameter.ensures)
          ∙ c.loop-one.invariant.1 w files),
    )

pub returns-clause-files : goal.returns-clause-files
returns-clause-files c = c.loop-one.invariant.0

pub returns-clause-first : goal.returns-clause-first
returns-clause-first c w files =
    let breaches = breaches_of_parameter (map of_idl.seen_parameter c.args.parameters.now) in
    sym (no_part seen_parameter breaches c.args.list.now w (option_map seen_breach c.loop-one.finder.first) c.loop-one.one-index (omega arith))
    ∙ c.loop-one.invariant.1 w files
