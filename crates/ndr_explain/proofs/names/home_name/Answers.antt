use Rattle.std.proofs.Common.{ap, sym, ◌∙◌}
use Rattle.std.specs.List.{slice_get}
use Rattle.nd_types.specs.declared.types.Side.{Side}
use Rattle.nd_value.specs.Fitting.{setting_beside}
use Rattle.nd_value.specs.Setting.{Setting}
use Rattle.text_grammar.specs.Paths.{home_name}
use Rattle.ndr_explain.proofs.HomeNodes.{op_known}
use Rattle.ndr_explain.proofs.names.home_name.Goals as goal

pub name_of-requires : goal.name_of-requires
name_of-requires c = record { known = op_known c.args.interface.now c.args.fit.now c.op.result c.op.ensures c.requires.tied c.flat-conforming.ensures.conforms }

pub returns : goal.returns
returns c w s =
    let i = c.args.interface.now in
    let f = c.args.fit.now in
    c.name_of.ensures s.operation (ap (slice_get i.operations) c.op.ensures ∙ s.is_there) f.given
    ∙ ap (λ (v : Setting). home_name v c.args.home) (ap (λ (d : Side). setting_beside i s.operation d f.given) c.side.ensures ∙ sym s.is)
