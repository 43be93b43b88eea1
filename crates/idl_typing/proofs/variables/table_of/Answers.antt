use Rattle.std.proofs.Common.{◌≡◌, length, refl, sym, ap, ◌∙◌}
use Rattle.std.proofs.lemmas.Option.{slice_get_read, slice_get-get_or}
use Rattle.idl_declared_types.specs.SeenNames.{and_name}
use Rattle.idl_typing.proofs.LookupSteps.{table_next}
use Rattle.idl_typing.proofs.variables.table_of.Goals as goal

pub loop-index-preserved : goal.loop-index-preserved
loop-index-preserved c =
    let ds = c.args.list.now in
    let d = c.index-list-index.result in
    let here = slice_get_read ds (length ds) c.loop-index.index d refl c.loop-index-test.true c.index-list-index.is in
    table_next ds c.loop-index.index c.loop-index.index d c.loop-index.table c.put_first.new.names here refl c.loop-index-test.true c.loop-index.invariant
    (c.in_ok-put_first.ensures ∙ ap (λ z. and_name c.loop-index.table z.declarator.now.name.octets c.loop-index.index) (sym c.index-list-index.is))
