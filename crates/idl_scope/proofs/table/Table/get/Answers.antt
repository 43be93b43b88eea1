use Rattle.std.proofs.Common.{◌∙◌, ap}
use Rattle.idl_scope.specs.Known.{found}
use Rattle.idl_scope.proofs.Tables.{found_is}
use Rattle.idl_scope.proofs.table.Table.get.Goals as goal

pub returns : goal.returns
returns g c = c.copied.ensures ∙ (c.get.ensures.value ∙ (found_is c.args.name.now c.self.inside.entries.entries ∙ ap (λ t. found c.args.name.now t) c.self.view_is))
