use Rattle.std.proofs.Common.{◌≡◌}
use Rattle.idl_scope.specs.Known.{put}
use Rattle.idl_scope.proofs.Tables.{where_put}
use Rattle.idl_scope.proofs.table.Table.put.Goals as goal

pub returns : goal.returns
returns g c = where_put (c.insert.new.self ≡ put c.args.self.now c.args.name.now c.args.value) (c.insert.new.self ≡ c.args.self.now) c.insert.result c.insert.ensures
