use Rattle.std.proofs.Common.{◌∙◌, ap, refl}
use Rattle.idl_scope.specs.Known.{put, table}
use Rattle.idl_scope.proofs.Tables.{put_is}
use Rattle.idl_scope.proofs.table.Table.insert.Goals as goal
use Rattle.idl_scope.proofs.table.Table.insert.Goals.{in-Ok, in-Err}

pub returns : goal.returns
returns g c = elim c.match-insert.branch [
  | in-Ok w ↦
      let entries = c.self.inside.entries.entries in
      let new = rw w.in-Ok.is at c.insert.ensures.entries in
      rw w.result-is (
      ap (λ es. table es) new
      ∙ (put_is _ c.in_ok-key.key c.args.value (λ e. refl) entries
      ∙ (ap (λ n. put (table entries) n c.args.value) c.in_ok-key.ensures.items
      ∙ ap (λ t. put t c.args.name.now c.args.value) c.self.view_is))
      )
  | in-Err w ↦
      let same = rw w.in-Err.is at c.insert.ensures.err in
      rw w.result-is (ap (λ es. table es) same ∙ c.self.view_is)
]
