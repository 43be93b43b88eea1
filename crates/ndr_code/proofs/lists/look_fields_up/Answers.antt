use Rattle.std.proofs.Common.{sym}
use Rattle.ndr_code.proofs.FieldTables.{fields_more, one_longer}
use Rattle.ndr_code.proofs.lists.look_fields_up.Goals as goal

pub loop-at-preserved : goal.loop-at-preserved
loop-at-preserved c = (
  fields_more c.args.code.now c.loop-at.fields.items c.push.new.list.items c.field_at.result c.loop-at.at c.loop-at.invariant.0 c.loop-at.invariant.1 (sym c.field_at.ensures)
      c.in_ok-push.ensures.ok,
  one_longer c.loop-at.fields.items c.push.new.list.items c.field_at.result c.loop-at.at c.loop-at.invariant.1 c.in_ok-push.ensures.ok,
)
