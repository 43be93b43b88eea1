use Rattle.std.proofs.Common.{◌∙◌, sym}
use Rattle.ctx_store.specs.Seen.{store_seen}
use Rattle.ctx_store.proofs.Entries.{place_shown, absent}
use Rattle.ctx_store.proofs.store.StoreOf.open.Goals as goal

pub push-requires-in-Ok-clause-absent : goal.push-requires-in-Ok-clause-absent
push-requires-in-Ok-clause-absent g c =
    place_shown g.R.Resource.shows c.args.self.now.entries.items c.args.self.now.handles.ids c.args.id c.args.self.now.aligned
    ∙ absent (store_seen g.R.Resource.shows c.args.self.now) c.args.id (sym c.fault_of.ensures ∙ c.in_default.is)
