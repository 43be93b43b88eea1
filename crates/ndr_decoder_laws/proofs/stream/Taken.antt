-- What is kept without the next of the pending referents.
use Rattle.std.proofs.Common.{ℕ, List, ◌∷◌, ap}
use Rattle.nd_base.specs.declared.octets.Order.{Order}
use Rattle.nd_value.specs.declared.item.Item.{Item}
use Rattle.nd_value.specs.Deferral.{Pending}
use Rattle.nd_value.specs.Setting.{Setting}
use Rattle.nd_grammar.specs.Entry.{EntryAt}
use Rattle.nd_grammar.specs.StreamReader.{Reading}
use Rattle.ndr_decoder_laws.specs.stream.Between.{Between, Keeps, others_of, taken}

pub kept_taken : (w : Setting) (order : Order) (fetched : List ℕ) (noted : List Item) (direct : ℕ) (b : Between) (s : Reading) (seen : List EntryAt) (p : Pending) (ps : List Pending)
    → Keeps w order fetched noted direct b s seen (p ∷ ps) → Keeps w order fetched noted direct (taken b) s seen ps
kept_taken w order fetched noted direct b s seen p ps k =
    record { at = k.at; pending = ap others_of k.pending; told = k.told; roots = k.roots; read = k.read; not_read = k.not_read; graph = k.graph }
