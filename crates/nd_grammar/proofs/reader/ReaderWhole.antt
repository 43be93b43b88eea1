-- The pointers of a whole value that is read.
use Rattle.std.proofs.Common.{ℕ, Bool, true, false, List}
use Rattle.nd_base.specs.declared.octets.Order.{Order}
use Rattle.nd_types.specs.Table.{Table, type_at}
use Rattle.nd_types.specs.Layout.{hoists}
use Rattle.nd_value.specs.declared.item.Home.{Home}
use Rattle.nd_grammar.specs.Entry.{Align, Max}
use Rattle.nd_grammar.specs.Reader.{Progress, Names, is_stopped, pass, taken, number_in, read_if, read_in_place, read_hoisted, read_whole}
use Rattle.nd_grammar.proofs.reader.ReaderInPlace.{Readable}
use Rattle.nd_grammar.specs.ReaderState.{Linked}
use Rattle.nd_grammar.proofs.reader.ReaderLeaves.{Leaves, passes, in_place_leaves, unread_leaves}

module _ (order : Order) (octets : List ℕ) (table : Table) (h : Home) where
  hoisted_leaves : (b : Bool) (t : ℕ) → Readable table 32 t → (p : Progress) (s : Names)
      → Leaves order octets table h (type_at table t) p s (read_hoisted order octets table h b t p s)
  hoisted_leaves false t r p s = in_place_leaves order octets table h 32 0 t r 0 p s
  hoisted_leaves true t r p s =
      let gap : Progress = pass order octets (record { home = h; node = 0; kind = Align 4 }) p in
      let m : ℕ = number_in order octets (taken order octets (record { home = h; node = 0; kind = Max 0 }) gap) in
      let q : Progress = pass order octets (record { home = h; node = 0; kind = Max m }) gap in
      let a : Leaves order octets table h (type_at table t) q s (read_in_place order octets table h 32 m t 0 q s) = in_place_leaves order octets table h 32 m t r 0 q s in
      let before : Linked order octets p s → Linked order octets q s =
      λ l. passes order octets table h p s (record { home = h; node = 0; kind = Align 4 }) (record { home = h; node = 0; kind = Max m }) l in
      record {
        extends = a.extends;
        linked = λ l. a.linked (before l);
        pointers = λ l k ags. a.pointers (before l) k ags;
      }

  -- The pointers of a whole value that is read name cells that are there, and share them only if they are full.
  pub whole_leaves : (t : ℕ) → Readable table 32 t → (p : Progress) (s : Names)
      → Leaves order octets table h (type_at table t) p s (read_whole order octets table h t p s)
  whole_leaves t r p s = by_stop (is_stopped p.stop)
    where
      by_stop : (b : Bool) → Leaves order octets table h (type_at table t) p s (read_if b (read_hoisted order octets table h (hoists table t) t) p s)
      by_stop false = hoisted_leaves (hoists table t) t r p s
      by_stop true = unread_leaves order octets table h (type_at table t) p s
