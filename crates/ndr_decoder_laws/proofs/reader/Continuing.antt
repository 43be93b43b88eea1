-- What is left to be read stays the same as reading goes on: at the beginning of a node, from child to child, at its end; and where reading has stopped
-- it stays so.
use Rattle.std.proofs.Common.{◌≡◌, ℕ, ◌+◌, zero, suc, Bool, true, false, List, [], ◌∷◌, ◌++◌, Option, Some, None, refl, ap, sym, ◌∙◌}
use Rattle.std.specs.Prelude.{pos, ◌&&◌, not, map, replicate}
use Rattle.nd_base.specs.declared.octets.Order.{Order}
use Rattle.nd_types.specs.declared.types.TypeDef.{TypeDef}
use Rattle.nd_types.specs.declared.types.TypeDef.TheVariants as def
use Rattle.nd_types.specs.declared.types.Arm.{Arm}
use Rattle.nd_types.specs.Table.{Table, type_at}
use Rattle.nd_types.specs.Layout.{hoists}
use Rattle.nd_value.specs.declared.item.Home.{Home}
use Rattle.nd_value.specs.Tree as tree
use Rattle.nd_value.specs.Tree.{Tree, Trees, node, none, more, joined, Label}
use Rattle.nd_value.specs.Nodes.{child_agreements, child_types}
use Rattle.nd_grammar.specs.Entry.{child_tests, Entry, EntryAt, size_at}
use Rattle.nd_grammar.specs.declared.reason.Reason.{Reason}
use Rattle.nd_grammar.specs.Refusal.{refusal}
use Rattle.nd_grammar.specs.Reader.{Progress, Names, Read, ReadAll, advanced, pass, pass_all, read_list, read_in_place, read_children, read_tagged, read_by, read_if, tree_nodes, bound_or}
use Rattle.ndr_decoder_laws.specs.reader.Halves.{gap_of, past_gap, after_gap, tagged_after, tag_gap}
use Rattle.ndr_decoder_laws.specs.reader.Around.{Around, going, stopped, moved, with_left, closed, continue, go_on, finish}

module _ (order : Order) (octets : List ℕ) where
  -- an entry that is not refused
  pub passed : (m : Entry) (at : ℕ) (seen : List EntryAt) → refusal order octets seen (record { at = at; entry = m }) ≡ None
      → pass order octets m (going at seen) ≡ going (at + size_at at m.kind) (seen ++ record { at = at; entry = m } ∷ [])
  passed m at seen e = ap (λ o. advanced None o (going at seen) m) e

  -- one that is refused
  pub refused : (m : Entry) (at : ℕ) (seen : List EntryAt) (r : ℕ × Reason) → refusal order octets seen (record { at = at; entry = m }) ≡ Some r
      → pass order octets m (going at seen) ≡ stopped at seen r
  refused m at seen r e = ap (λ o. advanced None o (going at seen) m) e

  -- where reading has stopped it stays
  pub all_stay : (ms : List Entry) (at : ℕ) (seen : List EntryAt) (r : ℕ × Reason) → pass_all order octets ms (stopped at seen r) ≡ stopped at seen r
  all_stay [] at seen r = refl
  all_stay (m ∷ ms) at seen r = all_stay ms at seen r

module _ (order : Order) (octets : List ℕ) (table : Table) (h : Home) where
  tag_in_halves : (read : ℕ → ℕ → Progress → Names → Read) (d c : Option TypeDef) (n : ℕ) (arms : List Arm) (default : Option Arm) (p : Progress) (s : Names)
      → read_tagged order octets table h read d c n arms default p s
      ≡ tagged_after order octets table h read d c n arms default (past_gap order octets table h n (tag_gap c) p) s
  tag_in_halves read d (Some (def.Prim prim)) n arms default p s = refl
  tag_in_halves read d (Some (def.Enum values)) n arms default p s = refl
  tag_in_halves read d (Some (def.Struct members)) n arms default p s = refl
  tag_in_halves read d (Some (def.Array elem bound varying)) n arms default p s = refl
  tag_in_halves read d (Some (def.Text elem bound)) n arms default p s = refl
  tag_in_halves read d (Some (def.Union tag enc xs x)) n arms default p s = refl
  tag_in_halves read d (Some (def.Pointer class to)) n arms default p s = refl
  tag_in_halves read d (Some def.Context) n arms default p s = refl
  tag_in_halves read d (Some (def.Pipe elem)) n arms default p s = refl
  tag_in_halves read d None n arms default p s = refl

  -- a value is its gap and what comes after it
  pub in_halves : (read : ℕ → ℕ → Progress → Names → Read) (m t : ℕ) (d : Option TypeDef) (n : ℕ) (p : Progress) (s : Names)
      → read_by order octets table h read m t d n p s ≡ after_gap order octets table h read m t d n (past_gap order octets table h n (gap_of table t d) p) s
  in_halves read m t (Some (def.Prim prim)) n p s = refl
  in_halves read m t (Some (def.Enum values)) n p s = refl
  in_halves read m t (Some (def.Struct members)) n p s = refl
  in_halves read m t (Some (def.Array elem bound false)) n p s = refl
  in_halves read m t (Some (def.Array elem bound true)) n p s = refl
  in_halves read m t (Some (def.Text elem bound)) n p s = refl
  in_halves read m t (Some (def.Union tag enc arms default)) n p s =
      tag_in_halves read (Some (def.Union tag enc arms default)) (type_at table tag.0) n arms default p s
  in_halves read m t (Some (def.Pointer class to)) n p s = refl
  in_halves read m t (Some def.Context) n p s = refl
  in_halves read m t (Some (def.Pipe elem)) n p s = refl
  in_halves read m t None n p s = refl

pub joined_more : (xs : Trees) (x : Tree) (ys : Trees) → joined (joined xs (more x none)) ys ≡ joined xs (more x ys)
joined_more none x ys = refl
joined_more (more t ts) x ys = ap (more t) (joined_more ts x ys)

module _ (order : Order) (octets : List ℕ) (table : Table) (h : Home) (m : ℕ) where
  abbrev read : ℕ → ℕ → ℕ → Progress → Names → Read
  read depth = read_in_place order octets table h depth m

  pub moves : (depth : ℕ) (fs : List Around) (f : Around) (t : ℕ) (types : List ℕ) (v : Tree) (at : ℕ) (seen : List EntryAt) (s : Names)
      → finish order octets table h m depth (with_left f (t ∷ types) ∷ fs) (record { tree = v; progress = going at seen; names = s })
      ≡ finish order octets table h m depth (moved f v t types ∷ fs) (read depth t (f.next + tree_nodes v) (going at seen) s)
  moves depth fs f t types v at seen s =
      let r : Read = read depth t (f.next + tree_nodes v) (going at seen) s in
      let others : ReadAll = read_list table (read depth) types (f.next + tree_nodes v + tree_nodes r.tree) r.progress r.names in
      ap (λ kids. finish order octets table h m (suc depth) fs (closed order octets table h f kids others.progress others.names))
      (sym (joined_more f.done v (more r.tree others.trees)))

  -- after a child that was read the node goes on with those that are left
  pub goes_on : (depth : ℕ) (f : Around) (v : Tree) (p : Progress) (s : Names)
      → go_on order octets table h m depth f (record { tree = v; progress = p; names = s }) ≡ continue order octets table h m depth (moved f v f.child f.left) p s
  goes_on depth f v p s =
      let others : ReadAll = read_list table (read depth) f.left (f.next + tree_nodes v) p s in
      ap (λ kids. closed order octets table h f kids others.progress others.names) (sym (joined_more f.done v others.trees))

-- where reading has stopped it stays so, whatever is read then
module _ (order : Order) (octets : List ℕ) (table : Table) (h : Home) (at : ℕ) (seen : List EntryAt) (why : ℕ × Reason) where
  abbrev end : Progress
  end = stopped at seen why

  abbrev Stays : (ℕ → ℕ → Progress → Names → Read) → Type 0
  Stays rd = (t n : ℕ) (s : Names) → (rd t n end s).progress ≡ end

  if_stays : (rd : ℕ → ℕ → Progress → Names → Read) → Stays rd → (b : Bool) (t n : ℕ) (s : Names) → (read_if b (rd t n) end s).progress ≡ end
  if_stays rd k true t n s = refl
  if_stays rd k false t n s = k t n s

  list_stays : (rd : ℕ → ℕ → Progress → Names → Read) → Stays rd → (types : List ℕ) (n : ℕ) (s : Names) → (read_list table rd types n end s).progress ≡ end
  list_stays rd k [] n s = refl
  list_stays rd k (t ∷ types) n s =
      let first : Read = read_if (true && not (hoists table t)) (rd t n) end s in
      ap (λ p. (read_list table rd types (n + tree_nodes first.tree) p first.names).progress) (if_stays rd k (true && not (hoists table t)) t n s)
      ∙ list_stays rd k types (n + tree_nodes first.tree) first.names

  pub children_stay : (rd : ℕ → ℕ → Progress → Names → Read) → Stays rd → (d : Option TypeDef) (n : ℕ) (l : Label) (types : List ℕ) (s : Names)
      → (read_children order octets table h rd d n l types end s).progress ≡ end
  children_stay rd k d n l types s =
      let kids : ReadAll = read_list table rd types (n + 1) end s in
      ap (λ p. pass_all order octets (child_tests h (child_agreements d kids.trees) (n + 1) kids.trees) p) (list_stays rd k types (n + 1) s)
      ∙ all_stay order octets (child_tests h (child_agreements d kids.trees) (n + 1) kids.trees) at seen why

  tagged_stays : (rd : ℕ → ℕ → Progress → Names → Read) → Stays rd → (d c : Option TypeDef) (n : ℕ) (arms : List Arm) (default : Option Arm) (s : Names)
      → (read_tagged order octets table h rd d c n arms default end s).progress ≡ end
  tagged_stays rd k d (Some (def.Prim prim)) n arms default s = children_stay rd k d n (tree.Union (pos 0)) (child_types d (tree.Union (pos 0)) none) s
  tagged_stays rd k d (Some (def.Enum values)) n arms default s = children_stay rd k d n (tree.Union (pos 0)) (child_types d (tree.Union (pos 0)) none) s
  tagged_stays rd k d (Some (def.Struct members)) n arms default s = refl
  tagged_stays rd k d (Some (def.Array elem bound varying)) n arms default s = refl
  tagged_stays rd k d (Some (def.Text elem bound)) n arms default s = refl
  tagged_stays rd k d (Some (def.Union tag enc xs x)) n arms default s = refl
  tagged_stays rd k d (Some (def.Pointer class to)) n arms default s = refl
  tagged_stays rd k d (Some def.Context) n arms default s = refl
  tagged_stays rd k d (Some (def.Pipe elem)) n arms default s = refl
  tagged_stays rd k d None n arms default s = refl

  by_stays : (rd : ℕ → ℕ → Progress → Names → Read) → Stays rd → (m t : ℕ) (d : Option TypeDef) (n : ℕ) (s : Names)
      → (read_by order octets table h rd m t d n end s).progress ≡ end
  by_stays rd k m t (Some (def.Prim prim)) n s = refl
  by_stays rd k m t (Some (def.Enum values)) n s = refl
  by_stays rd k m t (Some (def.Struct members)) n s = children_stay rd k (Some (def.Struct members)) n tree.Rec (map (λ f. f.of.0) members) s
  by_stays rd k m t (Some (def.Array elem bound false)) n s = children_stay rd k (Some (def.Array elem bound false)) n (tree.Arr (bound_or bound m) 0) (replicate (bound_or bound m) elem.0) s
  by_stays rd k m t (Some (def.Array elem bound true)) n s = children_stay rd k (Some (def.Array elem bound true)) n (tree.Arr (bound_or bound m) 0) (replicate 0 elem.0) s
  by_stays rd k m t (Some (def.Text elem bound)) n s = refl
  by_stays rd k m t (Some (def.Union tag enc arms default)) n s =
      tagged_stays rd k (Some (def.Union tag enc arms default)) (type_at table tag.0) n arms default s
  by_stays rd k m t (Some (def.Pointer class to)) n s = refl
  by_stays rd k m t (Some def.Context) n s = refl
  by_stays rd k m t (Some (def.Pipe elem)) n s = refl
  by_stays rd k m t None n s = refl

  pub in_place_stays : (depth m : ℕ) → Stays (read_in_place order octets table h depth m)
  in_place_stays zero m t n s = refl
  in_place_stays (suc depth) m t n s = by_stays (read_in_place order octets table h depth m) (in_place_stays depth m) m t (type_at table t) n s

  go_on_stays : (depth m : ℕ) (f : Around) (r : Read) → r.progress ≡ end → (go_on order octets table h m depth f r).progress ≡ end
  go_on_stays depth m f r e =
      let others : Progress → ReadAll = λ p. read_list table (read_in_place order octets table h depth m) f.left (f.next + tree_nodes r.tree) p r.names in
      let kids : Progress → Trees = λ p. joined f.done (more r.tree (others p).trees) in
      ap (λ p. pass_all order octets (child_tests h (child_agreements f.of (kids p)) (f.node + 1) (kids p)) (others p).progress) e
      ∙ ap (λ p. pass_all order octets (child_tests h (child_agreements f.of (kids end)) (f.node + 1) (kids end)) p)
      (list_stays (read_in_place order octets table h depth m) (in_place_stays depth m) f.left (f.next + tree_nodes r.tree) r.names)
      ∙ all_stay order octets (child_tests h (child_agreements f.of (kids end)) (f.node + 1) (kids end)) at seen why

  -- whatever is around a value at which reading has stopped, it has stopped there
  pub finish_stays : (depth m : ℕ) (fs : List Around) (r : Read) → r.progress ≡ end → (finish order octets table h m depth fs r).progress ≡ end
  finish_stays depth m [] r e = e
  finish_stays depth m (f ∷ fs) r e = finish_stays (suc depth) m fs (go_on order octets table h m depth f r) (go_on_stays depth m f r e)

  gap_stays : (n : ℕ) (g : Option ℕ) → past_gap order octets table h n g end ≡ end
  gap_stays n None = refl
  gap_stays n (Some a) = refl

  -- and a value whose gap stops it
  pub after_gap_stays : (depth m t : ℕ) (d : Option TypeDef) (n : ℕ) (s : Names)
      → (after_gap order octets table h (read_in_place order octets table h depth m) m t d n end s).progress ≡ end
  after_gap_stays depth m t d n s =
      let rd : ℕ → ℕ → Progress → Names → Read = read_in_place order octets table h depth m in
      ap (λ p. (after_gap order octets table h rd m t d n p s).progress) (sym (gap_stays n (gap_of table t d)))
      ∙ sym (ap (λ r. r.progress) (in_halves order octets table h rd m t d n end s))
      ∙ by_stays rd (in_place_stays depth m) m t d n s
