-- Reading the value of a home passes entries of this home alone, after those that were passed before.
use Rattle.std.proofs.Common.{◌≡◌, ℕ, ◌+◌, ◌-◌, zero, suc, Bool, true, false, List, [], ◌∷◌, ◌++◌, Option, Some, None, refl, ap, sym, ◌∙◌, subst, append_assoc}
use Rattle.std.specs.Prelude.{pos, ◌&&◌, not, map, replicate, ℤ}
use Rattle.std.specs.List.{AllByRecursion}
use Rattle.std.proofs.lemmas.List.{append-nil}
use Rattle.nd_base.specs.declared.octets.Order.{Order}
use Rattle.nd_types.specs.declared.types.Arm.{Arm}
use Rattle.nd_types.specs.declared.types.Primitive.{Primitive}
use Rattle.nd_types.specs.declared.types.Primitive.TheVariants.{Short}
use Rattle.nd_types.specs.declared.types.TypeDef.{TypeDef}
use Rattle.nd_types.specs.declared.types.TypeDef.TheVariants as def
use Rattle.nd_types.specs.Table.{Table, type_at}
use Rattle.nd_types.specs.Layout.{hoists}
use Rattle.nd_value.specs.declared.item.Home.{Home}
use Rattle.nd_value.specs.Agreement.{Agreement}
use Rattle.nd_value.specs.Nodes.{child_types, child_agreements, first_agreements, rest_agreements}
use Rattle.nd_value.specs.Tree as tree
use Rattle.nd_value.specs.Tree.{Tree, Trees, node, none, more, joined, Label, is_pointer, node_count}
use Rattle.nd_value.proofs.Apart.{all_append}
use Rattle.nd_grammar.specs.declared.reason.Reason.{Reason}
use Rattle.nd_grammar.specs.Entry.{Kind, Entry, Align, Max, Offset, Actual, Number, Num, Tag, Text, Context, tests, own_tests, child_tests}
use Rattle.nd_grammar.specs.Refusal.{refusal}
use Rattle.nd_grammar.specs.Reader.{Progress, Names, Read, ReadAll, is_stopped, here, advanced, pass, pass_all, taken, number_in, value_in, text_in, attributes_in, identifier_in, named, read_if}
use Rattle.nd_grammar.specs.Reader.{read_list, read_children, read_in_place, read_hoisted, read_whole, tree_nodes, bound_or}
use Rattle.ndr_decoder_laws.specs.reader.Around.{Around, tried, tests_of, continue, go_on, finish}
use Rattle.ndr_decoder_laws.specs.reader.Halves.{Reader, gap_of, past_gap, after_gap, array_after_offset, array_after, text_after_count, text_after_offset, text_after, union_tagged, tagged_after}
use Rattle.ndr_decoder_laws.specs.reader.Halves.{hoisted_after}
use Rattle.ndr_decoder_laws.specs.reader.Points.{Point, hoisting, counting, called, due, opened, offset_read, text_offset, text_counted, tagged, between, checking, has, read_at, below, tag_taken}
use Rattle.ndr_decoder_laws.proofs.reader.Continuing.{in_halves}
use Rattle.ndr_decoder_laws.specs.stream.Added.{Added}

pub none_added : (h : Home) (p : Progress) → Added h p p
none_added h p = record { added = []; seen = sym (append-nil p.seen); own = tt }

pub added_twice : (h : Home) (p q r : Progress) → Added h p q → Added h q r → Added h p r
added_twice h p q r a b = record {
  added = a.added ++ b.added;
  seen = b.seen ∙ ap (λ u. u ++ b.added) a.seen ∙ append_assoc p.seen a.added b.added;
  own = all_append (λ x. x.entry.home ≡ h) a.added b.added a.own b.own;
}

advanced_adds : (h : Home) (o r : Option (ℕ × Reason)) (p : Progress) (m : Entry) → m.home ≡ h → Added h p (advanced o r p m)
advanced_adds h (Some x) r p m e = none_added h p
advanced_adds h None (Some x) p m e = record { added = []; seen = sym (append-nil p.seen); own = tt }
advanced_adds h None None p m e = record { added = here p m ∷ []; seen = refl; own = (e, tt) }

pub tests_own : (h : Home) (n : ℕ) (t : Tree) (ags : List Agreement) → AllByRecursion (λ m. m.home ≡ h) (tests h n t ags)
tests_own h n t [] = tt
tests_own h n t (a ∷ ags) = (refl, tests_own h n t ags)

pub own_tests_own : (b : Bool) (h : Home) (n : ℕ) (t : Tree) (ags : List Agreement) → AllByRecursion (λ m. m.home ≡ h) (own_tests b h n t ags)
own_tests_own true h n t ags = tt
own_tests_own false h n t ags = tests_own h n t ags

pub child_tests_own : (h : Home) (ags : List (List Agreement)) (n : ℕ) (ts : Trees) → AllByRecursion (λ m. m.home ≡ h) (child_tests h ags n ts)
child_tests_own h ags n none = tt
child_tests_own h ags n (more (node l ks) ts) =
    all_append (λ m. m.home ≡ h) (own_tests (is_pointer l) h n (node l ks) (first_agreements ags)) (child_tests h (rest_agreements ags) (n + 1 + node_count ks) ts)
    (own_tests_own (is_pointer l) h n (node l ks) (first_agreements ags)) (child_tests_own h (rest_agreements ags) (n + 1 + node_count ks) ts)

module _ (order : Order) (octets : List ℕ) where
  pub pass_adds : (h : Home) (m : Entry) (p : Progress) → m.home ≡ h → Added h p (pass order octets m p)
  pass_adds h m p e = advanced_adds h p.stop (refusal order octets p.seen (here p m)) p m e

  pub all_add : (h : Home) (ms : List Entry) (p : Progress) → AllByRecursion (λ m. m.home ≡ h) ms → Added h p (pass_all order octets ms p)
  all_add h [] p a = none_added h p
  all_add h (m ∷ ms) p a =
      added_twice h p (pass order octets m p) (pass_all order octets ms (pass order octets m p)) (pass_adds h m p a.0) (all_add h ms (pass order octets m p) a.1)

  module _ (table : Table) (h : Home) where
    abbrev Adds : Reader → Type 0
    Adds read = (t n : ℕ) (p : Progress) (s : Names) → Added h p (read t n p s).progress

    abbrev its : ℕ → Kind → Entry
    its n k = record { home = h; node = n; kind = k }

    abbrev past : ℕ → Kind → Progress → Progress
    past n k p = pass order octets (its n k) p

    abbrev octets_of : ℕ → Kind → Progress → Option (List ℕ)
    octets_of n k p = taken order octets (its n k) p

    abbrev count_of : ℕ → Kind → Progress → ℕ
    count_of n k p = number_in order octets (octets_of n k p)

    of_kind : (n : ℕ) (k : Kind) (p : Progress) → Added h p (pass order octets (record { home = h; node = n; kind = k }) p)
    of_kind n k p = pass_adds h (record { home = h; node = n; kind = k }) p refl

    if_adds : (read : Reader) → Adds read → (b : Bool) (t n : ℕ) (p : Progress) (s : Names) → Added h p (read_if b (read t n) p s).progress
    if_adds read k true t n p s = none_added h p
    if_adds read k false t n p s = k t n p s

    pub list_adds : (read : Reader) → Adds read → (types : List ℕ) (n : ℕ) (p : Progress) (s : Names) → Added h p (read_list table read types n p s).progress
    list_adds read k [] n p s = none_added h p
    list_adds read k (t ∷ types) n p s =
        let first : Read = read_if (is_stopped p.stop && not (hoists table t)) (read t n) p s in
        let others : ReadAll = read_list table read types (n + tree_nodes first.tree) first.progress first.names in
        added_twice h p first.progress others.progress
        (if_adds read k (is_stopped p.stop && not (hoists table t)) t n p s)
        (list_adds read k types (n + tree_nodes first.tree) first.progress first.names)

    children_add : (read : Reader) → Adds read → (d : Option TypeDef) (n : ℕ) (l : Label) (types : List ℕ) (p : Progress) (s : Names)
        → Added h p (read_children order octets table h read d n l types p s).progress
    children_add read k d n l types p s =
        let kids : ReadAll = read_list table read types (n + 1) p s in
        let ms : List Entry = child_tests h (child_agreements d kids.trees) (n + 1) kids.trees in
        added_twice h p kids.progress (pass_all order octets ms kids.progress) (list_adds read k types (n + 1) p s)
        (all_add h ms kids.progress (child_tests_own h (child_agreements d kids.trees) (n + 1) kids.trees))

    -- an entry, and then the children
    then_children : (read : Reader) → Adds read → (n : ℕ) (e : Kind) (d : Option TypeDef) (l : Label) (types : List ℕ) (p : Progress) (s : Names)
        → Added h p (read_children order octets table h read d n l types (pass order octets (record { home = h; node = n; kind = e }) p) s).progress
    then_children read k n e d l types p s =
        let q : Progress = pass order octets (record { home = h; node = n; kind = e }) p in
        added_twice h p q (read_children order octets table h read d n l types q s).progress (of_kind n e p) (children_add read k d n l types q s)

    offset_adds : (read : Reader) → Adds read → (d : Option TypeDef) (max elem n o : ℕ) (p : Progress) (s : Names)
        → Added h p (array_after_offset order octets table h read d max elem n o p s).progress
    offset_adds read k d max elem n o p s =
        let c : ℕ = count_of n (Actual false o max 0) p in
        then_children read k n (Actual false o max c) d (tree.Arr max o) (replicate c elem) p s

    array_adds : (read : Reader) → Adds read → (d : Option TypeDef) (varying : Bool) (max elem n : ℕ) (p : Progress) (s : Names)
        → Added h p (array_after order octets table h read d varying max elem n p s).progress
    array_adds read k d false max elem n p s = children_add read k d n (tree.Arr max 0) (replicate max elem) p s
    array_adds read k d true max elem n p s =
        let o : ℕ = count_of n (Offset false 0) p in
        let q : Progress = past n (Offset false o) p in
        added_twice h p q (array_after_offset order octets table h read d max elem n o q s).progress (of_kind n (Offset false o) p) (offset_adds read k d max elem n o q s)

    count_adds : (max c n : ℕ) (p : Progress) (s : Names) → Added h p (text_after_count order octets table h max c n p s).progress
    count_adds max c n p s = of_kind n (Text (text_in order octets c (octets_of n (Text (replicate {A = ℕ} c 0)) p))) p

    text_offset_adds : (max n : ℕ) (p : Progress) (s : Names) → Added h p (text_after_offset order octets table h max n p s).progress
    text_offset_adds max n p s =
        let c : ℕ = count_of n (Actual true 0 max 0) p in
        let q : Progress = past n (Actual true 0 max (c - 1 + 1)) p in
        added_twice h p q (text_after_count order octets table h max (c - 1) n q s).progress (of_kind n (Actual true 0 max (c - 1 + 1)) p) (count_adds max (c - 1) n q s)

    text_adds : (max n : ℕ) (p : Progress) (s : Names) → Added h p (text_after order octets table h max n p s).progress
    text_adds max n p s =
        let q : Progress = past n (Offset true 0) p in
        added_twice h p q (text_after_offset order octets table h max n q s).progress (of_kind n (Offset true 0) p) (text_offset_adds max n q s)

    tagged_union_adds : (read : Reader) → Adds read
        → (d : Option TypeDef) (n : ℕ) (prim : Primitive) (values : Option (List ℤ)) (arms : List Arm) (default : Option Arm) (z : ℤ) (p : Progress) (s : Names)
        → Added h p (union_tagged order octets table h read d n prim values arms default z p s).progress
    tagged_union_adds read k d n prim values arms default z p s =
        then_children read k n (Tag prim values arms default z) d (tree.Union z) (child_types d (tree.Union z) none) p s

    tagged_adds : (read : Reader) → Adds read → (d c : Option TypeDef) (n : ℕ) (arms : List Arm) (default : Option Arm) (p : Progress) (s : Names)
        → Added h p (tagged_after order octets table h read d c n arms default p s).progress
    tagged_adds read k d (Some (def.Prim prim)) n arms default p s =
        tagged_union_adds read k d n prim None arms default (value_in order octets prim (octets_of n (Tag prim None arms default (pos 0)) p)) p s
    tagged_adds read k d (Some (def.Enum values)) n arms default p s =
        tagged_union_adds read k d n Short (Some values) arms default (value_in order octets Short (octets_of n (Tag Short (Some values) arms default (pos 0)) p)) p s
    tagged_adds read k d (Some (def.Struct members)) n arms default p s = none_added h p
    tagged_adds read k d (Some (def.Array elem bound varying)) n arms default p s = none_added h p
    tagged_adds read k d (Some (def.Text elem bound)) n arms default p s = none_added h p
    tagged_adds read k d (Some (def.Union tag enc xs x)) n arms default p s = none_added h p
    tagged_adds read k d (Some (def.Pointer class to)) n arms default p s = none_added h p
    tagged_adds read k d (Some def.Context) n arms default p s = none_added h p
    tagged_adds read k d (Some (def.Pipe elem)) n arms default p s = none_added h p
    tagged_adds read k d None n arms default p s = none_added h p

    pub after_gap_adds : (read : Reader) → Adds read → (m t : ℕ) (d : Option TypeDef) (n : ℕ) (p : Progress) (s : Names)
        → Added h p (after_gap order octets table h read m t d n p s).progress
    after_gap_adds read k m t (Some (def.Prim prim)) n p s = of_kind n (Num prim None (value_in order octets prim (octets_of n (Num prim None (pos 0)) p))) p
    after_gap_adds read k m t (Some (def.Enum values)) n p s = of_kind n (Num Short (Some values) (value_in order octets Short (octets_of n (Num Short (Some values) (pos 0)) p))) p
    after_gap_adds read k m t (Some (def.Struct members)) n p s = children_add read k (Some (def.Struct members)) n tree.Rec (map (λ f. f.of.0) members) p s
    after_gap_adds read k m t (Some (def.Array elem bound varying)) n p s =
        array_adds read k (Some (def.Array elem bound varying)) varying (bound_or bound m) elem.0 n p s
    after_gap_adds read k m t (Some (def.Text elem bound)) n p s = text_adds (bound_or bound m) n p s
    after_gap_adds read k m t (Some (def.Union tag enc arms default)) n p s =
        tagged_adds read k (Some (def.Union tag enc arms default)) (type_at table tag.0) n arms default p s
    after_gap_adds read k m t (Some (def.Pointer class to)) n p s =
        let os : Option (List ℕ) = octets_of n (Number class to.0 None) p in
        of_kind n (Number class to.0 (named class to.0 os (number_in order octets os) s).cell) p
    after_gap_adds read k m t (Some def.Context) n p s =
        let os : Option (List ℕ) = octets_of n (Context 0 []) p in
        of_kind n (Context (attributes_in order octets os) (identifier_in order octets os)) p
    after_gap_adds read k m t (Some (def.Pipe elem)) n p s = none_added h p
    after_gap_adds read k m t None n p s = none_added h p

    gap_adds : (n : ℕ) (a : Option ℕ) (p : Progress) → Added h p (past_gap order octets table h n a p)
    gap_adds n None p = none_added h p
    gap_adds n (Some a) p = of_kind n (Align a) p

    pub in_place_adds : (depth m : ℕ) → Adds (read_in_place order octets table h depth m)
    in_place_adds zero m t n p s = none_added h p
    in_place_adds (suc depth) m t n p s =
        let d : Option TypeDef = type_at table t in
        let read : Reader = read_in_place order octets table h depth m in
        let q : Progress = past_gap order octets table h n (gap_of table t d) p in
        subst (λ r. Added h p r.progress) (sym (in_halves order octets table h read m t d n p s))
        (added_twice h p q (after_gap order octets table h read m t d n q s).progress (gap_adds n (gap_of table t d) p)
        (after_gap_adds read (in_place_adds depth m) m t d n q s))

    hoisted_after_adds : (t : ℕ) (p : Progress) (s : Names) → Added h p (hoisted_after order octets table h t p s).progress
    hoisted_after_adds t p s =
        let m : ℕ = count_of 0 (Max 0) p in
        let q : Progress = past 0 (Max m) p in
        added_twice h p q (read_in_place order octets table h 32 m t 0 q s).progress (of_kind 0 (Max m) p) (in_place_adds 32 m t 0 q s)

    hoisted_adds : (b : Bool) (t : ℕ) (p : Progress) (s : Names) → Added h p (read_hoisted order octets table h b t p s).progress
    hoisted_adds false t p s = in_place_adds 32 0 t 0 p s
    hoisted_adds true t p s =
        let q : Progress = past 0 (Align 4) p in
        added_twice h p q (hoisted_after order octets table h t q s).progress (of_kind 0 (Align 4) p) (hoisted_after_adds t q s)

    whole_by : (b : Bool) (t : ℕ) (p : Progress) (s : Names) → Added h p (read_if b (read_hoisted order octets table h (hoists table t) t) p s).progress
    whole_by true t p s = none_added h p
    whole_by false t p s = hoisted_adds (hoists table t) t p s

    pub whole_adds : (t : ℕ) (p : Progress) (s : Names) → Added h p (read_whole order octets table h t p s).progress
    whole_adds t p s = whole_by (is_stopped p.stop) t p s

    -- ## In the midst of a value

    module _ (m : ℕ) where
      closed_adds : (f : Around) (kids : Trees) (ms : List Entry) (p : Progress) (s : Names) → AllByRecursion (λ e. e.home ≡ h) ms
          → Added h p (tried order octets table h f kids ms p s).progress
      closed_adds f kids ms p s a = all_add h ms p a

      tests_of_own : (f : Around) (kids : Trees) → AllByRecursion (λ e. e.home ≡ h) (tests_of order octets table h f kids)
      tests_of_own f kids = child_tests_own h (child_agreements f.of kids) (f.node + 1) kids

      continue_adds : (depth : ℕ) (f : Around) (p : Progress) (s : Names) → Added h p (continue order octets table h m depth f p s).progress
      continue_adds depth f p s =
          let others : ReadAll = read_list table (read_in_place order octets table h depth m) f.left f.next p s in
          let kids : Trees = joined f.done others.trees in
          added_twice h p others.progress (continue order octets table h m depth f p s).progress (list_adds (read_in_place order octets table h depth m) (in_place_adds depth m) f.left f.next p s)
          (closed_adds f kids (tests_of order octets table h f kids) others.progress others.names (tests_of_own f kids))

      go_on_adds : (depth : ℕ) (f : Around) (r : Read) → Added h r.progress (go_on order octets table h m depth f r).progress
      go_on_adds depth f r =
          let others : ReadAll = read_list table (read_in_place order octets table h depth m) f.left (f.next + tree_nodes r.tree) r.progress r.names in
          let kids : Trees = joined f.done (more r.tree others.trees) in
          added_twice h r.progress others.progress (go_on order octets table h m depth f r).progress
          (list_adds (read_in_place order octets table h depth m) (in_place_adds depth m) f.left (f.next + tree_nodes r.tree) r.progress r.names)
          (closed_adds f kids (tests_of order octets table h f kids) others.progress others.names (tests_of_own f kids))

      pub finish_adds : (depth : ℕ) (fs : List Around) (r : Read) → Added h r.progress (finish order octets table h m depth fs r).progress
      finish_adds depth [] r = none_added h r.progress
      finish_adds depth (f ∷ fs) r =
          let q : Read = go_on order octets table h m depth f r in
          added_twice h r.progress q.progress (finish order octets table h m (suc depth) fs q).progress (go_on_adds depth f r) (finish_adds (suc depth) fs q)

      -- the agreements that are left to be tried of a struct are its own
      abbrev pub OwnAt : Point → Type 0
      OwnAt (checking f so_far ms) = AllByRecursion (λ e. e.home ≡ h) ms
      OwnAt _ = Unit {0}

      pub read_at_adds : (depth : ℕ) (point : Point) → OwnAt point → (n : ℕ) (p : Progress) (s : Names) → Added h p (read_at order octets table h m depth point n p s).progress
      read_at_adds depth (hoisting t) o n p s = hoisted_adds true t p s
      read_at_adds depth (counting t) o n p s = hoisted_after_adds t p s
      read_at_adds depth (called t) o n p s = in_place_adds depth m t n p s
      read_at_adds depth (due t) o n p s = in_place_adds depth m t n p s
      read_at_adds depth (opened t d) o n p s = after_gap_adds (read_in_place order octets table h (below depth) m) (in_place_adds (below depth) m) m t (Some d) n p s
      read_at_adds depth (offset_read t d max elem c) o n p s =
          offset_adds (read_in_place order octets table h (below depth) m) (in_place_adds (below depth) m) (Some d) max elem n c p s
      read_at_adds depth (text_offset t max) o n p s = text_offset_adds max n p s
      read_at_adds depth (text_counted t max c) o n p s = count_adds max c n p s
      read_at_adds depth (tagged t d form arms default z) o n p s =
          tagged_union_adds (read_in_place order octets table h (below depth) m) (in_place_adds (below depth) m) (Some d) n form.prim form.values arms default (tag_taken arms default z) p s
      read_at_adds depth (between f) o n p s = continue_adds (below depth) f p s
      read_at_adds depth (checking f so_far ms) o n p s = closed_adds f f.done ms p s o
      read_at_adds depth (has t v) o n p s = none_added h p
