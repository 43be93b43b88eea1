-- Where octets are refused for a failed agreement, the count or tag that it speaks of is that of the value at which it is tried.
-- `w` is a setting, `bad` are octets that are refused, `a` is an attribute, `x` an entry at its place, `m` an entry, `i` an item, `o` what is sought.
use Rattle.std.proofs.Common.{◌≡◌, ◌⊎◌, inl, inr, ◌∙◌, ℕ, suc, ◌<◌, ℤ, true, List, [], ◌∷◌, ◌++◌, Option, Some, None, refl, sym, ap, ap₂, subst, arith}
use Rattle.std.specs.Prelude.{pos}
use Rattle.std.specs.List.{AllByRecursion, slice_get}
use Rattle.std.proofs.lemmas.Option.{same_Some}
use Rattle.nd_base.specs.declared.octets.Order.{Order}
use Rattle.nd_types.specs.declared.types.Attr.{Attr}
use Rattle.nd_types.specs.declared.types.Attr.TheVariants as attr
use Rattle.nd_types.specs.Number.{unsigned, value_of_octets}
use Rattle.nd_value.specs.declared.item.Home.{Home}
use Rattle.nd_value.specs.declared.item.Item.{Item}
use Rattle.nd_value.specs.declared.item.ItemKind.{ItemKind}
use Rattle.nd_value.specs.declared.item.ItemKind.TheVariants as kinds
use Rattle.nd_value.specs.declared.value.Graph.{Graph}
use Rattle.nd_value.specs.Setting.{Among, Setting}
use Rattle.nd_value.specs.Tree.{more, none}
use Rattle.nd_value.proofs.NodeFacts.{sound_partial}
use Rattle.nd_grammar.specs.declared.reason.Reason.{Reason}
use Rattle.nd_grammar.specs.Refusal.{Bad, tested_at}
use Rattle.nd_grammar.specs.Entry.{Actual, EntryAt, Kind, Max, Offset, Tag, Test, Unread, size_at}
use Rattle.nd_grammar.specs.Items.{item_at, item_node, item_of, items}
use Rattle.nd_grammar.specs.LegalSide.{IsLegalSide}
use Rattle.nd_grammar.specs.Stream.{IsRendered, piece}
use Rattle.nd_grammar.specs.Tested.{HoldsFound, IsReadAt, IsSpokenOf, node_of}
use Rattle.nd_grammar.proofs.agreements.TestedAt.{test_finds}
use Rattle.nd_grammar.proofs.next.Spelt.{not_spelt}
use Rattle.text_grammar.specs.Paths.{home_name, home_types, home_value, node_paths}
use Rattle.ndr_explain.specs.Explained.{home_paths, path_in}
use Rattle.ndr_explain.proofs.Walks.{path_here}
use Rattle.ndr_trace_value.specs.Untested.{is_test}
use Rattle.ndr_trace_value.specs.Attributes.{spoken as kind_of}
use Rattle.ndr_trace_value.specs.LastMembers.{counted_path}
use Rattle.ndr_trace_value.specs.Traces.{OfMember, entry_path}
use Rattle.ndr_trace_value.specs.Tracing.{sought_path}
use Rattle.ndr_trace_value.proofs.Ending.{known_of}
use Rattle.ndr_trace.proofs.Faults.{agreement_fault, one_item}
use Rattle.ndr_trace.proofs.FrontStreams.{test_of_front}
use Rattle.ndr_trace.proofs.FrontTests.{IsTestOfFront, OfStruct, front_variable, is_maximum}
use Rattle.ndr_trace.proofs.Grounds.{as_test, begins_within}

-- ## The item of a count or a tag

-- an entry that an attribute speaks of is an item of that kind, of the entry's node
spoken_item : (order : Order) (a : Attr) (found : ℤ) (k : Kind) (os : List ℕ) (n : ℕ) → HoldsFound a found k
    → (z : ℤ) × (item_of order k os ≡ Some (kind_of a, z)) × (item_node k n ≡ n)
spoken_item order attr.Size found (Max v) os n h = (pos (unsigned order os), refl, refl)
spoken_item order attr.Size found _ os n h = absurd h
spoken_item order attr.Max found (Max v) os n h = (pos (unsigned order os), refl, refl)
spoken_item order attr.Max found _ os n h = absurd h
spoken_item order attr.First found (Offset t v) os n h = (pos (unsigned order os), refl, refl)
spoken_item order attr.First found _ os n h = absurd h
spoken_item order attr.Length found (Actual t o l v) os n h = (pos (unsigned order os), refl, refl)
spoken_item order attr.Length found _ os n h = absurd h
spoken_item order attr.Last found (Actual t o l v) os n h = (pos (unsigned order os), refl, refl)
spoken_item order attr.Last found _ os n h = absurd h
spoken_item order attr.Switch found (Tag p values arms default v) os n h = (value_of_octets order p os, refl, refl)
spoken_item order attr.Switch found _ os n h = absurd h

-- the item of an entry at its place
abbrev item_for : EntryAt → ItemKind → ℤ → Item
item_for x k z =
    record { at = x.at; len = size_at x.at x.entry.kind; kind = k; home = x.entry.home; node = item_node x.entry.kind x.entry.node; value = z }

-- it is in the log
in_log : (order : Order) (octets : List ℕ) (xs : List EntryAt) (x : EntryAt) (k : ItemKind) (z : ℤ) → Among xs x
    → item_of order x.entry.kind (piece octets x.at x.entry.kind) ≡ Some (k, z) → (n : ℕ) × (slice_get (items order octets xs) n ≡ Some (item_for x k z))
in_log order octets [] x k z m e = absurd m
in_log order octets (y ∷ ys) x k z (inl h) e =
    subst (λ (u : EntryAt). (n : ℕ) × (slice_get (item_at u (item_of order u.entry.kind (piece octets u.at u.entry.kind)) ++ items order octets ys) n ≡ Some (item_for x k z))) h
    (0, ap (λ o. slice_get (item_at x o ++ items order octets ys) 0) e)
in_log order octets (y ∷ ys) x k z (inr m) e = go (item_of order y.entry.kind (piece octets y.at y.entry.kind)) (in_log order octets ys x k z m e)
  where
    go : (o : Option (ItemKind × ℤ)) → (n : ℕ) × (slice_get (items order octets ys) n ≡ Some (item_for x k z))
        → (n : ℕ) × (slice_get (item_at y o ++ items order octets ys) n ≡ Some (item_for x k z))
    go None (n, f) = (n, f)
    go (Some q) (n, f) = (suc n, f)

-- ## The value at which an agreement is tried

-- what octets spell is read
are_read : (order : Order) (nums : ℕ → ℕ) (octets : List ℕ) (xs : List EntryAt) → AllByRecursion (IsRendered order nums octets) xs → AllByRecursion IsReadAt xs
are_read order nums octets [] r = tt
are_read order nums octets (x ∷ xs) r = ((λ u. not_spelt order nums octets x.at x.entry u r.0), are_read order nums octets xs r.1)

-- its path is that of the item, or of what is behind a maximum count in front
by_attribute : (w : Setting) (g : Graph) (h : Home) (n : ℕ) (a : Attr) (wanted found : ℤ) → IsTestOfFront w g h n (Test a wanted found)
    → counted_path w.table (kind_of a) (home_types w g h) (path_in (home_paths w g h) (node_of a n)) ≡ path_in (home_paths w g h) n
by_attribute w g h n attr.Size wanted found f =
    ap (counted_path w.table kinds.Max (home_types w g h))
    (path_here 0 (home_name w h) (node_paths w.table (home_types w g h) (home_name w h ∷ []) 0 (more (home_value g h) none))) ∙ f.1.0
by_attribute w g h n attr.Max wanted found f =
    ap (counted_path w.table kinds.Max (home_types w g h))
    (path_here 0 (home_name w h) (node_paths w.table (home_types w g h) (home_name w h ∷ []) 0 (more (home_value g h) none))) ∙ f.1.0
by_attribute w g h n attr.First wanted found f = refl
by_attribute w g h n attr.Length wanted found f = refl
by_attribute w g h n attr.Last wanted found f = refl
by_attribute w g h n attr.Switch wanted found f = refl

module _ (w : Setting) (order : Order) (fetched : List ℕ) (place : ℕ) (why : Reason) (bad : Bad w order fetched place why) (legal : IsLegalSide w) where
  read : AllByRecursion IsReadAt bad.earlier
  read = are_read order bad.numbering fetched bad.earlier bad.rendered

  -- at a failed agreement the value that has the count or tag at the place is the one at which it is tried
  pub subject_is : (o : Option ℕ) → is_test bad.here.entry.kind ≡ true → (n : ℕ) (i : Item) → slice_get (items order fetched bad.earlier) n ≡ Some i → i.at ≡ place
      → sought_path (known_of w order fetched place why bad o) (Some i) ≡ entry_path w bad.partial bad.here.entry
  subject_is o test n i there at =
      let (a, wanted, found, is) = as_test bad.here.entry.kind test in
      by_kind a wanted found is
      (test_finds w legal bad.partial (sound_partial w bad.partial bad.is_partial) bad.entries bad.stream bad.earlier bad.here bad.later bad.split read a wanted found is)
    where
      Goal : Type 0
      Goal = sought_path (known_of w order fetched place why bad o) (Some i) ≡ entry_path w bad.partial bad.here.entry

      of_front : (a : Attr) (wanted found : ℤ) → bad.here.entry.kind ≡ Test a wanted found
          → (bad.here.entry.kind ≡ Unread) ⊎ IsTestOfFront w bad.partial bad.here.entry.home bad.here.entry.node bad.here.entry.kind
          → IsTestOfFront w bad.partial bad.here.entry.home bad.here.entry.node (Test a wanted found)
      of_front a wanted found is (inl u) = let z : Unread ≡ Test a wanted found = sym u ∙ is in absurd (cc)
      of_front a wanted found is (inr f) = subst (IsTestOfFront w bad.partial bad.here.entry.home bad.here.entry.node) is f

      -- the item is that of the entry which the attribute speaks of
      by_item : (a : Attr) (wanted found : ℤ) → bad.here.entry.kind ≡ Test a wanted found → (x : EntryAt) → IsSpokenOf a bad.here.entry.home bad.here.entry.node found x
          → (z : ℤ) → i ≡ item_for x (kind_of a) z → item_node x.entry.kind x.entry.node ≡ x.entry.node → Goal
      by_item a wanted found is x spoken z same own =
          let kind_is : i.kind ≡ kind_of a = ap (λ (y : Item). y.kind) same in
          let home_is : i.home ≡ bad.here.entry.home = ap (λ (y : Item). y.home) same ∙ spoken.home in
          let node_is : i.node ≡ node_of a bad.here.entry.node = ap (λ (y : Item). y.node) same ∙ own ∙ spoken.node in
          ap (λ k. counted_path w.table k (home_types w bad.partial i.home) (path_in (home_paths w bad.partial i.home) i.node)) kind_is
          ∙ ap₂ (λ (h : Home) (m : ℕ). counted_path w.table (kind_of a) (home_types w bad.partial h) (path_in (home_paths w bad.partial h) m)) home_is node_is
          ∙ by_attribute w bad.partial bad.here.entry.home bad.here.entry.node a wanted found
          (of_front a wanted found is (test_of_front w legal bad.partial (sound_partial w bad.partial bad.is_partial) bad.entries bad.stream bad.earlier bad.here bad.later bad.split read))

      by_kind : (a : Attr) (wanted found : ℤ) → bad.here.entry.kind ≡ Test a wanted found
          → (x : EntryAt) × Among bad.earlier x × IsSpokenOf a bad.here.entry.home bad.here.entry.node found x
          × (tested_at bad.earlier a bad.here.entry.home bad.here.entry.node ≡ Some x.at) → Goal
      by_kind a wanted found is (x, among, spoken, tested) =
          let within = begins_within order fetched bad.numbering 0 bad.entries bad.earlier bad.here bad.later bad.split bad.rendered (omega arith) in
          let fault = agreement_fault order fetched bad.earlier bad.here place why a wanted found is within bad.refused in
          let its_place : x.at ≡ place = same_Some _ _ (sym tested ∙ fault.1) in
          let (z, item_is, own) = spoken_item order a found x.entry.kind (piece fetched x.at x.entry.kind) x.entry.node spoken.holds in
          let (j, logged) = in_log order fetched bad.earlier x (kind_of a) z among item_is in
          by_item a wanted found is x spoken z
          (one_item order fetched 0 bad.entries bad.earlier (bad.here ∷ bad.later) bad.split n j i (item_for x (kind_of a) z) there logged (at ∙ sym its_place)) own

  -- the item at the place is that of the count or tag that the agreement speaks of
  pub tested_item : (a : Attr) (wanted found : ℤ) → bad.here.entry.kind ≡ Test a wanted found → (n : ℕ) (i : Item) → slice_get (items order fetched bad.earlier) n ≡ Some i
      → i.at ≡ place → (i.kind ≡ kind_of a) × (i.home ≡ bad.here.entry.home) × (i.node ≡ node_of a bad.here.entry.node)
  tested_item a wanted found is n i there at =
      by_entry
      (test_finds w legal bad.partial (sound_partial w bad.partial bad.is_partial) bad.entries bad.stream bad.earlier bad.here bad.later bad.split read a wanted found is)
    where
      by_entry : (x : EntryAt) × Among bad.earlier x × IsSpokenOf a bad.here.entry.home bad.here.entry.node found x
          × (tested_at bad.earlier a bad.here.entry.home bad.here.entry.node ≡ Some x.at)
          → (i.kind ≡ kind_of a) × (i.home ≡ bad.here.entry.home) × (i.node ≡ node_of a bad.here.entry.node)
      by_entry (x, among, spoken, tested) =
          let within = begins_within order fetched bad.numbering 0 bad.entries bad.earlier bad.here bad.later bad.split bad.rendered (omega arith) in
          let fault = agreement_fault order fetched bad.earlier bad.here place why a wanted found is within bad.refused in
          let its_place : x.at ≡ place = same_Some _ _ (sym tested ∙ fault.1) in
          let (z, item_is, own) = spoken_item order a found x.entry.kind (piece fetched x.at x.entry.kind) x.entry.node spoken.holds in
          let (j, logged) = in_log order fetched bad.earlier x (kind_of a) z among item_is in
          let same : i ≡ item_for x (kind_of a) z =
          one_item order fetched 0 bad.entries bad.earlier (bad.here ∷ bad.later) bad.split n j i (item_for x (kind_of a) z) there logged (at ∙ sym its_place) in (
            ap (λ (y : Item). y.kind) same,
            ap (λ (y : Item). y.home) same ∙ spoken.home,
            ap (λ (y : Item). y.node) same ∙ own ∙ spoken.node,
          )

  -- an agreement that is not at a home's own value is of a member's attribute
  pub of_struct : (a : Attr) (wanted found : ℤ) → bad.here.entry.kind ≡ Test a wanted found → 0 < bad.here.entry.node
      → OfStruct w bad.partial bad.here.entry.home bad.here.entry.node a wanted
  of_struct a wanted found is low =
      go (test_of_front w legal bad.partial (sound_partial w bad.partial bad.is_partial) bad.entries bad.stream bad.earlier bad.here bad.later bad.split read)
    where
      go : (bad.here.entry.kind ≡ Unread) ⊎ IsTestOfFront w bad.partial bad.here.entry.home bad.here.entry.node bad.here.entry.kind
          → OfStruct w bad.partial bad.here.entry.home bad.here.entry.node a wanted
      go (inl u) = let z : Unread ≡ Test a wanted found = sym u ∙ is in absurd (cc)
      go (inr f) = (subst (IsTestOfFront w bad.partial bad.here.entry.home bad.here.entry.node) is f).0 low

  -- an agreement on a member's maximum count has the variable that is in front
  pub maximum_is : (a : Attr) (wanted found : ℤ) → bad.here.entry.kind ≡ Test a wanted found → is_maximum a ≡ true → 0 < bad.here.entry.node
      → OfMember w bad.partial bad.here.entry.home bad.here.entry.node a wanted (front_variable w bad.partial bad.here.entry.home)
  maximum_is a wanted found is maximum low =
      by_front (test_of_front w legal bad.partial (sound_partial w bad.partial bad.is_partial) bad.entries bad.stream bad.earlier bad.here bad.later bad.split read)
    where
      by_attribute : (b : Attr) → is_maximum b ≡ true → IsTestOfFront w bad.partial bad.here.entry.home bad.here.entry.node (Test b wanted found)
          → OfMember w bad.partial bad.here.entry.home bad.here.entry.node b wanted (front_variable w bad.partial bad.here.entry.home)
      by_attribute attr.Size e f = f.1.1 low
      by_attribute attr.Max e f = f.1.1 low
      by_attribute attr.First e f = cc
      by_attribute attr.Length e f = cc
      by_attribute attr.Last e f = cc
      by_attribute attr.Switch e f = cc

      by_front : (bad.here.entry.kind ≡ Unread) ⊎ IsTestOfFront w bad.partial bad.here.entry.home bad.here.entry.node bad.here.entry.kind
          → OfMember w bad.partial bad.here.entry.home bad.here.entry.node a wanted (front_variable w bad.partial bad.here.entry.home)
      by_front (inl u) = let z : Unread ≡ Test a wanted found = sym u ∙ is in absurd (cc)
      by_front (inr f) = by_attribute a maximum (subst (IsTestOfFront w bad.partial bad.here.entry.home bad.here.entry.node) is f)
