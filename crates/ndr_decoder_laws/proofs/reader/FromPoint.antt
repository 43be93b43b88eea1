-- From point to point within a value: what is left to be read at a point is what is left at the next one, after the entry between them. One law for each
-- form of types.
use Rattle.std.proofs.Common.{◌≡◌, ℕ, ◌+◌, ◌-◌, suc, Bool, true, false, List, [], ◌∷◌, ◌++◌, Option, Some, None, refl, ap, sym, ◌∙◌, arith}
use Rattle.std.specs.Prelude.{ℤ, pos, replicate}
use Rattle.nd_base.specs.declared.octets.Order.{Order}
use Rattle.nd_types.specs.declared.types.Attr.{Attr}
use Rattle.nd_types.specs.declared.types.Arm.{Arm}
use Rattle.nd_types.specs.declared.types.TypeId.{TypeId}
use Rattle.nd_types.specs.declared.types.TypeDef.{TypeDef}
use Rattle.nd_types.specs.declared.types.TypeDef.TheVariants as def
use Rattle.nd_types.specs.Table.{Table, type_at}
use Rattle.nd_value.specs.declared.item.Home.{Home}
use Rattle.nd_value.specs.Tree as tree
use Rattle.nd_value.specs.Tree.{node, none}
use Rattle.nd_value.specs.Agreement.{Agreement}
use Rattle.nd_grammar.specs.Entry.{EntryAt, Align, Offset, Actual, Tag, Text, Test}
use Rattle.nd_grammar.specs.Refusal.{refusal}
use Rattle.nd_grammar.specs.Reader.{Progress, Names, Read, pass, taken, number_in, value_in, text_in, bound_or, entry, read_children, read_by, read_in_place, read_hoisted}
use Rattle.ndr_decoder_laws.specs.reader.Halves.{gap_of, past_gap, tagged_after, union_after, union_tagged, hoisted_after}
use Rattle.ndr_decoder_laws.specs.reader.Around.{Around, going, with_left, continue, closed, tests_of}
use Rattle.ndr_decoder_laws.specs.reader.Points.{Point, TagForm, IsTagForm, due, opened, offset_read, text_offset, text_counted, tagged, between, checking, has, read_at, tag_taken}
use Rattle.ndr_decoder_laws.proofs.reader.Continuing.{passed, in_halves}
use Rattle.nd_flat.proofs.Forests.{joined-none as joined_none}

module _ (order : Order) (octets : List ℕ) (table : Table) (h : Home) where
  -- an agreement that holds has no octets
  pub test_passed : (x : Home) (n at : ℕ) (a : Attr) (wanted found : ℤ) (seen : List EntryAt)
      → refusal order octets seen (record { at = at; entry = record { home = x; node = n; kind = Test a wanted found } }) ≡ None
      → pass order octets (record { home = x; node = n; kind = Test a wanted found }) (going at seen)
      ≡ going at (seen ++ record { at = at; entry = record { home = x; node = n; kind = Test a wanted found } } ∷ [])
  test_passed x n at a wanted found seen e =
      let z : at + 0 ≡ at = omega arith in
      passed order octets (record { home = x; node = n; kind = Test a wanted found }) at seen e
      ∙ ap (λ k. going k (seen ++ record { at = at; entry = record { home = x; node = n; kind = Test a wanted found } } ∷ [])) z

  -- a home whose type hoists: its gap, then its maximum count and its value
  pub hoisted_in_halves : (t : ℕ) (p : Progress) (s : Names)
      → read_hoisted order octets table h true t p s ≡ hoisted_after order octets table h t (pass order octets (entry order octets table h 0 (Align 4)) p) s
  hoisted_in_halves t p s = refl

  module _ (m : ℕ) where
    abbrev at_point : ℕ → Point → ℕ → Progress → Names → Read
    at_point = read_at order octets table h m

    -- a value that is due begins with its gap
    pub due_opens : (k t n : ℕ) (d : TypeDef) (p : Progress) (s : Names) → type_at table t ≡ Some d
        → at_point (suc k) (due t) n p s ≡ at_point (suc k) (opened t d) n (past_gap order octets table h n (gap_of table t (Some d)) p) s
    due_opens k t n d p s e =
        ap (λ o. read_by order octets table h (read_in_place order octets table h k m) m t o n p s) e
        ∙ in_halves order octets table h (read_in_place order octets table h k m) m t (Some d) n p s

    -- the offset of a varying array, and its actual count, after which its elements are read
    pub array_offset : (k t n o : ℕ) (elem : TypeId) (bound : Option ℕ) (at : ℕ) (seen : List EntryAt) (s : Names)
        → o ≡ number_in order octets (taken order octets (entry order octets table h n (Offset false 0)) (going at seen))
        → at_point (suc k) (opened t (def.Array elem bound true)) n (going at seen) s
        ≡ at_point (suc k) (offset_read t (def.Array elem bound true) (bound_or bound m) elem.0 o) n (pass order octets (entry order octets table h n (Offset false o)) (going at seen)) s
    array_offset k t n o elem bound at seen s e =
        ap (λ v. at_point (suc k) (offset_read t (def.Array elem bound true) (bound_or bound m) elem.0 v) n (pass order octets (entry order octets table h n (Offset false v)) (going at seen)) s)
        (sym e)

    pub array_count : (k t n max elem o c : ℕ) (d : TypeDef) (at : ℕ) (seen : List EntryAt) (s : Names)
        → c ≡ number_in order octets (taken order octets (entry order octets table h n (Actual false o max 0)) (going at seen))
        → at_point (suc k) (offset_read t d max elem o) n (going at seen) s
        ≡ read_children order octets table h (read_in_place order octets table h k m) (Some d) n (tree.Arr max o) (replicate c elem)
        (pass order octets (entry order octets table h n (Actual false o max c)) (going at seen)) s
    array_count k t n max elem o c d at seen s e =
        ap (λ v. read_children order octets table h (read_in_place order octets table h k m) (Some d) n (tree.Arr max o) (replicate v elem)
        (pass order octets (entry order octets table h n (Actual false o max v)) (going at seen)) s) (sym e)

    -- the offset of a text, its actual count, and its octets
    pub text_begins : (k t n : ℕ) (elem : TypeId) (bound : Option ℕ) (p : Progress) (s : Names)
        → at_point (suc k) (opened t (def.Text elem bound)) n p s
        ≡ at_point (suc k) (text_offset t (bound_or bound m)) n (pass order octets (entry order octets table h n (Offset true 0)) p) s
    text_begins k t n elem bound p s = refl

    pub text_count : (k t n max c : ℕ) (p : Progress) (s : Names)
        → c ≡ number_in order octets (taken order octets (entry order octets table h n (Actual true 0 max 0)) p)
        → at_point (suc k) (text_offset t max) n p s
        ≡ at_point (suc k) (text_counted t max (c - 1)) n (pass order octets (entry order octets table h n (Actual true 0 max (c - 1 + 1))) p) s
    text_count k t n max c p s e =
        ap (λ v. at_point (suc k) (text_counted t max (v - 1)) n (pass order octets (entry order octets table h n (Actual true 0 max (v - 1 + 1))) p) s) (sym e)

    pub text_ends : (k t n max c : ℕ) (os : List ℕ) (p : Progress) (s : Names)
        → os ≡ text_in order octets c (taken order octets (entry order octets table h n (Text (replicate c 0))) p)
        → at_point (suc k) (text_counted t max c) n p s
        ≡ at_point (suc k) (has t (node (tree.Text max os) none)) n (pass order octets (entry order octets table h n (Text os)) p) s
    text_ends k t n max c os p s e =
        ap (λ v. at_point (suc k) (has t (node (tree.Text max v) none)) n (pass order octets (entry order octets table h n (Text v)) p) s) (sym e)

    -- the tag of a union, by the primitive that carries it
    pub tag_known : (k t n : ℕ) (tag : TypeId) (encapsulated : Bool) (arms : List Arm) (default : Option Arm) (form : TagForm) (z : ℤ) (p : Progress) (s : Names)
        → IsTagForm (type_at table tag.0) form
        → tag_taken arms default z ≡ value_in order octets form.prim (taken order octets (entry order octets table h n (Tag form.prim form.values arms default (pos 0))) p)
        → at_point (suc k) (opened t (def.Union tag encapsulated arms default)) n p s
        ≡ at_point (suc k) (tagged t (def.Union tag encapsulated arms default) form arms default z) n p s
    tag_known k t n tag encapsulated arms default form z p s i e =
        by_form (type_at table tag.0) i
        ∙ ap (λ v. union_tagged order octets table h read (Some (def.Union tag encapsulated arms default)) n form.prim form.values arms default v p s) (sym e)
      where
        read : ℕ → ℕ → Progress → Names → Read
        read = read_in_place order octets table h k m

        by_form : (c : Option TypeDef) → IsTagForm c form
            → tagged_after order octets table h read (Some (def.Union tag encapsulated arms default)) c n arms default p s
            ≡ union_after order octets table h read (Some (def.Union tag encapsulated arms default)) n form.prim form.values arms default p s
        by_form (Some (def.Prim prim)) i = ap (λ f. union_after order octets table h read (Some (def.Union tag encapsulated arms default)) n f.prim f.values arms default p s) (sym i)
        by_form (Some (def.Enum values)) i = ap (λ f. union_after order octets table h read (Some (def.Union tag encapsulated arms default)) n f.prim f.values arms default p s) (sym i)
        by_form (Some (def.Struct members)) i = absurd i
        by_form (Some (def.Array elem bound varying)) i = absurd i
        by_form (Some (def.Text elem bound)) i = absurd i
        by_form (Some (def.Union tag' enc xs x)) i = absurd i
        by_form (Some (def.Pointer class to)) i = absurd i
        by_form (Some def.Context) i = absurd i
        by_form (Some (def.Pipe elem)) i = absurd i
        by_form None i = absurd i

    -- a struct all of whose members were read is at its agreements; when none is left, it is whole
    pub members_read : (k n : ℕ) (f : Around) (so_far : List (List Agreement)) (p : Progress) (s : Names) → f.left ≡ []
        → at_point (suc k) (between f) n p s ≡ at_point (suc k) (checking f so_far (tests_of order octets table h f f.done)) n p s
    members_read k n f so_far p s e =
        ap (λ types. continue order octets table h m k (with_left f types) p s) e
        ∙ ap (λ kids. closed order octets table h f kids p s) (joined_none f.done)
