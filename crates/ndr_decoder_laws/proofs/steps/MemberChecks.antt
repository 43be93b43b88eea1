-- The agreements of a struct's members: those of a pointer join its pending referent, those of any other are tried in its first node.
-- `x` is the member that is governed, `xs` and `ys` are those before and after it, `w` is what is kept of its first node.
use Rattle.std.proofs.Common.{◌≡◌, ◌⊎◌, inl, inr, ℕ, ◌+◌, zero, suc, Bool, true, false, List, [], ◌∷◌, ◌++◌, length, Option, Some, None, refl, ap, ap₂, sym, ◌∙◌, subst, arith, append_assoc}
use Rattle.std.proofs.Common.{length-append, map, flat_map}
use Rattle.std.specs.List.{slice_get}
use Rattle.std.proofs.lemmas.Grind.{flat_map-append}
use Rattle.std.proofs.lemmas.List.{length-map, map-append}
use Rattle.nd_types.specs.declared.types.Attr.{Attr}
use Rattle.nd_types.specs.declared.types.Attr.TheVariants as attr
use Rattle.nd_types.specs.declared.types.TypeDef.{TypeDef}
use Rattle.nd_types.specs.declared.types.TypeDef.TheVariants as def
use Rattle.nd_types.specs.Table.{Table, type_at}
use Rattle.nd_value.specs.declared.item.Home.{Home}
use Rattle.nd_value.specs.Agreement.{Agreement, number_in}
use Rattle.nd_value.specs.Deferral.{Pending, pointer, pointer_by}
use Rattle.nd_value.specs.Nodes.{nodes_of, child_types, child_agreements, first_agreements, rest_agreements}
use Rattle.nd_value.specs.Tree as tree
use Rattle.nd_value.specs.Tree.{Tree, Trees, node, none, more, joined, Label, Flat, count, node_count, is_pointer, cell_in}
use Rattle.nd_grammar.specs.Reader.{tree_nodes}
use Rattle.ndr_decoder_laws.specs.reader.Around.{pointers, governed_pointers}
use Rattle.ndr_decoder_laws.specs.reader.ChildNodes.{first_nodes, tree_at, flat_number, flat_found}
use Rattle.ndr_decoder_laws.proofs.reader.HomePointers.{governed_at}
use Rattle.ndr_decoder_laws.specs.declared.first.First.{First}
use Rattle.ndr_decoder_laws.specs.declared.first.Member.{Member}
use Rattle.ndr_decoder_laws.specs.steps.Spots.{FitsPointer}
use Rattle.ndr_decoder_laws.specs.steps.Steps.{Owed, place_of, place_in, first_of, first_number, first_found, is_owing, joined_by}
use Rattle.ndr_decoder_laws.specs.steps.Good.{owed, members_of}
use Rattle.ndr_decoder_laws.proofs.steps.EndSteps.{pointers_first}

-- ## What is kept of a first node says what the node does

pub first_number_is : (y : Flat) (place : Option ℕ) → first_number (Some (first_of y place)) ≡ flat_number y
first_number_is (tree.Num z, c) place = refl
first_number_is (tree.Rec, c) place = refl
first_number_is (tree.Arr max offset, c) place = refl
first_number_is (tree.Text max octets, c) place = refl
first_number_is (tree.Union tag, c) place = refl
first_number_is (tree.Ptr cell, c) place = refl
first_number_is (tree.Context a id, c) place = refl
first_number_is (tree.Pipe, c) place = refl
first_number_is (tree.Unread, c) place = refl

pub owing_is : (l : Label) (c : ℕ) (place : Option ℕ) → is_owing (first_of (l, c) place) ≡ is_pointer l
owing_is (tree.Num z) c place = refl
owing_is tree.Rec c place = refl
owing_is (tree.Arr max offset) c place = refl
owing_is (tree.Text max octets) c place = refl
owing_is (tree.Union tag) c place = refl
owing_is (tree.Ptr cell) c place = refl
owing_is (tree.Context a id) c place = refl
owing_is tree.Pipe c place = refl
owing_is tree.Unread c place = refl

abbrev pub SameFound : Option ℕ → Attr → Flat → Option ℕ → Type 0
SameFound max_at a y place = (first_found a (first_of y place) ≡ flat_found a y) ⊎ (place_of a max_at (place_in (first_of y place)) ≡ None)

-- where an agreement has a place, it finds in what is kept what it finds in the node
pub found_is : (max_at : Option ℕ) (a : Attr) (y : Flat) (place : Option ℕ) → SameFound max_at a y place
found_is max_at attr.Size (tree.Num z, c) place = inl refl
found_is max_at attr.Size (tree.Rec, c) place = inl refl
found_is max_at attr.Size (tree.Arr max offset, c) place = inl refl
found_is max_at attr.Size (tree.Text max octets, c) place = inl refl
found_is max_at attr.Size (tree.Union tag, c) place = inl refl
found_is max_at attr.Size (tree.Ptr cell, c) place = inl refl
found_is max_at attr.Size (tree.Context m id, c) place = inl refl
found_is max_at attr.Size (tree.Pipe, c) place = inl refl
found_is max_at attr.Size (tree.Unread, c) place = inl refl
found_is max_at attr.Max (tree.Num z, c) place = inl refl
found_is max_at attr.Max (tree.Rec, c) place = inl refl
found_is max_at attr.Max (tree.Arr max offset, c) place = inl refl
found_is max_at attr.Max (tree.Text max octets, c) place = inl refl
found_is max_at attr.Max (tree.Union tag, c) place = inl refl
found_is max_at attr.Max (tree.Ptr cell, c) place = inl refl
found_is max_at attr.Max (tree.Context m id, c) place = inl refl
found_is max_at attr.Max (tree.Pipe, c) place = inl refl
found_is max_at attr.Max (tree.Unread, c) place = inl refl
found_is max_at attr.First (tree.Num z, c) place = inl refl
found_is max_at attr.First (tree.Rec, c) place = inl refl
found_is max_at attr.First (tree.Arr max offset, c) place = inl refl
found_is max_at attr.First (tree.Text max octets, c) place = inl refl
found_is max_at attr.First (tree.Union tag, c) place = inl refl
found_is max_at attr.First (tree.Ptr cell, c) place = inl refl
found_is max_at attr.First (tree.Context m id, c) place = inl refl
found_is max_at attr.First (tree.Pipe, c) place = inl refl
found_is max_at attr.First (tree.Unread, c) place = inl refl
found_is max_at attr.Switch (tree.Num z, c) place = inl refl
found_is max_at attr.Switch (tree.Rec, c) place = inl refl
found_is max_at attr.Switch (tree.Arr max offset, c) place = inl refl
found_is max_at attr.Switch (tree.Text max octets, c) place = inl refl
found_is max_at attr.Switch (tree.Union tag, c) place = inl refl
found_is max_at attr.Switch (tree.Ptr cell, c) place = inl refl
found_is max_at attr.Switch (tree.Context m id, c) place = inl refl
found_is max_at attr.Switch (tree.Pipe, c) place = inl refl
found_is max_at attr.Switch (tree.Unread, c) place = inl refl
found_is max_at attr.Length (tree.Num z, c) place = inr refl
found_is max_at attr.Length (tree.Rec, c) place = inr refl
found_is max_at attr.Length (tree.Arr max offset, c) place = inl refl
found_is max_at attr.Length (tree.Text max octets, c) place = inl refl
found_is max_at attr.Length (tree.Union tag, c) None = inr refl
found_is max_at attr.Length (tree.Union tag, c) (Some p) = inr refl
found_is max_at attr.Length (tree.Ptr cell, c) place = inr refl
found_is max_at attr.Length (tree.Context m id, c) place = inr refl
found_is max_at attr.Length (tree.Pipe, c) place = inr refl
found_is max_at attr.Length (tree.Unread, c) place = inr refl
found_is max_at attr.Last (tree.Num z, c) place = inr refl
found_is max_at attr.Last (tree.Rec, c) place = inr refl
found_is max_at attr.Last (tree.Arr max offset, c) place = inl refl
found_is max_at attr.Last (tree.Text max octets, c) place = inl refl
found_is max_at attr.Last (tree.Union tag, c) None = inr refl
found_is max_at attr.Last (tree.Union tag, c) (Some p) = inr refl
found_is max_at attr.Last (tree.Ptr cell, c) place = inr refl
found_is max_at attr.Last (tree.Context m id, c) place = inr refl
found_is max_at attr.Last (tree.Pipe, c) place = inr refl
found_is max_at attr.Last (tree.Unread, c) place = inr refl

-- ## Members by their numbers

pub get_behind : {X : Type 0} (xs ys : List X) (j : ℕ) → slice_get (xs ++ ys) (length xs + j) ≡ slice_get ys j
get_behind [] ys j = let z : 0 + j ≡ j = omega arith in ap (slice_get ys) z
get_behind (x ∷ xs) ys j = let z : suc (length xs) + j ≡ suc (length xs + j) = omega arith in ap (slice_get (x ∷ (xs ++ ys))) z ∙ get_behind xs ys j

pub number_past : (ts : Trees) (i : ℕ) → tree_at ts i ≡ None → number_in ts i ≡ None
number_past none i e = refl
number_past (more t ts) zero e = cc
number_past (more t ts) (suc i) e = number_past ts i e

pub tree_there : (xs : Trees) (x : Tree) (ys : Trees) → tree_at (joined xs (more x ys)) (count xs) ≡ Some x
tree_there none x ys = refl
tree_there (more t xs) x ys = tree_there xs x ys

module _ (table : Table) (h : Home) where
  -- a member, its first node and its tree go together
  pub member_at : (p : ℕ) (us : List ℕ) (n : ℕ) (ts : Trees) (j : ℕ) → length us ≡ count ts
      → ((slice_get (members_of table h p us n ts) j ≡ None) × (tree_at ts j ≡ None))
      ⊎ ((m : Member) × (y : Tree) × (slice_get (members_of table h p us n ts) j ≡ Some m) × (tree_at ts j ≡ Some y) × (slice_get (first_nodes n ts) j ≡ Some m.node))
  member_at p [] n none j e = inl (refl, refl)
  member_at p [] n (more t ts) j e = absurd (omega (arith, e))
  member_at p (u ∷ us) n none j e = absurd (omega (arith, e))
  member_at p (u ∷ us) n (more t ts) zero e = inr (record { node = n; pending = p }, t, refl, refl, refl)
  member_at p (u ∷ us) n (more t ts) (suc j) e = member_at (p + length (pointers table h (u ∷ []) n (more t none))) us (n + tree_nodes t) ts j (omega (arith, e))

  -- the member whose tree comes after others
  pub member_is : (us vs : List ℕ) (u p n : ℕ) (xs : Trees) (x : Tree) (ys : Trees) → length us ≡ count xs
      → slice_get (members_of table h p (us ++ u ∷ vs) n (joined xs (more x ys))) (count xs) ≡ Some (record { node = n + node_count xs; pending = p + length (pointers table h us n xs) })
  member_is [] vs u p n none x ys e = ap₂ (λ (a : ℕ) (b : ℕ). Some (record { node = a; pending = b })) (omega arith) (omega arith)
  member_is [] vs u p n (more t xs) x ys e = absurd (omega (arith, e))
  member_is (w ∷ us) vs u p n none x ys e = absurd (omega (arith, e))
  member_is (w ∷ us) vs u p n (more (node l ks) xs) x ys e =
      let t : Tree = node l ks in
      let own : ℕ = length (pointers table h (w ∷ []) n (more t none)) in
      let a : n + tree_nodes t + node_count xs ≡ n + suc (node_count ks + node_count xs) = omega arith in
      let b : p + own + length (pointers table h us (n + tree_nodes t) xs) ≡ p + length (pointers table h (w ∷ us) n (more t xs)) =
      let q : length (pointers table h (w ∷ us) n (more t xs)) ≡ own + length (pointers table h us (n + tree_nodes t) xs) =
      ap length (pointers_first table h w us n t xs) ∙ length-append (pointers table h (w ∷ []) n (more t none)) (pointers table h us (n + tree_nodes t) xs) in
      omega (arith, q) in
      member_is us vs u (p + own) (n + tree_nodes t) xs x ys (omega (arith, e)) ∙ ap₂ (λ (c : ℕ) (d : ℕ). Some (record { node = c; pending = d })) a b

  -- ## The pointers of members, whatever governs them

  by_length : (d : Option TypeDef) (b : Bool) (c : Option ℕ) (n : ℕ) (vs ws : List Agreement) → length (pointer_by d b c h n vs) ≡ length (pointer_by d b c h n ws)
  by_length (Some (def.Prim p)) b c n vs ws = refl
  by_length (Some (def.Enum zs)) b c n vs ws = refl
  by_length (Some (def.Struct members)) b c n vs ws = refl
  by_length (Some (def.Array elem bound varying)) b c n vs ws = refl
  by_length (Some (def.Text elem bound)) b c n vs ws = refl
  by_length (Some (def.Union tag enc arms default)) b c n vs ws = refl
  by_length (Some (def.Pointer class to)) true c n vs ws = refl
  by_length (Some (def.Pointer class to)) false c n vs ws = refl
  by_length (Some def.Context) b c n vs ws = refl
  by_length (Some (def.Pipe elem)) b c n vs ws = refl
  by_length None b c n vs ws = refl

  -- a node that is no pointer is none, whatever governs it
  by_other : (d : Option TypeDef) (c : Option ℕ) (n : ℕ) (ws : List Agreement) → pointer_by d false c h n ws ≡ []
  by_other (Some (def.Prim p)) c n ws = refl
  by_other (Some (def.Enum zs)) c n ws = refl
  by_other (Some (def.Struct members)) c n ws = refl
  by_other (Some (def.Array elem bound varying)) c n ws = refl
  by_other (Some (def.Text elem bound)) c n ws = refl
  by_other (Some (def.Union tag enc arms default)) c n ws = refl
  by_other (Some (def.Pointer class to)) c n ws = refl
  by_other (Some def.Context) c n ws = refl
  by_other (Some (def.Pipe elem)) c n ws = refl
  by_other None c n ws = refl

  -- the first of members, and the others
  governed_first : (u : ℕ) (us : List ℕ) (vs : List (List Agreement)) (n : ℕ) (l : Label) (ks ts : Trees)
      → governed_pointers table h (u ∷ us) vs n (more (node l ks) ts)
      ≡ pointer_by (type_at table u) (is_pointer l) (cell_in l) h n (first_agreements vs)
      ++ (flat_map (pointer table h) (nodes_of table (child_types (type_at table u) l ks) (child_agreements (type_at table u) ks) (n + 1) ks)
      ++ governed_pointers table h us (rest_agreements vs) (n + 1 + node_count ks) ts)
  governed_first u us vs n l ks ts =
      ap (λ xs. pointer_by (type_at table u) (is_pointer l) (cell_in l) h n (first_agreements vs) ++ xs)
      (flat_map-append (pointer table h) (nodes_of table (child_types (type_at table u) l ks) (child_agreements (type_at table u) ks) (n + 1) ks)
      (nodes_of table us (rest_agreements vs) (n + 1 + node_count ks) ts))

  -- as many as if nothing governed them
  pub as_many_governed : (us : List ℕ) (vs ws : List (List Agreement)) (n : ℕ) (ts : Trees) → length (governed_pointers table h us vs n ts) ≡ length (governed_pointers table h us ws n ts)
  as_many_governed [] vs ws n none = refl
  as_many_governed (u ∷ us) vs ws n none = refl
  as_many_governed [] vs ws n (more t ts) = refl
  as_many_governed (u ∷ us) vs ws n (more (node l ks) ts) =
      let d : Option TypeDef = type_at table u in
      let inner : List Pending = flat_map (pointer table h) (nodes_of table (child_types d l ks) (child_agreements d ks) (n + 1) ks) in
      let count_of : (zs : List (List Agreement)) → length (governed_pointers table h (u ∷ us) zs n (more (node l ks) ts))
      ≡ length (pointer_by d (is_pointer l) (cell_in l) h n (first_agreements zs)) + (length inner + length (governed_pointers table h us (rest_agreements zs) (n + 1 + node_count ks) ts)) =
      λ zs. ap length (governed_first u us zs n l ks ts)
      ∙ length-append (pointer_by d (is_pointer l) (cell_in l) h n (first_agreements zs)) (inner ++ governed_pointers table h us (rest_agreements zs) (n + 1 + node_count ks) ts)
      ∙ ap (λ k. length (pointer_by d (is_pointer l) (cell_in l) h n (first_agreements zs)) + k) (length-append inner (governed_pointers table h us (rest_agreements zs) (n + 1 + node_count ks) ts)) in
      count_of vs
      ∙ ap₂ (λ a b. a + (length inner + b)) (by_length d (is_pointer l) (cell_in l) n (first_agreements vs) (first_agreements ws))
      (as_many_governed us (rest_agreements vs) (rest_agreements ws) (n + 1 + node_count ks) ts)
      ∙ sym (count_of ws)

  -- members of which nothing is known govern as none
  pub governed_longer : (us : List ℕ) (vs : List (List Agreement)) (n : ℕ) (ts : Trees) → governed_pointers table h us (vs ++ [] ∷ []) n ts ≡ governed_pointers table h us vs n ts
  governed_longer [] vs n none = refl
  governed_longer (u ∷ us) vs n none = refl
  governed_longer [] vs n (more t ts) = refl
  governed_longer (u ∷ us) [] n (more (node l ks) ts) = refl
  governed_longer (u ∷ us) (v ∷ vs) n (more (node l ks) ts) =
      governed_first u us (v ∷ (vs ++ [] ∷ [])) n l ks ts
      ∙ ap (λ xs. pointer_by (type_at table u) (is_pointer l) (cell_in l) h n v
      ++ (flat_map (pointer table h) (nodes_of table (child_types (type_at table u) l ks) (child_agreements (type_at table u) ks) (n + 1) ks) ++ xs)) (governed_longer us vs (n + 1 + node_count ks) ts)
      ∙ sym (governed_first u us (v ∷ vs) n l ks ts)

-- ## Agreements that join a pending referent

joined_at : (ws : List Agreement) (xs : List Owed) (o : Owed) (ys : List Owed)
    → joined_by ws (xs ++ o ∷ ys) (length xs) ≡ xs ++ record { class = o.class; to = o.to; run = o.run; cell = o.cell; agreements = o.agreements ++ ws } ∷ ys
joined_at ws [] o ys = refl
joined_at ws (x ∷ xs) o ys = ap (λ zs. x ∷ zs) (joined_at ws xs o ys)

module _ (table : Table) (h : Home) (around : List Pending) (us ts : List ℕ) (vs : List (List Agreement)) (u n : ℕ) (xs ys : Trees) (l : Label) (ks : Trees) (many : length us ≡ count xs)
    (as_many : length vs ≡ count xs) where
  abbrev with_it : List Agreement → List Pending
  with_it w = governed_pointers table h (us ++ u ∷ ts) (vs ++ w ∷ []) n (joined xs (more (node l ks) ys))

  abbrev after_it : List Pending
  after_it = flat_map (pointer table h)
      (nodes_of table (child_types (type_at table u) l ks) (child_agreements (type_at table u) ks) (n + node_count xs + 1) ks ++ nodes_of table ts [] (n + node_count xs + 1 + node_count ks) ys)

  split : (w : List Agreement) → with_it w ≡ governed_pointers table h us vs n xs ++ (pointer_by (type_at table u) (is_pointer l) (cell_in l) h (n + node_count xs) w ++ after_it)
  split w = governed_at table h us ts vs [] w u n xs ys l ks many as_many

  -- those of a member that is no pointer change nothing
  pub other_joins : (w w' : List Agreement) → is_pointer l ≡ false → with_it w ≡ with_it w'
  other_joins w w' e =
      let none_of : (v : List Agreement) → pointer_by (type_at table u) (is_pointer l) (cell_in l) h (n + node_count xs) v ≡ [] =
      λ v. ap (λ b. pointer_by (type_at table u) b (cell_in l) h (n + node_count xs) v) e ∙ by_other table h (type_at table u) (cell_in l) (n + node_count xs) v in
      split w ∙ ap (λ zs. governed_pointers table h us vs n xs ++ (zs ++ after_it)) (none_of w ∙ sym (none_of w')) ∙ sym (split w')

  -- those of a pointer join its own
  pub pointer_joins : (w more_of : List Agreement) → is_pointer l ≡ true → FitsPointer (type_at table u) (is_pointer l)
      → joined_by more_of (map (owed table) (around ++ with_it w)) (length around + length (pointers table h us n xs)) ≡ map (owed table) (around ++ with_it (w ++ more_of))
  pointer_joins w more_of e fits = by_type (type_at table u) refl (subst (FitsPointer (type_at table u)) e fits)
    where
      before : List Pending
      before = around ++ governed_pointers table h us vs n xs

      by_pointer : (o : Pending) (o' : Pending) → pointer_by (type_at table u) (is_pointer l) (cell_in l) h (n + node_count xs) w ≡ o ∷ []
          → pointer_by (type_at table u) (is_pointer l) (cell_in l) h (n + node_count xs) (w ++ more_of) ≡ o' ∷ []
          → record { class = o.class; to = o.to; run = (owed table o).run; cell = o.cell; agreements = o.agreements ++ more_of } ≡ owed table o'
          → joined_by more_of (map (owed table) (around ++ with_it w)) (length around + length (pointers table h us n xs)) ≡ map (owed table) (around ++ with_it (w ++ more_of))
      by_pointer o o' eo eo' same =
          let all_of : (v : List Agreement) (q : Pending) → pointer_by (type_at table u) (is_pointer l) (cell_in l) h (n + node_count xs) v ≡ q ∷ []
          → map (owed table) (around ++ with_it v) ≡ map (owed table) before ++ owed table q ∷ map (owed table) after_it =
          λ v q eq.
          ap (λ zs. map (owed table) (around ++ zs)) (split v ∙ ap (λ zs. governed_pointers table h us vs n xs ++ (zs ++ after_it)) eq)
          ∙ ap (map (owed table)) (sym (append_assoc around (governed_pointers table h us vs n xs) (q ∷ after_it)))
          ∙ map-append (owed table) before (q ∷ after_it) in
          let at_it : length around + length (pointers table h us n xs) ≡ length (map (owed table) before) =
          ap (λ k. length around + k) (as_many_governed table h us [] vs n xs) ∙ sym (length-append around (governed_pointers table h us vs n xs)) ∙ sym (length-map before (owed table)) in
          ap₂ (joined_by more_of) (all_of w o eo) at_it
          ∙ joined_at more_of (map (owed table) before) (owed table o) (map (owed table) after_it)
          ∙ ap (λ z. map (owed table) before ++ z ∷ map (owed table) after_it) same
          ∙ sym (all_of (w ++ more_of) o' eo')

      by_type : (d : Option TypeDef) → type_at table u ≡ d → FitsPointer (type_at table u) true
          → joined_by more_of (map (owed table) (around ++ with_it w)) (length around + length (pointers table h us n xs)) ≡ map (owed table) (around ++ with_it (w ++ more_of))
      by_type (Some (def.Pointer class to)) et f =
          by_pointer (record { home = h; node = n + node_count xs; class = class; to = to.0; cell = cell_in l; agreements = w })
          (record { home = h; node = n + node_count xs; class = class; to = to.0; cell = cell_in l; agreements = w ++ more_of })
          (ap₂ (λ d b. pointer_by d b (cell_in l) h (n + node_count xs) w) et e) (ap₂ (λ d b. pointer_by d b (cell_in l) h (n + node_count xs) (w ++ more_of)) et e) refl
      by_type (Some (def.Prim p)) et f = let wrong : true ≡ false = subst (λ d. FitsPointer d true) et f in cc
      by_type (Some (def.Enum zs)) et f = let wrong : true ≡ false = subst (λ d. FitsPointer d true) et f in cc
      by_type (Some (def.Struct members)) et f = let wrong : true ≡ false = subst (λ d. FitsPointer d true) et f in cc
      by_type (Some (def.Array elem bound varying)) et f = let wrong : true ≡ false = subst (λ d. FitsPointer d true) et f in cc
      by_type (Some (def.Text elem bound)) et f = let wrong : true ≡ false = subst (λ d. FitsPointer d true) et f in cc
      by_type (Some (def.Union tag enc arms default)) et f = let wrong : true ≡ false = subst (λ d. FitsPointer d true) et f in cc
      by_type (Some def.Context) et f = let wrong : true ≡ false = subst (λ d. FitsPointer d true) et f in cc
      by_type (Some (def.Pipe elem)) et f = let wrong : true ≡ false = subst (λ d. FitsPointer d true) et f in cc
      by_type None et f = let wrong : true ≡ false = subst (λ d. FitsPointer d true) et f in cc
