-- Trees of two graphs that match, node by node.
use Rattle.std.proofs.Common.{◌≡◌, ℕ, ◌+◌, zero, suc, true, false, List, [], ◌∷◌, ◌++◌, Option, Some, None, refl, ap, ap₂, sym, ◌∙◌, ◌⊎◌}
use Rattle.std.specs.Prelude.{pos, map, ◌-ℤ◌}
use Rattle.nd_types.specs.declared.types.TypeDef.{TypeDef}
use Rattle.nd_types.specs.declared.types.Field.{Field}
use Rattle.nd_types.specs.declared.types.TypeDef.TheVariants as def
use Rattle.nd_types.specs.declared.types.Class.{Class}
use Rattle.nd_types.specs.declared.types.Class.TheVariants.{Unique, Full}
use Rattle.nd_types.specs.Table.{Table, type_at}
use Rattle.nd_value.specs.declared.value.Graph.{Graph}
use Rattle.nd_value.specs.Setting.{cell_of_number}
use Rattle.nd_value.specs.Misfit.{has_shape, has_counts, has_machine_values, is_no_null_ref}
use Rattle.nd_value.specs.Tree.{Referent}
use Rattle.nd_value.specs.Tree as tree
use Rattle.nd_value.specs.Tree.{Tree, Trees, node, none, more, count, node_count, Label, is_pointer, cell_in}
use Rattle.nd_value.specs.Nodes.{child_types, child_agreements}
use Rattle.nd_types.specs.declared.types.Attr.{Attr}
use Rattle.nd_types.specs.declared.types.Attr.TheVariants as attr
use Rattle.nd_types.specs.declared.types.AttrVar.{AttrVar}
use Rattle.nd_value.specs.Agreement.{agreement, max_of, offset_of, tag_of, actual, found_in, number_of, number_in, member_agreements}

-- a label without its cell, and its cell
abbrev pub bare : Label → Label
bare (tree.Ptr c) = tree.Ptr None
bare l = l

abbrev pub class_of : Option TypeDef → Class
class_of (Some (def.Pointer k to)) = k
class_of _ = Unique

-- two pointers are null together, and full ones have one number
abbrev pub CellsMatch : (ℕ → ℕ) → (ℕ → ℕ) → Class → Option ℕ → Option ℕ → Type 0
CellsMatch nums nums' k None None = Unit {0}
CellsMatch nums nums' Full (Some c) (Some d) = nums c ≡ nums' d
CellsMatch nums nums' _ (Some c) (Some d) = Unit {0}
CellsMatch nums nums' k _ _ = ⊥

-- Two labels of one type match: they are equal but for a pointer's cell, and such cells are related.
pub record Match (C : Class → Option ℕ → Option ℕ → Type 0) (d : Option TypeDef) (l l' : Label) : Type 0 where
  pub same : bare l ≡ bare l'
  pub cells : C (class_of d) (cell_in l) (cell_in l')
  pub read : l ≡ tree.Unread → ⊥
  pub read' : l' ≡ tree.Unread → ⊥

-- what is known of a node of a partial graph: the counts of an array that does not vary, and its pointer
abbrev pub CountsKnown : Option TypeDef → Label → Trees → Type 0
CountsKnown (Some (def.Array e b false)) (tree.Arr m o) ks = (o ≡ 0) × (count ks ≡ m)
CountsKnown _ _ ks = Unit {0}

-- Trees of types that match, node by node.
abbrev pub Matched : (Class → Option ℕ → Option ℕ → Type 0) → Table → List ℕ → Trees → Trees → Type 0
Matched C table types none none = Unit {0}
Matched C table (t ∷ types) (more (node l ks) ts) (more (node l' ks') us) =
    Match C (type_at table t) l l'
    × Matched C table (child_types (type_at table t) l ks) ks ks'
    × Matched C table types ts us
Matched C table _ _ _ = ⊥

-- a pointer's cell is one of the graph, of its referent's type
abbrev pub PointeeKnown : Graph → Option TypeDef → Option ℕ → Type 0
PointeeKnown g (Some (def.Pointer k to)) (Some c) = (x : Referent) × (cell_of_number g c ≡ Some x) × (x.of ≡ to.0)
PointeeKnown g _ _ = Unit {0}

-- what is known of a node of a partial graph: it is unread, or has its type's shape and counts
pub record NodeKnown (g : Graph) (d : Option TypeDef) (l : Label) (ks : Trees) : Type 0 where
  pub counts : CountsKnown d l ks
  pub no_null : is_no_null_ref d l ≡ true
  pub pointee : PointeeKnown g d (cell_in l)
  pub machine : has_machine_values l ≡ true
  pub shape : (l ≡ tree.Unread) ⊎ ((has_shape d l ks ≡ true) × (has_counts d l ks ≡ true))

-- what is known of each node of trees of these types
abbrev pub Known : Graph → Table → List ℕ → Trees → Type 0
Known g table [] none = Unit {0}
Known g table (t ∷ types) (more (node l ks) ts) =
    NodeKnown g (type_at table t) l ks
    × ((l ≡ tree.Unread → ⊥) → Known g table (child_types (type_at table t) l ks) ks)
    × Known g table types ts
Known g table _ _ = ⊥

-- two labels have one maximum count, where neither is unread
abbrev pub SameMax : Label → Label → Type 0
SameMax l l' = (l ≡ tree.Unread) ⊎ ((l' ≡ tree.Unread) ⊎ (max_of l ≡ max_of l'))

-- the maximum counts of two lists of trees are equal, as far as their types are
abbrev pub Maxes : Table → List ℕ → Trees → Trees → Type 0
Maxes table (t ∷ types) (more (node l ks) ts) (more (node l' ks') us) =
    SameMax l l'
    × (child_types (type_at table t) l ks ≡ child_types (type_at table t) l' ks' → Maxes table (child_types (type_at table t) l ks) ks ks')
    × Maxes table types ts us
Maxes table _ _ _ = Unit {0}

max_bare : (l : Label) → max_of l ≡ max_of (bare l)
max_bare (tree.Ptr c) = refl
max_bare (tree.Num z) = refl
max_bare _ = refl

offset_bare : (l : Label) → offset_of l ≡ offset_of (bare l)
offset_bare (tree.Ptr c) = refl
offset_bare _ = refl

tag_bare : (l : Label) → tag_of l ≡ tag_of (bare l)
tag_bare (tree.Ptr c) = refl
tag_bare _ = refl

actual_bare : (l : Label) (ks : Trees) → actual l ks ≡ actual (bare l) ks
actual_bare (tree.Ptr c) ks = refl
actual_bare _ ks = refl

actual_count : (l : Label) (ks ks' : Trees) → count ks ≡ count ks' → actual l ks ≡ actual l ks'
actual_count (tree.Text m os) ks ks' e = refl
actual_count _ ks ks' e = e

pub pointer_bare : (l : Label) → is_pointer l ≡ is_pointer (bare l)
pointer_bare (tree.Ptr c) = refl
pointer_bare _ = refl

number_bare : (l : Label) (ks : Trees) → number_of (node l ks) ≡ number_of (node (bare l) none)
number_bare (tree.Num z) ks = refl
number_bare _ ks = refl

module _ (l l' : Label) (e : bare l ≡ bare l') where
  pub through : {X : Type 0} (f : Label → X) → ((k : Label) → f k ≡ f (bare k)) → f l ≡ f l'
  through f b = b l ∙ ap f e ∙ sym (b l')

  actual_same : (ks ks' : Trees) → count ks ≡ count ks' → actual l ks ≡ actual l' ks'
  actual_same ks ks' c = actual_bare l ks ∙ ap (λ k. actual k ks) e ∙ sym (actual_bare l' ks) ∙ actual_count l' ks ks' c

  pub found_same : (a : Attr) (ks ks' : Trees) → count ks ≡ count ks' → found_in a (node l ks) ≡ found_in a (node l' ks')
  found_same attr.Size ks ks' c = ap pos (through max_of max_bare)
  found_same attr.Max ks ks' c = ap pos (through max_of max_bare)
  found_same attr.First ks ks' c = ap pos (through offset_of offset_bare)
  found_same attr.Length ks ks' c = ap pos (actual_same ks ks' c)
  found_same attr.Last ks ks' c = ap₂ (λ u v. pos (u + v) -ℤ pos 1) (through offset_of offset_bare) (actual_same ks ks' c)
  found_same attr.Switch ks ks' c = through tag_of tag_bare

  pub number_same : (ks ks' : Trees) → number_of (node l ks) ≡ number_of (node l' ks')
  number_same ks ks' = number_bare l ks ∙ ap (λ k. number_of (node k none)) e ∙ sym (number_bare l' ks')

module _ (C : Class → Option ℕ → Option ℕ → Type 0) (table : Table) where
  pub matched_nodes : (types : List ℕ) (ts us : Trees) → Matched C table types ts us → node_count ts ≡ node_count us
  matched_nodes types none none m = refl
  matched_nodes [] none (more u us) m = absurd m
  matched_nodes [] (more t ts) none m = absurd m
  matched_nodes (t ∷ types) none (more u us) m = absurd m
  matched_nodes (t ∷ types) (more (node l ks) ts) none m = absurd m
  matched_nodes [] (more t ts) (more u us) m = absurd m
  matched_nodes (t ∷ types) (more (node l ks) ts) (more (node l' ks') us) m =
      ap₂ (λ a b. suc (a + b)) (matched_nodes _ ks ks' m.1) (matched_nodes types ts us m.2)

  pub matched_count : (types : List ℕ) (ts us : Trees) → Matched C table types ts us → count ts ≡ count us
  matched_count types none none m = refl
  matched_count [] none (more u us) m = absurd m
  matched_count [] (more t ts) none m = absurd m
  matched_count (t ∷ types) none (more u us) m = absurd m
  matched_count (t ∷ types) (more (node l ks) ts) none m = absurd m
  matched_count [] (more t ts) (more u us) m = absurd m
  matched_count (t ∷ types) (more (node l ks) ts) (more (node l' ks') us) m = ap suc (matched_count types ts us m.2)

  pub matched_number : (types : List ℕ) (ts us : Trees) → Matched C table types ts us → (i : ℕ) → number_in ts i ≡ number_in us i
  matched_number types none none m i = refl
  matched_number [] none (more u us) m i = absurd m
  matched_number [] (more t ts) none m i = absurd m
  matched_number (t ∷ types) none (more u us) m i = absurd m
  matched_number (t ∷ types) (more (node l ks) ts) none m i = absurd m
  matched_number [] (more t ts) (more u us) m i = absurd m
  matched_number (t ∷ types) (more (node l ks) ts) (more (node l' ks') us) m zero = number_same l l' m.0.same ks ks'
  matched_number (t ∷ types) (more (node l ks) ts) (more (node l' ks') us) m (suc i) = matched_number types ts us m.2 i

  agreements_same : (ks ks' : Trees) → ((i : ℕ) → number_in ks i ≡ number_in ks' i) → (vars : List AttrVar) → member_agreements ks vars ≡ member_agreements ks' vars
  agreements_same ks ks' e [] = refl
  agreements_same ks ks' e (a ∷ rest) = ap₂ (λ u v. agreement a.attr u ++ v) (e a.var) (agreements_same ks ks' e rest)

  fields_same : (ks ks' : Trees) → ((i : ℕ) → number_in ks i ≡ number_in ks' i) → (fs : List Field)
      → map (λ f. member_agreements ks f.vars) fs ≡ map (λ f. member_agreements ks' f.vars) fs
  fields_same ks ks' e [] = refl
  fields_same ks ks' e (f ∷ fs) = ap₂ (λ u v. u ∷ v) (agreements_same ks ks' e f.vars) (fields_same ks ks' e fs)

  pub child_agreements_same : (d : Option TypeDef) (ks ks' : Trees) → ((i : ℕ) → number_in ks i ≡ number_in ks' i) → child_agreements d ks ≡ child_agreements d ks'
  child_agreements_same (Some (def.Struct fs)) ks ks' e = fields_same ks ks' e fs
  child_agreements_same _ ks ks' e = refl
