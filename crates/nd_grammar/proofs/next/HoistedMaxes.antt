-- Where a struct's last member alone hoists a maximum count, the one before a value tells all maximum counts inside it.
use Rattle.std.proofs.Common.{◌≡◌, ℕ, zero, suc, ℤ, Bool, true, false, List, [], ◌∷◌, Option, Some, None, refl, ap, sym, ◌∙◌, inl, inr, ◌⊎◌, subst, replicate}
use Rattle.std.specs.Prelude.{map, ◌&&◌}
use Rattle.std.specs.List.{AllByRecursion}
use Rattle.std.proofs.lemmas.Bool.{eqb-true}
use Rattle.nd_types.specs.declared.types.TypeDef.{TypeDef}
use Rattle.nd_types.specs.declared.types.TypeId.{TypeId}
use Rattle.nd_types.specs.declared.types.Field.{Field}
use Rattle.nd_types.specs.declared.types.Arm.{Arm}
use Rattle.nd_types.specs.declared.types.TypeDef.TheVariants as def
use Rattle.nd_types.specs.Table.{Table, type_at, selected}
use Rattle.nd_types.specs.Layout.{hoists, hoists_by}
use Rattle.nd_value.specs.declared.value.Graph.{Graph}
use Rattle.nd_value.specs.Tree as tree
use Rattle.nd_value.specs.Tree.{Tree, Trees, node, none, more, Label, count}
use Rattle.nd_value.specs.Nodes.{child_types, selected_types}
use Rattle.nd_value.specs.Agreement.{max_of}
use Rattle.nd_value.specs.Misfit.{has_shape, has_counts}
use Rattle.nd_grammar.specs.Entry.{hoisted_max, own_max}
use Rattle.nd_grammar.proofs.next.Matching.{Known, Maxes, SameMax}
use Rattle.nd_grammar.proofs.next.NextWhole.{MaxesFrom}

-- of these types the last alone hoists, if one does
abbrev pub OnlyLast : (ℕ → Bool) → List ℕ → Type 0
OnlyLast h [] = Unit {0}
OnlyLast h (t ∷ []) = Unit {0}
OnlyLast h (t ∷ u ∷ ts) = (h t ≡ false) × OnlyLast h (u ∷ ts)

abbrev pub last_of : (ℕ → Bool) → List ℕ → Bool
last_of h [] = false
last_of h (t ∷ []) = h t
last_of h (t ∷ u ∷ ts) = last_of h (u ∷ ts)

-- What the laws need to know of where maximum counts stand: a type hoists by its definition; of a struct's members the last alone
-- hoists; an element of an array or a pipe and an arm of a union do not.
pub record HoistsLast (table : Table) : Type 0 where
  pub unfolds : (t : ℕ) → hoists table t ≡ hoists_by (hoists table) (type_at table t)
  pub members : (t : ℕ) (ms : List Field) → type_at table t ≡ Some (def.Struct ms) → OnlyLast (hoists table) (map (λ f. f.of.0) ms)
  pub element : (t : ℕ) (e : TypeId) (b : Option ℕ) (v : Bool) → type_at table t ≡ Some (def.Array e b v) → hoists table e.0 ≡ false
  pub piped : (t : ℕ) (e : TypeId) → type_at table t ≡ Some (def.Pipe e) → hoists table e.0 ≡ false
  pub arms : (t : ℕ) (tag : TypeId) (enc : Bool) (arms : List Arm) (default : Option Arm) (v : ℤ) → type_at table t ≡ Some (def.Union tag enc arms default)
      → AllByRecursion (λ u. hoists table u ≡ false) (selected_types (selected arms default v))

pub struct_last : (h : ℕ → Bool) (ms : List Field) → hoists_by h (Some (def.Struct ms)) ≡ last_of h (map (λ f. f.of.0) ms)
struct_last h [] = refl
struct_last h (f ∷ []) = refl
struct_last h (f ∷ g ∷ ms) = struct_last h (g ∷ ms)

abbrev pub bound_in : Option TypeDef → ℕ
bound_in (Some (def.Array e (Some n) v)) = n
bound_in (Some (def.Text e (Some n))) = n
bound_in _ = 0

first_and : (a b c : Bool) → (a && b && c) ≡ true → a ≡ true
first_and true b c e = refl
first_and false b c e = cc

abbrev is_conformant : Option TypeDef → Bool
is_conformant (Some (def.Array e None v)) = true
is_conformant (Some (def.Text e None)) = true
is_conformant _ = false

-- where a bound is fixed, it is the maximum count
max_bound : (d : Option TypeDef) (l : Label) (ks : Trees) → is_conformant d ≡ false → has_shape d l ks ≡ true → has_counts d l ks ≡ true → max_of l ≡ bound_in d
max_bound (Some (def.Array e (Some n) true)) (tree.Arr m o) ks c s h = eqb-true m n h
max_bound (Some (def.Array e (Some n) false)) (tree.Arr m o) ks c s h = eqb-true m n (first_and _ _ _ h)
max_bound (Some (def.Array e None v)) l ks c s h = cc
max_bound (Some (def.Text e (Some n))) (tree.Text m os) ks c s h = eqb-true m n h
max_bound (Some (def.Text e None)) l ks c s h = cc
max_bound (Some (def.Prim p)) (tree.Num z) ks c s h = refl
max_bound (Some (def.Enum vs)) (tree.Num z) ks c s h = refl
max_bound (Some (def.Struct ms)) tree.Rec ks c s h = refl
max_bound (Some (def.Union tag enc arms default)) (tree.Union v) ks c s h = refl
max_bound (Some (def.Pointer k to)) (tree.Ptr p) ks c s h = refl
max_bound (Some def.Context) (tree.Context a i) ks c s h = refl
max_bound (Some (def.Pipe e)) tree.Pipe ks c s h = refl
max_bound _ _ ks c s h = cc

-- else it is hoisted
max_hoisted : (h : ℕ → Bool) (d : Option TypeDef) → is_conformant d ≡ true → hoists_by h d ≡ true
max_hoisted h (Some (def.Array e None v)) c = refl
max_hoisted h (Some (def.Text e None)) c = refl
max_hoisted h (Some (def.Array e (Some n) v)) c = cc
max_hoisted h (Some (def.Text e (Some n))) c = cc
max_hoisted h None c = cc
max_hoisted h (Some _) c = cc

max_own : (d : Option TypeDef) (l : Label) (ks : Trees) → is_conformant d ≡ true → has_shape d l ks ≡ true → (m : ℕ) → own_max l m ≡ max_of l
max_own (Some (def.Array e None v)) (tree.Arr m o) ks c s x = refl
max_own (Some (def.Text e None)) (tree.Text m os) ks c s x = refl
max_own (Some (def.Array e None v)) _ ks c s x = cc
max_own (Some (def.Text e None)) _ ks c s x = cc
max_own (Some (def.Array e (Some n) v)) l ks c s x = cc
max_own (Some (def.Text e (Some n))) l ks c s x = cc
max_own None l ks c s x = cc
max_own (Some _) l ks c s x = cc

pub replicate_only : (h : ℕ → Bool) (t : ℕ) → h t ≡ false → (n : ℕ) → OnlyLast h (replicate n t)
replicate_only h t e zero = tt
replicate_only h t e (suc zero) = tt
replicate_only h t e (suc (suc n)) = (e, replicate_only h t e (suc n))

pub replicate_last : (h : ℕ → Bool) (t : ℕ) → h t ≡ false → (n : ℕ) → last_of h (replicate n t) ≡ false
replicate_last h t e zero = refl
replicate_last h t e (suc zero) = e
replicate_last h t e (suc (suc n)) = replicate_last h t e (suc n)

flat_only : (h : ℕ → Bool) (ts : List ℕ) → AllByRecursion (λ u. h u ≡ false) ts → OnlyLast h ts × (last_of h ts ≡ false)
flat_only h [] a = (tt, refl)
flat_only h (t ∷ []) a = (tt, a.0)
flat_only h (t ∷ u ∷ ts) a = let (x, y) = flat_only h (u ∷ ts) a.1 in ((a.0, x), y)

pub no_children : (d : Option TypeDef) (ks : Trees) → child_types d tree.Unread ks ≡ []
no_children (Some (def.Struct ms)) ks = refl
no_children (Some (def.Array e b v)) ks = refl
no_children (Some (def.Union tag enc arms default)) ks = refl
no_children (Some (def.Pipe e)) ks = refl
no_children None ks = refl
no_children (Some _) ks = refl

a_record : (ms : List Field) (l : Label) (ks : Trees) → has_shape (Some (def.Struct ms)) l ks ≡ true → l ≡ tree.Rec
a_record ms tree.Rec ks e = refl
a_record ms _ ks e = cc

module _ (table : Table) (laid : HoistsLast table) where
  abbrev H : ℕ → Bool
  H = hoists table

  -- what is known of the children's types: the last alone hoists, and it does only in a struct that does
  abbrev Children : ℕ → Option TypeDef → Label → List ℕ → Type 0
  Children t d l types = OnlyLast H types × (last_of H types ≡ true → (H t ≡ true) × (l ≡ tree.Rec) × ((ms : List Field) × (d ≡ Some (def.Struct ms))))

  pub children : (t : ℕ) (d : Option TypeDef) (l : Label) (ks : Trees) → type_at table t ≡ d → Children t d l (child_types d l ks)
  children t (Some (def.Struct ms)) tree.Rec ks e = (
    laid.members t ms e,
    λ f. (laid.unfolds t ∙ ap (hoists_by H) e ∙ struct_last H ms ∙ f, refl, (ms, refl)),
  )
  children t (Some (def.Array x b v)) (tree.Arr m o) ks e =
      let n = laid.element t x b v e in
      let f : last_of H (replicate (count ks) x.0) ≡ false = replicate_last H x.0 n (count ks) in
      (replicate_only H x.0 n (count ks), λ y. absurd (cc))
  children t (Some (def.Union tag enc arms default)) (tree.Union v) ks e =
      let (x, f) = flat_only H (selected_types (selected arms default v)) (laid.arms t tag enc arms default v e) in
      (x, λ y. absurd (cc))
  children t (Some (def.Pipe x)) tree.Pipe ks e =
      let n = laid.piped t x e in
      let f : last_of H (replicate (count ks) x.0) ≡ false = replicate_last H x.0 n (count ks) in
      (replicate_only H x.0 n (count ks), λ y. absurd (cc))
  children t _ _ ks e = (tt, λ y. absurd (cc))

  module _ (g g' : Graph) where
    abbrev Shaped : Option TypeDef → Label → Trees → Type 0
    Shaped d l ks = (l ≡ tree.Unread) ⊎ ((has_shape d l ks ≡ true) × (has_counts d l ks ≡ true))

    -- the maximum counts of two nodes, where those that are hoisted are equal
    one_max : (t : ℕ) (d : Option TypeDef) → type_at table t ≡ d → (l l' : Label) (ks ks' : Trees) → Shaped d l ks → Shaped d l' ks'
        → (H t ≡ true → own_max l (hoisted_max 0 ks) ≡ own_max l' (hoisted_max 0 ks')) → SameMax l l'
    one_max t d e l l' ks ks' (inl u) s' own = inl u
    one_max t d e l l' ks ks' (inr s) (inl u) own = inr (inl u)
    one_max t d e l l' ks ks' (inr s) (inr s') own = inr (inr (go (is_conformant d) refl))
      where
        go : (b : Bool) → is_conformant d ≡ b → max_of l ≡ max_of l'
        go true c =
            sym (max_own d l ks c s.0 (hoisted_max 0 ks)) ∙ own (laid.unfolds t ∙ ap (hoists_by H) e ∙ max_hoisted H d c) ∙ max_own d l' ks' c s'.0 (hoisted_max 0 ks')
        go false c = max_bound d l ks c s.0 s.1 ∙ sym (max_bound d l' ks' c s'.0 s'.1)

    record_max : (l : Label) (m : ℕ) → l ≡ tree.Rec → own_max l m ≡ m
    record_max l m e = ap (λ u. own_max u m) e

    maxes_of_kids : (types : List ℕ) (ks ks' : Trees) → types ≡ [] → Maxes table types ks ks'
    maxes_of_kids types ks ks' e = subst (λ u. Maxes table u ks ks') (sym e) tt

    -- the children's maximum counts, from the node's
    kids_last : (t : ℕ) (l l' : Label) (ks ks' : Trees) → Shaped (type_at table t) l' ks' → (l' ≡ tree.Unread → ⊥)
        → (H t ≡ true → own_max l (hoisted_max 0 ks) ≡ own_max l' (hoisted_max 0 ks'))
        → last_of H (child_types (type_at table t) l ks) ≡ true → hoisted_max 0 ks ≡ hoisted_max 0 ks'
    kids_last t l l' ks ks' (inl u) read' own f = absurd (read' u)
    kids_last t l l' ks ks' (inr s') read' own f =
        let (h, r, (ms, em)) = (children t (type_at table t) l ks refl).1 f in
        let r' : l' ≡ tree.Rec = a_record ms l' ks' (ap (λ u. has_shape u l' ks') (sym em) ∙ s'.0) in
        sym (record_max l (hoisted_max 0 ks) r) ∙ own h ∙ record_max l' (hoisted_max 0 ks') r'

    read_or_not : (d : Option TypeDef) (l : Label) (ks : Trees) → Shaped d l ks → (l ≡ tree.Unread) ⊎ (l ≡ tree.Unread → ⊥)
    read_or_not d tree.Unread ks s = inl refl
    read_or_not d (tree.Num z) ks s = inr (λ e. cc)
    read_or_not d _ ks s = inr (λ e. cc)

    kids_or_none : (t : ℕ) (l l' : Label) (ks ks' : Trees) → (l ≡ tree.Unread) ⊎ (l ≡ tree.Unread → ⊥) → (l' ≡ tree.Unread) ⊎ (l' ≡ tree.Unread → ⊥)
        → child_types (type_at table t) l ks ≡ child_types (type_at table t) l' ks'
        → ((l ≡ tree.Unread → ⊥) → (l' ≡ tree.Unread → ⊥) → Maxes table (child_types (type_at table t) l ks) ks ks')
        → Maxes table (child_types (type_at table t) l ks) ks ks'
    kids_or_none t l l' ks ks' (inl u) y e k = maxes_of_kids _ ks ks' (ap (λ x. child_types (type_at table t) x ks) u ∙ no_children (type_at table t) ks)
    kids_or_none t l l' ks ks' (inr n) (inl u) e k = maxes_of_kids _ ks ks' (e ∙ ap (λ x. child_types (type_at table t) x ks') u ∙ no_children (type_at table t) ks')
    kids_or_none t l l' ks ks' (inr n) (inr n') e k = k n n'

    no_more : (h : ℕ → Bool) (t : ℕ) (types : List ℕ) → OnlyLast h (t ∷ types) → OnlyLast h types
    no_more h t [] o = tt
    no_more h t (u ∷ types) o = o.1

    -- what the first value tells: where it is the last, all that is known; where not, nothing, since it does not hoist
    own_of : (t : ℕ) (types : List ℕ) (l l' : Label) (ks ks' ts us : Trees) → OnlyLast H (t ∷ types) → Known g table types ts → Known g' table types us
        → (last_of H (t ∷ types) ≡ true → hoisted_max 0 (more (node l ks) ts) ≡ hoisted_max 0 (more (node l' ks') us))
        → H t ≡ true → own_max l (hoisted_max 0 ks) ≡ own_max l' (hoisted_max 0 ks')
    own_of t [] l l' ks ks' none none o a b m h = m h
    own_of t [] l l' ks ks' (more x ts) us o a b m h = absurd a
    own_of t [] l l' ks ks' none (more y us) o a b m h = absurd b
    own_of t (u ∷ types) l l' ks ks' ts us o a b m h = let f : H t ≡ false = o.0 in absurd (cc)

    -- what the others tell
    rest_of : (t : ℕ) (types : List ℕ) (l l' : Label) (ks ks' ts us : Trees) → Known g table types ts → Known g' table types us
        → (last_of H (t ∷ types) ≡ true → hoisted_max 0 (more (node l ks) ts) ≡ hoisted_max 0 (more (node l' ks') us))
        → last_of H types ≡ true → hoisted_max 0 ts ≡ hoisted_max 0 us
    rest_of t [] l l' ks ks' ts us a b m h = cc
    rest_of t (u ∷ types) l l' ks ks' none us a b m h = absurd a
    rest_of t (u ∷ types) l l' ks ks' (more x ts) none a b m h = absurd b
    rest_of t (u ∷ types) l l' ks ks' (more (node i xs) ts) (more (node j ys) us) a b m h = m h

    pub all_maxes : (types : List ℕ) (ts us : Trees) → OnlyLast H types → (last_of H types ≡ true → hoisted_max 0 ts ≡ hoisted_max 0 us)
        → Known g table types ts → Known g' table types us → Maxes table types ts us
    all_maxes [] none us o m a b = tt
    all_maxes [] (more x ts) us o m a b = tt
    all_maxes (t ∷ types) none us o m a b = tt
    all_maxes (t ∷ types) (more (node l ks) ts) none o m a b = tt
    all_maxes (t ∷ types) (more (node l ks) ts) (more (node l' ks') us) o m a b =
        let d : Option TypeDef = type_at table t in
        let own = own_of t types l l' ks ks' ts us o a.2 b.2 m in (
          one_max t d refl l l' ks ks' a.0.shape b.0.shape own,
          (λ e. kids_or_none t l l' ks ks' (read_or_not d l ks a.0.shape) (read_or_not d l' ks' b.0.shape) e (λ n n'.
              all_maxes (child_types d l ks) ks ks' (children t d l ks refl).0 (kids_last t l l' ks ks' b.0.shape n' own) (a.1 n)
              (subst (λ u. Known g' table u ks') (sym e) (b.1 n')))),
          all_maxes types ts us (no_more H t types o) (rest_of t types l l' ks ks' ts us a.2 b.2 m) a.2 b.2,
        )

    pub maxes_hoisted : (t : ℕ) (v v' : Tree) → Known g table (t ∷ []) (more v none) → Known g' table (t ∷ []) (more v' none)
        → MaxesFrom table t (more v none) (more v' none)
    maxes_hoisted t v v' a b m = all_maxes (t ∷ []) (more v none) (more v' none) tt m a b

    -- many of one type that does not hoist
    pub maxes_of_many : (t n : ℕ) (ts us : Trees) → H t ≡ false → Known g table (replicate n t) ts → Known g' table (replicate n t) us → Maxes table (replicate n t) ts us
    maxes_of_many t n ts us e a b =
        let f : last_of H (replicate n t) ≡ false = replicate_last H t e n in
        all_maxes (replicate n t) ts us (replicate_only H t e n) (λ y. absurd (cc)) a b
