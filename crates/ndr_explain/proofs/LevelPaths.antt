-- Levels of a node's children.
-- `L` is a level, `Ls` are levels, `p` is a path.
use Rattle.std.proofs.Common.{◌≡◌, ℕ, ◌+◌, ◌-◌, ◌<◌, ◌≤◌, zero, suc, ℤ, List, [], ◌∷◌, ◌++◌, length, map, drop, replicate, reverse, Option, None, Some, codes, decimal, refl, ap, sym, ◌∙◌, subst}
use Rattle.std.proofs.Common.{append_assoc, arith, option_map}
use Rattle.std.specs.List.{slice_get}
use Rattle.std.proofs.lemmas.Option.{same_Some}
use Rattle.std.proofs.lemmas.List.{length-map, length-replicate, reverse-append, drop-drop}
use Rattle.nd_types.specs.declared.types.Arm.{Arm}
use Rattle.nd_types.specs.declared.types.Field.{Field}
use Rattle.nd_types.specs.declared.types.TypeId.{TypeId}
use Rattle.nd_types.specs.declared.types.TypeDef.{TypeDef}
use Rattle.nd_types.specs.declared.types.TypeDef.TheVariants as def
use Rattle.nd_types.specs.Layout.{type_list}
use Rattle.nd_types.specs.Table.{selected}
use Rattle.nd_value.specs.Tree as tree
use Rattle.nd_value.specs.Tree.{Trees, none, more, count}
use Rattle.nd_value.specs.Nodes.{child_types, selected_types}
use Rattle.text_grammar.specs.Paths.{member_path, element_path, element_paths, arm_paths, child_paths}
use Rattle.ndr_explain.specs.declared.levels.Level.{Level}
use Rattle.ndr_explain.specs.declared.levels.Level.TheVariants as level
use Rattle.ndr_explain.specs.Cursors.{index_paths, level_types, level_paths, child_path, field_path, path_to, types_after, paths_after, inner_types, inner_paths, IsLevelOf, valued_path, armed_paths}
use Rattle.ndr_explain.specs.Cursors.{union_arm, elem_types, elem_paths, array_element, pipe_element}
use Rattle.nd_lemmas.proofs.Lists.{drop_past as drop_all}

length_indices : (p : List ℕ) (i n : ℕ) → length (index_paths p i n) ≡ n
length_indices p i zero = refl
length_indices p i (suc n) = ap suc (length_indices p (i + 1) n)

same_lengths : (p : List ℕ) (L : Level) → length (level_paths p L) ≡ length (level_types L)
same_lengths p (level.Whole of) = refl
same_lengths p (level.Arm of name) = refl
same_lengths p (level.Members members at) = length-map (drop at members.now) (λ f. member_path p f.name) ∙ sym (length-map (drop at members.now) (λ f. f.of.0))
same_lengths p (level.Elements of offset at size) = length_indices p (offset + at) (size - at) ∙ sym (length-replicate (size - at) of.0)

-- there are as many paths as types
pub same_length : (p : List ℕ) (inner : Option Level) → length (inner_paths p inner) ≡ length (inner_types inner)
same_length p None = refl
same_length p (Some L) = same_lengths p L

-- ## The child at which a level is

field_first : (p : List ℕ) (fs : List Field) (at : ℕ) → 0 < length (map (λ f. f.of.0) (drop at fs))
    → map (λ f. member_path p f.name) (drop at fs) ≡ field_path p (slice_get fs at) ∷ drop 1 (map (λ f. member_path p f.name) (drop at fs))
field_first p [] zero h = absurd (omega (arith, h))
field_first p [] (suc at) h = absurd (omega (arith, h))
field_first p (f ∷ fs) zero h = refl
field_first p (f ∷ fs) (suc at) h = field_first p fs at h

element_first : (p : List ℕ) (t i n : ℕ) → 0 < length (replicate n t) → index_paths p i n ≡ element_path p i ∷ drop 1 (index_paths p i n)
element_first p t i zero h = absurd (omega (arith, h))
element_first p t i (suc n) h = refl

-- its path is the first
pub path_first : (p : List ℕ) (L : Level) → 0 < length (level_types L) → level_paths p L ≡ child_path p L ∷ drop 1 (level_paths p L)
path_first p (level.Whole of) h = refl
path_first p (level.Arm of name) h = refl
path_first p (level.Members members at) h = field_first p members.now at h
path_first p (level.Elements of offset at size) h = element_first p of.0 (offset + at) (size - at) h

-- and so is its type
pub member_first : (fs : List Field) (at : ℕ) (t : TypeId) → (at < length fs → option_map (λ f. f.of) (slice_get fs at) ≡ Some t)
    → 0 < length (map (λ f. f.of.0) (drop at fs)) → map (λ f. f.of.0) (drop at fs) ≡ t.0 ∷ drop 1 (map (λ f. f.of.0) (drop at fs))
member_first [] zero t e h = absurd (omega (arith, h))
member_first [] (suc at) t e h = absurd (omega (arith, h))
member_first (f ∷ fs) zero t e h =
    let k : f.of ≡ t = same_Some f.of t (e (omega arith)) in
    ap (λ (u : TypeId). u.0 ∷ map (λ f. f.of.0) fs) k
member_first (f ∷ fs) (suc at) t e h = member_first fs at t (λ l. e (omega (arith, l))) h

-- ## The next child

drop_suc : {X : Type 0} (xs : List X) (n : ℕ) → drop 1 (drop n xs) ≡ drop (n + 1) xs
drop_suc xs n = drop-drop 1 n xs

drop_map : {X Y : Type 0} (f : X → Y) (xs : List X) → drop 1 (map f xs) ≡ map f (drop 1 xs)
drop_map f [] = refl
drop_map f (x ∷ xs) = refl

some_dropped : {X : Type 0} (xs : List X) (n : ℕ) → n < length xs → 0 < length (drop n xs)
some_dropped [] n h = absurd (omega (arith, h))
some_dropped (x ∷ xs) zero h = omega arith
some_dropped (x ∷ xs) (suc n) h = some_dropped xs n (omega (arith, h))

-- no member is left
pub members_over : (fs : List Field) (at : ℕ) → length fs ≤ at + 1 → drop 1 (map (λ f. f.of.0) (drop at fs)) ≡ []
members_over fs at h = drop_map (λ f. f.of.0) (drop at fs) ∙ ap (map (λ f. f.of.0)) (drop_suc fs at ∙ drop_all fs (at + 1) h)

pub member_types_on : (fs : List Field) (at : ℕ) → map (λ f. f.of.0) (drop (at + 1) fs) ≡ drop 1 (map (λ f. f.of.0) (drop at fs))
member_types_on fs at = ap (map (λ f. f.of.0)) (sym (drop_suc fs at)) ∙ sym (drop_map (λ f. f.of.0) (drop at fs))

pub member_paths_on : (p : List ℕ) (fs : List Field) (at : ℕ) → map (λ f. member_path p f.name) (drop (at + 1) fs) ≡ drop 1 (map (λ f. member_path p f.name) (drop at fs))
member_paths_on p fs at = ap (map (λ f. member_path p f.name)) (sym (drop_suc fs at)) ∙ sym (drop_map (λ f. member_path p f.name) (drop at fs))

pub some_members : (fs : List Field) (at : ℕ) → at < length fs → 0 < length (map (λ f. f.of.0) (drop at fs))
some_members fs at h = subst (λ n. 0 < n) (sym (length-map (drop at fs) (λ f. f.of.0))) (some_dropped fs at h)

pub element_types_on : (t at size : ℕ) → at < size → replicate (size - (at + 1)) t ≡ drop 1 (replicate (size - at) t)
element_types_on t at size h =
    let e : size - at ≡ suc (size - (at + 1)) = omega (arith, h) in
    sym (ap (λ n. drop 1 (replicate n t)) e)

pub element_paths_on : (p : List ℕ) (offset at size : ℕ) → at < size → index_paths p (offset + (at + 1)) (size - (at + 1)) ≡ drop 1 (index_paths p (offset + at) (size - at))
element_paths_on p offset at size h =
    let e : offset + (at + 1) ≡ offset + at + 1 = omega arith in
    let k : size - at ≡ suc (size - (at + 1)) = omega (arith, h) in
    ap (λ i. index_paths p i (size - (at + 1))) e ∙ sym (ap (λ n. drop 1 (index_paths p (offset + at) n)) k)

pub some_elements : (t n : ℕ) → 0 < n → 0 < length (replicate n t)
some_elements t n h = subst (λ m. 0 < m) (sym (length-replicate n t)) h

-- ## Levels inside of others

short : {X Y : Type 0} (xs : List X) (ys : List Y) → length xs ≡ length ys → drop 1 ys ≡ [] → drop 1 xs ≡ []
short [] ys e h = refl
short (x ∷ []) ys e h = refl
short (x ∷ z ∷ xs) [] e h = cc
short (x ∷ z ∷ xs) (y ∷ []) e h = cc
short (x ∷ z ∷ xs) (y ∷ w ∷ ys) e h = cc

-- nothing comes after the last child of a level
pub past_types : (L : Level) (Ls : List Level) → drop 1 (level_types L) ≡ [] → types_after (L ∷ Ls) ≡ types_after Ls
past_types L Ls e = ap (λ ts. ts ++ types_after Ls) e

pub past_paths : (p : List ℕ) (L : Level) (Ls : List Level) → drop 1 (level_types L) ≡ [] → paths_after p (L ∷ Ls) ≡ paths_after p Ls
past_paths p L Ls e =
    ap (λ ps. ps ++ paths_after p Ls) (short (level_paths (path_to p Ls) L) (level_types L) (same_lengths (path_to p Ls) L) e)

-- the innermost of levels is the last of their list
pub innermost : (Ls Ms : List Level) (L : Level) → Ls ≡ Ms ++ L ∷ [] → reverse Ls ≡ L ∷ reverse Ms
innermost Ls Ms L e = ap reverse e ∙ reverse-append Ms (L ∷ [])

-- the steps after a text
pub steps_after : (x p : List ℕ) (Ls : List Level) → path_to (x ++ p) Ls ≡ x ++ path_to p Ls
steps_after x p [] = refl
steps_after x p (L ∷ Ls) = ap (λ q. child_path q L) (steps_after x p Ls) ∙ step_after x (path_to p Ls) L
  where
    field_after : (x q : List ℕ) (f : Option Field) → field_path (x ++ q) f ≡ x ++ field_path q f
    field_after x q None = refl
    field_after x q (Some f) = append_assoc x q (codes "." ++ f.name)

    step_after : (x q : List ℕ) (L : Level) → child_path (x ++ q) L ≡ x ++ child_path q L
    step_after x q (level.Whole of) = refl
    step_after x q (level.Arm of name) = append_assoc x q (codes "." ++ name.now)
    step_after x q (level.Members members at) = field_after x q (slice_get members.now at)
    step_after x q (level.Elements of offset at size) = append_assoc x q (codes "[" ++ (decimal (offset + at) ++ codes "]"))

-- ## The level of a node's children

other_paths : (types : List ℕ) (f g : List ℕ → List (List ℕ)) (r : Option Level) → ((p : List ℕ) → f p ≡ g p) → IsLevelOf types f r → IsLevelOf types g r
other_paths types f g None e h = h
other_paths types f g (Some L) e h = (h.0, λ p. h.1 p ∙ e p)

no_level : (f g : List ℕ → List (List ℕ)) (r : Option Level) → IsLevelOf [] f r → IsLevelOf [] g r
no_level f g None h = refl
no_level f g (Some L) h =
    let some : 0 < length (level_types L) = h.0.0 in
    let empty : length (level_types L) ≡ 0 = ap length h.0.1 in
    absurd (omega (arith, some, empty))

indexed : (p : List ℕ) (i : ℕ) (ks : Trees) → index_paths p i (count ks) ≡ element_paths p i ks
indexed p i none = refl
indexed p i (more k ks) = ap (λ ps. element_path p i ∷ ps) (indexed p (i + 1) ks)

elements_are : (t offset n : ℕ) (ks : Trees) (r : Option Level) → count ks ≡ n → IsLevelOf (replicate n t) (λ p. index_paths p offset n) r
    → IsLevelOf (replicate (count ks) t) (λ p. element_paths p offset ks) r
elements_are t offset n ks r e h =
    other_paths (replicate (count ks) t) (λ p. index_paths p offset (count ks)) (λ p. element_paths p offset ks) r (λ p. indexed p offset ks)
    (subst (λ m. IsLevelOf (replicate m t) (λ p. index_paths p offset m) r) (sym e) h)

of_array : (d : Option TypeDef) (max offset n : ℕ) (ks : Trees) (r : Option Level) → count ks ≡ n
    → IsLevelOf (elem_types (array_element d) n) (λ p. elem_paths (array_element d) p offset n) r
    → IsLevelOf (child_types d (tree.Arr max offset) ks) (λ p. child_paths d (tree.Arr max offset) p ks) r
of_array (Some (def.Array elem bound varying)) max offset n ks r e h = elements_are elem.0 offset n ks r e h
of_array _ max offset n ks r e h = no_level (λ p. []) (λ p. []) r h

pub array_level : (d : Option TypeDef) (elem : Option ℕ) (max offset n : ℕ) (ks : Trees) (r : Option Level) → elem ≡ array_element d → count ks ≡ n
    → IsLevelOf (elem_types elem n) (λ p. elem_paths elem p offset n) r → IsLevelOf (child_types d (tree.Arr max offset) ks) (λ p. child_paths d (tree.Arr max offset) p ks) r
array_level d elem max offset n ks r is e h =
    of_array d max offset n ks r e (subst (λ o. IsLevelOf (elem_types o n) (λ p. elem_paths o p offset n) r) is h)

of_pipe : (d : Option TypeDef) (n : ℕ) (ks : Trees) (r : Option Level) → count ks ≡ n
    → IsLevelOf (elem_types (pipe_element d) n) (λ p. elem_paths (pipe_element d) p 0 n) r → IsLevelOf (child_types d tree.Pipe ks) (λ p. child_paths d tree.Pipe p ks) r
of_pipe (Some (def.Pipe elem)) n ks r e h = elements_are elem.0 0 n ks r e h
of_pipe _ n ks r e h = no_level (λ p. []) (λ p. []) r h

pub pipe_level : (d : Option TypeDef) (elem : Option ℕ) (n : ℕ) (ks : Trees) (r : Option Level) → elem ≡ pipe_element d → count ks ≡ n
    → IsLevelOf (elem_types elem n) (λ p. elem_paths elem p 0 n) r → IsLevelOf (child_types d tree.Pipe ks) (λ p. child_paths d tree.Pipe p ks) r
pipe_level d elem n ks r is e h = of_pipe d n ks r e (subst (λ o. IsLevelOf (elem_types o n) (λ p. elem_paths o p 0 n) r) is h)

of_parts : (name : Option (List ℕ)) (of : Option TypeId) (r : Option Level) → IsLevelOf (type_list of) (λ p. valued_path p name of) r
    → IsLevelOf (type_list of) (λ p. elim name [ None ↦ p ∷ [] | Some n ↦ member_path p n ∷ [] ]) r
of_parts name None r h = no_level (λ p. []) (λ p. elim name [ None ↦ p ∷ [] | Some n ↦ member_path p n ∷ [] ]) r h
of_parts None (Some t) r h = h
of_parts (Some n) (Some t) r h = h

of_arm : (a : Option Arm) (r : Option Level) → IsLevelOf (selected_types a) (λ p. armed_paths p a) r → IsLevelOf (selected_types a) (λ p. arm_paths p a) r
of_arm None r h = h
of_arm (Some a) r h = of_parts a.name a.of r h

of_union : (d : Option TypeDef) (tag : ℤ) (ks : Trees) (r : Option Level) → IsLevelOf (selected_types (union_arm d tag)) (λ p. armed_paths p (union_arm d tag)) r
    → IsLevelOf (child_types d (tree.Union tag) ks) (λ p. child_paths d (tree.Union tag) p ks) r
of_union (Some (def.Union t encapsulated arms default)) tag ks r h = of_arm (selected arms default tag) r h
of_union _ tag ks r h = no_level (λ p. []) (λ p. []) r h

pub union_level : (d : Option TypeDef) (tag : ℤ) (ks : Trees) (a : Option Arm) (r : Option Level) → a ≡ union_arm d tag
    → IsLevelOf (selected_types a) (λ p. armed_paths p a) r → IsLevelOf (child_types d (tree.Union tag) ks) (λ p. child_paths d (tree.Union tag) p ks) r
union_level d tag ks a r is h = of_union d tag ks r (subst (λ o. IsLevelOf (selected_types o) (λ p. armed_paths p o) r) is h)
