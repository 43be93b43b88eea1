-- Which members of structs the children of levels are.
-- `L` is a level, `Ls` are levels, `fs` are members, `ts` types of values, `d` is the type of a node, `r` the level of its children, if it has any.
use Rattle.std.proofs.Common.{◌≡◌, ℕ, ◌+◌, ◌-◌, ◌<◌, ◌≤◌, zero, suc, ℤ, List, [], ◌∷◌, ◌++◌, length, map, drop, replicate, Option, None, Some, refl, ap, sym, ◌∙◌, arith}
use Rattle.nd_types.specs.declared.types.Arm.{Arm}
use Rattle.nd_types.specs.declared.types.Field.{Field}
use Rattle.nd_types.specs.declared.types.TypeDef.{TypeDef}
use Rattle.nd_types.specs.declared.types.TypeDef.TheVariants as def
use Rattle.nd_value.specs.Nodes.{selected_types}
use Rattle.ndr_explain.specs.declared.levels.Level.{Level}
use Rattle.ndr_explain.specs.declared.levels.Level.TheVariants as level
use Rattle.ndr_explain.specs.Cursors.{IsLevelOf, Place, array_element, child_places, elem_types, inner_places, inner_types, level_place, level_places, level_types, member_places}
use Rattle.ndr_explain.specs.Cursors.{no_places, pipe_element, places_after, union_arm}
use Rattle.ndr_explain.proofs.LevelPaths.{element_types_on, member_types_on, members_over}

-- ## As many as there are types

length_members : (fs : List Field) (i : ℕ) (ts : List ℕ) → length (member_places fs i ts) ≡ length ts
length_members fs i [] = refl
length_members fs i (t ∷ ts) = ap suc (length_members fs (i + 1) ts)

length_plain : (ts : List ℕ) → length (no_places ts) ≡ length ts
length_plain [] = refl
length_plain (t ∷ ts) = ap suc (length_plain ts)

level_length : (L : Level) → length (level_places L) ≡ length (level_types L)
level_length (level.Whole of) = refl
level_length (level.Arm of name) = refl
level_length (level.Members members at) = length_members members.now at (level_types (level.Members members at))
level_length (level.Elements of offset at size) = length_plain (level_types (level.Elements of offset at size))

pub inner_length : (inner : Option Level) → length (inner_places inner) ≡ length (inner_types inner)
inner_length None = refl
inner_length (Some L) = level_length L

pub child_length : (d : Option TypeDef) (ts : List ℕ) → length (child_places d ts) ≡ length ts
child_length (Some (def.Struct fs)) ts = length_members fs 0 ts
child_length None ts = length_plain ts
child_length (Some _) ts = length_plain ts

-- ## The child at which a level is

first_member : (fs : List Field) (i : ℕ) (ts : List ℕ) → 0 < length ts → member_places fs i ts ≡ Some (fs, i) ∷ drop 1 (member_places fs i ts)
first_member fs i [] h = absurd (omega (arith, h))
first_member fs i (t ∷ ts) h = refl

first_plain : (ts : List ℕ) → 0 < length ts → no_places ts ≡ None ∷ drop 1 (no_places ts)
first_plain [] h = absurd (omega (arith, h))
first_plain (t ∷ ts) h = refl

-- it is the first
pub place_first : (L : Level) → 0 < length (level_types L) → level_places L ≡ level_place L ∷ drop 1 (level_places L)
place_first (level.Whole of) h = refl
place_first (level.Arm of name) h = refl
place_first (level.Members members at) h = first_member members.now at (level_types (level.Members members at)) h
place_first (level.Elements of offset at size) h = first_plain (level_types (level.Elements of offset at size)) h

-- ## The next child

drop_members : (fs : List Field) (i : ℕ) (ts : List ℕ) → drop 1 (member_places fs i ts) ≡ member_places fs (i + 1) (drop 1 ts)
drop_members fs i [] = refl
drop_members fs i (t ∷ ts) = refl

drop_plain : (ts : List ℕ) → drop 1 (no_places ts) ≡ no_places (drop 1 ts)
drop_plain [] = refl
drop_plain (t ∷ ts) = refl

pub member_places_over : (fs : List Field) (at : ℕ) → length fs ≤ at + 1 → [] ≡ drop 1 (member_places fs at (map (λ f. f.of.0) (drop at fs)))
member_places_over fs at h = sym (drop_members fs at (map (λ f. f.of.0) (drop at fs)) ∙ ap (member_places fs (at + 1)) (members_over fs at h))

pub member_places_on : (fs : List Field) (at : ℕ)
    → member_places fs (at + 1) (map (λ f. f.of.0) (drop (at + 1) fs)) ≡ drop 1 (member_places fs at (map (λ f. f.of.0) (drop at fs)))
member_places_on fs at = ap (member_places fs (at + 1)) (member_types_on fs at) ∙ sym (drop_members fs at (map (λ f. f.of.0) (drop at fs)))

pub element_places_over : (t at size : ℕ) → size ≤ at + 1 → [] ≡ drop 1 (no_places (replicate (size - at) t))
element_places_over t at size h = go (size - at) (omega (arith, h))
  where
    go : (n : ℕ) → n ≤ 1 → [] ≡ drop 1 (no_places (replicate n t))
    go zero l = refl
    go (suc zero) l = refl
    go (suc (suc n)) l = absurd (omega (arith, l))

pub element_places_on : (t at size : ℕ) → at < size → no_places (replicate (size - (at + 1)) t) ≡ drop 1 (no_places (replicate (size - at) t))
element_places_on t at size h = ap no_places (element_types_on t at size h) ∙ sym (drop_plain (replicate (size - at) t))

-- nothing comes after the last child of a level
pub past_places : (L : Level) (Ls : List Level) → [] ≡ drop 1 (level_places L) → places_after (L ∷ Ls) ≡ places_after Ls
past_places L Ls e = ap (λ xs. xs ++ places_after Ls) (sym e)

-- ## The level of a node's children

pub types_of_level : (types : List ℕ) (ways : List ℕ → List (List ℕ)) (r : Option Level) → IsLevelOf types ways r → inner_types r ≡ types
types_of_level types ways None h = sym h
types_of_level types ways (Some L) h = h.0.1

-- a node without children
pub no_children : (d : Option TypeDef) → [] ≡ child_places d []
no_children (Some (def.Struct fs)) = refl
no_children None = refl
no_children (Some _) = refl

-- other children than members
plain_children : (d : Option TypeDef) (r : Option Level) → ((fs : List Field) → d ≡ Some (def.Struct fs) → inner_types r ≡ [])
    → inner_places r ≡ no_places (inner_types r) → inner_places r ≡ child_places d (inner_types r)
plain_children (Some (def.Struct fs)) r f e = e ∙ ap no_places (f fs refl) ∙ sym (ap (member_places fs 0) (f fs refl))
plain_children None r f e = e
plain_children (Some _) r f e = e

pub array_children : (d : Option TypeDef) (elem : Option ℕ) (n : ℕ) (ways : List ℕ → List (List ℕ)) (r : Option Level) → elem ≡ array_element d
    → IsLevelOf (elem_types elem n) ways r → inner_places r ≡ no_places (inner_types r) → inner_places r ≡ child_places d (inner_types r)
array_children d elem n ways r is h e =
    plain_children d r (λ fs s. types_of_level (elem_types elem n) ways r h ∙ ap (λ o. elem_types o n) (is ∙ ap array_element s)) e

pub pipe_children : (d : Option TypeDef) (elem : Option ℕ) (n : ℕ) (ways : List ℕ → List (List ℕ)) (r : Option Level) → elem ≡ pipe_element d
    → IsLevelOf (elem_types elem n) ways r → inner_places r ≡ no_places (inner_types r) → inner_places r ≡ child_places d (inner_types r)
pipe_children d elem n ways r is h e =
    plain_children d r (λ fs s. types_of_level (elem_types elem n) ways r h ∙ ap (λ o. elem_types o n) (is ∙ ap pipe_element s)) e

pub union_children : (d : Option TypeDef) (tag : ℤ) (a : Option Arm) (ways : List ℕ → List (List ℕ)) (r : Option Level) → a ≡ union_arm d tag
    → IsLevelOf (selected_types a) ways r → inner_places r ≡ no_places (inner_types r) → inner_places r ≡ child_places d (inner_types r)
union_children d tag a ways r is h e =
    plain_children d r (λ fs s. types_of_level (selected_types a) ways r h ∙ ap selected_types (is ∙ ap (λ x. union_arm x tag) s)) e
