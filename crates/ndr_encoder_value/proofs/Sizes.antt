-- How many octets the pieces of values have at most: a piece has at most 2^32, and a node at most four pieces.
-- `t` is a type's number, `d` what it is, `l` a label, `ks` are its children.
use Rattle.std.proofs.Common.{◌≡◌, ℕ, ◌+◌, ◌-◌, ◌*◌, ◌^◌, ◌%◌, ◌≤◌, zero, suc, ℤ, Bool, true, false, ltb, List, [], ◌∷◌, ◌++◌, length, Option, Some, None, refl, arith, length-append}
use Rattle.std.specs.Prelude.{◌==◌, replicate}
use Rattle.std.specs.List.{AllByRecursion}
use Rattle.std.proofs.Math.Nat.{mod-le}
use Rattle.nd_types.specs.declared.types.TypeDef.{TypeDef}
use Rattle.nd_types.specs.declared.types.TypeDef.TheVariants as def
use Rattle.nd_types.specs.declared.types.Arm.{Arm}
use Rattle.nd_types.specs.Table.{Table, type_at, width}
use Rattle.nd_types.specs.Layout.{align_of}
use Rattle.nd_value.specs.Tree as tree
use Rattle.nd_value.specs.Tree.{Trees, node, none, more, Label, count, node_count, take_trees, drop_trees}
use Rattle.nd_value.specs.Nodes.{child_types}
use Rattle.nd_grammar.specs.Entry.{before_children, counts, tag_entries, hoisted}
use Rattle.nd_grammar.specs.Stream.{cut_of, cut_within}
use Rattle.ndr_encoder_laws.specs.pieces.Pieces.{Piece, Gap, Figure, Name, Raw, Handle, gap_pieces, piece_size, pieces_end}
use Rattle.ndr_encoder_laws.specs.pieces.Shown.{kinds_pieces, values_pieces, chunks_pieces}
use Rattle.ndr_encoder_value.proofs.Fits.{Good, width_fits}
use Rattle.ndr_encoder_laws.proofs.written.Pipes.{nodes_parted}

-- ## Octets

gap_small : (a n : ℕ) → (n - a) % n ≤ n
gap_small a n = let e = mod-le (n - a) n in omega (arith, e)

size_small : (at : ℕ) (x : Piece) → Good x → piece_size at x ≤ 2 ^ 32
size_small at (Gap n) h = let e = gap_small (at % n) n in omega (arith, e, h.1)
size_small at (Figure p z) h = let e = width_fits p in omega (arith, e.1)
size_small at (Name c a) h = omega arith
size_small at (Raw os) h = omega (arith, h.0)
size_small at (Handle attributes id) h = omega arith

pub end_small : (at : ℕ) (xs : List Piece) → AllByRecursion Good xs → pieces_end at xs ≤ at + length xs * 2 ^ 32
end_small at [] a = omega arith
end_small at (x ∷ xs) a =
    let s = size_small at x a.0 in
    let r = end_small (at + piece_size at x) xs a.1 in omega (arith, s, r)

-- ## Numbers of pieces

gap_few : (n : ℕ) → length (gap_pieces n) ≤ 1
gap_few n = go (n == 1)
  where
    go : (b : Bool) → length {A = Piece} (elim b [ true ↦ [] | false ↦ Gap n ∷ [] ]) ≤ 1
    go true = omega arith
    go false = omega arith

after_few : (n : ℕ) (xs : List Piece) → length (gap_pieces n ++ xs) ≤ 1 + length xs
after_few n xs =
    let e = length-append (gap_pieces n) xs in
    let g = gap_few n in omega (arith, e, g)

counts_few : (table : Table) (v : Bool) (m o n : ℕ) → length (kinds_pieces table (counts v m o n)) ≤ 4
counts_few table false m o n = omega arith
counts_few table true m o n = omega arith

tag_few : (table : Table) (d : Option TypeDef) (arms : List Arm) (default : Option Arm) (v : ℤ) → length (kinds_pieces table (tag_entries d arms default v)) ≤ 4
tag_few table (Some (def.Prim p)) arms default v = let e = after_few (width p) (Figure p v ∷ []) in omega (arith, e)
tag_few table (Some (def.Enum vs)) arms default v = omega arith
tag_few table None arms default v = omega arith
tag_few table (Some _) arms default v = omega arith

before_few : (table : Table) (t : ℕ) (d : Option TypeDef) (l : Label) (ks : Trees) → length (kinds_pieces table (before_children table t d l ks)) ≤ 4
before_few table t (Some (def.Prim p)) (tree.Num z) ks = let e = after_few (width p) (Figure p z ∷ []) in omega (arith, e)
before_few table t (Some (def.Enum vs)) (tree.Num z) ks = omega arith
before_few table t (Some (def.Struct ms)) tree.Rec ks = let e = after_few (align_of table t) [] in omega (arith, e)
before_few table t (Some (def.Array e b v)) (tree.Arr mx o) ks = counts_few table v mx o (count ks)
before_few table t (Some (def.Text e b)) (tree.Text mx os) ks = omega arith
before_few table t (Some (def.Union tag own arms default)) (tree.Union v) ks = tag_few table (type_at table tag.0) arms default v
before_few table t (Some (def.Pointer k to)) (tree.Ptr c) ks = omega arith
before_few table t (Some def.Context) (tree.Context x i) ks = omega arith
before_few table t _ _ ks = omega arith

pub values_few : (table : Table) (types : List ℕ) (ts : Trees) → length (values_pieces table types ts) ≤ 4 * node_count ts
values_few table types none = omega arith
values_few table [] (more (node l ks) ts) = omega arith
values_few table (t ∷ types) (more (node l ks) ts) =
    let d : Option TypeDef = type_at table t in
    let K : List Piece = kinds_pieces table (before_children table t d l ks) in
    let V : List Piece = values_pieces table (child_types d l ks) ks in
    let R : List Piece = values_pieces table types ts in
    let e = length-append K (V ++ R) in
    let f = length-append V R in
    let a = before_few table t d l ks in
    let b = values_few table (child_types d l ks) ks in
    let c = values_few table types ts in omega (arith, e, f, a, b, c)

pub hoisted_few : (table : Table) (b : Bool) (l : Label) (m : ℕ) → length (kinds_pieces table (hoisted b l m)) ≤ 2
hoisted_few table false l m = omega arith
hoisted_few table true tree.Unread m = omega arith
hoisted_few table true (tree.Num z) m = omega arith
hoisted_few table true _ m = omega arith

-- a maximum count has four octets, whatever it is
pub hoisted_end : (table : Table) (b : Bool) (l : Label) (m n at : ℕ) → pieces_end at (kinds_pieces table (hoisted b l m)) ≡ pieces_end at (kinds_pieces table (hoisted b l n))
hoisted_end table false l m n at = refl
hoisted_end table true tree.Unread m n at = refl
hoisted_end table true (tree.Num z) m n at = refl
hoisted_end table true _ m n at = refl

-- ## Pipes

pub chunks_few : (table : Table) (e : ℕ) (cut : List ℕ) (ts : Trees) → length (chunks_pieces table e cut ts) ≤ 2 + 2 * length cut + 4 * node_count ts
chunks_few table e [] ts = omega arith
chunks_few table e (k ∷ cut) ts =
    let V : List Piece = values_pieces table (replicate k e) (take_trees k ts) in
    let R : List Piece = chunks_pieces table e cut (drop_trees k ts) in
    let f = length-append V R in
    let a = values_few table (replicate k e) (take_trees k ts) in
    let b = chunks_few table e cut (drop_trees k ts) in
    let n = nodes_parted k ts in omega (arith, f, a, b, n)

cut_few : (fuel k n : ℕ) → length (cut_within fuel k n) ≤ fuel
cut_few zero k n = omega arith
cut_few (suc fuel) k zero = omega arith
cut_few (suc fuel) k (suc n) = go (ltb (suc n) k) (cut_few fuel k (suc n - k))
  where
    go : (b : Bool) → length (cut_within fuel k (suc n - k)) ≤ fuel → length {A = ℕ} (elim b [ true ↦ suc n ∷ [] | false ↦ k ∷ cut_within fuel k (suc n - k) ]) ≤ suc fuel
    go true h = omega arith
    go false h = omega (arith, h)

pub cuts_few : (k n : ℕ) → length (cut_of k n) ≤ n
cuts_few k n = cut_few n k n
