-- The pieces of entries, and their octets.
use Rattle.std.proofs.Common.{◌≡◌, ℕ, ◌+◌, ◌-◌, ◌%◌, Bool, true, false, List, [], ◌∷◌, ◌++◌, Option, Some, refl, ap, ap₂, sym, ◌∙◌, arith, append_assoc, append-nil}
use Rattle.std.specs.Prelude.{eqb, replicate}
use Rattle.std.proofs.lemmas.Bool.{eqb-true}
use Rattle.std.proofs.Math.Nat.{mod-one}
use Rattle.nd_base.specs.declared.octets.Order.{Order}
use Rattle.nd_types.specs.declared.types.TypeDef.{TypeDef}
use Rattle.nd_types.specs.declared.types.TypeDef.TheVariants as def
use Rattle.nd_types.specs.Table.{Table, type_at}
use Rattle.nd_types.specs.Roots.{Root}
use Rattle.nd_types.specs.Layout.{hoists}
use Rattle.nd_value.specs.declared.item.Home.{Home}
use Rattle.nd_value.specs.declared.item.Home.TheVariants as home
use Rattle.nd_value.specs.Agreement.{Agreement}
use Rattle.nd_value.specs.Tree as tree
use Rattle.nd_value.specs.Tree.{Tree, Trees, node, none, more, node_count, Label, is_pointer, take_trees, drop_trees}
use Rattle.nd_value.specs.Nodes.{child_types, child_agreements, first_agreements, rest_agreements}
use Rattle.nd_grammar.specs.Entry.{Kind, Entry, Align, Max, Offset, Actual, Chunk, Number, Num, Tag, Text, Context, Test, Unread, size_at, gap, end_of, entries, tests, own_tests, child_tests}
use Rattle.nd_grammar.specs.Entry.{in_place, before_children, hoisted, hoisted_max, whole_value}
use Rattle.nd_grammar.specs.Stream.{chunks, pipe_entries, pipes_entries, octets_of, octets_from}
use Rattle.ndr_encoder_laws.specs.pieces.Pieces.{Piece, Gap, four, piece_size, piece_octets, pieces_end, pieces_octets}
use Rattle.ndr_encoder_laws.specs.pieces.Shown.{piece_of, kinds_pieces, shown, values_pieces, chunks_pieces, pipe_pieces}
use Rattle.ndr_encoder_laws.specs.pieces.Heads.{pipes_pieces}

pub shown_joined : (table : Table) (ms ns : List Entry) → shown table (ms ++ ns) ≡ shown table ms ++ shown table ns
shown_joined table [] ns = refl
shown_joined table (m ∷ ms) ns =
    ap (λ l. piece_of table m.kind ++ l) (shown_joined table ms ns) ∙ sym (append_assoc (piece_of table m.kind) (shown table ms) (shown table ns))

shown_entries : (table : Table) (h : Home) (n : ℕ) (xs : List Kind) → shown table (entries h n xs) ≡ kinds_pieces table xs
shown_entries table h n [] = refl
shown_entries table h n (x ∷ xs) = ap (λ l. piece_of table x ++ l) (shown_entries table h n xs)

pub shown_tests : (table : Table) (h : Home) (n : ℕ) (t : Tree) (given : List Agreement) → shown table (tests h n t given) ≡ []
shown_tests table h n t [] = refl
shown_tests table h n t (a ∷ rest) = shown_tests table h n t rest

shown_own : (table : Table) (b : Bool) (h : Home) (n : ℕ) (t : Tree) (given : List Agreement) → shown table (own_tests b h n t given) ≡ []
shown_own table true h n t given = refl
shown_own table false h n t given = shown_tests table h n t given

shown_child_tests : (table : Table) (h : Home) (given : List (List Agreement)) (n : ℕ) (ts : Trees) → shown table (child_tests h given n ts) ≡ []
shown_child_tests table h given n none = refl
shown_child_tests table h given n (more (node l ks) ts) =
    shown_joined table (own_tests (is_pointer l) h n (node l ks) (first_agreements given)) (child_tests h (rest_agreements given) (n + 1 + node_count ks) ts)
    ∙ ap₂ (λ u v. u ++ v) (shown_own table (is_pointer l) h n (node l ks) (first_agreements given)) (shown_child_tests table h (rest_agreements given) (n + 1 + node_count ks) ts)

-- the pieces of values in their place are those of their types: tests have none
pub shown_in_place : (table : Table) (h : Home) (types : List ℕ) (n : ℕ) (ts : Trees) → shown table (in_place table h types n ts) ≡ values_pieces table types ts
shown_in_place table h types n none = refl
shown_in_place table h [] n (more t ts) = refl
shown_in_place table h (t ∷ types) n (more (node l ks) ts) =
    let D = type_at table t in
    let E : List Entry = entries h n (before_children table t D l ks) in
    let I : List Entry = in_place table h (child_types D l ks) (n + 1) ks in
    let T : List Entry = child_tests h (child_agreements D ks) (n + 1) ks in
    let R : List Entry = in_place table h types (n + 1 + node_count ks) ts in
    shown_joined table E (I ++ (T ++ R))
    ∙ ap₂ (λ u v. u ++ v) (shown_entries table h n (before_children table t D l ks))
    (shown_joined table I (T ++ R)
    ∙ ap₂ (λ u v. u ++ v) (shown_in_place table h (child_types D l ks) (n + 1) ks)
    (shown_joined table T R ∙ ap₂ (λ u v. u ++ v) (shown_child_tests table h (child_agreements D ks) (n + 1) ks) (shown_in_place table h types (n + 1 + node_count ks) ts)))

-- the pieces of a whole value
pub shown_whole : (table : Table) (h : Home) (t : ℕ) (l : Label) (ks : Trees) → shown table (whole_value table h t (node l ks))
    ≡ kinds_pieces table (hoisted (hoists table t) l (hoisted_max 0 (more (node l ks) none))) ++ values_pieces table (t ∷ []) (more (node l ks) none)
shown_whole table h t l ks =
    let H : List Kind = hoisted (hoists table t) l (hoisted_max 0 (more (node l ks) none)) in
    shown_joined table (entries h 0 H) (in_place table h (t ∷ []) 0 (more (node l ks) none))
    ∙ ap₂ (λ u v. u ++ v) (shown_entries table h 0 H) (shown_in_place table h (t ∷ []) 0 (more (node l ks) none))

-- no gap leads to a multiple of 1
gap_one : (at : ℕ) → gap at 1 ≡ 0
gap_one at = mod-one (1 - at % 1)

-- pieces after one another
pub end_joined : (at : ℕ) (xs ys : List Piece) → pieces_end at (xs ++ ys) ≡ pieces_end (pieces_end at xs) ys
end_joined at [] ys = refl
end_joined at (x ∷ xs) ys = end_joined (at + piece_size at x) xs ys

pub octets_joined : (order : Order) (num : ℕ → ℕ) (at : ℕ) (xs ys : List Piece)
    → pieces_octets order num at (xs ++ ys) ≡ pieces_octets order num at xs ++ pieces_octets order num (pieces_end at xs) ys
octets_joined order num at [] ys = refl
octets_joined order num at (x ∷ xs) ys =
    ap (λ l. piece_octets order num at x ++ l) (octets_joined order num (at + piece_size at x) xs ys)
    ∙ sym (append_assoc (piece_octets order num at x) (pieces_octets order num (at + piece_size at x) xs) (pieces_octets order num (pieces_end (at + piece_size at x) xs) ys))

-- a gap given a piece, or none
pub gap_end : (b : Bool) (at n : ℕ) → eqb n 1 ≡ b → pieces_end at (elim b [ true ↦ [] | false ↦ Gap n ∷ [] ]) ≡ at + gap at n
gap_end true at n e = let h : gap at n ≡ 0 = ap (gap at) (eqb-true n 1 e) ∙ gap_one at in omega (arith, h)
gap_end false at n e = refl

pub gap_octets : (order : Order) (num : ℕ → ℕ) (b : Bool) (at n : ℕ) → eqb n 1 ≡ b
    → pieces_octets order num at (elim b [ true ↦ [] | false ↦ Gap n ∷ [] ]) ≡ replicate {A = ℕ} (gap at n) 0
gap_octets order num true at n e = let h : gap at n ≡ 0 = ap (gap at) (eqb-true n 1 e) ∙ gap_one at in ap (λ k. replicate {A = ℕ} k 0) (sym h)
gap_octets order num false at n e = append-nil (replicate {A = ℕ} (gap at n) 0)

-- the pieces of a kind end where it ends, and have its octets
kind_end : (table : Table) (at : ℕ) (x : Kind) → pieces_end at (piece_of table x) ≡ at + size_at at x
kind_end table at (Align n) = gap_end (eqb n 1) at n refl
kind_end table at (Max v) = refl
kind_end table at (Offset t v) = refl
kind_end table at (Actual t offset limit v) = refl
kind_end table at (Chunk v) = refl
kind_end table at (Number class to c) = refl
kind_end table at (Num p values z) = refl
kind_end table at (Tag p values arms default z) = refl
kind_end table at (Text os) = refl
kind_end table at (Context attributes id) = refl
kind_end table at (Test attr wanted found) = omega arith
kind_end table at Unread = omega arith

kind_octets : (order : Order) (num : ℕ → ℕ) (table : Table) (at : ℕ) (x : Kind) → pieces_octets order num at (piece_of table x) ≡ octets_of order num at x
kind_octets order num table at (Align n) = gap_octets order num (eqb n 1) at n refl
kind_octets order num table at (Max v) = append-nil _
kind_octets order num table at (Offset t v) = append-nil _
kind_octets order num table at (Actual t offset limit v) = append-nil _
kind_octets order num table at (Chunk v) = append-nil _
kind_octets order num table at (Number class to c) = append-nil _
kind_octets order num table at (Num p values z) = append-nil _
kind_octets order num table at (Tag p values arms default z) = append-nil _
kind_octets order num table at (Text os) = append-nil _
kind_octets order num table at (Context attributes id) = append-nil _
kind_octets order num table at (Test attr wanted found) = refl
kind_octets order num table at Unread = refl

-- entries end where their pieces end
pub shown_end : (table : Table) (at : ℕ) (ms : List Entry) → pieces_end at (shown table ms) ≡ end_of at ms
shown_end table at [] = refl
shown_end table at (m ∷ ms) =
    end_joined at (piece_of table m.kind) (shown table ms) ∙ ap (λ k. pieces_end k (shown table ms)) (kind_end table at m.kind) ∙ shown_end table (at + size_at at m.kind) ms

-- and have the same octets
pub shown_octets : (order : Order) (num : ℕ → ℕ) (table : Table) (at : ℕ) (ms : List Entry) → pieces_octets order num at (shown table ms) ≡ octets_from order num at ms
shown_octets order num table at [] = refl
shown_octets order num table at (m ∷ ms) =
    octets_joined order num at (piece_of table m.kind) (shown table ms)
    ∙ ap₂ (λ u v. u ++ v) (kind_octets order num table at m.kind)
    (ap (λ k. pieces_octets order num k (shown table ms)) (kind_end table at m.kind) ∙ shown_octets order num table (at + size_at at m.kind) ms)

-- the pieces of chunks, and of pipes
shown_chunks : (table : Table) (h : Home) (e n : ℕ) (cut : List ℕ) (ts : Trees) → shown table (chunks table h e n cut ts) ≡ chunks_pieces table e cut ts
shown_chunks table h e n [] ts = refl
shown_chunks table h e n (k ∷ cut) ts =
    let V : List Entry = in_place table h (replicate k e) n (take_trees k ts) in
    let R : List Entry = chunks table h e (n + node_count (take_trees k ts)) cut (drop_trees k ts) in
    ap (λ l. Gap 4 ∷ four k ∷ l)
    (shown_joined table V R ∙ ap₂ (λ u v. u ++ v) (shown_in_place table h (replicate k e) n (take_trees k ts)) (shown_chunks table h e (n + node_count (take_trees k ts)) cut (drop_trees k ts)))

shown_pipe : (table : Table) (h : Home) (d : Option TypeDef) (cut : List ℕ) (l : Label) (ks : Trees)
    → shown table (pipe_entries table h d cut (node l ks)) ≡ pipe_pieces table d cut (node l ks)
shown_pipe table h (Some (def.Pipe elem)) cut tree.Pipe ks = shown_chunks table h elem.0 1 cut ks
shown_pipe table h (Some (def.Pipe elem)) cut l ks = refl
shown_pipe table h d cut l ks = refl

pub shown_pipes : (table : Table) (i : ℕ) (rs : List Root) (vs : List Tree) (cuts : List (List ℕ))
    → shown table (pipes_entries table i rs vs cuts) ≡ pipes_pieces table rs vs cuts
shown_pipes table i [] vs cuts = refl
shown_pipes table i (r ∷ rs) [] cuts = refl
shown_pipes table i (r ∷ rs) (v ∷ vs) [] = refl
shown_pipes table i (r ∷ rs) (node l ks ∷ vs) (cut ∷ cuts) =
    shown_joined table (pipe_entries table (home.Root i) (type_at table r.of) cut (node l ks)) (pipes_entries table (i + 1) rs vs cuts)
    ∙ ap₂ (λ u v. u ++ v) (shown_pipe table (home.Root i) (type_at table r.of) cut l ks) (shown_pipes table (i + 1) rs vs cuts)
