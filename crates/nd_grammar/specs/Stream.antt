-- The streams of a graph, when octets are a stream of it (C706 14: the representation of a value), and the one stream that is written.
use Rattle.std.specs.Prelude.{◌≡◌, ℕ, ◌+◌, ◌-◌, ◌<◌, ◌≤◌, ◌^◌, zero, suc, true, false, nat_lt, List, [], ◌∷◌, ◌++◌, length, take, drop, flat_map}
use Rattle.std.specs.Prelude.{replicate, sum, reverse, Option, Some, None}
use Rattle.std.specs.List.{AllByRecursion}
use Rattle.nd_base.specs.declared.octets.Order.{Order}
use Rattle.nd_base.specs.declared.TheConstants.{STREAM_LIMIT}
use Rattle.nd_types.specs.declared.types.TypeDef.{TypeDef}
use Rattle.nd_types.specs.declared.types.TypeDef.TheVariants as def
use Rattle.nd_types.specs.declared.types.Class.{Class}
use Rattle.nd_types.specs.declared.types.Class.TheVariants.{Ref, Unique, Full}
use Rattle.nd_types.specs.Table.{Table, type_at}
use Rattle.nd_types.specs.Roots.{Root}
use Rattle.nd_types.specs.Number.{unsigned, value_of_octets, in_order, spelling, written}
use Rattle.nd_value.specs.declared.value.Graph.{Graph}
use Rattle.nd_value.specs.declared.item.Home.{Home}
use Rattle.nd_value.specs.declared.item.Home.TheVariants as home
use Rattle.nd_value.specs.Tree as tree
use Rattle.nd_value.specs.Tree.{Tree, Trees, node, none, more, count, node_count, take_trees, drop_trees}
use Rattle.nd_value.specs.Agreement.{Agreement, root_agreements}
use Rattle.nd_value.specs.Setting.{Setting, root_list, cell_at, cell_home, Among}
use Rattle.nd_value.specs.Deferral.{Step, root_stands, referent_stands, stands_already, Deferral, Standing, standing_root, standing_cell, Pending}
use Rattle.nd_value.specs.Deferral.{due_roots, before_pipes}
use Rattle.nd_value.specs.Conforms.{Conforms}
use Rattle.nd_value.specs.Canon.{canonical_number, named_cells}
use Rattle.nd_grammar.specs.Entry.{Entry, Align, Chunk, Unread, entries, tests, in_place, whole_value, Kind, Max, Offset, Actual, Number, Num, Tag}
use Rattle.nd_grammar.specs.Entry.{Text, Context, Test, size_at, EntryAt, end_to_end, end_of, full_cells, gap}

-- ## The streams of a graph: its roots and referents, the agreements of parameters, its pipes

-- C706 14.4 has the order of parameters, and 14.3.12 that of deferral. That pipes stand last, and where agreements are tried, is this project's
-- choice.
-- `w` is a setting, `g` a graph, `x` a value that stands, `p` a pointer, `c` the number of a cell, `i` the index of a root, `r` a root, `v` its
-- value, `h` a home, `t` a type's number, `n` a node's number or how many roots, `k` the count of a chunk, `cut` the counts of a pipe.

-- a value that stands as a whole
abbrev pub standing_entries : Table → Standing → List Entry
standing_entries table x = whole_value table x.home x.of x.val

-- the agreements of a pointer's member, tried in the cell that it names
abbrev pub step_tests : Graph → Pending → ℕ → List Entry
step_tests g p c = tests (cell_home c) 0 (cell_at g c) p.agreements

-- what a step of deferral adds: a root, a referent with its agreements, or the agreements alone
abbrev pub step_entries : Setting → Graph → Step → List Entry
step_entries w g (root_stands i) = standing_entries w.table (standing_root w g i)
step_entries w g (referent_stands p c) = standing_entries w.table (standing_cell g p c) ++ step_tests g p c
step_entries w g (stands_already p c) = step_tests g p c

-- the agreements of a parameter: a pointer's in its cell, a null pointer has none
abbrev pub root_test : Graph → ℕ → Tree → List Agreement → List Entry
root_test g i (node (tree.Ptr None) ks) agreements = []
root_test g i (node (tree.Ptr (Some c)) ks) agreements = tests (cell_home c) 0 (cell_at g c) agreements
root_test g i t agreements = tests (home.Root i) 0 t agreements

-- the agreements of the parameters from the i-th root on
abbrev pub root_tests : Setting → Graph → ℕ → List Root → List Tree → List Entry
root_tests w g i (r ∷ rs) (v ∷ vs) = root_test g i v (root_agreements w g r.vars) ++ root_tests w g (i + 1) rs vs
root_tests w g i _ _ = []

-- one chunk of a pipe: its count, and that many elements from node n on
abbrev pub chunk_entries : Table → Home → ℕ → ℕ → ℕ → Trees → List Entry
chunk_entries table h t n k ts = entries h 0 (Align 4 ∷ Chunk k ∷ []) ++ in_place table h (replicate k t) n ts

-- the elements of a pipe from node n on, in chunks of these counts, and the last count, 0
abbrev pub chunks : Table → Home → ℕ → ℕ → List ℕ → Trees → List Entry
chunks table h t n [] ts = entries h 0 (Align 4 ∷ Chunk 0 ∷ [])
chunks table h t n (k ∷ cut) ts =
    chunk_entries table h t n k (take_trees k ts) ++ chunks table h t (n + node_count (take_trees k ts)) cut (drop_trees k ts)

-- counts of chunks, none of them empty, that take up n elements
abbrev pub Cuts : ℕ → List ℕ → Type 0
Cuts n cut = (sum cut ≡ n) × AllByRecursion (λ k. 0 < k) cut

-- a pipe, cut into chunks
abbrev pub pipe_entries : Table → Home → Option TypeDef → List ℕ → Tree → List Entry
pipe_entries table h (Some (def.Pipe elem)) cut (node tree.Pipe ks) = chunks table h elem.0 1 cut ks
pipe_entries table h _ cut t = entries h 0 (Unread ∷ [])

-- the pipes from the i-th root on, each cut by its own counts
abbrev pub pipes_entries : Table → ℕ → List Root → List Tree → List (List ℕ) → List Entry
pipes_entries table i (r ∷ rs) (v ∷ vs) (cut ∷ cuts) =
    pipe_entries table (home.Root i) (type_at table r.of) cut v ++ pipes_entries table (i + 1) rs vs cuts
pipes_entries table i _ _ _ = []

-- the children of a tree: the elements of a pipe
abbrev pub kids_of : Tree → Trees
kids_of (node l ks) = ks

-- each pipe is cut
abbrev pub AllCut : List Tree → List (List ℕ) → Type 0
AllCut [] [] = Unit {0}
AllCut (v ∷ vs) (cut ∷ cuts) = Cuts (count (kids_of v)) cut × AllCut vs cuts
AllCut _ _ = ⊥

-- what is before the pipes, by these steps of deferral: the roots and referents, and the agreements of the parameters
abbrev pub head_entries : Setting → Graph → List Step → List Entry
head_entries w g steps = flat_map (step_entries w g) steps ++ root_tests w g 0 (root_list w) g.roots

-- the whole representation, by these steps of deferral, with pipes cut so
abbrev pub representation : Setting → Graph → List Step → List (List ℕ) → List Entry
representation w g steps cuts =
    let n = before_pipes (root_list w) in
    head_entries w g steps ++ pipes_entries w.table n (drop n (root_list w)) (drop n g.roots) cuts

-- A stream of the graph: the roots and referents in the order of deferral, the agreements of the parameters, the pipes in chunks.
pub record Stream (w : Setting) (g : Graph) (ms : List Entry) : Type 0 where
  pub steps : List Step
  pub cuts : List (List ℕ)
  pub deferral : Deferral w g [] (due_roots 0 (before_pipes (root_list w))) steps
  pub all_cut : AllCut (drop (before_pipes (root_list w)) g.roots) cuts
  pub is_representation : ms ≡ representation w g steps cuts

-- ## When octets are a stream of a graph

-- `x` is a kind or an entry at its place, `os` are the octets of one entry, `id` is an identifier, `c` and `d` are numbers of
-- cells, `v` is a count or a pointer's number, `p` a primitive, `z` its value.

-- the octets of an entry of this kind at a place
abbrev pub piece : List ℕ → ℕ → Kind → List ℕ
piece octets at x = take (size_at at x) (drop at octets)

-- an identifier's octets: a UUID is an unsigned long, two unsigned shorts, in the stream's order, and eight octets
abbrev pub id_octets : Order → List ℕ → List ℕ
id_octets order id =
    in_order order (reverse (take 4 id)) ++ in_order order (reverse (take 2 (drop 4 id)))
    ++ in_order order (reverse (take 2 (drop 6 id))) ++ drop 8 id

-- The numbers that a pointer may have (C706 14.3.10 to 14.3.12): null is 0; a full pointer has its cell's number; a unique pointer
-- has any number but 0; an embedded reference pointer has any number at all, 0 too (this project's choice).
abbrev pub IsNumber : (ℕ → ℕ) → Class → Option ℕ → ℕ → Type 0
IsNumber numbering class None v = v ≡ 0
IsNumber numbering Full (Some c) v = v ≡ numbering c
IsNumber numbering Unique (Some c) v = 0 < v
IsNumber numbering Ref (Some c) v = Unit {0}

-- Octets spell an entry: gaps hold anything, TRUE is any octet but zero, numbers are in the stream's order.
abbrev pub Spells : Order → (ℕ → ℕ) → Kind → List ℕ → Type 0
Spells order numbering (Align n) os = Unit {0}
Spells order numbering (Max v) os = unsigned order os ≡ v
Spells order numbering (Offset t v) os = unsigned order os ≡ v
Spells order numbering (Actual t offset limit v) os = unsigned order os ≡ v
Spells order numbering (Chunk v) os = unsigned order os ≡ v
Spells order numbering (Number class to cell) os = IsNumber numbering class cell (unsigned order os)
Spells order numbering (Num p values z) os = value_of_octets order p os ≡ z
Spells order numbering (Tag p values arms default z) os = value_of_octets order p os ≡ z
Spells order numbering (Text octets) os = os ≡ octets ++ 0 ∷ []
Spells order numbering (Context attributes id) os = (unsigned order (take 4 os) ≡ attributes) × (drop 4 os ≡ id_octets order id)
Spells order numbering (Test attr wanted found) os = Unit {0}
Spells order numbering Unread os = ⊥

-- an entry lies within the octets, and they spell it
abbrev pub IsRendered : Order → (ℕ → ℕ) → List ℕ → EntryAt → Type 0
IsRendered order numbering octets x =
    (x.at + size_at x.at x.entry.kind ≤ length octets)
    × Spells order numbering x.entry.kind (piece octets x.at x.entry.kind)

-- distinct numbers from 1 to 2^32 - 1 for the cells that full pointers name, one numbering for the whole stream
pub record IsNumbering (numbering : ℕ → ℕ) (cells : List ℕ) : Type 0 where
  pub in_range : (c : ℕ) → Among cells c → (0 < numbering c) × (numbering c < 2 ^ 32)
  pub one_to_one : (c d : ℕ) → Among cells c → Among cells d → numbering c ≡ numbering d → c ≡ d

-- The octets are a stream of the graph: its entries lie end to end over exactly these octets, and no stream is longer than the
-- limit.
pub record Represents (w : Setting) (order : Order) (octets : List ℕ) (g : Graph) : Type 0 where
  pub entries : List Entry
  pub stream : Stream w g entries
  pub numbering : ℕ → ℕ
  pub is_numbering : IsNumbering numbering (full_cells entries)
  pub rendered : AllByRecursion (IsRendered order numbering octets) (end_to_end 0 entries)
  pub whole : end_of 0 entries ≡ length octets
  pub within : length octets ≤ STREAM_LIMIT

-- ## Octets that begin with a stream

-- `w` is a setting, `n` the length of the stream, `g` its graph.

-- the first n octets are a stream of a graph that conforms
pub record BeginsWith (w : Setting) (order : Order) (octets : List ℕ) (n : ℕ) (g : Graph) : Type 0 where
  pub within : n ≤ length octets
  pub represented : Represents w order (take n octets) g
  pub conforms : Conforms w g

-- ## The one stream that is written

-- `w` is a setting, `g` a graph, `m` an entry, `at` its place, `v` a count, `p` a primitive, `z` its value, `c` the number of
-- a cell, `k` the count of a chunk, `n` that of the elements.

-- the number that is written for a pointer: null is 0
abbrev pub number_of_cell : (ℕ → ℕ) → Option ℕ → ℕ
number_of_cell numbering None = 0
number_of_cell numbering (Some c) = numbering c

-- the octets that are written for an entry at a place
abbrev pub octets_of : Order → (ℕ → ℕ) → ℕ → Kind → List ℕ
octets_of order numbering at (Align n) = replicate (gap at n) 0
octets_of order numbering at (Max v) = spelling order 4 v
octets_of order numbering at (Offset t v) = spelling order 4 v
octets_of order numbering at (Actual t offset limit v) = spelling order 4 v
octets_of order numbering at (Chunk v) = spelling order 4 v
octets_of order numbering at (Number class to cell) = spelling order 4 (number_of_cell numbering cell)
octets_of order numbering at (Num p values z) = written order p z
octets_of order numbering at (Tag p values arms default z) = written order p z
octets_of order numbering at (Text octets) = octets ++ 0 ∷ []
octets_of order numbering at (Context attributes id) = spelling order 4 attributes ++ id_octets order id
octets_of order numbering at (Test attr wanted found) = []
octets_of order numbering at Unread = []

-- the octets of entries from a place on
abbrev pub octets_from : Order → (ℕ → ℕ) → ℕ → List Entry → List ℕ
octets_from order numbering at [] = []
octets_from order numbering at (m ∷ ms) =
    octets_of order numbering at m.kind ++ octets_from order numbering (at + size_at at m.kind) ms

-- the counts of chunks for n elements: each is k, but the last, which may be less; at most `fuel` of them
abbrev pub cut_within : ℕ → ℕ → ℕ → List ℕ
cut_within zero k n = []
cut_within (suc fuel) k zero = []
cut_within (suc fuel) k (suc n) =
    elim (nat_lt (suc n) k) [ true ↦ suc n ∷ [] | false ↦ k ∷ cut_within fuel k (suc n - k) ]

-- the same, of as many chunks as it takes
abbrev pub cut_of : ℕ → ℕ → List ℕ
cut_of k n = cut_within n k n

-- the chunks of pipes: each of this count, but the last, which may have fewer elements
abbrev pub pipe_cuts : ℕ → List Tree → List (List ℕ)
pipe_cuts k [] = []
pipe_cuts k (v ∷ vs) = cut_of k (count (kids_of v)) ∷ pipe_cuts k vs

-- The octets that are written: gaps of zeros, TRUE as 1, for a null pointer 0, and for each other pointer, embedded reference
-- pointers too, the number of its cell in the order of the stream.
pub record Chosen (w : Setting) (order : Order) (chunk : ℕ) (g : Graph) (octets : List ℕ) : Type 0 where
  pub steps : List Step
  pub deferral : Deferral w g [] (due_roots 0 (before_pipes (root_list w))) steps
  pub written : octets
      ≡ octets_from order (canonical_number (named_cells w g steps)) 0
      (representation w g steps (pipe_cuts chunk (drop (before_pipes (root_list w)) g.roots)))
