-- A walk over a pipe at its beginning, and from one chunk to the next.
-- `k` are the octets with the partial graph in which they are refused, `at` is the place of a root, `r` its type, `t` the type of its elements, `p` its name.
use Rattle.std.proofs.Common.{◌≡◌, ◌∙◌, ℕ, ◌+◌, ◌<◌, ◌≤◌, zero, suc, List, [], ◌∷◌, ◌++◌, length, replicate, true, false, Option, Some, None, refl, sym, ap, ap₂, subst, append-nil, arith}
use Rattle.std.specs.List.{slice_get}
use Rattle.std.proofs.lemmas.List.{length-replicate}
use Rattle.nd_types.specs.declared.types.TypeDef.{TypeDef}
use Rattle.nd_types.specs.declared.types.TypeDef.TheVariants as def
use Rattle.nd_types.specs.declared.types.TypeId.{TypeId}
use Rattle.nd_types.specs.Layout.{hoists, hoists_by}
use Rattle.nd_types.specs.Table.{Table, type_at}
use Rattle.nd_types.proofs.LayoutLaws.{hoists-legal}
use Rattle.nd_value.specs.declared.item.Home.{Home}
use Rattle.nd_value.specs.declared.item.Home.TheVariants as home
use Rattle.nd_value.specs.Deferral.{Placed_cells}
use Rattle.nd_value.specs.Nodes.{child_types}
use Rattle.nd_value.specs.Setting.{root_at}
use Rattle.nd_value.specs.Tree as tree
use Rattle.nd_value.specs.Tree.{Label, Tree, Trees, count, flat, more, node, node_count, none}
use Rattle.nd_grammar.specs.Entry.{Entry, Unread}
use Rattle.nd_grammar.specs.Stream.{Cuts, chunks, kids_of, pipe_entries}
use Rattle.text_grammar.specs.Paths.{child_paths, element_path, element_paths, node_paths}
use Rattle.text_printer.specs.Walks.{Begins}
use Rattle.ndr_explain.specs.declared.names.HomeName.{HomeName}
use Rattle.ndr_explain.specs.Cursors.{child_places, index_paths, name_text, no_places, pipe_element}
use Rattle.ndr_explain.specs.Explained.{home_flats, home_paths, path_in}
use Rattle.ndr_explain.proofs.Walks.{path_later}
use Rattle.ndr_trace_value.specs.Untested.{untested}
use Rattle.ndr_trace_value.specs.declared.nodes.Walker.{Walker}
use Rattle.ndr_trace_value.specs.declared.progress.Progress.{Progress}
use Rattle.ndr_trace.specs.Chunks.{AfterChunk, IsAtChunk}
use Rattle.ndr_trace.specs.Homes.{HasHome}
use Rattle.ndr_trace_value.specs.Naming.{IsNaming, names_in}
use Rattle.ndr_trace_value.specs.Places.{ArePlaced, home_place}
use Rattle.ndr_trace_value.specs.Tracing.{IsTracing, Known}
use Rattle.ndr_trace_value.specs.Walking.{AreOwn, AreThere, IsReady}
use Rattle.ndr_trace.proofs.HomeThere.{home_there, path_of_home}
use Rattle.ndr_trace_value.proofs.OwnItems.{unread_due}

indexed : (p : List ℕ) (i : ℕ) (ks : Trees) → index_paths p i (count ks) ≡ element_paths p i ks
indexed p i none = refl
indexed p i (more v ks) = ap (λ xs. element_path p i ∷ xs) (indexed p (i + 1) ks)

-- a type whose elements are known is a pipe
pipe_of : (d : Option TypeDef) (t : ℕ) → pipe_element d ≡ Some t → (e : TypeId) × ((d ≡ Some (def.Pipe e)) × (e.0 ≡ t))
pipe_of (Some (def.Pipe e)) t h = (e, (refl, (let f : e.0 ≡ t = cc in f)))
pipe_of None t h = cc
pipe_of (Some (def.Prim q)) t h = cc
pipe_of (Some (def.Enum values)) t h = cc
pipe_of (Some (def.Struct members)) t h = cc
pipe_of (Some (def.Array elem bound varying)) t h = cc
pipe_of (Some (def.Text elem bound)) t h = cc
pipe_of (Some (def.Union tag enc arms default)) t h = cc
pipe_of (Some (def.Pointer class to)) t h = cc
pipe_of (Some def.Context) t h = cc

module _ (k : Known) (h : Home) (r : ℕ) (p : List ℕ) (e : TypeId) (is : type_at k.setting.table r ≡ Some (def.Pipe e)) (ks : Trees)
    (there : AreThere k h 0 (r ∷ []) (p ∷ []) (None ∷ []) 0 (more (node tree.Pipe ks) none)) where
  whole_paths : (m : ℕ) → 1 ≤ m → path_in (node_paths k.setting.table (r ∷ []) (p ∷ []) 0 (more (node tree.Pipe ks) none)) m
      ≡ path_in (node_paths k.setting.table (replicate (count ks) e.0) (index_paths p 0 (count ks)) 1 ks) m
  whole_paths m low =
      path_later 0 m p
      (node_paths k.setting.table (child_types (type_at k.setting.table r) tree.Pipe ks) (child_paths (type_at k.setting.table r) tree.Pipe p ks) 1 ks
      ++ node_paths k.setting.table [] [] (1 + node_count ks) none)
      (omega (arith, low))
      ∙ ap (λ xs. path_in xs m)
      (append-nil (node_paths k.setting.table (child_types (type_at k.setting.table r) tree.Pipe ks) (child_paths (type_at k.setting.table r) tree.Pipe p ks) 1 ks))
      ∙ ap (λ d. path_in (node_paths k.setting.table (child_types d tree.Pipe ks) (child_paths d tree.Pipe p ks) 1 ks) m) is
      ∙ ap (λ ps. path_in (node_paths k.setting.table (replicate (count ks) e.0) ps 1 ks) m) (sym (indexed p 0 ks))

  -- the elements of a pipe are there
  pub elements_there : AreThere k h 0 (replicate (count ks) e.0) (index_paths p 0 (count ks)) (no_places (replicate (count ks) e.0)) 1 ks
  elements_there = record {
    begins = subst (λ d. Begins k.setting.table (child_types d tree.Pipe ks) ks) is there.begins.0.1;
    all = sym (length-replicate (count ks) e.0);
    own = subst (λ d. AreOwn k 0 (child_types d tree.Pipe ks) ks) is there.own.1;
    paths_are = λ m low high. there.paths_are m (omega (arith, low)) (omega (arith, high)) ∙ whole_paths m low;
    placed =
        subst (λ d. ArePlaced (home_place k.setting k.graph h) k.setting.table (child_types d tree.Pipe ks) (child_places d (child_types d tree.Pipe ks)) 1 ks) is
        there.placed.1;
    flats_are = λ i low.
        ap (slice_get (home_flats k.graph h)) (one_more i) ∙ there.flats_are (suc i) (omega (arith, low))
        ∙ ap (λ fs. slice_get fs i) (append-nil (flat ks));
  }
    where
      one_more : (i : ℕ) → 1 + i ≡ 0 + suc i
      one_more i = omega arith

-- all chunks are due
pub pipe_start : (k : Known) (at : ℕ) (name : HomeName) (r t : ℕ) → HasHome k (home.Root at) name r → pipe_element (type_at k.setting.table r) ≡ Some t
    → (u : Walker) → IsReady k u.progress → (cut : List ℕ) → Cuts (count (kids_of (root_at k.graph at))) cut → (rest : List Entry) (names : Placed_cells)
    → IsTracing k u.progress (untested (pipe_entries k.setting.table (home.Root at) (type_at k.setting.table r) cut (root_at k.graph at)) ++ rest)
    → IsNaming k u.cells (names_in (untested (pipe_entries k.setting.table (home.Root at) (type_at k.setting.table r) cut (root_at k.graph at))) ++ names)
    → IsAtChunk k (home.Root at) (name_text name) t 0 rest names u
pipe_start k at name r t has elem u ready cut cuts rest names tr nm = go (root_at k.graph at) whole_there tracing naming cuts
  where
    its : (e : TypeId) × ((type_at k.setting.table r ≡ Some (def.Pipe e)) × (e.0 ≡ t))
    its = pipe_of (type_at k.setting.table r) t elem

    no_hoist : hoists k.setting.table r ≡ false
    no_hoist = hoists-legal k.setting.table has.legal.operations has.legal.legal r ∙ ap (hoists_by (hoists k.setting.table)) its.1.0

    whole_there : AreThere k (home.Root at) 0 (r ∷ []) (name_text name ∷ []) (None ∷ []) 0 (more (root_at k.graph at) none)
    whole_there = home_there k (home.Root at) name r 0 has (λ f. (let z : true ≡ false = sym f ∙ no_hoist in cc))

    tracing : IsTracing k u.progress (untested (pipe_entries k.setting.table (home.Root at) (Some (def.Pipe its.0)) cut (root_at k.graph at)) ++ rest)
    tracing = subst (λ d. IsTracing k u.progress (untested (pipe_entries k.setting.table (home.Root at) d cut (root_at k.graph at)) ++ rest)) its.1.0 tr

    naming : IsNaming k u.cells (names_in (untested (pipe_entries k.setting.table (home.Root at) (Some (def.Pipe its.0)) cut (root_at k.graph at))) ++ names)
    naming = subst (λ d. IsNaming k u.cells (names_in (untested (pipe_entries k.setting.table (home.Root at) d cut (root_at k.graph at))) ++ names)) its.1.0 nm

    never : {A : Type 0} → IsTracing k u.progress (record { home = home.Root at; node = 0; kind = Unread } ∷ rest) → A
    never t1 = absurd (unread_due k (home.Root at) 0 u.progress rest ready t1)

    go : (v : Tree) → AreThere k (home.Root at) 0 (r ∷ []) (name_text name ∷ []) (None ∷ []) 0 (more v none)
        → IsTracing k u.progress (untested (pipe_entries k.setting.table (home.Root at) (Some (def.Pipe its.0)) cut v) ++ rest)
        → IsNaming k u.cells (names_in (untested (pipe_entries k.setting.table (home.Root at) (Some (def.Pipe its.0)) cut v)) ++ names)
        → Cuts (count (kids_of v)) cut → IsAtChunk k (home.Root at) (name_text name) t 0 rest names u
    go (node tree.Pipe ks) there t1 n1 c1 =
        subst (λ j. IsAtChunk k (home.Root at) (name_text name) j 0 rest names u) its.1.1
        (record {
          own_path = path_of_home k (home.Root at) ∙ sym has.name_is;
          node = 1;
          cut = cut;
          left = ks;
          cuts = c1;
          there = elements_there k (home.Root at) r (name_text name) its.0 its.1.0 ks there;
          tracing = t1;
          naming = n1;
        })
    go (node (tree.Num z) ks) there t1 n1 c1 = never t1
    go (node tree.Rec ks) there t1 n1 c1 = never t1
    go (node (tree.Arr max offset) ks) there t1 n1 c1 = never t1
    go (node (tree.Text max os) ks) there t1 n1 c1 = never t1
    go (node (tree.Union z) ks) there t1 n1 c1 = never t1
    go (node (tree.Ptr c) ks) there t1 n1 c1 = never t1
    go (node (tree.Context a id) ks) there t1 n1 c1 = never t1
    go (node tree.Unread ks) there t1 n1 c1 = never t1

-- a type that is no pipe
pub no_pipe : {A : Type 0} (k : Known) (at : ℕ) (d : Option TypeDef) → pipe_element d ≡ None → (p : Progress) → IsReady k p → (cut : List ℕ) (v : Tree) (rest : List Entry)
    → IsTracing k p (untested (pipe_entries k.setting.table (home.Root at) d cut v) ++ rest) → A
no_pipe k at (Some (def.Pipe e)) h p ready cut v rest tr = absurd (let y : ⊥ = cc in y)
no_pipe k at None h p ready cut v rest tr = absurd (unread_due k (home.Root at) 0 p rest ready tr)
no_pipe k at (Some (def.Prim q)) h p ready cut v rest tr = absurd (unread_due k (home.Root at) 0 p rest ready tr)
no_pipe k at (Some (def.Enum values)) h p ready cut v rest tr = absurd (unread_due k (home.Root at) 0 p rest ready tr)
no_pipe k at (Some (def.Struct members)) h p ready cut v rest tr = absurd (unread_due k (home.Root at) 0 p rest ready tr)
no_pipe k at (Some (def.Array elem bound varying)) h p ready cut v rest tr = absurd (unread_due k (home.Root at) 0 p rest ready tr)
no_pipe k at (Some (def.Text elem bound)) h p ready cut v rest tr = absurd (unread_due k (home.Root at) 0 p rest ready tr)
no_pipe k at (Some (def.Union tag enc arms default)) h p ready cut v rest tr = absurd (unread_due k (home.Root at) 0 p rest ready tr)
no_pipe k at (Some (def.Pointer class to)) h p ready cut v rest tr = absurd (unread_due k (home.Root at) 0 p rest ready tr)
no_pipe k at (Some def.Context) h p ready cut v rest tr = absurd (unread_due k (home.Root at) 0 p rest ready tr)

-- the next chunk, or the pipe's end
pub next_chunk : (k : Known) (h : Home) (name : List ℕ) (t before : ℕ) (rest : List Entry) (names : Placed_cells) (u : Walker) (size next : ℕ)
    → AfterChunk k h name t before rest names u size → (size ≡ 0 → ⊥) → next ≡ before + size → IsAtChunk k h name t next rest names u
next_chunk k h name t before rest names u zero next a z e = absurd (z refl)
next_chunk k h name t before rest names u (suc n) next a z e = subst (λ b. IsAtChunk k h name t b rest names u) (sym e) a

pub pipe_end : (k : Known) (h : Home) (name : List ℕ) (t before : ℕ) (rest : List Entry) (names : Placed_cells) (u : Walker) (size : ℕ)
    → AfterChunk k h name t before rest names u size → size ≡ 0 → IsTracing k u.progress rest × IsNaming k u.cells names
pipe_end k h name t before rest names u size a z = subst (AfterChunk k h name t before rest names u) z a
