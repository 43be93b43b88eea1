-- Entries that are reached begin within the limit of a stream.
use Rattle.std.proofs.Common.{◌≡◌, ℕ, ◌+◌, ◌-◌, ◌%◌, ◌≤◌, false, List, [], ◌∷◌, ◌++◌, length, Option, Some, None, refl, sym, subst, inl, inr, arith}
use Rattle.std.specs.Prelude.{drop, flat_map, replicate}
use Rattle.std.specs.List.{AllByRecursion}
use Rattle.std.proofs.lemmas.Bool.{ltb-false}
use Rattle.nd_base.specs.declared.octets.Order.{Order}
use Rattle.nd_base.specs.declared.TheConstants.{STREAM_LIMIT}
use Rattle.nd_types.specs.declared.types.TypeDef.{TypeDef}
use Rattle.nd_types.specs.declared.types.TypeDef.TheVariants as def
use Rattle.nd_types.specs.Roots.{Root}
use Rattle.nd_types.specs.Table.{Table, type_at, width}
use Rattle.nd_value.specs.declared.item.Home.{Home}
use Rattle.nd_value.specs.declared.item.Home.TheVariants as home
use Rattle.nd_value.specs.declared.value.Graph.{Graph}
use Rattle.nd_value.specs.Deferral.{Pending, Standing, Step, before_pipes, home_pointers, referent_stands, root_stands, standing_cell, standing_root, stands_already}
use Rattle.nd_value.specs.Setting.{Setting, cell_at, cell_home, root_list}
use Rattle.nd_value.specs.Tree as tree
use Rattle.nd_value.specs.Tree.{Tree, Trees, drop_trees, node, node_count, take_trees}
use Rattle.nd_value.proofs.Apart.{all_append}
use Rattle.nd_grammar.specs.declared.reason.Reason.{Reason}
use Rattle.nd_grammar.specs.declared.reason.Reason.TheVariants as reason
use Rattle.nd_grammar.specs.Refusal.{Bad, Accepts, is_long, refusal}
use Rattle.nd_grammar.specs.Entry.{Actual, Align, Chunk, Context, Entry, EntryAt, Kind, Max, Num, Number, Offset, Tag, Test, Text, Unread, end_to_end, size_at, entries, in_place}
use Rattle.nd_grammar.specs.Stream.{Stream, chunk_entries, chunks, pipe_entries, pipes_entries, root_tests, standing_entries, step_entries, step_tests}
use Rattle.nd_grammar.proofs.reader.EntriesFine.{Aligns, Fine, FullOk, IsFine, fine_entries, fine_in_place, fine_tests, fine_whole}
use Rattle.nd_grammar.proofs.reader.ReaderNodes.{if_not}
use Rattle.nd_grammar.proofs.reader.ReaderTests.{root_tests_are, tests_fine}

-- ## The gaps of a stream lead to multiples of 1, 2, 4 or 8

abbrev pub Any : ℕ → Type 0
Any c = Unit {0}

any_pointers : (ps : List Pending) → AllByRecursion (FullOk Any) ps
any_pointers [] = tt
any_pointers (p ∷ ps) = ((λ c full names. tt), any_pointers ps)

fine_standing : (table : Table) (x : Standing) → AllByRecursion (Fine Any) (standing_entries table x)
fine_standing table x = fine_whole Any table x.home x.of x.val (any_pointers (home_pointers table x.home x.of x.val))

fine_step : (w : Setting) (g : Graph) (s : Step) → AllByRecursion (Fine Any) (step_entries w g s)
fine_step w g (root_stands i) = fine_standing w.table (standing_root w g i)
fine_step w g (referent_stands p c) =
    all_append (Fine Any) (standing_entries w.table (standing_cell g p c)) (step_tests g p c) (fine_standing w.table (standing_cell g p c))
    (fine_tests Any (cell_home c) 0 (cell_at g c) p.agreements)
fine_step w g (stands_already p c) = fine_tests Any (cell_home c) 0 (cell_at g c) p.agreements

fine_steps : (w : Setting) (g : Graph) (steps : List Step) → AllByRecursion (Fine Any) (flat_map (step_entries w g) steps)
fine_steps w g [] = tt
fine_steps w g (s ∷ steps) = all_append (Fine Any) (step_entries w g s) (flat_map (step_entries w g) steps) (fine_step w g s) (fine_steps w g steps)

fine_count : (h : Home) (k : ℕ) → AllByRecursion (Fine Any) (entries h 0 (Align 4 ∷ Chunk k ∷ []))
fine_count h k = fine_entries Any h 0 (Align 4 ∷ Chunk k ∷ []) (inr (inr (inl refl)), (tt, tt))

fine_chunks : (table : Table) (h : Home) (t n : ℕ) (cut : List ℕ) (ts : Trees) → AllByRecursion (Fine Any) (chunks table h t n cut ts)
fine_chunks table h t n [] ts = fine_count h 0
fine_chunks table h t n (k ∷ cut) ts =
    all_append (Fine Any) (chunk_entries table h t n k (take_trees k ts)) (chunks table h t (n + node_count (take_trees k ts)) cut (drop_trees k ts))
    (all_append (Fine Any) (entries h 0 (Align 4 ∷ Chunk k ∷ [])) (in_place table h (replicate k t) n (take_trees k ts)) (fine_count h k)
    (fine_in_place Any table h (replicate k t) [] n (take_trees k ts) (any_pointers _)))
    (fine_chunks table h t (n + node_count (take_trees k ts)) cut (drop_trees k ts))

fine_pipe : (table : Table) (h : Home) (d : Option TypeDef) (cut : List ℕ) (v : Tree) → AllByRecursion (Fine Any) (pipe_entries table h d cut v)
fine_pipe table h (Some (def.Pipe elem)) cut (node tree.Pipe ks) = fine_chunks table h elem.0 1 cut ks
fine_pipe table h (Some (def.Pipe elem)) cut (node tree.Unread ks) = (tt, tt)
fine_pipe table h (Some (def.Pipe elem)) cut (node (tree.Num z) ks) = (tt, tt)
fine_pipe table h (Some (def.Pipe elem)) cut (node tree.Rec ks) = (tt, tt)
fine_pipe table h (Some (def.Pipe elem)) cut (node (tree.Arr max offset) ks) = (tt, tt)
fine_pipe table h (Some (def.Pipe elem)) cut (node (tree.Text max octets) ks) = (tt, tt)
fine_pipe table h (Some (def.Pipe elem)) cut (node (tree.Union z) ks) = (tt, tt)
fine_pipe table h (Some (def.Pipe elem)) cut (node (tree.Ptr c) ks) = (tt, tt)
fine_pipe table h (Some (def.Pipe elem)) cut (node (tree.Context attributes id) ks) = (tt, tt)
fine_pipe table h (Some (def.Prim p)) cut v = (tt, tt)
fine_pipe table h (Some (def.Enum values)) cut v = (tt, tt)
fine_pipe table h (Some (def.Struct members)) cut v = (tt, tt)
fine_pipe table h (Some (def.Array elem bound vary)) cut v = (tt, tt)
fine_pipe table h (Some (def.Text elem bound)) cut v = (tt, tt)
fine_pipe table h (Some (def.Union tag enc arms default)) cut v = (tt, tt)
fine_pipe table h (Some (def.Pointer class to)) cut v = (tt, tt)
fine_pipe table h (Some def.Context) cut v = (tt, tt)
fine_pipe table h None cut v = (tt, tt)

fine_pipes : (table : Table) (i : ℕ) (rs : List Root) (vs : List Tree) (cuts : List (List ℕ)) → AllByRecursion (Fine Any) (pipes_entries table i rs vs cuts)
fine_pipes table i (r ∷ rs) (v ∷ vs) (cut ∷ cuts) =
    all_append (Fine Any) (pipe_entries table (home.Root i) (type_at table r.of) cut v) (pipes_entries table (i + 1) rs vs cuts)
    (fine_pipe table (home.Root i) (type_at table r.of) cut v) (fine_pipes table (i + 1) rs vs cuts)
fine_pipes table i [] vs cuts = tt
fine_pipes table i (r ∷ rs) [] cuts = tt
fine_pipes table i (r ∷ rs) (v ∷ vs) [] = tt

pub fine_stream : (w : Setting) (g : Graph) (ms : List Entry) → Stream w g ms → AllByRecursion (Fine Any) ms
fine_stream w g ms s =
    let n = before_pipes (root_list w) in
    let F : List Entry = flat_map (step_entries w g) s.steps in
    let T : List Entry = root_tests w g 0 (root_list w) g.roots in
    let P : List Entry = pipes_entries w.table n (drop n (root_list w)) (drop n g.roots) s.cuts in
    subst (AllByRecursion (Fine Any)) (sym s.is_representation)
    (all_append (Fine Any) (F ++ T) P
    (all_append (Fine Any) F T (fine_steps w g s.steps) (tests_fine Any T (root_tests_are w g 0 (root_list w) g.roots)))
    (fine_pipes w.table n (drop n (root_list w)) (drop n g.roots) s.cuts))

-- ## Entries that are not too long end within the limit

gap_within : (n at : ℕ) → Aligns n → at ≤ STREAM_LIMIT → at + (n - at % n) % n ≤ STREAM_LIMIT
gap_within n at (inl e) h = subst (λ k. at + (k - at % k) % k ≤ STREAM_LIMIT) (sym e) (omega arith)
gap_within n at (inr (inl e)) h = subst (λ k. at + (k - at % k) % k ≤ STREAM_LIMIT) (sym e) (omega arith)
gap_within n at (inr (inr (inl e))) h = subst (λ k. at + (k - at % k) % k ≤ STREAM_LIMIT) (sym e) (omega arith)
gap_within n at (inr (inr (inr e))) h = subst (λ k. at + (k - at % k) % k ≤ STREAM_LIMIT) (sym e) (omega arith)

pub end_within : (at : ℕ) (k : Kind) → IsFine Any k → at ≤ STREAM_LIMIT → is_long at k ≡ false → at + size_at at k ≤ STREAM_LIMIT
end_within at (Align n) f h e = gap_within n at f h
end_within at (Test a x y) f h e = omega arith
end_within at Unread f h e = omega arith
end_within at (Max v) f h e = ltb-false STREAM_LIMIT (at + 4) e
end_within at (Offset t v) f h e = ltb-false STREAM_LIMIT (at + 4) e
end_within at (Actual t o l v) f h e = ltb-false STREAM_LIMIT (at + 4) e
end_within at (Chunk v) f h e = ltb-false STREAM_LIMIT (at + 4) e
end_within at (Number k to c) f h e = ltb-false STREAM_LIMIT (at + 4) e
end_within at (Num p vs z) f h e = ltb-false STREAM_LIMIT (at + width p) e
end_within at (Tag p vs arms default z) f h e = ltb-false STREAM_LIMIT (at + width p) e
end_within at (Text os) f h e = ltb-false STREAM_LIMIT (at + (length os + 1)) e
end_within at (Context a i) f h e = ltb-false STREAM_LIMIT (at + 20) e

module _ (order : Order) (octets : List ℕ) where
  -- where an entry begins before which all are accepted
  pub record IsReached (x : EntryAt) : Type 0 where
    pub within : x.at ≤ STREAM_LIMIT
    pub fine : IsFine Any x.entry.kind

  pub reached : (seen : List EntryAt) (at : ℕ) (ms : List Entry) (earlier : List EntryAt) (there : EntryAt) (later : List EntryAt) → end_to_end at ms ≡ earlier ++ there ∷ later
      → AllByRecursion (Fine Any) ms → Accepts order octets seen earlier → at ≤ STREAM_LIMIT → IsReached there
  reached seen at [] [] there later e f a h = cc
  reached seen at [] (x ∷ xs) there later e f a h = cc
  reached seen at (m ∷ ms) [] there later e f a h =
      let is : record { at = at; entry = m } ≡ there = cc in
      subst IsReached is (record { within = h; fine = f.0 })
  reached seen at (m ∷ ms) (x ∷ xs) there later e f a h =
      let is : x ≡ record { at = at; entry = m } = cc in
      let rest : end_to_end (at + size_at at m.kind) ms ≡ xs ++ there ∷ later = cc in
      let taken : refusal order octets seen (record { at = at; entry = m }) ≡ None = subst (λ u. refusal order octets seen u ≡ None) is a.0 in
      let low = if_not (is_long at m.kind) (STREAM_LIMIT, reason.TooLong) _ taken in
      reached (seen ++ x ∷ []) (at + size_at at m.kind) ms xs there later rest f.1 a.1 (end_within at m.kind f.0 h low.0)

-- the entry at which octets are refused
pub here_within : (w : Setting) (order : Order) (octets : List ℕ) (place : ℕ) (why : Reason) (b : Bad w order octets place why) → b.here.at ≤ STREAM_LIMIT
here_within w order octets place why b =
    (reached order octets [] 0 b.entries b.earlier b.here b.later b.split (fine_stream w b.partial b.entries b.stream) b.accepted (omega arith)).within
