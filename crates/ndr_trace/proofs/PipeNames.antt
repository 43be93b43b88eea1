-- Pipes name no cells.
-- `k` are the octets with the partial graph in which they are refused, `h` is a home, `t` a type's number, `i` the index of a root, `cut` and `cuts` are
-- the counts of the chunks of pipes.
use Rattle.std.proofs.Common.{◌≡◌, ◌∙◌, ℕ, zero, suc, ◌+◌, List, [], ◌∷◌, ◌++◌, drop, Option, Some, None, refl, sym, ap, ap₂, subst, flat_map, replicate}
use Rattle.std.specs.List.{AllByRecursion}
use Rattle.std.proofs.lemmas.Grind.{flat_map-append}
use Rattle.nd_types.specs.declared.types.TypeDef.{TypeDef}
use Rattle.nd_types.specs.declared.types.TypeDef.TheVariants as def
use Rattle.nd_types.specs.declared.types.TypeId.{TypeId}
use Rattle.nd_types.specs.Roots.{Root}
use Rattle.nd_types.specs.Table.{Table, type_at}
use Rattle.nd_value.specs.declared.item.Home.{Home}
use Rattle.nd_value.specs.declared.item.Home.TheVariants as home
use Rattle.nd_value.specs.Deferral.{before_pipes}
use Rattle.nd_value.specs.Setting.{root_list}
use Rattle.nd_value.specs.Tree as tree
use Rattle.nd_value.specs.Tree.{Tree, Trees, drop_trees, node, node_count, take_trees}
use Rattle.nd_grammar.specs.Entry.{Align, Chunk, Entry, entries, in_place}
use Rattle.nd_grammar.specs.Stream.{chunk_entries, chunks, pipe_entries, pipes_entries}
use Rattle.nd_grammar.proofs.LegalSides.{laid_out}
use Rattle.nd_grammar.proofs.next.Mapped.{no_pointers}
use Rattle.nd_grammar.proofs.next.NextStream.{FitsPipes, IsPipeRoot}
use Rattle.ndr_trace_value.specs.Untested.{untested}
use Rattle.ndr_trace_value.proofs.Untested.{untested_append, untested_values}
use Rattle.ndr_trace.specs.Homes.{IsPart, names_all}
use Rattle.ndr_trace_value.specs.Naming.{named_by, names_in}
use Rattle.ndr_trace.specs.Sides.{pipes_due}
use Rattle.ndr_trace_value.specs.Tracing.{Known}
use Rattle.ndr_trace.proofs.HomeNames.{plain_names}

many_fit : (table : Table) (t n : ℕ) → FitsPipes table t → AllByRecursion (FitsPipes table) (replicate n t)
many_fit table t zero f = tt
many_fit table t (suc n) f = (f, many_fit table t n f)

module _ (table : Table) (h : Home) where
  elements_name : (t n k : ℕ) (ts : Trees) → FitsPipes table t → names_in (untested (in_place table h (replicate k t) n ts)) ≡ []
  elements_name t n k ts f =
      ap names_in (untested_values table h (replicate k t) n ts) ∙ plain_names table h (replicate k t) [] n ts
      ∙ ap names_all (no_pointers table h (replicate k t) [] n ts (many_fit table t k f))

  chunks_name : (t n : ℕ) (cut : List ℕ) (ts : Trees) → FitsPipes table t → names_in (untested (chunks table h t n cut ts)) ≡ []
  chunks_name t n [] ts f = refl
  chunks_name t n (k ∷ cut) ts f =
      let own : List Entry = entries h 0 (Align 4 ∷ Chunk k ∷ []) in
      let elements : List Entry = in_place table h (replicate k t) n (take_trees k ts) in
      let others : List Entry = chunks table h t (n + node_count (take_trees k ts)) cut (drop_trees k ts) in
      ap names_in (untested_append (own ++ elements) others ∙ ap (λ xs. xs ++ untested others) (untested_append own elements))
      ∙ flat_map-append (λ (m : Entry). named_by m.kind) (untested own ++ untested elements) (untested others)
      ∙ ap₂ (λ xs ys. xs ++ ys) (flat_map-append (λ (m : Entry). named_by m.kind) (untested own) (untested elements) ∙ elements_name t n k (take_trees k ts) f)
      (chunks_name t (n + node_count (take_trees k ts)) cut (drop_trees k ts) f)

  pipe_names : (d : Option TypeDef) (e : TypeId) → d ≡ Some (def.Pipe e) → FitsPipes table e.0 → (cut : List ℕ) (v : Tree) → names_in (untested (pipe_entries table h d cut v)) ≡ []
  pipe_names d e is f cut v = ap (λ u. names_in (untested (pipe_entries table h u cut v))) is ∙ by_value v
    where
      by_value : (v : Tree) → names_in (untested (pipe_entries table h (Some (def.Pipe e)) cut v)) ≡ []
      by_value (node tree.Pipe ks) = chunks_name e.0 1 cut ks f
      by_value (node _ ks) = refl

module _ (k : Known) (s : IsPart k) where
  pipes_name : (i : ℕ) (rs : List Root) (vs : List Tree) (cuts : List (List ℕ)) → AllByRecursion (IsPipeRoot k.setting.table) rs
      → names_in (untested (pipes_entries k.setting.table i rs vs cuts)) ≡ []
  pipes_name i [] vs cuts a = refl
  pipes_name i (r ∷ rs) [] cuts a = refl
  pipes_name i (r ∷ rs) (v ∷ vs) [] a = refl
  pipes_name i (r ∷ rs) (v ∷ vs) (cut ∷ cuts) a =
      let own : List Entry = pipe_entries k.setting.table (home.Root i) (type_at k.setting.table r.of) cut v in
      let others : List Entry = pipes_entries k.setting.table (i + 1) rs vs cuts in
      ap names_in (untested_append own others) ∙ flat_map-append (λ (m : Entry). named_by m.kind) (untested own) (untested others)
      ∙ ap₂ (λ xs ys. xs ++ ys)
      (pipe_names k.setting.table (home.Root i) (type_at k.setting.table r.of) a.0.elem a.0.type_is ((laid_out k.setting s.legal).elements r.of a.0.elem a.0.type_is) cut v)
      (pipes_name (i + 1) rs vs cuts a.1)

  pub no_pipe_names : (n : ℕ) (cuts : List (List ℕ)) → n ≡ before_pipes (root_list k.setting) → names_in (pipes_due k n cuts) ≡ []
  no_pipe_names n cuts e =
      pipes_name n (drop n (root_list k.setting)) (drop n k.graph.roots) cuts
      (subst (λ m. AllByRecursion (IsPipeRoot k.setting.table) (drop m (root_list k.setting))) (sym e) (laid_out k.setting s.legal).pipes)
