-- A pipe whose elements come chunk by chunk; and places of lists.
use Rattle.std.proofs.Common.{◌≡◌, ℕ, ◌+◌, ◌<◌, ◌≤◌, zero, suc, List, [], ◌∷◌, ◌++◌, length, take, drop, get_or, set, Option, refl, ap, ap₂, sym, subst, arith}
use Rattle.nd_types.specs.declared.interface.Interface.{Interface}
use Rattle.nd_types.specs.declared.types.Side.{Side}
use Rattle.nd_value.specs.declared.value.Graph.{Graph}
use Rattle.nd_value.specs.Tree.{Flat}
use Rattle.nd_flat.specs.declared.node.Node.{Node}
use Rattle.nd_flat.specs.declared.node.Node.TheVariants as kept
use Rattle.nd_flat.specs.declared.flat.Span.{Span}
use Rattle.nd_flat.specs.declared.flat.CellSpan.{CellSpan}
use Rattle.nd_flat.specs.declared.builder.OpenHome.{OpenHome}
use Rattle.nd_flat.specs.FlatForm.{seen_nodes, flats, HasOctets, HaveOctets}
use Rattle.nd_flat.specs.Building.{Building, with_nodes, raised, IsPipe}
use Rattle.nd_flat.specs.Store.{seen_graph, seen_builder, home_of, IsSound, IsBuilt, set_span, raised_at, raised_node, IsPipeAt, IsPipeNode}
use Rattle.nd_flat.proofs.RowLaws.{kept_row_first}
use Rattle.nd_flat.proofs.RecordLaws.{kept_first}
use Rattle.nd_flat.proofs.Frames.{all_as, Keeps, keeps_front, kept_roots, kept_cells, kept_sound}

pub set_span_is : (cs : List CellSpan) (i : ℕ) (s : Span) (d : CellSpan) → i < length cs
    → set cs i (record { of = (get_or cs i d).of; span = s }) ≡ set_span i s cs
set_span_is [] i s d l = absurd (omega (arith, l))
set_span_is (c ∷ cs) zero s d l = refl
set_span_is (c ∷ cs) (suc i) s d l = ap (λ xs. c ∷ xs) (set_span_is cs i s d (omega (arith, l)))

pub raise_is : (ns : List Node) (i k n : ℕ) (d : Node) → i < length ns → get_or ns i d ≡ kept.Pipe n → set ns i (kept.Pipe (n + k)) ≡ raised_at i k ns
raise_is [] i k n d l e = absurd (omega (arith, l))
raise_is (x ∷ xs) zero k n d l e = ap (λ y. y ∷ xs) (sym (ap (raised_node k) e))
raise_is (x ∷ xs) (suc i) k n d l e = ap (λ ys. x ∷ ys) (raise_is xs i k n d (omega (arith, l)) e)

raised_front : (i k : ℕ) (ns : List Node) → take i (raised_at i k ns) ≡ take i ns
raised_front zero k [] = refl
raised_front (suc i) k [] = refl
raised_front zero k (n ∷ ns) = refl
raised_front (suc i) k (n ∷ ns) = ap (λ xs. n ∷ xs) (raised_front i k ns)

raised_count : (i k : ℕ) (ns : List Node) → length (raised_at i k ns) ≡ length ns
raised_count zero k [] = refl
raised_count (suc i) k [] = refl
raised_count zero k (n ∷ ns) = refl
raised_count (suc i) k (n ∷ ns) = ap suc (raised_count i k ns)

pipe_node : (os : List ℕ) (k : ℕ) (n : Node) (fs : List Flat) → HasOctets os n → IsPipe k (seen_nodes os n ++ fs) → IsPipeNode k n
pipe_node os k (kept.Num z) fs t h = let e = h.0 in cc
pipe_node os k (kept.Negative z) fs t h = let e = h.0 in cc
pipe_node os k (kept.Rec m) fs t h = let e = h.0 in cc
pipe_node os k (kept.Arr max offset m) fs t h = let e = h.0 in cc
pipe_node os k (kept.Text max len from) fs t h = let e = h.0 in cc
pipe_node os k (kept.ShortText max len short) fs t h = let e = h.0 in cc
pipe_node os k (kept.Tag z armed) fs t h = let e = h.0 in cc
pipe_node os k (kept.NegativeTag z armed) fs t h = let e = h.0 in cc
pipe_node os k kept.Null fs t h = let e = h.0 in cc
pipe_node os k (kept.Ptr c) fs t h = let e = h.0 in cc
pipe_node os k (kept.Context a id) fs t h = let e = h.0 in cc
pipe_node os k (kept.Pipe n) fs t h = h.1
pipe_node os k (kept.Row r) fs t h = let g = subst (λ xs. IsPipe k (xs ++ fs)) (kept_row_first os r t.1) h in let e = g.0 in cc
pipe_node os k (kept.Records o m n from) fs t h =
    let g = subst (λ xs. IsPipe k (xs ++ fs)) (kept_first os (record { order = o; members = m; count = n; from = from }) t.some) h in let e = g.0 in cc

pub pipe_at : (os : List ℕ) (k : ℕ) (ns : List Node) → HaveOctets os ns → IsPipe k (flats os ns) → IsPipeAt k ns
pipe_at os k [] t h = h
pipe_at os k (n ∷ ns) t h = pipe_node os k n (flats os ns) t.0 h

raised_one : (os : List ℕ) (k : ℕ) (n : Node) (fs : List Flat) → IsPipeNode k n → seen_nodes os (raised_node k n) ++ fs ≡ raised k (seen_nodes os n ++ fs)
raised_one os k (kept.Pipe n) fs h = refl
raised_one os k n fs h = absurd h

raised_nodes : (os : List ℕ) (i k : ℕ) (ns : List Node) → IsPipeAt k (drop i ns) → flats os (drop i (raised_at i k ns)) ≡ raised k (flats os (drop i ns))
raised_nodes os zero k [] h = refl
raised_nodes os (suc i) k [] h = refl
raised_nodes os zero k (n ∷ ns) h = raised_one os k n (flats os ns) h
raised_nodes os (suc i) k (n ∷ ns) h = raised_nodes os i k ns h

raised_text : (os : List ℕ) (k : ℕ) (n : Node) → HasOctets os n → HasOctets os (raised_node k n)
raised_text os k (kept.Pipe n) h = tt
raised_text os k n h = h

raised_texts : (os : List ℕ) (i k : ℕ) (ns : List Node) → HaveOctets os ns → HaveOctets os (raised_at i k ns)
raised_texts os zero k [] h = tt
raised_texts os (suc i) k [] h = tt
raised_texts os zero k (n ∷ ns) h = (raised_text os k n h.0, h.1)
raised_texts os (suc i) k (n ∷ ns) h = (h.0, raised_texts os i k ns h.1)

module _ (os : List ℕ) (ns : List Node) (from : ℕ) (rs : List Span) (cs : List CellSpan) (a : OpenHome) (h : IsBuilt os ns from rs cs a) (k : ℕ) (p : IsPipeAt k (drop from ns)) where
  keeps : Keeps os ns os (raised_at from k ns) from
  keeps = keeps_front os ns (raised_at from k ns) from (raised_front from k ns)

  pub chunk_seen : (op : ℕ) (side : Side) (i : Interface) (q : Option Graph)
      → seen_builder os (raised_at from k ns) from rs cs a op side i q
      ≡ with_nodes (raised k (seen_builder os ns from rs cs a op side i q).nodes) (seen_builder os ns from rs cs a op side i q)
  chunk_seen op side i q =
      let graph : seen_graph os (raised_at from k ns) rs cs ≡ seen_graph os ns rs cs =
      ap₂ (λ ts xs. let g : Graph = record { roots = ts; cells = xs } in g) (kept_roots os ns os (raised_at from k ns) from keeps rs h.roots)
      (kept_cells os ns os (raised_at from k ns) from keeps cs h.cells) in
      ap₂ (λ g fs. let b : Building = record { graph = g; home = home_of a; nodes = fs; op = op; side = side; interface = i; given = q } in b)
      graph (raised_nodes os from k ns p)

  pub chunk_built : IsBuilt os (raised_at from k ns) from rs cs a
  chunk_built = record {
    texts = raised_texts os from k ns h.texts;
    start = let s : from ≤ length ns = h.start in omega (arith, s, raised_count from k ns);
    roots = all_as (IsSound os ns from) (IsSound os (raised_at from k ns) from) rs (kept_sound os ns os (raised_at from k ns) from keeps from (omega arith)) h.roots;
    cells =
        all_as (λ c. IsSound os ns from c.span) (λ c. IsSound os (raised_at from k ns) from c.span) cs
        (λ c. kept_sound os ns os (raised_at from k ns) from keeps from (omega arith) c.span) h.cells;
    place = h.place;
  }

pub below_pipe : (k i : ℕ) (ns : List Node) → IsPipeAt k (drop i ns) → i < length ns
below_pipe k zero [] h = absurd h
below_pipe k (suc i) [] h = absurd h
below_pipe k zero (n ∷ ns) h = omega arith
below_pipe k (suc i) (n ∷ ns) h = let l : i < length ns = below_pipe k i ns h in omega arith
