-- The end of a chunk's elements: the pipe has so many more, and the next chunk is due.
use Rattle.std.proofs.Common.{◌≡◌, ◌≤◌, ◌<◌, ◌^◌, ℕ, ◌+◌, ◌-◌, ◌*◌, zero, suc, List, [], ◌∷◌, ◌++◌, length, Option, Some, refl, ap, ap₂, sym, ◌∙◌, subst, arith, append_assoc, length-append, replicate}
use Rattle.std.specs.List.{slice_get}
use Rattle.std.proofs.lemmas.Option.{same_Some}
use Rattle.nd_base.specs.declared.octets.Order.{Order}
use Rattle.nd_types.specs.declared.types.Attr.{Attr}
use Rattle.nd_types.specs.declared.types.TypeId.{TypeId}
use Rattle.nd_types.specs.declared.types.TypeDef.TheVariants as def
use Rattle.nd_types.specs.Number.{AreOctets}
use Rattle.nd_types.specs.Roots.{Root}
use Rattle.nd_types.specs.Table.{type_at}
use Rattle.nd_value.specs.declared.item.Home.{Home}
use Rattle.nd_value.specs.declared.item.Home.TheVariants as home
use Rattle.nd_value.specs.declared.item.Item.{Item}
use Rattle.nd_value.specs.Setting.{Setting}
use Rattle.nd_value.specs.Tree as tree
use Rattle.nd_value.specs.Tree.{Tree, Trees, node, none, more, Flat, flat, count, joined, node_count}
use Rattle.nd_value.proofs.Apart.{all_left}
use Rattle.nd_grammar.specs.declared.reason.Reason.TheVariants as reason
use Rattle.nd_grammar.specs.LegalSide.{IsLegalSide}
use Rattle.nd_grammar.specs.Refusal.{tested_at}
use Rattle.nd_grammar.specs.Reader.{Names, Progress, Read, ReadAll, read_list, read_in_place}
use Rattle.nd_grammar.specs.StreamReader.{ReadPipe, ReadPipes, graph_of, read_chunks, read_pipes}
use Rattle.nd_grammar.specs.MadeTrees.{MadeTree, MadeTrees}
use Rattle.ndr_decoder_laws.specs.reader.Around.{going}
use Rattle.nd_grammar.proofs.agreements.EntriesTell.{flat_length as length_flat}
use Rattle.ndr_decoder_laws.specs.declared.first.First.{First}
use Rattle.ndr_decoder_laws.specs.steps.Chunks.{chunk_read}
use Rattle.ndr_decoder_laws.specs.steps.Good.{Kept as IsKept, Told, Whole}
use Rattle.ndr_decoder_laws.specs.steps.Spots.{IsFine}
use Rattle.ndr_decoder_laws.specs.steps.Steps.{State, first_of, place_of, place_in, no_place}
use Rattle.ndr_decoder_laws.proofs.runs.ChunkSafe.{chunk_made}
use Rattle.ndr_decoder_laws.specs.stream.Added.{Added}
use Rattle.ndr_decoder_laws.specs.stream.Between.{AreNeeded}
use Rattle.ndr_decoder_laws.proofs.stream.Growing.{list_adds, in_place_adds}
use Rattle.ndr_decoder_laws.proofs.stream.Needing.{NeededAfter}
use Rattle.ndr_decoder_laws.specs.pipes.Reading.{Reads}
use Rattle.ndr_decoder_laws.specs.pipes.Pipes.{Position, InPipe, at_chunk, at_elements, kids_of, read_to}
use Rattle.ndr_decoder_laws.proofs.pipes.PipeEntries.{both_octets, stands_on}
use Rattle.ndr_decoder_laws.proofs.pipes.Elements.{elements_refused}
use Rattle.ndr_decoder_laws.proofs.steps.PointSteps.{nodes_joined as joined_nodes}

joined_assoc : (xs ys zs : Trees) → joined xs (joined ys zs) ≡ joined (joined xs ys) zs
joined_assoc none ys zs = refl
joined_assoc (more x xs) ys zs = ap (more x) (joined_assoc xs ys zs)

few_trees : (ts : Trees) → count ts ≤ node_count ts
few_trees none = omega arith
few_trees (more (node l ks) ts) = let e : count ts ≤ node_count ts = few_trees ts in omega (arith, e)

module _ (w : Setting) (side : IsLegalSide w) (order : Order) (fetched : List ℕ) (noted : List Item) (direct : ℕ) (first : Names) (i : ℕ) (rs : List Root) (roots : List Tree) (pipe : ℕ)
    (elem : TypeId) (done : Trees) (max_at : Option ℕ) (c : ℕ) (k : Position)
    (there : type_at w.table pipe ≡ Some (def.Pipe elem)) (p : InPipe w order fetched noted direct first i rs roots elem done max_at 0 (at_elements (suc c) w order i elem done k) k) where
  abbrev h : Home
  h = home.Root i

  abbrev n : ℕ
  n = 1 + node_count done

  abbrev target : List ℕ → Read
  target octets = chunk_read order w.table (home.Root i) elem done (suc c) (going k.at k.seen) k.names octets

  abbrev kids : List ℕ → ReadAll
  kids z = read_list w.table (read_in_place order z w.table h 32 0) (replicate (suc c) elem.0) n (going k.at k.seen) k.names

  none_left : suc c + 0 ≡ suc c
  none_left = omega arith

  -- ## Their end

  module _ (next : List ℕ) (all : AreOctets next) (noted' : List Item) (x : State) (is : Whole order (fetched ++ next) w.table (home.Root i) pipe noted' direct target x)
      (needs : AreNeeded target fetched next) where
    abbrev then : Position
    then = read_to x is.seen is.names

    abbrev more_done : Trees
    more_done = kids_of is.v

    octets : AreOctets (fetched ++ next)
    octets = both_octets fetched next p.stands.octets all

    its_tree : (later : List ℕ) → is.v ≡ node tree.Pipe (joined done (kids ((fetched ++ next) ++ later)).trees)
    its_tree later = ap (λ (r : Read). r.tree) (is.is later)

    its_kids : (later : List ℕ) → more_done ≡ joined done (kids ((fetched ++ next) ++ later)).trees
    its_kids later = ap kids_of (its_tree later)

    its_progress : (later : List ℕ) → going x.at is.seen ≡ (kids ((fetched ++ next) ++ later)).progress
    its_progress later = ap (λ (r : Read). r.progress) (is.is later)

    its_names : (later : List ℕ) → is.names ≡ (kids ((fetched ++ next) ++ later)).names
    its_names later = ap (λ (r : Read). r.names) (is.is later)

    is_pipe : is.v ≡ node tree.Pipe more_done
    is_pipe = its_tree [] ∙ ap (node tree.Pipe) (sym (its_kids []))

    nodes_are : x.nodes ≡ (tree.Pipe, count more_done) ∷ (flat more_done ++ [])
    nodes_are = is.nodes ∙ ap (λ v. flat (more v none)) is_pipe

    as_many : length x.nodes ≡ 1 + node_count more_done
    as_many =
        let a : length x.nodes ≡ length (flat (more is.v none)) = ap length is.nodes in
        let b : length (flat (more is.v none)) ≡ node_count (more is.v none) = length_flat (more is.v none) in
        let c : node_count (more is.v none) ≡ suc (node_count more_done + 0) = ap (λ v. node_count (more v none)) is_pipe in
        omega (arith, a, b, c)

    its_entries : Added h (going k.at k.seen) (going x.at is.seen)
    its_entries =
        subst (Added h (going k.at k.seen)) (sym (its_progress []))
        (list_adds order ((fetched ++ next) ++ []) w.table h (read_in_place order ((fetched ++ next) ++ []) w.table h 32 0) (in_place_adds order ((fetched ++ next) ++ []) w.table h 32 0)
        (replicate (suc c) elem.0) n (going k.at k.seen) k.names)

    found_then : (a : Attr) → tested_at is.seen a h 0 ≡ place_of a x.max_at no_place
    found_then a =
        let y : First = is.first.0 in
        let z : IsKept h is.seen x.max_at x.nodes 0 y = is.first.2 in
        let same : (tree.Pipe, count more_done) ≡ z.is = same_Some (tree.Pipe, count more_done) z.is (ap (λ xs. slice_get xs 0) (sym nodes_are) ∙ z.there) in
        z.found a ∙ ap (λ u. place_of a x.max_at (place_in u)) (z.kept ∙ ap (λ (f : Flat). first_of f z.place) (sym same))

    made_then : IsFine w.table 32 elem.0 → MadeTrees w.table (replicate (count more_done) elem.0) more_done
    made_then fine =
        let all_there : AreOctets ((fetched ++ next) ++ []) = both_octets (fetched ++ next) [] octets tt in
        let made : MadeTree w.table (type_at w.table pipe) (target ((fetched ++ next) ++ [])).tree =
        chunk_made w side order h pipe elem there fine done p.made (suc c) (going k.at k.seen) k.names ((fetched ++ next) ++ []) all_there in
        let of_pipe : MadeTree w.table (Some (def.Pipe elem)) (node tree.Pipe (joined done (kids ((fetched ++ next) ++ [])).trees)) =
        subst (λ d. MadeTree w.table d (node tree.Pipe (joined done (kids ((fetched ++ next) ++ [])).trees))) there made in
        subst (λ ts. MadeTrees w.table (replicate (count ts) elem.0) ts) (sym (its_kids [])) of_pipe.1

    needs_stream : NeededAfter w order fetched next
    needs_stream part last e =
        let (at, seen, stop) = needs part last e in
        let a : AreOctets part = all_left (λ b. b < 256) part (last ∷ []) (subst AreOctets e all) in
        ap (λ (u : Progress). u.stop)
        (elements_refused w side order fetched noted direct first i rs roots pipe elem done max_at c 0 (suc c) k none_left there p part a at seen (length (fetched ++ part), reason.Truncated) stop)

    -- what the reader has still to read
    abbrev Before : List ℕ → Type 0
    Before z = (m : ℕ) × (length z < k.at + 4 * m + 0) × Reads w order z i rs roots done (at_elements (suc c) w order i elem done k z m)

    abbrev After : List ℕ → Type 0
    After z = (m : ℕ) × (length z < x.at + 4 * m + 4) × Reads w order z i rs roots more_done (at_chunk w order i elem more_done then z m)

    nearer : k.at ≤ x.at
    nearer =
        let a : length fetched ≡ k.at = p.stands.reached in
        let b : length (fetched ++ next) ≡ x.at = is.reached in
        let l : length (fetched ++ next) ≡ length fetched + length next = length-append fetched next in omega (arith, a, b, l)

    module _ (later : List ℕ) (m : ℕ) (r : Reads w order ((fetched ++ next) ++ later) i rs roots done (at_elements (suc c) w order i elem done k ((fetched ++ next) ++ later) (suc m))) where
      abbrev z : List ℕ
      z = (fetched ++ next) ++ later

      abbrev from : ℕ → Progress → Names → ReadPipe
      from a q s = read_chunks w order z (suc m) h elem.0 a q s

      abbrev news : Trees
      news = (kids z).trees

      abbrev rest_of : ReadPipe → ReadPipe
      rest_of o = record { trees = joined news o.trees; cut = suc c ∷ o.cut; progress = o.progress; names = o.names }

      abbrev next_read : ReadPipe
      next_read = from (1 + node_count more_done) (going x.at is.seen) is.names

      abbrev pipes_then : ReadPipes
      pipes_then = read_pipes w order z (i + 1) rs next_read.progress next_read.names

      many : n + node_count news ≡ 1 + node_count more_done
      many = let e : node_count more_done ≡ node_count done + node_count news = ap node_count (its_kids later) ∙ joined_nodes done news in omega (arith, e)

      same : from (n + node_count news) (kids z).progress (kids z).names ≡ next_read
      same =
          ap (λ a. from a (kids z).progress (kids z).names) many
          ∙ ap₂ (λ q s. from (1 + node_count more_done) q s) (sym (its_progress later)) (sym (its_names later))

      now : Reads w order z i rs roots done (rest_of next_read)
      now = subst (λ o. Reads w order z i rs roots done (rest_of o)) same r

      trees_are : joined done (joined news next_read.trees) ≡ joined more_done next_read.trees
      trees_are = joined_assoc done news next_read.trees ∙ ap (λ ts. joined ts next_read.trees) (sym (its_kids later))

      reads_next : Reads w order z i rs roots more_done (at_chunk w order i elem more_done then z m)
      reads_next = record {
        progress = now.progress;
        graph = now.graph ∙ ap (λ ts. graph_of (roots ++ node tree.Pipe ts ∷ pipes_then.roots) pipes_then.names) trees_are;
      }

    reads_then : (later : List ℕ) → Before ((fetched ++ next) ++ later) → After ((fetched ++ next) ++ later)
    reads_then later (zero, few, r) =
        let a : length (fetched ++ next) ≡ x.at = is.reached in
        let l : length ((fetched ++ next) ++ later) ≡ length (fetched ++ next) + length later = length-append (fetched ++ next) later in
        absurd (omega (arith, a, l, few, nearer))
    reads_then later (suc m, few, r) = (m, omega (arith, few, nearer), reads_next later m r)

    -- after them the next chunk is due
    pub elements_end : IsFine w.table 32 elem.0
        → InPipe w order (fetched ++ next) noted' direct first i rs roots elem (kids_of is.v) x.max_at 4 (at_chunk w order i elem (kids_of is.v) (read_to x is.seen is.names))
        (read_to x is.seen is.names)
    elements_end fine = record {
      stands =
          stands_on w order fetched noted direct first i k p.stands next all noted' then its_entries.added its_entries.seen its_entries.own is.reached x.max_at
          (length x.nodes) [] is.told needs_stream;
      told = subst (λ a. Told noted' direct order (fetched ++ next) h is.seen is.names x.cells x.numbers x.max_at a []) as_many is.told;
      found = found_then;
      made = made_then fine;
      reads = λ later a. reads_then later (subst Before (sym (append_assoc fetched next later)) (p.reads (next ++ later) (both_octets next later all a)));
    }

-- More nodes than a machine counts: then the value is not whole.
pub not_whole : (v : Tree) (ks : Trees) (nodes : List Flat) → v ≡ node tree.Pipe ks → nodes ≡ flat (more v none) → length nodes + 4096 < 2 ^ 32 → count ks < 2 ^ 32 - 1
not_whole v ks nodes e f few =
    let a : length nodes ≡ length (flat (more v none)) = ap length f in
    let b : length (flat (more v none)) ≡ node_count (more v none) = length_flat (more v none) in
    let c : node_count (more v none) ≡ suc (node_count ks + 0) = ap (λ u. node_count (more u none)) e in
    let d : count ks ≤ node_count ks = few_trees ks in omega (arith, a, b, c, d, few)
