-- The elements of a chunk: at their beginning a state means them, and at their end the pipe has so many more.
use Rattle.std.proofs.Common.{◌≡◌, ℕ, ◌+◌, zero, suc, Bool, true, false, ◌&&◌, List, [], ◌∷◌, ◌++◌, length, Option, Some, refl, ap, sym, ◌∙◌, subst, arith, map, replicate}
use Rattle.std.specs.Prelude.{not}
use Rattle.nd_base.specs.declared.octets.Order.{Order}
use Rattle.nd_types.specs.declared.types.TypeId.{TypeId}
use Rattle.nd_types.specs.declared.types.TypeDef.TheVariants as def
use Rattle.nd_types.specs.Number.{AreOctets}
use Rattle.nd_types.specs.Roots.{Root}
use Rattle.nd_types.specs.Layout.{hoists}
use Rattle.nd_types.specs.Table.{Table, type_at}
use Rattle.nd_value.specs.declared.item.Home.{Home}
use Rattle.nd_value.specs.declared.item.Home.TheVariants as home
use Rattle.nd_value.specs.declared.item.Item.{Item}
use Rattle.nd_value.specs.Setting.{Setting, unread}
use Rattle.nd_value.specs.Tree as tree
use Rattle.nd_value.specs.Tree.{Tree, Trees, node, more, flat, count, node_count}
use Rattle.nd_grammar.specs.declared.reason.Reason.{Reason}
use Rattle.nd_grammar.specs.Entry.{EntryAt}
use Rattle.nd_grammar.specs.LegalSide.{IsLegalSide}
use Rattle.nd_grammar.specs.Reader.{Names, Progress, Read, ReadAll, is_stopped, read_if, read_list, read_in_place, tree_nodes}
use Rattle.nd_grammar.specs.StreamReader.{ReadPipe, read_stream}
use Rattle.nd_grammar.proofs.LegalSides.{laid_out}
use Rattle.nd_grammar.proofs.next.Mapped.{no_pointers}
use Rattle.nd_grammar.proofs.next.NextStream.{FitsPipes}
use Rattle.ndr_code.specs.declared.instr.Instr.{Instr}
use Rattle.ndr_code.specs.declared.lists.EnumList.{EnumList}
use Rattle.ndr_code.specs.Code.{place_at}
use Rattle.ndr_decoder_laws.specs.reader.Around.{going, pointers, stopped}
use Rattle.nd_grammar.proofs.agreements.EntriesTell.{flat_length as length_flat}
use Rattle.ndr_decoder_laws.specs.steps.Chunks.{chunk_read}
use Rattle.ndr_decoder_laws.specs.steps.Good.{Good, Told, owed}
use Rattle.ndr_decoder_laws.specs.steps.Spots.{IsFine, IsPlanned}
use Rattle.ndr_decoder_laws.specs.steps.Steps.{State, place_of, no_place}
use Rattle.ndr_decoder_laws.proofs.steps.ChunkBegins.{begins_chunk}
use Rattle.ndr_decoder_laws.proofs.runs.ChunkSafe.{many_alike, more_alike}
use Rattle.ndr_decoder_laws.specs.stream.Added.{Added, Goes}
use Rattle.ndr_decoder_laws.proofs.stream.Growing.{list_adds, in_place_adds}
use Rattle.ndr_decoder_laws.proofs.stream.StreamGrows.{goes_by, goes_twice}
use Rattle.ndr_decoder_laws.specs.pipes.Pipes.{Position, InPipe, OpensChunk, at_elements}
use Rattle.ndr_decoder_laws.proofs.pipes.Staying.{chunks_go, chunks_stay, elements_go, reads_go, reads_stop}

-- values one after the other, in two parts
first_and_others : (t : Tree) (ts : Trees) → node_count (more t ts) ≡ tree_nodes t + node_count ts
first_and_others (node l ks) ts = omega arith

module _ (order : Order) (octets : List ℕ) (table : Table) (read : ℕ → ℕ → Progress → Names → Read) where
  abbrev all_of : List ℕ → ℕ → Progress → Names → ReadAll
  all_of types n p s = read_list table read types n p s

  abbrev others_after : List ℕ → ℕ → ReadAll → ReadAll
  others_after vs n r = all_of vs (n + node_count r.trees) r.progress r.names

  list_parts : (us vs : List ℕ) (n : ℕ) (p : Progress) (s : Names) → (all_of (us ++ vs) n p s).progress ≡ (others_after vs n (all_of us n p s)).progress
  list_parts [] vs n p s = let z : n ≡ n + 0 = omega arith in ap (λ a. (all_of vs a p s).progress) z
  list_parts (u ∷ us) vs n p s =
      let f : Read = read_if (is_stopped p.stop && not (hoists table u)) (read u n) p s in
      let r : ReadAll = all_of us (n + tree_nodes f.tree) f.progress f.names in
      let e : node_count (more f.tree r.trees) ≡ tree_nodes f.tree + node_count r.trees = first_and_others f.tree r.trees in
      let z : (n + tree_nodes f.tree) + node_count r.trees ≡ n + node_count (more f.tree r.trees) = omega (arith, e) in
      list_parts us vs (n + tree_nodes f.tree) f.progress f.names ∙ ap (λ a. (all_of vs a r.progress r.names).progress) z

  module _ (at : ℕ) (seen : List EntryAt) (why : ℕ × Reason) (t : ℕ) (plain : hoists table t ≡ false) where
    abbrev end : Progress
    end = stopped at seen why

    first_stays : (b : Bool) → b ≡ false → (n : ℕ) (s : Names) → read_if (not b) (read t n) end s ≡ record { tree = unread; progress = end; names = s }
    first_stays true e n s = cc
    first_stays false e n s = refl

    alike_stay : (k n : ℕ) (s : Names) → (all_of (replicate k t) n end s).progress ≡ end
    alike_stay zero n s = refl
    alike_stay (suc k) n s =
        ap (λ (f : Read). (all_of (replicate k t) (n + tree_nodes f.tree) f.progress f.names).progress) (first_stays (hoists table t) plain n s) ∙ alike_stay k (n + tree_nodes unread) s

    pub alike_stop : (k n : ℕ) (p : Progress) (s : Names) → p ≡ end → (all_of (replicate k t) n p s).progress ≡ end
    alike_stop k n p s e = ap (λ q. (all_of (replicate k t) n q s).progress) e ∙ alike_stay k n s

module _ (w : Setting) (side : IsLegalSide w) (order : Order) (fetched : List ℕ) (noted : List Item) (direct : ℕ) (first : Names) (i : ℕ) (rs : List Root) (roots : List Tree) (pipe : ℕ)
    (elem : TypeId) (done : Trees) (max_at : Option ℕ) (c r m : ℕ) (k : Position) (parts : suc c + r ≡ m)
    (there : type_at w.table pipe ≡ Some (def.Pipe elem)) (p : InPipe w order fetched noted direct first i rs roots elem done max_at 0 (at_elements m w order i elem done k) k) where
  abbrev h : Home
  h = home.Root i

  abbrev n : ℕ
  n = 1 + node_count done

  abbrev pub target : List ℕ → Read
  target octets = chunk_read order w.table (home.Root i) elem done (suc c) (going k.at k.seen) k.names octets

  abbrev reader : List ℕ → ℕ → ℕ → Progress → Names → Read
  reader z = read_in_place order z w.table h 32 0

  -- the first elements of the chunk, and all of them
  abbrev kids : List ℕ → ReadAll
  kids z = read_list w.table (reader z) (replicate (suc c) elem.0) n (going k.at k.seen) k.names

  abbrev all_kids : List ℕ → ReadAll
  all_kids z = read_list w.table (reader z) (replicate m elem.0) n (going k.at k.seen) k.names

  others_then : (z : List ℕ) → (all_kids z).progress ≡ (read_list w.table (reader z) (replicate r elem.0) (n + node_count (kids z).trees) (kids z).progress (kids z).names).progress
  others_then z =
      ap (λ ts. (read_list w.table (reader z) ts n (going k.at k.seen) k.names).progress) (ap (λ a. replicate a elem.0) (sym parts) ∙ more_alike elem.0 (suc c) r)
      ∙ list_parts order z w.table (reader z) (replicate (suc c) elem.0) (replicate r elem.0) n (going k.at k.seen) k.names

  -- ## Their beginning

  bare : pointers w.table h (replicate (count done) elem.0) 1 done ≡ []
  bare = no_pointers w.table h (replicate (count done) elem.0) [] 1 done (many_alike (FitsPipes w.table) elem.0 (count done) ((laid_out w side).elements pipe elem there))

  -- the state at the beginning of the elements means them
  pub elements_begin : (values : List EnumList) (code : List Instr) → IsPlanned code values w.table → IsFine w.table 32 elem.0 → (x : State) → OpensChunk (place_at w.table elem.0) c done max_at k x
      → Good order fetched code w.table (home.Root i) pipe 33 noted direct target x
  elements_begin values code planned fine x o =
      subst (λ a. Good order fetched code w.table h pipe 33 noted direct (chunk_read order w.table h elem done (suc c) (going a k.seen) k.names) x) o.at
      (begins_chunk order fetched code values w.table h pipe elem noted direct planned x done c k.seen k.names there fine
      (record {
        phase = o.phase;
        max = o.max;
        top = o.top;
        stack = o.stack;
        nodes = o.nodes;
        own = o.own;
        members = o.members;
        firsts = o.firsts;
        fresh = o.fresh ∙ ap (map (owed w.table)) (sym bare);
        found = λ a. p.found a ∙ ap (λ m. place_of a m no_place) (sym o.max_at_is);
        reached = p.stands.reached ∙ sym o.at;
        told = told_there;
      }) o.pc)
    where
      as_many : length x.nodes ≡ n
      as_many = let l : length (flat done) ≡ node_count done = length_flat done in let e : length x.nodes ≡ suc (length (flat done)) = ap length o.nodes in omega (arith, l, e)

      told_there : Told noted direct order fetched h k.seen k.names x.cells x.numbers x.max_at (length x.nodes) []
      told_there =
          subst (λ a. Told noted direct order fetched h k.seen k.names x.cells x.numbers x.max_at a []) (sym as_many)
          (subst (λ m. Told noted direct order fetched h k.seen k.names x.cells x.numbers m n []) (sym o.max_at_is)
          (subst (λ u. Told noted direct order fetched h k.seen k.names x.cells u max_at n []) (sym o.numbers)
          (subst (λ u. Told noted direct order fetched h k.seen k.names u k.numbers max_at n []) (sym o.cells) p.told)))

  -- ## Where one of the first of them is refused

  pub elements_refused : (later : List ℕ) → AreOctets later → (at : ℕ) (seen : List EntryAt) (why : ℕ × Reason) → (target (fetched ++ later)).progress ≡ stopped at seen why
      → (read_stream w order (fetched ++ later)).progress ≡ stopped at seen why
  elements_refused later a at seen why e =
      let (f, few, q) = p.reads later a in
      let z : List ℕ = fetched ++ later in
      let stop : (all_kids z).progress ≡ stopped at seen why =
      others_then z
      ∙ alike_stop order z w.table (reader z) at seen why elem.0 ((laid_out w side).hoisting.piped pipe elem there) r (n + node_count (kids z).trees) (kids z).progress (kids z).names e in
      reads_stop w order z at seen why i rs roots done (at_elements m w order i elem done k z f) q
      (chunks_stay w order z at seen why f h elem.0 (n + node_count (all_kids z).trees) (all_kids z).progress (all_kids z).names stop)

  -- reading goes on from what was read of them, and from their beginning
  pub elements_add : (later : List ℕ) → AreOctets later → Goes (target (fetched ++ later)).progress (read_stream w order (fetched ++ later)).progress
  elements_add later a =
      let (f, few, q) = p.reads later a in
      let z : List ℕ = fetched ++ later in
      let others : Added h (kids z).progress (read_list w.table (reader z) (replicate r elem.0) (n + node_count (kids z).trees) (kids z).progress (kids z).names).progress =
      list_adds order z w.table h (reader z) (in_place_adds order z w.table h 32 0) (replicate r elem.0) (n + node_count (kids z).trees) (kids z).progress (kids z).names in
      let on : Goes (kids z).progress (all_kids z).progress = subst (Goes (kids z).progress) (sym (others_then z)) (goes_by h (kids z).progress _ others) in
      let rest : ReadPipe = at_elements m w order i elem done k z f in
      reads_go w order z i rs roots done rest q (kids z).progress
      (goes_twice (kids z).progress (all_kids z).progress rest.progress on (chunks_go w order z h elem.0 f (n + node_count (all_kids z).trees) (all_kids z).progress (all_kids z).names))

  pub elements_come : (later : List ℕ) → AreOctets later → Goes (going k.at k.seen) (read_stream w order (fetched ++ later)).progress
  elements_come later a =
      let (f, few, q) = p.reads later a in
      let z : List ℕ = fetched ++ later in
      reads_go w order z i rs roots done (at_elements m w order i elem done k z f) q (going k.at k.seen) (elements_go w order z h elem.0 f n m (going k.at k.seen) k.names)
