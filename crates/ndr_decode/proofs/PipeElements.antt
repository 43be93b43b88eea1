-- The elements of a chunk: from the count that was read, through the run of their code, to the next chunk.
-- `m` is the machine before the chunk, `n` the one after its count, `o` the one at the beginning of its elements, `z` the one at their end; `suc c` is how many
-- are begun, of `suc c + r`.
use Rattle.std.proofs.Common.{◌≡◌, ◌≤◌, ◌<◌, ◌^◌, ℕ, ◌+◌, ◌-◌, ◌*◌, suc, List, [], ◌∷◌, ◌++◌, length, map, replicate, Some, refl, ap, ap₂, sym, ◌∙◌, subst, arith, length-append}
use Rattle.std.specs.List.{AllByRecursion}
use Rattle.std.proofs.lemmas.List.{append-nil, length-replicate}
use Rattle.nd_base.specs.declared.octets.Order.{Order}
use Rattle.nd_base.specs.declared.TheConstants.{STREAM_LIMIT}
use Rattle.nd_base.specs.Over.{SourceOver}
use Rattle.nd_types.specs.declared.types.TypeDef.TheVariants as def
use Rattle.nd_types.specs.declared.types.TypeId.{TypeId}
use Rattle.nd_types.specs.Roots.{Root}
use Rattle.nd_types.specs.Table.{Table, type_at}
use Rattle.nd_value.specs.declared.item.Home.{Home}
use Rattle.nd_value.specs.declared.item.Home.TheVariants as home
use Rattle.nd_value.specs.declared.item.Item.{Item}
use Rattle.nd_value.specs.Nodes.{child_types}
use Rattle.nd_value.specs.Setting.{Setting, cell_at, unread}
use Rattle.nd_value.specs.Tree as tree
use Rattle.nd_value.specs.Tree.{Referent, Tree, Trees, count, flat, joined, more, node, node_count, none}
use Rattle.nd_flat.specs.Building.{Building, closed, opened, raised, with_nodes, with_root}
use Rattle.nd_grammar.specs.LegalSide.{IsLegalSide}
use Rattle.nd_grammar.specs.Reader.{Names, Progress, Read, is_stopped, read_if, read_in_place, read_list, tree_nodes}
use Rattle.nd_grammar.proofs.legal.LegalUsable.{children_usable}
use Rattle.nd_grammar.specs.ReaderState.{Usable}
use Rattle.std.specs.Prelude.{not, ◌&&◌}
use Rattle.nd_types.specs.Layout.{hoists}
use Rattle.ndr_code.specs.Code.{place_at}
use Rattle.ndr_code.specs.declared.plan.Plan.{Plan}
use Rattle.ndr_decoder_laws.specs.reader.Around.{going}
use Rattle.nd_grammar.proofs.reader.ReaderPipes.{joined_count as count_joined}
use Rattle.ndr_decoder_laws.specs.declared.frame.Frame.TheVariants as frame
use Rattle.ndr_decoder_laws.specs.steps.Chunks.{chunk_read}
use Rattle.ndr_decoder_laws.specs.steps.Good.{Good}
use Rattle.ndr_decoder_laws.specs.steps.Spots.{IsFine, IsPlanned}
use Rattle.ndr_decoder_laws.specs.steps.Steps.{State}
use Rattle.ndr_decoder_laws.specs.runs.Paid.{AllRead, IsPaid, paid}
use Rattle.ndr_decoder_laws.specs.runs.Reaching.{IsSafe, Reaches}
use Rattle.ndr_decoder_laws.proofs.runs.ChunkSafe.{safe_in_chunk}
use Rattle.ndr_decoder_laws.proofs.runs.PaidSteps.{paid_whole}
use Rattle.ndr_decoder_state.specs.declared.fault.DecodeFault.{DecodeFault}
use Rattle.ndr_decoder_state.specs.declared.machine.Machine.{Machine}
use Rattle.ndr_decoder_state.specs.Notes.{NotesSeen}
use Rattle.ndr_decoder_state.specs.Seen.{Outside, outside, state_of}
use Rattle.ndr_decoder_value.specs.Reaching.{EndsFault, EndsWhole}
use Rattle.ndr_decoder_laws.proofs.stream.FineTypes.{usable_fine}
use Rattle.ndr_decoder_laws.specs.pipes.Pipes.{InPipe, OpensChunk, Position, at_chunk, at_elements, kids_of, read_to}
use Rattle.ndr_decoder_laws.proofs.pipes.Elements.{elements_add, elements_begin, elements_refused}
use Rattle.ndr_decoder_laws.proofs.pipes.ElementsEnd.{elements_end, not_whole}
use Rattle.ndr_decoder_stream.specs.Chunks.{HasMoved, IsAt}
use Rattle.ndr_decoder_stream.specs.Opening.{BeginsElements}
use Rattle.ndr_decoder_stream.specs.Ends.{HomeRan}
use Rattle.ndr_decoder_laws.specs.stream.Report.{the_stream}
use Rattle.ndr_decode.specs.Piping.{IsInPipe, IsPipeBy}
use Rattle.ndr_decode.specs.Streaming.{FaultOf, HomeWhole}
use Rattle.ndr_decode.proofs.AtRoots.{legal_is, planned_is}
use Rattle.ndr_decode.proofs.HomeComes.{decoding_of, fault_comes, whole_comes}
use Rattle.ndr_decode.proofs.PipeOpens.{moved_nodes, moved_ran, moved_types}
use Rattle.ndr_decode.proofs.WholeStays.{whole_is}

-- the plain reader gives a value for each type of a list
list_count : (table : Table) (read : ℕ → ℕ → Progress → Names → Read) (types : List ℕ) (n : ℕ) (p : Progress) (s : Names) → count (read_list table read types n p s).trees ≡ length types
list_count table read [] n p s = refl
list_count table read (t ∷ types) n p s =
    let first : Read = read_if (is_stopped p.stop && not (hoists table t)) (read t n) p s in
    ap suc (list_count table read types (n + tree_nodes first.tree) first.progress first.names)

-- the elements of a pipe may be read in place
pub elements_fine : (plan : Plan) (w : Setting) (table : w.table ≡ plan.tie.types) (pipe : ℕ) (elem : TypeId) → type_at w.table pipe ≡ Some (def.Pipe elem) → IsFine w.table 32 elem.0
elements_fine plan w table pipe elem there =
    let kids : AllByRecursion (Usable w.table) (child_types (type_at w.table pipe) tree.Pipe (more unread none)) =
    children_usable w.table plan.tie.operations (legal_is plan w table) pipe tree.Pipe (more unread none) in
    let of_pipe : AllByRecursion (Usable w.table) (child_types (Some (def.Pipe elem)) tree.Pipe (more unread none)) =
    subst (λ d. AllByRecursion (Usable w.table) (child_types d tree.Pipe (more unread none))) there kids in
    usable_fine w.table plan.tie.operations (legal_is plan w table) elem.0 of_pipe.0

module _ (plan : Plan) (w : Setting) (legal : IsLegalSide w) (order : Order) (fetched : List ℕ) (noted : List Item) (direct : ℕ) (first : Names) (i : ℕ) (pipe : ℕ) (rs : List Root)
    (roots : List Tree) (elem : TypeId) (run : ℕ)
    (of_plan : IsPipeBy plan w pipe elem run) (done : Trees) (k0 : Position) (m n : Machine) (p : IsInPipe w order fetched noted direct first i rs roots elem done k0 m) (moved : HasMoved m n)
    (octets : List ℕ) (items : List Item) (k : Position) (c r all : ℕ) (parts : suc c + r ≡ all)
    (after : InPipe w order (fetched ++ octets) (noted ++ items) direct first i rs roots elem done m.max_at 0 (at_elements all w order i elem done k) k) (here : IsAt i k n) where
  abbrev h : Home
  h = home.Root i

  abbrev pub target : List ℕ → Read
  target = chunk_read order w.table (home.Root i) elem done (suc c) (going k.at k.seen) k.names

  planned : IsPlanned plan.code plan.values w.table
  planned = planned_is plan w of_plan.table

  fine : IsFine w.table 32 elem.0
  fine = elements_fine plan w of_plan.table pipe elem of_plan.there

  -- the octets before the elements
  abbrev f0 : List ℕ
  f0 = fetched ++ octets

  abbrev n0 : List Item
  n0 = noted ++ items

  short : length f0 ≤ STREAM_LIMIT
  short = let a : length f0 ≡ k.at = after.stands.reached in let l : k.at ≤ STREAM_LIMIT = here.within in omega (arith, a, l)

  later_at : m.at ≤ k.at
  later_at =
      let a : length fetched ≡ k0.at = p.in_pipe.stands.reached in
      let b : length f0 ≡ k.at = after.stands.reached in
      let c : length f0 ≡ length fetched + length octets = length-append fetched octets in
      let d : m.at ≡ k0.at = p.is_at.at in
      omega (arith, a, b, c, d)

  -- ## Their beginning

  module _ (o : Machine) (less begun : ℕ) (is_less : less ≡ c) (is_begun : begun ≡ suc c) (begins : BeginsElements run less (raised begun n.builder.nodes) (state_of n) (state_of o))
      (built : o.builder ≡ with_nodes (raised begun n.builder.nodes) n.builder) (at_home : o.home ≡ n.home) where
    its_nodes : (state_of o).nodes ≡ (tree.Pipe, count done + suc c) ∷ flat done
    its_nodes =
        begins.nodes_are ∙ ap (raised begun) (moved_nodes w order fetched noted direct first i rs roots elem done k0 m n p moved)
        ∙ ap (λ j. (tree.Pipe, count done + j) ∷ flat done) is_begun

    opens : OpensChunk (place_at w.table elem.0) c done m.max_at k (state_of o)
    opens = record {
      pc = begins.pc ∙ of_plan.run_is;
      phase = begins.phase;
      at = begins.at ∙ here.at;
      max = begins.max;
      max_at_is = begins.max_at ∙ moved.max_at;
      top = begins.top ∙ ap₂ (λ j a. frame.Elements j a 1) is_less of_plan.run_is;
      stack = begins.stack;
      nodes = its_nodes;
      own = begins.own;
      members = begins.members;
      firsts = begins.firsts;
      fresh = begins.fresh;
      cells = begins.cells ∙ here.cells;
      numbers = begins.numbers ∙ here.numbers;
    }

    pub at_root : o.home ≡ home.Root i
    at_root = at_home ∙ here.home

    pub elements_good : Good order f0 plan.code w.table h pipe 33 n0 direct target (state_of o)
    elements_good =
        elements_begin w legal order f0 n0 direct first i rs roots pipe elem done m.max_at c r all k parts of_plan.there after plan.values plan.code planned fine (state_of o) opens

    its_cells : (state_of o).cells ≡ map (λ (c : Referent). c.of) m.builder.graph.cells
    its_cells = begins.cells ∙ moved_types w order fetched noted direct first i rs roots elem done k0 m n p moved

    pays : IsPaid (state_of o)
    pays =
        let a : paid (state_of o).nodes ≡ paid ((tree.Pipe, count done + suc c) ∷ flat done) = ap paid its_nodes in
        let b : paid m.builder.nodes ≡ paid ((tree.Pipe, count done) ∷ flat done) = ap paid p.nodes in
        let d : paid m.builder.nodes ≤ m.at = p.paid.nodes in
        let e : (state_of o).at ≡ k.at = begins.at ∙ here.at in
        let f : 4 * length (map (λ (c : Referent). c.of) m.builder.graph.cells) ≤ m.at + 4096 = p.paid.cells in
        let g : length (state_of o).cells ≡ length (map (λ (c : Referent). c.of) m.builder.graph.cells) = ap length its_cells in
        let were : AllRead ((tree.Pipe, count done) ∷ flat done) = subst AllRead p.nodes p.paid.read in
        record {
          nodes = omega (arith, a, b, d, e, later_at);
          read = subst AllRead (sym its_nodes) (tt, were.1);
          cells = omega (arith, f, g, e, later_at);
        }

    -- each state that is reached is safe
    pub elements_safe : (later : List ℕ) (xs : List Item) (y : State) → Reaches plan.values order plan.code o.home (state_of o) later xs y → IsSafe plan.code y
    elements_safe later xs y reached =
        safe_in_chunk w legal plan.values order plan.code h pipe elem direct planned of_plan.there fine done after.made (suc c) (going k.at k.seen) k.names f0 after.stands.octets short n0
        (state_of o) elements_good
        pays later xs y (subst (λ u. Reaches plan.values order plan.code u (state_of o) later xs y) at_root reached)

    -- a fault within them is one of the stream
    pub elements_fault : (source : SourceOver) (notes : NotesSeen) (s1 : State) (e : DecodeFault) → EndsFault plan.values order plan.code o.home (state_of o) source notes s1 e
        → FaultOf the_stream w order f0 n0 (length (state_of o).cells) source (decoding_of notes) e
    elements_fault source notes s1 e ends =
        fault_comes plan.values order plan.code w.table h pipe 33 direct target planned f0 n0 (state_of o) elements_good source notes the_stream w after.stands.octets after.stands.needed
        (λ part a at seen why stop. elements_refused w legal order f0 n0 direct first i rs roots pipe elem done m.max_at c r all k parts of_plan.there after part a at seen why stop)
        (λ part a. elements_add w legal order f0 n0 direct first i rs roots pipe elem done m.max_at c r all k parts of_plan.there after part a)
        p.few s1 e (subst (λ u. EndsFault plan.values order plan.code u (state_of o) source notes s1 e) at_root ends)

    -- ## Their end

    module _ (z : Machine) (out : outside z ≡ outside o) (source : SourceOver) (notes : NotesSeen) (ends0 : EndsWhole plan.values order plan.code o.home (state_of o) source notes (state_of z)) where
      ends : EndsWhole plan.values order plan.code h (state_of o) source notes (state_of z)
      ends = subst (λ u. EndsWhole plan.values order plan.code u (state_of o) source notes (state_of z)) at_root ends0

      safe_here : (later : List ℕ) (xs : List Item) (y : State) → Reaches plan.values order plan.code h (state_of o) later xs y → IsSafe plan.code y
      safe_here later xs y reached = elements_safe later xs y (subst (λ u. Reaches plan.values order plan.code u (state_of o) later xs y) (sym at_root) reached)

      pub read : HomeWhole order w.table h pipe direct target f0 n0 (length (state_of o).cells) source (decoding_of notes) (state_of z)
      read =
          whole_comes plan.values order plan.code w.table h pipe 33 direct target planned f0 n0 (state_of o) elements_good source notes (state_of z)
          (λ later xs y reached. (safe_here later xs y reached).within) ends

      abbrev kids : Trees
      kids = (read_list w.table (read_in_place order ((f0 ++ read.octets) ++ []) w.table h 32 0) (replicate (suc c) elem.0) (1 + node_count done) (going k.at k.seen) k.names).trees

      its_tree : read.is.v ≡ node tree.Pipe (joined done kids)
      its_tree = ap (λ (x : Read). x.tree) (read.is.is [])

      pub its_kids : kids_of read.is.v ≡ joined done kids
      its_kids = ap kids_of its_tree

      is_pipe : read.is.v ≡ node tree.Pipe (kids_of read.is.v)
      is_pipe = its_tree ∙ ap (node tree.Pipe) (sym its_kids)

      -- the pipe has so many elements more
      pub its_count : count (kids_of read.is.v) ≡ count done + suc c
      its_count =
          let a : count kids ≡ length (replicate (suc c) elem.0) =
          list_count w.table (read_in_place order ((f0 ++ read.octets) ++ []) w.table h 32 0) (replicate (suc c) elem.0) (1 + node_count done) (going k.at k.seen) k.names in
          ap count its_kids ∙ count_joined done kids ∙ ap (λ j. count done + j) (a ∙ length-replicate (suc c) elem.0)

      -- which a machine can count
      pub is_short : count done + suc c + 1 < 2 ^ 32
      is_short =
          let (e, (has, (is, logged))) = ends in
          let same : (state_of z) ≡ e.s = whole_is plan.values order e.os e.i e.s (state_of z) is in
          let few : length e.s.nodes + 8192 < 2 ^ 32 = (safe_here e.fetched e.noted e.s e.reached).few_nodes in
          let many : length (state_of z).nodes ≡ length e.s.nodes = ap (λ (x : State). length x.nodes) same in
          let l : count (kids_of read.is.v) < 2 ^ 32 - 1 = not_whole read.is.v (kids_of read.is.v) (state_of z).nodes is_pipe read.is.nodes (omega (arith, few, many)) in
          omega (arith, l, its_count)

      pub paid_then : IsPaid (state_of z)
      paid_then =
          let (e, (has, (is, logged))) = ends in
          paid_whole plan.values order plan.code h (state_of o) pays e.fetched e.noted e.s e.reached e.i e.os has (state_of z) is

      ran_then : HomeRan (opened (home.Root (length p.b.graph.roots)) (with_root (closed p.b)) p.b) z.builder
      ran_then =
          let was : HomeRan (opened (home.Root (length p.b.graph.roots)) (with_root (closed p.b)) p.b) n.builder = moved_ran w order fetched noted direct first i rs roots elem done k0 m n p moved in
          record {
            open_home = ap (λ (x : Outside). x.open_home) out ∙ ap (λ (b : Building). b.home) built ∙ was.open_home;
            roots = ap (λ (x : Outside). x.roots) out ∙ ap (λ (b : Building). b.graph.roots) built ∙ was.roots;
            values = λ j. ap (λ (x : Outside). x.value j) out ∙ ap (λ (b : Building). cell_at b.graph j) built ∙ was.values j;
          }

      abbrev then : Position
      then = read_to (state_of z) read.is.seen read.is.names

      in_pipe_then : r ≡ 0 → InPipe w order (f0 ++ read.octets) (n0 ++ read.items) direct first i rs roots elem (kids_of read.is.v) z.max_at 4 (at_chunk w order i elem (kids_of read.is.v) then) then
      in_pipe_then e =
          let same : all ≡ suc c = omega (arith, parts, e) in
          elements_end w legal order f0 n0 direct first i rs roots pipe elem done m.max_at c k of_plan.there
          (subst (λ j. InPipe w order f0 n0 direct first i rs roots elem done m.max_at 0 (at_elements j w order i elem done k) k) same after)
          read.octets read.all (n0 ++ read.items) (state_of z) read.is read.needed fine

      pub elements_done : r ≡ 0 → IsInPipe w order (f0 ++ read.octets) (n0 ++ read.items) direct first i rs roots elem (kids_of read.is.v) then z
      elements_done e = record {
        in_pipe = in_pipe_then e;
        few = p.few;
        is_at = record { home = ap (λ (x : Outside). x.home) out ∙ at_root; at = refl; cells = refl; numbers = refl; within = read.within };
        paid = paid_then;
        nodes = read.is.nodes ∙ ap (λ v. flat (more v none)) is_pipe ∙ ap (λ fs. (tree.Pipe, count (kids_of read.is.v)) ∷ fs) (append-nil (flat (kids_of read.is.v)));
        b = p.b;
        number = p.number;
        roots_are = p.roots_are;
        values = p.values;
        ran = ran_then;
      }
