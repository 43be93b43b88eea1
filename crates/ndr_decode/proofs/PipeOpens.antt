-- The beginning of a pipe, and its end.
-- `m` is the machine before, `n` the one after.
use Rattle.std.proofs.Common.{◌≡◌, ◌≤◌, ℕ, ◌+◌, ◌*◌, zero, suc, List, [], ◌∷◌, ◌++◌, length, map, Option, Some, None, refl, ap, sym, ◌∙◌, subst, arith, length-append}
use Rattle.std.specs.Prelude.{slice_set}
use Rattle.std.proofs.lemmas.List.{append-nil}
use Rattle.nd_base.specs.declared.octets.Order.{Order}
use Rattle.nd_base.specs.Over.{SourceOver}
use Rattle.nd_types.specs.declared.types.TypeDef.TheVariants as def
use Rattle.nd_types.specs.declared.types.TypeId.{TypeId}
use Rattle.nd_types.specs.Roots.{Root}
use Rattle.nd_types.specs.Table.{type_at}
use Rattle.nd_value.specs.declared.item.Home.{Home}
use Rattle.nd_value.specs.declared.item.Home.TheVariants as home
use Rattle.nd_value.specs.declared.item.Item.{Item}
use Rattle.nd_value.specs.Setting.{Setting, cell_at, unread}
use Rattle.nd_value.specs.Tree as tree
use Rattle.nd_value.specs.Tree.{Referent, Tree, Trees, count, flat, more, node, none}
use Rattle.nd_flat.specs.Building.{Building, closed, opened, put, with_nodes, with_root}
use Rattle.nd_flat.specs.Forest.{tree_in}
use Rattle.nd_grammar.specs.Reader.{Names}
use Rattle.ndr_decoder_laws.specs.runs.Paid.{AllRead, IsPaid, paid}
use Rattle.ndr_decoder_state.specs.declared.machine.Machine.{Machine}
use Rattle.ndr_decoder_state.specs.Seen.{state_of}
use Rattle.nd_grammar.specs.decoded.Verdict.{DecodingSeen}
use Rattle.ndr_decoder_laws.specs.stream.Calls.{Took}
use Rattle.ndr_decoder_laws.specs.pipes.Pipes.{InPipe, InPipes, Position, at_chunk}
use Rattle.ndr_decoder_laws.proofs.pipes.PipesBegin.{pipe_begins}
use Rattle.ndr_decoder_stream.specs.Chunks.{HasMoved, IsAt}
use Rattle.ndr_decoder_stream.specs.Ends.{HomeRan}
use Rattle.ndr_decoder_stream.proofs.GraphEnds.{root_ends}
use Rattle.ndr_decoder_stream.proofs.Opened.{closed_types}
use Rattle.ndr_decoder_laws.specs.stream.Between.{RootAdded}
use Rattle.ndr_decode.specs.Piping.{IsBefore, IsInPipe, PipeRead}
use Rattle.ndr_decode.proofs.Placed.{can_close, types_length}

-- how many cells a machine has
pub cells_many : (m : Machine) → m.cells ≡ length (map (λ (c : Referent). c.of) m.builder.graph.cells)
cells_many m = m.numbered ∙ sym (types_length m.builder)

set_length : {X : Type 0} (xs : List X) (i : ℕ) (y : X) → length (slice_set xs i y) ≡ length xs
set_length [] zero y = refl
set_length [] (suc i) y = refl
set_length (x ∷ xs) zero y = refl
set_length (x ∷ xs) (suc i) y = ap suc (set_length xs i y)

-- closing a home leaves as many roots
pub closed_roots : (b : Building) → length (closed b).roots ≡ length b.graph.roots
closed_roots b = go b.home
  where
    go : (o : Option Home) → length (put o (tree_in b.nodes) b.graph).roots ≡ length b.graph.roots
    go None = refl
    go (Some (home.Root i)) = set_length b.graph.roots i (tree_in b.nodes)
    go (Some (home.Cell c)) = refl

module _ (w : Setting) (order : Order) (fetched : List ℕ) (noted : List Item) (direct : ℕ) (first : Names) (i : ℕ) (rs : List Root) (roots : List Tree) (elem : TypeId) where
  -- ## Its beginning

  module _ (r : Root) (k : Position) (there : type_at w.table r.of ≡ Some (def.Pipe elem)) (m n : Machine) (p : IsBefore w order fetched noted direct first i (r ∷ rs) roots k m)
      (built : n.builder ≡ with_nodes ((tree.Pipe, 0) ∷ []) (opened (home.Root i) (with_root (closed m.builder)) m.builder)) (at_home : n.home ≡ home.Root i)
      (at : n.at ≡ m.at) (max_at : n.max_at ≡ None) (referents : n.referents ≡ m.referents) where
    same_types : map (λ (c : Referent). c.of) n.builder.graph.cells ≡ k.cells
    same_types = ap (λ (b : Building). map (λ (c : Referent). c.of) b.graph.cells) built ∙ closed_types m.builder ∙ p.cells

    its_nodes : n.builder.nodes ≡ (tree.Pipe, 0) ∷ []
    its_nodes = ap (λ (b : Building). b.nodes) built

    pays : IsPaid (state_of n)
    pays =
        let none_paid : paid n.builder.nodes ≡ 0 = ap paid its_nodes in
        let many : length (map (λ (c : Referent). c.of) n.builder.graph.cells) ≡ length k.cells = ap length same_types in
        let before : m.at ≡ k.at = p.at in
        let few : 4 * length k.cells ≤ k.at + 4096 = p.paid in
        record { nodes = omega (arith, none_paid); read = subst AllRead (sym its_nodes) (tt, tt); cells = omega (arith, many, at, before, few) }

    pub pipe_opened : IsInPipe w order fetched noted direct first i rs roots elem none k n
    pipe_opened = record {
      in_pipe = subst (λ (x : Option ℕ). InPipe w order fetched noted direct first i rs roots elem none x 4 (at_chunk w order i elem none k) k) (sym max_at)
          (pipe_begins w order fetched noted direct first i rs roots k r elem there p.in_pipes);
      few = p.few;
      is_at = record { home = at_home; at = at ∙ p.at; cells = same_types; numbers = referents ∙ p.numbers; within = p.within };
      paid = pays;
      nodes = its_nodes;
      b = m.builder;
      number = p.number;
      roots_are = p.roots_are;
      values = p.values;
      ran = record {
        open_home = ap (λ (b : Building). b.home) built ∙ ap (λ j. Some (home.Root j)) (sym p.number);
        roots = ap (λ (b : Building). b.graph.roots) built;
        values = λ c. ap (λ (b : Building). cell_at b.graph c) built;
      };
    }

    pub opened_cells : n.cells ≡ m.cells
    opened_cells = cells_many n ∙ ap length (same_types ∙ sym p.cells) ∙ sym (cells_many m)

  -- ## Its end

  module _ (done : Trees) (k : Position) (m n : Machine) (p : IsInPipe w order fetched noted direct first i rs roots elem done k m) (moved : HasMoved m n) where
    pub moved_types : map (λ (c : Referent). c.of) n.builder.graph.cells ≡ map (λ (c : Referent). c.of) m.builder.graph.cells
    moved_types = ap (λ (b : Building). map (λ (c : Referent). c.of) b.graph.cells) moved.builder

    pub moved_cells : n.cells ≡ m.cells
    moved_cells = cells_many n ∙ ap length moved_types ∙ sym (cells_many m)

    pub moved_ran : HomeRan (opened (home.Root (length p.b.graph.roots)) (with_root (closed p.b)) p.b) n.builder
    moved_ran = subst (HomeRan (opened (home.Root (length p.b.graph.roots)) (with_root (closed p.b)) p.b)) (sym moved.builder) p.ran

    pub moved_nodes : n.builder.nodes ≡ (tree.Pipe, count done) ∷ flat done
    moved_nodes = ap (λ (b : Building). b.nodes) moved.builder ∙ p.nodes

    abbrev value : Tree
    value = node tree.Pipe done

    all_nodes : n.builder.nodes ≡ flat (more value none)
    all_nodes = moved_nodes ∙ ap (λ fs. (tree.Pipe, count done) ∷ fs) (sym (append-nil (flat done)))

    added : RootAdded value (map (λ c. c.of) n.builder.graph.cells) (closed p.b) (closed n.builder)
    added = root_ends p.b n.builder value moved_ran all_nodes

    module _ (octets : List ℕ) (items : List Item) (k' : Position) (after : InPipes w order (fetched ++ octets) (noted ++ items) direct first (i + 1) rs (roots ++ value ∷ []) k')
        (here : IsAt i k' n) where
      pub later_cells : 4 * length k'.cells ≤ k'.at + 4096
      later_cells =
          let many : length (map (λ (c : Referent). c.of) m.builder.graph.cells) ≡ length k'.cells = ap length (sym moved_types ∙ here.cells) in
          let few : 4 * length (map (λ (c : Referent). c.of) m.builder.graph.cells) ≤ m.at + 4096 = p.paid.cells in
          let a : length fetched ≡ k.at = p.in_pipe.stands.reached in
          let b : length (fetched ++ octets) ≡ k'.at = after.stands.reached in
          let c : length (fetched ++ octets) ≡ length fetched + length octets = length-append fetched octets in
          let d : m.at ≡ k.at = p.is_at.at in
          omega (arith, many, few, a, b, c, d)

      its_number : length n.builder.graph.roots ≡ i + 1
      its_number =
          let a : length n.builder.graph.roots ≡ length ((closed p.b).roots ++ unread ∷ []) = ap length moved_ran.roots in
          let b : length ((closed p.b).roots ++ unread ∷ []) ≡ length (closed p.b).roots + 1 = length-append (closed p.b).roots (unread ∷ []) in
          let c : length (closed p.b).roots ≡ length p.b.graph.roots = closed_roots p.b in
          let d : length p.b.graph.roots ≡ i = p.number in
          omega (arith, a, b, c, d)

      before_next : IsBefore w order (fetched ++ octets) (noted ++ items) direct first (i + 1) rs (roots ++ value ∷ []) k' n
      before_next = record {
        in_pipes = after;
        few = p.few;
        at = here.at;
        cells = here.cells;
        numbers = here.numbers;
        within = here.within;
        paid = later_cells;
        whole = can_close n.builder value all_nodes;
        number = its_number;
        roots_are = added.roots ∙ ap (λ rs. rs ++ value ∷ []) p.roots_are;
        values = λ c. added.values c ∙ p.values c;
      }

      pub pipe_ended : (source : SourceOver) (t : DecodingSeen) → Took source t m.cells octets items m.cells → PipeRead w order fetched noted direct first i rs roots m.cells source t n
      pipe_ended source t took = record {
        octets = octets;
        items = items;
        v = value;
        k = k';
        before = before_next;
        took = subst (λ c. Took source t m.cells octets items c) (sym moved_cells) took;
      }
