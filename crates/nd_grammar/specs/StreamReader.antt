-- Reading a whole stream: the roots and the referents that they make due, the agreements of the parameters, the pipes.
use Rattle.std.specs.Prelude.{ℕ, ◌+◌, suc, zero, Bool, true, false, ◌==◌, ◌||◌, List, [], ◌∷◌, ◌++◌, length, drop, replicate, Option, Some, None}
use Rattle.std.specs.List.{slice_get}
use Rattle.nd_base.specs.declared.octets.Order.{Order}
use Rattle.nd_types.specs.declared.types.TypeDef.{TypeDef}
use Rattle.nd_types.specs.declared.types.TypeDef.TheVariants as def
use Rattle.nd_types.specs.declared.types.Class.{Class}
use Rattle.nd_types.specs.declared.types.Class.TheVariants.{Ref, Full}
use Rattle.nd_types.specs.Table.{type_at}
use Rattle.nd_types.specs.Roots.{Root}
use Rattle.nd_value.specs.declared.value.Graph.{Graph}
use Rattle.nd_value.specs.declared.item.Home.{Home}
use Rattle.nd_value.specs.declared.item.Home.TheVariants as home
use Rattle.nd_value.specs.Tree as tree
use Rattle.nd_value.specs.Tree.{Tree, Trees, node, none, more, Referent, node_count, joined}
use Rattle.nd_value.specs.Setting.{Setting, root_list, unread, cell_at, cell_home, set_cell}
use Rattle.nd_value.specs.Deferral.{Pending, Due, due_root, due_referent, due_roots, before_pipes, Placed_cells, due_of, root_type}
use Rattle.nd_grammar.specs.Entry.{Kind, Entry, Align, Chunk, tests}
use Rattle.nd_grammar.specs.Stream.{root_tests}
use Rattle.nd_grammar.specs.Reader.{Progress, Names, Read, ReadAll, is_stopped, pass, pass_all, taken, number_in, fresh, with_cell, read_list}
use Rattle.nd_grammar.specs.Reader.{read_in_place, read_whole}

-- how far a stream is read: the roots so far, the cells that stand, what is due, and the progress in octets and names
pub record Reading : Type 0 where
  pub roots : List Tree
  pub done : Placed_cells
  pub due : List Due
  pub progress : Progress
  pub names : Names

-- the names with the value of a cell: cells are numbered from 1
abbrev pub with_value : ℕ → Tree → Names → Names
with_value c v s = record { cells = set_cell c v s.cells; numbers = s.numbers }

-- the graph of these roots and cells
abbrev pub graph_of : List Tree → Names → Graph
graph_of roots s = record { roots = roots; cells = s.cells }

abbrev pub stands_among : Placed_cells → ℕ → Bool
stands_among [] c = false
stands_among (d ∷ ds) c = c == d.1 || stands_among ds c

-- the referent of a full pointer stands once
abbrev pub stood : Class → Placed_cells → ℕ → Bool
stood Full done c = stands_among done c
stood _ done c = false

-- the elements of a pipe, with the counts of the chunks in which they came
pub record ReadPipe : Type 0 where
  pub trees : Trees
  pub cut : List ℕ
  pub progress : Progress
  pub names : Names

-- the pipes: their roots, and the counts of their chunks
pub record ReadPipes : Type 0 where
  pub roots : List Tree
  pub cuts : List (List ℕ)
  pub progress : Progress
  pub names : Names

-- what is found: a graph, the counts of its pipes' chunks, and how far the octets were read. Where reading did not stop, they are a
-- stream of the graph up to that place; where it stopped, they are refused, and the graph is what was read.
pub record Found : Type 0 where
  pub graph : Graph
  pub cuts : List (List ℕ)
  pub progress : Progress

module _ (w : Setting) (order : Order) (octets : List ℕ) where
  -- the referent of a top-level reference pointer is in the pointer's place: a cell of its own
  abbrev pub read_direct : ℕ → List Due → Reading → Reading
  read_direct to due s =
      let c : ℕ = fresh to s.names in
      let r : Read = read_whole order octets w.table (cell_home c) to s.progress (with_cell to s.names) in
      record {
        roots = s.roots ++ node (tree.Ptr (Some c)) none ∷ [];
        done = (Ref, c) ∷ s.done;
        due = due_of w.table (record { home = cell_home c; of = to; val = r.tree }) ++ due;
        progress = r.progress;
        names = with_value c r.tree r.names;
      }

  abbrev pub read_placed : ℕ → ℕ → List Due → Reading → Reading
  read_placed i t due s =
      let r : Read = read_whole order octets w.table (home.Root i) t s.progress s.names in
      record {
        roots = s.roots ++ r.tree ∷ [];
        done = s.done;
        due = due_of w.table (record { home = home.Root i; of = t; val = r.tree }) ++ due;
        progress = r.progress;
        names = r.names;
      }

  abbrev pub read_root : Option TypeDef → Bool → ℕ → ℕ → List Due → Reading → Reading
  read_root (Some (def.Pointer Ref to)) false i t due s = read_direct to.0 due s
  read_root d stopped i t due s = read_placed i t due s

  -- the referent of a pointer, and its agreements
  abbrev pub read_referent : Bool → Pending → ℕ → List Due → Reading → Reading
  read_referent true p c due s = record {
    roots = s.roots;
    done = s.done;
    due = due;
    progress = pass_all order octets (tests (cell_home c) 0 (cell_at (graph_of s.roots s.names) c) p.agreements) s.progress;
    names = s.names;
  }
  read_referent false p c due s =
      let r : Read = read_whole order octets w.table (cell_home c) p.to s.progress s.names in
      record {
        roots = s.roots;
        done = (p.class, c) ∷ s.done;
        due = due_of w.table (record { home = cell_home c; of = p.to; val = r.tree }) ++ due;
        progress = pass_all order octets (tests (cell_home c) 0 r.tree p.agreements) r.progress;
        names = with_value c r.tree r.names;
      }

  abbrev pub read_pending : Option ℕ → Pending → List Due → Reading → Reading
  read_pending None p due s = record { roots = s.roots; done = s.done; due = due; progress = s.progress; names = s.names }
  read_pending (Some c) p due s = read_referent (stood p.class s.done c) p c due s

  -- the first of what is due
  abbrev pub read_first : Due → List Due → Reading → Reading
  read_first (due_root i) due s =
      let t : ℕ = root_type (slice_get (root_list w) i) in
      read_root (type_at w.table t) (is_stopped s.progress.stop) i t due s
  read_first (due_referent p) due s = read_pending p.cell p due s

  abbrev pub read_next : List Due → Reading → Reading
  read_next [] s = s
  read_next (d ∷ due) s = read_first d due s

  -- what is due, one after the other, as long as something is: at most so many
  abbrev pub read_due : ℕ → Reading → Reading
  read_due zero s = s
  read_due (suc more_steps) s = read_due more_steps (read_next s.due s)

  -- the elements of a pipe, chunk by chunk, up to the chunk without elements: at most so many
  abbrev pub read_chunks : ℕ → Home → ℕ → ℕ → Progress → Names → ReadPipe
  read_chunks zero h elem n p s = record { trees = none; cut = []; progress = p; names = s }
  read_chunks (suc more_chunks) h elem n p s =
      let entry : Kind → Entry = λ k. record { home = h; node = 0; kind = k } in
      let gap : Progress = pass order octets (entry (Align 4)) p in
      let k : ℕ = number_in order octets (taken order octets (entry (Chunk 0)) gap) in
      let q : Progress = pass order octets (entry (Chunk k)) gap in
      let kids : ReadAll = read_list w.table (read_in_place order octets w.table h 32 0) (replicate k elem) n q s in
      let others : ReadPipe = read_chunks more_chunks h elem (n + node_count kids.trees) kids.progress kids.names in
      elim (k == 0) [
        | true ↦ record { trees = none; cut = []; progress = q; names = s }
        | false ↦ record { trees = joined kids.trees others.trees; cut = k ∷ others.cut; progress = others.progress; names = others.names }
      ]

  abbrev pub read_pipe : Option TypeDef → Bool → ℕ → Progress → Names → ReadPipe
  read_pipe (Some (def.Pipe elem)) false i p s = read_chunks (length octets + 1) (home.Root i) elem.0 1 p s
  read_pipe d stopped i p s = record { trees = none; cut = []; progress = p; names = s }

  abbrev pub pipe_tree : Bool → Trees → Tree
  pipe_tree true ts = unread
  pipe_tree false ts = node tree.Pipe ts

  abbrev pub read_pipes : ℕ → List Root → Progress → Names → ReadPipes
  read_pipes i [] p s = record { roots = []; cuts = []; progress = p; names = s }
  read_pipes i (r ∷ rs) p s =
      let first : ReadPipe = read_pipe (type_at w.table r.of) (is_stopped p.stop) i p s in
      let others : ReadPipes = read_pipes (i + 1) rs first.progress first.names in
      record {
        roots = pipe_tree (is_stopped p.stop) first.trees ∷ others.roots;
        cuts = first.cut ∷ others.cuts;
        progress = others.progress;
        names = others.names;
      }

  abbrev pub read_start : Reading
  read_start = record {
    roots = [];
    done = [];
    due = due_roots 0 (before_pipes (root_list w));
    progress = record { at = 0; seen = []; stop = None };
    names = record { cells = []; numbers = [] };
  }

  -- The whole stream. Each step over what is due takes a root, or a pointer's referent, of which there are no more than octets.
  abbrev pub read_stream : Found
  read_stream =
      let n : ℕ = before_pipes (root_list w) in
      let head : Reading = read_due (length octets + n + 1) read_start in
      let roots : List Tree = head.roots ++ replicate (length (drop n (root_list w))) unread in
      let tested : Progress = pass_all order octets (root_tests w (graph_of roots head.names) 0 (root_list w) roots) head.progress in
      let pipes : ReadPipes = read_pipes n (drop n (root_list w)) tested head.names in
      record { graph = graph_of (head.roots ++ pipes.roots) pipes.names; cuts = pipes.cuts; progress = pipes.progress }
