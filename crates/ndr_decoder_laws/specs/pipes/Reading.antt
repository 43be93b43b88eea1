-- What the plain reader has still to read of a pipe: the chunks that are left; the count of a chunk after its gap; its elements after its count.
-- `more` is how many chunks may come after this one, `h` the home, `elem` the elements' type, `n` the number of the first node that is still to be
-- read, `k` the count of the chunk, `done` are the elements so far, `i` is the root's number, `rs` are the roots after it, `roots` the values of
-- those before.
use Rattle.std.specs.Prelude.{◌≡◌, ℕ, ◌+◌, Bool, true, false, ◌==◌, List, [], ◌∷◌, ◌++◌, replicate}
use Rattle.nd_base.specs.declared.octets.Order.{Order}
use Rattle.nd_types.specs.Roots.{Root}
use Rattle.nd_value.specs.declared.item.Home.{Home}
use Rattle.nd_value.specs.Setting.{Setting}
use Rattle.nd_value.specs.Tree as tree
use Rattle.nd_value.specs.Tree.{Tree, Trees, node, none, joined, node_count}
use Rattle.nd_grammar.specs.Entry.{Entry, Kind, Chunk}
use Rattle.nd_grammar.specs.Reader.{Progress, Names, ReadAll, pass, taken, number_in, read_list, read_in_place}
use Rattle.nd_grammar.specs.StreamReader.{ReadPipe, graph_of, read_chunks, read_pipes, read_stream}

-- an entry of the pipe as a whole
abbrev pub of_pipe : Home → Kind → Entry
of_pipe h k = record { home = h; node = 0; kind = k }

abbrev pub chosen : Bool → ReadPipe → ReadPipe → ReadPipe
chosen b t u = elim b [ true ↦ t | false ↦ u ]

module _ (w : Setting) (order : Order) (octets : List ℕ) (more : ℕ) (h : Home) (elem n : ℕ) where
  -- so many elements, and the chunks after them
  abbrev pub elements_then : ℕ → Progress → Names → ReadPipe
  elements_then k q s =
      let kids : ReadAll = read_list w.table (read_in_place order octets w.table h 32 0) (replicate k elem) n q s in
      let others : ReadPipe = read_chunks w order octets more h elem (n + node_count kids.trees) kids.progress kids.names in
      record { trees = joined kids.trees others.trees; cut = k ∷ others.cut; progress = others.progress; names = others.names }

  -- a count, and what comes after it: nothing where it is 0
  abbrev pub count_then : Progress → Names → ReadPipe
  count_then gap s =
      let k : ℕ = number_in order octets (taken order octets (of_pipe h (Chunk 0)) gap) in
      let q : Progress = pass order octets (of_pipe h (Chunk k)) gap in
      chosen (k == 0) (record { trees = none; cut = []; progress = q; names = s }) (elements_then k q s)

-- The reader of the stream comes to what these roots give, after a pipe of which this is left.
pub record Reads (w : Setting) (order : Order) (octets : List ℕ) (i : ℕ) (rs : List Root) (roots : List Tree) (done : Trees)
    (rest : ReadPipe) : Type 0 where
  pub progress : (read_stream w order octets).progress ≡ (read_pipes w order octets (i + 1) rs rest.progress rest.names).progress
  pub graph : (read_stream w order octets).graph
      ≡ graph_of (roots ++ node tree.Pipe (joined done rest.trees) ∷ (read_pipes w order octets (i + 1) rs rest.progress rest.names).roots)
      (read_pipes w order octets (i + 1) rs rest.progress rest.names).names
