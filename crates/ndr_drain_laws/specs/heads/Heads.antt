-- The head of a stream, as the plain reader reads it.
-- `w` is a setting, `octets` are those of the head.
use Rattle.std.specs.Prelude.{◌≡◌, ◌≤◌, ℕ, ◌+◌, List, ◌++◌, drop, length, replicate}
use Rattle.nd_base.specs.declared.octets.Order.{Order}
use Rattle.nd_value.specs.declared.value.Graph.{Graph}
use Rattle.nd_value.specs.Canon.{IsCanon}
use Rattle.nd_value.specs.Conforms.{Conforms}
use Rattle.nd_value.specs.Deferral.{before_pipes}
use Rattle.nd_value.specs.Setting.{Setting, root_list, unread}
use Rattle.nd_value.specs.Tree.{Tree}
use Rattle.nd_grammar.specs.Entry.{EntryAt, end_to_end}
use Rattle.nd_grammar.specs.Reader.{Progress, pass_all}
use Rattle.nd_grammar.specs.Stream.{head_entries, root_tests}
use Rattle.nd_grammar.specs.StreamReader.{Reading, graph_of, read_due, read_start}
use Rattle.nd_grammar.specs.decoded.Verdict.{IsReadThrough}
use Rattle.ndr_drain_laws.specs.parts.Parts.{HasEmptyPipes, IsHead, empty_pipe}

-- the roots that are no pipes, with their referents
abbrev pub roots_read : Setting → Order → List ℕ → Reading
roots_read w order octets = read_due w order octets (length octets + before_pipes (root_list w) + 1) (read_start w order octets)

-- how far the octets are read after the agreements of the parameters
abbrev pub head_tested : Setting → Order → List ℕ → Progress
head_tested w order octets =
    let h : Reading = roots_read w order octets in
    let roots : List Tree = h.roots ++ replicate (length (drop (before_pipes (root_list w)) (root_list w))) unread in
    pass_all order octets (root_tests w (graph_of roots h.names) 0 (root_list w) roots) h.progress

-- the graph that was read, with pipes that have no elements
abbrev pub head_graph : Setting → Order → List ℕ → Graph
head_graph w order octets =
    let h : Reading = roots_read w order octets in
    graph_of (h.roots ++ replicate (length (drop (before_pipes (root_list w)) (root_list w))) empty_pipe) h.names

-- The octets are the head of a stream of the graph, which conforms, has no elements in its pipes and is its own canonical form; and these are the
-- entries of the head.
pub record HeadRead (w : Setting) (order : Order) (octets : List ℕ) (g : Graph) (seen : List EntryAt) : Type 0 where
  pub is_head : IsHead w order octets g
  pub empty : HasEmptyPipes w g
  pub conforms : Conforms w g
  pub canonical : IsCanon w g g
  pub entries : end_to_end 0 (head_entries w g is_head.steps) ≡ seen

-- Octets are read through the first entries of a stream, all of which come before its pipes.
pub record HeadThrough (w : Setting) (order : Order) (octets : List ℕ) (earlier : List EntryAt) : Type 0 where
  pub through : IsReadThrough w order octets earlier
  pub in_head : length earlier ≤ length (head_entries w through.partial through.stream.steps)
