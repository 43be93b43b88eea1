-- How far the plain reader has come over the roots and referents of a stream.
-- `w` is a setting, `fetched` are the octets that were fetched, `later` those that follow them, `s` is a state of the reader.
use Rattle.std.specs.Prelude.{◌≡◌, ℕ, ◌+◌, List, ◌++◌, length, drop, replicate}
use Rattle.nd_base.specs.declared.octets.Order.{Order}
use Rattle.nd_types.specs.Number.{AreOctets}
use Rattle.nd_value.specs.Deferral.{before_pipes}
use Rattle.nd_value.specs.Setting.{Setting, root_list, unread}
use Rattle.nd_value.specs.Tree.{Tree}
use Rattle.nd_grammar.specs.Reader.{Progress, pass_all}
use Rattle.nd_grammar.specs.Stream.{root_tests}
use Rattle.nd_grammar.specs.StreamReader.{Reading, ReadPipes, Found, graph_of, read_start, read_due, read_pipes}

-- what the reader gives of the roots that are no pipes, with the referents of their pointers
abbrev pub head : Setting → Order → List ℕ → Reading
head w order octets = read_due w order octets (length octets + before_pipes (root_list w) + 1) (read_start w order octets)

-- with so many steps left it comes from here to that
abbrev pub Comes : Setting → Order → List ℕ → Reading → Type 0
Comes w order octets s = (k : ℕ) × (head w order octets ≡ read_due w order octets k s)

-- The state is reached, whatever follows the octets fetched.
pub record Reached (w : Setting) (order : Order) (fetched : List ℕ) (s : Reading) : Type 0 where
  pub comes : (later : List ℕ) → AreOctets later → Comes w order (fetched ++ later) s

-- the agreements of the parameters, and the pipes, after roots and referents that were read
abbrev pub stream_after : Setting → Order → List ℕ → Reading → Found
stream_after w order octets s =
    let n : ℕ = before_pipes (root_list w) in
    let roots : List Tree = s.roots ++ replicate (length (drop n (root_list w))) unread in
    let tested : Progress = pass_all order octets (root_tests w (graph_of roots s.names) 0 (root_list w) roots) s.progress in
    let pipes : ReadPipes = read_pipes w order octets n (drop n (root_list w)) tested s.names in
    record { graph = graph_of (s.roots ++ pipes.roots) pipes.names; cuts = pipes.cuts; progress = pipes.progress }
