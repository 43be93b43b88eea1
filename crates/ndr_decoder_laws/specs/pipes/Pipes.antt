-- Where a decoder is in the pipes of a stream, and what it means to the plain reader, whatever octets follow.
-- `fetched` are the octets that were fetched, `noted` the items that were noted, `direct` is how many roots that are reference pointers were read,
-- `i` is the number of the pipe's root, `rs` are the roots after it, `roots` the values of those before it, `first` the names before all pipes.
use Rattle.std.specs.Prelude.{pos, ◌≡◌, ◌≤◌, ◌<◌, ℕ, ◌+◌, ◌*◌, suc, List, [], ◌∷◌, ◌++◌, length, replicate, Option, Some, None}
use Rattle.nd_base.specs.declared.octets.Order.{Order}
use Rattle.nd_types.specs.declared.types.Attr.{Attr}
use Rattle.nd_types.specs.declared.types.TypeId.{TypeId}
use Rattle.nd_types.specs.Number.{AreOctets, unsigned}
use Rattle.nd_types.specs.Roots.{Root}
use Rattle.nd_value.specs.declared.item.Home.{Home}
use Rattle.nd_value.specs.declared.item.Home.TheVariants as home
use Rattle.nd_value.specs.declared.item.Item.{Item}
use Rattle.nd_value.specs.declared.item.ItemKind.TheVariants as item
use Rattle.nd_value.specs.Setting.{Setting}
use Rattle.nd_value.specs.Tree as tree
use Rattle.nd_value.specs.Tree.{Tree, Trees, node, flat, count, node_count}
use Rattle.nd_grammar.specs.Entry.{EntryAt, Align, Chunk}
use Rattle.nd_grammar.specs.Reader.{Names, Progress}
use Rattle.nd_grammar.specs.Refusal.{tested_at}
use Rattle.nd_grammar.specs.StreamReader.{ReadPipe, graph_of, read_chunks, read_pipes, read_stream}
use Rattle.nd_grammar.specs.MadeTrees.{MadeTrees}
use Rattle.ndr_decoder_laws.specs.reader.Around.{going}
use Rattle.ndr_refs.specs.declared.referents.Known.{Known}
use Rattle.ndr_decoder_laws.specs.declared.frame.Frame.TheVariants as frame
use Rattle.ndr_decoder_laws.specs.declared.first.First.TheVariants as first_node
use Rattle.ndr_decoder_laws.specs.steps.Steps.{State, begun, place_of, no_place}
use Rattle.ndr_decoder_laws.specs.steps.Good.{Told}
use Rattle.ndr_decoder_laws.specs.steps.StepItems.{item_here}
use Rattle.ndr_decoder_laws.specs.stream.Between.{Between}
use Rattle.nd_grammar.specs.decoded.Needed.{IsNeeded}
use Rattle.ndr_decoder_laws.specs.pipes.Reading.{Reads, of_pipe, count_then, elements_then}

-- ## Where the decoder is

pub record Position : Type 0 where
  -- the place in the stream, and the entries so far
  pub at : ℕ
  pub seen : List EntryAt
  -- the reader's names; the types of all cells, and the numbers of full pointers, as the decoder keeps them
  pub names : Names
  pub cells : List ℕ
  pub numbers : List (ℕ × Known)

-- what is kept of the octets, whatever is read next
pub record Stands (w : Setting) (order : Order) (fetched : List ℕ) (noted : List Item) (direct : ℕ) (first : Names) (i : ℕ)
    (k : Position) : Type 0 where
  pub octets : AreOctets fetched
  pub reached : length fetched ≡ k.at
  -- of pipes from this one on nothing was read
  pub told : (j : ℕ) → i ≤ j → Told noted direct order fetched (home.Root j) k.seen k.names k.cells k.numbers None 0 []
  pub needed : IsNeeded w order fetched
  -- the reader names no cell in pipes
  pub cells_stay : (later : List ℕ) → AreOctets later → (read_stream w order (fetched ++ later)).graph.cells ≡ first.cells

-- ## Between two pipes

-- the reader comes to what these roots give, from the next pipe on
pub record ReadsPipes (w : Setting) (order : Order) (octets : List ℕ) (i : ℕ) (rs : List Root) (roots : List Tree) (p : Progress)
    (s : Names) : Type 0 where
  pub progress : (read_stream w order octets).progress ≡ (read_pipes w order octets i rs p s).progress
  pub graph : (read_stream w order octets).graph
      ≡ graph_of (roots ++ (read_pipes w order octets i rs p s).roots) (read_pipes w order octets i rs p s).names

pub record InPipes (w : Setting) (order : Order) (fetched : List ℕ) (noted : List Item) (direct : ℕ) (first : Names) (i : ℕ) (rs : List Root)
    (roots : List Tree) (k : Position) : Type 0 where
  pub stands : Stands w order fetched noted direct first i k
  pub reads : (later : List ℕ) → AreOctets later → ReadsPipes w order (fetched ++ later) i rs roots (going k.at k.seen) k.names

-- ## Within a pipe

-- what is left of the pipe where this is to be read, by all octets and by how many chunks may come after this one
abbrev pub Rest : Type 0
Rest = List ℕ → ℕ → ReadPipe

-- before a chunk; after its gap; after its count
abbrev pub at_chunk : Setting → Order → ℕ → TypeId → Trees → Position → Rest
at_chunk w order i elem done k octets more =
    read_chunks w order octets (suc more) (home.Root i) elem.0 (1 + node_count done) (going k.at k.seen) k.names

abbrev pub at_count : Setting → Order → ℕ → TypeId → Trees → Position → Rest
at_count w order i elem done k octets more = count_then w order octets more (home.Root i) elem.0 (1 + node_count done) (going k.at k.seen) k.names

abbrev pub at_elements : ℕ → Setting → Order → ℕ → TypeId → Trees → Position → Rest
at_elements n w order i elem done k octets more =
    elements_then w order octets more (home.Root i) elem.0 (1 + node_count done) n (going k.at k.seen) k.names

-- Of the pipe these elements were read, and this is left. After the count of a chunk so many chunks may come as there are four octets left, and
-- before it one more: `due` is 4 there, and else 0. `max_at` is what is kept of a maximum count, which no element has.
pub record InPipe (w : Setting) (order : Order) (fetched : List ℕ) (noted : List Item) (direct : ℕ) (first : Names) (i : ℕ) (rs : List Root)
    (roots : List Tree) (elem : TypeId) (done : Trees) (max_at : Option ℕ) (due : ℕ) (rest : Rest) (k : Position) : Type 0 where
  pub stands : Stands w order fetched noted direct first (i + 1) k
  pub told : Told noted direct order fetched (home.Root i) k.seen k.names k.cells k.numbers max_at (1 + node_count done) []
  pub found : (a : Attr) → tested_at k.seen a (home.Root i) 0 ≡ place_of a max_at no_place
  pub made : MadeTrees w.table (replicate (count done) elem.0) done
  pub reads : (later : List ℕ) → AreOctets later
      → (more : ℕ) × (length (fetched ++ later) < k.at + 4 * more + due)
      × Reads w order (fetched ++ later) i rs roots done (rest (fetched ++ later) more)

-- The state at the beginning of a chunk's elements, of which so many come after the first.
pub record OpensChunk (place n : ℕ) (done : Trees) (max_at : Option ℕ) (k : Position) (x : State) : Type 0 where
  pub pc : x.pc ≡ place
  pub phase : x.phase ≡ begun
  pub at : x.at ≡ k.at
  pub max : x.max ≡ 0
  pub max_at_is : x.max_at ≡ max_at
  pub top : x.top ≡ frame.Elements n place 1
  pub stack : x.stack ≡ frame.Home ∷ []
  pub nodes : x.nodes ≡ (tree.Pipe, count done + suc n) ∷ flat done
  pub own : x.own ≡ Some first_node.Other
  pub members : x.members ≡ []
  pub firsts : x.firsts ≡ []
  pub fresh : x.fresh ≡ []
  pub cells : x.cells ≡ k.cells
  pub numbers : x.numbers ≡ k.numbers

-- ## Where it is next

-- before the pipes
abbrev pub pipes_due : Between → List EntryAt → Names → Position
pipes_due b seen names = record { at = b.at; seen = seen; names = names; cells = b.cells; numbers = b.numbers }

-- after the gap before a count, and after the count, with its item
abbrev pub past_gap : ℕ → List ℕ → Position → Position
past_gap i os k =
    record {
      at = k.at + length os;
      seen = k.seen ++ record { at = k.at; entry = of_pipe (home.Root i) (Align 4) } ∷ [];
      names = k.names;
      cells = k.cells;
      numbers = k.numbers;
    }

abbrev pub past_count : Order → ℕ → List ℕ → Position → Position
past_count order i os k =
    record {
      at = k.at + 4;
      seen = k.seen ++ record { at = k.at; entry = of_pipe (home.Root i) (Chunk (unsigned order os)) } ∷ [];
      names = k.names;
      cells = k.cells;
      numbers = k.numbers;
    }

abbrev pub count_item : Order → ℕ → List ℕ → Position → List Item
count_item order i os k = item_here (home.Root i) k.at item.Chunk 4 (pos (unsigned order os)) 0 ∷ []

-- after the elements of a chunk, which end at a state
abbrev pub read_to : State → List EntryAt → Names → Position
read_to x seen names = record { at = x.at; seen = seen; names = names; cells = x.cells; numbers = x.numbers }

-- the children of a node
abbrev pub kids_of : Tree → Trees
kids_of (node l ks) = ks
