-- What the agreements of parameters are tried with, in what is kept of roots and cells.
-- `read` is what is kept of cells, `k` what is kept of a root.
use Rattle.std.specs.Prelude.{◌≡◌, ℕ, ℤ, Bool, true, false, if◌then◌else◌, List, [], ◌++◌, length, drop, replicate, Option, Some, None}
use Rattle.nd_base.specs.declared.octets.Order.{Order}
use Rattle.nd_value.specs.declared.item.Item.{Item}
use Rattle.nd_value.specs.Seen.{cell_number}
use Rattle.nd_value.specs.declared.value.Graph.{Graph}
use Rattle.nd_value.specs.Deferral.{before_pipes}
use Rattle.nd_value.specs.Setting.{Setting, root_list, unread}
use Rattle.nd_grammar.specs.declared.reason.Reason.{Reason}
use Rattle.nd_grammar.specs.Entry.{Entry, EntryAt}
use Rattle.nd_grammar.specs.Stream.{root_tests}
use Rattle.nd_grammar.specs.Reader.{Progress, pass_all}
use Rattle.nd_grammar.specs.StreamReader.{Reading, Found, ReadPipes, graph_of, read_pipes}
use Rattle.ndr_decoder_laws.specs.reader.Around.{going, stopped}
use Rattle.ndr_decoder_laws.specs.steps.Steps.{first_number, is_owing}
use Rattle.ndr_decoder_laws.specs.worklist.Reached.{head}
use Rattle.ndr_decoder_laws.specs.declared.kept.Kept.{Kept}
use Rattle.ndr_decoder_laws.specs.declared.kept.KeptRoot.{KeptRoot}
use Rattle.ndr_decoder_laws.specs.stream.Between.{Between, Keeps, kept_at}

-- the graph before its pipes are read, of which there are so many
abbrev pub with_pipes : Reading → ℕ → Graph
with_pipes s n = graph_of (s.roots ++ replicate n unread) s.names

-- the number that a home is, if its first node is kept and is one
abbrev pub kept_number : Option Kept → Option ℤ
kept_number None = None
kept_number (Some k) = first_number (Some k.first)

-- what is kept of the cell that a root names
abbrev pub kept_named : List (Option Kept) → Option ℕ → Option Kept
kept_named read None = None
kept_named read (Some c) = kept_at read c

-- the number that a root is, or with a star that in the cell that it names
abbrev pub root_number : List (Option Kept) → Bool → Option KeptRoot → Option ℤ
root_number read star None = None
root_number read false (Some k) = kept_number (Some k.own)
root_number read true (Some k) = kept_number (kept_named read (cell_number k.cell))

-- what the agreements of a root are about: of a pointer its referent, of a null pointer nothing
abbrev pub root_subject : List (Option Kept) → Option KeptRoot → Option Kept
root_subject read None = None
root_subject read (Some k) = if is_owing k.own.first then kept_named read (cell_number k.cell) else Some k.own

-- The reader passes these agreements, whatever octets follow, and what is kept stays right.
pub record TestsPass (w : Setting) (order : Order) (fetched : List ℕ) (noted : List Item) (direct : ℕ) (b : Between) (s : Reading)
    (seen : List EntryAt) (ms : List Entry) : Type 0 where
  pub after : List EntryAt
  pub goes : (later : List ℕ) → pass_all order (fetched ++ later) ms (going b.at seen) ≡ going b.at after
  pub keeps : Keeps w order fetched noted direct b s after []

-- It refuses one of them.
pub record TestsStop (w : Setting) (order : Order) (fetched : List ℕ) (noted : List Item) (direct : ℕ) (b : Between) (s : Reading)
    (seen : List EntryAt) (ms : List Entry) (why : ℕ × Reason) : Type 0 where
  pub after : List EntryAt
  pub stops : (later : List ℕ) → pass_all order (fetched ++ later) ms (going b.at seen) ≡ stopped b.at after why
  pub keeps : Keeps w order fetched noted direct b s after []

-- the agreements of the parameters
abbrev pub parameter_tests : Setting → Reading → List Entry
parameter_tests w s =
    let g : Graph = with_pipes s (length (drop (before_pipes (root_list w)) (root_list w))) in
    root_tests w g 0 (root_list w) g.roots

-- how far the reader comes before the pipes: over the roots that are no pipes, their referents, and the agreements of the parameters
abbrev pub head_read : Setting → Order → List ℕ → Progress
head_read w order octets = let s : Reading = head w order octets in pass_all order octets (parameter_tests w s) s.progress

-- what the reader finds of the pipes, after these roots
abbrev pub pipes_from : Setting → Order → List ℕ → Reading → Progress → Found
pipes_from w order octets s p =
    let n : ℕ = before_pipes (root_list w) in
    let pipes : ReadPipes = read_pipes w order octets n (drop n (root_list w)) p s.names in
    record { graph = graph_of (s.roots ++ pipes.roots) pipes.names; cuts = pipes.cuts; progress = pipes.progress }
