-- The elements of a pipe, chunk by chunk: where the decoder is at the beginning of a chunk that has elements, and what the plain reader reads of it.
-- `pipe` is the pipe's type, `elem` that of its elements, `done` are the elements of the chunks before, `n` is how many elements come after the
-- first.
use Rattle.std.specs.Prelude.{◌≡◌, ℕ, ◌+◌, suc, List, [], ◌∷◌, length, map, replicate, Some}
use Rattle.nd_base.specs.declared.octets.Order.{Order}
use Rattle.nd_types.specs.declared.types.Attr.{Attr}
use Rattle.nd_types.specs.declared.types.TypeId.{TypeId}
use Rattle.nd_types.specs.declared.types.TypeDef.TheVariants as def
use Rattle.nd_types.specs.Table.{Table}
use Rattle.nd_value.specs.declared.item.Home.{Home}
use Rattle.nd_value.specs.declared.item.Item.{Item}
use Rattle.nd_value.specs.Tree as tree
use Rattle.nd_value.specs.Tree.{Trees, node, flat, count, node_count, joined}
use Rattle.nd_grammar.specs.Entry.{EntryAt}
use Rattle.nd_grammar.specs.Reader.{Names, Progress, Read, ReadAll, read_list, read_in_place}
use Rattle.nd_grammar.specs.Refusal.{tested_at}
use Rattle.ndr_code.specs.Code.{place_at}
use Rattle.ndr_decoder_laws.specs.reader.Around.{Around, pointers}
use Rattle.ndr_decoder_laws.specs.declared.frame.Frame.TheVariants as frame
use Rattle.ndr_decoder_laws.specs.declared.first.First.TheVariants as first
use Rattle.ndr_decoder_laws.specs.steps.Steps.{State, begun, place_of, no_place}
use Rattle.ndr_decoder_laws.specs.steps.Good.{Told, owed}

-- the pipe as a node whose children are being read
abbrev pub in_chunk : ℕ → TypeId → Trees → ℕ → Around
in_chunk pipe elem done n = record {
  node = 0;
  of = Some (def.Pipe elem);
  label = tree.Pipe;
  done = done;
  next = 1 + node_count done;
  left = replicate n elem.0;
  typed = pipe;
  child = elem.0;
  before = replicate (count done) elem.0;
}

-- so many elements more, as the plain reader reads them, after those before
abbrev pub chunk_read : Order → Table → Home → TypeId → Trees → ℕ → Progress → Names → List ℕ → Read
chunk_read order table h elem done k p names octets =
    let kids : ReadAll = read_list table (read_in_place order octets table h 32 0) (replicate k elem.0) (1 + node_count done) p names in
    record { tree = node tree.Pipe (joined done kids.trees); progress = kids.progress; names = kids.names }

-- the state at the beginning of a chunk's elements: address 1, to which the last of them returns, is a `ret`
pub record IsChunkBegun (noted : List Item) (direct : ℕ) (order : Order) (fetched : List ℕ) (table : Table) (h : Home) (elem : TypeId) (done : Trees)
    (n : ℕ) (seen : List EntryAt) (names : Names) (s : State) : Type 0 where
  pub phase : s.phase ≡ begun
  pub max : s.max ≡ 0
  pub top : s.top ≡ frame.Elements n (place_at table elem.0) 1
  pub stack : s.stack ≡ frame.Home ∷ []
  pub nodes : s.nodes ≡ (tree.Pipe, count done + suc n) ∷ flat done
  pub own : s.own ≡ Some first.Other
  pub members : s.members ≡ []
  pub firsts : s.firsts ≡ []
  pub fresh : s.fresh ≡ map (owed table) (pointers table h (replicate (count done) elem.0) 1 done)
  -- the pipe itself has no count and no tag
  pub found : (a : Attr) → tested_at seen a h 0 ≡ place_of a s.max_at no_place
  pub reached : length fetched ≡ s.at
  pub told : Told noted direct order fetched h seen names s.cells s.numbers s.max_at (length s.nodes) []
