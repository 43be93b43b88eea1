-- What a decoder reports of octets: a graph that they represent, or the place at which they are refused, or how far they were read; what is left of
-- the source; and what the log of items and the count of steps have got.
-- `w` is a setting, `s` a source over the call, `t` the log and the count over the call, `fetched` are the octets that were fetched, `more` any
-- octets that follow them.
use Rattle.std.specs.Prelude.{◌≡◌, ◌≤◌, ℕ, ◌+◌, Bool, true, false, if◌then◌else◌, List, [], ◌∷◌, ◌++◌, length, filter, flat_map, Option, Some, None}
use Rattle.std.specs.List.{AllByRecursion}
use Rattle.std.specs.Io.KnownBytes.{Consumes, IsAtEnd}
use Rattle.nd_base.specs.declared.octets.Order.{Order}
use Rattle.nd_base.specs.Over.{SourceOver}
use Rattle.nd_types.specs.declared.types.Class.TheVariants.{Ref}
use Rattle.nd_types.specs.declared.types.TypeDef.{TypeDef}
use Rattle.nd_types.specs.declared.types.TypeDef.TheVariants as def
use Rattle.nd_types.specs.Table.{type_at}
use Rattle.nd_types.specs.Roots.{Root}
use Rattle.nd_value.specs.declared.value.Graph.{Graph}
use Rattle.nd_value.specs.declared.item.Item.{Item}
use Rattle.nd_value.specs.Canon.{IsCanon, target, has, Same}
use Rattle.nd_value.specs.Conforms.{Conforms, IsPartial}
use Rattle.nd_value.specs.Logged.{Logged}
use Rattle.nd_value.specs.Setting.{Setting, root_list}
use Rattle.nd_grammar.specs.declared.reason.Reason.{Reason}
use Rattle.nd_grammar.specs.declared.reason.Reason.TheVariants as reason
use Rattle.nd_grammar.specs.Refusal.{Bad, Accepts}
use Rattle.nd_grammar.specs.Entry.{Entry, EntryAt, end_to_end, size_at, full_cells}
use Rattle.nd_grammar.specs.Items.{but_gaps, item_count, items}
use Rattle.nd_grammar.specs.NextMark.{named_cell}
use Rattle.nd_grammar.specs.Stream.{Represents, IsRendered, IsNumbering, Stream}

-- ## The log and the steps

-- the log of items and the count of steps over a call
pub record DecodingSeen : Type 0 where
  pub log : Logged
  pub log_now : Logged
  pub steps : ℕ
  pub steps_now : ℕ

abbrev pub decoding_seen : Logged → Logged → ℕ → ℕ → DecodingSeen
decoding_seen log log_now steps steps_now = record { log = log; log_now = log_now; steps = steps; steps_now = steps_now }

-- a log that keeps items grew by these
abbrev pub with_items : List Item → Logged → Logged
with_items xs g = record { keeps = g.keeps; items = if g.keeps then g.items ++ xs else g.items }

abbrev pub HasNoted : List Item → DecodingSeen → Type 0
HasNoted xs t = t.log_now ≡ with_items xs t.log

-- ## Octets that were decoded

-- The octets represent the graph, which conforms and is its own canonical form. It is the one conforming graph that they represent, and no first part
-- of them represents another.
pub record RepresentsAlone (w : Setting) (order : Order) (octets : List ℕ) (g : Graph) : Type 0 where
  pub represented : Represents w order octets g
  pub conforms : Conforms w g
  pub canonical : IsCanon w g g
  pub one_graph : (h : Graph) → Conforms w h → Represents w order octets h → Same g h
  pub no_part : (part rest : List ℕ) (h : Graph) → octets ≡ part ++ rest → Conforms w h → Represents w order part h → rest ≡ []

-- The octets fetched are exactly those that the graph takes; the source told them first, if it tells its octets, and has the others left.
-- The items of the graph's stream were logged; each of them but the gaps is a step, and so is each cell.
pub record IsDecoded (w : Setting) (order : Order) (s : SourceOver) (taken : ℕ) (g : Graph) (t : DecodingSeen) : Type 0 where
  pub fetched : List ℕ
  pub left : Consumes s.left s.left_now fetched
  pub taken_is : length fetched ≡ taken
  pub graph : RepresentsAlone w order fetched g
  pub logged : HasNoted (items order fetched (end_to_end 0 graph.represented.entries)) t
  pub stepped : t.steps_now ≡ t.steps + item_count order fetched graph.represented.entries + length g.cells

-- ## How far reading came, at any fault

-- These entries are the first of a stream: some partial graph has a stream that begins with them, and the octets spell and accept each of them.
pub record IsReadThrough (w : Setting) (order : Order) (octets : List ℕ) (earlier : List EntryAt) : Type 0 where
  pub partial : Graph
  pub is_partial : IsPartial w partial
  pub entries : List Entry
  pub stream : Stream w partial entries
  pub later : List EntryAt
  pub split : end_to_end 0 entries ≡ earlier ++ later
  pub numbering : ℕ → ℕ
  pub is_numbering : IsNumbering numbering (full_cells entries)
  pub rendered : AllByRecursion (IsRendered order numbering octets) earlier
  pub accepted : Accepts order octets [] earlier

-- the cells of a list, each once, but those among others
abbrev pub once : List ℕ → List ℕ → List ℕ
once others [] = []
once others (c ∷ cs) = if has others c then once others cs else c ∷ once (c ∷ others) cs

-- the cells that the numbers of pointers among entries name, each once
abbrev pub cells_named : List EntryAt → List ℕ
cells_named xs = once [] (flat_map (λ x. target (named_cell x.entry.kind)) xs)

-- the roots that are reference pointers: each names a cell without a number
abbrev pub is_direct : Option TypeDef → Bool
is_direct (Some (def.Pointer Ref to)) = true
is_direct _ = false

abbrev pub direct_roots : Setting → List Root
direct_roots w = filter (λ r. is_direct (type_at w.table r.of)) (root_list w)

-- The steps are at most the items other than gaps that were read, the cells that the numbers among them name, and one cell for each root that is a
-- reference pointer. They are at most the octets that were fetched and the roots.
pub record IsCounted (w : Setting) (order : Order) (fetched : List ℕ) (earlier : List EntryAt) (t : DecodingSeen) : Type 0 where
  pub by_items : t.steps_now ≤ t.steps + length (but_gaps (items order fetched earlier)) + length (cells_named earlier) + length (direct_roots w)
  pub by_octets : t.steps_now ≤ t.steps + length fetched + length (root_list w)

-- Reading was cut off: the octets that were fetched were read through some entries, which were logged and counted.
pub record IsCutOff (w : Setting) (order : Order) (s : SourceOver) (t : DecodingSeen) : Type 0 where
  pub fetched : List ℕ
  pub left : Consumes s.left s.left_now fetched
  pub earlier : List EntryAt
  pub read : IsReadThrough w order fetched earlier
  pub logged : HasNoted (items order fetched earlier) t
  pub counted : IsCounted w order fetched earlier t

-- ## Octets that were refused

-- octets may follow those that were fetched, but not if the source had ended
abbrev pub MayFollow : Reason → List ℕ → Type 0
MayFollow reason.Truncated more = more ≡ []
MayFollow _ more = Unit {0}

-- Where the octets fetched end: with the refused entry. An entry past the limit of a stream is refused before anything of it is fetched, and one that
-- is not whole where the octets end. An agreement has no octets of its own.
abbrev pub fetched_to : Reason → ℕ → EntryAt → ℕ
fetched_to reason.TooLong n x = x.at
fetched_to reason.Truncated n x = n
fetched_to _ n x = x.at + size_at x.at x.entry.kind

-- The octets fetched are refused, and those that begin with them, at the same place and for the same reason, whatever follows. They end with the
-- refused entry. Everything before it was read, was logged and is counted.
pub record IsRefused (w : Setting) (order : Order) (s : SourceOver) (place : ℕ) (why : Reason) (t : DecodingSeen) : Type 0 where
  pub fetched : List ℕ
  pub left : Consumes s.left s.left_now fetched
  -- Truncated is answered only where the source has ended, and has nothing left
  pub ended : why ≡ reason.Truncated → s.ended_now ≡ true
  pub none_left : why ≡ reason.Truncated → IsAtEnd s.left_now
  pub bad : Bad w order fetched place why
  pub ends : length fetched ≡ fetched_to why (length fetched) bad.here
  pub logged : HasNoted (items order fetched bad.earlier) t
  pub counted : IsCounted w order fetched bad.earlier t
  pub stays : (more : List ℕ) → MayFollow why more → Bad w order (fetched ++ more) place why
  -- no first part of them represents a graph that conforms
  pub no_graph : (more : List ℕ) → MayFollow why more → (part rest : List ℕ) → fetched ++ more ≡ part ++ rest → (g : Graph) → Conforms w g
      → Represents w order part g → ⊥

-- ## Octets that the source did not give

-- Reading was cut off by the source, and the octets that were fetched are cut short where they end: the next entry lacks some of its own.
pub record IsUnread (w : Setting) (order : Order) (s : SourceOver) (t : DecodingSeen) : Type 0 where
  pub cut : IsCutOff w order s t
  pub short : Bad w order cut.fetched (length cut.fetched) reason.Truncated
  pub as_far : short.earlier ≡ cut.earlier
