-- What reading one chunk of a pipe by itself comes to.
-- `w` is a setting, `s` the spot at which the chunk begins, `octets` are those that were fetched for it, `noted` the items that were noted, with the
-- nodes of the elements numbered from 1, `before` any octets that come before the place.
use Rattle.std.specs.Prelude.{◌≡◌, ◌≤◌, ℕ, ◌+◌, ◌*◌, suc, List, [], ◌∷◌, ◌++◌, length, Some, None}
use Rattle.nd_base.specs.declared.octets.Order.{Order}
use Rattle.nd_value.specs.declared.item.Item.{Item}
use Rattle.nd_value.specs.Setting.{Setting}
use Rattle.nd_value.specs.Tree as tree
use Rattle.nd_value.specs.Tree.{Tree}
use Rattle.nd_grammar.specs.declared.reason.Reason.{Reason}
use Rattle.nd_grammar.specs.Entry.{EntryAt}
use Rattle.nd_grammar.specs.Items.{but_gaps, items}
use Rattle.ndr_drain_laws.specs.parts.Parts.{BadPart, IsPart, IsPartThrough, Spot, after, part_items}
use Rattle.ndr_decoder_laws.specs.declared.first.First.TheVariants as first
use Rattle.ndr_decoder_laws.specs.declared.frame.Frame.TheVariants as frame
use Rattle.ndr_decoder_laws.specs.steps.Steps.{State, begun}
use Rattle.nd_grammar.specs.decoded.Verdict.{MayFollow, fetched_to}
use Rattle.ndr_drain_laws.specs.reader.PartReader.{moved_items}

-- The octets are read through some entries of the chunk, whose items were noted; there are no more items but gaps than octets.
pub record PartCut (w : Setting) (order : Order) (s : Spot) (octets : List ℕ) (noted : List Item) : Type 0 where
  pub earlier : List EntryAt
  pub through : IsPartThrough w order s octets earlier
  pub items_are : (before : List ℕ) → length before ≡ s.place → items order (before ++ octets) earlier ≡ moved_items s noted
  pub few : length (but_gaps noted) ≤ length octets

-- The octets are the count and these elements, whose items were noted.
pub record PartWhole (w : Setting) (order : Order) (s : Spot) (octets : List ℕ) (elements : List Tree) (noted : List Item) : Type 0 where
  pub read : IsPart w order s (record { octets = octets; elements = elements })
  pub items_are : (before : List ℕ) → length before ≡ s.place → part_items w order (before ++ octets) s elements ≡ moved_items s noted
  pub few_then : (after s (record { octets = octets; elements = elements })).node ≤ 32 *
      (after s (record { octets = octets; elements = elements })).place + 1
  pub cut : PartCut w order s octets noted

-- The octets are refused at a place and for a reason, whatever follows, and end with the refused entry. The items of the entries before it were
-- noted.
pub record PartRefused (w : Setting) (order : Order) (s : Spot) (octets : List ℕ) (noted : List Item) (place : ℕ) (why : Reason) : Type 0 where
  pub bad : BadPart w order s octets place why
  pub ends : s.place + length octets ≡ fetched_to why (s.place + length octets) bad.here
  pub items_are : (before : List ℕ) → length before ≡ s.place → items order (before ++ octets) bad.earlier ≡ moved_items s noted
  pub few : length (but_gaps noted) ≤ length octets
  pub stays : (more : List ℕ) → MayFollow why more → BadPart w order s (octets ++ more) place why

-- The state at the beginning of the elements, of which so many come after the first: at the run of the first, with the pipe as the only node.
pub record OpensPart (run c at : ℕ) (x : State) : Type 0 where
  pub pc : x.pc ≡ run
  pub phase : x.phase ≡ begun
  pub place : x.at ≡ at
  pub max : x.max ≡ 0
  pub max_at : x.max_at ≡ None
  pub top : x.top ≡ frame.Elements c run 1
  pub stack : x.stack ≡ frame.Home ∷ []
  pub nodes : x.nodes ≡ (tree.Pipe, suc c) ∷ []
  pub own : x.own ≡ Some first.Other
  pub members : x.members ≡ []
  pub firsts : x.firsts ≡ []
  pub fresh : x.fresh ≡ []
  pub cells : x.cells ≡ []
  pub numbers : x.numbers ≡ []
