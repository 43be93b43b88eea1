-- What is passed of a home's value up to its end comes after what was passed up to a state in the midst of it.
use Rattle.std.proofs.Common.{◌≡◌, ℕ, ◌+◌, map, List, ◌++◌, length, subst}
use Rattle.std.specs.List.{AllByRecursion}
use Rattle.nd_base.specs.declared.octets.Order.{Order}
use Rattle.nd_types.specs.declared.types.Field.{Field}
use Rattle.nd_types.specs.Table.{Table}
use Rattle.nd_value.specs.declared.item.Home.{Home}
use Rattle.nd_value.specs.declared.item.Item.{Item}
use Rattle.nd_value.specs.Agreement.{Agreement, member_agreements}
use Rattle.nd_value.specs.Tree.{Tree, node, is_pointer, node_count}
use Rattle.nd_value.proofs.Apart.{all_append}
use Rattle.nd_grammar.specs.Entry.{Entry, child_tests}
use Rattle.nd_grammar.specs.Reader.{Read, tree_nodes}
use Rattle.ndr_code.specs.declared.instr.Instr.{Instr}
use Rattle.ndr_decoder_laws.specs.reader.Around.{Around, going, finish, nodes_around}
use Rattle.ndr_decoder_laws.specs.reader.Points.{Point, hoisting, counting, called, due, opened, offset_read, text_offset, text_counted, tagged, between, checking, has, read_at}
use Rattle.ndr_decoder_laws.specs.steps.Spots.{Spot, ChecksLeft, no_check, at_member, own_tests_of}
use Rattle.ndr_decoder_laws.specs.steps.Good.{Good}
use Rattle.ndr_decoder_laws.specs.steps.Steps.{State}
use Rattle.ndr_decoder_laws.specs.stream.Added.{Added}
use Rattle.ndr_decoder_laws.proofs.stream.Growing.{OwnAt, added_twice, finish_adds, read_at_adds, own_tests_own, child_tests_own}

module _ (code : List Instr) (table : Table) (h : Home) where
  its_own : (t : Tree) (n : ℕ) (ags : List Agreement) → AllByRecursion (λ m. m.home ≡ h) (own_tests_of code table t h n ags)
  its_own (node l ks) n ags = own_tests_own (is_pointer l) h n (node l ks) ags

  checks_own : (f : Around) (members : List Field) (so_far : List (List Agreement)) (ms : List Entry) (checks : List Instr) → ChecksLeft code table h f members so_far ms checks
      → AllByRecursion (λ m. m.home ≡ h) ms
  checks_own f members so_far ms checks no_check = tt
  checks_own f members so_far ms checks (at_member xs ys x passed later g tried left a b c d) =
      (
      let ws : List Agreement = member_agreements f.done left in
      let others : List (List Agreement) = map (λ p. member_agreements f.done p.vars) later in
      let n : ℕ = f.node + 1 + node_count xs in
      all_append (λ m. m.home ≡ h) (own_tests_of code table x h n ws) (child_tests h others (n + tree_nodes x) ys) (its_own x n ws) (child_tests_own h others (n + tree_nodes x) ys))

module _ (order : Order) (octets : List ℕ) (code : List Instr) (table : Table) (h : Home) (m depth pc : ℕ) where
  own_at : (point : Point) → Spot code table h m depth pc point → OwnAt order octets table h m point
  own_at (hoisting t) s = tt
  own_at (counting t) s = tt
  own_at (called t) s = tt
  own_at (due t) s = tt
  own_at (opened t d) s = tt
  own_at (offset_read t d max elem o) s = tt
  own_at (text_offset t max) s = tt
  own_at (text_counted t max c) s = tt
  own_at (tagged t d form arms default z) s = tt
  own_at (between f) s = tt
  own_at (checking f so_far tests) (members, checks, is, left, run) = checks_own code table h f members so_far tests checks left
  own_at (has t v) s = tt

pub state_adds : (order : Order) (fetched : List ℕ) (code : List Instr) (table : Table) (h : Home) (own limit : ℕ) (noted : List Item) (direct : ℕ) (target : List ℕ → Read) (s : State)
    → (g : Good order fetched code table h own limit noted direct target s) → (later : List ℕ) → Added h (going s.at g.seen) (target (fetched ++ later)).progress
state_adds order fetched code table h own limit noted direct target s g later =
    let octets : List ℕ = fetched ++ later in
    let n : ℕ = length (nodes_around g.fs) in
    let r : Read = read_at order octets table h s.max g.depth g.point n (going s.at g.seen) g.names in
    subst (λ (u : Read). Added h (going s.at g.seen) u.progress) (g.rest later)
    (added_twice h (going s.at g.seen) r.progress (finish order octets table h s.max g.depth g.fs r).progress
    (read_at_adds order octets table h s.max g.depth g.point (own_at order octets code table h s.max g.depth s.pc g.point g.spot) n (going s.at g.seen) g.names)
    (finish_adds order octets table h s.max g.depth g.fs r))
