-- What decoding gives back of what encoding wrote, and the other way round.
use Rattle.std.proofs.Common.{◌≡◌, ℕ, ◌≤◌, List, length, sym, ◌∙◌, subst, arith}
use Rattle.nd_base.specs.declared.octets.Order.{Order}
use Rattle.nd_value.specs.declared.value.Graph.{Graph}
use Rattle.nd_value.specs.Setting.{Setting}
use Rattle.nd_value.specs.Conforms.{Conforms}
use Rattle.nd_value.specs.Canon.{Same}
use Rattle.nd_grammar.specs.LegalSide.{IsLegalSide}
use Rattle.nd_grammar.specs.Stream.{Represents, Chosen}
use Rattle.nd_grammar.proofs.ReaderLaws.{one_beginning}
use Rattle.nd_grammar.proofs.ChosenRepresents.{chosen_represents, chosen_exists, chosen_alone}
use Rattle.nd_grammar.proofs.written.SameForms.{same_written}
use Rattle.text_grammar.specs.declared.TheConstants.{TEXT_LIMIT}
use Rattle.text_grammar.specs.Reads.{ReadsAs}
use Rattle.text_grammar.specs.Written.{IsText}
use Rattle.text_grammar.proofs.Stated.{one_graph}
use Rattle.value_text.proofs.PrintedReads.{printed_reads}
use Rattle.command_decode.specs.Decoded.{IsDecoding}
use Rattle.dceidl.specs.Input.{IsEncoding, IsMigration}
use Rattle.dceidl.proofs.Sides.{whole_begins}

-- graphs that conform have one text exactly if they are the same
abbrev pub HaveOneText : Type 0
HaveOneText =
    (w : Setting) (g h : Graph) (text other : List ℕ) → IsLegalSide w → Conforms w g → Conforms w h → IsText w g text → IsText w h other
    → (Same g h → text ≡ other) × (text ≡ other → Same g h)

module _ (w : Setting) (legal : IsLegalSide w) (order : Order) (chunk : ℕ) (text octets : List ℕ) (e : IsEncoding w order chunk text octets) where
  pub represented : 1 ≤ chunk → Represents w order octets e.graph
  represented some = chosen_represents w legal e.graph e.conforms order chunk (omega (arith, some)) octets e.written.chosen e.written.within

  -- what is decoded is the same graph
  pub same_graph : 1 ≤ chunk → (made : List ℕ) → (d : IsDecoding w order octets made) → Same e.graph d.graph
  same_graph some made d =
      (one_beginning w legal order octets (length octets) (length octets) e.graph d.graph
      (whole_begins w order octets e.graph (represented some) e.conforms) (whole_begins w order octets d.graph d.represents d.conforms)).1

  -- and its text is that of the graph
  pub same_text : HaveOneText → 1 ≤ chunk → (made other : List ℕ) → IsDecoding w order octets made → IsText w e.graph other → made ≡ other
  same_text texts some made other d printed = sym ((texts w e.graph d.graph other made legal e.conforms d.conforms printed d.is_text).0 (same_graph some made d))

  pub same_migration : HaveOneText → 1 ≤ chunk → (made other : List ℕ) → IsDecoding w order octets made → IsMigration w text other → made ≡ other
  same_migration texts some made other d m =
      same_text texts some made other d (subst (λ g. IsText w g other) (one_graph w text m.graph e.graph legal m.reads e.reads) m.printed)

module _ (w : Setting) (legal : IsLegalSide w) (order : Order) (octets text : List ℕ) (d : IsDecoding w order octets text) where
  pub reads_back : length text ≤ TEXT_LIMIT → ReadsAs w text d.is_text.canonical
  reads_back short = printed_reads w d.graph text d.is_text legal d.conforms short

  module _ (other : Order) (chunk : ℕ) (made : List ℕ) (e : IsEncoding w other chunk text made) where
    same_again : Same d.graph e.graph
    same_again = subst (Same d.graph) (one_graph w text d.is_text.canonical e.graph legal (reads_back e.reads.short) e.reads) d.is_text.is_canonical.same

    -- what is encoded of the text is chosen for the graph that was decoded
    pub chosen_again : Chosen w other chunk d.graph made
    chosen_again =
        let (own, chosen) = chosen_exists w other chunk d.graph d.conforms in
        subst (Chosen w other chunk d.graph) (same_written w legal d.graph e.graph d.conforms same_again other chunk own made chosen e.written.chosen) chosen

    pub represented_again : 1 ≤ chunk → Represents w other made d.graph
    represented_again some = chosen_represents w legal d.graph d.conforms other chunk (omega (arith, some)) made chosen_again e.written.within

  -- octets that were chosen come back
  pub octets_back : (chunk : ℕ) (made : List ℕ) → IsEncoding w order chunk text made → Chosen w order chunk d.graph octets → made ≡ octets
  octets_back chunk made e chosen = chosen_alone w order chunk d.graph made octets (chosen_again order chunk made e) chosen
