-- Where octets are refused, no first part of them is a stream of a conforming graph.
use Rattle.std.proofs.Common.{◌≡◌, ℕ, ◌+◌, ◌≤◌, List, [], ◌++◌, length, sym, arith, subst}
use Rattle.std.specs.List.{AllByRecursion}
use Rattle.nd_base.specs.declared.octets.Order.{Order}
use Rattle.nd_base.specs.declared.TheConstants.{STREAM_LIMIT}
use Rattle.nd_value.specs.declared.value.Graph.{Graph}
use Rattle.nd_value.specs.Setting.{Setting, root_list}
use Rattle.nd_value.specs.Conforms.{Conforms}
use Rattle.nd_value.proofs.Apart.{all_weaker}
use Rattle.nd_value.proofs.FewRoots.{few_before_pipes}
use Rattle.nd_grammar.specs.declared.reason.Reason.{Reason}
use Rattle.nd_grammar.specs.Entry.{size_at, end_to_end, full_cells}
use Rattle.nd_grammar.specs.LegalSide.{IsLegalSide}
use Rattle.nd_grammar.specs.Stream.{Represents, IsRendered}
use Rattle.nd_grammar.specs.Refusal.{Accepts, Bad}
use Rattle.nd_grammar.proofs.next.Spelt.{carried_on, carried_low, carried_one, cells_in, all_spelt_carried, spelt_in_more}
use Rattle.nd_grammar.proofs.next.NextStream.{IsLaidOut}
use Rattle.nd_grammar.proofs.LegalSides.{laid_out}
use Rattle.nd_grammar.proofs.legal.LegalPipes.{holds_no_pipe, plain_before}
use Rattle.nd_grammar.proofs.conforming.GoodEntries.{GoodEntry}
use Rattle.nd_grammar.proofs.conforming.GoodStream.{good_stream}
use Rattle.nd_grammar.proofs.conforming.Accepted.{accepted}
use Rattle.nd_grammar.proofs.OneRefusal.{bad_excludes}

module _ (w : Setting) (side : IsLegalSide w) (order : Order) where
  pub good : (g : Graph) → Conforms w g → (octets : List ℕ) → (r : Represents w order octets g) → AllByRecursion (GoodEntry g) r.entries
  good g c octets r =
      let laid : IsLaidOut w = laid_out w side in
      good_stream w (holds_no_pipe w.table side.operations side.legal) g c (plain_before w side) (few_before_pipes (root_list w)) laid.pipes r.entries r.stream

  -- the entries of a conforming graph's stream are accepted, whatever octets follow
  pub stream_accepted : (g : Graph) → Conforms w g → (part rest : List ℕ) → (r : Represents w order part g) → Accepts order (part ++ rest) [] (end_to_end 0 r.entries)
  stream_accepted g c part rest r =
      let cells : List ℕ = full_cells r.entries in
      let spelt : AllByRecursion (IsRendered order (carried_on r.numbering cells) (part ++ rest)) (end_to_end 0 r.entries) =
      all_spelt_carried order (part ++ rest) r.numbering cells (end_to_end 0 r.entries) (cells_in 0 r.entries cells (λ d m. m))
      (spelt_in_more order r.numbering part rest (end_to_end 0 r.entries) r.rendered) in
      let within : AllByRecursion (λ x. x.at + size_at x.at x.entry.kind ≤ STREAM_LIMIT) (end_to_end 0 r.entries) =
      all_weaker (IsRendered order r.numbering part) (λ x. x.at + size_at x.at x.entry.kind ≤ STREAM_LIMIT)
      (λ x k. shorter (x.at + size_at x.at x.entry.kind) (length part) k.0 r.within) (end_to_end 0 r.entries) r.rendered in
      accepted order (part ++ rest) g (carried_on r.numbering cells) (carried_low r.numbering cells r.is_numbering) (carried_one r.numbering cells r.is_numbering)
      [] tt 0 r.entries (good g c part r) spelt within
    where
      shorter : (a b : ℕ) → a ≤ b → b ≤ STREAM_LIMIT → a ≤ STREAM_LIMIT
      shorter a b h k = omega arith

  pub excluded : (octets : List ℕ) (place : ℕ) (why : Reason) → Bad w order octets place why → (part rest : List ℕ) → octets ≡ part ++ rest
      → (g : Graph) → Conforms w g → Represents w order part g → ⊥
  excluded octets place why b part rest e g c r =
      bad_excludes w side order octets place why b part rest e g c r (subst (λ u. Accepts order u [] (end_to_end 0 r.entries)) (sym e) (stream_accepted g c part rest r))
