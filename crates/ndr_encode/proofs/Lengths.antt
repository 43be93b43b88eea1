-- How many octets are chosen for a graph.
-- `ps` are pieces, `num` is a numbering of cells.
use Rattle.std.proofs.Common.{◌≡◌, ◌∙◌, ℕ, ◌+◌, List, [], ◌∷◌, length, drop, sym, ap, arith, length-append}
use Rattle.std.specs.List.{AllByRecursion}
use Rattle.std.proofs.lemmas.List.{length-replicate}
use Rattle.nd_base.specs.declared.octets.Order.{Order}
use Rattle.nd_types.specs.Number.{spelling}
use Rattle.nd_types.proofs.NumberLaws.{spelling-length, written-length}
use Rattle.nd_value.specs.declared.value.Graph.{Graph}
use Rattle.nd_value.specs.Canon.{canonical_number, named_cells}
use Rattle.nd_value.specs.Conforms.{Conforms}
use Rattle.nd_value.specs.Deferral.{Step, Deferral, due_roots, before_pipes}
use Rattle.nd_value.specs.Setting.{Setting, root_list}
use Rattle.nd_value.proofs.DeferralLaws.{one_order}
use Rattle.nd_grammar.specs.Stream.{Chosen, pipe_cuts, number_of_cell, id_octets, representation}
use Rattle.nd_grammar.specs.Entry.{end_of, gap, Context}
use Rattle.nd_grammar.specs.LegalSide.{IsLegalSide}
use Rattle.nd_grammar.proofs.written.WrittenEntries.{octets_length}
use Rattle.ndr_encoder_laws.specs.pieces.Heads.{stream_pieces}
use Rattle.ndr_encoder_laws.specs.pieces.Pieces.{Piece, Gap, Figure, Name, Raw, Handle, piece_octets, piece_size, pieces_octets, pieces_end}
use Rattle.ndr_encoder_laws.proofs.pieces.Heads.{stream_octets, stream_end}
use Rattle.ndr_encoder_value.proofs.Fits.{Good}
use Rattle.ndr_encoder_value.proofs.GoodHomes.{stream_good}

module _ (order : Order) (num : ℕ → ℕ) where
  piece_length : (at : ℕ) (p : Piece) → Good p → length (piece_octets order num at p) ≡ piece_size at p
  piece_length at (Gap n) h = length-replicate (gap at n) 0
  piece_length at (Figure p z) h = written-length order p z
  piece_length at (Name c a) h = spelling-length order 4 (number_of_cell num c)
  piece_length at (Raw os) h = length-append os (0 ∷ []) ∙ omega arith
  piece_length at (Handle a id) h =
      let none = octets_length order num at (Context 0 id) (omega arith, h.1) in
      let zeros = spelling-length order 4 0 in
      let digits = spelling-length order 4 a in
      omega (arith, none, zeros, digits, length-append (spelling order 4 0) (id_octets order id), length-append (spelling order 4 a) (id_octets order id))

  pieces_length : (at : ℕ) (ps : List Piece) → AllByRecursion Good ps → at + length (pieces_octets order num at ps) ≡ pieces_end at ps
  pieces_length at [] a = omega arith
  pieces_length at (p ∷ ps) a =
      let own = piece_length at p a.0 in
      let others = pieces_length (at + piece_size at p) ps a.1 in
      omega (arith, own, others, length-append (piece_octets order num at p) (pieces_octets order num (at + piece_size at p) ps))

module _ (w : Setting) (side : IsLegalSide w) (g : Graph) (c : Conforms w g) (order : Order) (k : ℕ) (octets : List ℕ) (o : Chosen w order k g octets) where
  abbrev cuts : List (List ℕ)
  cuts = pipe_cuts k (drop (before_pipes (root_list w)) g.roots)

  abbrev the_end : List Step → ℕ
  the_end steps = end_of 0 (representation w g steps cuts)

  own_end : length octets ≡ the_end o.steps
  own_end =
      let num : ℕ → ℕ = canonical_number (named_cells w g o.steps) in
      let ps : List Piece = stream_pieces w g o.steps cuts in
      let many = pieces_length order num 0 ps (stream_good w side g c k o.steps o.deferral) in
      let zero_in : length (pieces_octets order num 0 ps) ≡ pieces_end 0 ps = omega (arith, many) in
      ap length (o.written ∙ stream_octets order num w g o.steps cuts) ∙ zero_in ∙ sym (stream_end w g o.steps cuts)

  -- they end where the stream ends
  pub chosen_length : (steps : List Step) → Deferral w g [] (due_roots 0 (before_pipes (root_list w))) steps → length octets ≡ the_end steps
  chosen_length steps d = own_end ∙ ap the_end (one_order w g o.deferral d)
