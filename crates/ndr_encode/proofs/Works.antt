-- What a work is for: the homes of the stream are there, their pieces can be written, and these are the octets that are chosen.
use Rattle.std.proofs.Common.{◌≡◌, ℕ, List, [], ◌∷◌, ◌++◌, length, get_or, ap, sym, ◌∙◌, subst, append-nil, arith}
use Rattle.std.specs.List.{AllByRecursion}
use Rattle.std.proofs.lemmas.Option.{same_Some}
use Rattle.nd_base.specs.declared.octets.Order.{Order}
use Rattle.nd_value.specs.declared.value.Graph.{Graph}
use Rattle.nd_value.specs.Conforms.{Conforms}
use Rattle.nd_value.specs.Fitting.{Fitting, IsFit}
use Rattle.nd_value.specs.Setting.{Setting}
use Rattle.nd_grammar.specs.Stream.{Chosen}
use Rattle.nd_grammar.specs.LegalSide.{IsLegalSide}
use Rattle.nd_flat.specs.Building.{HasHome}
use Rattle.ndr_code.specs.declared.instr.Instr.{Instr}
use Rattle.ndr_code.specs.Code.{code_of}
use Rattle.ndr_code.proofs.Parted.{pipes_last}
use Rattle.ndr_encoder_laws.specs.pieces.Pieces.{Piece, pieces_octets, pieces_end}
use Rattle.ndr_encoder_output.specs.Filling.{FitsPiece, FillCan}
use Rattle.ndr_encoder_laws.specs.chosen.Written.{turns_pieces, all_turns}
use Rattle.ndr_encoder_laws.proofs.chosen.Written.{chosen, ends}
use Rattle.ndr_encoder_value.specs.declared.turn.Turn.{Turn}
use Rattle.ndr_encoder_value.specs.Turns.{turn_pairs, written_turns}
use Rattle.ndr_encoder_value.proofs.Encoded.{all_there, turns_same, turns_fit}
use Rattle.ndr_encode.specs.Work.{WorkSeen, setting, HasLength, IsWorkFor, IsChosen}
use Rattle.ndr_encode.proofs.Lengths.{chosen_length}
use Rattle.nd_grammar.proofs.LegalSides.{operation_there}

there_of : (g : Graph) (ts : List Turn) → AllByRecursion (λ u. HasHome g u.0) (turn_pairs ts) → AllByRecursion (λ t. HasHome g t.home) ts
there_of g [] a = tt
there_of g (t ∷ ts) a = (a.0, there_of g ts a.1)

module _ (f : Fitting) (k : ℕ) (work : WorkSeen) (fit : IsFit f) (x : IsWorkFor f k work) where
  abbrev W : Setting
  W = setting f x.operation

  abbrev side : IsLegalSide W
  side = record { operations = f.interface.operations; legal = f.interface.legal; operation = operation_there f.interface.operations f.op x.operation x.is_there }

  conforms : Conforms W f.graph
  conforms = subst (λ o. Conforms (setting f o) f.graph) (same_Some _ _ (sym fit.is_there ∙ x.is_there)) fit.conforms

  abbrev C : List Instr
  C = code_of f.interface.types f.interface.operations

  -- the homes are there
  work_there : AllByRecursion (λ t. HasHome f.graph t.home) work.turns
  work_there = there_of f.graph work.turns (subst (AllByRecursion (λ u. HasHome f.graph u.0)) (sym x.turns) (all_there W side f.graph conforms f.op x.steps x.deferral))

  -- their pieces have the length of the work
  work_ends : pieces_end 0 (written_turns C work.chunk f.graph (turn_pairs work.turns)) ≡ work.length
  work_ends =
      ap (λ n. pieces_end 0 (written_turns C n f.graph (turn_pairs work.turns))) x.chunk ∙ ap (λ u. pieces_end 0 (written_turns C k f.graph u)) x.turns
      ∙ ap (pieces_end 0) (turns_same W side f.graph conforms (pipes_last W) k f.op x.is_there x.steps x.deferral x.some)
      ∙ ends W side f.graph conforms (pipes_last W) k f.op x.is_there x.steps x.deferral x.some ∙ sym x.length

  -- which is that of the octets that are chosen
  pub has_length : HasLength f k work.length
  has_length = record {
    many = λ order octets chosen. chosen_length W side f.graph conforms order k octets (chosen x.operation x.is_there) x.steps x.deferral ∙ sym x.length;
    within = x.within;
  }

  -- and can be written
  work_fits : AllByRecursion FitsPiece (written_turns C work.chunk f.graph (turn_pairs work.turns))
  work_fits =
      subst (λ n. AllByRecursion FitsPiece (written_turns C n f.graph (turn_pairs work.turns))) (sym x.chunk)
      (subst (λ u. AllByRecursion FitsPiece (written_turns C k f.graph u)) (sym x.turns)
      (turns_fit W side f.graph conforms (pipes_last W) k f.op x.is_there x.steps x.deferral x.some))

  abbrev ps : List Piece
  ps = written_turns C work.chunk f.graph (turn_pairs work.turns)

  -- what is written by these is what the work is for
  module _ (code : List Instr) (same : code ≡ C) (ts : List Turn) (turns_are : ts ≡ work.turns) (n : ℕ) (chunk_is : n ≡ work.chunk) where
    written_is : written_turns code n f.graph (turn_pairs ts) ≡ ps
    written_is =
        ap (λ q. written_turns q n f.graph (turn_pairs ts)) same ∙ ap (λ q. written_turns C n f.graph (turn_pairs q)) turns_are
        ∙ ap (λ q. written_turns C q f.graph (turn_pairs work.turns)) chunk_is

    pub turns_there : AllByRecursion (λ t. HasHome f.graph t.home) ts
    turns_there = subst (AllByRecursion (λ t. HasHome f.graph t.home)) (sym turns_are) work_there

    pub work_can : (out : List ℕ) → length out ≡ work.length → FillCan 0 out (written_turns code n f.graph (turn_pairs ts) ++ [])
    work_can out room =
        let e : pieces_end 0 ps ≡ work.length = work_ends in
        subst (λ q. FillCan 0 out (q ++ [])) (sym written_is) (subst (FillCan 0 out) (sym (append-nil ps)) (omega (arith, e, room), work_fits))

    pub work_long : (out : List ℕ) → length out ≡ work.length → pieces_end 0 (written_turns code n f.graph (turn_pairs ts)) ≡ length out
    work_long out room = ap (pieces_end 0) written_is ∙ work_ends ∙ sym room

    -- these are the octets that are chosen
    pub work_chosen : (order : Order) (numbers octets : List ℕ) → numbers ≡ work.numbers
        → octets ≡ pieces_octets order (λ c. get_or numbers c 0) 0 (written_turns code n f.graph (turn_pairs ts)) → IsChosen f order work.chunk octets
    work_chosen order numbers octets numbers_are e o there =
        let num : ℕ → ℕ = λ c. get_or work.numbers c 0 in
        let is : octets ≡ pieces_octets order num 0 (turns_pieces C k f.graph (all_turns W f.interface.operations f.op f.graph x.steps)) =
        e ∙ ap (λ q. pieces_octets order (λ c. get_or q c 0) 0 (written_turns code n f.graph (turn_pairs ts))) numbers_are
        ∙ ap (pieces_octets order num 0) written_is
        ∙ ap (λ m. pieces_octets order num 0 (written_turns C m f.graph (turn_pairs work.turns))) x.chunk
        ∙ ap (λ u. pieces_octets order num 0 (written_turns C k f.graph u)) x.turns
        ∙ ap (pieces_octets order num 0) (turns_same W side f.graph conforms (pipes_last W) k f.op x.is_there x.steps x.deferral x.some) in
        subst (λ q. Chosen (setting f q) order work.chunk f.graph octets) (same_Some _ _ (sym x.is_there ∙ there))
        (subst (λ m. Chosen W order m f.graph octets) (sym x.chunk)
        (subst (Chosen W order k f.graph) (sym is) (chosen W side f.graph conforms (pipes_last W) k f.op x.is_there x.steps x.deferral x.some order work.numbers x.numbers)))
