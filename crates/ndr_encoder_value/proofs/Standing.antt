-- An output that stays as it is.
use Rattle.std.proofs.Common.{◌≡◌, List, sym, subst}
use Rattle.ndr_encoder_laws.specs.pieces.Pieces.{Piece}
use Rattle.ndr_encoder_output.specs.Outputs.{Whole, Moves, Able}

module _ {S : Type 0} (can : S → List Piece → Type 0) (whole : S → List Piece → Whole) where
  pub able_same : (old new : S) (ps us : List Piece) → new ≡ old → ps ≡ us → Able can old ps → Able can new us
  able_same old new ps us e h able = subst (λ s. Able can s us) (sym e) (subst (Able can old) h able)

  pub moves_same : (old mid new : S) (ps us qs : List Piece) → mid ≡ old → ps ≡ us → Moves can whole mid new us qs → Moves can whole old new ps qs
  moves_same old mid new ps us qs e h moves = subst (λ s. Moves can whole s new ps qs) e (subst (λ l. Moves can whole mid new l qs) (sym h) moves)
