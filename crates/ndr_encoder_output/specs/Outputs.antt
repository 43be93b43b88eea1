-- What an output comes to, and what it takes.
-- `can` says whether an output can take pieces, `whole` what it comes to if they follow; `ps`, `qs` and `rest` are pieces.
use Rattle.std.specs.Prelude.{◌≡◌, ℕ, List, ◌++◌}
use Rattle.ndr_encoder_laws.specs.pieces.Pieces.{Piece}

-- what an output comes to
pub record Whole : Type 0 where
  -- the place after all pieces
  pub end : ℕ
  -- the octets of an output that writes them
  pub octets : List ℕ
  -- the cells that pointers name, each with the address of a whole run, of an output that keeps them
  pub names : List (ℕ × ℕ)
  -- which octets an output writes to, and how many these are
  pub lent : ℕ
  pub room : ℕ

-- An output went from old to new: if qs follow now, it comes to what it came to if ps followed before; and it can take them if it could.
pub record Moves {S : Type 0} (can : S → List Piece → Type 0) (whole : S → List Piece → Whole) (old new : S) (ps qs : List Piece) : Type 0 where
  pub able : (rest : List Piece) → can old (ps ++ rest) → can new (qs ++ rest)
  pub same : (rest : List Piece) → whole new (qs ++ rest) ≡ whole old (ps ++ rest)

-- it can take these, and something after them
pub record Able {S : Type 0} (can : S → List Piece → Type 0) (s : S) (ps : List Piece) : Type 0 where
  pub rest : List Piece
  pub can_follow : can s (ps ++ rest)
