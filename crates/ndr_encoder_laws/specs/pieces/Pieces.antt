-- What an encoder writes, piece by piece (C706 14.2 and 14.3). A piece has no place: places follow from those before it.
-- `n` is a number to whose multiple a gap leads, `p` a primitive, `z` its value, `c` the cell that a pointer names, `a` the address of a run,
-- `os` are octets, `x` is a piece, `at` its place.
use Rattle.std.specs.Prelude.{ℕ, ◌+◌, ℤ, pos, true, false, ◌==◌, List, [], ◌∷◌, ◌++◌, length, flat_map, replicate, Option, Some, None}
use Rattle.nd_base.specs.declared.octets.Order.{Order}
use Rattle.nd_types.specs.declared.types.Primitive.{Primitive}
use Rattle.nd_types.specs.declared.types.Primitive.TheVariants.{UnsignedLong}
use Rattle.nd_types.specs.Table.{width}
use Rattle.nd_types.specs.Number.{written, spelling}
use Rattle.nd_grammar.specs.Entry.{gap}
use Rattle.nd_grammar.specs.Stream.{number_of_cell, id_octets}

pub data Piece : Type 0 where
  -- zeros up to the next multiple
  Gap : (n : ℕ) → Piece
  -- a number of a primitive
  Figure : (p : Primitive) (z : ℤ) → Piece
  -- a pointer's number, and the address of the whole run of its referent's type
  Name : (c : Option ℕ) (a : ℕ) → Piece
  -- the octets of a text, and its terminator
  Raw : (os : List ℕ) → Piece
  -- a context handle
  Handle : (attributes : ℕ) (id : List ℕ) → Piece

-- a count, which is an unsigned long
abbrev pub four : ℕ → Piece
four v = Figure UnsignedLong (pos v)

-- a gap, left out for 1
abbrev pub gap_pieces : ℕ → List Piece
gap_pieces n = elim (n == 1) [ true ↦ [] | false ↦ Gap n ∷ [] ]

-- a number with the gap before it
abbrev pub number_pieces : Primitive → ℤ → List Piece
number_pieces p z = gap_pieces (width p) ++ Figure p z ∷ []

-- numbers of a primitive, one after the other
abbrev pub row_pieces : Primitive → List ℤ → List Piece
row_pieces p zs = flat_map (number_pieces p) zs

-- how many octets a piece has at a place
abbrev pub piece_size : ℕ → Piece → ℕ
piece_size at (Gap n) = gap at n
piece_size at (Figure p z) = width p
piece_size at (Name c a) = 4
piece_size at (Raw os) = length os + 1
piece_size at (Handle attributes id) = 20

-- the octets of a piece at a place, where cells have these numbers
abbrev pub piece_octets : Order → (ℕ → ℕ) → ℕ → Piece → List ℕ
piece_octets order numbering at (Gap n) = replicate (gap at n) 0
piece_octets order numbering at (Figure p z) = written order p z
piece_octets order numbering at (Name c a) = spelling order 4 (number_of_cell numbering c)
piece_octets order numbering at (Raw os) = os ++ 0 ∷ []
piece_octets order numbering at (Handle attributes id) = spelling order 4 attributes ++ id_octets order id

-- the place after pieces
abbrev pub pieces_end : ℕ → List Piece → ℕ
pieces_end at [] = at
pieces_end at (x ∷ xs) = pieces_end (at + piece_size at x) xs

-- the octets of pieces from a place on
abbrev pub pieces_octets : Order → (ℕ → ℕ) → ℕ → List Piece → List ℕ
pieces_octets order numbering at [] = []
pieces_octets order numbering at (x ∷ xs) = piece_octets order numbering at x ++ pieces_octets order numbering (at + piece_size at x) xs

-- a pointer that is not null: the cell that it names, with the address of the whole run of its referent's type
abbrev pub named_cell : Option ℕ → ℕ → List (ℕ × ℕ)
named_cell None a = []
named_cell (Some c) a = (c, a) ∷ []

abbrev pub piece_names : Piece → List (ℕ × ℕ)
piece_names (Name c a) = named_cell c a
piece_names x = []

-- what the pointers among pieces name, in their order
abbrev pub pieces_names : List Piece → List (ℕ × ℕ)
pieces_names [] = []
pieces_names (x ∷ xs) = piece_names x ++ pieces_names xs
