-- The pieces of the entries of a stream, and of values. A gap of 1 is none, and agreements have no octets.
-- `x` is a kind, `m` an entry, `t` a type's number, `l` a label, `ks` are its children, `e` is the type of a pipe's elements, `k` the count of a
-- chunk.
use Rattle.std.specs.Prelude.{ℕ, List, [], ◌∷◌, ◌++◌, replicate, Option, Some}
use Rattle.nd_types.specs.declared.types.TypeDef.{TypeDef}
use Rattle.nd_types.specs.declared.types.TypeDef.TheVariants as def
use Rattle.nd_types.specs.Table.{Table, type_at}
use Rattle.nd_value.specs.Tree as tree
use Rattle.nd_value.specs.Tree.{Tree, Trees, node, none, more, take_trees, drop_trees}
use Rattle.nd_value.specs.Nodes.{child_types}
use Rattle.nd_grammar.specs.Entry.{Kind, Entry, Align, Max, Offset, Actual, Chunk, Number, Num, Tag, Text, Context, Test, Unread, before_children}
use Rattle.ndr_code.specs.Code.{whole_at}
use Rattle.ndr_encoder_laws.specs.pieces.Pieces.{Piece, Gap, Figure, Name, Raw, Handle, four, gap_pieces}

abbrev pub piece_of : Table → Kind → List Piece
piece_of table (Align n) = gap_pieces n
piece_of table (Max v) = four v ∷ []
piece_of table (Offset t v) = four v ∷ []
piece_of table (Actual t offset limit v) = four v ∷ []
piece_of table (Chunk v) = four v ∷ []
piece_of table (Number class to c) = Name c (whole_at table to) ∷ []
piece_of table (Num p values z) = Figure p z ∷ []
piece_of table (Tag p values arms default z) = Figure p z ∷ []
piece_of table (Text os) = Raw os ∷ []
piece_of table (Context attributes id) = Handle attributes id ∷ []
piece_of table (Test attr wanted found) = []
piece_of table Unread = []

abbrev pub kinds_pieces : Table → List Kind → List Piece
kinds_pieces table [] = []
kinds_pieces table (x ∷ xs) = piece_of table x ++ kinds_pieces table xs

-- the pieces of entries
abbrev pub shown : Table → List Entry → List Piece
shown table [] = []
shown table (m ∷ ms) = piece_of table m.kind ++ shown table ms

-- the pieces of values of these types
abbrev pub values_pieces : Table → List ℕ → Trees → List Piece
values_pieces table types none = []
values_pieces table [] (more u us) = []
values_pieces table (t ∷ types) (more (node l ks) ts) =
    kinds_pieces table (before_children table t (type_at table t) l ks)
    ++ (values_pieces table (child_types (type_at table t) l ks) ks ++ values_pieces table types ts)

-- the pieces of the elements of a pipe in chunks of these counts, and of the last count, 0
abbrev pub chunks_pieces : Table → ℕ → List ℕ → Trees → List Piece
chunks_pieces table e [] ts = Gap 4 ∷ four 0 ∷ []
chunks_pieces table e (k ∷ cut) ts =
    Gap 4 ∷ four k ∷ (values_pieces table (replicate k e) (take_trees k ts) ++ chunks_pieces table e cut (drop_trees k ts))

-- the pieces of a pipe
abbrev pub pipe_pieces : Table → Option TypeDef → List ℕ → Tree → List Piece
pipe_pieces table (Some (def.Pipe elem)) cut (node tree.Pipe ks) = chunks_pieces table elem.0 cut ks
pipe_pieces table _ cut v = []
