-- Elements of arrays, chunks of pipes, and what comes after a run.
use Rattle.std.proofs.Common.{◌≡◌, ℕ, ◌-◌, zero, suc, List, [], ◌∷◌, Option, Some, None, refl, ap, ap₂, sym, ◌∙◌}
use Rattle.nd_types.specs.declared.types.Primitive.{Primitive}
use Rattle.nd_value.specs.Tree.{Flat}
use Rattle.ndr_code.specs.declared.instr.Instr.{Instr}
use Rattle.ndr_encoder_laws.specs.pieces.Pieces.{Piece, Gap, four}
use Rattle.ndr_encoder_output.specs.Outputs.{Whole, Moves, Able}
use Rattle.ndr_encoder_laws.specs.declared.frames.Frame.{Frame}
use Rattle.ndr_encoder_laws.specs.written.Frames.{first_frame, rest_frames}
use Rattle.ndr_encoder_laws.specs.written.Run.{Rest, here, later, offset_in, elements, chunk_count, chunk_elements, chunk, back}
use Rattle.ndr_encoder_value.proofs.Going.{moves_from, moves_on, able_from, able_on}

-- the elements of a varying array, after its offset and its count
pub same_varying : (G : Rest) (row : Option Primitive) (offset count run to : ℕ) (frames : List Frame) (fs gs : List Flat)
    → offset ≡ offset_in (here fs).0 → count ≡ (here fs).1 → gs ≡ later fs
    → four (offset_in (here fs).0) ∷ four (here fs).1 ∷ elements G row (here fs).1 run to frames (later fs)
    ≡ four offset ∷ four count ∷ elements G row count run to frames gs
same_varying G row offset count run to frames fs gs a b e =
    ap₂ (λ x n. four x ∷ four n ∷ elements G row n run to frames (later fs)) (sym a) (sym b)
    ∙ ap (λ l. four offset ∷ four count ∷ elements G row count run to frames l) (sym e)

-- the last count of a pipe
chunk_last : (G : Rest) (row : Option Primitive) (k left run to : ℕ) (frames : List Frame) (fs : List Flat) → left ≡ 0
    → chunk G row k left run to frames fs ≡ Gap 4 ∷ four 0 ∷ G to frames fs
chunk_last G row k left run to frames fs e = ap (λ n. chunk G row k n run to frames fs) e

-- or one more chunk
chunk_more : (G : Rest) (row : Option Primitive) (k left count rest run to : ℕ) (frames : List Frame) (fs : List Flat) → (left ≡ 0 → ⊥) → count ≡ chunk_count k left
    → rest ≡ left - count → chunk G row k left run to frames fs ≡ Gap 4 ∷ four count ∷ chunk_elements G row count rest run to frames fs
chunk_more G row k zero count rest run to frames fs some e h = absurd (some refl)
chunk_more G row k (suc left) count rest run to frames fs some e h =
    ap (λ n. Gap 4 ∷ four n ∷ chunk_elements G row n (suc left - n) run to frames fs) (sym e)
    ∙ ap (λ n. Gap 4 ∷ four count ∷ chunk_elements G row count n run to frames fs) (sym h)

-- the innermost frame
popped : (frames more : List Frame) (f : Frame) → first_frame frames ≡ Some f → more ≡ rest_frames frames → frames ≡ f ∷ more
popped [] more f e h = let n : None ≡ Some f = e in cc
popped (g ∷ frames) more f e h = let s : Some g ≡ Some f = e in let same : g ≡ f = cc in ap₂ (λ x l. x ∷ l) same (sym h)

pub back_first : (G : Rest) (code : List Instr) (k : ℕ) (frames more : List Frame) (f : Frame) (fs : List Flat) → first_frame frames ≡ Some f → more ≡ rest_frames frames
    → back G code k frames fs ≡ back G code k (f ∷ more) fs
back_first G code k frames more f fs e h = ap (λ l. back G code k l fs) (popped frames more f e h)

pub back_none : (G : Rest) (code : List Instr) (k : ℕ) (frames : List Frame) (fs : List Flat) → first_frame frames ≡ None → back G code k frames fs ≡ []
back_none G code k [] fs e = refl
back_none G code k (f ∷ frames) fs e = let n : Some f ≡ None = e in cc

-- a chunk, or the last count, goes to an output
module _ {S : Type 0} (can : S → List Piece → Type 0) (whole : S → List Piece → Whole) where
  module _ (G : Rest) (row : Option Primitive) (k left run to : ℕ) (frames : List Frame) (fs : List Flat) where
    pub able_last : (old mid : S) → left ≡ 0 → ((qs : List Piece) → Moves can whole old mid (Gap 4 ∷ qs) qs)
        → Able can old (chunk G row k left run to frames fs) → Able can mid (four 0 ∷ G to frames fs)
    able_last old mid e gap h =
        able_on can whole old mid (Gap 4 ∷ four 0 ∷ G to frames fs) _ (gap (four 0 ∷ G to frames fs)) (able_from can whole old _ _ (chunk_last G row k left run to frames fs e) h)

    pub last_went : (old mid new : S) → left ≡ 0 → ((qs : List Piece) → Moves can whole old mid (Gap 4 ∷ qs) qs)
        → ((qs : List Piece) → Moves can whole mid new (four 0 ∷ qs) qs) → Moves can whole old new (chunk G row k left run to frames fs) (G to frames fs)
    last_went old mid new e gap zeros =
        moves_from can whole old new _ _ _ (chunk_last G row k left run to frames fs e)
        (moves_on can whole old mid new _ _ _ (gap (four 0 ∷ G to frames fs)) (zeros (G to frames fs)))

    module _ (count rest : ℕ) (some : left ≡ 0 → ⊥) (e : count ≡ chunk_count k left) (h : rest ≡ left - count) where
      pub able_count : (old mid : S) → ((qs : List Piece) → Moves can whole old mid (Gap 4 ∷ qs) qs)
          → Able can old (chunk G row k left run to frames fs) → Able can mid (four count ∷ chunk_elements G row count rest run to frames fs)
      able_count old mid gap able =
          able_on can whole old mid (Gap 4 ∷ four count ∷ chunk_elements G row count rest run to frames fs) _ (gap (four count ∷ chunk_elements G row count rest run to frames fs))
          (able_from can whole old _ _ (chunk_more G row k left count rest run to frames fs some e h) able)

      pub able_elements : (old mid new : S) → ((qs : List Piece) → Moves can whole old mid (Gap 4 ∷ qs) qs)
          → ((qs : List Piece) → Moves can whole mid new (four count ∷ qs) qs)
          → Able can old (chunk G row k left run to frames fs) → Able can new (chunk_elements G row count rest run to frames fs)
      able_elements old mid new gap counted able =
          able_on can whole mid new (four count ∷ chunk_elements G row count rest run to frames fs) _ (counted (chunk_elements G row count rest run to frames fs))
          (able_count old mid gap able)

      pub chunk_went : (old mid more new : S) (qs : List Piece) → ((qs : List Piece) → Moves can whole old mid (Gap 4 ∷ qs) qs)
          → ((qs : List Piece) → Moves can whole mid more (four count ∷ qs) qs)
          → Moves can whole more new (chunk_elements G row count rest run to frames fs) qs → Moves can whole old new (chunk G row k left run to frames fs) qs
      chunk_went old mid more new qs gap counted m =
          moves_from can whole old new _ _ _ (chunk_more G row k left count rest run to frames fs some e h)
          (moves_on can whole old mid new _ _ _ (gap (four count ∷ chunk_elements G row count rest run to frames fs))
          (moves_on can whole mid more new _ _ _ (counted (chunk_elements G row count rest run to frames fs)) m))
