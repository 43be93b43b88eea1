-- Elements that go to an output, one after the other.
use Rattle.std.proofs.Common.{◌≡◌, ℕ, ◌+◌, ◌-◌, ◌<◌, suc, List, [], ◌++◌, length, ap, sym, ◌∙◌, subst, arith, append_assoc}
use Rattle.nd_value.specs.Tree.{Flat}
use Rattle.ndr_encoder_laws.specs.pieces.Pieces.{Piece}
use Rattle.ndr_encoder_output.specs.Outputs.{Whole, Moves, Able}
use Rattle.ndr_encoder_laws.specs.written.Run.{later, after}
use Rattle.ndr_encoder_output.specs.declared.members.StructRun.{StructRun}
use Rattle.ndr_encoder_output.specs.Structs.{members_of, struct_pieces}
use Rattle.ndr_encoder_value.specs.Elements.{elements_pieces}
use Rattle.ndr_encoder_value.proofs.Going.{moves_from, moves_to, moves_on, able_from, able_on}

module _ {S : Type 0} (can : S → List Piece → Type 0) (whole : S → List Piece → Whole) where
  -- more may follow
  moves_with : (old new : S) (ps qs : List Piece) → Moves can whole old new ps [] → Moves can whole old new (ps ++ qs) qs
  moves_with old new ps qs m = record {
    able = λ rest h. m.able (qs ++ rest) (subst (can old) (append_assoc ps qs rest) h);
    same = λ rest. m.same (qs ++ rest) ∙ ap (whole old) (sym (append_assoc ps qs rest));
  }

  able_part : (s : S) (ps qs : List Piece) → Able can s (ps ++ qs) → Able can s ps
  able_part s ps qs h = record { rest = qs ++ h.rest; can_follow = subst (can s) (append_assoc ps qs h.rest) h.can_follow }

  module _ (of : StructRun) (count turn : ℕ) (first fs : List Flat) (old mid : S) (low : turn < count)
      (went : Moves can whole old mid (elements_pieces of count first) (elements_pieces of (count - turn) fs)) where
    left_is : elements_pieces of (count - turn) fs ≡ struct_pieces of fs ++ elements_pieces of (count - (turn + 1)) (after (length (members_of of)) (later fs))
    left_is = let e : count - turn ≡ suc (count - (turn + 1)) = omega (arith, low) in ap (λ n. elements_pieces of n fs) e

    pub able_next : Able can old (elements_pieces of count first) → Able can mid (struct_pieces of fs)
    able_next h =
        able_part mid (struct_pieces of fs) _ (able_from can whole mid _ _ left_is (able_on can whole old mid _ _ went h))

    pub next_went : (new : S) (gs : List Flat) → gs ≡ after (length (members_of of)) (later fs) → Moves can whole mid new (struct_pieces of fs) []
        → Moves can whole old new (elements_pieces of count first) (elements_pieces of (count - (turn + 1)) gs)
    next_went new gs e m =
        let rest : List Piece = elements_pieces of (count - (turn + 1)) (after (length (members_of of)) (later fs)) in
        moves_to can whole old new _ rest _ (ap (elements_pieces of (count - (turn + 1))) (sym e))
        (moves_on can whole old mid new _ _ _ went (moves_from can whole mid new _ _ _ left_is (moves_with mid new (struct_pieces of fs) rest m)))
