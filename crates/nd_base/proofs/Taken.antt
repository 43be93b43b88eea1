-- Octets that were taken piece by piece.
use Rattle.std.proofs.Common.{◌≡◌, ◌∙◌, ◌≤◌, ◌+◌, ℕ, List, ◌++◌, length, take, Option, ap, sym}
use Rattle.std.proofs.KnownBytes.{Consumes-trans}
use Rattle.std.proofs.lemmas.List.{length-take-le, take-append-le}
use Rattle.std.specs.Io.KnownBytes.{Consumes}
use lib.Seq.{take-append-add}
use borrow.Rule.Slice.PartMut.{put_mid, post_of}

-- octets were taken, and then the first of a buffer
pub more_taken : (start old new : Option (List ℕ)) (before buf : List ℕ) (n : ℕ) → Consumes start old before → Consumes old new (take n buf)
    → Consumes start new (before ++ take n buf)
more_taken start old new before buf n first second = Consumes-trans start old new before (take n buf) first second

-- the front of a buffer of which a part was replaced, with the first octets of that part
pub came_behind : (at room n : ℕ) (xs ys : List ℕ) → at ≤ length xs → n ≤ length ys → take (at + n) (put_mid at room xs ys) ≡ take at xs ++ take n ys
came_behind at room n xs ys within few =
    let front : length (take at xs) ≡ at = length-take-le at xs within in
    ap (λ k. take (k + n) (put_mid at room xs ys)) (sym front) ∙ take-append-add (take at xs) (ys ++ post_of at room xs) n ∙ ap (λ zs. take at xs ++ zs) (take-append-le n ys (post_of at room xs) few)
