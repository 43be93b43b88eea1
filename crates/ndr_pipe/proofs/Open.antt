-- Ends that are not finished, and one more.
use Rattle.std.proofs.Common.{◌≡◌, List, [], ◌∷◌, ◌++◌}
use Rattle.std.specs.Prelude.{false}
use Rattle.ndr_pipe.specs.Ends.{EndSeen, AreOpen}

pub all_open : (ends : List EndSeen) (e : EndSeen) → AreOpen ends → e.finished ≡ false → AreOpen (ends ++ e ∷ [])
all_open [] e all one = (one, tt)
all_open (x ∷ xs) e (first, more) one = (first, all_open xs e more one)
