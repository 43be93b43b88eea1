-- Octets that are given to an end piece by piece.
-- `at` is the number of the end, `done` what it has taken, `rest` what is due, `e` an end.
use Rattle.std.proofs.Common.{◌≡◌, ◌∙◌, ap, sym, refl, subst, ℕ, zero, suc, List, [], ◌∷◌, ◌++◌, take, drop, length, Option, option_map, Some, None, slice_set, ◌+◌, ◌<◌, ◌≤◌, Result, Ok, Err, arith}
use Rattle.std.proofs.Common.{add-one, append_assoc}
use Rattle.std.specs.List.{slice_get}
use Rattle.std.specs.Result.{IsErrAnd}
use Rattle.std.proofs.Math.Seq.{take-append_seam}
use Rattle.std.proofs.lemmas.List.{append-nil, take-append-drop}
use Rattle.std.proofs.lemmas.Option.{same_Some}
use Rattle.nd_base.specs.Over.{Rose}
use Rattle.nd_types.specs.Table.{Table}
use Rattle.nd_value.specs.Tree.{Tree}
use Rattle.ndr_pipe.specs.Ends.{EndSeen, with_octets, HasFailed, change_at, FailsAt, IsOpenAt}
use Rattle.ndr_drain.specs.Drained.{line_of, lines}
use Rattle.ndr_drain.specs.Turns.{AreCut, AreGiven, IsPartWay}
use Rattle.ndr_drain.specs.declared.fault.GiveFault.{GiveFault}
use Rattle.ndr_drain.specs.declared.fault.GiveFault.TheVariants as give

-- ## One end

-- an end that is given nothing is as before
pub with_nothing : (e : EndSeen) → with_octets [] e ≡ e
with_nothing e = ap (λ t. let x : EndSeen = record e { taken = t } in x) (append-nil e.taken)

-- what is given in two pieces is given at once
pub with_twice : (a b : List ℕ) (e : EndSeen) → with_octets b (with_octets a e) ≡ with_octets (a ++ b) e
with_twice a b e = ap (λ t. let x : EndSeen = record e { taken = t } in x) (append_assoc e.taken a b)

-- ## Lists of ends

pub change_nothing : (i : ℕ) (ends : List EndSeen) → change_at i (with_octets []) ends ≡ ends
change_nothing i [] = refl
change_nothing zero (e ∷ es) = ap (λ x. x ∷ es) (with_nothing e)
change_nothing (suc i) (e ∷ es) = ap (λ l. e ∷ l) (change_nothing i es)

-- an end that is given the first 0 octets is as before
pub nothing_given : (i : ℕ) (octets : List ℕ) (ends : List EndSeen) → ends ≡ change_at i (with_octets (take 0 octets)) ends
nothing_given i octets ends = sym (change_nothing i ends)

pub change_twice : (i : ℕ) (a b : List ℕ) (ends : List EndSeen) → change_at i (with_octets b) (change_at i (with_octets a) ends) ≡ change_at i (with_octets (a ++ b)) ends
change_twice i a b [] = refl
change_twice zero a b (e ∷ es) = ap (λ x. x ∷ es) (with_twice a b e)
change_twice (suc i) a b (e ∷ es) = ap (λ l. e ∷ l) (change_twice i a b es)

-- the end that was changed
pub changed_there : (i : ℕ) (f : EndSeen → EndSeen) (ends : List EndSeen) → slice_get (change_at i f ends) i ≡ option_map f (slice_get ends i)
changed_there i f [] = refl
changed_there zero f (e ∷ es) = refl
changed_there (suc i) f (e ∷ es) = changed_there i f es

-- what an end was does not count once it is set
set_over : (i : ℕ) (f : EndSeen → EndSeen) (x : EndSeen) (ends : List EndSeen) → slice_set (change_at i f ends) i x ≡ slice_set ends i x
set_over i f x [] = refl
set_over zero f x (e ∷ es) = refl
set_over (suc i) f x (e ∷ es) = ap (λ l. e ∷ l) (set_over i f x es)

-- an end that is given octets stays open
open_given : (ends : List EndSeen) (at : ℕ) (octets : List ℕ) → IsOpenAt ends at → IsOpenAt (change_at at (with_octets octets) ends) at
open_given ends at octets (e, there, o) = (with_octets octets e, changed_there at (with_octets octets) ends ∙ ap (option_map (with_octets octets)) there, o)

-- ## Piece by piece

-- at the beginning all is due
pub at_start : (ends : List EndSeen) (at : ℕ) (octets : List ℕ) → IsOpenAt ends at → IsPartWay ends ends at octets octets
at_start ends at octets o = record { done = []; given = sym (change_nothing at ends); split = refl; still_open = o }

-- one piece more was given
piece_given : (before now later : List EndSeen) (at : ℕ) (octets piece rest : List ℕ) → IsPartWay before now at octets (piece ++ rest)
    → later ≡ change_at at (with_octets piece) now → IsPartWay before later at octets rest
piece_given before now later at octets piece rest w h = record {
  done = w.done ++ piece;
  given = h ∙ ap (change_at at (with_octets piece)) w.given ∙ change_twice at w.done piece before;
  split = w.split ∙ sym (append_assoc w.done piece rest);
  still_open = let P : List EndSeen → Type 0 = λ l. IsOpenAt l at in subst P (sym h) (open_given now at piece w.still_open);
}

-- what was given and a prefix of the next piece are a prefix of all
front : (octets done piece rest : List ℕ) (cut : ℕ) → octets ≡ done ++ (piece ++ rest) → take (length (done ++ take cut piece)) octets ≡ done ++ take cut piece
front octets done piece rest cut h =
    let xs : List ℕ = done ++ take cut piece in
    let e : octets ≡ xs ++ (drop cut piece ++ rest) =
    h ∙ ap (λ l. done ++ (l ++ rest)) (sym (take-append-drop cut piece)) ∙ ap (λ l. done ++ l) (append_assoc (take cut piece) (drop cut piece) rest)
    ∙ sym (append_assoc done (take cut piece) (drop cut piece ++ rest)) in
    ap (take (length xs)) e ∙ take-append_seam xs (drop cut piece ++ rest)

none_there : {x : EndSeen} → None ≡ Some x → ⊥
none_there h = cc

failed_over : (x was is : EndSeen) (done piece octets : List ℕ) (n : ℕ) → with_octets done x ≡ was → (f : HasFailed was is piece)
    → take n octets ≡ done ++ take f.cut piece → HasFailed x is octets
failed_over x was is done piece octets n e f h = record {
  cut = n;
  taken = f.taken ∙ ap (λ y. y.taken ++ take f.cut piece) (sym e) ∙ append_assoc x.taken done (take f.cut piece) ∙ ap (λ l. x.taken ++ l) (sym h);
  is_shown = f.is_shown ∙ ap (λ y. y.is_shown) (sym e);
  finished = f.finished;
  risen = let P : EndSeen → Type 0 = λ y. Rose y.faults is.faults in subst P (sym e) f.risen;
  later = let P : EndSeen → Type 0 = λ y. y.faults ≤ is.faults in subst P (sym e) f.later;
}

-- where a piece is cut all is cut
cut_at : (before now later : List EndSeen) (at : ℕ) (octets piece rest : List ℕ) (fault : GiveFault) → IsPartWay before now at octets (piece ++ rest)
    → AreCut now later at piece fault → AreCut before later at octets fault
cut_at before now later at octets piece rest give.Memory w (cut, h) = (
  length (w.done ++ take cut piece),
  h ∙ ap (change_at at (with_octets (take cut piece))) w.given ∙ change_twice at w.done (take cut piece) before
      ∙ ap (λ l. change_at at (with_octets l) before) (sym (front octets w.done piece rest cut w.split)),
)
cut_at before now later at octets piece rest give.End w h = go (slice_get before at) refl
  where
    go : (o : Option EndSeen) → slice_get before at ≡ o → FailsAt before later at octets
    go None e = absurd (none_there (sym (sym h.there ∙ ap (λ l. slice_get l at) w.given ∙ changed_there at (with_octets w.done) before ∙ ap (option_map (with_octets w.done)) e)))
    go (Some x) e =
        let is_x : with_octets w.done x ≡ h.was =
        same_Some _ _ (sym (ap (option_map (with_octets w.done)) e) ∙ sym (changed_there at (with_octets w.done) before) ∙ sym (ap (λ l. slice_get l at) w.given) ∙ h.there) in
        record {
          was = x;
          is = h.is;
          there = e;
          failed = failed_over x h.was h.is w.done piece octets (length (w.done ++ take h.failed.cut piece)) is_x h.failed (front octets w.done piece rest h.failed.cut w.split);
          set = h.set ∙ ap (λ l. slice_set l at h.is) w.given ∙ set_over at (with_octets w.done) h.is before;
        }

-- what is left is nothing, and the end fails where nothing is given
pub failed_at_end : (before now later : List EndSeen) (at : ℕ) (octets : List ℕ) → IsPartWay before now at octets [] → FailsAt now later at [] → AreCut before later at octets give.End
failed_at_end before now later at octets w h = cut_at before now later at octets [] [] give.End w h

-- ## Line by line

none_tree : {x : Tree} → None ≡ Some x → ⊥
none_tree h = cc

-- the lines of the elements from one on: its own, and those after it
next_line : (table : Table) (t : ℕ) (vs : List Tree) (at : ℕ) (v : Tree) → slice_get vs at ≡ Some v
    → lines table t (drop at vs) ≡ line_of table t v ++ lines table t (drop (suc at) vs)
next_line table t [] at v h = absurd (none_tree h)
next_line table t (x ∷ xs) zero v h = ap (λ y. line_of table t y ++ lines table t xs) (same_Some _ _ h)
next_line table t (x ∷ xs) (suc at) v h = next_line table t xs at v h

line_due : (table : Table) (t : ℕ) (vs : List Tree) (i : ℕ) (v : Tree) (before now : List EndSeen) (at : ℕ) (octets : List ℕ)
    → IsPartWay before now at octets (lines table t (drop i vs)) → slice_get vs i ≡ Some v
    → IsPartWay before now at octets (line_of table t v ++ lines table t (drop (suc i) vs))
line_due table t vs i v before now at octets w h = let P : List ℕ → Type 0 = λ l. IsPartWay before now at octets l in subst P (next_line table t vs i v h) w

-- one line more was given
pub line_given : (table : Table) (t : ℕ) (vs : List Tree) (i : ℕ) (v : Tree) (before now later : List EndSeen) (at : ℕ) (octets : List ℕ)
    → IsPartWay before now at octets (lines table t (drop i vs)) → slice_get vs i ≡ Some v → later ≡ change_at at (with_octets (line_of table t v)) now
    → IsPartWay before later at octets (lines table t (drop (i + 1) vs))
line_given table t vs i v before now later at octets w h g =
    let rest : List ℕ = lines table t (drop (suc i) vs) in
    let due : IsPartWay before now at octets (line_of table t v ++ rest) = line_due table t vs i v before now at octets w h in
    let P : ℕ → Type 0 = λ n. IsPartWay before later at octets (lines table t (drop n vs)) in
    subst P (sym (add-one i)) (piece_given before now later at octets (line_of table t v) rest due g)

-- where a line is cut, all lines are
pub line_cut : (table : Table) (t : ℕ) (vs : List Tree) (i : ℕ) (v : Tree) (before now later : List EndSeen) (at : ℕ) (octets : List ℕ) (fault : GiveFault)
    → IsPartWay before now at octets (lines table t (drop i vs)) → slice_get vs i ≡ Some v → AreCut now later at (line_of table t v) fault
    → AreCut before later at octets fault
line_cut table t vs i v before now later at octets fault w h g =
    cut_at before now later at octets (line_of table t v) (lines table t (drop (suc i) vs)) fault (line_due table t vs i v before now at octets w h) g

-- a fault that is handed on
pub handed_on : (before later : List EndSeen) (at : ℕ) (octets : List ℕ) (r : Result Unit GiveFault) (fault : GiveFault) → IsErrAnd r (λ x. x ≡ fault)
    → AreCut before later at octets fault → AreGiven before later at octets r
handed_on before later at octets (Ok u) fault e h = absurd e
handed_on before later at octets (Err x) fault e h = let P : GiveFault → Type 0 = λ y. AreCut before later at octets y in subst P (sym e) h

nothing_after : (table : Table) (t : ℕ) (vs : List Tree) (n : ℕ) → n ≡ length vs → lines table t (drop n vs) ≡ []
nothing_after table t [] zero e = refl
nothing_after table t [] (suc n) e = refl
nothing_after table t (v ∷ vs) zero e = absurd (omega (arith, e))
nothing_after table t (v ∷ vs) (suc n) e = nothing_after table t vs n (omega (arith, e))

-- after the last line nothing is left
pub no_line_due : (table : Table) (t : ℕ) (vs : List Tree) (n : ℕ) (before now : List EndSeen) (at : ℕ) (octets : List ℕ)
    → IsPartWay before now at octets (lines table t (drop n vs)) → n ≡ length vs → IsPartWay before now at octets []
no_line_due table t vs n before now at octets w e = let P : List ℕ → Type 0 = λ l. IsPartWay before now at octets l in subst P (nothing_after table t vs n e) w

-- an item within a list is there
pub is_there : (vs : List Tree) (i n : ℕ) → i < n → n ≡ length vs → slice_get vs i ≡ None → ⊥
is_there [] i n h e g = absurd (omega (arith, h, e))
is_there (v ∷ vs) zero n h e g = cc
is_there (v ∷ vs) (suc i) n h e g = is_there vs i (length vs) (omega (arith, h, e)) refl g
