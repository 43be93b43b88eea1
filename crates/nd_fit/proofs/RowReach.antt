-- The cells that a walk meets, and marks.
-- `old` and `new` are what is left of a walk before and after, `xs` the cells that a node names, `ms` are marks.
use Rattle.std.proofs.Common.{◌≡◌, ℕ, ◌+◌, ◌<◌, suc, Bool, List, ◌∷◌, ◌++◌, length, flat_map, ap, sym, ◌∙◌, subst, arith}
use Rattle.nd_value.specs.Canon.{target}
use Rattle.nd_value.specs.Tree.{Trees, Label, Flat, flat, cell_in}
use Rattle.nd_value.specs.Names.{cells_in}
use Rattle.nd_fit.specs.Reach.{Search, note, HaveMarks}
use Rattle.nd_fit.proofs.Searches.{note-append, have_on, all_back, all_front}

-- what is left comes to what all came to
pub note_on : (old new : Trees) (xs : List ℕ) (s r all : Search) → cells_in old ≡ xs ++ cells_in new → r ≡ note xs s
    → note (cells_in old) s ≡ all → note (cells_in new) r ≡ all
note_on old new xs s r all e n h = ap (note (cells_in new)) n ∙ sym (note-append xs (cells_in new) s) ∙ ap (λ cs. note cs s) (sym e) ∙ h

pub marks_first : (ms : List Bool) (old new : Trees) (xs : List ℕ) → cells_in old ≡ xs ++ cells_in new → HaveMarks ms (cells_in old) → HaveMarks ms xs
marks_first ms old new xs e h = all_front (λ c. c < length ms) xs (cells_in new) (subst (HaveMarks ms) e h)

pub marks_rest : (ms ms' : List Bool) (old new : Trees) (xs : List ℕ) → cells_in old ≡ xs ++ cells_in new → length ms' ≡ length ms → HaveMarks ms (cells_in old) → HaveMarks ms' (cells_in new)
marks_rest ms ms' old new xs e l h = have_on (cells_in new) ms ms' l (all_back (λ c. c < length ms) xs (cells_in new) (subst (HaveMarks ms) e h))
