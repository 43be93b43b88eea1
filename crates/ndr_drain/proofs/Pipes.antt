-- What chunks give to ends is what their pipes give.
-- `w` is a setting, `s` a spot, `ps` are chunks, `vs` the elements of the pipe at the spot that were given before, `es` the ends from that of the spot on.
use Rattle.std.proofs.Common.{◌≡◌, ◌∙◌, ap, sym, refl, subst, ℕ, zero, suc, ◌+◌, ◌-◌, ◌<◌, ◌≤◌, List, [], ◌∷◌, ◌++◌, length, drop, take, replicate, Bool, true, false, arith, append_assoc, ◌⊎◌, inl}
use Rattle.std.proofs.Common.{inr}
use Rattle.std.specs.List.{AllByRecursion}
use Rattle.std.proofs.lemmas.List.{take-append-drop, length-append, length-take-le}
use Rattle.std.proofs.Math.Seq.{take-append_seam, drop-append_seam}
use Rattle.nd_base.specs.declared.octets.Order.{Order}
use Rattle.nd_types.specs.Table.{Table}
use Rattle.nd_value.specs.declared.value.Graph.{Graph}
use Rattle.nd_value.specs.Tree.{Tree}
use Rattle.nd_value.specs.Setting.{Setting, root_list}
use Rattle.nd_value.specs.Deferral.{before_pipes}
use Rattle.nd_value.specs.Conforms.{Conforms}
use Rattle.ndr_pipe.specs.Ends.{EndSeen, with_octets, ended, change_at}
use Rattle.ndr_drain_laws.specs.parts.Parts.{Spot, Part, spot_after, after_all, first_spot, AreParts, HasEmptyPipes, empty_pipe, elem_at, pipes_of, pipes_by, with_pipes, without_pipes}
use Rattle.ndr_drain.specs.Drained.{line_of, lines, end_of_root, end_after, ends_after, given_pipes}
use Rattle.ndr_drain.proofs.Giving.{with_nothing, with_twice}
use Rattle.nd_value.proofs.SameCells.{back as same_items}
use Rattle.nd_value.proofs.FewRoots.{few_before_pipes}

-- ## The roots before the pipes

few_by : (b : Bool) (m n : ℕ) → m ≤ n → (elim b [ true ↦ 0 | false ↦ suc m ]) ≤ suc n
few_by true m n h = omega arith
few_by false m n h = omega (arith, h)

all_empty : (vs : List Tree) → AllByRecursion (λ v. v ≡ empty_pipe) vs → vs ≡ replicate (length vs) empty_pipe
all_empty [] h = refl
all_empty (v ∷ vs) h = ap (λ x. x ∷ vs) h.0 ∙ ap (λ l. empty_pipe ∷ l) (all_empty vs h.1)

front_length : (w : Setting) (g : Graph) → Conforms w g → length (take (before_pipes (root_list w)) g.roots) ≡ before_pipes (root_list w)
front_length w g c =
    let n : ℕ = before_pipes (root_list w) in
    let h : n ≤ length (root_list w) = few_before_pipes (root_list w) in
    let e : length g.roots ≡ length (root_list w) = c.all_roots in
    length-take-le n g.roots (omega (arith, h, e))

take_front : (n : ℕ) (xs ys : List Tree) → length xs ≡ n → take n (xs ++ ys) ≡ xs
take_front n xs ys h = let P : ℕ → Type 0 = λ k. take k (xs ++ ys) ≡ xs in subst P h (take-append_seam xs ys)

drop_front : (n : ℕ) (xs ys : List Tree) → length xs ≡ n → drop n (xs ++ ys) ≡ ys
drop_front n xs ys h = let P : ℕ → Type 0 = λ k. drop k (xs ++ ys) ≡ ys in subst P h (drop-append_seam xs ys)

-- the pipes of a graph with these pipes
pub pipes_are : (w : Setting) (g : Graph) (pipes : List Tree) → Conforms w g → drop (before_pipes (root_list w)) (with_pipes w g pipes).roots ≡ pipes
pipes_are w g pipes c = drop_front (before_pipes (root_list w)) (take (before_pipes (root_list w)) g.roots) pipes (front_length w g c)

-- what is kept is the whole graph without its pipes
pub kept_without : (w : Setting) (g : Graph) (pipes : List Tree) → HasEmptyPipes w g → Conforms w (with_pipes w g pipes) → Conforms w g → g ≡ without_pipes w (with_pipes w g pipes)
kept_without w g pipes e k c =
    let n : ℕ = before_pipes (root_list w) in
    let front : List Tree = take n g.roots in
    let f : length front ≡ n = front_length w g c in
    let all : length g.roots ≡ length (root_list w) = c.all_roots in
    let all' : length (front ++ pipes) ≡ length (root_list w) = k.all_roots in
    let sum : length (front ++ pipes) ≡ length front + length pipes = length-append front pipes in
    let split : front ++ drop n g.roots ≡ g.roots = take-append-drop n g.roots in
    let both : length (front ++ drop n g.roots) ≡ length front + length (drop n g.roots) = length-append front (drop n g.roots) in
    let whole : length (front ++ drop n g.roots) ≡ length g.roots = ap length split in
    let m : length (drop n g.roots) ≡ length pipes = omega (arith, f, all, all', sum, both, whole) in
    let G : List Tree → Graph = λ l. record { roots = l; cells = g.cells } in
    ap G (sym split ∙ ap (λ l. front ++ l) (all_empty (drop n g.roots) e) ∙ ap (λ j. front ++ replicate j empty_pipe) (m ∙ ap length (sym (pipes_are w g pipes c)))
    ∙ ap (λ l. l ++ replicate (length (drop n (front ++ pipes))) empty_pipe) (sym (take_front n front pipes f)))

-- ## Lines

lines_append : (table : Table) (t : ℕ) (vs us : List Tree) → lines table t (vs ++ us) ≡ lines table t vs ++ lines table t us
lines_append table t [] us = refl
lines_append table t (v ∷ vs) us = ap (λ l. line_of table t v ++ l) (lines_append table t vs us) ∙ sym (append_assoc (line_of table t v) (lines table t vs) (lines table t us))

-- the first of these ends has taken the lines of elements
abbrev begun : Setting → ℕ → List Tree → List EndSeen → List EndSeen
begun w root vs [] = []
begun w root vs (e ∷ es) = with_octets (lines w.table (elem_at w root) vs) e ∷ es

begun_none : (w : Setting) (root : ℕ) (es : List EndSeen) → begun w root [] es ≡ es
begun_none w root [] = refl
begun_none w root (e ∷ es) = ap (λ x. x ∷ es) (with_nothing e)

change_after : (front : List EndSeen) (i : ℕ) (f : EndSeen → EndSeen) (es : List EndSeen) → length front ≡ i → change_at i f (front ++ es) ≡ front ++ change_at 0 f es
change_after [] i f es h = ap (λ k. change_at k f es) (sym h)
change_after (x ∷ front) zero f es h = absurd (omega (arith, h))
change_after (x ∷ front) (suc i) f es h = ap (λ l. x ∷ l) (change_after front i f es (omega (arith, h)))

-- ## Chunk after chunk

-- What chunks from a spot on give to ends, where the ends before it are done with, and the next has taken the lines of some elements.
module _ (w : Setting) (order : Order) where
  abbrev Gives : Spot → List Part → List Tree → List EndSeen → List EndSeen → Type 0
  Gives s ps vs front es =
      ends_after w s ps (front ++ begun w s.root vs es) ≡ front ++ given_pipes w s.root (pipes_of vs ps) es

  abbrev AllGive : List Part → Type 0
  AllGive ps =
      (s : Spot) (vs : List Tree) (front es : List EndSeen) → AreParts w order s ps → length (root_list w) ≤ (after_all s ps).root
      → before_pipes (root_list w) ≤ s.root → length front ≡ s.root - before_pipes (root_list w) → length (root_list w) - s.root ≤ length es
      → ((vs ≡ []) ⊎ (s.root < length (root_list w))) → Gives s ps vs front es

  -- one chunk more in front
  one_part : (ps : List Part) → AllGive ps → (s : Spot) (k : ℕ) (us : List Tree) (vs : List Tree) (front es : List EndSeen)
      → s.root < length (root_list w) → AreParts w order (spot_after s k us) ps → length (root_list w) ≤ (after_all (spot_after s k us) ps).root
      → before_pipes (root_list w) ≤ s.root → length front ≡ s.root - before_pipes (root_list w) → length (root_list w) - s.root ≤ length es
      → ends_after w (spot_after s k us) ps (change_at (end_of_root w s.root) (end_after w s us) (front ++ begun w s.root vs es))
      ≡ front ++ given_pipes w s.root (pipes_by (λ l. pipes_of l ps) vs us) es
  one_part ps all s k us vs front [] r p a low f m = absurd (omega (arith, r, m))
  one_part ps all s k [] vs front (e ∷ es) r p a low f m =
      let x : EndSeen = ended (with_octets (lines w.table (elem_at w s.root) vs) e) in
      let next : Spot = spot_after s k [] in
      let moved : change_at (end_of_root w s.root) ended (front ++ begun w s.root vs (e ∷ es)) ≡ front ++ x ∷ es =
      change_after front (end_of_root w s.root) ended (begun w s.root vs (e ∷ es)) f in
      let again : front ++ x ∷ es ≡ (front ++ x ∷ []) ++ begun w (s.root + 1) [] es =
      sym (append_assoc front (x ∷ []) es) ∙ ap (λ l. (front ++ x ∷ []) ++ l) (sym (begun_none w (s.root + 1) es)) in
      let grown : length (front ++ x ∷ []) ≡ length front + 1 = length-append front (x ∷ []) in
      ap (ends_after w next ps) (moved ∙ again)
      ∙ all next [] (front ++ x ∷ []) es p a (omega (arith, low)) (omega (arith, grown, f, low)) (omega (arith, m, r)) (inl refl)
      ∙ append_assoc front (x ∷ []) (given_pipes w (s.root + 1) (pipes_of [] ps) es)
      ∙ ap (λ l. front ++ ended (with_octets (lines w.table (elem_at w s.root) l) e) ∷ given_pipes w (s.root + 1) (pipes_of [] ps) es) (sym (same_items vs))
  one_part ps all s k (u ∷ us) vs front (e ∷ es) r p a low f m =
      let t : ℕ = elem_at w s.root in
      let next : Spot = spot_after s k (u ∷ us) in
      let moved : change_at (end_of_root w s.root) (with_octets (lines w.table t (u ∷ us))) (front ++ begun w s.root vs (e ∷ es))
      ≡ front ++ with_octets (lines w.table t (u ∷ us)) (with_octets (lines w.table t vs) e) ∷ es =
      change_after front (end_of_root w s.root) (with_octets (lines w.table t (u ∷ us))) (begun w s.root vs (e ∷ es)) f in
      let again : front ++ with_octets (lines w.table t (u ∷ us)) (with_octets (lines w.table t vs) e) ∷ es ≡ front ++ begun w s.root (vs ++ u ∷ us) (e ∷ es) =
      ap (λ y. front ++ y ∷ es) (with_twice (lines w.table t vs) (lines w.table t (u ∷ us)) e ∙ ap (λ l. with_octets l e) (sym (lines_append w.table t vs (u ∷ us)))) in
      ap (ends_after w next ps) (moved ∙ again) ∙ all next (vs ++ u ∷ us) front (e ∷ es) p a low f m (inr r)

  all_give : (ps : List Part) → AllGive ps
  all_give [] s vs front es p a low f m (inl e) =
      let P : List Tree → Type 0 = λ l. Gives s [] l front es in
      subst P (sym e) (ap (λ l. front ++ l) (begun_none w s.root es))
  all_give [] s vs front es p a low f m (inr r) = absurd (omega (arith, a, r))
  all_give (q ∷ ps) s vs front es p a low f m c = one_part ps (all_give ps) s (length q.octets) q.elements vs front es p.0.pipe_left p.1 a low f m

-- chunks up to the end of every pipe give the pipes that they make
pub give_pipes : (w : Setting) (order : Order) (head : List ℕ) (g : Graph) (parts : List Part) (ends : List EndSeen) → Conforms w g → AreParts w order (first_spot w head) parts
    → length (root_list w) ≤ (after_all (first_spot w head) parts).root → length (root_list w) - before_pipes (root_list w) ≤ length ends
    → ends_after w (first_spot w head) parts ends
    ≡ given_pipes w (before_pipes (root_list w)) (drop (before_pipes (root_list w)) (with_pipes w g (pipes_of [] parts)).roots) ends
give_pipes w order head g parts ends c p all many =
    let n : ℕ = before_pipes (root_list w) in
    let s : Spot = first_spot w head in
    ap (ends_after w s parts) (sym (begun_none w n ends))
    ∙ all_give w order parts s [] [] ends p all (omega arith) (omega arith) many (inl refl)
    ∙ ap (λ l. given_pipes w n l ends) (sym (pipes_are w g (pipes_of [] parts) c))
