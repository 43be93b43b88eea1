-- Every cell that the reader makes is reached from a root.
use Rattle.std.proofs.Common.{◌≡◌, ℕ, ◌<◌, ◌≤◌, zero, suc, List, [], ◌∷◌, ◌++◌, length, Some, refl, ap, sym, ◌∙◌, inl, inr, ◌⊎◌, subst}
use Rattle.std.proofs.lemmas.Option.{same_Some}
use Rattle.std.proofs.lemmas.Bool.{cases_lt}
use Rattle.nd_value.specs.declared.value.Graph.{Graph}
use Rattle.nd_value.specs.Tree.{Tree, Referent}
use Rattle.nd_value.specs.Setting.{Setting, Among, root_list, unread, cell_home, cell_of_number}
use Rattle.nd_value.specs.Deferral.{Pending, home_pointers}
use Rattle.nd_value.specs.Conforms.{root_pointers, Reached, by_root, by_cell}
use Rattle.nd_value.proofs.Apart.{among_left, among_right}
use Rattle.nd_grammar.specs.Reader.{Names}
use Rattle.nd_grammar.specs.StreamReader.{graph_of, with_value}
use Rattle.nd_grammar.proofs.reader.ReaderNames.{cell_kept}
use Rattle.nd_grammar.specs.ReaderState.{cell_in, AllReached}
use Rattle.nd_grammar.proofs.reader.ReaderCells.{set_same, set_other, set_length, unread_pointers}

-- a cell by its number, in a graph of names
pub number_in : (roots : List Tree) (s : Names) (c : ℕ) → cell_of_number (graph_of roots s) c ≡ cell_in s.cells c
number_in roots s zero = refl
number_in roots s (suc i) = refl

module _ (w : Setting) where
  -- each pointer of one graph is one of the other
  pub record Keeps (g g' : Graph) : Type 0 where
    pub roots : (p : Pending) → Among (root_pointers w.table 0 (root_list w) g.roots) p → Among (root_pointers w.table 0 (root_list w) g'.roots) p
    pub cells : (b : ℕ) (x : Referent) → cell_of_number g b ≡ Some x → (p : Pending) → Among (home_pointers w.table (cell_home b) x.of x.val) p
        → (y : Referent) × (cell_of_number g' b ≡ Some y) × Among (home_pointers w.table (cell_home b) y.of y.val) p

  pub still_reached : (g g' : Graph) → Keeps g g' → {c : ℕ} → Reached w g c → Reached w g' c
  still_reached g g' k (by_root p m e) = by_root p (k.roots p m) e
  still_reached g g' k (by_cell {b = b} x p r e m f) =
      let (y, i, j) = k.cells b x e p m in
      by_cell y p (still_reached g g' k r) i j f

  -- names that grow by blank cells, and one cell that was blank gets a value
  keeps_set : (roots : List Tree) (s t : Names) (new : List Referent) → t.cells ≡ s.cells ++ new → (c : ℕ) (z : Referent) → cell_in s.cells c ≡ Some z → z.val ≡ unread → (v : Tree)
      → Keeps (graph_of roots s) (graph_of roots (with_value c v t))
  keeps_set roots s t new e c z ez blank v = record { roots = λ p m. m; cells = kept }
    where
      no_among : {X : Type 0} (xs : List X) (x : X) → xs ≡ [] → Among xs x → ⊥
      no_among xs x e m = subst (λ u. Among u x) e m

      kept : (b : ℕ) (x : Referent) → cell_of_number (graph_of roots s) b ≡ Some x → (p : Pending) → Among (home_pointers w.table (cell_home b) x.of x.val) p
          → (y : Referent) × (cell_of_number (graph_of roots (with_value c v t)) b ≡ Some y) × Among (home_pointers w.table (cell_home b) y.of y.val) p
      kept b x f p m =
          let f' : cell_in s.cells b ≡ Some x = sym (number_in roots s b) ∙ f in
          let g' : cell_in t.cells b ≡ Some x = ap (λ u. cell_in u b) e ∙ cell_kept s.cells new b x f' in
          let apart : c ≡ b → ⊥ = λ h. (
          let same : z ≡ x = same_Some _ _ (sym ez ∙ ap (cell_in s.cells) h ∙ f') in
          let u : x.val ≡ unread = ap (λ k. k.val) (sym same) ∙ blank in
          no_among (home_pointers w.table (cell_home b) x.of x.val) p (ap (home_pointers w.table (cell_home b) x.of) u ∙ unread_pointers w.table (cell_home b) x.of) m) in
          (x, number_in roots (with_value c v t) b ∙ set_other c b v t.cells apart ∙ g', m)

  -- a cell's value is read
  pub reached_set : (roots : List Tree) (s t : Names) (new : List Referent) → t.cells ≡ s.cells ++ new → (c : ℕ) (z : Referent) → 0 < c → c ≤ length s.cells → cell_in s.cells c ≡ Some z
      → z.val ≡ unread → (to : ℕ) → z.of ≡ to → (v : Tree)
      → ((k : ℕ) → length s.cells < k → k ≤ length t.cells → (x : Pending) × Among (home_pointers w.table (cell_home c) to v) x × (x.cell ≡ Some k))
      → AllReached w roots s → AllReached w roots (with_value c v t)
  reached_set roots s t new e c z low high ez blank to et v covered all k a b = go (cases_lt (length s.cells) k)
    where
      keeps : Keeps (graph_of roots s) (graph_of roots (with_value c v t))
      keeps = keeps_set roots s t new e c z ez blank v

      go : (length s.cells < k) ⊎ (k ≤ length s.cells) → Reached w (graph_of roots (with_value c v t)) k
      go (inr h) = still_reached (graph_of roots s) (graph_of roots (with_value c v t)) keeps (all k a h)
      go (inl h) =
          let l : k ≤ length t.cells = subst (λ u. k ≤ u) (set_length c v t.cells) b in
          let (p, m, f) = covered k h l in
          let there : cell_in t.cells c ≡ Some z = ap (λ u. cell_in u c) e ∙ cell_kept s.cells new c z ez in
          let is : cell_of_number (graph_of roots (with_value c v t)) c ≡ Some (record { of = z.of; val = v }) = number_in roots (with_value c v t) c ∙ set_same c v t.cells z there in
          let m' : Among (home_pointers w.table (cell_home c) z.of v) p = subst (λ u. Among (home_pointers w.table (cell_home c) u v) p) (sym et) m in
          by_cell (record { of = z.of; val = v }) p (still_reached (graph_of roots s) (graph_of roots (with_value c v t)) keeps (all c low high)) is m' f

  -- a root's value is read
  pub reached_root : (roots : List Tree) (s t : Names) (new : List Referent) → t.cells ≡ s.cells ++ new → (v : Tree) (more : List Pending)
      → root_pointers w.table 0 (root_list w) (roots ++ v ∷ []) ≡ root_pointers w.table 0 (root_list w) roots ++ more
      → ((k : ℕ) → length s.cells < k → k ≤ length t.cells → (x : Pending) × Among more x × (x.cell ≡ Some k))
      → AllReached w roots s → AllReached w (roots ++ v ∷ []) t
  reached_root roots s t new e v more er covered all k a b = go (cases_lt (length s.cells) k)
    where
      keeps : Keeps (graph_of roots s) (graph_of (roots ++ v ∷ []) t)
      keeps = record {
        roots = λ p m. subst (λ u. Among u p) (sym er) (among_left (root_pointers w.table 0 (root_list w) roots) more p m);
        cells = λ b x f p m. (x, number_in (roots ++ v ∷ []) t b ∙ ap (λ u. cell_in u b) e ∙ cell_kept s.cells new b x (sym (number_in roots s b) ∙ f), m);
      }

      go : (length s.cells < k) ⊎ (k ≤ length s.cells) → Reached w (graph_of (roots ++ v ∷ []) t) k
      go (inr h) = still_reached (graph_of roots s) (graph_of (roots ++ v ∷ []) t) keeps (all k a h)
      go (inl h) =
          let (p, m, f) = covered k h b in
          by_root p (subst (λ u. Among u p) (sym er) (among_right (root_pointers w.table 0 (root_list w) roots) more p m)) f

  -- roots without pointers are added
  pub reached_more : (roots later : List Tree) (s : Names) → root_pointers w.table 0 (root_list w) (roots ++ later) ≡ root_pointers w.table 0 (root_list w) roots
      → AllReached w roots s → AllReached w (roots ++ later) s
  reached_more roots later s e all k a b =
      still_reached (graph_of roots s) (graph_of (roots ++ later) s)
      (record {
        roots = λ p m. subst (λ u. Among u p) (sym e) m;
        cells = λ b x f p m. (x, number_in (roots ++ later) s b ∙ sym (number_in roots s b) ∙ f, m);
      })
      (all k a b)
