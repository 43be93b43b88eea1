-- The end of a cell's value: what is kept is right with it.
use Rattle.std.proofs.Common.{◌≡◌, ◌≤◌, ◌<◌, ℕ, zero, suc, List, [], ◌∷◌, ◌++◌, length, Option, Some, None, refl, ap, sym, ◌∙◌, inl, inr, subst, arith, map}
use Rattle.std.proofs.lemmas.List.{map-append}
use Rattle.nd_base.specs.declared.octets.Order.{Order}
use Rattle.nd_types.specs.declared.types.Class.{Class}
use Rattle.nd_value.specs.declared.item.Home.{Home}
use Rattle.nd_value.specs.declared.item.Home.TheVariants as home
use Rattle.nd_value.specs.declared.item.Item.{Item}
use Rattle.nd_value.specs.declared.value.Graph.{Graph}
use Rattle.nd_value.specs.Setting.{Setting, cell_home, cell_at}
use Rattle.nd_value.specs.Deferral.{Pending, Due, IsPlaced, home_pointers}
use Rattle.nd_value.specs.Tree.{Tree}
use Rattle.nd_grammar.specs.Entry.{EntryAt}
use Rattle.nd_grammar.specs.Reader.{Names, Progress, read_whole}
use Rattle.nd_grammar.specs.StreamReader.{Reading, graph_of, with_value}
use Rattle.nd_grammar.proofs.reader.ReaderNames.{Extends}
use Rattle.ndr_decoder_laws.specs.reader.Around.{going}
use Rattle.ndr_decoder_laws.specs.steps.Good.{Told, Whole, owed}
use Rattle.ndr_decoder_laws.specs.steps.Steps.{State}
use Rattle.ndr_decoder_laws.specs.stream.Between.{Between, Keeps, IsUnread, IsKeptOf, AreKept, IsKeptHome, CellKept, CellFilled, cell_read, kept_at}
use Rattle.ndr_decoder_laws.specs.declared.kept.Kept.{Kept}
use Rattle.ndr_decoder_laws.specs.declared.kept.KeptRoot.{KeptRoot}
use Rattle.ndr_decoder_laws.proofs.stream.Cells.{value_same, value_other, told_valued, graph_filled}
use Rattle.ndr_decoder_laws.proofs.stream.Graphs.{values_stay}
use Rattle.ndr_decoder_laws.proofs.stream.Homes.{told_then, cell_then, own_then}

module _ (w : Setting) (order : Order) (fetched more : List ℕ) (noted noted' : List Item) (direct direct' : ℕ) (b : Between) (s : Reading) (seen : List EntryAt) (ps : List Pending)
    (kp : Keeps w order fetched noted direct b s seen ps) (c : ℕ) (free : ¬ IsPlaced s.done c) (t : ℕ) (names : Names) (x : State)
    (is : Whole order (fetched ++ more) w.table (cell_home c) t noted' direct' (λ octets. read_whole order octets w.table (cell_home c) t (going b.at seen) names) x)
    (ext : Extends s.names is.names) (above : 0 < c) (there : c ≤ length is.names.cells) where
  -- the value of a cell that was read before
  cell_stays : (d : ℕ) → cell_at (graph_of s.roots is.names) d ≡ cell_at (graph_of s.roots s.names) d
  cell_stays zero = refl
  cell_stays (suc j) = values_stay s.names is.names ext j

  module _ (roots : List Tree) (kept_roots : List KeptRoot) (longer : length s.roots ≤ length roots) (are : AreKept is.seen 0 roots kept_roots) (class : Class) (due : List Due) (p : Progress)
      (k : Kept) (own : IsKeptHome x k) (read : List (Option Kept)) (is_read : CellKept c k b.read read) (g : Graph) (filled : CellFilled roots c is.v x.cells b.graph g) where
    abbrev after : Reading
    after = record { roots = roots; done = (class, c) ∷ s.done; due = due; progress = p; names = with_value c is.v is.names }

    unread_before : (h : Home) → IsUnread after h → IsUnread s h × (h ≡ cell_home c → ⊥)
    unread_before (home.Root j) u = (omega (arith, u, longer), λ e. cc)
    unread_before (home.Cell d) u = (λ q. u (inr q), λ e. (let f : d.0 ≡ c = cc in u (inl f)))

    told_after : (h : Home) → IsUnread after h → Told noted' direct' order (fetched ++ more) h is.seen (with_value c is.v is.names) x.cells x.numbers None 0 []
    told_after h u =
        let (v, f) = unread_before h u in
        told_valued order (fetched ++ more) h is.seen is.names x.cells x.numbers None 0 [] c is.v
        (told_then w order fetched more noted noted' direct direct' b s seen ps kp (cell_home c) free t names x is h v f)

    not_this : (d : ℕ) → IsPlaced s.done d → d ≡ c → ⊥
    not_this d q e = free (subst (IsPlaced s.done) e q)

    read_after : (d : ℕ) → IsPlaced ((class, c) ∷ s.done) d → (y : Kept) × (kept_at read d ≡ Some y) × IsKeptOf is.seen (cell_home d) (cell_at (graph_of roots (with_value c is.v is.names)) d) y
    read_after d (inl e) =
        subst (λ u. (y : Kept) × (kept_at read u ≡ Some y) × IsKeptOf is.seen (cell_home u) (cell_at (graph_of roots (with_value c is.v is.names)) u) y) (sym e) (
          k,
          is_read.is,
          subst (λ v. IsKeptOf is.seen (cell_home c) v k) (sym (value_same roots c is.v is.names above there))
              (own_then w order fetched more noted noted' direct direct' b s seen ps kp (cell_home c) free t names x is k own.first own.max_at),
        )
    read_after d (inr q) =
        let (y, e, z) = kp.read d q in
        let n : d ≡ c → ⊥ = not_this d q in (
          y,
          is_read.others d n ∙ e,
          subst (λ v. IsKeptOf is.seen (cell_home d) v y) (sym (value_other roots s.roots c d is.v is.names n ∙ cell_stays d))
              (cell_then w order fetched more noted noted' direct direct' b s seen ps kp (cell_home c) free t names x is d q (cell_at (graph_of s.roots s.names) d) y z),
        )

    pub keeps_cell : Keeps w order (fetched ++ more) noted' direct' (cell_read b x kept_roots read g)
        (record { roots = roots; done = (class, c) ∷ s.done; due = due; progress = p; names = with_value c is.v is.names }) is.seen (home_pointers w.table (cell_home c) t is.v ++ ps)
    keeps_cell = record {
      at = is.reached;
      pending = ap (λ u. u ++ b.pending) is.pending ∙ ap (λ u. map (owed w.table) (home_pointers w.table (cell_home c) t is.v) ++ u) kp.pending
          ∙ sym (map-append (owed w.table) (home_pointers w.table (cell_home c) t is.v) ps);
      told = told_after;
      roots = are;
      read = read_after;
      not_read = λ d n. is_read.others d (λ e. n (inl e)) ∙ kp.not_read d (λ q. n (inr q));
      graph = graph_filled b.graph g roots s.roots c is.v x.cells is.names filled is.told.cells_are (λ d. ap (λ (u : Graph). cell_at u d) kp.graph ∙ sym (cell_stays d)) above there;
    }
