-- The end of a home's value: what is kept of all other homes is as it was.
use Rattle.std.proofs.Common.{◌≡◌, ◌<◌, ℕ, List, [], ◌++◌, length, Some, None, ap, sym, ◌∙◌, subst, arith}
use Rattle.nd_base.specs.declared.octets.Order.{Order}
use Rattle.nd_value.specs.declared.item.Home.{Home}
use Rattle.nd_value.specs.declared.item.Home.TheVariants as home
use Rattle.nd_value.specs.declared.item.Item.{Item}
use Rattle.nd_value.specs.Setting.{Setting, cell_home}
use Rattle.nd_value.specs.Deferral.{Pending, IsPlaced}
use Rattle.nd_value.specs.Tree as tree
use Rattle.nd_value.specs.Tree.{Tree}
use Rattle.nd_grammar.specs.Entry.{EntryAt}
use Rattle.nd_grammar.specs.Reader.{Names, Progress, Read, read_whole}
use Rattle.nd_grammar.specs.StreamReader.{Reading}
use Rattle.ndr_decoder_laws.specs.reader.Around.{going}
use Rattle.ndr_decoder_laws.specs.steps.Good.{Told, Whole, Kept as IsKept}
use Rattle.ndr_decoder_laws.specs.steps.Steps.{State}
use Rattle.ndr_decoder_laws.specs.stream.Added.{Added}
use Rattle.ndr_decoder_laws.specs.stream.Between.{Between, Keeps, IsUnread, IsKeptOf, AreKept}
use Rattle.ndr_decoder_laws.specs.declared.kept.Kept.{Kept}
use Rattle.ndr_decoder_laws.proofs.stream.Growing.{whole_adds}
use Rattle.ndr_decoder_laws.proofs.stream.Others.{AreSilent, others_silent, kept_later, roots_later, told_other}

-- a home that was read is not one of which nothing was
pub not_root : (s : Reading) (h : Home) → IsUnread s h → (i : ℕ) → i < length s.roots → home.Root i ≡ h → ⊥
not_root s (home.Root j) u i l e = let f : i ≡ j = cc in absurd (omega (arith, u))
not_root s (home.Cell c) u i l e = cc

pub not_cell : (s : Reading) (h : Home) → IsUnread s h → (c : ℕ) → IsPlaced s.done c → cell_home c ≡ h → ⊥
not_cell s (home.Root j) u c p e = cc
not_cell s (home.Cell d) u c p e = let f : c ≡ d.0 = cc in u (subst (IsPlaced s.done) f p)

module _ (w : Setting) (order : Order) (fetched more : List ℕ) (noted noted' : List Item) (direct direct' : ℕ) (b : Between) (s : Reading) (seen : List EntryAt) (ps : List Pending)
    (ag : Keeps w order fetched noted direct b s seen ps) (h : Home) (unread : IsUnread s h) (t : ℕ) (names : Names) (x : State)
    (is : Whole order (fetched ++ more) w.table h t noted' direct' (λ octets. read_whole order octets w.table h t (going b.at seen) names) x) where
  pub its : Added h (going b.at seen) (going x.at is.seen)
  its =
      subst (λ (u : Progress). Added h (going b.at seen) u) (ap (λ (r : Read). r.progress) (sym (is.is [])))
      (whole_adds order ((fetched ++ more) ++ []) w.table h t (going b.at seen) names)

  abbrev pub xs : List EntryAt
  xs = its.added

  pub seen_is : is.seen ≡ seen ++ xs
  seen_is = its.seen

  silent : (k : Home) → (k ≡ h → ⊥) → AreSilent k xs
  silent k f = others_silent k h xs its.own f

  told_now : Told noted' direct' order (fetched ++ more) h (seen ++ xs) is.names x.cells x.numbers x.max_at (length x.nodes) []
  told_now = subst (λ u. Told noted' direct' order (fetched ++ more) h u is.names x.cells x.numbers x.max_at (length x.nodes) []) seen_is is.told

  -- of a home of which still nothing was read
  pub told_then : (k : Home) → IsUnread s k → (k ≡ h → ⊥) → Told noted' direct' order (fetched ++ more) k is.seen is.names x.cells x.numbers None 0 []
  told_then k u f =
      subst (λ z. Told noted' direct' order (fetched ++ more) k z is.names x.cells x.numbers None 0 []) (sym seen_is)
      (told_other order fetched (fetched ++ more) k h seen xs s.names is.names b.cells x.cells b.numbers x.numbers x.max_at (length x.nodes) [] (ag.told k u) told_now (silent k f))

  pub roots_then : AreKept is.seen 0 s.roots b.roots
  roots_then =
      subst (λ z. AreKept z 0 s.roots b.roots) (sym seen_is)
      (roots_later seen xs 0 s.roots b.roots (λ j l. silent (home.Root j) (not_root s h unread j (omega arith))) ag.roots)

  pub cell_then : (c : ℕ) → IsPlaced s.done c → (v : Tree) (k : Kept) → IsKeptOf seen (cell_home c) v k → IsKeptOf is.seen (cell_home c) v k
  cell_then c p v k y = subst (λ z. IsKeptOf z (cell_home c) v k) (sym seen_is) (kept_later (cell_home c) v k seen xs (silent (cell_home c) (not_cell s h unread c p)) y)

  -- what is kept of the home itself
  pub own_then : (k : Kept) → x.own ≡ Some k.first → k.max_at ≡ x.max_at → IsKeptOf is.seen h is.v k
  own_then k e m =
      let (y, f, z) = is.first in
      let g : Some y ≡ Some k.first = sym f ∙ e in
      let same : y ≡ k.first = cc in
      subst (λ u. IsKept h is.seen u (tree.flat (tree.more is.v tree.none)) 0 k.first) (sym m)
      (subst (λ u. IsKept h is.seen x.max_at (tree.flat (tree.more is.v tree.none)) 0 u) same (subst (λ u. IsKept h is.seen x.max_at u 0 y) is.nodes z))
