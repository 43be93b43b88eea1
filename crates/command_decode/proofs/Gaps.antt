-- Gaps of octets that others follow.
-- `fetched` are octets and `more` those after them, `xs` are items or entries, `w` is a setting, `g` a graph.
use Rattle.std.proofs.Common.{◌≡◌, ◌∙◌, true, false, ℕ, ℤ, ◌+◌, ◌≤◌, zero, suc, List, [], ◌∷◌, ◌++◌, codes, decimal, length, Option, Some, None, refl, ap, ap₂, sym, append_assoc, append-nil}
use Rattle.std.specs.List.{AllByRecursion}
use Rattle.nd_base.specs.declared.octets.Order.{Order}
use Rattle.nd_value.specs.declared.item.Item.{Item}
use Rattle.nd_value.specs.declared.item.ItemKind.{ItemKind}
use Rattle.nd_value.specs.declared.item.ItemKind.TheVariants as kind
use Rattle.nd_value.specs.declared.value.Graph.{Graph}
use Rattle.nd_value.specs.Setting.{Setting}
use Rattle.nd_value.proofs.Apart.{all_append}
use Rattle.nd_grammar.specs.Entry.{EntryAt, size_at}
use Rattle.nd_grammar.specs.Items.{item_at, item_of, items}
use Rattle.nd_grammar.specs.Stream.{IsRendered, piece}
use Rattle.nd_grammar.proofs.next.Spelt.{piece_left}
use Rattle.ndr_explain.specs.Explained.{are_zero, explanation_over, filled, filled_gaps, gap_shown, item_head, its_octets, rest_over}
use Rattle.command_decode.specs.Decoded.{gaps_line}

module _ (fetched : List ℕ) where
  -- an item is within the octets
  abbrev pub IsWithin : Item → Type 0
  IsWithin x = x.at + x.len ≤ length fetched

  one_within : (x : EntryAt) (k : Option (ItemKind × ℤ)) → x.at + size_at x.at x.entry.kind ≤ length fetched → AllByRecursion IsWithin (item_at x k)
  one_within x None h = tt
  one_within x (Some k) h = (h, tt)

  -- so are the items of entries that the octets spell
  pub items_within : (order : Order) (numbering : ℕ → ℕ) (xs : List EntryAt) → AllByRecursion (IsRendered order numbering fetched) xs → AllByRecursion IsWithin (items order fetched xs)
  items_within order numbering [] r = tt
  items_within order numbering (x ∷ xs) r =
      all_append IsWithin (item_at x (item_of order x.entry.kind (piece fetched x.at x.entry.kind))) (items order fetched xs) (one_within x _ r.0.0) (items_within order numbering xs r.1)

  module _ (more : List ℕ) where
    same_octets : (x : Item) → IsWithin x → its_octets (fetched ++ more) x ≡ its_octets fetched x
    same_octets x h = piece_left x.at x.len fetched more h

    same_rest : (w : Setting) (g : Graph) (x : Item) (k : ItemKind) → IsWithin x → rest_over w g (fetched ++ more) k x ≡ rest_over w g fetched k x
    same_rest w g x kind.Gap h = ap (λ os. gap_shown os ++ codes "\n") (same_octets x h)
    same_rest w g x _ h = refl

    -- whatever octets follow, the lines are the same
    pub same_lines : (w : Setting) (g : Graph) (xs : List Item) → AllByRecursion IsWithin xs → explanation_over w g (fetched ++ more) xs ≡ explanation_over w g fetched xs
    same_lines w g [] a = refl
    same_lines w g (x ∷ xs) a = ap₂ (λ r t. (item_head x ++ r) ++ t) (same_rest w g x x.kind a.0) (same_lines w g xs a.1)

    abbrev count_of : List ℕ → ℕ
    count_of os = elim (are_zero os) [ true ↦ 0 | false ↦ 1 ]

    same_count : (x : Item) (k : ItemKind) → IsWithin x → filled (fetched ++ more) k x ≡ filled fetched k x
    same_count x kind.Gap h = ap count_of (same_octets x h)
    same_count x _ h = refl

    -- and so are the gaps that are not zero
    pub as_many_gaps : (xs : List Item) → AllByRecursion IsWithin xs → filled_gaps (fetched ++ more) xs ≡ filled_gaps fetched xs
    as_many_gaps [] a = refl
    as_many_gaps (x ∷ xs) a = ap₂ (λ m n. m + n) (same_count x x.kind a.0) (as_many_gaps xs a.1)

-- ## The line that counts them

pub no_line : (t : List ℕ) (n : ℕ) → n ≡ 0 → t ≡ t ++ gaps_line n
no_line t n e = sym (append-nil t) ∙ ap (λ m. t ++ gaps_line m) (sym e)

pub one_line : (t t1 t2 t3 : List ℕ) (n : ℕ) → (n ≡ 0 → ⊥) → t1 ≡ t ++ codes "gaps that are not zero: " → t2 ≡ t1 ++ decimal n → t3 ≡ t2 ++ codes "\n" → t3 ≡ t ++ gaps_line n
one_line t t1 t2 t3 zero some e f g = absurd (some refl)
one_line t t1 t2 t3 (suc n) some e f g =
    g ∙ ap (λ u. u ++ codes "\n") (f ∙ ap (λ u. u ++ decimal (suc n)) e) ∙ append_assoc (t ++ codes "gaps that are not zero: ") (decimal (suc n)) (codes "\n")
    ∙ append_assoc t (codes "gaps that are not zero: ") (decimal (suc n) ++ codes "\n")
