-- Where reading was cut off after some items, it was so too after the first of them.
use Rattle.std.proofs.Common.{◌≡◌, ℕ, ◌+◌, ◌-◌, ℤ, List, [], ◌∷◌, ◌++◌, length, length-append, append_assoc, Option, Some, None, refl, ap, ap₂, ◌∙◌, subst, arith}
use Rattle.std.specs.Prelude.{not}
use Rattle.std.specs.List.{AllByRecursion}
use Rattle.std.proofs.lemmas.List.{length-replicate, map-append}
use Rattle.std.proofs.lemmas.List.Elements.{filter-append}
use Rattle.nd_base.specs.declared.octets.Order.{Order}
use Rattle.nd_value.specs.declared.item.Item.{Item}
use Rattle.nd_value.specs.declared.item.ItemKind.{ItemKind}
use Rattle.nd_value.specs.Setting.{Setting}
use Rattle.nd_value.proofs.Apart.{all_left}
use Rattle.nd_grammar.specs.Entry.{EntryAt}
use Rattle.nd_grammar.specs.Items.{but_gaps, is_gap, items, item_at, item_of}
use Rattle.nd_grammar.specs.Refusal.{Accepts}
use Rattle.nd_grammar.specs.Stream.{IsRendered, piece}
use Rattle.ndr_drain_laws.specs.parts.Parts.{Spot, part_entries}
use Rattle.ndr_drain_laws.specs.reader.PartReader.{before_place, moved_item, moved_items}
use Rattle.ndr_drain_laws.specs.reader.Outcomes.{PartCut}
use Rattle.ndr_drain_laws.proofs.reader.Elsewhere.{From, all_from, items_elsewhere}
use Rattle.ndr_drain_laws.proofs.reader.Through.{accepts_first}

-- entries whose items begin with these
pub record Begin (order : Order) (octets : List ℕ) (zs : List EntryAt) (us : List Item) : Type 0 where
  pub xs : List EntryAt
  pub ys : List EntryAt
  pub parts : zs ≡ xs ++ ys
  pub items_are : items order octets xs ≡ us

module _ (order : Order) (octets : List ℕ) where
  one : (z : EntryAt) → Option (ItemKind × ℤ)
  one z = item_of order z.entry.kind (piece octets z.at z.entry.kind)

  begin_items : (zs : List EntryAt) (us vs : List Item) → items order octets zs ≡ us ++ vs → Begin order octets zs us
  unfolding one
  begin_items zs [] vs e = record { xs = []; ys = zs; parts = refl; items_are = refl }
  begin_items [] (u ∷ us) vs e = cc
  begin_items (z ∷ zs) (u ∷ us) vs e = go (one z) refl e (begin_items zs (u ∷ us) vs) (begin_items zs us vs)
    where
      go : (o : Option (ItemKind × ℤ)) → one z ≡ o → item_at z o ++ items order octets zs ≡ u ∷ (us ++ vs)
          → (items order octets zs ≡ u ∷ (us ++ vs) → Begin order octets zs (u ∷ us)) → (items order octets zs ≡ us ++ vs → Begin order octets zs us) → Begin order octets (z ∷ zs) (u ∷ us)
      go None f h same rest =
          let b = same h in
          record { xs = z ∷ b.xs; ys = b.ys; parts = ap (λ w. z ∷ w) b.parts; items_are = ap (λ o. item_at z o ++ items order octets b.xs) f ∙ b.items_are }
      go (Some v) f h same rest =
          let t : items order octets zs ≡ us ++ vs = cc in
          let b = rest t in
          let first : item_at z (Some v) ≡ u ∷ [] = cc in
          record {
            xs = z ∷ b.xs;
            ys = b.ys;
            parts = ap (λ w. z ∷ w) b.parts;
            items_are = ap (λ o. item_at z o ++ items order octets b.xs) f ∙ ap₂ (λ p q. p ++ q) first b.items_are;
          }

module _ (w : Setting) (order : Order) (s : Spot) (octets : List ℕ) (first others : List Item) (cut : PartCut w order s octets (first ++ others)) where
  abbrev Z : List ℕ
  Z = before_place s

  zeros_long : length Z ≡ s.place
  zeros_long = length-replicate s.place 0

  begun : Begin order (Z ++ octets) cut.earlier (moved_items s first)
  begun =
      begin_items order (Z ++ octets) cut.earlier (moved_items s first) (moved_items s others) (cut.items_are Z zeros_long ∙ map-append (moved_item (s.node - 1)) first others)

  from_place : AllByRecursion (From s.place) begun.xs
  from_place =
      let t = cut.through in
      let all : AllByRecursion (From s.place) cut.earlier =
      all_left (From s.place) cut.earlier t.later
      (subst (AllByRecursion (From s.place)) t.split (all_from s.place s.place (part_entries w s (length t.elements) t.elements) (omega arith))) in
      all_left (From s.place) begun.xs begun.ys (subst (AllByRecursion (From s.place)) begun.parts all)

  pub cut_before : PartCut w order s octets first
  cut_before =
      let t = cut.through in
      let e : cut.earlier ≡ begun.xs ++ begun.ys = begun.parts in
      record {
        earlier = begun.xs;
        through = record {
          pipe_left = t.pipe_left;
          elements = t.elements;
          partial = t.partial;
          machine_values = t.machine_values;
          later = begun.ys ++ t.later;
          split = t.split ∙ ap (λ u. u ++ t.later) e ∙ append_assoc begun.xs begun.ys t.later;
          rendered =
              λ before nums l. all_left (IsRendered order nums (before ++ octets)) begun.xs begun.ys (subst (AllByRecursion (IsRendered order nums (before ++ octets))) e (t.rendered before nums l));
          accepted = λ before l. accepts_first order (before ++ octets) [] begun.xs begun.ys (subst (Accepts order (before ++ octets) []) e (t.accepted before l));
        };
        items_are = λ before l. items_elsewhere order s.place octets before Z l zeros_long begun.xs from_place ∙ begun.items_are;
        few =
            (let a : but_gaps (first ++ others) ≡ but_gaps first ++ but_gaps others = filter-append (λ x. not (is_gap x.kind)) first others in
            let b : length (but_gaps (first ++ others)) ≡ length (but_gaps first) + length (but_gaps others) = ap length a ∙ length-append (but_gaps first) (but_gaps others) in
            omega (arith, b, cut.few));
      }
