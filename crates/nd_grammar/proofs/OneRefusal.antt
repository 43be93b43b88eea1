-- Octets are refused at one place for one reason, and where they are refused none of their first parts is a stream.
use Rattle.std.proofs.Common.{◌≡◌, ℕ, ◌+◌, ◌≤◌, false, List, [], ◌∷◌, ◌++◌, length, Option, Some, None, refl, ap, sym, ◌∙◌, inl, inr, ◌⊎◌, arith, subst, append_assoc}
use Rattle.std.specs.Prelude.{ltb}
use Rattle.std.specs.List.{AllByRecursion}
use Rattle.std.proofs.lemmas.Bool.{le-ltb}
use Rattle.std.proofs.lemmas.Option.{same_Some}
use Rattle.std.proofs.lemmas.List.{append-nil}
use Rattle.nd_base.specs.declared.octets.Order.{Order}
use Rattle.nd_base.specs.declared.TheConstants.{STREAM_LIMIT}
use Rattle.nd_value.proofs.Apart.{all_left}
use Rattle.nd_grammar.specs.declared.reason.Reason.TheVariants as reason
use Rattle.nd_value.specs.declared.value.Graph.{Graph}
use Rattle.nd_value.specs.Setting.{Setting}
use Rattle.nd_value.specs.Conforms.{Conforms}
use Rattle.nd_value.proofs.NodeFacts.{IsSound, sound_conforming, sound_partial}
use Rattle.nd_grammar.specs.declared.reason.Reason.{Reason}
use Rattle.nd_grammar.specs.Entry.{Kind, Entry, size_at, EntryAt, end_to_end, full_cells}
use Rattle.nd_grammar.specs.Stream.{IsRendered, Represents, piece}
use Rattle.nd_grammar.specs.Refusal.{refusal, kind_refusal, refused_if, is_long, Accepts, Bad}
use Rattle.nd_grammar.specs.LegalSide.{IsLegalSide}
use Rattle.nd_grammar.proofs.next.Next.{IsUnread, Pair, OneToOne, Readings, Next}
use Rattle.nd_grammar.proofs.next.Spelt.{carried_on, cells_in, all_spelt_carried, not_spelt, same_size, spelt_in_more}
use Rattle.nd_grammar.proofs.next.RefusedAlike.{AllSeenAlike, seen_grown, seen_more, refusals_alike}
use Rattle.nd_grammar.proofs.next.Standings.{IsMap}
use Rattle.nd_grammar.proofs.next.NextStream.{AreMapped, streams_next}
use Rattle.nd_grammar.proofs.LegalSides.{laid_out}
use Rattle.nd_grammar.proofs.OneGraph.{readings}

module _ (order : Order) (octets : List ℕ) where
  -- one of these entries from a place on is refused; those before it are spelt and are not
  abbrev pub IsRefused : (ℕ → ℕ) → List EntryAt → ℕ → List Entry → ℕ × Reason → Type 0
  IsRefused nums seen at [] r = ⊥
  IsRefused nums seen at (m ∷ ms) r =
      (refusal order octets seen (record { at = at; entry = m }) ≡ Some r)
      ⊎ (IsRendered order nums octets (record { at = at; entry = m }) × (refusal order octets seen (record { at = at; entry = m }) ≡ None)
      × IsRefused nums (seen ++ record { at = at; entry = m } ∷ []) (at + size_at at m.kind) ms r)

  -- these entries are all spelt, and none is refused
  abbrev pub AreAccepted : (ℕ → ℕ) → List EntryAt → ℕ → List Entry → Type 0
  AreAccepted nums seen at [] = Unit {0}
  AreAccepted nums seen at (m ∷ ms) =
      IsRendered order nums octets (record { at = at; entry = m }) × (refusal order octets seen (record { at = at; entry = m }) ≡ None)
      × AreAccepted nums (seen ++ record { at = at; entry = m } ∷ []) (at + size_at at m.kind) ms

  pub are_accepted : (nums : ℕ → ℕ) (seen : List EntryAt) (at : ℕ) (ms : List Entry) → AllByRecursion (IsRendered order nums octets) (end_to_end at ms)
      → Accepts order octets seen (end_to_end at ms) → AreAccepted nums seen at ms
  are_accepted nums seen at [] a b = tt
  are_accepted nums seen at (m ∷ ms) a b =
      (a.0, b.0, are_accepted nums (seen ++ record { at = at; entry = m } ∷ []) (at + size_at at m.kind) ms a.1 b.1)

  pub is_refused : (nums : ℕ → ℕ) (seen : List EntryAt) (at : ℕ) (ms : List Entry) (earlier : List EntryAt) (here : EntryAt) (later : List EntryAt)
      → end_to_end at ms ≡ earlier ++ here ∷ later → AllByRecursion (IsRendered order nums octets) earlier → Accepts order octets seen earlier
      → (r : ℕ × Reason) → refusal order octets (seen ++ earlier) here ≡ Some r → IsRefused nums seen at ms r
  is_refused nums seen at [] [] here later e a b r f = cc
  is_refused nums seen at [] (x ∷ earlier) here later e a b r f = cc
  is_refused nums seen at (m ∷ ms) [] here later e a b r f =
      let h : record { at = at; entry = m } ≡ here = cc in
      inl (ap (λ u. refusal order octets seen u) h ∙ ap (λ u. refusal order octets u here) (sym (append-nil seen)) ∙ f)
  is_refused nums seen at (m ∷ ms) (x ∷ earlier) here later e a b r f =
      let h : x ≡ record { at = at; entry = m } = cc in
      let t : end_to_end (at + size_at at m.kind) ms ≡ earlier ++ here ∷ later = cc in
      let b' : Accepts order octets (seen ++ record { at = at; entry = m } ∷ []) earlier = subst (λ u. Accepts order octets (seen ++ u ∷ []) earlier) h b.1 in
      let f' : refusal order octets ((seen ++ record { at = at; entry = m } ∷ []) ++ earlier) here ≡ Some r =
      ap (λ u. refusal order octets u here) (append_assoc seen (record { at = at; entry = m } ∷ []) earlier ∙ ap (λ u. seen ++ u ∷ earlier) (sym h)) ∙ f in
      inr (
        subst (IsRendered order nums octets) h a.0,
        subst (λ u. refusal order octets seen u ≡ None) h b.0,
        is_refused nums (seen ++ record { at = at; entry = m } ∷ []) (at + size_at at m.kind) ms earlier here later t a.1 b' r f',
      )

  abbrev by_kind : List EntryAt → ℕ → Entry → Kind → Option (ℕ × Reason)
  by_kind seen at m k =
      refused_if (is_long at k) (STREAM_LIMIT, reason.TooLong)
      (refused_if (ltb (length octets) (at + size_at at k)) (length octets, reason.Truncated) (kind_refusal order octets seen at m k (piece octets at k)))

  -- an unread value is not refused
  unread_accepted : (seen : List EntryAt) (at : ℕ) (m : Entry) → at ≤ length octets → IsUnread m → refusal order octets seen (record { at = at; entry = m }) ≡ None
  unread_accepted seen at m h u =
      let e : ltb (length octets) (at + 0) ≡ false = le-ltb (length octets) (at + 0) (omega arith) in
      ap (by_kind seen at m) u ∙ ap (λ b. refused_if b (length octets, reason.Truncated) None) e

  none_or : (o : Option (ℕ × Reason)) (r : ℕ × Reason) → o ≡ None → o ≡ Some r → ⊥
  none_or o r e f = cc

module _ (two : Readings) (W X : List Pair → Type 0) (one_to_one : (ys : List Pair) → W ys → OneToOne ys) where
  abbrev O : Order
  O = two.order

  abbrev S : List ℕ
  S = two.octets

  no_unread_refusal : (nums : ℕ → ℕ) (seen : List EntryAt) (at : ℕ) (m : Entry) (ms : List Entry) (r : ℕ × Reason) → at ≤ length S → IsUnread m
      → IsRefused O S nums seen at (m ∷ ms) r → ⊥
  no_unread_refusal nums seen at m ms r h u (inl e) = none_or O S _ r (unread_accepted O S seen at m h u) e
  no_unread_refusal nums seen at m ms r h u (inr (a, b, c)) = not_spelt O nums S at m u a

  -- two refusals are one
  pub one_refusal : (map : List Pair) (at : ℕ) (ms ns : List Entry) → at ≤ length S → Next two W X map at ms ns
      → (seen seen' : List EntryAt) → AllSeenAlike map seen seen' → (r r' : ℕ × Reason)
      → IsRefused O S two.left seen at ms r → IsRefused O S two.right seen' at ns r' → r ≡ r'
  one_refusal map at [] ns h k seen seen' s r r' a b = absurd a
  one_refusal map at (m ∷ ms) [] h k seen seen' s r r' a b = absurd b
  one_refusal map at (m ∷ ms) (n ∷ ns) h (inl u) seen seen' s r r' a b = absurd (no_unread_refusal two.left seen at m ms r h u a)
  one_refusal map at (m ∷ ms) (n ∷ ns) h (inr (inl u)) seen seen' s r r' a b = absurd (no_unread_refusal two.right seen' at n ns r' h u b)
  one_refusal map at (m ∷ ms) (n ∷ ns) h (inr (inr (new, one, meet, alike, k))) seen seen' s r r' a b =
      let s' : AllSeenAlike (new ++ map) seen seen' = seen_grown new map seen seen' s in
      let e : refusal O S seen (record { at = at; entry = m }) ≡ refusal O S seen' (record { at = at; entry = n }) =
      refusals_alike O S (new ++ map) (one_to_one (new ++ map) one) seen seen' s' at m n alike meet in
      let z : at + size_at at m.kind ≡ at + size_at at n.kind = ap (λ u. at + u) (same_size at m.kind n.kind alike.1) in
      go a b e (λ x y p q.
      one_refusal (new ++ map) (at + size_at at m.kind) ms ns x.0 (k x y) (seen ++ record { at = at; entry = m } ∷ []) (seen' ++ record { at = at; entry = n } ∷ [])
      (seen_more (new ++ map) seen seen' (record { at = at; entry = m }) (record { at = at; entry = n }) s' (record { at = refl; alike = alike; homes = meet }))
      r r' p (subst (λ u. IsRefused O S two.right (seen' ++ record { at = at; entry = n } ∷ []) u ns r') (sym z) q))
    where
      go : IsRefused O S two.left seen at (m ∷ ms) r → IsRefused O S two.right seen' at (n ∷ ns) r'
          → refusal O S seen (record { at = at; entry = m }) ≡ refusal O S seen' (record { at = at; entry = n })
          → (IsRendered O two.left S (record { at = at; entry = m }) → IsRendered O two.right S (record { at = at; entry = n })
          → IsRefused O S two.left (seen ++ record { at = at; entry = m } ∷ []) (at + size_at at m.kind) ms r
          → IsRefused O S two.right (seen' ++ record { at = at; entry = n } ∷ []) (at + size_at at n.kind) ns r' → r ≡ r') → r ≡ r'
      go (inl x) (inl y) e f = same_Some _ _ (sym x ∙ e ∙ y)
      go (inl x) (inr (a, b, c)) e f = absurd (none_or O S _ r b (sym e ∙ x))
      go (inr (a, b, c)) (inl y) e f = absurd (none_or O S _ r' b (e ∙ y))
      go (inr (a, b, c)) (inr (a', b', c')) e f = f a a' c c'

  -- where a stream is refused, no other is accepted whole
  pub not_both : (map : List Pair) (at : ℕ) (ms ns : List Entry) → at ≤ length S → Next two W X map at ms ns
      → (seen seen' : List EntryAt) → AllSeenAlike map seen seen' → (r : ℕ × Reason)
      → IsRefused O S two.left seen at ms r → AreAccepted O S two.right seen' at ns → ⊥
  not_both map at [] ns h k seen seen' s r a b = a
  not_both map at (m ∷ ms) [] h u seen seen' s r a b = no_unread_refusal two.left seen at m ms r h u a
  not_both map at (m ∷ ms) (n ∷ ns) h (inl u) seen seen' s r a b = no_unread_refusal two.left seen at m ms r h u a
  not_both map at (m ∷ ms) (n ∷ ns) h (inr (inl u)) seen seen' s r a b = not_spelt O two.right S at n u b.0
  not_both map at (m ∷ ms) (n ∷ ns) h (inr (inr (new, one, meet, alike, k))) seen seen' s r a b =
      let s' : AllSeenAlike (new ++ map) seen seen' = seen_grown new map seen seen' s in
      let e : refusal O S seen (record { at = at; entry = m }) ≡ refusal O S seen' (record { at = at; entry = n }) =
      refusals_alike O S (new ++ map) (one_to_one (new ++ map) one) seen seen' s' at m n alike meet in
      let z : at + size_at at m.kind ≡ at + size_at at n.kind = ap (λ u. at + u) (same_size at m.kind n.kind alike.1) in
      go a e (λ x p.
      not_both (new ++ map) (at + size_at at m.kind) ms ns x.0 (k x b.0) (seen ++ record { at = at; entry = m } ∷ []) (seen' ++ record { at = at; entry = n } ∷ [])
      (seen_more (new ++ map) seen seen' (record { at = at; entry = m }) (record { at = at; entry = n }) s' (record { at = refl; alike = alike; homes = meet }))
      r p (subst (λ u. AreAccepted O S two.right (seen' ++ record { at = at; entry = n } ∷ []) u ns) (sym z) b.2))
    where
      go : IsRefused O S two.left seen at (m ∷ ms) r
          → refusal O S seen (record { at = at; entry = m }) ≡ refusal O S seen' (record { at = at; entry = n })
          → (IsRendered O two.left S (record { at = at; entry = m })
          → IsRefused O S two.left (seen ++ record { at = at; entry = m } ∷ []) (at + size_at at m.kind) ms r → ⊥) → ⊥
      go (inl x) e f = none_or O S _ r b.1 (sym e ∙ x)
      go (inr (a, b, c)) e f = f a c

module _ (w : Setting) (side : IsLegalSide w) (order : Order) (octets : List ℕ) where
  -- what a refusal says, under its numbering carried on
  pub carried_refusal : (place : ℕ) (why : Reason) (b : Bad w order octets place why)
      → IsRefused order octets (carried_on b.numbering (full_cells b.entries)) [] 0 b.entries (place, why)
  carried_refusal place why b =
      is_refused order octets (carried_on b.numbering (full_cells b.entries)) [] 0 b.entries b.earlier b.here b.later b.split
      (all_spelt_carried order octets b.numbering (full_cells b.entries) b.earlier
      (all_left _ b.earlier (b.here ∷ b.later) (subst (AllByRecursion _) b.split (cells_in 0 b.entries (full_cells b.entries) (λ d m. m)))) b.rendered)
      b.accepted (place, why) b.refused

  pub one_bad : (place place' : ℕ) (why why' : Reason) → Bad w order octets place why → Bad w order octets place' why' → (place ≡ place') × (why ≡ why')
  one_bad place place' why why' b b' =
      let s : IsSound w b.partial = sound_partial w b.partial b.is_partial in
      let s' : IsSound w b'.partial = sound_partial w b'.partial b'.is_partial in
      let two : Readings = readings order octets b.numbering (full_cells b.entries) b.is_numbering b'.numbering (full_cells b'.entries) b'.is_numbering in
      let e : (place, why) ≡ (place', why') =
      one_refusal two (IsMap two w b.partial b'.partial) (AreMapped two w b.partial b'.partial) (λ ys m. m.one) [] 0 b.entries b'.entries (omega arith)
      (streams_next two w b.partial b'.partial s s' (laid_out w side) b.entries b'.entries b.stream b'.stream) [] [] tt (place, why) (place', why')
      (carried_refusal place why b) (carried_refusal place' why' b') in
      (ap (λ u. u.0) e, ap (λ u. u.1) e)

  -- Bad excludes a stream, as far as its entries are not refused
  pub bad_excludes : (place : ℕ) (why : Reason) → Bad w order octets place why → (part rest : List ℕ) → octets ≡ part ++ rest → (g : Graph) → Conforms w g
      → (r : Represents w order part g) → Accepts order octets [] (end_to_end 0 r.entries) → ⊥
  bad_excludes place why b part rest eo g c r acc =
      let s : IsSound w b.partial = sound_partial w b.partial b.is_partial in
      let s' : IsSound w g = sound_conforming w g c in
      let cells : List ℕ = full_cells r.entries in
      let two : Readings = readings order octets b.numbering (full_cells b.entries) b.is_numbering r.numbering cells r.is_numbering in
      let spelt : AllByRecursion (IsRendered order (carried_on r.numbering cells) octets) (end_to_end 0 r.entries) =
      all_spelt_carried order octets r.numbering cells (end_to_end 0 r.entries) (cells_in 0 r.entries cells (λ d m. m))
      (subst (λ u. AllByRecursion (IsRendered order r.numbering u) (end_to_end 0 r.entries)) (sym eo)
      (spelt_in_more order r.numbering part rest (end_to_end 0 r.entries) r.rendered)) in
      not_both two (IsMap two w b.partial g) (AreMapped two w b.partial g) (λ ys m. m.one) [] 0 b.entries r.entries (omega arith)
      (streams_next two w b.partial g s s' (laid_out w side) b.entries r.entries b.stream r.stream) [] [] tt (place, why)
      (carried_refusal place why b) (are_accepted order octets (carried_on r.numbering cells) [] 0 r.entries spelt acc)
