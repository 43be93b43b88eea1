-- Octets that the reader refuses: where the refused entry ends, that they stay refused whatever follows, and that no graph is among them.
use Rattle.std.proofs.Common.{◌≡◌, ℕ, ◌+◌, ◌<◌, ◌≤◌, Bool, true, false, ◌&&◌, List, [], ◌∷◌, ◌++◌, length, length-append, Option, Some, None, refl, ap, sym, ◌∙◌, subst, arith}
use Rattle.std.specs.Prelude.{ltb, not, eqb, cond, ℤ, option_map}
use Rattle.std.specs.Ordering.{int_eq}
use Rattle.std.specs.List.{AllByRecursion}
use Rattle.std.proofs.lemmas.Bool.{ltb-false}
use Rattle.std.proofs.lemmas.List.{append-nil}
use Rattle.std.proofs.lemmas.Option.{same_Some}
use Rattle.nd_base.specs.declared.octets.Order.{Order}
use Rattle.nd_base.specs.declared.TheConstants.{STREAM_LIMIT}
use Rattle.nd_types.specs.declared.types.Class.TheVariants.{Ref, Unique, Full}
use Rattle.nd_types.specs.Number.{AreOctets, unsigned, value_of_octets}
use Rattle.nd_types.specs.Table.{selected}
use Rattle.nd_value.specs.declared.value.Graph.{Graph}
use Rattle.nd_value.specs.Conforms.{Conforms}
use Rattle.nd_value.specs.Setting.{Setting}
use Rattle.nd_value.proofs.Apart.{all_append, all_left, all_weaker}
use Rattle.nd_grammar.specs.LegalSide.{IsLegalSide}
use Rattle.nd_grammar.specs.declared.reason.Reason.{Reason}
use Rattle.nd_grammar.specs.declared.reason.Reason.TheVariants as reason
use Rattle.nd_grammar.specs.Refusal.{Bad, refusal, kind_refusal, refused_if, text_refusal, is_enumerator, is_selected, is_long, is_other, tested_at, Accepts}
use Rattle.nd_grammar.specs.Entry.{Kind, Entry, Align, Max, Offset, Actual, Chunk, Number, Num, Tag, Text, Context, Test, Unread, size_at, EntryAt, end_to_end}
use Rattle.nd_grammar.specs.Stream.{piece, Spells, IsRendered, Represents}
use Rattle.nd_grammar.specs.StreamReader.{read_stream}
use Rattle.nd_grammar.proofs.Excluded.{excluded}
use Rattle.nd_grammar.proofs.OneRefusal.{one_bad}
use Rattle.nd_grammar.proofs.ReaderLaws.{reader_refuses}
use Rattle.nd_grammar.proofs.StaysBad.{stays_bad, judged_alike}
use Rattle.nd_grammar.proofs.next.Spelt.{piece_left}
use Rattle.nd_grammar.proofs.reader.ReaderStream.{G, ms, numbering, is_partial, is_stream, numbered, ends_in_octets}
use Rattle.nd_grammar.specs.decoded.Needed.{IsNeeded}
use Rattle.nd_grammar.specs.decoded.Verdict.{MayFollow, fetched_to}
use Rattle.ndr_decoder_laws.specs.verdict.InOrder.{HasOwnNumbers}
use Rattle.ndr_decoder_laws.proofs.verdict.NamedInTurn.{reader_numbered}
use Rattle.ndr_decoder_laws.proofs.verdict.ReadThrough.{stream_gone}
use Rattle.nd_lemmas.proofs.Lists.{last_of}
use Rattle.nd_lemmas.proofs.Numbers.{no_less as exactly}

-- ## An entry is judged alike by octets that end later

module _ (order : Order) (octets more : List ℕ) where
  abbrev longer : List ℕ
  longer = octets ++ more

  abbrev Within : EntryAt → Type 0
  Within x = x.at + size_at x.at x.entry.kind ≤ length octets

  accepted_before : (seen ys : List EntryAt) → AllByRecursion Within seen → AllByRecursion Within ys → Accepts order longer seen ys → Accepts order octets seen ys
  accepted_before seen [] a b c = tt
  accepted_before seen (y ∷ ys) a b c = (
    sym (judged_alike order octets more seen a y b.0) ∙ c.0,
    accepted_before (seen ++ y ∷ []) ys (all_append Within seen (y ∷ []) a (b.0, tt)) b.1 c.1,
  )

  spelt_before : (nums : ℕ → ℕ) (ys : List EntryAt) → AllByRecursion Within ys → AllByRecursion (IsRendered order nums longer) ys → AllByRecursion (IsRendered order nums octets) ys
  spelt_before nums [] b c = tt
  spelt_before nums (y ∷ ys) b c = (
    (b.0, subst (Spells order nums y.entry.kind) (piece_left y.at (size_at y.at y.entry.kind) octets more b.0) c.0.1),
    spelt_before nums ys b.1 c.1,
  )

-- ## What kinds are refused for

-- neither the limit nor the end of the octets
abbrev IsOfKind : Option (ℕ × Reason) → Type 0
IsOfKind o = (place : ℕ) (why : Reason) → o ≡ Some (place, why) → (why ≡ reason.TooLong → ⊥) × (why ≡ reason.Truncated → ⊥)

none_of_kind : IsOfKind None
none_of_kind place why e = cc

one_of_kind : (b : Bool) (at : ℕ) (r : Reason) (o : Option (ℕ × Reason)) → (r ≡ reason.TooLong → ⊥) → (r ≡ reason.Truncated → ⊥) → IsOfKind o → IsOfKind (refused_if b (at, r) o)
one_of_kind true at r o x y k place why e = let f : r ≡ why = ap (λ u. u.1) (same_Some _ _ e) in ((λ g. x (f ∙ g)), (λ g. y (f ∙ g)))
one_of_kind false at r o x y k place why e = k place why e

text_of_kind : (at : ℕ) (os : List ℕ) → IsOfKind (text_refusal at os)
text_of_kind at [] = none_of_kind
text_of_kind at (b ∷ []) = go (eqb b 0)
  where
    go : (t : Bool) → IsOfKind (cond t None (Some (at, reason.TextUnended)))
    go true = none_of_kind
    go false = λ place why e. (let f : reason.TextUnended ≡ why = ap (λ u. u.1) (same_Some _ _ e) in ((λ g. cc), (λ g. cc)))
text_of_kind at (b ∷ c ∷ bs) = go (eqb b 0) (text_of_kind (at + 1) (c ∷ bs))
  where
    go : (t : Bool) → IsOfKind (text_refusal (at + 1) (c ∷ bs)) → IsOfKind (cond t (Some (at, reason.TextZero)) (text_refusal (at + 1) (c ∷ bs)))
    go true k = λ place why e. (let f : reason.TextZero ≡ why = ap (λ u. u.1) (same_Some _ _ e) in ((λ g. cc), (λ g. cc)))
    go false k = k

module _ (order : Order) (octets : List ℕ) where
  test_of_kind : (t : Bool) (o : Option ℕ) (wanted found : ℤ) → IsOfKind (cond t None (option_map (λ place. (place, reason.Disagrees wanted found)) o))
  test_of_kind true o wanted found = none_of_kind
  test_of_kind false None wanted found = none_of_kind
  test_of_kind false (Some p) wanted found = λ place why e.
      (let f : reason.Disagrees wanted found ≡ why = ap (λ u. u.1) (same_Some _ _ e) in ((λ g. cc), (λ g. cc)))

  kind_of_kind : (seen : List EntryAt) (at : ℕ) (m : Entry) (k : Kind) (os : List ℕ) → IsOfKind (kind_refusal order octets seen at m k os)
  kind_of_kind seen at m (Num p values z) os = one_of_kind (not (is_enumerator values (value_of_octets order p os))) at reason.EnumValue None (λ e. cc) (λ e. cc) none_of_kind
  kind_of_kind seen at m (Tag p values arms default z) os =
      one_of_kind (not (is_enumerator values (value_of_octets order p os))) at reason.EnumValue _ (λ e. cc) (λ e. cc)
      (one_of_kind (not (is_selected (selected arms default (value_of_octets order p os)))) at reason.NoArm None (λ e. cc) (λ e. cc) none_of_kind)
  kind_of_kind seen at m (Offset true v) os = one_of_kind (not (eqb (unsigned order os) 0)) at reason.TextOffset None (λ e. cc) (λ e. cc) none_of_kind
  kind_of_kind seen at m (Offset false v) os = none_of_kind
  kind_of_kind seen at m (Actual t offset limit v) os =
      one_of_kind (t && eqb (unsigned order os) 0) at reason.TextEmpty _ (λ e. cc) (λ e. cc)
      (one_of_kind (ltb limit (offset + unsigned order os)) at reason.PastBound None (λ e. cc) (λ e. cc) none_of_kind)
  kind_of_kind seen at m (Text text) os = text_of_kind at os
  kind_of_kind seen at m (Number Full to cell) os =
      one_of_kind (not (eqb (unsigned order os) 0) && is_other order octets seen (unsigned order os) to) at reason.OtherType None (λ e. cc) (λ e. cc) none_of_kind
  kind_of_kind seen at m (Number Ref to cell) os = none_of_kind
  kind_of_kind seen at m (Number Unique to cell) os = none_of_kind
  kind_of_kind seen at m (Test a wanted found) os = test_of_kind (int_eq wanted found) (tested_at seen a m.home m.node) wanted found
  kind_of_kind seen at m (Align n) os = none_of_kind
  kind_of_kind seen at m (Max v) os = none_of_kind
  kind_of_kind seen at m (Chunk v) os = none_of_kind
  kind_of_kind seen at m (Context a id) os = none_of_kind
  kind_of_kind seen at m Unread os = none_of_kind

-- where octets end that are refused for their own kind
pub ends_of_kind : (why : Reason) (n : ℕ) (x : EntryAt) → (why ≡ reason.TooLong → ⊥) → (why ≡ reason.Truncated → ⊥) → fetched_to why n x ≡ x.at + size_at x.at x.entry.kind
ends_of_kind reason.TooLong n x a b = absurd (a refl)
ends_of_kind reason.Truncated n x a b = absurd (b refl)
ends_of_kind reason.EnumValue n x a b = refl
ends_of_kind reason.PastBound n x a b = refl
ends_of_kind reason.TextOffset n x a b = refl
ends_of_kind reason.TextEmpty n x a b = refl
ends_of_kind reason.TextUnended n x a b = refl
ends_of_kind reason.TextZero n x a b = refl
ends_of_kind reason.NoArm n x a b = refl
ends_of_kind reason.OtherType n x a b = refl
ends_of_kind (reason.Disagrees v u) n x a b = refl

-- ## Entries end where later ones begin

pub ends_before : (at : ℕ) (ms : List Entry) (earlier : List EntryAt) (there : EntryAt) (later : List EntryAt) → end_to_end at ms ≡ earlier ++ there ∷ later
    → (at ≤ there.at) × AllByRecursion (λ x. x.at + size_at x.at x.entry.kind ≤ there.at) earlier
ends_before at [] [] there later e = cc
ends_before at [] (x ∷ xs) there later e = cc
ends_before at (m ∷ ms) [] there later e =
    let f : record { at = at; entry = m } ≡ there = cc in
    let g : at ≡ there.at = ap (λ u. u.at) f in
    (omega (arith, g), tt)
ends_before at (m ∷ ms) (x ∷ xs) there later e =
    let f : record { at = at; entry = m } ≡ x = cc in
    let g : end_to_end (at + size_at at m.kind) ms ≡ xs ++ there ∷ later = cc in
    let (a, b) = ends_before (at + size_at at m.kind) ms xs there later g in
    let h : at + size_at at m.kind ≡ x.at + size_at x.at x.entry.kind = ap (λ u. u.at + size_at u.at u.entry.kind) f in
    (omega (arith, a), (omega (arith, a, h), b))

-- ## The refusal

module _ (w : Setting) (side : IsLegalSide w) (order : Order) (octets : List ℕ) (all : AreOctets octets) (place : ℕ) (why : Reason)
    (stop : (read_stream w order octets).progress.stop ≡ Some (place, why)) where
  abbrev nums : ℕ → ℕ
  nums = numbering w side order octets all

  -- the octets are refused, after the entries that were read
  pub record BadThere : Type 0 where
    pub bad : Bad w order octets place why
    pub earlier : bad.earlier ≡ (read_stream w order octets).progress.seen
    pub at : bad.here.at ≡ (read_stream w order octets).progress.at
    pub numbers : HasOwnNumbers bad.partial bad.entries

  bad_there : BadThere
  bad_there =
      let k = stream_gone w side order octets all in
      let (there, rest, x, y, z) = k.stopped (place, why) stop in
      record {
        bad = record {
          partial = G w side order octets all;
          is_partial = is_partial w side order octets all;
          entries = ms w side order octets all;
          stream = is_stream w side order octets all;
          earlier = k.earlier;
          here = there;
          later = rest;
          split = k.split ∙ ap (λ u. k.earlier ++ u) x;
          numbering = numbering w side order octets all;
          is_numbering = numbered w side order octets all;
          rendered = k.rendered;
          accepted = k.accepted;
          refused = z;
        };
        earlier = sym k.seen;
        at = sym y;
        numbers = reader_numbered w side order octets all;
      }

  -- The octets end at a place before which the refused entry is judged: without their last they would be refused alike.
  module _ (needed : IsNeeded w order octets) (b : Bad w order octets place why) (other : why ≡ reason.Truncated → ⊥) (end : ℕ) (from : b.here.at ≤ end)
      (alike : (part more : List ℕ) → octets ≡ part ++ more → end ≤ length part → AllByRecursion (Within order part more) b.earlier → refusal order part b.earlier b.here ≡ Some (place, why)) where
    not_longer : ¬ (end < length octets)
    not_longer h =
        let (part, last, e) = last_of octets (omega arith) in
        let n : length octets ≡ length part + 1 = ap length e ∙ length-append part (last ∷ []) in
        let below : AllByRecursion (Within order part (last ∷ [])) b.earlier =
        all_weaker (λ x. x.at + size_at x.at x.entry.kind ≤ b.here.at) (Within order part (last ∷ [])) (λ x k. omega (arith, k, from, n, h)) b.earlier
        (ends_before 0 b.entries b.earlier b.here b.later b.split).1 in
        let bad : Bad w order part place why = record {
          partial = b.partial;
          is_partial = b.is_partial;
          entries = b.entries;
          stream = b.stream;
          earlier = b.earlier;
          here = b.here;
          later = b.later;
          split = b.split;
          numbering = b.numbering;
          is_numbering = b.is_numbering;
          rendered = spelt_before order part (last ∷ []) b.numbering b.earlier below (subst (λ u. AllByRecursion (IsRendered order b.numbering u) b.earlier) e b.rendered);
          accepted = accepted_before order part (last ∷ []) [] b.earlier tt below (subst (λ u. Accepts order u [] b.earlier) e b.accepted);
          refused = alike part (last ∷ []) e (omega (arith, n, h)) below;
        } in
        let part_octets : AreOctets part = all_left (λ x. x < 256) part (last ∷ []) (subst AreOctets e all) in
        let short : Bad w order part (length part) reason.Truncated = reader_refuses w side order part part_octets (length part) reason.Truncated (needed part last e) in
        other (one_bad w side order part place (length part) why reason.Truncated bad short).1

  module _ (needed : IsNeeded w order octets) where
    abbrev b : Bad w order octets place why
    b = bad_there.bad

    abbrev rest : List ℕ → List EntryAt → EntryAt → Option (ℕ × Reason)
    rest os seen x =
        refused_if (ltb (length os) (x.at + size_at x.at x.entry.kind)) (length os, reason.Truncated)
        (kind_refusal order os seen x.at x.entry x.entry.kind (piece os x.at x.entry.kind))

    here_within : b.here.at ≤ length octets
    here_within = let e = bad_there.at in let l = ends_in_octets w side order octets all in omega (arith, e, l)

    -- where the octets end
    ends : length octets ≡ fetched_to why (length octets) b.here
    ends = go (is_long b.here.at b.here.entry.kind) refl (ltb (length octets) (b.here.at + size_at b.here.at b.here.entry.kind)) refl
      where
        go : (long : Bool) → is_long b.here.at b.here.entry.kind ≡ long → (cut : Bool) → ltb (length octets) (b.here.at + size_at b.here.at b.here.entry.kind) ≡ cut
            → length octets ≡ fetched_to why (length octets) b.here
        go true f cut g =
            let e : refusal order octets b.earlier b.here ≡ Some (STREAM_LIMIT, reason.TooLong) = ap (λ t. refused_if t (STREAM_LIMIT, reason.TooLong) (rest octets b.earlier b.here)) f in
            let is : reason.TooLong ≡ why = ap (λ u. u.1) (same_Some _ _ (sym e ∙ b.refused)) in
            let h = not_longer needed b (λ k. (let z : reason.TooLong ≡ reason.Truncated = is ∙ k in cc)) b.here.at (omega arith) (λ part more q l a.
            ap (λ t. refused_if t (STREAM_LIMIT, reason.TooLong) (rest part b.earlier b.here)) f ∙ sym e ∙ b.refused) in
            let same : length octets ≡ b.here.at = exactly (length octets) b.here.at here_within h in
            same ∙ ap (λ u. fetched_to u (length octets) b.here) is
        go false f true g =
            let e : refusal order octets b.earlier b.here ≡ Some (length octets, reason.Truncated) =
            ap (λ t. refused_if t (STREAM_LIMIT, reason.TooLong) (rest octets b.earlier b.here)) f
            ∙ ap (λ t. refused_if t (length octets, reason.Truncated) (kind_refusal order octets b.earlier b.here.at b.here.entry b.here.entry.kind (piece octets b.here.at b.here.entry.kind))) g in
            ap (λ u. fetched_to u (length octets) b.here) (ap (λ u. u.1) (same_Some _ _ (sym e ∙ b.refused)))
        go false f false g =
            let size : ℕ = b.here.at + size_at b.here.at b.here.entry.kind in
            let e : refusal order octets b.earlier b.here ≡ kind_refusal order octets b.earlier b.here.at b.here.entry b.here.entry.kind (piece octets b.here.at b.here.entry.kind) =
            ap (λ t. refused_if t (STREAM_LIMIT, reason.TooLong) (rest octets b.earlier b.here)) f
            ∙ ap (λ t. refused_if t (length octets, reason.Truncated) (kind_refusal order octets b.earlier b.here.at b.here.entry b.here.entry.kind (piece octets b.here.at b.here.entry.kind))) g in
            let (x, y) = kind_of_kind order octets b.earlier b.here.at b.here.entry b.here.entry.kind (piece octets b.here.at b.here.entry.kind) place why (sym e ∙ b.refused) in
            let h = not_longer needed b y size (omega arith) (λ part more q l a.
            sym (judged_alike order part more b.earlier a b.here l) ∙ ap (λ u. refusal order u b.earlier b.here) (sym q) ∙ b.refused) in
            exactly (length octets) size (ltb-false (length octets) size g) h ∙ sym (ends_of_kind why (length octets) b.here x y)

    -- The refused entry ends the octets. The cells of the graph so far have their own numbers.
    pub refused_numbered : (bad : Bad w order octets place why) × (bad.earlier ≡ (read_stream w order octets).progress.seen)
        × (length octets ≡ fetched_to why (length octets) bad.here) × HasOwnNumbers bad.partial bad.entries
    refused_numbered = (bad_there.bad, bad_there.earlier, ends, bad_there.numbers)

    pub refused_there : (bad : Bad w order octets place why) × (bad.earlier ≡ (read_stream w order octets).progress.seen) × (length octets ≡ fetched_to why (length octets) bad.here)
    refused_there = (bad_there.bad, bad_there.earlier, ends)

  -- They stay refused, whatever follows.
  pub stays_refused : (more : List ℕ) → MayFollow why more → Bad w order (octets ++ more) place why
  stays_refused more may = go why may bad_there.bad
    where
      go : (r : Reason) → MayFollow r more → Bad w order octets place r → Bad w order (octets ++ more) place r
      go reason.Truncated e k = subst (λ u. Bad w order u place reason.Truncated) (sym (append-nil octets) ∙ ap (λ u. octets ++ u) (sym e)) k
      go reason.TooLong e k = stays_bad w order octets more place reason.TooLong k (λ f. cc)
      go reason.EnumValue e k = stays_bad w order octets more place reason.EnumValue k (λ f. cc)
      go reason.PastBound e k = stays_bad w order octets more place reason.PastBound k (λ f. cc)
      go reason.TextOffset e k = stays_bad w order octets more place reason.TextOffset k (λ f. cc)
      go reason.TextEmpty e k = stays_bad w order octets more place reason.TextEmpty k (λ f. cc)
      go reason.TextUnended e k = stays_bad w order octets more place reason.TextUnended k (λ f. cc)
      go reason.TextZero e k = stays_bad w order octets more place reason.TextZero k (λ f. cc)
      go reason.NoArm e k = stays_bad w order octets more place reason.NoArm k (λ f. cc)
      go reason.OtherType e k = stays_bad w order octets more place reason.OtherType k (λ f. cc)
      go (reason.Disagrees v u) e k = stays_bad w order octets more place (reason.Disagrees v u) k (λ f. cc)

  -- No first part of them represents a graph that conforms.
  pub no_graph : (more : List ℕ) → MayFollow why more → (part rest : List ℕ) → octets ++ more ≡ part ++ rest → (g : Graph) → Conforms w g → Represents w order part g → ⊥
  no_graph more may part rest e g c r = excluded w side order (octets ++ more) place why (stays_refused more may) part rest e g c r
