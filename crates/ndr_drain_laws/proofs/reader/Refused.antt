-- Octets that the plain reader of a chunk refuses are refused in the chunk, whatever follows; where each of them is needed they end with the refused entry.
use Rattle.std.proofs.Common.{◌≡◌, ◌≤◌, ◌<◌, ℕ, ◌+◌, ◌-◌, suc, Bool, true, false, List, [], ◌∷◌, ◌++◌, length, length-append, append_assoc, Option, Some, refl, ap, sym, ◌∙◌, subst, arith, map}
use Rattle.std.specs.Prelude.{ltb}
use Rattle.std.specs.List.{AllByRecursion}
use Rattle.std.proofs.lemmas.Bool.{ltb-false}
use Rattle.std.proofs.lemmas.List.{append-nil}
use Rattle.std.proofs.lemmas.Option.{same_Some}
use Rattle.nd_base.specs.declared.octets.Order.{Order}
use Rattle.nd_base.specs.declared.TheConstants.{STREAM_LIMIT}
use Rattle.nd_types.specs.Number.{AreOctets}
use Rattle.nd_value.specs.declared.item.Item.{Item}
use Rattle.nd_value.specs.Setting.{Setting}
use Rattle.nd_value.proofs.Apart.{all_left, all_right, all_weaker}
use Rattle.nd_grammar.specs.declared.reason.Reason.{Reason}
use Rattle.nd_grammar.specs.declared.reason.Reason.TheVariants as reason
use Rattle.nd_grammar.specs.Entry.{Entry, EntryAt, size_at, end_to_end}
use Rattle.nd_grammar.specs.Items.{but_gaps, items}
use Rattle.nd_grammar.specs.LegalSide.{IsLegalSide}
use Rattle.nd_grammar.specs.Reader.{ReadAll}
use Rattle.nd_grammar.specs.Refusal.{refusal, refused_if, is_long, kind_refusal, Accepts}
use Rattle.nd_grammar.specs.Stream.{IsRendered, piece}
use Rattle.nd_grammar.proofs.OneRefusal.{IsRefused, is_refused, one_refusal}
use Rattle.nd_grammar.proofs.StaysBad.{judged_alike}
use Rattle.nd_grammar.proofs.next.Next.{OneToOne}
use Rattle.nd_grammar.proofs.next.Spelt.{spelt_in_more}
use Rattle.ndr_drain_laws.specs.parts.Parts.{BadPart, IsPartThrough, Spot}
use Rattle.ndr_decoder_laws.specs.reader.Around.{going}
use Rattle.nd_grammar.specs.decoded.Verdict.{MayFollow, fetched_to}
use Rattle.ndr_decoder_laws.proofs.verdict.ReadThrough.{Gone}
use Rattle.ndr_drain_laws.specs.reader.PartReader.{IsAtPipe, count_of, read_part}
use Rattle.ndr_drain_laws.specs.reader.Outcomes.{PartRefused}
use Rattle.ndr_drain_laws.proofs.reader.Elsewhere.{From, all_from, refused_elsewhere}
use Rattle.ndr_drain_laws.proofs.reader.Known.{AnyMap, chunks_next, two_readings}
use Rattle.ndr_drain_laws.proofs.reader.Refusals.{Within, accepted_before, accepts_stay, kind_of_kind, refused_alike, spelt_before}
use Rattle.ndr_decoder_laws.proofs.verdict.Refused.{ends_before, ends_of_kind}
use Rattle.nd_lemmas.proofs.Numbers.{no_less as exactly}
use Rattle.nd_lemmas.proofs.Lists.{last_of}
use Rattle.ndr_drain_laws.proofs.reader.Renumbered.{moved_at, own_entries, refused_moved}
use Rattle.ndr_drain_laws.proofs.reader.Through.{chunk_gone, few_items, from_here, from_moved, gone_by, items_then, through_here}

-- ## Octets that are refused stay refused

module _ (w : Setting) (order : Order) (s : Spot) (octets : List ℕ) (place : ℕ) (why : Reason) (b : BadPart w order s octets place why) (more : List ℕ) where
  within_here : (before : List ℕ) → length before ≡ s.place → AllByRecursion (Within order (before ++ octets) more) b.earlier
  within_here before e =
      all_weaker (IsRendered order (λ c. 0) (before ++ octets)) (Within order (before ++ octets) more) (λ x r. r.0) b.earlier (b.through.rendered before (λ c. 0) e)

  longer_so : (before : List ℕ) → (before ++ octets) ++ more ≡ before ++ (octets ++ more)
  longer_so before = append_assoc before octets more

  abbrev through_more : IsPartThrough w order s (octets ++ more) b.earlier
  through_more = record {
    pipe_left = b.through.pipe_left;
    elements = b.through.elements;
    partial = b.through.partial;
    machine_values = b.through.machine_values;
    later = b.through.later;
    split = b.through.split;
    rendered = λ before nums e.
        subst (λ os. AllByRecursion (IsRendered order nums os) b.earlier) (longer_so before) (spelt_in_more order nums (before ++ octets) more b.earlier (b.through.rendered before nums e));
    accepted = λ before e.
        subst (λ os. Accepts order os [] b.earlier) (longer_so before) (accepts_stay order (before ++ octets) more [] b.earlier tt (within_here before e) (b.through.accepted before e));
  }

  pub stays_bad : (why ≡ reason.Truncated → ⊥) → BadPart w order s (octets ++ more) place why
  stays_bad other = record {
    earlier = b.earlier;
    through = through_more;
    here = b.here;
    others = b.others;
    next = b.next;
    refused = λ before e.
        subst (λ os. refusal order os b.earlier b.here ≡ Some (place, why)) (longer_so before)
        (refused_alike order (before ++ octets) more b.earlier (within_here before e) b.here place why other (b.refused before e));
  }

pub stays_refused : (w : Setting) (order : Order) (s : Spot) (octets : List ℕ) (place : ℕ) (why : Reason) → BadPart w order s octets place why
    → (more : List ℕ) → MayFollow why more → BadPart w order s (octets ++ more) place why
stays_refused w order s octets place reason.Truncated b more e = subst (λ u. BadPart w order s u place reason.Truncated) (sym (append-nil octets) ∙ ap (λ u. octets ++ u) (sym e)) b
stays_refused w order s octets place reason.TooLong b more e = stays_bad w order s octets place reason.TooLong b more (λ f. cc)
stays_refused w order s octets place reason.EnumValue b more e = stays_bad w order s octets place reason.EnumValue b more (λ f. cc)
stays_refused w order s octets place reason.PastBound b more e = stays_bad w order s octets place reason.PastBound b more (λ f. cc)
stays_refused w order s octets place reason.TextOffset b more e = stays_bad w order s octets place reason.TextOffset b more (λ f. cc)
stays_refused w order s octets place reason.TextEmpty b more e = stays_bad w order s octets place reason.TextEmpty b more (λ f. cc)
stays_refused w order s octets place reason.TextUnended b more e = stays_bad w order s octets place reason.TextUnended b more (λ f. cc)
stays_refused w order s octets place reason.TextZero b more e = stays_bad w order s octets place reason.TextZero b more (λ f. cc)
stays_refused w order s octets place reason.NoArm b more e = stays_bad w order s octets place reason.NoArm b more (λ f. cc)
stays_refused w order s octets place reason.OtherType b more e = stays_bad w order s octets place reason.OtherType b more (λ f. cc)
stays_refused w order s octets place (reason.Disagrees v u) b more e = stays_bad w order s octets place (reason.Disagrees v u) b more (λ f. cc)

-- ## The refusal

-- without their last octet the reader finds the octets cut short, where they end then
abbrev pub IsNeededPart : Setting → Order → Spot → List ℕ → List ℕ → Type 0
IsNeededPart w order s before octets =
    (part : List ℕ) (last : ℕ) → octets ≡ part ++ last ∷ [] → (read_part w order (before ++ part) s).progress.stop ≡ Some (length (before ++ part), reason.Truncated)

module _ (w : Setting) (side : IsLegalSide w) (order : Order) (s : Spot) (at_pipe : IsAtPipe w s) (before octets : List ℕ) (of_place : length before ≡ s.place) (all : AreOctets (before ++ octets))
    (place : ℕ) (why : Reason) (stop : (read_part w order (before ++ octets) s).progress.stop ≡ Some (place, why)) where
  abbrev A : List ℕ
  A = before ++ octets

  abbrev r : ReadAll
  r = read_part w order A s

  abbrev own : List Entry
  own = own_entries w s (count_of w order A s) r.trees

  abbrev m : ℕ
  m = s.node - 1

  abbrev g : Gone order A suc (going s.place []) own r.progress
  g = gone_by w side order s at_pipe before octets of_place all suc

  all_seen : r.progress.seen ≡ g.earlier ++ []
  all_seen = g.seen ∙ sym (append-nil g.earlier)

  pub record Stopped : Type 0 where
    pub there : EntryAt
    pub rest : List EntryAt
    pub later : g.later ≡ there ∷ rest
    pub reached : r.progress.at ≡ there.at
    pub refused : refusal order A g.earlier there ≡ Some (place, why)

  stopped_there : Stopped
  stopped_there = let (there, rest, x, y, z) = g.stopped (place, why) stop in record { there = there; rest = rest; later = x; reached = y; refused = z }

  abbrev there : EntryAt
  there = stopped_there.there

  split_there : end_to_end s.place own ≡ g.earlier ++ there ∷ stopped_there.rest
  split_there = g.split ∙ ap (λ u. g.earlier ++ u) stopped_there.later

  from_earlier : AllByRecursion (From s.place) g.earlier
  from_earlier = from_here w side order s at_pipe before octets of_place all g.earlier [] all_seen g.later g.split

  from_there : s.place ≤ there.at
  from_there = (all_right (From s.place) g.earlier (there ∷ stopped_there.rest) (subst (AllByRecursion (From s.place)) split_there (all_from s.place s.place own (omega arith)))).0

  abbrev bad_there : BadPart w order s octets place why
  bad_there = record {
    earlier = map (moved_at (s.node - 1)) (gone_by w side order s at_pipe before octets of_place all suc).earlier;
    through = through_here w side order s at_pipe before octets of_place all g.earlier [] all_seen g.later g.split;
    here = moved_at (s.node - 1) stopped_there.there;
    others = map (moved_at (s.node - 1)) stopped_there.rest;
    next = ap (map (moved_at m)) stopped_there.later;
    refused = λ b of_b.
        refused_elsewhere order s.place octets b before of_b of_place (map (moved_at m) g.earlier) (from_moved s.place m g.earlier from_earlier) (moved_at m there) from_there
        ∙ refused_moved m order A g.earlier there ∙ stopped_there.refused;
  }

  pub bad_part : BadPart w order s octets place why
  bad_part = bad_there

  -- ## Where the octets end

  module _ (needed : IsNeededPart w order s before octets) where
    -- The octets end at a place before which the refused entry is judged: without their last they would be refused alike.
    module _ (other : why ≡ reason.Truncated → ⊥) (end : ℕ) (from : there.at ≤ end)
        (alike : (part more : List ℕ) → A ≡ part ++ more → end ≤ length part → AllByRecursion (Within order part more) g.earlier → refusal order part g.earlier there ≡ Some (place, why)) where
      not_longer : ¬ (end < length A)
      not_longer h =
          let n : length A ≡ length before + length octets = length-append before octets in
          let (part, last, e) = last_of octets (omega (arith, n, h, from, from_there, of_place)) in
          let B : List ℕ = before ++ part in
          let f : A ≡ B ++ last ∷ [] = ap (λ u. before ++ u) e ∙ sym (append_assoc before part (last ∷ [])) in
          let n' : length A ≡ length B + 1 = ap length f ∙ length-append B (last ∷ []) in
          let below : AllByRecursion (Within order B (last ∷ [])) g.earlier =
          all_weaker (λ x. x.at + size_at x.at x.entry.kind ≤ there.at) (Within order B (last ∷ [])) (λ x k. omega (arith, k, from, n', h)) g.earlier
          (ends_before s.place own g.earlier there stopped_there.rest split_there).1 in
          let rendered : AllByRecursion (IsRendered order suc B) g.earlier =
          spelt_before order B (last ∷ []) suc g.earlier below (subst (λ u. AllByRecursion (IsRendered order suc u) g.earlier) f g.rendered) in
          let accepted : Accepts order B [] g.earlier = accepted_before order B (last ∷ []) [] g.earlier tt below (subst (λ u. Accepts order u [] g.earlier) f g.accepted) in
          let refused : refusal order B g.earlier there ≡ Some (place, why) = alike B (last ∷ []) f (omega (arith, n', h)) below in
          let octets_of_part : AreOctets B = all_left (λ x. x < 256) B (last ∷ []) (subst AreOctets f all) in
          let stop' : (read_part w order B s).progress.stop ≡ Some (length B, reason.Truncated) = needed part last e in
          let g' = gone_by w side order s at_pipe before part of_place octets_of_part suc in
          let (there', rest', x', y', z') = g'.stopped (length B, reason.Truncated) stop' in
          let a : IsRefused order B suc [] s.place own (place, why) = is_refused order B suc [] s.place own g.earlier there stopped_there.rest split_there rendered accepted (place, why) refused in
          let own' : List Entry = own_entries w s (count_of w order B s) (read_part w order B s).trees in
          let b : IsRefused order B suc [] s.place own' (length B, reason.Truncated) =
          is_refused order B suc [] s.place own' g'.earlier there' rest' (g'.split ∙ ap (λ u. g'.earlier ++ u) x') g'.rendered g'.accepted (length B, reason.Truncated) z' in
          let l : length B ≡ length before + length part = length-append before part in
          let same : (place, why) ≡ (length B, reason.Truncated) =
          one_refusal (two_readings w side s at_pipe order B) OneToOne (AnyMap w side s at_pipe) (λ ys o. o) [] s.place own own' (omega (arith, l, of_place))
          (chunks_next w side s at_pipe order B (count_of w order A s) (count_of w order B s) r.trees (read_part w order B s).trees (chunk_gone w side order s at_pipe before octets of_place all).made
          (chunk_gone w side order s at_pipe before part of_place octets_of_part).made s.place) [] [] tt (place, why) (length B, reason.Truncated) a b in
          other (ap (λ u. u.1) same)

    abbrev rest_of : List ℕ → List EntryAt → EntryAt → Option (ℕ × Reason)
    rest_of os seen x =
        refused_if (ltb (length os) (x.at + size_at x.at x.entry.kind)) (length os, reason.Truncated)
        (kind_refusal order os seen x.at x.entry x.entry.kind (piece os x.at x.entry.kind))

    here_within : there.at ≤ length A
    here_within =
        let l : length A ≡ length before + length octets = length-append before octets in
        let h : r.progress.at ≤ length A = (chunk_gone w side order s at_pipe before octets of_place all).moves.within (omega (arith, l, of_place)) in
        omega (arith, h, stopped_there.reached)

    -- where the octets end
    ends_there : length A ≡ fetched_to why (length A) there
    ends_there = go (is_long there.at there.entry.kind) refl (ltb (length A) (there.at + size_at there.at there.entry.kind)) refl
      where
        go : (long : Bool) → is_long there.at there.entry.kind ≡ long → (cut : Bool) → ltb (length A) (there.at + size_at there.at there.entry.kind) ≡ cut
            → length A ≡ fetched_to why (length A) there
        go true f cut g' =
            let e : refusal order A g.earlier there ≡ Some (STREAM_LIMIT, reason.TooLong) = ap (λ t. refused_if t (STREAM_LIMIT, reason.TooLong) (rest_of A g.earlier there)) f in
            let is : reason.TooLong ≡ why = ap (λ u. u.1) (same_Some _ _ (sym e ∙ stopped_there.refused)) in
            let h = not_longer (λ k. (let z : reason.TooLong ≡ reason.Truncated = is ∙ k in cc)) there.at (omega arith) (λ part more q l a.
            ap (λ t. refused_if t (STREAM_LIMIT, reason.TooLong) (rest_of part g.earlier there)) f ∙ sym e ∙ stopped_there.refused) in
            let same : length A ≡ there.at = exactly (length A) there.at here_within h in
            same ∙ ap (λ u. fetched_to u (length A) there) is
        go false f true g' =
            let e : refusal order A g.earlier there ≡ Some (length A, reason.Truncated) =
            ap (λ t. refused_if t (STREAM_LIMIT, reason.TooLong) (rest_of A g.earlier there)) f
            ∙ ap (λ t. refused_if t (length A, reason.Truncated) (kind_refusal order A g.earlier there.at there.entry there.entry.kind (piece A there.at there.entry.kind))) g' in
            ap (λ u. fetched_to u (length A) there) (ap (λ u. u.1) (same_Some _ _ (sym e ∙ stopped_there.refused)))
        go false f false g' =
            let size : ℕ = there.at + size_at there.at there.entry.kind in
            let e : refusal order A g.earlier there ≡ kind_refusal order A g.earlier there.at there.entry there.entry.kind (piece A there.at there.entry.kind) =
            ap (λ t. refused_if t (STREAM_LIMIT, reason.TooLong) (rest_of A g.earlier there)) f
            ∙ ap (λ t. refused_if t (length A, reason.Truncated) (kind_refusal order A g.earlier there.at there.entry there.entry.kind (piece A there.at there.entry.kind))) g' in
            let (x, y) = kind_of_kind order A g.earlier there.at there.entry there.entry.kind (piece A there.at there.entry.kind) place why (sym e ∙ stopped_there.refused) in
            let h = not_longer y size (omega arith) (λ part more q l a.
            sym (judged_alike order part more g.earlier a there l) ∙ ap (λ u. refusal order u g.earlier there) (sym q) ∙ stopped_there.refused) in
            exactly (length A) size (ltb-false (length A) size g') h ∙ sym (ends_of_kind why (length A) there x y)

    -- so it is with the entry in the pipe
    moved_end : (why : Reason) (n : ℕ) → fetched_to why n there ≡ fetched_to why n (moved_at m there)
    moved_end reason.TooLong n = refl
    moved_end reason.Truncated n = refl
    moved_end reason.EnumValue n = refl
    moved_end _ n = refl

    -- The octets are refused, and end with the refused entry.
    pub refused_part : (noted : List Item) → items order (before ++ octets) (read_part w order (before ++ octets) s).progress.seen ≡ noted → PartRefused w order s octets noted place why
    refused_part noted e =
        let l : s.place + length octets ≡ length A = ap (λ n. n + length octets) (sym of_place) ∙ sym (length-append before octets) in
        let f : items order A g.earlier ≡ noted = ap (items order A) (sym g.seen) ∙ e in
        record {
          bad = bad_there;
          ends = l ∙ ends_there ∙ moved_end why (length A) ∙ ap (λ n. fetched_to why n (moved_at m there)) (sym l);
          items_are = items_then w side order s at_pipe before octets of_place all g.earlier [] all_seen noted f from_earlier;
          few = subst (λ xs. length (but_gaps xs) ≤ length octets) f (few_items w side order s at_pipe before octets of_place all g.earlier [] all_seen g.later g.split);
          stays = stays_refused w order s octets place why bad_there;
        }
