-- The entries that reading goes over, up to the one at which it stops, if it does; and that each first part of them begins a stream.
use Rattle.std.proofs.Common.{◌≡◌, ℕ, ◌+◌, ◌≤◌, List, [], ◌∷◌, ◌++◌, length, Option, Some, None, refl, ap, ap₂, sym, ◌∙◌, subst, append_assoc}
use Rattle.std.specs.Prelude.{ltb}
use Rattle.std.specs.List.{AllByRecursion}
use Rattle.std.proofs.lemmas.Bool.{ltb-false}
use Rattle.std.proofs.lemmas.List.{append-nil}
use Rattle.nd_base.specs.declared.octets.Order.{Order}
use Rattle.nd_base.specs.declared.TheConstants.{STREAM_LIMIT}
use Rattle.nd_types.specs.Number.{AreOctets}
use Rattle.nd_value.specs.Setting.{Setting}
use Rattle.nd_value.proofs.Apart.{all_left}
use Rattle.nd_grammar.specs.LegalSide.{IsLegalSide}
use Rattle.nd_grammar.specs.declared.reason.Reason.{Reason}
use Rattle.nd_grammar.specs.declared.reason.Reason.TheVariants as reason
use Rattle.nd_grammar.specs.Entry.{Entry, size_at, EntryAt, end_to_end}
use Rattle.nd_grammar.specs.Stream.{piece, Spells, IsRendered}
use Rattle.nd_grammar.specs.Refusal.{refusal, is_long, Accepts}
use Rattle.nd_grammar.specs.Reader.{Progress, here, advanced, taken_by, pass, taken}
use Rattle.nd_grammar.specs.StreamReader.{read_stream}
use Rattle.nd_grammar.proofs.reader.ReaderSteps.{Follows}
use Rattle.nd_grammar.proofs.reader.ReaderNodes.{if_not}
use Rattle.nd_grammar.proofs.reader.ReaderVerdict.{start}
use Rattle.nd_grammar.proofs.reader.ReaderStream.{Pipes, G, ms, numbering, is_partial, is_stream, numbered, goes_over}
use Rattle.nd_grammar.specs.decoded.Verdict.{IsReadThrough}

module _ (order : Order) (octets : List ℕ) (nums : ℕ → ℕ) where
  -- the entries that were passed, and those after them
  pub record Gone (p : Progress) (ms : List Entry) (q : Progress) : Type 0 where
    pub earlier : List EntryAt
    pub later : List EntryAt
    pub split : end_to_end p.at ms ≡ earlier ++ later
    pub rendered : AllByRecursion (IsRendered order nums octets) earlier
    pub accepted : Accepts order octets p.seen earlier
    pub seen : q.seen ≡ p.seen ++ earlier
    pub stopped : (why : ℕ × Reason) → q.stop ≡ Some why
        → (there : EntryAt) × (rest : List EntryAt) × (later ≡ there ∷ rest) × (q.at ≡ there.at) × (refusal order octets (p.seen ++ earlier) there ≡ Some why)
    pub whole : q.stop ≡ None → later ≡ []

  within : (seen : List EntryAt) (x : EntryAt) → refusal order octets seen x ≡ None → x.at + size_at x.at x.entry.kind ≤ length octets
  within seen x e =
      let (a, b) = if_not (is_long x.at x.entry.kind) (STREAM_LIMIT, reason.TooLong) _ e in
      let (c, d) = if_not (ltb (length octets) (x.at + size_at x.at x.entry.kind)) (length octets, reason.Truncated) _ b in
      ltb-false (length octets) (x.at + size_at x.at x.entry.kind) c

  -- past an entry that is not refused
  abbrev moved : Progress → Entry → Progress
  moved p m = record { at = p.at + size_at p.at m.kind; seen = p.seen ++ here p m ∷ []; stop = None }

  passed : (p : Progress) (m : Entry) → p.stop ≡ None → refusal order octets p.seen (here p m) ≡ None → pass order octets m p ≡ moved p m
  passed p m s e = ap₂ (λ a b. advanced a b p m) s e

  spelt : (p : Progress) (m : Entry) → p.stop ≡ None → refusal order octets p.seen (here p m) ≡ None
      → ((os : List ℕ) → taken order octets m p ≡ Some os → Spells order nums m.kind os) → IsRendered order nums octets (here p m)
  spelt p m s e law = (
    within p.seen (here p m) e,
    law (piece octets p.at m.kind) (ap₂ (λ a b. taken_by a b (piece octets p.at m.kind)) s e),
  )

  stays : (ms : List Entry) (p q : Progress) (r : ℕ × Reason) → p.stop ≡ Some r → Follows order octets nums p ms q → q ≡ p
  stays [] p q r s f = sym f
  stays (m ∷ ms) p q r s f =
      stays ms p q r s
      (subst (λ u. Follows order octets nums u ms q) (ap (λ a. advanced a (refusal order octets p.seen (here p m)) p m) s) f.1)

  pub gone : (ms : List Entry) (p q : Progress) → p.stop ≡ None → Follows order octets nums p ms q → Gone p ms q
  gone [] p q s f = record {
    earlier = [];
    later = [];
    split = refl;
    rendered = tt;
    accepted = tt;
    seen = ap (λ u. u.seen) (sym f) ∙ sym (append-nil p.seen);
    stopped = λ why e. (let h : None ≡ Some why = sym s ∙ ap (λ u. u.stop) f ∙ e in cc);
    whole = λ e. refl;
  }
  gone (m ∷ ms) p q s f = go (refusal order octets p.seen (here p m)) refl (λ g. gone ms (moved p m) q refl g)
    where
      go : (o : Option (ℕ × Reason)) → refusal order octets p.seen (here p m) ≡ o → (Follows order octets nums (moved p m) ms q → Gone (moved p m) ms q) → Gone p (m ∷ ms) q
      go None e rest =
          let a : Gone (moved p m) ms q = rest (subst (λ u. Follows order octets nums u ms q) (passed p m s e) f.1) in
          record {
            earlier = here p m ∷ a.earlier;
            later = a.later;
            split = ap (λ u. here p m ∷ u) a.split;
            rendered = (spelt p m s e f.0, a.rendered);
            accepted = (e, a.accepted);
            seen = a.seen ∙ append_assoc p.seen (here p m ∷ []) a.earlier;
            stopped = λ why g. (
                let (there, rest, x, y, z) = a.stopped why g in
                (there, rest, x, y, subst (λ u. refusal order octets u there ≡ Some why) (append_assoc p.seen (here p m ∷ []) a.earlier) z));
            whole = a.whole;
          }
      go (Some r) e rest =
          let x : Progress = record { at = p.at; seen = p.seen; stop = Some r } in
          let g : q ≡ x = stays ms x q r refl (subst (λ u. Follows order octets nums u ms q) (ap₂ (λ a b. advanced a b p m) s e) f.1) in
          record {
            earlier = [];
            later = here p m ∷ end_to_end (p.at + size_at p.at m.kind) ms;
            split = refl;
            rendered = tt;
            accepted = tt;
            seen = ap (λ u. u.seen) g ∙ sym (append-nil p.seen);
            stopped = λ why h. (
              here p m,
              end_to_end (p.at + size_at p.at m.kind) ms,
              refl,
              ap (λ u. u.at) g,
              subst (λ u. refusal order octets u (here p m) ≡ Some why) (sym (append-nil p.seen)) (e ∙ ap (λ u. u.stop) (sym g) ∙ h),
            );
            whole = λ h. (let k : Some r ≡ None = ap (λ u. u.stop) (sym g) ∙ h in cc);
          }

  accepts_first : (seen xs ys : List EntryAt) → Accepts order octets seen (xs ++ ys) → Accepts order octets seen xs
  accepts_first seen [] ys a = tt
  accepts_first seen (x ∷ xs) ys a = (a.0, accepts_first (seen ++ x ∷ []) xs ys a.1)

module _ (w : Setting) (side : IsLegalSide w) (order : Order) (octets : List ℕ) (all : AreOctets octets) where
  -- what the reader goes over
  pub stream_gone : Gone order octets (numbering w side order octets all) start (ms w side order octets all) (read_stream w order octets).progress
  stream_gone = gone order octets (numbering w side order octets all) (ms w side order octets all) start (Pipes w side order octets all).progress refl (goes_over w side order octets all)

  pub read_in_part : (earlier later : List EntryAt) → (read_stream w order octets).progress.seen ≡ earlier ++ later → IsReadThrough w order octets earlier
  read_in_part earlier later e =
      let k = stream_gone in
      let f : k.earlier ≡ earlier ++ later = sym k.seen ∙ e in
      record {
        partial = G w side order octets all;
        is_partial = is_partial w side order octets all;
        entries = ms w side order octets all;
        stream = is_stream w side order octets all;
        later = later ++ k.later;
        split = k.split ∙ ap (λ u. u ++ k.later) f ∙ append_assoc earlier later k.later;
        numbering = numbering w side order octets all;
        is_numbering = numbered w side order octets all;
        rendered = all_left (IsRendered order (numbering w side order octets all) octets) earlier later
            (subst (AllByRecursion (IsRendered order (numbering w side order octets all) octets)) f k.rendered);
        accepted = accepts_first order octets (numbering w side order octets all) [] earlier later (subst (Accepts order octets []) f k.accepted);
      }
