-- What reading over entries comes to: either octets spell them all and refuse none, or they refuse one, and spell those before it.
use Rattle.std.proofs.Common.{◌≡◌, ℕ, ◌+◌, ◌≤◌, List, [], ◌∷◌, ◌++◌, length, Option, Some, None, refl, ap, ap₂, sym, ◌∙◌, subst, append_assoc}
use Rattle.std.specs.Prelude.{ltb}
use Rattle.std.specs.List.{AllByRecursion}
use Rattle.std.proofs.lemmas.Bool.{ltb-false}
use Rattle.std.proofs.lemmas.List.{append-nil}
use Rattle.nd_base.specs.declared.octets.Order.{Order}
use Rattle.nd_base.specs.declared.TheConstants.{STREAM_LIMIT}
use Rattle.nd_value.specs.declared.value.Graph.{Graph}
use Rattle.nd_value.specs.Setting.{Setting}
use Rattle.nd_value.specs.Conforms.{IsPartial}
use Rattle.nd_grammar.specs.declared.reason.Reason.{Reason}
use Rattle.nd_grammar.specs.declared.reason.Reason.TheVariants as reason
use Rattle.nd_grammar.specs.Entry.{Entry, size_at, EntryAt, end_to_end, end_of, full_cells}
use Rattle.nd_grammar.specs.Stream.{piece, Spells, IsRendered, IsNumbering, Stream}
use Rattle.nd_grammar.specs.Refusal.{refusal, is_long, Accepts, Bad}
use Rattle.nd_grammar.specs.Reader.{Progress, here, advanced, taken_by, pass, taken}
use Rattle.nd_grammar.proofs.reader.ReaderSteps.{Follows}
use Rattle.nd_grammar.proofs.reader.ReaderNodes.{if_not}

module _ (order : Order) (octets : List ℕ) (nums : ℕ → ℕ) where
  abbrev R : EntryAt → Type 0
  R x = IsRendered order nums octets x

  -- all entries are spelt and none is refused
  pub record AllTaken (p : Progress) (ms : List Entry) (q : Progress) : Type 0 where
    pub at : q.at ≡ end_of p.at ms
    pub seen : q.seen ≡ p.seen ++ end_to_end p.at ms
    pub rendered : AllByRecursion (IsRendered order nums octets) (end_to_end p.at ms)
    pub accepted : Accepts order octets p.seen (end_to_end p.at ms)

  -- one is refused, and those before it are spelt and not refused
  pub record OneRefused (p : Progress) (ms : List Entry) (why : ℕ × Reason) : Type 0 where
    pub earlier : List EntryAt
    pub there : EntryAt
    pub later : List EntryAt
    pub split : end_to_end p.at ms ≡ earlier ++ there ∷ later
    pub rendered : AllByRecursion (IsRendered order nums octets) earlier
    pub accepted : Accepts order octets p.seen earlier
    pub refused : refusal order octets (p.seen ++ earlier) there ≡ Some why

  within : (seen : List EntryAt) (x : EntryAt) → refusal order octets seen x ≡ None → x.at + size_at x.at x.entry.kind ≤ length octets
  within seen x e =
      let (a, b) = if_not (is_long x.at x.entry.kind) (STREAM_LIMIT, reason.TooLong) _ e in
      let (c, d) = if_not (ltb (length octets) (x.at + size_at x.at x.entry.kind)) (length octets, reason.Truncated) _ b in
      ltb-false (length octets) (x.at + size_at x.at x.entry.kind) c

  -- past an entry that is not refused
  moved : Progress → Entry → Progress
  moved p m = record { at = p.at + size_at p.at m.kind; seen = p.seen ++ here p m ∷ []; stop = None }

  passed : (p : Progress) (m : Entry) → p.stop ≡ None → refusal order octets p.seen (here p m) ≡ None → pass order octets m p ≡ moved p m
  unfolding moved
  passed p m s e = ap₂ (λ a b. advanced a b p m) s e

  spelt : (p : Progress) (m : Entry) → p.stop ≡ None → refusal order octets p.seen (here p m) ≡ None
      → ((os : List ℕ) → taken order octets m p ≡ Some os → Spells order nums m.kind os) → R (here p m)
  spelt p m s e law = (
    within p.seen (here p m) e,
    law (piece octets p.at m.kind) (ap₂ (λ a b. taken_by a b (piece octets p.at m.kind)) s e),
  )

  stays : (ms : List Entry) (p q : Progress) (r : ℕ × Reason) → p.stop ≡ Some r → Follows order octets nums p ms q → q ≡ p
  stays [] p q r s f = sym f
  stays (m ∷ ms) p q r s f =
      stays ms p q r s
      (subst (λ u. Follows order octets nums u ms q) (ap (λ a. advanced a (refusal order octets p.seen (here p m)) p m) s) f.1)

  pub all_taken : (ms : List Entry) (p q : Progress) → p.stop ≡ None → q.stop ≡ None → Follows order octets nums p ms q → AllTaken p ms q
  unfolding moved
  all_taken [] p q s t f = record {
    at = ap (λ u. u.at) (sym f);
    seen = ap (λ u. u.seen) (sym f) ∙ sym (append-nil p.seen);
    rendered = tt;
    accepted = tt;
  }
  all_taken (m ∷ ms) p q s t f = go (refusal order octets p.seen (here p m)) refl (λ g. all_taken ms (moved p m) q refl t g)
    where
      go : (o : Option (ℕ × Reason)) → refusal order octets p.seen (here p m) ≡ o
          → (Follows order octets nums (moved p m) ms q → AllTaken (moved p m) ms q) → AllTaken p (m ∷ ms) q
      go None e rest =
          let a : AllTaken (moved p m) ms q = rest (subst (λ u. Follows order octets nums u ms q) (passed p m s e) f.1) in
          record {
            at = a.at;
            seen = a.seen ∙ append_assoc p.seen (here p m ∷ []) (end_to_end (p.at + size_at p.at m.kind) ms);
            rendered = (spelt p m s e f.0, a.rendered);
            accepted = (e, a.accepted);
          }
      go (Some r) e rest =
          let x : Progress = record { at = p.at; seen = p.seen; stop = Some r } in
          let g : q ≡ x = stays ms x q r refl (subst (λ u. Follows order octets nums u ms q) (ap₂ (λ a b. advanced a b p m) s e) f.1) in
          let h : q.stop ≡ Some r = ap (λ u. u.stop) g in
          cc

  pub one_refused : (ms : List Entry) (p q : Progress) (r : ℕ × Reason) → p.stop ≡ None → q.stop ≡ Some r → Follows order octets nums p ms q → OneRefused p ms r
  unfolding moved
  one_refused [] p q r s t f = let h : p.stop ≡ q.stop = ap (λ u. u.stop) f in cc
  one_refused (m ∷ ms) p q r s t f = go (refusal order octets p.seen (here p m)) refl (λ g. one_refused ms (moved p m) q r refl t g)
    where
      go : (o : Option (ℕ × Reason)) → refusal order octets p.seen (here p m) ≡ o
          → (Follows order octets nums (moved p m) ms q → OneRefused (moved p m) ms r) → OneRefused p (m ∷ ms) r
      go None e rest =
          let a : OneRefused (moved p m) ms r = rest (subst (λ u. Follows order octets nums u ms q) (passed p m s e) f.1) in
          record {
            earlier = here p m ∷ a.earlier;
            there = a.there;
            later = a.later;
            split = ap (λ u. here p m ∷ u) a.split;
            rendered = (spelt p m s e f.0, a.rendered);
            accepted = (e, a.accepted);
            refused = subst (λ u. refusal order octets u a.there ≡ Some r) (append_assoc p.seen (here p m ∷ []) a.earlier) a.refused;
          }
      go (Some r') e rest =
          let x : Progress = record { at = p.at; seen = p.seen; stop = Some r' } in
          let g : q ≡ x = stays ms x q r' refl (subst (λ u. Follows order octets nums u ms q) (ap₂ (λ a b. advanced a b p m) s e) f.1) in
          let h : Some r' ≡ Some r = ap (λ u. u.stop) (sym g) ∙ t in
          record {
            earlier = [];
            there = here p m;
            later = end_to_end (p.at + size_at p.at m.kind) ms;
            split = refl;
            rendered = tt;
            accepted = tt;
            refused = subst (λ u. refusal order octets u (here p m) ≡ Some r) (sym (append-nil p.seen)) (e ∙ h);
          }

abbrev pub start : Progress
start = record { at = 0; seen = []; stop = None }

module _ (w : Setting) (order : Order) (octets : List ℕ) (nums : ℕ → ℕ) (g : Graph) (ms : List Entry) (q : Progress) where
  -- Where reading stops in a stream of a partial graph, the octets are refused.
  pub stopped_is_bad : IsPartial w g → Stream w g ms → IsNumbering nums (full_cells ms) → Follows order octets nums start ms q
      → (place : ℕ) (why : Reason) → q.stop ≡ Some (place, why) → Bad w order octets place why
  stopped_is_bad a s n f place why t =
      let r : OneRefused order octets nums start ms (place, why) = one_refused order octets nums ms start q (place, why) refl t f in
      record {
        partial = g;
        is_partial = a;
        entries = ms;
        stream = s;
        earlier = r.earlier;
        here = r.there;
        later = r.later;
        split = r.split;
        numbering = nums;
        is_numbering = n;
        rendered = r.rendered;
        accepted = r.accepted;
        refused = r.refused;
      }
