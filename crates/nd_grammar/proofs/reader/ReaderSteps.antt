-- The steps of the reader: entries that are passed, and what octets spell of them.
use Rattle.std.proofs.Common.{◌≡◌, ℕ, ◌+◌, Bool, true, false, List, [], ◌∷◌, ◌++◌, length, Option, Some, None, refl, ap, ap₂, sym, ◌∙◌, subst, take, drop}
use Rattle.nd_base.specs.declared.octets.Order.{Order}
use Rattle.nd_value.specs.declared.item.Home.{Home}
use Rattle.nd_value.specs.Tree.{Tree, Trees, node, none, more, node_count, is_pointer}
use Rattle.nd_value.specs.Agreement.{Agreement, found_in}
use Rattle.nd_value.specs.Nodes.{first_agreements, rest_agreements}
use Rattle.nd_types.specs.declared.types.Class.TheVariants.{Ref, Unique, Full}
use Rattle.nd_grammar.specs.declared.reason.Reason.{Reason}
use Rattle.nd_grammar.specs.declared.reason.Reason.TheVariants as reason
use Rattle.nd_base.specs.declared.TheConstants.{STREAM_LIMIT}
use Rattle.std.specs.Prelude.{ltb}
use Rattle.nd_grammar.specs.Entry.{Kind, Entry, Align, Max, Offset, Actual, Chunk, Number, Num, Tag, Text, Context, Test, Unread, size_at, EntryAt, tests, own_tests, child_tests}
use Rattle.nd_grammar.specs.NextMark.{form}
use Rattle.nd_grammar.specs.Stream.{piece, Spells}
use Rattle.nd_grammar.specs.Refusal.{refusal, kind_refusal, refused_if, is_long}
use Rattle.nd_grammar.specs.Reader.{Progress, here, advanced, taken_by, pass, pass_all, taken}
use Rattle.nd_grammar.proofs.next.Forms.{refused_alike}
use Rattle.nd_grammar.proofs.next.Spelt.{same_size}

module _ (order : Order) (octets : List ℕ) where
  abbrev P : Entry → Progress → Progress
  P m p = pass order octets m p

  abbrev T : Entry → Progress → Option (List ℕ)
  T m p = taken order octets m p

  -- reading goes over these entries, from one place to another, and what it takes of them is spelt
  abbrev pub Follows : (ℕ → ℕ) → Progress → List Entry → Progress → Type 0
  Follows nums p [] q = p ≡ q
  Follows nums p (m ∷ ms) q = ((os : List ℕ) → taken order octets m p ≡ Some os → Spells order nums m.kind os) × Follows nums (pass order octets m p) ms q

  pub follows_append : (nums : ℕ → ℕ) (ms ns : List Entry) (p q r : Progress) → Follows nums p ms q → Follows nums q ns r → Follows nums p (ms ++ ns) r
  follows_append nums [] ns p q r a b = subst (λ u. Follows nums u ns r) (sym a) b
  follows_append nums (m ∷ ms) ns p q r a b = (a.0, follows_append nums ms ns (P m p) q r a.1 b)

  stopped_taken : (p : Progress) (r : ℕ × Reason) (m : Entry) → p.stop ≡ Some r → T m p ≡ None
  stopped_taken p r m e = ap (λ o. taken_by o (refusal order octets p.seen (here p m)) (piece octets p.at m.kind)) e

  stopped_pass : (p : Progress) (r : ℕ × Reason) (m : Entry) → p.stop ≡ Some r → P m p ≡ p
  stopped_pass p r m e = ap (λ o. advanced o (refusal order octets p.seen (here p m)) p m) e

  no_octets : {X : Type 0} (o : Option (List ℕ)) (os : List ℕ) → o ≡ None → o ≡ Some os → X
  no_octets o os e f = absurd (cc)

  -- where reading has stopped, it goes over any entries
  pub follows_stopped : (nums : ℕ → ℕ) (ms : List Entry) (p : Progress) (r : ℕ × Reason) → p.stop ≡ Some r → Follows nums p ms p
  follows_stopped nums [] p r e = refl
  follows_stopped nums (m ∷ ms) p r e = (
    (λ os f. no_octets (T m p) os (stopped_taken p r m e) f),
    subst (λ u. Follows nums u ms p) (sym (stopped_pass p r m e)) (follows_stopped nums ms p r e),
  )

  -- an agreement needs no octets
  pub follows_tests : (nums : ℕ → ℕ) (h : Home) (n : ℕ) (t : Tree) (ags : List Agreement) (p : Progress) → Follows nums p (tests h n t ags) (pass_all order octets (tests h n t ags) p)
  follows_tests nums h n t [] p = refl
  follows_tests nums h n t (a ∷ ags) p = ((λ os e. tt), follows_tests nums h n t ags (P (record { home = h; node = n; kind = Test a.attr a.wanted (found_in a.attr t) }) p))

  passed_append : (ms ns : List Entry) (p : Progress) → pass_all order octets (ms ++ ns) p ≡ pass_all order octets ns (pass_all order octets ms p)
  passed_append [] ns p = refl
  passed_append (m ∷ ms) ns p = passed_append ms ns (P m p)

  follows_own : (nums : ℕ → ℕ) (b : Bool) (h : Home) (n : ℕ) (t : Tree) (ags : List Agreement) (p : Progress)
      → Follows nums p (own_tests b h n t ags) (pass_all order octets (own_tests b h n t ags) p)
  follows_own nums true h n t ags p = refl
  follows_own nums false h n t ags p = follows_tests nums h n t ags p

  pub follows_child_tests : (nums : ℕ → ℕ) (h : Home) (ags : List (List Agreement)) (n : ℕ) (ts : Trees) (p : Progress)
      → Follows nums p (child_tests h ags n ts) (pass_all order octets (child_tests h ags n ts) p)
  follows_child_tests nums h ags n none p = refl
  follows_child_tests nums h ags n (more (node l ks) ts) p =
      let A : List Entry = own_tests (is_pointer l) h n (node l ks) (first_agreements ags) in
      let B : List Entry = child_tests h (rest_agreements ags) (n + 1 + node_count ks) ts in
      subst (λ u. Follows nums p (A ++ B) u) (sym (passed_append A B p))
      (follows_append nums A B p (pass_all order octets A p) (pass_all order octets B (pass_all order octets A p))
      (follows_own nums (is_pointer l) h n (node l ks) (first_agreements ags) p)
      (follows_child_tests nums h (rest_agreements ags) (n + 1 + node_count ks) ts (pass_all order octets A p)))

  -- an entry's kind is judged by itself, whatever kind the entry beside it has
  by_itself : (seen : List EntryAt) (at : ℕ) (h : Home) (n : ℕ) (x y k : Kind) (os : List ℕ)
      → kind_refusal order octets seen at (record { home = h; node = n; kind = x }) k os ≡ kind_refusal order octets seen at (record { home = h; node = n; kind = y }) k os
  by_itself seen at h n x y (Number Full to c) os = refl
  by_itself seen at h n x y (Number Ref to c) os = refl
  by_itself seen at h n x y (Number Unique to c) os = refl
  by_itself seen at h n x y (Offset true v) os = refl
  by_itself seen at h n x y (Offset false v) os = refl
  by_itself seen at h n x y (Align m) os = refl
  by_itself seen at h n x y (Max v) os = refl
  by_itself seen at h n x y (Actual t o l v) os = refl
  by_itself seen at h n x y (Chunk v) os = refl
  by_itself seen at h n x y (Num p vs z) os = refl
  by_itself seen at h n x y (Tag p vs arms default z) os = refl
  by_itself seen at h n x y (Text t) os = refl
  by_itself seen at h n x y (Context a i) os = refl
  by_itself seen at h n x y (Test a w f) os = refl
  by_itself seen at h n x y Unread os = refl

  module _ (p : Progress) (h : Home) (n : ℕ) where
    abbrev E : Kind → Entry
    E k = record { home = h; node = n; kind = k }

    -- entries of one form are refused alike, and so are taken alike
    same_refusal : (x y : Kind) → form x ≡ form y → refusal order octets p.seen (here p (E x)) ≡ refusal order octets p.seen (here p (E y))
    same_refusal x y e =
        refused_alike order octets p.seen p.at (E x) x y e
        ∙ ap (λ o. refused_if (is_long p.at y) (STREAM_LIMIT, reason.TooLong) (refused_if (ltb (length octets) (p.at + size_at p.at y)) (length octets, reason.Truncated) o))
        (by_itself p.seen p.at h n x y y (piece octets p.at y))

    pub same_taken : (x y : Kind) → form x ≡ form y → T (E x) p ≡ T (E y) p
    same_taken x y e =
        ap₂ (λ o os. taken_by p.stop o os) (same_refusal x y e) (ap (λ k. take k (drop p.at octets)) (same_size p.at x y e))
