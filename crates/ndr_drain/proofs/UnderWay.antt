-- Chunks that are read and given one after the other.
-- `w` is a setting, `s` a spot, `ps` are chunks, `p` is one more, `ends` are ends.
use Rattle.std.proofs.Common.{◌≡◌, ◌∙◌, ap, sym, refl, subst, ℕ, zero, suc, ◌+◌, ◌-◌, ◌<◌, ◌≤◌, List, [], ◌∷◌, ◌++◌, length, length-append, replicate, Bool, Option, Some, None, true, false, arith}
use Rattle.std.proofs.Common.{append_assoc}
use Rattle.std.specs.Prelude.{if◌then◌else◌}
use Rattle.std.proofs.lemmas.List.{append-nil}
use Rattle.std.specs.Io.KnownBytes.{Consumes}
use Rattle.nd_base.specs.declared.octets.Order.{Order}
use Rattle.nd_base.specs.declared.TheConstants.{STREAM_LIMIT}
use Rattle.nd_base.specs.Over.{SourceOver}
use Rattle.nd_value.specs.declared.item.Home.TheVariants as home
use Rattle.nd_value.specs.declared.item.Item.{Item}
use Rattle.nd_value.specs.Logged.{Logged}
use Rattle.nd_value.specs.Tree.{Tree, trees}
use Rattle.nd_value.specs.Setting.{Setting, root_list}
use Rattle.nd_value.specs.Deferral.{before_pipes}
use Rattle.nd_grammar.specs.Entry.{Entry, end_of, size_at, gap, in_place}
use Rattle.nd_grammar.specs.Items.{but_gaps}
use Rattle.nd_grammar.specs.decoded.Verdict.{DecodingSeen, decoding_seen, HasNoted, with_items}
use Rattle.ndr_drain_laws.specs.parts.Parts.{Spot, Part, after, spot_after, after_all, octets_of, IsPart, AreParts, elem_at, part_items}
use Rattle.ndr_drain_laws.specs.joined.Entries.{parts_items}
use Rattle.ndr_pipe.specs.Ends.{EndSeen, with_octets, ended, EndsSeen, AreOpen, change_at, IsOpenAt}
use Rattle.ndr_drain_reader.specs.Calls.{left_after}
use Rattle.ndr_drain_reader.specs.Seen.{IntakeSeen, moved_to}
use Rattle.ndr_drain.specs.Drained.{end_of_root, end_after, ends_after, chunk_lines}
use Rattle.ndr_drain.specs.Turns.{AreNoted, AreOpenFrom, HasPassed, HavePassed, IsStepCause, IsUnderWay, StopsUnderWay}
use Rattle.ndr_drain.specs.declared.fault.DrainFault.{DrainFault}
use Rattle.ndr_decoder_laws.proofs.stream.Joined.{gaps_apart as but_gaps_append}
use Rattle.ndr_drain_laws.proofs.parts.Spelt.{place_after}

-- ## Lists of chunks

pub parts_append : (w : Setting) (order : Order) (s : Spot) (ps : List Part) (p : Part) → AreParts w order s ps → IsPart w order (after_all s ps) p → AreParts w order s (ps ++ p ∷ [])
parts_append w order s [] p h k = (k, tt)
parts_append w order s (q ∷ ps) p h k = (h.0, parts_append w order (after s q) ps p h.1 k)

pub after_append : (s : Spot) (ps : List Part) (p : Part) → after_all s (ps ++ p ∷ []) ≡ after (after_all s ps) p
after_append s [] p = refl
after_append s (q ∷ ps) p = after_append (after s q) ps p

pub octets_append : (ps : List Part) (p : Part) → octets_of (ps ++ p ∷ []) ≡ octets_of ps ++ p.octets
octets_append [] p = append-nil p.octets
octets_append (q ∷ ps) p = ap (λ l. q.octets ++ l) (octets_append ps p) ∙ sym (append_assoc q.octets (octets_of ps) p.octets)

ends_append : (w : Setting) (s : Spot) (ps : List Part) (p : Part) (ends : List EndSeen)
    → ends_after w s (ps ++ p ∷ []) ends
    ≡ change_at (end_of_root w (after_all s ps).root) (end_after w (after_all s ps) p.elements) (ends_after w s ps ends)
ends_append w s [] p ends = refl
ends_append w s (q ∷ ps) p ends = ends_append w (after s q) ps p (change_at (end_of_root w s.root) (end_after w s q.elements) ends)

pub items_append : (w : Setting) (order : Order) (before : List ℕ) (s : Spot) (ps : List Part) (p : Part)
    → parts_items w order before s (ps ++ p ∷ []) ≡ parts_items w order before s ps ++ part_items w order ((before ++ octets_of ps) ++ p.octets) (after_all s ps) p.elements
items_append w order before s [] p =
    append-nil (part_items w order (before ++ p.octets) s p.elements) ∙ ap (λ l. part_items w order (l ++ p.octets) s p.elements) (sym (append-nil before))
items_append w order before s (q ∷ ps) p =
    let A : List Item = part_items w order (before ++ q.octets) s q.elements in
    let B : List Item = parts_items w order (before ++ q.octets) (after s q) ps in
    let C : List ℕ → List Item = λ l. part_items w order (l ++ p.octets) (after_all (after s q) ps) p.elements in
    ap (λ l. A ++ l) (items_append w order (before ++ q.octets) (after s q) ps p)
    ∙ sym (append_assoc A B (C ((before ++ q.octets) ++ octets_of ps)))
    ∙ ap (λ l. (A ++ B) ++ C l) (append_assoc before q.octets (octets_of ps))

-- the place after chunks
pub place_all : (s : Spot) (ps : List Part) → (after_all s ps).place ≡ s.place + length (octets_of ps)
place_all s [] = omega arith
place_all s (p ∷ ps) =
    let l : length (p.octets ++ octets_of ps) ≡ length p.octets + length (octets_of ps) = length-append p.octets (octets_of ps) in
    let a : (after s p).place ≡ s.place + length p.octets = place_after s (length p.octets) p.elements in
    let r : (after_all (after s p) ps).place ≡ (after s p).place + length (octets_of ps) = place_all (after s p) ps in
    omega (arith, l, a, r)

-- ## The log and the steps

-- items that are noted in two lots
pub noted_twice : (xs ys : List Item) (g g1 g2 : Logged) → g1 ≡ with_items xs g → g2 ≡ with_items ys g1 → g2 ≡ with_items (xs ++ ys) g
noted_twice xs ys g g1 g2 a b = b ∙ ap (with_items ys) a ∙ go g.keeps
  where
    go : (k : Bool) → (let y : Logged = record { keeps = k; items = if k then (if k then g.items ++ xs else g.items) ++ ys else (if k then g.items ++ xs else g.items) } in y)
        ≡ (let z : Logged = record { keeps = k; items = if k then g.items ++ (xs ++ ys) else g.items } in z)
    go true = ap (λ l. let z : Logged = record { keeps = true; items = l } in z) (append_assoc g.items xs ys)
    go false = refl

-- ## Ends

pub change_length : (i : ℕ) (f : EndSeen → EndSeen) (ends : List EndSeen) → length (change_at i f ends) ≡ length ends
change_length i f [] = refl
change_length zero f (e ∷ es) = refl
change_length (suc i) f (e ∷ es) = ap (λ n. suc n) (change_length i f es)

pub all_open : (ends : List EndSeen) → AreOpen ends → AreOpenFrom 0 ends
all_open [] o = tt
all_open (e ∷ es) o = (o.0, all_open es o.1)

open_from : (i : ℕ) (ends : List EndSeen) → AreOpenFrom i ends → i < length ends → IsOpenAt ends i
open_from i [] o h = absurd (omega (arith, h))
open_from zero (e ∷ es) o h = (e, refl, o.0)
open_from (suc i) (e ∷ es) o h = open_from i es o (omega (arith, h))

open_past : (i : ℕ) (f : EndSeen → EndSeen) (ends : List EndSeen) → AreOpenFrom i ends → AreOpenFrom (suc i) (change_at i f ends)
open_past i f [] o = tt
open_past zero f (e ∷ es) o = o.1
open_past (suc i) f (e ∷ es) o = open_past i f es o

open_with : (i : ℕ) (octets : List ℕ) (ends : List EndSeen) → AreOpenFrom i ends → AreOpenFrom i (change_at i (with_octets octets) ends)
open_with i octets [] o = tt
open_with zero octets (e ∷ es) o = (o.0, o.1)
open_with (suc i) octets (e ∷ es) o = open_with i octets es o

-- the ends after a chunk are open from that of its spot on
open_after : (w : Setting) (s : Spot) (n : ℕ) (vs : List Tree) (ends : List EndSeen) → before_pipes (root_list w) ≤ s.root → AreOpenFrom (end_of_root w s.root) ends
    → AreOpenFrom (end_of_root w (spot_after s n vs).root) (change_at (end_of_root w s.root) (end_after w s vs) ends)
open_after w s n [] ends h o =
    let e : (s.root + 1) - before_pipes (root_list w) ≡ suc (s.root - before_pipes (root_list w)) = omega (arith, h) in
    let P : ℕ → Type 0 = λ i. AreOpenFrom i (change_at (end_of_root w s.root) ended ends) in
    subst P (sym e) (open_past (end_of_root w s.root) ended ends o)
open_after w s n (v ∷ vs) ends h o = open_with (end_of_root w s.root) (chunk_lines w s (v ∷ vs)) ends o

root_low : (s : Spot) (n b : ℕ) (vs : List Tree) → b ≤ s.root → b ≤ (spot_after s n vs).root
root_low s n b [] h = omega (arith, h)
root_low s n b (v ∷ vs) h = h

root_all : (s : Spot) (n left b : ℕ) (vs : List Tree) → 0 < left → s.root + left ≡ b → (spot_after s n vs).root + left_after left vs ≡ b
root_all s n left b [] h e = omega (arith, h, e)
root_all s n left b (v ∷ vs) h e = e

-- ## Places

end_grows : (at : ℕ) (ms : List Entry) → at ≤ end_of at ms
end_grows at [] = omega arith
end_grows at (m ∷ ms) = let h : at + size_at at m.kind ≤ end_of (at + size_at at m.kind) ms = end_grows (at + size_at at m.kind) ms in omega (arith, h)

-- a chunk has at least the octets of its count
part_grows : (w : Setting) (order : Order) (s : Spot) (p : Part) → IsPart w order s p → s.place + 4 ≤ s.place + length p.octets
part_grows w order s p h =
    let rest : List Entry = in_place w.table (home.Root s.root) (replicate (length p.elements) (elem_at w s.root)) s.node (trees p.elements) in
    let at : ℕ = (s.place + gap s.place 4) + 4 in
    let e : end_of at rest ≡ s.place + length p.octets = h.spelt.whole in
    let k : at ≤ end_of at rest = end_grows at rest in
    let m : at ≤ s.place + length p.octets = subst (λ n. at ≤ n) e k in
    omega (arith, m)

-- so after each chunk less of the limit is left
less_left : (w : Setting) (order : Order) (s to : Spot) (p : Part) → IsPart w order s p → to ≡ after s p → STREAM_LIMIT - to.place < STREAM_LIMIT - s.place
less_left w order s to p h e =
    let place : to.place ≡ s.place + length p.octets = ap (λ t. t.place) e ∙ place_after s (length p.octets) p.elements in
    let g : s.place + 4 ≤ s.place + length p.octets = part_grows w order s p h in
    let within : s.place + length p.octets ≤ STREAM_LIMIT = h.spelt.within in
    omega (arith, place, g, within)

-- ## The source

pub Consumes-refl : (l : Option (List ℕ)) → Consumes l l []
Consumes-refl None = tt
Consumes-refl (Some xs) = refl

pub Consumes-trans : (old mid new : Option (List ℕ)) (a b : List ℕ) → Consumes old mid a → Consumes mid new b → Consumes old new (a ++ b)
Consumes-trans None mid new a b h k = tt
Consumes-trans (Some xs) None new a b h k = absurd h
Consumes-trans (Some xs) (Some ys) None a b h k = absurd k
Consumes-trans (Some xs) (Some ys) (Some zs) a b h k = h ∙ ap (λ l. a ++ l) k ∙ sym (append_assoc a b zs)

abbrev pub over : Option (List ℕ) → Option (List ℕ) → Bool → ℕ → ℕ → SourceOver
over left left_now ended before now = record { left = left; left_now = left_now; ended_now = ended; faults = record { before = before; now = now } }

abbrev pub ends_to : List EndSeen → List EndSeen → EndsSeen
ends_to before now = record { before = before; now = now }

-- ## Turns

pub noted_none : (g : Logged) → g ≡ with_items [] g
noted_none g = go g.keeps
  where
    go : (k : Bool) → (let y : Logged = record { keeps = k; items = g.items } in y) ≡ (let z : Logged = record { keeps = k; items = if k then g.items ++ [] else g.items } in z)
    go true = ap (λ l. let z : Logged = record { keeps = true; items = l } in z) (sym (append-nil g.items))
    go false = refl

-- at the beginning
pub at_first : (w : Setting) (first : IntakeSeen) (l : Option (List ℕ)) (e : Bool) (f : ℕ) (ends : List EndSeen) (g : Logged) (n : ℕ)
    → first.spot.root ≡ before_pipes (root_list w) → first.left ≡ length (root_list w) - before_pipes (root_list w) → before_pipes (root_list w) ≤ length (root_list w) → AreOpenFrom 0 ends
    → IsUnderWay w first first (over l l e f f) (ends_to ends ends) (decoding_seen g g n n)
at_first w first l e f ends g n root left few o = record {
  parts = [];
  consumed = Consumes-refl l;
  passed = record { read = tt; reached = refl; given = refl };
  noted = record { logged = λ before k. noted_none g; stepped = λ before k. omega arith };
  is = refl;
  low = omega (arith, root);
  all = omega (arith, root, left, few);
  still_open =
      let z : 0 ≡ end_of_root w first.spot.root = omega (arith, root) in
      let P : ℕ → Type 0 = λ i. AreOpenFrom i ends in subst P z o;
  as_many = refl;
}

module _ (w : Setting) (first now : IntakeSeen) (l0 l1 l2 : Option (List ℕ)) (e1 e2 : Bool) (f0 f1 f2 : ℕ) (ends mid : List EndSeen) (g0 g1 g2 : Logged) (n0 n1 n2 : ℕ)
    (u : IsUnderWay w first now (over l0 l1 e1 f0 f1) (ends_to ends mid) (decoding_seen g0 g1 n0 n1)) where
  -- the chunk was read at the spot that was reached
  abbrev Passed : IntakeSeen → List EndSeen → Type 0
  Passed next last = HasPassed w (moved_to now.spot now.left first) next (over l1 l2 e2 f1 f2) (ends_to mid last) (decoding_seen g1 g2 n1 n2)

  here : (next : IntakeSeen) (last : List EndSeen) → HasPassed w now next (over l1 l2 e2 f1 f2) (ends_to mid last) (decoding_seen g1 g2 n1 n2) → Passed next last
  here next last p = let P : IntakeSeen → Type 0 = λ i. HasPassed w i next (over l1 l2 e2 f1 f2) (ends_to mid last) (decoding_seen g1 g2 n1 n2) in subst P u.is p

  abbrev part : (next : IntakeSeen) (last : List EndSeen) → Passed next last → Part
  part next last q = record { octets = q.read.octets; elements = q.elements }

  -- where the octets before the chunk end
  placed : (before : List ℕ) → length before ≡ first.spot.place → length (before ++ octets_of u.parts) ≡ now.spot.place
  placed before k =
      let l : length (before ++ octets_of u.parts) ≡ length before + length (octets_of u.parts) = length-append before (octets_of u.parts) in
      let p : (after_all first.spot u.parts).place ≡ first.spot.place + length (octets_of u.parts) = place_all first.spot u.parts in
      let r : now.spot.place ≡ (after_all first.spot u.parts).place = ap (λ s. s.place) u.passed.reached in
      omega (arith, k, l, p, r)

  all_noted : (next : IntakeSeen) (last : List EndSeen) (q : Passed next last) → AreNoted w first.order first.spot (u.parts ++ part next last q ∷ []) (decoding_seen g0 g2 n0 n2)
  all_noted next last q = record { logged = logged; stepped = stepped }
    where
      P : List ℕ → Spot → List Item
      P before s = part_items w first.order ((before ++ octets_of u.parts) ++ q.read.octets) s q.elements

      all_items : (before : List ℕ) → parts_items w first.order before first.spot (u.parts ++ part next last q ∷ []) ≡ parts_items w first.order before first.spot u.parts ++ P before now.spot
      all_items before =
          items_append w first.order before first.spot u.parts (part next last q)
          ∙ ap (λ s. parts_items w first.order before first.spot u.parts ++ P before s) (sym u.passed.reached)

      logged : (before : List ℕ) → length before ≡ first.spot.place → HasNoted (parts_items w first.order before first.spot (u.parts ++ part next last q ∷ [])) (decoding_seen g0 g2 n0 n2)
      logged before k =
          noted_twice (parts_items w first.order before first.spot u.parts) (P before now.spot) g0 g1 g2 (u.noted.logged before k) (q.read.logged (before ++ octets_of u.parts) (placed before k))
          ∙ ap (λ xs. with_items xs g0) (sym (all_items before))

      stepped : (before : List ℕ) → length before ≡ first.spot.place
          → n2 ≡ n0 + length (but_gaps (parts_items w first.order before first.spot (u.parts ++ part next last q ∷ [])))
      stepped before k =
          let a : n1 ≡ n0 + length (but_gaps (parts_items w first.order before first.spot u.parts)) = u.noted.stepped before k in
          let b : n2 ≡ n1 + length (but_gaps (P before now.spot)) = q.read.stepped (before ++ octets_of u.parts) (placed before k) in
          let c : length (but_gaps (parts_items w first.order before first.spot u.parts ++ P before now.spot))
          ≡ length (but_gaps (parts_items w first.order before first.spot u.parts)) + length (but_gaps (P before now.spot)) =
          but_gaps_append (parts_items w first.order before first.spot u.parts) (P before now.spot) in
          let d : length (but_gaps (parts_items w first.order before first.spot (u.parts ++ part next last q ∷ [])))
          ≡ length (but_gaps (parts_items w first.order before first.spot u.parts ++ P before now.spot)) = ap (λ xs. length (but_gaps xs)) (all_items before) in
          omega (arith, a, b, c, d)

  all_passed : (next : IntakeSeen) (last : List EndSeen) (q : Passed next last)
      → HavePassed w first.order first.spot (after now.spot (part next last q)) (u.parts ++ part next last q ∷ []) (ends_to ends last)
  all_passed next last q =
      let p : Part = part next last q in
      let P : Spot → Type 0 = λ s. IsPart w first.order s p in
      let Q : Spot → List EndSeen = λ s. change_at (end_of_root w s.root) (end_after w s q.elements) mid in
      record {
        read = parts_append w first.order first.spot u.parts p u.passed.read (subst P u.passed.reached q.read.read);
        reached = ap (λ s. after s p) u.passed.reached ∙ sym (after_append first.spot u.parts p);
        given = q.given ∙ ap Q u.passed.reached
            ∙ ap (change_at (end_of_root w (after_all first.spot u.parts).root) (end_after w (after_all first.spot u.parts) q.elements)) u.passed.given
            ∙ sym (ends_append w first.spot u.parts p ends);
      }

  -- one chunk more was read and given
  pub turn : (next : IntakeSeen) (last : List EndSeen) → 0 < now.left → HasPassed w now next (over l1 l2 e2 f1 f2) (ends_to mid last) (decoding_seen g1 g2 n1 n2)
      → IsUnderWay w first next (over l0 l2 e2 f0 f2) (ends_to ends last) (decoding_seen g0 g2 n0 n2)
  turn next last some p =
      let q : Passed next last = here next last p in
      let x : Part = part next last q in
      let S : List ℕ → Type 0 = λ l. Consumes l0 l2 l in
      let Q : IntakeSeen → Type 0 = λ i. IsUnderWay w first i (over l0 l2 e2 f0 f2) (ends_to ends last) (decoding_seen g0 g2 n0 n2) in
      let O : List EndSeen → Type 0 = λ l. AreOpenFrom (end_of_root w (after now.spot x).root) l in
      let N : List EndSeen → Type 0 = λ l. length l ≡ length ends in
      subst Q (sym q.read.moved) (record {
        parts = u.parts ++ x ∷ [];
        consumed = subst S (sym (octets_append u.parts x)) (Consumes-trans l0 l1 l2 (octets_of u.parts) q.read.octets u.consumed q.read.left);
        passed = all_passed next last q;
        noted = all_noted next last q;
        is = refl;
        low = root_low now.spot (length q.read.octets) (before_pipes (root_list w)) q.elements u.low;
        all = root_all now.spot (length q.read.octets) now.left (length (root_list w)) q.elements some u.all;
        still_open = subst O (sym q.given) (open_after w now.spot (length q.read.octets) q.elements mid u.low u.still_open);
        as_many = subst N (sym q.given) (change_length (end_of_root w now.spot.root) (end_after w now.spot q.elements) mid ∙ u.as_many);
      })

  -- after it less of the limit is left
  pub turn_less : (next : IntakeSeen) (last : List EndSeen) → HasPassed w now next (over l1 l2 e2 f1 f2) (ends_to mid last) (decoding_seen g1 g2 n1 n2)
      → STREAM_LIMIT - next.spot.place < STREAM_LIMIT - now.spot.place
  turn_less next last p =
      let q : Passed next last = here next last p in
      less_left w first.order now.spot next.spot (part next last q) q.read.read (ap (λ i. i.spot) q.read.moved)

  -- it is the same intake, at another spot
  pub turn_is : (next : IntakeSeen) (last : List EndSeen) → HasPassed w now next (over l1 l2 e2 f1 f2) (ends_to mid last) (decoding_seen g1 g2 n1 n2)
      → next ≡ moved_to next.spot next.left first
  turn_is next last p =
      let q : Passed next last = here next last p in
      let Q : IntakeSeen → Type 0 = λ i. i ≡ moved_to i.spot i.left first in
      subst Q (sym q.read.moved) refl

  -- the next chunk was not read, or not given
  pub stops : (last : List EndSeen) (fault : DrainFault) → f0 ≤ f1 → IsStepCause w now (over l1 l2 e2 f1 f2) (ends_to mid last) (decoding_seen g1 g2 n1 n2) fault
      → StopsUnderWay w first (over l0 l2 e2 f0 f2) (ends_to ends last) (decoding_seen g0 g2 n0 n2) fault
  stops last fault no_fewer c = record {
    parts = u.parts;
    spot = now.spot;
    count = now.left;
    left = l1;
    consumed = u.consumed;
    ends = mid;
    passed = record { read = u.passed.read; reached = u.passed.reached; given = u.passed.given };
    log = g1;
    steps = n1;
    noted = record { logged = u.noted.logged; stepped = u.noted.stepped };
    faults = f1;
    no_fewer = no_fewer;
    cause = let P : IntakeSeen → Type 0 = λ i. IsStepCause w i (over l1 l2 e2 f1 f2) (ends_to mid last) (decoding_seen g1 g2 n1 n2) fault in subst P u.is c;
  }

  -- the end of the pipe that is read is open
  pub open_now : (n left : ℕ) → n ≡ length (root_list w) - before_pipes (root_list w) → n ≤ length ends → left ≡ now.left → 0 < left → IsOpenAt mid (n - left)
  open_now n left all enough l some =
      let low : before_pipes (root_list w) ≤ now.spot.root = u.low in
      let sum : now.spot.root + now.left ≡ length (root_list w) = u.all in
      let many : length mid ≡ length ends = u.as_many in
      let e : n - left ≡ end_of_root w now.spot.root = omega (arith, l, all, low, sum, some) in
      let below : end_of_root w now.spot.root < length mid = omega (arith, l, all, low, sum, some, many, enough) in
      let Q : ℕ → Type 0 = λ i. IsOpenAt mid i in
      subst Q (sym e) (open_from (end_of_root w now.spot.root) mid u.still_open below)

  -- and its number and the type of its elements are these
  pub at_end : (n left : ℕ) → n ≡ length (root_list w) - before_pipes (root_list w) → left ≡ now.left → n - left ≡ end_of_root w now.spot.root
  at_end n left all l =
      let low : before_pipes (root_list w) ≤ now.spot.root = u.low in
      let sum : now.spot.root + now.left ≡ length (root_list w) = u.all in
      omega (arith, l, all, low, sum)

  pub at_root : (n left : ℕ) → n ≡ length (root_list w) - before_pipes (root_list w) → left ≡ now.left → before_pipes (root_list w) + (n - left) ≡ now.spot.root
  at_root n left all l =
      let low : before_pipes (root_list w) ≤ now.spot.root = u.low in
      let sum : now.spot.root + now.left ≡ length (root_list w) = u.all in
      omega (arith, l, all, low, sum)

pub below_all : (w : Setting) (first now : IntakeSeen) (s : SourceOver) (e : EndsSeen) (t : DecodingSeen) → IsUnderWay w first now s e t → (n left : ℕ)
    → n ≡ length (root_list w) - before_pipes (root_list w) → left ≡ now.left → 0 < left → n - left < n
below_all w first now s e t u n left all l some =
    let low : before_pipes (root_list w) ≤ now.spot.root = u.low in
    let sum : now.spot.root + now.left ≡ length (root_list w) = u.all in
    omega (arith, l, all, low, sum, some)
