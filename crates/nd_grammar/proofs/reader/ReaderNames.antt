-- The names that reading leaves: cells and numbers only grow, and a number that is met again has one type of referent.
use Rattle.std.proofs.Common.{◌≡◌, ℕ, ◌+◌, ◌<◌, ◌≤◌, zero, suc, Bool, true, false, List, [], ◌∷◌, ◌++◌, length, Option, Some, None, refl, ap, ap₂, sym, ◌∙◌, inl, inr, ◌⊎◌, arith, subst, append_assoc}
use Rattle.std.proofs.Common.{length-append}
use Rattle.std.specs.Prelude.{◌||◌}
use Rattle.std.specs.List.{AllByRecursion, slice_get}
use Rattle.std.proofs.lemmas.List.{append-nil}
use Rattle.nd_base.specs.declared.octets.Order.{Order}
use Rattle.nd_types.specs.declared.types.Class.{Class}
use Rattle.nd_types.specs.declared.types.Class.TheVariants.{Ref, Unique, Full}
use Rattle.nd_value.specs.Tree.{Referent}
use Rattle.nd_value.specs.Setting.{Among, unread}
use Rattle.nd_value.specs.Deferral.{Pending}
use Rattle.nd_value.specs.Conforms.{AllEarlier, ShareOnlyIfFull}
use Rattle.nd_value.proofs.Apart.{all_append, all_weaker}
use Rattle.nd_grammar.specs.declared.reason.Reason.{Reason}
use Rattle.nd_grammar.specs.Entry.{Entry, EntryAt}
use Rattle.nd_grammar.specs.Refusal.{refusal, is_other}
use Rattle.nd_grammar.specs.Reader.{Progress, Names, here, pass, pass_all, advanced}
use Rattle.nd_grammar.specs.ReaderState.{cell_in, numbered_cells, LinkedOne, Linked, PointerOk, PointersOk}

pub get_left : {X : Type 0} (xs ys : List X) (i : ℕ) (x : X) → slice_get xs i ≡ Some x → slice_get (xs ++ ys) i ≡ Some x
get_left [] ys i x e = cc
get_left (y ∷ xs) ys zero x e = e
get_left (y ∷ xs) ys (suc i) x e = get_left xs ys i x e

pub cell_kept : (cells new : List Referent) (c : ℕ) (x : Referent) → cell_in cells c ≡ Some x → cell_in (cells ++ new) c ≡ Some x
cell_kept cells new zero x e = cc
cell_kept cells new (suc i) x e = get_left cells new i x e

get_last : (cells : List Referent) (x : Referent) → slice_get (cells ++ x ∷ []) (length cells) ≡ Some x
get_last [] x = refl
get_last (y ∷ cells) x = get_last cells x

pub last_cell : (cells : List Referent) (x : Referent) → cell_in (cells ++ x ∷ []) (length cells + 1) ≡ Some x
last_cell cells x =
    let e : suc (length cells) ≡ length cells + 1 = omega arith in
    subst (λ u. cell_in (cells ++ x ∷ []) u ≡ Some x) e (get_last cells x)

-- Names grow: the cells by new ones, unread; the numbers by some of new cells.
pub record Extends (s s' : Names) : Type 0 where
  pub new : List Referent
  pub cells : s'.cells ≡ s.cells ++ new
  pub blank : AllByRecursion (λ x. x.val ≡ unread) new
  pub more_numbers : List (ℕ × ℕ)
  pub numbers : s'.numbers ≡ more_numbers ++ s.numbers
  pub of_new : AllByRecursion (λ x. (length s.cells < x.1) × (x.1 ≤ length s'.cells)) more_numbers

pub extends_itself : (s : Names) → Extends s s
extends_itself s = record { new = []; cells = sym (append-nil s.cells); blank = tt; more_numbers = []; numbers = refl; of_new = tt }

pub longer : (s s' : Names) → Extends s s' → length s.cells ≤ length s'.cells
longer s s' e = omega (arith, ap length e.cells, length-append s.cells e.new)

pub extends_twice : (a b c : Names) → Extends a b → Extends b c → Extends a c
extends_twice a b c x y =
    let l : length a.cells ≤ length b.cells = longer a b x in
    let m : length b.cells ≤ length c.cells = longer b c y in
    record {
      new = x.new ++ y.new;
      cells = y.cells ∙ ap (λ u. u ++ y.new) x.cells ∙ append_assoc a.cells x.new y.new;
      blank = all_append _ x.new y.new x.blank y.blank;
      more_numbers = y.more_numbers ++ x.more_numbers;
      numbers = y.numbers ∙ ap (λ u. y.more_numbers ++ u) x.numbers ∙ sym (append_assoc y.more_numbers x.more_numbers a.numbers);
      of_new = all_append _ y.more_numbers x.more_numbers
          (all_weaker (λ z. (length b.cells < z.1) × (z.1 ≤ length c.cells)) (λ z. (length a.cells < z.1) × (z.1 ≤ length c.cells)) (λ z h. (omega arith, h.1)) y.more_numbers y.of_new)
          (all_weaker (λ z. (length a.cells < z.1) × (z.1 ≤ length b.cells)) (λ z. (length a.cells < z.1) × (z.1 ≤ length c.cells)) (λ z h. (h.0, omega arith)) x.more_numbers x.of_new);
    }

module _ (order : Order) (octets : List ℕ) where
  pub either_false : (x y : Bool) → (x || y) ≡ false → (x ≡ false) × (y ≡ false)
  either_false true y h = cc
  either_false false y h = (refl, h)

  other_left : (xs ys : List EntryAt) (v to : ℕ) → is_other order octets (xs ++ ys) v to ≡ false → is_other order octets xs v to ≡ false
  other_left [] ys v to e = refl
  other_left (x ∷ xs) ys v to e =
      let (a, b) = either_false _ _ e in
      ap₂ (λ p q. p || q) a (other_left xs ys v to b)

  pub other_right : (xs ys : List EntryAt) (v to : ℕ) → is_other order octets (xs ++ ys) v to ≡ false → is_other order octets ys v to ≡ false
  other_right [] ys v to e = e
  other_right (x ∷ xs) ys v to e = other_right xs ys v to (either_false _ _ e).1

  pub seen_more : (seen later : List EntryAt) (cells new : List Referent) (xs : List (ℕ × ℕ)) → AllByRecursion (LinkedOne order octets seen cells) xs
      → AllByRecursion (LinkedOne order octets (seen ++ later) (cells ++ new)) xs
  seen_more seen later cells new [] a = tt
  seen_more seen later cells new (x ∷ xs) a =
      let (y, e, f) = a.0 in
      ((y, cell_kept cells new x.1 y e, (λ to h. f to (other_left seen later x.0 to h))), seen_more seen later cells new xs a.1)

  advanced_seen : (o r : Option (ℕ × Reason)) (p : Progress) (m : Entry) → (later : List EntryAt) × ((advanced o r p m).seen ≡ p.seen ++ later)
  advanced_seen (Some x) r p m = ([], sym (append-nil p.seen))
  advanced_seen None (Some x) p m = ([], sym (append-nil p.seen))
  advanced_seen None None p m = (here p m ∷ [], refl)

  -- passing an entry keeps the links
  pub linked_pass : (p : Progress) (s : Names) (m : Entry) → Linked order octets p s → Linked order octets (pass order octets m p) s
  linked_pass p s m l =
      let (later, e) = advanced_seen p.stop (refusal order octets p.seen (here p m)) p m in
      let a : AllByRecursion (LinkedOne order octets (p.seen ++ later) (s.cells ++ [])) s.numbers = seen_more p.seen later s.cells [] s.numbers l.all in
      record {
        all = subst (λ u. AllByRecursion (LinkedOne order octets u s.cells) s.numbers) (sym e)
            (subst (λ u. AllByRecursion (LinkedOne order octets (p.seen ++ later) u) s.numbers) (append-nil s.cells) a);
      }

  pub linked_all : (p : Progress) (s : Names) (ms : List Entry) → Linked order octets p s → Linked order octets (pass_all order octets ms p) s
  linked_all p s [] l = l
  linked_all p s (m ∷ ms) l = linked_all (pass order octets m p) s ms (linked_pass p s m l)

among_numbers : (xs ys : List (ℕ × ℕ)) (c : ℕ) → Among (numbered_cells (xs ++ ys)) c → Among (numbered_cells xs) c ⊎ Among (numbered_cells ys) c
among_numbers [] ys c a = inr a
among_numbers (x ∷ xs) ys c (inl e) = inl (inl e)
among_numbers (x ∷ xs) ys c (inr a) = go (among_numbers xs ys c a)
  where
    go : Among (numbered_cells xs) c ⊎ Among (numbered_cells ys) c → Among (numbered_cells (x ∷ xs)) c ⊎ Among (numbered_cells ys) c
    go (inl b) = inl (inr b)
    go (inr b) = inr b

pub numbers_among : (xs ys : List (ℕ × ℕ)) (c : ℕ) → Among (numbered_cells ys) c → Among (numbered_cells (xs ++ ys)) c
numbers_among [] ys c a = a
numbers_among (x ∷ xs) ys c a = inr (numbers_among xs ys c a)

in_range : (low high : ℕ) (xs : List (ℕ × ℕ)) → AllByRecursion (λ x. (low < x.1) × (x.1 ≤ high)) xs → (c : ℕ) → Among (numbered_cells xs) c → low < c
in_range low high [] a c m = absurd m
in_range low high (x ∷ xs) a c (inl e) = subst (λ u. low < u) (sym e) a.0.0
in_range low high (x ∷ xs) a c (inr m) = in_range low high xs a.1 c m

-- a pointer stays such a one while the names grow after it
pub pointer_later : (a b c : Names) → Extends b c → (p : Pending) → PointerOk a b p → PointerOk a c p
pointer_later a b c e p ok k h =
    let q = ok k h in
    let (x, f, g) = q.there in
    record {
      there = (x, subst (λ u. cell_in u k ≡ Some x) (sym e.cells) (cell_kept b.cells e.new k x f), g);
      within = omega (arith, q.within, longer b c e);
      new_or_full = q.new_or_full;
      full = λ z. subst (λ u. Among (numbered_cells u) k) (sym e.numbers) (numbers_among e.more_numbers b.numbers k (q.full z));
      not_full = λ z m. later_not z (among_numbers e.more_numbers b.numbers k (subst (λ u. Among (numbered_cells u) k) e.numbers m));
    }
  where
    later_not : (p.class ≡ Full → ⊥) → Among (numbered_cells e.more_numbers) k ⊎ Among (numbered_cells b.numbers) k → ⊥
    later_not z (inl m) = let l = in_range (length b.cells) (length c.cells) e.more_numbers e.of_new k m in let w = (ok k h).within in absurd (omega arith)
    later_not z (inr m) = (ok k h).not_full z m

-- and before it
pub pointer_earlier : (a b c : Names) → Extends a b → (p : Pending) → PointerOk b c p → PointerOk a c p
pointer_earlier a b c e p ok k h =
    let q = ok k h in
    record { there = q.there; within = q.within; new_or_full = earlier_new q.new_or_full; full = q.full; not_full = q.not_full }
  where
    from_numbers : p.class ≡ Full → Among (numbered_cells e.more_numbers) k ⊎ Among (numbered_cells a.numbers) k
        → (length a.cells < k) ⊎ ((p.class ≡ Full) × Among (numbered_cells a.numbers) k)
    from_numbers f (inl m) = inl (in_range (length a.cells) (length b.cells) e.more_numbers e.of_new k m)
    from_numbers f (inr m) = inr (f, m)

    earlier_new : (length b.cells < k) ⊎ ((p.class ≡ Full) × Among (numbered_cells b.numbers) k) → (length a.cells < k) ⊎ ((p.class ≡ Full) × Among (numbered_cells a.numbers) k)
    earlier_new (inl l) = let m = longer a b e in inl (omega arith)
    earlier_new (inr (f, m)) = from_numbers f (among_numbers e.more_numbers a.numbers k (subst (λ u. Among (numbered_cells u) k) e.numbers m))

full_or_not : (k : Class) → (k ≡ Full) ⊎ (k ≡ Full → ⊥)
full_or_not Full = inl refl
full_or_not Ref = inr (λ e. cc)
full_or_not Unique = inr (λ e. cc)

-- pointers that are read one after the other share a cell only if both are full
pub share_later : (a b c : Names) (p q : Pending) → PointerOk a b p → PointerOk b c q → ShareOnlyIfFull p q
share_later a b c p q x y k e f = go (full_or_not p.class) (y k f).new_or_full
  where
    go : (p.class ≡ Full) ⊎ (p.class ≡ Full → ⊥) → (length b.cells < k) ⊎ ((q.class ≡ Full) × Among (numbered_cells b.numbers) k) → (p.class ≡ Full) × (q.class ≡ Full)
    go z (inl l) = let w = (x k e).within in absurd (omega arith)
    go (inl z) (inr (g, m)) = (z, g)
    go (inr z) (inr (g, m)) = absurd ((x k e).not_full z m)

pub no_pointers_ok : (s s' : Names) → PointersOk s s' []
no_pointers_ok s s' = record { each = tt; apart = tt }

cross : (a b c : Names) (p : Pending) (qs : List Pending) → PointerOk a b p → AllByRecursion (PointerOk b c) qs → AllByRecursion (ShareOnlyIfFull p) qs
cross a b c p [] x ys = tt
cross a b c p (q ∷ qs) x ys = (share_later a b c p q x ys.0, cross a b c p qs x ys.1)

pub joined_apart : (a b c : Names) (ps qs : List Pending) → AllByRecursion (PointerOk a b) ps → AllByRecursion (PointerOk b c) qs
    → AllEarlier ShareOnlyIfFull ps → AllEarlier ShareOnlyIfFull qs → AllEarlier ShareOnlyIfFull (ps ++ qs)
joined_apart a b c [] qs x y u v = v
joined_apart a b c (p ∷ ps) qs x y u v =
    (all_append (ShareOnlyIfFull p) ps qs u.0 (cross a b c p qs x.0 y), joined_apart a b c ps qs x.1 y u.1 v)

pub pointers_joined : (a b c : Names) (ps qs : List Pending) → Extends a b → Extends b c → PointersOk a b ps → PointersOk b c qs → PointersOk a c (ps ++ qs)
pointers_joined a b c ps qs e f x y = record {
  each =
      all_append (PointerOk a c) ps qs
      (all_weaker (PointerOk a b) (PointerOk a c) (λ p z. pointer_later a b c f p z) ps x.each)
      (all_weaker (PointerOk b c) (PointerOk a c) (λ q z. pointer_earlier a b c e q z) qs y.each);
  apart = joined_apart a b c ps qs x.each y.each x.apart y.apart;
}
