-- The cells that reading leaves: a value that is set, cells that are added, and the pointers of all.
use Rattle.std.proofs.Common.{◌≡◌, ℕ, ◌+◌, ◌<◌, ◌≤◌, zero, suc, List, [], ◌∷◌, ◌++◌, length, Some, refl, ap, ap₂, sym, ◌∙◌, inl, inr, ◌⊎◌, arith, subst, append_assoc}
use Rattle.std.specs.List.{AllByRecursion, slice_get}
use Rattle.std.proofs.lemmas.List.{append-nil}
use Rattle.std.proofs.lemmas.Option.{same_Some}
use Rattle.nd_base.specs.declared.octets.Order.{Order}
use Rattle.nd_types.specs.Table.{Table, type_at}
use Rattle.nd_types.specs.Roots.{Root}
use Rattle.nd_value.specs.declared.item.Home.{Home}
use Rattle.nd_value.specs.declared.item.Home.TheVariants as home
use Rattle.nd_value.specs.Tree.{Tree, none, more, Referent}
use Rattle.nd_value.specs.Setting.{unread, cell_home}
use Rattle.nd_value.specs.Deferral.{Pending, home_pointers}
use Rattle.nd_value.specs.Conforms.{root_pointers, cell_pointers, AllEarlier, ShareOnlyIfFull}
use Rattle.nd_value.proofs.Apart.{all_append, all_left, all_right, all_weaker, moved}
use Rattle.nd_grammar.specs.Entry.{EntryAt}
use Rattle.nd_grammar.specs.Reader.{Progress, Names}
use Rattle.nd_grammar.specs.StreamReader.{with_value}
use Rattle.nd_grammar.proofs.reader.ReaderNames.{Extends, pointer_later, joined_apart}
use Rattle.nd_grammar.specs.ReaderState.{cell_in, Linked, LinkedOne, PointerAt, PointerOk, PointersOk, NumberOk, NumbersOk, CellMade, no_names}
use Rattle.nd_grammar.proofs.reader.ReaderLeaves.{value_pointers, first_value, no_pointer_unread}
use Rattle.nd_grammar.proofs.reader.MadeTrees.{one_made, unread_made}
use Rattle.nd_grammar.specs.MadeTrees.{MadeTrees}

-- the cells with the value of one
abbrev pub set : ℕ → Tree → List Referent → List Referent
set c v cells = (with_value c v (record { cells = cells; numbers = [] })).cells

pub set_length : (c : ℕ) (v : Tree) (cells : List Referent) → length (set c v cells) ≡ length cells
set_length zero v cells = refl
set_length (suc i) v [] = refl
set_length (suc zero) v (x ∷ cells) = refl
set_length (suc (suc i)) v (x ∷ cells) = ap suc (set_length (suc i) v cells)

pub set_same : (c : ℕ) (v : Tree) (cells : List Referent) (x : Referent) → cell_in cells c ≡ Some x → cell_in (set c v cells) c ≡ Some (record { of = x.of; val = v })
set_same zero v cells x e = cc
set_same (suc i) v [] x e = cc
set_same (suc zero) v (y ∷ cells) x e = ap (λ u. Some (record { of = u.of; val = v })) (same_Some _ _ e)
set_same (suc (suc i)) v (y ∷ cells) x e = set_same (suc i) v cells x e

pub set_other : (c k : ℕ) (v : Tree) (cells : List Referent) → (c ≡ k → ⊥) → cell_in (set c v cells) k ≡ cell_in cells k
set_other zero k v cells n = refl
set_other (suc i) zero v cells n = refl
set_other (suc i) (suc k) v [] n = refl
set_other (suc zero) (suc zero) v (x ∷ cells) n = absurd (n refl)
set_other (suc zero) (suc (suc k)) v (x ∷ cells) n = refl
set_other (suc (suc i)) (suc zero) v (x ∷ cells) n = refl
set_other (suc (suc i)) (suc (suc k)) v (x ∷ cells) n = set_other (suc i) (suc k) v cells (λ e. n (ap suc e))

-- a cell keeps its type
pub set_type : (c k : ℕ) (v : Tree) (cells : List Referent) (x : Referent) → cell_in cells k ≡ Some x → (y : Referent) × (cell_in (set c v cells) k ≡ Some y) × (y.of ≡ x.of)
set_type zero k v cells x e = (x, e, refl)
set_type (suc i) zero v cells x e = cc
set_type (suc i) (suc k) v [] x e = cc
set_type (suc zero) (suc zero) v (y ∷ cells) x e = (record { of = y.of; val = v }, refl, ap (λ u. u.of) (same_Some _ _ e))
set_type (suc zero) (suc (suc k)) v (y ∷ cells) x e = (x, e, refl)
set_type (suc (suc i)) (suc zero) v (y ∷ cells) x e = (x, e, refl)
set_type (suc (suc i)) (suc (suc k)) v (y ∷ cells) x e = set_type (suc i) (suc k) v cells x e

pub set_made : (table : Table) (c : ℕ) (v : Tree) (cells : List Referent) (x : Referent) → cell_in cells c ≡ Some x → MadeTrees table (x.of ∷ []) (more v none)
    → AllByRecursion (CellMade table) cells → AllByRecursion (CellMade table) (set c v cells)
set_made table zero v cells x e m a = a
set_made table (suc i) v [] x e m a = a
set_made table (suc zero) v (y ∷ cells) x e m a = (subst (λ u. MadeTrees table (u.of ∷ []) (more v none)) (sym (same_Some _ _ e)) m, a.1)
set_made table (suc (suc i)) v (y ∷ cells) x e m a = (a.0, set_made table (suc i) v cells x e m a.1)

pub blank_made : (table : Table) (new : List Referent) → AllByRecursion (λ x. x.val ≡ unread) new → AllByRecursion (CellMade table) new
blank_made table [] a = tt
blank_made table (x ∷ new) a =
    (subst (λ u. MadeTrees table (x.of ∷ []) (more u none)) (sym a.0) (one_made table x.of unread (unread_made table (type_at table x.of))), blank_made table new a.1)

-- the pointers of a whole value
pub value_is : (table : Table) (h : Home) (t : ℕ) (v : Tree) → home_pointers table h t v ≡ value_pointers table h (type_at table t) 0 [] v
value_is table h t v = first_value table h t [] [] 0 v none ∙ append-nil (value_pointers table h (type_at table t) 0 [] v)

pub unread_pointers : (table : Table) (h : Home) (t : ℕ) → home_pointers table h t unread ≡ []
unread_pointers table h t = value_is table h t unread ∙ append-nil _ ∙ no_pointer_unread (type_at table t) h 0 []

blank_pointers : (table : Table) (n : ℕ) (new : List Referent) → AllByRecursion (λ x. x.val ≡ unread) new → cell_pointers table n new ≡ []
blank_pointers table n [] a = refl
blank_pointers table n (x ∷ new) a =
    ap₂ (λ u v. u ++ v) (ap (home_pointers table (cell_home n) x.of) a.0 ∙ unread_pointers table (cell_home n) x.of) (blank_pointers table (n + 1) new a.1)

-- cells that are added blank have no pointers
pub more_pointers : (table : Table) (n : ℕ) (cells new : List Referent) → AllByRecursion (λ x. x.val ≡ unread) new → cell_pointers table n (cells ++ new) ≡ cell_pointers table n cells
more_pointers table n [] new a = blank_pointers table n new a
more_pointers table n (x ∷ cells) new a = ap (λ u. home_pointers table (cell_home n) x.of x.val ++ u) (more_pointers table (n + 1) cells new a)

-- the pointers of the cells, where one that was blank gets a value
pub record Inserted (table : Table) (n c : ℕ) (t : ℕ) (v : Tree) (cells after : List Referent) : Type 0 where
  pub before : List Pending
  pub behind : List Pending
  pub was : cell_pointers table n cells ≡ before ++ behind
  pub is : cell_pointers table n after ≡ before ++ (home_pointers table (cell_home c) t v ++ behind)

pub set_pointers : (table : Table) (n i : ℕ) (v : Tree) (cells : List Referent) (x : Referent) → slice_get cells i ≡ Some x → x.val ≡ unread
    → Inserted table n (n + i) x.of v cells (set (suc i) v cells)
set_pointers table n i v [] x e b = cc
set_pointers table n zero v (y ∷ cells) x e b =
    let s : y ≡ x = same_Some _ _ e in
    let z : n ≡ n + 0 = omega arith in
    record {
      before = [];
      behind = cell_pointers table (n + 1) cells;
      was = ap (λ u. u ++ cell_pointers table (n + 1) cells)
          (ap (λ u. home_pointers table (cell_home n) y.of u.val) s ∙ ap (home_pointers table (cell_home n) y.of) b ∙ unread_pointers table (cell_home n) y.of);
      is = ap₂ (λ k u. home_pointers table (cell_home k) u v ++ cell_pointers table (n + 1) cells) z (ap (λ u. u.of) s);
    }
set_pointers table n (suc i) v (y ∷ cells) x e b =
    let r : Inserted table (n + 1) (n + 1 + i) x.of v cells (set (suc i) v cells) = set_pointers table (n + 1) i v cells x e b in
    let z : n + 1 + i ≡ n + suc i = omega arith in
    let H : List Pending = home_pointers table (cell_home n) y.of y.val in
    record {
      before = H ++ r.before;
      behind = r.behind;
      was = ap (λ u. H ++ u) r.was ∙ sym (append_assoc H r.before r.behind);
      is = ap (λ u. H ++ u) r.is ∙ sym (append_assoc H r.before _) ∙ ap (λ k. (H ++ r.before) ++ (home_pointers table (cell_home k) x.of v ++ r.behind)) z;
    }

pub no_roots : (table : Table) (n : ℕ) (rs : List Root) → root_pointers table n rs [] ≡ []
no_roots table n [] = refl
no_roots table n (r ∷ rs) = refl

-- the pointers of the roots, with one root more
pub root_more : (table : Table) (n : ℕ) (rs : List Root) (vs : List Tree) (r : Root) (v : Tree) → slice_get rs (length vs) ≡ Some r
    → root_pointers table n rs (vs ++ v ∷ []) ≡ root_pointers table n rs vs ++ home_pointers table (home.Root (n + length vs)) r.of v
root_more table n [] vs r v e = cc
root_more table n (q ∷ rs) [] r v e =
    let s : q ≡ r = same_Some _ _ e in
    let z : n ≡ n + 0 = omega arith in
    ap (λ u. home_pointers table (home.Root n) q.of v ++ u) (no_roots table (n + 1) rs) ∙ append-nil (home_pointers table (home.Root n) q.of v)
    ∙ ap₂ (λ k u. home_pointers table (home.Root k) u.of v) z s
root_more table n (q ∷ rs) (u ∷ vs) r v e =
    let z : n + 1 + length vs ≡ n + suc (length vs) = omega arith in
    let H : List Pending = home_pointers table (home.Root n) q.of u in
    ap (λ k. H ++ k) (root_more table (n + 1) rs vs r v e ∙ ap (λ k. root_pointers table (n + 1) rs vs ++ home_pointers table (home.Root k) r.of v) z)
    ∙ sym (append_assoc H (root_pointers table (n + 1) rs vs) _)

turned : (p q : Pending) → ShareOnlyIfFull p q → ShareOnlyIfFull q p
turned p q m c e f = let r = m c f e in (r.1, r.0)

pub cell_positive : (cells : List Referent) (c : ℕ) (x : Referent) → cell_in cells c ≡ Some x → 0 < c
cell_positive cells zero x e = cc
cell_positive cells (suc i) x e = omega arith

-- a pointer that was read is one that was read since the beginning
from_start : (b c : Names) (p : Pending) → PointerOk b c p → PointerOk no_names c p
from_start b c p ok k e =
    let a : PointerAt b c p k = ok k e in
    let (x, f, g) = a.there in
    record { there = a.there; within = a.within; new_or_full = inl (cell_positive c.cells k x f); full = a.full; not_full = a.not_full }

-- pointers that are read later may be put between the earlier ones
pub put_between : (b c : Names) (us vs new : List Pending) → Extends b c → PointersOk no_names b (us ++ vs) → PointersOk b c new → PointersOk no_names c (us ++ (new ++ vs))
put_between b c us vs new e x y =
    let earlier : AllByRecursion (PointerOk no_names c) (us ++ vs) = all_weaker (PointerOk no_names b) (PointerOk no_names c) (λ p z. pointer_later no_names b c e p z) (us ++ vs) x.each in
    let later : AllByRecursion (PointerOk no_names c) new = all_weaker (PointerOk b c) (PointerOk no_names c) (λ p z. from_start b c p z) new y.each in
    let joined : AllEarlier ShareOnlyIfFull ((us ++ vs) ++ new) = joined_apart no_names b c (us ++ vs) new x.each y.each x.apart y.apart in
    let e1 : (us ++ vs) ++ new ≡ us ++ (vs ++ (new ++ [])) = append_assoc us vs new ∙ ap (λ u. us ++ (vs ++ u)) (sym (append-nil new)) in
    let e2 : us ++ (new ++ (vs ++ [])) ≡ us ++ (new ++ vs) = ap (λ u. us ++ (new ++ u)) (append-nil vs) in
    record {
      each =
          all_append (PointerOk no_names c) us (new ++ vs) (all_left (PointerOk no_names c) us vs earlier)
          (all_append (PointerOk no_names c) new vs later (all_right (PointerOk no_names c) us vs earlier));
      apart = subst (AllEarlier ShareOnlyIfFull) e2 (moved ShareOnlyIfFull turned us vs new [] (subst (AllEarlier ShareOnlyIfFull) e1 joined));
    }

-- a value that is set leaves the names as they are
module _ (c : ℕ) (v : Tree) (s : Names) where
  pub value_length : length (with_value c v s).cells ≡ length s.cells
  value_length = set_length c v s.cells

  pointer_kept : (a : Names) (p : Pending) → PointerOk a s p → PointerOk a (with_value c v s) p
  pointer_kept a p ok k e =
      let q : PointerAt a s p k = ok k e in
      let (x, f, g) = q.there in
      let (y, i, j) = set_type c k v s.cells x f in
      record {
        there = (y, i, j ∙ g);
        within = subst (λ u. k ≤ u) (sym value_length) q.within;
        new_or_full = q.new_or_full;
        full = q.full;
        not_full = q.not_full;
      }

  pub pointers_kept : (a : Names) (ps : List Pending) → PointersOk a s ps → PointersOk a (with_value c v s) ps
  pointers_kept a ps ok = record { each = all_weaker (PointerOk a s) (PointerOk a (with_value c v s)) (λ p z. pointer_kept a p z) ps ok.each; apart = ok.apart }

  pub numbers_kept : NumbersOk s → NumbersOk (with_value c v s)
  numbers_kept k = record { each = subst (λ n. AllByRecursion (NumberOk n) s.numbers) (sym value_length) k.each; apart = k.apart }

  module _ (order : Order) (octets : List ℕ) where
    links_kept : (seen : List EntryAt) (xs : List (ℕ × ℕ)) → AllByRecursion (LinkedOne order octets seen s.cells) xs
        → AllByRecursion (LinkedOne order octets seen (with_value c v s).cells) xs
    links_kept seen [] a = tt
    links_kept seen (x ∷ xs) a =
        let (y, f, g) = a.0 in
        let (z, i, j) = set_type c x.1 v s.cells y f in
        ((z, i, (λ to h. g to h ∙ sym j)), links_kept seen xs a.1)

    pub linked_kept : (p : Progress) → Linked order octets p s → Linked order octets p (with_value c v s)
    linked_kept p l = record { all = links_kept p.seen s.numbers l.all }

-- a cell among cells with blank ones after them
pub old_or_blank : (cells new : List Referent) → AllByRecursion (λ x. x.val ≡ unread) new → (c : ℕ) (x : Referent) → cell_in (cells ++ new) c ≡ Some x
    → (cell_in cells c ≡ Some x) ⊎ (x.val ≡ unread)
old_or_blank cells new a zero x e = cc
old_or_blank [] new a (suc i) x e = inr (blank_at new i e a)
  where
    blank_at : (new : List Referent) (i : ℕ) → slice_get new i ≡ Some x → AllByRecursion (λ x. x.val ≡ unread) new → x.val ≡ unread
    blank_at [] i e a = cc
    blank_at (y ∷ new) zero e a = ap (λ u. u.val) (sym (same_Some _ _ e)) ∙ a.0
    blank_at (y ∷ new) (suc i) e a = blank_at new i e a.1
old_or_blank (y ∷ cells) new a (suc zero) x e = inl e
old_or_blank (y ∷ cells) new a (suc (suc i)) x e = old_or_blank cells new a (suc i) x e
