-- The search for the cells that are reached finds them.
-- `g` is a graph, `t` a tree, `b`, `c` and `d` are cells' numbers, `cs` some of them, `s` is how far the search has come, `ms` are marks.
use Rattle.std.proofs.Common.{◌≡◌, ◌⊎◌, inl, inr, ℕ, ◌+◌, ◌<◌, ◌≤◌, zero, suc, Bool, true, false, List, [], ◌∷◌, ◌++◌, length, drop, get_or, set, replicate, Option, Some, None, refl, ap, sym, ◌∙◌}
use Rattle.std.proofs.Common.{subst, arith, append_assoc, length-append, below_more, zero-add}
use Rattle.std.specs.List.{AllByRecursion, slice_get}
use Rattle.std.proofs.lemmas.List.{append-nil}
use Rattle.nd_value.specs.declared.value.Graph.{Graph}
use Rattle.nd_value.specs.declared.value.CellId.{CellId}
use Rattle.nd_value.specs.Tree.{Tree, Trees, Referent, none, more}
use Rattle.nd_value.specs.Setting.{Among, cell_at, cell_tree, or_unread}
use Rattle.nd_value.specs.Names.{cells_in, named_by, AreThere, HasNames}
use Rattle.nd_fit.specs.Reach.{Reach, root_names, cell_names, Search, searched, is_marked, note_by, note, note_roots, HaveMarks, AreMarked, unmarked, Searching, TellsReach, TellsMark}
use Rattle.nd_flat.proofs.Frames.{all_as, all_both, all_get}
use Rattle.nd_lemmas.proofs.Lists.{marked_here as sets, marks_length as set_length}

-- Lists
pub all_among : {A : Type 0} (P : A → Type 0) (xs : List A) (x : A) → AllByRecursion P xs → Among xs x → P x
all_among P [] x h a = absurd a
all_among P (y ∷ ys) x h a = elim a as (λ v. P x) [ inl e ↦ subst P (sym e) h.0 | inr b ↦ all_among P ys x h.1 b ]

pub among_all : {A : Type 0} (P : A → Type 0) (xs : List A) → ((x : A) → Among xs x → P x) → AllByRecursion P xs
among_all P [] f = tt
among_all P (x ∷ xs) f = (f x (inl refl), among_all P xs (λ y a. f y (inr a)))

among_left : {A : Type 0} (xs ys : List A) (x : A) → Among xs x → Among (xs ++ ys) x
among_left [] ys x a = absurd a
among_left (y ∷ xs) ys x a = elim a as (λ v. Among (y ∷ (xs ++ ys)) x) [ inl e ↦ inl e | inr b ↦ inr (among_left xs ys x b) ]

among_last : {A : Type 0} (xs : List A) (x : A) → Among (xs ++ x ∷ []) x
among_last [] x = inl refl
among_last (y ∷ xs) x = inr (among_last xs x)

get_left : (xs ys : List ℕ) (i : ℕ) → i < length xs → get_or (xs ++ ys) i 0 ≡ get_or xs i 0
get_left [] ys i l = absurd (omega (arith, l))
get_left (x ∷ xs) ys zero l = refl
get_left (x ∷ xs) ys (suc i) l = get_left xs ys i (omega (arith, l))

among_get : (xs : List ℕ) (x : ℕ) → Among xs x → (i : ℕ) × (i < length xs) × (get_or xs i 0 ≡ x)
among_get [] x a = absurd a
among_get (y ∷ xs) x a =
    elim a as (λ v. (i : ℕ) × (i < length (y ∷ xs)) × (get_or (y ∷ xs) i 0 ≡ x)) [
      | inl e ↦ (0, omega arith, sym e)
      | inr b ↦ let f : (i : ℕ) × (i < length xs) × (get_or xs i 0 ≡ x) = among_get xs x b in (suc f.0, omega (arith, f.1), f.2)
    ]

-- Marks
set_keeps : (ms : List Bool) (c d : ℕ) → get_or ms d false ≡ true → get_or (set ms c true) d false ≡ true
set_keeps [] zero d h = h
set_keeps [] (suc c) d h = h
set_keeps (m ∷ ms) zero zero h = refl
set_keeps (m ∷ ms) zero (suc d) h = h
set_keeps (m ∷ ms) (suc c) zero h = h
set_keeps (m ∷ ms) (suc c) (suc d) h = set_keeps ms c d h

set_only : (ms : List Bool) (c d : ℕ) → get_or (set ms c true) d false ≡ true → (d ≡ c) ⊎ (get_or ms d false ≡ true)
set_only [] zero d h = inr h
set_only [] (suc c) d h = inr h
set_only (m ∷ ms) zero zero h = inl refl
set_only (m ∷ ms) zero (suc d) h = inr h
set_only (m ∷ ms) (suc c) zero h = inr h
set_only (m ∷ ms) (suc c) (suc d) h =
    elim (set_only ms c d h) as (λ v. (suc d ≡ suc c) ⊎ (get_or ms d false ≡ true)) [ inl e ↦ inl (ap suc e) | inr b ↦ inr b ]

unmarked_set : (ms : List Bool) (c : ℕ) → c < length ms → get_or ms c false ≡ false → suc (unmarked (set ms c true)) ≡ unmarked ms
unmarked_set [] c l h = absurd (omega (arith, l))
unmarked_set (true ∷ ms) zero l h = cc
unmarked_set (false ∷ ms) zero l h = refl
unmarked_set (true ∷ ms) (suc c) l h = unmarked_set ms c (omega (arith, l)) h
unmarked_set (false ∷ ms) (suc c) l h = ap suc (unmarked_set ms c (omega (arith, l)) h)

-- One cell
by_length : (b : Bool) (c : ℕ) (s : Search) → length (note_by b c s).marks ≡ length s.marks
by_length true c s = refl
by_length false c s = set_length s.marks c

by_keeps : (b : Bool) (c : ℕ) (s : Search) (d : ℕ) → is_marked s d ≡ true → is_marked (note_by b c s) d ≡ true
by_keeps true c s d h = h
by_keeps false c s d h = set_keeps s.marks c d h

by_marks : (b : Bool) (c : ℕ) (s : Search) → is_marked s c ≡ b → c < length s.marks → is_marked (note_by b c s) c ≡ true
by_marks true c s e l = e
by_marks false c s e l = sets s.marks c l

by_all : (P : ℕ → Type 0) (b : Bool) (c : ℕ) (s : Search) → AllByRecursion P s.queue → P c → AllByRecursion P (note_by b c s).queue
by_all P true c s h p = h
by_all P false c s h p = all_both P s.queue (c ∷ []) h (p, tt)

by_queued : (b : Bool) (c : ℕ) (s : Search) → ((d : ℕ) → is_marked s d ≡ true → Among s.queue d)
    → (d : ℕ) → is_marked (note_by b c s) d ≡ true → Among (note_by b c s).queue d
by_queued true c s f d h = f d h
by_queued false c s f d h =
    elim (set_only s.marks c d h) as (λ v. Among (s.queue ++ c ∷ []) d) [
      | inl e ↦ subst (λ x. Among (s.queue ++ x ∷ []) d) e (among_last s.queue d)
      | inr b ↦ among_left s.queue (c ∷ []) d (f d b)
    ]

by_get : (b : Bool) (c : ℕ) (s : Search) (i : ℕ) → i < length s.queue → get_or (note_by b c s).queue i 0 ≡ get_or s.queue i 0
by_get true c s i l = refl
by_get false c s i l = get_left s.queue (c ∷ []) i l

by_longer : (b : Bool) (c : ℕ) (s : Search) → length s.queue ≤ length (note_by b c s).queue
by_longer true c s = omega arith
by_longer false c s = omega (arith, length-append s.queue (c ∷ []))

by_few : (b : Bool) (c : ℕ) (s : Search) → is_marked s c ≡ b → c < length s.marks
    → length (note_by b c s).queue + unmarked (note_by b c s).marks ≡ length s.queue + unmarked s.marks
by_few true c s e l = refl
by_few false c s e l = omega (arith, length-append s.queue (c ∷ []), unmarked_set s.marks c l e)

-- Several cells
pub note-append : (xs ys : List ℕ) (s : Search) → note (xs ++ ys) s ≡ note ys (note xs s)
note-append [] ys s = refl
note-append (c ∷ xs) ys s = note-append xs ys (note_by (is_marked s c) c s)

pub note_length : (cs : List ℕ) (s : Search) → length (note cs s).marks ≡ length s.marks
note_length [] s = refl
note_length (c ∷ cs) s = note_length cs (note_by (is_marked s c) c s) ∙ by_length (is_marked s c) c s

note_keeps : (cs : List ℕ) (s : Search) (d : ℕ) → is_marked s d ≡ true → is_marked (note cs s) d ≡ true
note_keeps [] s d h = h
note_keeps (c ∷ cs) s d h = note_keeps cs (note_by (is_marked s c) c s) d (by_keeps (is_marked s c) c s d h)

pub have_on : (cs : List ℕ) (ms ms' : List Bool) → length ms' ≡ length ms → HaveMarks ms cs → HaveMarks ms' cs
have_on cs ms ms' e h = all_as (λ c. c < length ms) (λ c. c < length ms') cs (λ c l. omega (arith, l, e)) h

note_marks : (cs : List ℕ) (s : Search) → HaveMarks s.marks cs → AreMarked (note cs s) cs
note_marks [] s h = tt
note_marks (c ∷ cs) s h =
    let r : Search = note_by (is_marked s c) c s in
    (note_keeps cs r c (by_marks (is_marked s c) c s refl h.0), note_marks cs r (have_on cs s.marks r.marks (by_length (is_marked s c) c s) h.1))

note_all : (P : ℕ → Type 0) (cs : List ℕ) (s : Search) → AllByRecursion P s.queue → AllByRecursion P cs → AllByRecursion P (note cs s).queue
note_all P [] s h p = h
note_all P (c ∷ cs) s h p = note_all P cs (note_by (is_marked s c) c s) (by_all P (is_marked s c) c s h p.0) p.1

note_queued : (cs : List ℕ) (s : Search) → ((d : ℕ) → is_marked s d ≡ true → Among s.queue d) → (d : ℕ) → is_marked (note cs s) d ≡ true → Among (note cs s).queue d
note_queued [] s f = f
note_queued (c ∷ cs) s f = note_queued cs (note_by (is_marked s c) c s) (by_queued (is_marked s c) c s f)

note_get : (cs : List ℕ) (s : Search) (i : ℕ) → i < length s.queue → get_or (note cs s).queue i 0 ≡ get_or s.queue i 0
note_get [] s i l = refl
note_get (c ∷ cs) s i l =
    let r : Search = note_by (is_marked s c) c s in
    let m : length s.queue ≤ length r.queue = by_longer (is_marked s c) c s in
    note_get cs r i (omega arith) ∙ by_get (is_marked s c) c s i l

note_few : (cs : List ℕ) (s : Search) → HaveMarks s.marks cs → length (note cs s).queue + unmarked (note cs s).marks ≡ length s.queue + unmarked s.marks
note_few [] s h = refl
note_few (c ∷ cs) s h =
    let r : Search = note_by (is_marked s c) c s in
    note_few cs r (have_on cs s.marks r.marks (by_length (is_marked s c) c s) h.1) ∙ by_few (is_marked s c) c s refl h.0

pub all_front : {A : Type 0} (P : A → Type 0) (xs ys : List A) → AllByRecursion P (xs ++ ys) → AllByRecursion P xs
all_front P [] ys h = tt
all_front P (x ∷ xs) ys h = (h.0, all_front P xs ys h.1)

pub all_back : {A : Type 0} (P : A → Type 0) (xs ys : List A) → AllByRecursion P (xs ++ ys) → AllByRecursion P ys
all_back P [] ys h = h
all_back P (x ∷ xs) ys h = all_back P xs ys h.1

module _ (g : Graph) (names : HasNames g) where
  cell_there : (n i : ℕ) (xs : List Referent) → i < length xs → AllByRecursion (λ x. AreThere n (named_by x.val)) xs → AreThere n (named_by (cell_tree (slice_get xs i)))
  cell_there n i [] l h = absurd (omega (arith, l))
  cell_there n zero (x ∷ xs) l h = h.0
  cell_there n (suc i) (x ∷ xs) l h = cell_there n i xs (omega (arith, l)) h.1

  -- the cells that a cell names are there
  pub named_there : (b : ℕ) → 0 < b → b ≤ length g.cells → AreThere (length g.cells) (named_by (cell_at g b))
  named_there zero lo hi = absurd (omega (arith, lo))
  named_there (suc i) lo hi = cell_there (length g.cells) i g.cells (omega (arith, hi)) names.cells

  pub have_there : (ms : List Bool) (cs : List ℕ) → length ms ≡ suc (length g.cells) → AreThere (length g.cells) cs → HaveMarks ms cs
  have_there ms cs e h =
      all_as (λ c. (0 < c) × (c ≤ length g.cells)) (λ c. c < length ms) cs (λ c p. let q : c ≤ length g.cells = p.1 in omega (arith, q, e)) h

  -- a root more
  root_turn : (rs : List Tree) (s : Search) (t : Tree) → Among g.roots t → AreThere (length g.cells) (named_by t) → Searching g rs s 0
      → Searching g (rs ++ t ∷ []) (note (named_by t) s) 0
  root_turn rs s t a th h =
      let cs : List ℕ = named_by t in
      let have : HaveMarks s.marks cs = have_there s.marks cs h.marks th in
      record {
        sound = note_all (Reach g) cs s h.sound (among_all (Reach g) cs (λ c m. root_names t a m));
        there = note_all (λ c. (0 < c) × (c ≤ length g.cells)) cs s h.there th;
        queued = note_queued cs s h.queued;
        roots =
            all_both (λ t. AreMarked (note cs s) (named_by t)) rs (t ∷ [])
            (all_as (λ t. AreMarked s (named_by t)) (λ t. AreMarked (note cs s) (named_by t)) rs
            (λ t m. all_as (λ c. is_marked s c ≡ true) (λ c. is_marked (note cs s) c ≡ true) (named_by t) (note_keeps cs s) m) h.roots)
            (note_marks cs s have, tt);
        closed = λ i l. absurd (omega (arith, l));
        marks = note_length cs s ∙ h.marks;
        few = note_few cs s have ∙ h.few;
      }

  roots_turn : (ts rs : List Tree) (s : Search) → ((t : Tree) → Among ts t → Among g.roots t) → AllByRecursion (λ t. AreThere (length g.cells) (named_by t)) ts
      → Searching g rs s 0 → Searching g (rs ++ ts) (note_roots ts s) 0
  roots_turn [] rs s f th h = subst (λ x. Searching g x s 0) (sym (append-nil rs)) h
  roots_turn (t ∷ ts) rs s f th h =
      subst (λ x. Searching g x (note_roots ts (note (named_by t) s)) 0) (append_assoc rs (t ∷ []) ts)
      (roots_turn ts (rs ++ t ∷ []) (note (named_by t) s) (λ u a. f u (inr a)) th.1 (root_turn rs s t (f t (inl refl)) th.0 h))

  no_mark : (n c : ℕ) → get_or (replicate n false) c false ≡ false
  no_mark zero c = refl
  no_mark (suc n) zero = refl
  no_mark (suc n) (suc c) = no_mark n c

  all_unmarked : (n : ℕ) → unmarked (replicate n false) ≡ n
  all_unmarked zero = refl
  all_unmarked (suc n) = ap suc (all_unmarked n)

  marks_count : (n : ℕ) → length (replicate {A = Bool} n false) ≡ n
  marks_count zero = refl
  marks_count (suc n) = ap suc (marks_count n)

  first_search : Searching g [] (searched (replicate (suc (length g.cells)) false) []) 0
  first_search = record {
    sound = tt;
    there = tt;
    queued = λ c h. let e : false ≡ true = sym (no_mark (suc (length g.cells)) c) ∙ h in absurd cc;
    roots = tt;
    closed = λ i l. absurd (omega (arith, l));
    marks = marks_count (suc (length g.cells));
    few = zero-add (unmarked (replicate (suc (length g.cells)) false)) ∙ all_unmarked (suc (length g.cells));
  }

  -- the cells that the roots name are marked
  pub roots_searched : (s : Search) (n : ℕ) → n ≡ suc (length g.cells) → s ≡ note_roots g.roots (searched (replicate n false) []) → Searching g g.roots s 0
  roots_searched s n e f =
      subst (λ x. Searching g g.roots x 0) (sym (f ∙ ap (λ m. note_roots g.roots (searched (replicate m false) [])) e))
      (roots_turn g.roots [] (searched (replicate (suc (length g.cells)) false) []) (λ t a. a) names.roots first_search)

  -- one cell of the queue further
  pub cell_turn : (s r : Search) (at b : ℕ) → at < length s.queue → b ≡ get_or s.queue at 0 → r ≡ note (named_by (cell_at g b)) s
      → Searching g g.roots s at → Searching g g.roots r (at + 1)
  cell_turn s r at b l e f h =
      let c : ℕ = get_or s.queue at 0 in
      let cs : List ℕ = named_by (cell_at g c) in
      let found : (0 < c) × (c ≤ length g.cells) = all_get (λ x. (0 < x) × (x ≤ length g.cells)) s.queue at 0 h.there l in
      let th : AreThere (length g.cells) cs = named_there c found.0 found.1 in
      let have : HaveMarks s.marks cs = have_there s.marks cs h.marks th in
      let up : (ds : List ℕ) → AreMarked s ds → AreMarked (note cs s) ds = λ ds m. all_as (λ d. is_marked s d ≡ true) (λ d. is_marked (note cs s) d ≡ true) ds (note_keeps cs s) m in
      let P : ℕ → Type 0 = λ i. AreMarked (note cs s) (named_by (cell_at g (get_or (note cs s).queue i 0))) in
      let there : P at = subst (λ x. AreMarked (note cs s) (named_by (cell_at g x))) (sym (note_get cs s at l)) (note_marks cs s have) in
      let before : (i : ℕ) → i < at → P i = λ i lt.
      subst (λ x. AreMarked (note cs s) (named_by (cell_at g x))) (sym (note_get cs s i (omega (arith, lt, l)))) (up (named_by (cell_at g (get_or s.queue i 0))) (h.closed i lt)) in
      subst (λ x. Searching g g.roots x (at + 1)) (sym (f ∙ ap (λ x. note (named_by (cell_at g x)) s) e))
      (record {
        sound = note_all (Reach g) cs s h.sound (among_all (Reach g) cs (λ d m. cell_names c (all_get (Reach g) s.queue at 0 h.sound l) m));
        there = note_all (λ d. (0 < d) × (d ≤ length g.cells)) cs s h.there th;
        queued = note_queued cs s h.queued;
        roots = all_as (λ t. AreMarked s (named_by t)) (λ t. AreMarked (note cs s) (named_by t)) g.roots (λ t. up (named_by t)) h.roots;
        closed = below_more P at before there;
        marks = note_length cs s ∙ h.marks;
        few = note_few cs s have ∙ h.few;
      })

  module _ (s : Search) (h : Searching g g.roots s (length s.queue)) where
    marked_reach : (c : ℕ) → is_marked s c ≡ true → Reach g c
    marked_reach c m = all_among (Reach g) s.queue c h.sound (h.queued c m)

    closed_at : (b : ℕ) → is_marked s b ≡ true → AreMarked s (named_by (cell_at g b))
    closed_at b m =
        let f : (i : ℕ) × (i < length s.queue) × (get_or s.queue i 0 ≡ b) = among_get s.queue b (h.queued b m) in
        subst (λ x. AreMarked s (named_by (cell_at g x))) f.2 (h.closed f.0 f.1)

    reach_marked : {c : ℕ} → Reach g c → is_marked s c ≡ true
    reach_marked (root_names {c} t a m) = all_among (λ d. is_marked s d ≡ true) (named_by t) c (all_among (λ u. AreMarked s (named_by u)) g.roots t h.roots a) m
    reach_marked (cell_names {c} b r m) = all_among (λ d. is_marked s d ≡ true) (named_by (cell_at g b)) c (closed_at b (reach_marked r)) m

    -- what the marks say
    pub told_reach : (o : Option CellId) → TellsMark (length g.cells) s.marks o → TellsReach g o
    told_reach None m = λ c lo hi. marked_reach c (m c lo hi)
    told_reach (Some c) m =
        (m.0, m.1, (λ r. let e : false ≡ true = sym m.2 ∙ reach_marked r in absurd cc), λ d lo lt. marked_reach d (m.3 d lo lt))

-- the next root
pub root_step : (xs : List Tree) (i : ℕ) → i < length xs → drop i xs ≡ or_unread (slice_get xs i) ∷ drop (i + 1) xs
root_step xs i l =
    let e : suc i ≡ i + 1 = omega arith in
    root_from xs i l ∙ ap (λ j. or_unread (slice_get xs i) ∷ drop j xs) e
  where
    root_from : (xs : List Tree) (i : ℕ) → i < length xs → drop i xs ≡ or_unread (slice_get xs i) ∷ drop (suc i) xs
    root_from [] i l = absurd (omega (arith, l))
    root_from (x ∷ xs) zero l = refl
    root_from (x ∷ xs) (suc i) l = root_from xs i (omega (arith, l))

pub root_left : (rs : List Tree) (i : ℕ) (t : Trees) (s r all : Search) → i < length rs → t ≡ more (or_unread (slice_get rs i)) none → r ≡ note (cells_in t) s
    → note_roots (drop i rs) s ≡ all → note_roots (drop (i + 1) rs) r ≡ all
root_left rs i t s r all l e n h =
    ap (note_roots (drop (i + 1) rs)) (n ∙ ap (λ u. note (cells_in u) s) e) ∙ ap (λ xs. note_roots xs s) (sym (root_step rs i l)) ∙ h
