-- What a search keeps.
use Rattle.std.proofs.Common.{◌≡◌, ℕ, suc, zero, ◌<◌, ◌≤◌, ◌+◌, Bool, true, false, not, eqb, cond, ◌&&◌, ◌||◌, ◌⊎◌, List, [], ◌∷◌, ◌++◌, length, get_or, set, take, replicate, Some, None, refl, sym}
use Rattle.std.proofs.Common.{ap, ◌∙◌, subst, inl, inr, arith}
use Rattle.std.specs.List.{list_any, slice_get}
use Rattle.std.proofs.lemmas.Bool.{cases_eq, cases_lt, eqb-true, eq-eqb, ne_eqb, or_left, or_right, and_from}
use Rattle.std.proofs.lemmas.List.{get_or-set_same, get_or-set_other, length-set, get_or_append_left, get_or_push, length_push, get_or_past, take_more, get_or_default, get_or-replicate}
use Rattle.std.proofs.lemmas.List.{length-replicate}
use Rattle.std.proofs.lemmas.Option.{none-some, slice_get_within, get_or_from_slice_get, slice_get-get_or}
use Rattle.std.proofs.lemmas.List.Folds.{list_all-append, list_any-append}
use Rattle.idl_cycles.specs.Graph.{parts_at, contains_itself}
use Rattle.idl_cycles.specs.GraphCycles.{reaches_within, is_marked, times_in, Waits, Comes, IsReady, is_done, Searches}
use Rattle.idl_cycles.proofs.GraphTests.{all_weaker, none_is, never_true}
use Rattle.nd_lemmas.proofs.Booleans.{first_true as first_of, second_true as second_of}
use Rattle.idl_cycles.proofs.GraphContains.{no_parts, contains_more, part_of_reached, never_comes}
use Rattle.idl_cycles.proofs.GraphPeeling.{all_of_none as done_of_none}

-- ## Counts

pub times_at_most : (number : ℕ) (xs : List ℕ) → times_in number xs ≤ length xs
times_at_most number [] = omega arith
times_at_most number (x ∷ xs) = let h = times_at_most number xs in at_most_one (eqb x number) h where
  at_most_one : (b : Bool) → times_in number xs ≤ length xs → cond b 1 0 + times_in number xs ≤ length (x ∷ xs)
  at_most_one true h = omega arith
  at_most_one false h = omega arith

pub times_none : (number : ℕ) (xs : List ℕ) → ((k : ℕ) → get_or xs k 0 < number) → times_in number xs ≡ 0
times_none number [] h = refl
times_none number (x ∷ xs) h =
    let n : eqb x number ≡ false = ne_eqb x number (λ e. let l : x < number = h 0 in omega arith) in
    let rest = times_none number xs (λ k. h (suc k)) in
    ap (λ b. cond b 1 0 + times_in number xs) n ∙ omega arith

pub times_more : (number : ℕ) (xs : List ℕ) (k : ℕ) → k < length xs → is_marked number xs k ≡ false → times_in number (set xs k number) ≡ times_in number xs + 1
times_more number [] k h n = absurd (omega arith)
times_more number (x ∷ xs) zero h n =
    let e : eqb number number ≡ true = eq-eqb number number refl in
    let a : times_in number (set (x ∷ xs) 0 number) ≡ 1 + times_in number xs = ap (λ b. cond b 1 0 + times_in number xs) e in
    let b : times_in number (x ∷ xs) ≡ 0 + times_in number xs = ap (λ b. cond b 1 0 + times_in number xs) n in
    omega arith
times_more number (x ∷ xs) (suc k) h n =
    let r = times_more number xs k (omega arith) n in
    omega arith

-- ## Coming to nodes

pub comes_none : (number : ℕ) (seen queue : List ℕ) → Comes number [] seen queue seen queue
comes_none number seen queue = record {
  same = refl;
  counts = λ e. e;
  stays = λ node m. m;
  grows = omega arith;
  before = λ place h. refl;
  new = λ place h l. absurd (omega arith);
  waits = λ node m. inl m;
  marks = refl;
  bound = λ b. b;
}

-- a node that was come to, or is none
pub comes_again : (number node : ℕ) (seen queue : List ℕ) → is_marked number seen node ≡ true → Comes number (node ∷ []) seen queue seen queue
comes_again number node seen queue m = record {
  same = refl;
  counts = λ e. e;
  stays = λ x h. h;
  grows = omega arith;
  before = λ place h. refl;
  new = λ place h l. absurd (omega arith);
  waits = λ x h. inl h;
  marks = and_from (is_marked number seen node) true m refl;
  bound = λ b. b;
}

pub comes_first : (number node : ℕ) (seen queue seen' queue' : List ℕ) → node < length seen → is_marked number seen node ≡ false → seen' ≡ set seen node number → queue' ≡ queue ++ node ∷ []
    → Comes number (node ∷ []) seen queue seen' queue'
comes_first number node seen queue seen' queue' h n s q =
    let P : List ℕ → Type 0 = λ x. Comes number (node ∷ []) seen queue x queue' in
    let Q : List ℕ → Type 0 = λ x. Comes number (node ∷ []) seen queue (set seen node number) x in
    subst P (sym s) (subst Q (sym q) made) where
      longer : length (queue ++ node ∷ []) ≡ length queue + 1
      longer = length_push queue node

      here : is_marked number (set seen node number) node ≡ true
      here = eq-eqb (get_or (set seen node number) node number) number (get_or-set_same seen node number number h)

      elsewhere : (x : ℕ) → (x ≡ node → ⊥) → is_marked number (set seen node number) x ≡ is_marked number seen x
      elsewhere x o = ap (λ y. eqb y number) (get_or-set_other seen node x number number o)

      there : (x : ℕ) → x ≡ node → is_marked number (set seen node number) x ≡ true
      there x e = ap (is_marked number (set seen node number)) e ∙ here

      bounded : ((x : ℕ) → get_or seen x 0 ≤ number) → (x : ℕ) → get_or (set seen node number) x 0 ≤ number
      bounded b x = elim (cases_eq x node) [
        | inl e ↦ let v : get_or (set seen node number) x 0 ≡ number = ap (λ y. get_or (set seen node number) y 0) e ∙ get_or-set_same seen node number 0 h in omega arith
        | inr o ↦ let v : get_or (set seen node number) x 0 ≡ get_or seen x 0 = get_or-set_other seen node x number 0 o in let l : get_or seen x 0 ≤ number = b x in omega arith
      ]

      made : Comes number (node ∷ []) seen queue (set seen node number) (queue ++ node ∷ [])
      made = record {
        same = length-set seen node number;
        counts = λ e. let t : times_in number (set seen node number) ≡ times_in number seen + 1 = times_more number seen node h n in let l : length (queue ++ node ∷ []) ≡ length queue + 1 =
            longer in omega arith;
        stays = λ x m. elim (cases_eq x node) [ inl e ↦ there x e | inr o ↦ elsewhere x o ∙ m ];
        grows = let l : length (queue ++ node ∷ []) ≡ length queue + 1 = longer in omega arith;
        before = λ place l. get_or_append_left queue (node ∷ []) 0 place l;
        new = λ place l m. let w : length (queue ++ node ∷ []) ≡ length queue + 1 = longer in
            let e : length queue ≡ place = omega arith in
            or_left (eqb node (get_or (queue ++ node ∷ []) place 0)) false (eq-eqb node (get_or (queue ++ node ∷ []) place 0) (sym (get_or_push queue node 0 place e)));
        waits = λ x m. elim (cases_eq x node) [
          | inl e ↦ inr
              (record {
                place = length queue;
                behind = omega arith;
                within = let l : length (queue ++ node ∷ []) ≡ length queue + 1 = longer in
                    omega arith;
                there = get_or_push queue node 0 (length queue) refl ∙ sym e;
              })
          | inr o ↦ inl (sym (elsewhere x o) ∙ m)
        ];
        marks = and_from (is_marked number (set seen node number) node) true here refl;
        bound = bounded;
      }

-- one list of nodes, and then another
pub comes_both : (number : ℕ) (ps qs s q s' q' s'' q'' : List ℕ) → Comes number ps s q s' q' → Comes number qs s' q' s'' q'' → Comes number (ps ++ qs) s q s'' q''
comes_both number ps qs s q s' q' s'' q'' a b = record {
  same = b.same ∙ a.same;
  counts = λ e. b.counts (a.counts e);
  stays = λ x m. b.stays x (a.stays x m);
  grows = omega (arith, a.grows, b.grows);
  before = λ place l. b.before place (omega (arith, a.grows)) ∙ a.before place l;
  new = λ place l m. elim (cases_lt place (length q')) [
    | inl u ↦ list_any-append (λ p. eqb p (get_or q'' place 0)) ps qs ∙ or_left _ _ (earlier place l u)
    | inr v ↦ list_any-append (λ p. eqb p (get_or q'' place 0)) ps qs ∙ or_right (list_any (λ p. eqb p (get_or q'' place 0)) ps) _ (b.new place v m)
  ];
  waits = λ x m. elim (b.waits x m)
      [ inl k ↦ elim (a.waits x k) [ inl g ↦ inl g | inr w ↦ inr (longer x w) ] | inr w ↦ inr (later x w) ];
  marks = list_all-append (is_marked number s'') ps qs ∙ and_from _ _ (all_weaker (is_marked number s') (is_marked number s'') b.stays ps a.marks) b.marks;
  bound = λ k. b.bound (a.bound k);
} where
  earlier : (place : ℕ) → length q ≤ place → place < length q' → list_any (λ p. eqb p (get_or q'' place 0)) ps ≡ true
  earlier place l u = ap (λ y. list_any (λ p. eqb p y) ps) (b.before place u) ∙ a.new place l u

  longer : (x : ℕ) → Waits q' (length q) x → Waits q'' (length q) x
  longer x w = record { place = w.place; behind = w.behind; within = omega (arith, b.grows, w.within); there = b.before w.place w.within ∙ w.there }

  later : (x : ℕ) → Waits q'' (length q') x → Waits q'' (length q) x
  later x w = record { place = w.place; behind = omega (arith, a.grows, w.behind); within = w.within; there = w.there }

-- one more of a list
pub comes_more : (number : ℕ) (nodes : List ℕ) (i : ℕ) (s q s' q' s'' q'' : List ℕ) → i < length nodes → Comes number (take i nodes) s q s' q'
    → Comes number (get_or nodes i 0 ∷ []) s' q' s'' q'' → Comes number (take (i + 1) nodes) s q s'' q''
comes_more number nodes i s q s' q' s'' q'' h a b =
    let P : List ℕ → Type 0 = λ ps. Comes number ps s q s'' q'' in
    subst P (sym (take_more nodes i 0 h)) (comes_both number (take i nodes) (get_or nodes i 0 ∷ []) s q s' q' s'' q'' a b)

-- ## The search

only : (b : Bool) → (b || false) ≡ true → b ≡ true
only true e = refl
only false e = e

-- it begins
pub search_begins : (graph : List (List ℕ)) (start number : ℕ) (seen queue seen' queue' : List ℕ) → IsReady graph number seen → queue ≡ [] → Comes number (start ∷ []) seen queue seen' queue'
    → Searches graph start number 0 seen' queue'
search_begins graph start number seen queue seen' queue' ready none first = let P : List ℕ → Type 0 = λ q. Comes number (start ∷ []) seen q seen' queue' in begun (subst P none first) where
  past : (node : ℕ) → is_marked number seen node ≡ true → length graph ≤ node
  past node m = elim (cases_lt node (length seen)) [
    | inl l ↦ absurd (let e : get_or seen node number ≡ number = eqb-true (get_or seen node number) number m in
        let d : get_or seen node number ≡ get_or seen node 0 = get_or_default seen node number 0 l in let b : get_or seen node 0 < number = ready.before node in omega arith)
    | inr g ↦ let c : length seen ≡ length graph = ready.count in omega arith
  ]

  begun : Comes number (start ∷ []) seen [] seen' queue' → Searches graph start number 0 seen' queue'
  begun comes = record {
    same = comes.same ∙ ready.count;
    counts = comes.counts (sym (times_none number seen ready.before));
    ahead = omega arith;
    reached = λ place h. or_left (eqb start (get_or queue' place 0)) _ (only (eqb start (get_or queue' place 0)) (comes.new place (omega arith) h));
    done = λ node m. elim (comes.waits node m) [ inl old ↦ inl (done_of_none _ _ (no_parts graph node (past node old))) | inr w ↦ inr w ];
    begun = first_of (is_marked number seen' start) true comes.marks;
    bound = comes.bound (λ node. let l : get_or seen node 0 < number = ready.before node in omega arith);
  }

-- one step
pub search_more : (graph : List (List ℕ)) (start number head node : ℕ) (seen queue seen' queue' : List ℕ) → Searches graph start number head seen queue → head < length queue
    → get_or queue head 0 ≡ node → list_any (λ p. eqb p start) (parts_at graph node) ≡ false → Comes number (parts_at graph node) seen queue seen' queue'
    → Searches graph start number (head + 1) seen' queue'
search_more graph start number head node seen queue seen' queue' s h at not_start comes = record {
  same = comes.same ∙ s.same;
  counts = comes.counts s.counts;
  ahead = omega (arith, comes.grows);
  reached = reached;
  done = done;
  begun = comes.stays start s.begun;
  bound = comes.bound s.bound;
} where
  node_done : is_done graph start number seen' node ≡ true
  node_done = none_is start (is_marked number seen') (parts_at graph node) not_start comes.marks

  head_reached : reaches_within head graph start node ≡ true
  head_reached = ap (reaches_within head graph start) (sym at) ∙ s.reached head h

  reached : (place : ℕ) → place < length queue' → reaches_within place graph start (get_or queue' place 0) ≡ true
  reached place l = elim (cases_lt place (length queue)) [
    | inl u ↦ ap (reaches_within place graph start) (comes.before place u) ∙ s.reached place u
    | inr v ↦ or_right (eqb start (get_or queue' place 0)) _ (contains_more (suc head) place graph start (get_or queue' place 0) (omega arith)
        (part_of_reached head graph start node (get_or queue' place 0) head_reached (comes.new place v l)))
  ]

  still_done : (x : ℕ) → is_done graph start number seen x ≡ true → is_done graph start number seen' x ≡ true
  still_done x d = all_weaker (λ p. not (eqb p start) && is_marked number seen p) (λ p. not (eqb p start) && is_marked number seen' p)
      (λ p w. and_from (not (eqb p start)) (is_marked number seen' p) (first_of (not (eqb p start)) (is_marked number seen p) w)
      (comes.stays p (second_of (not (eqb p start)) (is_marked number seen p) w)))
      (parts_at graph x) d

  waiting : (x : ℕ) → Waits queue head x → (is_done graph start number seen' x ≡ true) ⊎ Waits queue' (head + 1) x
  waiting x w = elim (cases_eq w.place head) [
    | inl e ↦ inl (ap (is_done graph start number seen') (sym w.there ∙ ap (λ k. get_or queue k 0) e ∙ at) ∙ node_done)
    | inr o ↦ inr (record { place = w.place; behind = beyond w.place w.behind o; within = omega (arith, comes.grows, w.within); there = comes.before w.place w.within ∙ w.there })
  ] where
    beyond : (p : ℕ) → head ≤ p → (p ≡ head → ⊥) → head + 1 ≤ p
    beyond p b o = elim (cases_lt head p) [ inl l ↦ omega arith | inr g ↦ absurd (o (omega arith)) ]

  done : (x : ℕ) → is_marked number seen' x ≡ true → (is_done graph start number seen' x ≡ true) ⊎ Waits queue' (head + 1) x
  done x m = elim (comes.waits x m) [
    | inl old ↦ elim (s.done x old) [ inl d ↦ inl (still_done x d) | inr w ↦ waiting x w ]
    | inr w ↦ inr (record { place = w.place; behind = omega (arith, w.behind); within = w.within; there = w.there })
  ]

-- it is not longer than the graph
pub queue_is_short : (graph : List (List ℕ)) (start number head : ℕ) (seen queue : List ℕ) → Searches graph start number head seen queue → length queue ≤ length graph
queue_is_short graph start number head seen queue s = omega (arith, s.counts, s.same, times_at_most number seen)

-- it comes back
pub search_comes_back : (graph : List (List ℕ)) (start number head node : ℕ) (seen queue : List ℕ) → Searches graph start number head seen queue → head < length queue
    → get_or queue head 0 ≡ node → list_any (λ p. eqb p start) (parts_at graph node) ≡ true → contains_itself graph start ≡ true
search_comes_back graph start number head node seen queue s h at is =
    let l = queue_is_short graph start number head seen queue s in
    contains_more (suc head) (length graph) graph start start (omega arith)
    (part_of_reached head graph start node start (ap (reaches_within head graph start) (sym at) ∙ s.reached head h) is)

-- it ends
pub search_ends : (graph : List (List ℕ)) (start number head : ℕ) (seen queue : List ℕ) → Searches graph start number head seen queue → length queue ≤ head
    → contains_itself graph start ≡ false
search_ends graph start number head seen queue s h =
    never_true (contains_itself graph start) (never_comes (is_marked number seen) graph start closed (length graph) start s.begun) where
      closed : (node : ℕ) → is_marked number seen node ≡ true → is_done graph start number seen node ≡ true
      closed node m = elim (s.done node m) [ inl d ↦ d | inr w ↦ absurd (omega (arith, w.behind, w.within)) ]

-- no search was made
pub ready_none : (graph : List (List ℕ)) (seen : List ℕ) → seen ≡ replicate {A = ℕ} (length graph) 0 → IsReady graph 1 seen
ready_none graph seen e = record {
  count = ap length e ∙ length-replicate {A = ℕ} (length graph) 0;
  before = λ node. let z : get_or seen node 0 ≡ 0 = ap (λ xs. get_or xs node 0) e ∙ zeros (length graph) node in omega arith;
} where
  zeros : (n node : ℕ) → get_or (replicate {A = ℕ} n 0) node 0 ≡ 0
  zeros n node = elim (cases_lt node n) [ inl l ↦ get_or-replicate n node 0 0 l | inr g ↦ get_or_past (replicate {A = ℕ} n 0) node 0 (omega (arith, length-replicate {A = ℕ} n 0)) ]

-- what is at a place, or that none does
pub place_within : (xs : List ℕ) (k x : ℕ) → Some x ≡ slice_get xs k → (k < length xs) × (get_or xs k 0 ≡ x)
place_within xs k x e = (slice_get_within xs k x (sym e), get_or_from_slice_get xs k x 0 (sym e))

pub place_past : (xs : List ℕ) (k : ℕ) → None ≡ slice_get xs k → length xs ≤ k
place_past xs k e = elim (cases_lt k (length xs)) [ inl l ↦ absurd (none-some (get_or xs k 0) (e ∙ slice_get-get_or xs k 0 l)) | inr g ↦ g ]

-- no search of the next number was made
pub ready_next : (graph : List (List ℕ)) (start number head : ℕ) (seen queue : List ℕ) → Searches graph start number head seen queue → IsReady graph (number + 1) seen
ready_next graph start number head seen queue s = record {
  count = s.same;
  before = λ node. let l : get_or seen node 0 ≤ number = s.bound node in omega arith;
}
