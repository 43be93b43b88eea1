-- A walk from one chunk of a pipe to the next.
-- `k` are the octets with the partial graph in which they are refused, `h` is the pipe's home, `name` its name, `t` the type of its elements, `ks` are the
-- elements of a chunk, `us` those after it, `v` is how many a chunk has.
use Rattle.std.proofs.Common.{◌≡◌, ◌⊎◌, inl, inr, ◌∙◌, ℕ, ◌+◌, ◌-◌, ◌<◌, ◌≤◌, zero, suc, List, [], ◌∷◌, ◌++◌, length, replicate, reverse, refl, sym, ap, ap₂, subst, append_assoc, arith}
use Rattle.std.proofs.Common.{length-append, mul_comm, ◌*◌}
use Rattle.std.specs.Prelude.{sum}
use Rattle.std.specs.List.{slice_get}
use Rattle.std.proofs.lemmas.List.{length-replicate}
use Rattle.nd_types.specs.Table.{Table}
use Rattle.nd_value.specs.declared.item.Home.{Home}
use Rattle.nd_value.specs.Deferral.{Placed_cells}
use Rattle.nd_value.specs.Tree.{Flat, Trees, count, drop_trees, flat, joined, more, node, node_count, none, take_trees}
use Rattle.nd_flat.proofs.Forests.{flat-joined, joined-take-drop}
use Rattle.nd_grammar.specs.Entry.{Align, Chunk, Entry, in_place}
use Rattle.nd_grammar.specs.Stream.{Cuts, chunks}
use Rattle.nd_grammar.proofs.next.NextPipes.{sum_first}
use Rattle.text_grammar.specs.Paths.{element_path}
use Rattle.text_printer.specs.Walks.{Begins}
use Rattle.ndr_explain.specs.declared.levels.Level.{Level}
use Rattle.ndr_explain.specs.declared.levels.Level.TheVariants as level
use Rattle.ndr_explain.specs.Cursors.{index_paths, level_place, name_text, no_places, path_to}
use Rattle.ndr_explain.specs.Explained.{home_flats, home_paths, path_in}
use Rattle.ndr_trace_value.specs.Untested.{untested}
use Rattle.ndr_trace_value.proofs.Untested.{untested_append, untested_values}
use Rattle.ndr_trace_value.specs.Left.{total}
use Rattle.ndr_trace_value.proofs.Left.{times_less, total_replicate}
use Rattle.ndr_trace_value.specs.declared.nodes.Walker.{Walker}
use Rattle.ndr_trace_value.specs.declared.progress.Progress.{Progress}
use Rattle.nd_types.specs.declared.types.TypeId.{TypeId}
use Rattle.ndr_trace.specs.Chunks.{AfterChunk, IsAtChunk}
use Rattle.ndr_trace_value.specs.Naming.{HasNamed, IsNaming, names_in}
use Rattle.ndr_trace_value.specs.declared.progress.Spot.{Spot}
use Rattle.ndr_trace_value.specs.Places.{home_place}
use Rattle.ndr_trace_value.specs.Tracing.{IsFrom, IsSpot, IsTracing, Known}
use Rattle.ndr_trace_value.specs.Walking.{AreOwn, AreThere, values_due}
use Rattle.ndr_trace_value.proofs.LevelWalk.{names_append, nodes_joined}
use Rattle.ndr_trace_value.proofs.Placed.{home_plain, plain_parts}
use Rattle.ndr_trace.proofs.Parts.{flat_of_first, nodes_flat, path_of_first, path_of_others}

-- ## Some values, and others after them

begins_parts : (table : Table) (types T : List ℕ) (ks us : Trees) → count ks ≡ length types → Begins table (types ++ T) (joined ks us) → Begins table types ks × Begins table T us
begins_parts table [] T none us e b = (tt, b)
begins_parts table [] T (more v ks) us e b = cc
begins_parts table (t ∷ types) T none us e b = cc
begins_parts table (t ∷ types) T (more (node l js) ks) us e b = let (x, y) = begins_parts table types T ks us (omega (arith, e)) b.1 in ((b.0, x), y)

own_parts : (k : Known) (max : ℕ) (types T : List ℕ) (ks us : Trees) → count ks ≡ length types → AreOwn k max (types ++ T) (joined ks us) → AreOwn k max types ks × AreOwn k max T us
own_parts k max [] T none us e b = (tt, b)
own_parts k max [] T (more v ks) us e b = cc
own_parts k max (t ∷ types) T none us e b = cc
own_parts k max (t ∷ types) T (more (node l js) ks) us e b =
    let (x, y) = own_parts k max types T ks us (omega (arith, e)) b.2 in ((b.0, b.1, x), y)

count_joined : (ks us : Trees) → count (joined ks us) ≡ count ks + count us
count_joined none us = omega arith
count_joined (more v ks) us = let h = count_joined ks us in omega (arith, h)

get_behind : (xs ys : List Flat) (i m : ℕ) → m ≡ length xs + i → slice_get (xs ++ ys) m ≡ slice_get ys i
get_behind [] ys i m e = ap (slice_get ys) (let f : m ≡ i = omega (arith, e) in f)
get_behind (x ∷ xs) ys i zero e = absurd (omega (arith, e))
get_behind (x ∷ xs) ys i (suc m) e = get_behind xs ys i m (omega (arith, e))

pub there_parts : (k : Known) (h : Home) (max : ℕ) (types T : List ℕ) (paths P : List (List ℕ)) (n : ℕ) (ks us : Trees) → count ks ≡ length types → length paths ≡ length types
    → AreThere k h max (types ++ T) (paths ++ P) (no_places (types ++ T)) n (joined ks us)
    → AreThere k h max types paths (no_places types) n ks × AreThere k h max T P (no_places T) (n + node_count ks) us
there_parts k h max types T paths P n ks us e f there =
    let (b, b1) = begins_parts k.setting.table types T ks us e there.begins in
    let (o, o1) = own_parts k max types T ks us e there.own in
    let (x, x1) = plain_parts (home_place k.setting k.graph h) k.setting.table types T n ks us e there.placed in
    let nodes = nodes_joined ks us in (
      record {
        begins = b;
        all = e;
        own = o;
        paths_are = λ m low high.
            there.paths_are m low (omega (arith, high, nodes)) ∙ path_of_first k.setting.table types T paths P n ks us e f m high;
        placed = x;
        flats_are = λ i low. there.flats_are i (omega (arith, low, nodes)) ∙ flat_of_first ks us i low;
      },
      record {
        begins = b1;
        all =
            (let a = there.all in
            let c = count_joined ks us in
            let d = length-append types T in
            omega (arith, a, c, d, e));
        own = o1;
        paths_are = λ m low high.
            there.paths_are m (omega (arith, low)) (omega (arith, high, nodes)) ∙ path_of_others k.setting.table types T paths P n ks us e f m low;
        placed = x1;
        flats_are = λ i low.
            ap (slice_get (home_flats k.graph h)) (add_on n (node_count ks) i) ∙ there.flats_are (node_count ks + i) (omega (arith, low, nodes))
            ∙ ap (λ fs. slice_get fs (node_count ks + i)) (flat-joined ks us)
            ∙ get_behind (flat ks) (flat us) i (node_count ks + i) (ap (λ m. m + i) (sym (nodes_flat ks)));
      },
    )
  where
    add_on : (a b c : ℕ) → a + b + c ≡ a + (b + c)
    add_on a b c = omega arith

-- ## Elements

replicate_parts : (c d m t : ℕ) → m ≡ c + d → replicate m t ≡ replicate c t ++ replicate d t
replicate_parts zero d m t e = ap (λ j. replicate j t) (let f : m ≡ d = omega (arith, e) in f)
replicate_parts (suc c) d zero t e = absurd (omega (arith, e))
replicate_parts (suc c) d (suc m) t e = ap (λ xs. t ∷ xs) (replicate_parts c d m t (omega (arith, e)))

index_parts : (p : List ℕ) (b b1 c d m : ℕ) → m ≡ c + d → b1 ≡ b + c → index_paths p b m ≡ index_paths p b c ++ index_paths p b1 d
index_parts p b b1 zero d m e f = ap₂ (λ i j. index_paths p i j) (let g : b ≡ b1 = omega (arith, f) in g) (let g : m ≡ d = omega (arith, e) in g)
index_parts p b b1 (suc c) d zero e f = absurd (omega (arith, e))
index_parts p b b1 (suc c) d (suc m) e f = ap (λ xs. element_path p b ∷ xs) (index_parts p (b + 1) b1 c d m (omega (arith, e)) (omega (arith, f)))

index_length : (p : List ℕ) (b c : ℕ) → length (index_paths p b c) ≡ c
index_length p b zero = refl
index_length p b (suc c) = ap suc (index_length p (b + 1) c)

taken : (c : ℕ) (w : Trees) → c ≤ count w → count (take_trees c w) ≡ c
taken zero w h = refl
taken (suc c) none h = absurd (omega (arith, h))
taken (suc c) (more v w) h = ap suc (taken c w (omega (arith, h)))

dropped : (c : ℕ) (w : Trees) → c ≤ count w → count w ≡ c + count (drop_trees c w)
dropped zero w h = omega arith
dropped (suc c) none h = absurd (omega (arith, h))
dropped (suc c) (more v w) h = let e = dropped c w (omega (arith, h)) in omega (arith, e)

-- ## The head of a chunk

module _ (k : Known) (h : Home) (name : List ℕ) (t before : ℕ) (rest : List Entry) (names : Placed_cells) (u : Walker) where
  -- a chunk that has elements, and what comes after them
  pub record Elements (n v : ℕ) (later : List Entry) : Type 0 where
    pub positive : 0 < v
    pub ks : Trees
    pub others : List Entry
    pub there : AreThere k h 0 (replicate v t) (index_paths name before v) (no_places (replicate v t)) n ks
    pub later_is : later ≡ values_due k h (replicate v t) n ks ++ (others ++ rest)
    pub naming : IsNaming k u.cells (names_in (values_due k h (replicate v t) n ks) ++ (names_in others ++ names))
    pub next : (w : Walker) → IsTracing k w.progress (others ++ rest) → IsNaming k w.cells (names_in others ++ names) → IsAtChunk k h name t (before + v) rest names w

  pub record Head (n : ℕ) : Type 0 where
    pub size : ℕ
    pub later : List Entry
    pub tracing : IsTracing k u.progress (record { home = h; node = 0; kind = Align 4 } ∷ record { home = h; node = 0; kind = Chunk size } ∷ later)
    pub after : ((size ≡ 0) × ((later ≡ rest) × IsNaming k u.cells names)) ⊎ Elements n size later

  head_by : (own_path : path_in (home_paths k.setting k.graph h) 0 ≡ name) (n : ℕ) (cut : List ℕ) (left : Trees) → Cuts (count left) cut
      → AreThere k h 0 (replicate (count left) t) (index_paths name before (count left)) (no_places (replicate (count left) t)) n left
      → IsTracing k u.progress (untested (chunks k.setting.table h t n cut left) ++ rest)
      → IsNaming k u.cells (names_in (untested (chunks k.setting.table h t n cut left)) ++ names) → Head n
  head_by own_path n [] left cuts there tr nm = record { size = 0; later = rest; tracing = tr; after = inl (refl, (refl, nm)) }
  head_by own_path n (c ∷ cut) left cuts there tr nm =
      let ks = take_trees c left in
      let us = drop_trees c left in
      let within : c ≤ count left = (let e : c + sum cut ≡ count left = sym (sum_first c cut) ∙ cuts.0 in omega (arith, e)) in
      let some : count ks ≡ c = taken c left within in
      let all : count left ≡ c + count us = dropped c left within in
      let whole : joined ks us ≡ left = joined-take-drop c left in
      let later = untested (chunks k.setting.table h t (n + node_count ks) cut us) in
      let due : untested (in_place k.setting.table h (replicate c t) n ks ++ chunks k.setting.table h t (n + node_count ks) cut us) ≡ values_due k h (replicate c t) n ks ++ later =
      untested_append (in_place k.setting.table h (replicate c t) n ks) (chunks k.setting.table h t (n + node_count ks) cut us)
      ∙ ap (λ xs. xs ++ later) (untested_values k.setting.table h (replicate c t) n ks) in
      let parts : AreThere k h 0 (replicate c t ++ replicate (count us) t) (index_paths name before c ++ index_paths name (before + c) (count us))
      (no_places (replicate c t ++ replicate (count us) t)) n (joined ks us) =
      subst (λ w. AreThere k h 0 (replicate c t ++ replicate (count us) t) (index_paths name before c ++ index_paths name (before + c) (count us))
      (no_places (replicate c t ++ replicate (count us) t)) n w) (sym whole)
      (subst (λ ts. AreThere k h 0 ts (index_paths name before c ++ index_paths name (before + c) (count us)) (no_places ts) n left)
      (replicate_parts c (count us) (count left) t all)
      (subst (λ ps. AreThere k h 0 (replicate (count left) t) ps (no_places (replicate (count left) t)) n left) (index_parts name before (before + c) c (count us) (count left) all refl) there)) in
      let both =
      there_parts k h 0 (replicate c t) (replicate (count us) t) (index_paths name before c) (index_paths name (before + c) (count us)) n ks us
      (some ∙ sym (length-replicate c t)) (index_length name before c ∙ sym (length-replicate c t)) parts in
      record {
        size = c;
        later = untested (in_place k.setting.table h (replicate c t) n ks ++ chunks k.setting.table h t (n + node_count ks) cut us) ++ rest;
        tracing = tr;
        after =
            inr
            (record {
              positive = cuts.1.0;
              ks = ks;
              others = later;
              there = both.0;
              later_is = ap (λ xs. xs ++ rest) due ∙ append_assoc (values_due k h (replicate c t) n ks) later rest;
              naming =
                  subst (IsNaming k u.cells)
                  (ap (λ xs. names_in xs ++ names) due ∙ ap (λ xs. xs ++ names) (names_append (values_due k h (replicate c t) n ks) later)
                  ∙ append_assoc (names_in (values_due k h (replicate c t) n ks)) (names_in later) names) nm;
              next = λ w tr1 nm1. record {
                own_path = own_path;
                node = n + node_count ks;
                cut = cut;
                left = us;
                cuts = ((let e : c + sum cut ≡ count left = sym (sum_first c cut) ∙ cuts.0 in omega (arith, e, all)), cuts.1.1);
                there = both.1;
                tracing = tr1;
                naming = nm1;
              };
            });
      }

  pub head : (g : IsAtChunk k h name t before rest names u) → Head g.node
  head g = head_by g.own_path g.node g.cut g.left g.cuts g.there g.tracing g.naming

  -- the pipe's end
  pub at_none : (n : ℕ) (d : Head n) (size : ℕ) → size ≡ d.size → size ≡ 0 → (p : Progress) → IsTracing k p d.later → IsTracing k p rest × IsNaming k u.cells names
  at_none n d size e z p tr = by_kind d.after
    where
      by_kind : ((d.size ≡ 0) × ((d.later ≡ rest) × IsNaming k u.cells names)) ⊎ Elements n d.size d.later → IsTracing k p rest × IsNaming k u.cells names
      by_kind (inl a) = (subst (IsTracing k p) a.1.0 tr, a.1.1)
      by_kind (inr a) = let q = a.positive in absurd (omega (arith, q, e, z))

  -- a chunk with elements
  pub at_some : (n : ℕ) (d : Head n) (size : ℕ) → size ≡ d.size → (size ≡ 0 → ⊥) → Elements n size d.later
  at_some n d size e z = subst (λ v. Elements n v d.later) (sym e) (by_kind d.after)
    where
      by_kind : ((d.size ≡ 0) × ((d.later ≡ rest) × IsNaming k u.cells names)) ⊎ Elements n d.size d.later → Elements n d.size d.later
      by_kind (inl a) = absurd (z (e ∙ a.0))
      by_kind (inr a) = a

  pub after_some : (size : ℕ) (w : Walker) → 0 < size → IsAtChunk k h name t (before + size) rest names w → AfterChunk k h name t before rest names w size
  after_some zero w l g = absurd (omega (arith, l))
  after_some (suc n) w l g = g

  -- ## Its elements

  module _ (n v : ℕ) (later : List Entry) (el : Elements n v later) (p : Progress) (tr : IsTracing k p later) where
    no_less : v ≡ v - 0
    no_less = omega arith

    no_more : before ≡ before + 0
    no_more = omega arith

    positive_types : 0 < length (replicate (v - 0) t)
    positive_types = let a = length-replicate (v - 0) t in let q = el.positive in omega (arith, a, q)

    level_there : AreThere k h 0 (replicate (v - 0) t) (index_paths name (before + 0) (v - 0)) (no_places (replicate (v - 0) t)) n el.ks
    level_there =
        subst (λ j. AreThere k h 0 (replicate (v - 0) t) (index_paths name j (v - 0)) (no_places (replicate (v - 0) t)) n el.ks) no_more
        (subst (λ j. AreThere k h 0 (replicate j t) (index_paths name before j) (no_places (replicate j t)) n el.ks) no_less el.there)

    level_tracing : IsTracing k p (values_due k h (replicate (v - 0) t) n el.ks ++ (el.others ++ rest))
    level_tracing = subst (λ j. IsTracing k p (values_due k h (replicate j t) n el.ks ++ (el.others ++ rest))) no_less (subst (IsTracing k p) el.later_is tr)

    level_naming : IsNaming k u.cells (names_in (values_due k h (replicate (v - 0) t) n el.ks) ++ (names_in el.others ++ names))
    level_naming = subst (λ j. IsNaming k u.cells (names_in (values_due k h (replicate j t) n el.ks) ++ (names_in el.others ++ names))) no_less el.naming

    pub elements_end : {E : Type 0}
        → (0 < length (replicate (v - 0) t) → (w : Trees)
        → AreThere k h 0 (replicate (v - 0) t) (index_paths name (before + 0) (v - 0)) (no_places (replicate (v - 0) t)) n w → (others : List Entry)
        → IsTracing k p (values_due k h (replicate (v - 0) t) n w ++ others) → (more_names : Placed_cells)
        → IsNaming k u.cells (names_in (values_due k h (replicate (v - 0) t) n w) ++ more_names) → E) → E
    elements_end f = f positive_types el.ks level_there (el.others ++ rest) level_tracing (names_in el.others ++ names) level_naming

    pub elements_go : (after : Walker)
        → (0 < length (replicate (v - 0) t) → (w : Trees)
        → AreThere k h 0 (replicate (v - 0) t) (index_paths name (before + 0) (v - 0)) (no_places (replicate (v - 0) t)) n w → (others : List Entry)
        → IsTracing k p (values_due k h (replicate (v - 0) t) n w ++ others) → (more_names : Placed_cells)
        → IsNaming k u.cells (names_in (values_due k h (replicate (v - 0) t) n w) ++ more_names)
        → IsTracing k after.progress others × HasNamed k u.cells after.cells (values_due k h (replicate (v - 0) t) n w) more_names)
        → AfterChunk k h name t before rest names after v
    elements_go after f =
        let r = f positive_types el.ks level_there (el.others ++ rest) level_tracing (names_in el.others ++ names) level_naming in
        after_some v after el.positive (el.next after r.0 r.1.naming)

-- a pipe's home, where its counts are
pub at_home : (k : Known) (h : Home) (name : List ℕ) → path_in (home_paths k.setting k.graph h) 0 ≡ name → (of : TypeId) (s : Spot) → s.home ≡ h → name_text s.name ≡ name
    → s.top ≡ level.Whole of → s.below.now.items ≡ [] → IsFrom k s.home s.from.now → IsSpot k s 0
at_home k h name own of s home named top below from = record {
  path =
      ap₂ (λ (M : Level) (Ms : List Level). path_to (name_text s.name) (M ∷ reverse Ms)) top below ∙ named ∙ sym own
      ∙ ap (λ (j : Home). path_in (home_paths k.setting k.graph j) 0) (sym home);
  place = ap level_place top ∙ sym (home_plain k.setting k.graph s.home);
  from = from;
}

-- ## The elements of a chunk that has some

pub at_first : (t size : ℕ) → (size ≡ 0 → ⊥) → 0 < length (replicate (size - 0) t)
at_first t zero some = absurd (some refl)
at_first t (suc n) some = let a = length-replicate (suc n - 0) t in omega (arith, a)

pub elements_least : (f : ℕ → ℕ) (t size : ℕ) → total f (replicate (size - 0) t) ≡ size * f t
elements_least f t size = ap (λ n. total f (replicate n t)) (let e : size - 0 ≡ size = omega arith in e) ∙ total_replicate f size t

-- after a chunk that has elements the walk is within the log
pub within_log : (k : Known) (h : Home) (name : List ℕ) (t before : ℕ) (rest : List Entry) (names : Placed_cells) (w : Walker) (size : ℕ)
    → AfterChunk k h name t before rest names w size → w.progress.next ≤ length k.log
within_log k h name t before rest names w zero a = a.0.within
within_log k h name t before rest names w (suc n) a = a.tracing.within

-- each element has an item, so as many items were taken as there are elements
pub elements_taken : (size least old now : ℕ) → 1 ≤ least → size * least + old ≤ now → size + old ≤ now
elements_taken size least old now some h =
    let a = times_less 1 least size some in
    let b : 1 * size ≡ size = omega arith in
    let c : least * size ≡ size * least = mul_comm least size in
    omega (arith, a, b, c, h)
