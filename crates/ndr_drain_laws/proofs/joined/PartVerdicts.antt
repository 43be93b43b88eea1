-- A head that is read excludes a refused head, and a chunk that is read a refused chunk; and each is refused at one place, for one reason.
-- `w` is a setting, `s` a spot, `vs` and `us` are elements, `before` any octets that come before the spot, `g` the graph of a head.
use Rattle.std.proofs.Common.{◌≡◌, ◌<◌, ◌≤◌, ◌-◌, ◌∙◌, ap, ap₂, sym, subst, refl, ℕ, ◌+◌, zero, suc, true, false, List, [], ◌∷◌, ◌++◌, length, length-append, append_assoc, drop, flat_map, replicate}
use Rattle.std.proofs.Common.{Some, None, inr, arith}
use Rattle.std.specs.List.{AllByRecursion, list_all, slice_get}
use Rattle.std.proofs.lemmas.Bool.{and_parts}
use Rattle.std.proofs.lemmas.List.{append-nil, length-replicate}
use Rattle.std.proofs.lemmas.Option.{slice_get-get_or}
use Rattle.nd_base.specs.declared.octets.Order.{Order}
use Rattle.nd_base.specs.declared.TheConstants.{STREAM_LIMIT}
use Rattle.nd_types.specs.Layout.{hoists}
use Rattle.nd_types.specs.Roots.{Root}
use Rattle.nd_types.specs.Table.{Table, type_at}
use Rattle.nd_value.specs.declared.item.Home.TheVariants as home
use Rattle.nd_value.specs.declared.value.Graph.{Graph}
use Rattle.nd_value.specs.Tree.{Tree, Trees, node, none, more, trees}
use Rattle.nd_value.specs.Deferral.{before_pipes, root_type}
use Rattle.nd_value.specs.Misfit.{has_machine_values, is_partial_node, misfit_of}
use Rattle.nd_value.specs.Nodes.{TypedNode, home_nodes}
use Rattle.nd_value.specs.Setting.{Setting, root_list}
use Rattle.nd_value.proofs.Apart.{all_left, all_weaker}
use Rattle.nd_value.proofs.NodeFacts.{IsSound, fit_is_read, fit_node, read_node, sound_conforming, sound_partial}
use Rattle.nd_grammar.specs.declared.reason.Reason.{Reason}
use Rattle.nd_grammar.specs.Entry.{Entry, EntryAt, end_of, end_to_end, full_cells, size_at, in_place}
use Rattle.nd_grammar.specs.LegalSide.{IsLegalSide}
use Rattle.nd_grammar.specs.Stream.{IsRendered, head_entries, pipes_entries, root_tests, step_entries}
use Rattle.nd_grammar.proofs.LegalSides.{laid_out}
use Rattle.nd_grammar.proofs.OneGraph.{readings}
use Rattle.nd_grammar.proofs.OneRefusal.{AreAccepted, IsRefused, are_accepted, is_refused, not_both, one_refusal}
use Rattle.nd_grammar.proofs.conforming.Accepted.{accepted}
use Rattle.nd_grammar.proofs.conforming.GoodEntries.{GoodEntry, HoldsNoPipe, good_in_place}
use Rattle.nd_grammar.specs.ReaderState.{IsNoPipe}
use Rattle.nd_grammar.proofs.legal.LegalPipes.{holds_no_pipe}
use Rattle.nd_grammar.proofs.next.HoistedMaxes.{maxes_of_many}
use Rattle.nd_grammar.proofs.next.KnownNodes.{SoundNode, known_nodes}
use Rattle.nd_grammar.proofs.next.Matching.{Known}
use Rattle.nd_grammar.proofs.next.Next.{Next, OneToOne, Pair, Readings}
use Rattle.nd_grammar.proofs.next.NextInPlace.{in_place_next}
use Rattle.nd_grammar.proofs.next.NextStream.{IsPipeRoot, drop_at, heads_next}
use Rattle.nd_lemmas.proofs.Lists.{all_at}
use Rattle.nd_grammar.proofs.next.Spelt.{all_spelt_carried, carried_low, carried_on, carried_one, cells_in, spelt_in_more}
use Rattle.nd_grammar.proofs.next.Standings.{IsMap}
use Rattle.ndr_drain_laws.specs.parts.Parts.{AreReadTo, BadHead, BadPart, IsElement, IsPart, Part, Spot, elem_at, elem_by, no_graph, part_entries}
use Rattle.ndr_drain_laws.proofs.parts.Spelt.{ends_append}
use Rattle.ndr_drain_laws.proofs.joined.Front.{good_elements, head_good}
use Rattle.ndr_drain_laws.proofs.heads.HeadReads.{as_many_ends as as_many_places}

-- what is at the end of two lists of entries that follow each other: nothing is asked of the map
abbrev Ends : List Pair → Type 0
Ends ys = Unit {0}

-- ## What is known of elements

read_nodes : (table : Table) (xs : List TypedNode) → list_all (λ x. has_machine_values x.label) xs ≡ true → list_all (is_partial_node table no_graph) xs ≡ true
    → AllByRecursion (SoundNode table no_graph) xs
read_nodes table [] m e = tt
read_nodes table (x ∷ xs) m e =
    let (p, q) = and_parts (has_machine_values x.label) (list_all (λ x. has_machine_values x.label) xs) m in
    let (r, s) = and_parts (is_partial_node table no_graph x) (list_all (is_partial_node table no_graph) xs) e in
    (record { machine = p; read = read_node table no_graph x r }, read_nodes table xs q s)

fit_nodes : (table : Table) (xs : List TypedNode) → list_all (λ x. has_machine_values x.label) xs ≡ true → AllByRecursion (λ x. misfit_of table no_graph x ≡ None) xs
    → AllByRecursion (SoundNode table no_graph) xs
fit_nodes table [] m a = tt
fit_nodes table (x ∷ xs) m a =
    let (p, q) = and_parts (has_machine_values x.label) (list_all (λ x. has_machine_values x.label) xs) m in
    (record { machine = p; read = inr (fit_is_read table no_graph x.of x.label x.kids (fit_node table no_graph x a.0)) }, fit_nodes table xs q a.1)

-- the nodes of an element are sound
abbrev SoundElement : Table → ℕ → Tree → Type 0
SoundElement table t v = AllByRecursion (SoundNode table no_graph) (home_nodes table t v)

known_more : (table : Table) (t : ℕ) (types : List ℕ) (v : Tree) (ts : Trees) → Known no_graph table (t ∷ []) (more v none) → Known no_graph table types ts
    → Known no_graph table (t ∷ types) (more v ts)
known_more table t types (node l ks) ts a b = (a.0, a.1, b)

known_elements : (table : Table) (t : ℕ) (vs : List Tree) → AllByRecursion (SoundElement table t) vs → Known no_graph table (replicate (length vs) t) (trees vs)
known_elements table t [] a = tt
known_elements table t (v ∷ vs) a =
    known_more table t (replicate (length vs) t) v (trees vs) (known_nodes table no_graph (t ∷ []) [] 0 (more v none) refl a.0) (known_elements table t vs a.1)

both_parts : (table : Table) (t : ℕ) (vs : List Tree) → AllByRecursion (λ v. list_all (is_partial_node table no_graph) (home_nodes table t v) ≡ true) vs
    → AllByRecursion (λ v. list_all (λ x. has_machine_values x.label) (home_nodes table t v) ≡ true) vs → AllByRecursion (SoundElement table t) vs
both_parts table t [] a b = tt
both_parts table t (v ∷ vs) a b = (read_nodes table (home_nodes table t v) b.0 a.0, both_parts table t vs a.1 b.1)

-- ## Chunks

many_of : (P : ℕ → Type 0) (k t : ℕ) → P t → AllByRecursion P (replicate k t)
many_of P zero t p = tt
many_of P (suc k) t p = (p, many_of P k t p)

-- the elements of a pipe hoist no maximum count, and hold no pipe
record IsPlainElement (w : Setting) (t : ℕ) : Type 0 where
  pub hoists_none : hoists w.table t ≡ false
  pub no_pipe : IsNoPipe w.table t

module _ (w : Setting) (side : IsLegalSide w) (order : Order) (s : Spot) (low : before_pipes (root_list w) ≤ s.root) where
  abbrev no_pipes : HoldsNoPipe w.table
  no_pipes = holds_no_pipe w.table side.operations side.legal

  plain_element : s.root < length (root_list w) → IsPlainElement w (elem_at w s.root)
  plain_element high =
      let n : ℕ = before_pipes (root_list w) in
      let d : Root = record { of = 0; param = None; vars = []; is_pipe = false } in
      let e : slice_get (root_list w) s.root ≡ Some _ = slice_get-get_or (root_list w) s.root d high in
      let z : n + (s.root - n) ≡ s.root = omega (arith, low) in
      let p : IsPipeRoot w.table _ = all_at (IsPipeRoot w.table) (drop n (root_list w)) (s.root - n) _ (laid_out w side).pipes
      (drop_at n (root_list w) (s.root - n) ∙ ap (slice_get (root_list w)) z ∙ e) in
      let i : elem_at w s.root ≡ p.elem.0 = ap (λ o. elem_by (type_at w.table (root_type o))) e ∙ ap elem_by p.type_is in
      subst (IsPlainElement w) (sym i) (record { hoists_none = (laid_out w side).hoisting.piped _ p.elem p.type_is; no_pipe = no_pipes.element _ p.elem p.type_is })

  module _ (octets : List ℕ) where
    abbrev two : Readings
    two = record {
      order = order;
      octets = octets;
      left = λ c. suc c;
      right = λ c. suc c;
      left_low = λ c. omega arith;
      right_low = λ c. omega arith;
      left_one = λ c d e. omega (arith, e);
      right_one = λ c d e. omega (arith, e);
    }

    -- the entries of two chunks at the spot follow each other
    part_next : s.root < length (root_list w) → (vs us : List Tree) → AllByRecursion (SoundElement w.table (elem_at w s.root)) vs → AllByRecursion (SoundElement w.table (elem_at w s.root)) us
        → Next two OneToOne Ends [] s.place (part_entries w s (length vs) vs) (part_entries w s (length us) us)
    part_next high vs us a b =
        inr (inr ([], tt, refl, (refl, refl), λ _ _. inr (inr ([], tt, refl, (refl, refl), λ x y. elements_next _ (sym x.1 ∙ y.1)))))
      where
        elements_next : (at : ℕ) → length vs ≡ length us → Next two OneToOne Ends [] at (in_place w.table (home.Root s.root) (replicate (length vs) (elem_at w s.root)) s.node (trees vs))
            (in_place w.table (home.Root s.root) (replicate (length us) (elem_at w s.root)) s.node (trees us))
        elements_next at e =
            let types : List ℕ = replicate (length vs) (elem_at w s.root) in
            let A : List Entry = in_place w.table (home.Root s.root) types s.node (trees vs) in
            let B : List Entry = in_place w.table (home.Root s.root) types s.node (trees us) in
            let x : Known no_graph w.table types (trees vs) = known_elements w.table (elem_at w s.root) vs a in
            let y : Known no_graph w.table types (trees us) =
            subst (λ k. Known no_graph w.table (replicate k (elem_at w s.root)) (trees us)) (sym e) (known_elements w.table (elem_at w s.root) us b) in
            let whole : Next two OneToOne Ends [] at (A ++ []) (B ++ []) =
            in_place_next two OneToOne Ends [] tt w.table no_graph no_graph (home.Root s.root) (home.Root s.root) refl types s.node (trees vs) (trees us) x y
            (maxes_of_many w.table (laid_out w side).hoisting no_graph no_graph (elem_at w s.root) (length vs) (trees vs) (trees us) (plain_element high).hoists_none x y)
            [] [] at (λ p m. ([], tt, tt)) in
            subst (λ k. Next two OneToOne Ends [] at A (in_place w.table (home.Root s.root) (replicate k (elem_at w s.root)) s.node (trees us))) e
            (subst (λ u. Next two OneToOne Ends [] at A u) (append-nil B) (subst (λ u. Next two OneToOne Ends [] at u (B ++ [])) (append-nil A) whole))

  abbrev before_place : List ℕ
  before_place = replicate {A = ℕ} s.place 0

  so_many : length before_place ≡ s.place
  so_many = length-replicate s.place 0

  -- a chunk that is refused
  module _ (octets : List ℕ) (place : ℕ) (why : Reason) (b : BadPart w order s octets place why) where
    part_refused : IsRefused order (before_place ++ octets) (λ c. suc c) [] s.place (part_entries w s (length b.through.elements) b.through.elements) (place, why)
    part_refused =
        is_refused order (before_place ++ octets) (λ c. suc c) [] s.place (part_entries w s (length b.through.elements) b.through.elements) b.earlier b.here b.others
        (b.through.split ∙ ap (λ (u : List EntryAt). b.earlier ++ u) b.next) (b.through.rendered before_place (λ c. suc c) so_many) (b.through.accepted before_place so_many)
        (place, why) (b.refused before_place so_many)

    part_sound : AllByRecursion (SoundElement w.table (elem_at w s.root)) b.through.elements
    part_sound = both_parts w.table (elem_at w s.root) b.through.elements b.through.partial b.through.machine_values

  place_within : (octets : List ℕ) → s.place ≤ length (before_place ++ octets)
  place_within octets = let l = so_many in let m = length-append before_place octets in omega (arith, l, m)

  pub one_bad_part : (octets : List ℕ) (place other : ℕ) (why reason : Reason) → BadPart w order s octets place why → BadPart w order s octets other reason → (place ≡ other) × (why ≡ reason)
  one_bad_part octets place other why reason b c =
      let S : List ℕ = before_place ++ octets in
      let e : (place, why) ≡ (other, reason) =
      one_refusal (two S) OneToOne Ends (λ ys m. m) [] s.place (part_entries w s (length b.through.elements) b.through.elements)
      (part_entries w s (length c.through.elements) c.through.elements) (place_within octets)
      (part_next S b.through.pipe_left b.through.elements c.through.elements (part_sound octets place why b) (part_sound octets other reason c)) [] [] tt (place, why) (other, reason)
      (part_refused octets place why b) (part_refused octets other reason c) in
      (ap (λ u. u.0) e, ap (λ u. u.1) e)

  -- a chunk that is read
  module _ (p : Part) (rest : List ℕ) (it : IsPart w order s p) where
    abbrev ms : List Entry
    ms = part_entries w s (length p.elements) p.elements

    abbrev S : List ℕ
    S = before_place ++ (p.octets ++ rest)

    part_spelt : AllByRecursion (IsRendered order (λ c. suc c) S) (end_to_end s.place ms)
    part_spelt =
        subst (λ u. AllByRecursion (IsRendered order (λ c. suc c) u) (end_to_end s.place ms)) (append_assoc before_place p.octets rest)
        (spelt_in_more order (λ c. suc c) (before_place ++ p.octets) rest (end_to_end s.place ms) (it.spelt.rendered before_place (λ c. suc c) so_many))

    part_within : AllByRecursion (λ x. x.at + size_at x.at x.entry.kind ≤ STREAM_LIMIT) (end_to_end s.place ms)
    part_within =
        let l = so_many in
        let m = length-append before_place p.octets in
        let h = it.spelt.within in
        all_weaker (IsRendered order (λ c. suc c) (before_place ++ p.octets)) (λ x. x.at + size_at x.at x.entry.kind ≤ STREAM_LIMIT)
        (λ x k. (let z : x.at + size_at x.at x.entry.kind ≤ length (before_place ++ p.octets) = k.0 in omega (arith, z, l, m, h))) (end_to_end s.place ms)
        (it.spelt.rendered before_place (λ c. suc c) so_many)

    part_good : AllByRecursion (GoodEntry no_graph) ms
    part_good = (
      tt,
      (
        tt,
        good_in_place w.table no_pipes no_graph (home.Root s.root) (replicate (length p.elements) (elem_at w s.root)) [] s.node (trees p.elements)
            (many_of (IsNoPipe w.table) (length p.elements) (elem_at w s.root) (plain_element it.pipe_left).no_pipe)
            (good_elements w.table (elem_at w s.root) no_graph p.elements it.elements),
      ),
    )

    part_accepted : AreAccepted order S (λ c. suc c) [] s.place ms
    part_accepted =
        are_accepted order S (λ c. suc c) [] s.place ms part_spelt
        (accepted order S no_graph (λ c. suc c) (λ c. omega arith) (λ c d e. omega (arith, e)) [] tt s.place ms part_good part_spelt part_within)

    read_sound : AllByRecursion (SoundElement w.table (elem_at w s.root)) p.elements
    read_sound =
        all_weaker (IsElement w.table (elem_at w s.root)) (SoundElement w.table (elem_at w s.root))
        (λ v e. fit_nodes w.table (home_nodes w.table (elem_at w s.root) v) e.machine_values e.local) p.elements it.elements

    pub part_excludes : (place : ℕ) (why : Reason) → BadPart w order s (p.octets ++ rest) place why → ⊥
    part_excludes place why b =
        not_both (two S) OneToOne Ends (λ ys m. m) [] s.place (part_entries w s (length b.through.elements) b.through.elements) ms (place_within (p.octets ++ rest))
        (part_next S it.pipe_left b.through.elements p.elements (part_sound (p.octets ++ rest) place why b) read_sound) [] [] tt (place, why)
        (part_refused (p.octets ++ rest) place why b) part_accepted

-- ## Heads

-- an item that is among the first items of a list
cut_first : {X : Type 0} (xs ys zs : List X) (h : X) (ws : List X) → xs ++ ys ≡ zs ++ h ∷ ws → length zs < length xs → (vs : List X) × (xs ≡ zs ++ h ∷ vs)
cut_first [] ys zs h ws e l = absurd (omega (arith, l))
cut_first (x ∷ xs) ys [] h ws e l = let z : x ≡ h = cc in (xs, ap (λ u. u ∷ xs) z)
cut_first (x ∷ xs) ys (z ∷ zs) h ws e l =
    let same : x ≡ z = cc in
    let others : xs ++ ys ≡ zs ++ h ∷ ws = cc in
    let (vs, f) = cut_first xs ys zs h ws others (omega (arith, l)) in
    (vs, ap₂ (λ u us. u ∷ us) same f)

module _ (w : Setting) (side : IsLegalSide w) (order : Order) where
  head_refused : (octets : List ℕ) (place : ℕ) (why : Reason) (b : BadHead w order octets place why)
      → IsRefused order octets (carried_on b.bad.numbering (full_cells b.bad.entries)) [] 0 (head_entries w b.bad.partial b.bad.stream.steps) (place, why)
  head_refused octets place why b =
      let x = b.bad in
      let n : ℕ = before_pipes (root_list w) in
      let cells : List ℕ = full_cells x.entries in
      let A : List Entry = head_entries w x.partial x.stream.steps in
      let P : List Entry = pipes_entries w.table n (drop n (root_list w)) (drop n x.partial.roots) x.stream.cuts in
      let whole : end_to_end 0 A ++ end_to_end (end_of 0 A) P ≡ x.earlier ++ x.here ∷ x.later =
      sym (ends_append 0 A P) ∙ ap (end_to_end 0) (sym x.stream.is_representation) ∙ x.split in
      let few : length x.earlier < length (end_to_end 0 A) = (let l = b.in_head in let m = as_many_places 0 A in omega (arith, l, m)) in
      let (vs, split) = cut_first (end_to_end 0 A) (end_to_end (end_of 0 A) P) x.earlier x.here x.later whole few in
      is_refused order octets (carried_on x.numbering cells) [] 0 A x.earlier x.here vs split
      (all_spelt_carried order octets x.numbering cells x.earlier
      (all_left _ x.earlier (x.here ∷ x.later) (subst (AllByRecursion _) x.split (cells_in 0 x.entries cells (λ d m. m)))) x.rendered)
      x.accepted (place, why) x.refused

  -- a head that is read
  module _ (head rest : List ℕ) (g : Graph) (it : AreReadTo w order head g []) where
    abbrev A' : List Entry
    A' = head_entries w g it.is_head.steps

    abbrev cells' : List ℕ
    cells' = full_cells (head_entries w g it.is_head.steps)

    abbrev nums : ℕ → ℕ
    nums = carried_on it.is_head.numbering (full_cells (head_entries w g it.is_head.steps))

    head_spelt : AllByRecursion (IsRendered order nums (head ++ rest)) (end_to_end 0 A')
    head_spelt =
        all_spelt_carried order (head ++ rest) it.is_head.numbering cells' (end_to_end 0 A') (cells_in 0 A' cells' (λ d m. m))
        (spelt_in_more order it.is_head.numbering head rest (end_to_end 0 A') it.is_head.rendered)

    head_within : AllByRecursion (λ x. x.at + size_at x.at x.entry.kind ≤ STREAM_LIMIT) (end_to_end 0 A')
    head_within =
        let h = it.is_head.within in
        all_weaker (IsRendered order it.is_head.numbering head) (λ x. x.at + size_at x.at x.entry.kind ≤ STREAM_LIMIT)
        (λ x k. (let z : x.at + size_at x.at x.entry.kind ≤ length head = k.0 in omega (arith, z, h))) (end_to_end 0 A') it.is_head.rendered

    head_accepted : AreAccepted order (head ++ rest) nums [] 0 A'
    head_accepted =
        are_accepted order (head ++ rest) nums [] 0 A' head_spelt
        (accepted order (head ++ rest) g nums (carried_low it.is_head.numbering cells' it.is_head.is_numbering) (carried_one it.is_head.numbering cells' it.is_head.is_numbering)
        [] tt 0 A' (head_good w side order head g [] it) head_spelt head_within)

    pub head_excludes : (place : ℕ) (why : Reason) → BadHead w order (head ++ rest) place why → ⊥
    head_excludes place why b =
        let x = b.bad in
        let s : IsSound w x.partial = sound_partial w x.partial x.is_partial in
        let s' : IsSound w g = sound_conforming w g it.conforms in
        let two : Readings = readings order (head ++ rest) x.numbering (full_cells x.entries) x.is_numbering it.is_head.numbering cells' it.is_head.is_numbering in
        let F : List Entry = flat_map (step_entries w x.partial) x.stream.steps in
        let T : List Entry = root_tests w x.partial 0 (root_list w) x.partial.roots in
        let F' : List Entry = flat_map (step_entries w g) it.is_head.steps in
        let T' : List Entry = root_tests w g 0 (root_list w) g.roots in
        let next : Next two (IsMap two w x.partial g) Ends [] 0 (F ++ (T ++ [])) (F' ++ (T' ++ [])) =
        heads_next two w x.partial g s s' (laid_out w side) Ends x.stream.deferral it.is_head.deferral [] [] (λ p ys st. ([], st.one, tt)) in
        let heads : Next two (IsMap two w x.partial g) Ends [] 0 (F ++ T) (F' ++ T') =
        subst (λ u. Next two (IsMap two w x.partial g) Ends [] 0 (F ++ T) (F' ++ u)) (append-nil T')
        (subst (λ u. Next two (IsMap two w x.partial g) Ends [] 0 (F ++ u) (F' ++ (T' ++ []))) (append-nil T) next) in
        not_both two (IsMap two w x.partial g) Ends (λ ys m. m.one) [] 0 (F ++ T) (F' ++ T') (omega arith) heads [] [] tt (place, why)
        (head_refused (head ++ rest) place why b) head_accepted
