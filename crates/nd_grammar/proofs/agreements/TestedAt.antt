-- Each agreement that a stream tries finds the count or tag that it speaks of, at its place.
use Rattle.std.proofs.Common.{◌≡◌, ℕ, ◌+◌, ℤ, Bool, true, false, ◌&&◌, List, [], ◌∷◌, ◌++◌, Some, refl, ap, ap₂, sym, ◌∙◌, inl, inr, ◌⊎◌, subst, append_assoc}
use Rattle.std.specs.Prelude.{pos, ◌-ℤ◌, eqb, cond, ◌||◌}
use Rattle.std.specs.List.{AllByRecursion}
use Rattle.std.proofs.lemmas.Bool.{and_parts, or_cases, eqb-true, eq-eqb}
use Rattle.std.proofs.lemmas.List.{append-nil}
use Rattle.nd_base.specs.declared.octets.Order.{Order}
use Rattle.nd_types.specs.declared.types.Attr.{Attr}
use Rattle.nd_types.specs.declared.types.Attr.TheVariants as attr
use Rattle.nd_value.specs.declared.value.Graph.{Graph}
use Rattle.nd_value.specs.declared.item.Home.{Home}
use Rattle.nd_value.specs.declared.item.Home.TheVariants as home
use Rattle.nd_value.specs.Agreement.{offset_of, tag_of}
use Rattle.nd_value.specs.Tree.{Flat, flat, more, none}
use Rattle.nd_value.specs.Setting.{Setting, Among}
use Rattle.nd_value.proofs.Apart.{all_append, all_among, among_left, among_right}
use Rattle.nd_value.proofs.NodeFacts.{IsSound}
use Rattle.nd_grammar.specs.Entry.{Kind, Entry, Align, Max, Offset, Actual, Tag, Test, Unread, size_at, EntryAt, end_to_end, hoisted_max}
use Rattle.nd_grammar.specs.LegalSide.{IsLegalSide}
use Rattle.nd_grammar.specs.Stream.{IsRendered, Stream}
use Rattle.nd_grammar.specs.Refusal.{tested_at, kind_agrees, is_max, same_home}
use Rattle.nd_grammar.specs.Tested.{HoldsFound, node_of, IsSpokenOf, IsReadAt}
use Rattle.nd_grammar.proofs.agreements.EntriesTell.{node_at, actual_by, home_tree, Tells, TellsOf, TellsAt, stream_tells}
use Rattle.nd_grammar.proofs.LegalSides.{laid_out}
use Rattle.nd_grammar.proofs.agreements.LegalSubjects.{has_subjects, roots_fit}
use Rattle.nd_grammar.proofs.conforming.Passed.{IsFound, AllFound}
use Rattle.nd_grammar.proofs.next.Spelt.{not_spelt}
use Rattle.nd_grammar.proofs.agreements.StreamFinds.{stream_finds}
use Rattle.nd_grammar.proofs.agreements.TestsFind.{Found, Finds, Spoken}

-- ## The first entry that an attribute speaks of

-- an entry to which the definition comes
abbrev meets : Attr → Home → ℕ → EntryAt → Bool
meets a h n x = kind_agrees a x.entry.kind && same_home x.entry.home h && (is_max x.entry.kind || eqb x.entry.node n)

first_met : (a : Attr) (h : Home) (n : ℕ) (xs : List EntryAt) (y : EntryAt) → Among xs y → meets a h n y ≡ true
    → (x : EntryAt) × Among xs x × (meets a h n x ≡ true) × (tested_at xs a h n ≡ Some x.at)
first_met a h n [] y m e = absurd m
first_met a h n (x ∷ xs) y m e = go (meets a h n x) refl m (λ k. first_met a h n xs y k e)
  where
    go : (b : Bool) → meets a h n x ≡ b → Among (x ∷ xs) y
        → (Among xs y → (z : EntryAt) × Among xs z × (meets a h n z ≡ true) × (tested_at xs a h n ≡ Some z.at))
        → (z : EntryAt) × Among (x ∷ xs) z × (meets a h n z ≡ true) × (tested_at (x ∷ xs) a h n ≡ Some z.at)
    go true f m later = (x, inl refl, f, ap (λ t. cond t (Some x.at) (tested_at xs a h n)) f)
    go false f (inl s) later = let k : meets a h n x ≡ true = subst (λ u. meets a h n u ≡ true) s e in cc
    go false f (inr m) later =
        let (z, k, g, t) = later m in
        (z, inr k, g, ap (λ t. cond t (Some x.at) (tested_at xs a h n)) f ∙ t)

pub same_home_self : (h : Home) → same_home h h ≡ true
same_home_self (home.Root i) = eq-eqb i i refl
same_home_self (home.Cell c) = eq-eqb c.0 c.0 refl

pub same_home_is : (h k : Home) → same_home h k ≡ true → h ≡ k
same_home_is (home.Root i) (home.Root j) e = ap home.Root (eqb-true i j e)
same_home_is (home.Root i) (home.Cell d) e = cc
same_home_is (home.Cell c) (home.Root j) e = cc
same_home_is (home.Cell c) (home.Cell d) e = ap (λ u. home.Cell (record { 0 = u })) (eqb-true c.0 d.0 e)

-- an entry that holds what was found is of the attribute's kind, and stands where it looks
kind_of_found : (a : Attr) (found : ℤ) (k : Kind) (nx n : ℕ) → HoldsFound a found k → nx ≡ node_of a n → (kind_agrees a k ≡ true) × ((is_max k || eqb nx n) ≡ true)
kind_of_found attr.Size found (Max v) nx n h e = (refl, refl)
kind_of_found attr.Size found _ nx n h e = absurd h
kind_of_found attr.Max found (Max v) nx n h e = (refl, refl)
kind_of_found attr.Max found _ nx n h e = absurd h
kind_of_found attr.First found (Offset t v) nx n h e = (refl, eq-eqb nx n e)
kind_of_found attr.First found _ nx n h e = absurd h
kind_of_found attr.Length found (Actual t o l v) nx n h e = (refl, eq-eqb nx n e)
kind_of_found attr.Length found _ nx n h e = absurd h
kind_of_found attr.Last found (Actual t o l v) nx n h e = (refl, eq-eqb nx n e)
kind_of_found attr.Last found _ nx n h e = absurd h
kind_of_found attr.Switch found (Tag p vs arms default v) nx n h e = (refl, eq-eqb nx n e)
kind_of_found attr.Switch found _ nx n h e = absurd h

both : (p q r : Bool) → p ≡ true → q ≡ true → r ≡ true → (p && q && r) ≡ true
both true true true e f g = refl
both true true false e f g = cc
both true false r e f g = cc
both false q r e f g = cc

spoken_met : (a : Attr) (h : Home) (n : ℕ) (found : ℤ) (y : EntryAt) → IsSpokenOf a h n found y → meets a h n y ≡ true
spoken_met a h n found y s =
    let (k, m) = kind_of_found a found y.entry.kind y.entry.node n s.holds s.node in
    both _ _ _ k (subst (λ u. same_home u h ≡ true) (sym s.home) (same_home_self h)) m

-- ## All entries to which it could come say one number

module _ (nodes : List Flat) (max : ℕ) where
  one_value : (a : Attr) (kx ky : Kind) (nx ny n : ℕ) (found : ℤ) → Tells nodes max nx kx → Tells nodes max ny ky → kind_agrees a kx ≡ true
      → (is_max kx ≡ true) ⊎ (nx ≡ n) → ny ≡ node_of a n → HoldsFound a found ky → (nx ≡ node_of a n) × HoldsFound a found kx
  one_value attr.Size (Max v) (Max v') nx ny n found x y k m e h = (x.0, h ∙ ap pos (y.1 ∙ sym x.1))
  one_value attr.Size (Max v) _ nx ny n found x y k m e h = absurd h
  one_value attr.Size _ ky nx ny n found x y k m e h = cc
  one_value attr.Max (Max v) (Max v') nx ny n found x y k m e h = (x.0, h ∙ ap pos (y.1 ∙ sym x.1))
  one_value attr.Max (Max v) _ nx ny n found x y k m e h = absurd h
  one_value attr.Max _ ky nx ny n found x y k m e h = cc
  one_value attr.First (Offset t v) (Offset t' v') nx ny n found x y k (inl m) e h = cc
  one_value attr.First (Offset t v) (Offset t' v') nx ny n found x y k (inr m) e h =
      (m, h ∙ ap pos (y ∙ ap (λ i. offset_of (node_at nodes i).0) (e ∙ sym m) ∙ sym x))
  one_value attr.First (Offset t v) _ nx ny n found x y k m e h = absurd h
  one_value attr.First _ ky nx ny n found x y k m e h = cc
  one_value attr.Length (Actual t o l v) (Actual t' o' l' v') nx ny n found x y k (inl m) e h = cc
  one_value attr.Length (Actual t o l v) (Actual t' o' l' v') nx ny n found x y k (inr m) e h =
      (m, h ∙ ap pos (y.1 ∙ ap (λ i. actual_by (node_at nodes i).0 (node_at nodes i).1) (e ∙ sym m) ∙ sym x.1))
  one_value attr.Length (Actual t o l v) _ nx ny n found x y k m e h = absurd h
  one_value attr.Length _ ky nx ny n found x y k m e h = cc
  one_value attr.Last (Actual t o l v) (Actual t' o' l' v') nx ny n found x y k (inl m) e h = cc
  one_value attr.Last (Actual t o l v) (Actual t' o' l' v') nx ny n found x y k (inr m) e h =
      let p : o' ≡ o = y.0 ∙ ap (λ i. offset_of (node_at nodes i).0) (e ∙ sym m) ∙ sym x.0 in
      let q : v' ≡ v = y.1 ∙ ap (λ i. actual_by (node_at nodes i).0 (node_at nodes i).1) (e ∙ sym m) ∙ sym x.1 in
      (m, h ∙ ap₂ (λ i j. pos (i + j) -ℤ pos 1) p q)
  one_value attr.Last (Actual t o l v) _ nx ny n found x y k m e h = absurd h
  one_value attr.Last _ ky nx ny n found x y k m e h = cc
  one_value attr.Switch (Tag p vs arms default v) (Tag p' vs' arms' default' v') nx ny n found x y k (inl m) e h = cc
  one_value attr.Switch (Tag p vs arms default v) (Tag p' vs' arms' default' v') nx ny n found x y k (inr m) e h =
      (m, h ∙ (y ∙ ap (λ i. tag_of (node_at nodes i).0) (e ∙ sym m) ∙ sym x))
  one_value attr.Switch (Tag p vs arms default v) _ nx ny n found x y k m e h = absurd h
  one_value attr.Switch _ ky nx ny n found x y k m e h = cc

-- where an entry that holds what was found is among earlier ones, the definition comes to one that does
pub found_first : (g : Graph) (a : Attr) (h : Home) (n : ℕ) (found : ℤ) (xs : List EntryAt) → AllByRecursion (λ x. TellsAt g x.entry) xs
    → (y : EntryAt) → Among xs y → IsSpokenOf a h n found y → (x : EntryAt) × Among xs x × IsSpokenOf a h n found x × (tested_at xs a h n ≡ Some x.at)
found_first g a h n found xs tell y m s =
    let (x, k, e, t) = first_met a h n xs y m (spoken_met a h n found y s) in
    let (e1, e2) = and_parts (kind_agrees a x.entry.kind && same_home x.entry.home h) (is_max x.entry.kind || eqb x.entry.node n) e in
    let (e3, e4) = and_parts (kind_agrees a x.entry.kind) (same_home x.entry.home h) e1 in
    let at_home : x.entry.home ≡ h = same_home_is x.entry.home h e4 in
    let tx : TellsOf (home_tree g h) x.entry = subst (λ u. TellsOf (home_tree g u) x.entry) at_home (all_among (λ z. TellsAt g z.entry) xs x k tell) in
    let ty : TellsOf (home_tree g h) y.entry = subst (λ u. TellsOf (home_tree g u) y.entry) s.home (all_among (λ z. TellsAt g z.entry) xs y m tell) in
    let (node, holds) = one_value (flat (more (home_tree g h) none)) (hoisted_max 0 (more (home_tree g h) none)) a x.entry.kind y.entry.kind x.entry.node y.entry.node n found
    tx ty e3 (by_node x (or_cases _ _ e2)) s.node s.holds in
    (x, k, record { home = at_home; node = node; holds = holds }, t)
  where
    by_node : (x : EntryAt) → (is_max x.entry.kind ≡ true) ⊎ (eqb x.entry.node n ≡ true) → (is_max x.entry.kind ≡ true) ⊎ (x.entry.node ≡ n)
    by_node x (inl e) = inl e
    by_node x (inr e) = inr (eqb-true x.entry.node n e)

-- ## Along a stream

-- the entries that were seen are those of a list at their places
abbrev AllSeen : List Entry → List EntryAt → Type 0
AllSeen s seen = (x : Entry) → Among s x → (y : EntryAt) × Among seen y × (y.entry ≡ x)

seen_next : (s : List Entry) (seen : List EntryAt) (y : EntryAt) → AllSeen s seen → AllSeen (y.entry ∷ s) (seen ++ y ∷ [])
seen_next s seen y a x (inl e) = (y, among_right seen (y ∷ []) y (inl refl), sym e)
seen_next s seen y a x (inr m) = let (z, k, e) = a x m in (z, among_left seen (y ∷ []) z k, e)

module _ (g : Graph) where
  abbrev Tell : List EntryAt → Type 0
  Tell xs = AllByRecursion (λ x. TellsAt g x.entry) xs

  spoken_at : (a : Attr) (h : Home) (n : ℕ) (found : ℤ) (s : List Entry) (seen : List EntryAt) → AllSeen s seen → Tell seen → (x : Entry) → Among s x → Spoken a h n found x
      → (y : EntryAt) × Among seen y × IsSpokenOf a h n found y × (tested_at seen a h n ≡ Some y.at)
  spoken_at a h n found s seen all tell x m k =
      let (y, my, ey) = all x m in
      found_first g a h n found seen tell y my (record {
        home = ap (λ u. u.home) ey ∙ k.home;
        node = ap (λ u. u.node) ey ∙ k.node;
        holds = subst (λ u. HoldsFound a found u.kind) (sym ey) k.holds;
      })

  all_found : (order : Order) (nums : ℕ → ℕ) (octets : List ℕ) (s : List Entry) (seen : List EntryAt) (at : ℕ) (ms : List Entry) → AllSeen s seen → Tell seen
      → AllByRecursion (TellsAt g) ms → Finds s ms → AllByRecursion (IsRendered order nums octets) (end_to_end at ms) → AllFound seen at ms
  all_found order nums octets s seen at [] all tell t f r = tt
  all_found order nums octets s seen at (m ∷ ms) all tell t (inl u) r = absurd (not_spelt order nums octets at m u r.0)
  all_found order nums octets s seen at (m ∷ ms) all tell t (inr (read, f, rest)) r =
      let here : EntryAt = record { at = at; entry = m } in (
        by_kind m.kind f,
        all_found order nums octets (m ∷ s) (seen ++ here ∷ []) (at + size_at at m.kind) ms (seen_next s seen here all)
            (all_append (λ x. TellsAt g x.entry) seen (here ∷ []) tell (t.0, tt)) t.1 rest r.1,
      )
    where
      by_kind : (k : Kind) → Found s m k → IsFound seen m k
      by_kind (Test a wanted found) (x, mx, sp) =
          let (y, my, ey, e) = spoken_at a m.home m.node found s seen all tell x mx sp in
          (y.at, e)
      by_kind (Align n) f = tt
      by_kind _ f = tt

  test_found : (s : List Entry) (seen : List EntryAt) (at : ℕ) (ms : List Entry) (earlier : List EntryAt) (here : EntryAt) (later : List EntryAt) → AllSeen s seen → Tell seen
      → AllByRecursion (TellsAt g) ms → Finds s ms → end_to_end at ms ≡ earlier ++ here ∷ later → AllByRecursion IsReadAt earlier
      → (a : Attr) (wanted found : ℤ) → here.entry.kind ≡ Test a wanted found
      → (x : EntryAt) × Among (seen ++ earlier) x × IsSpokenOf a here.entry.home here.entry.node found x × (tested_at (seen ++ earlier) a here.entry.home here.entry.node ≡ Some x.at)
  test_found s seen at [] [] here later all tell t f e r a wanted found k = cc
  test_found s seen at [] (x ∷ earlier) here later all tell t f e r a wanted found k = cc
  test_found s seen at (m ∷ ms) [] here later all tell t (inl u) e r a wanted found k =
      let h : record { at = at; entry = m } ≡ here = cc in
      let z : Unread ≡ Test a wanted found = sym u ∙ ap (λ x. x.entry.kind) h ∙ k in
      absurd (cc)
  test_found s seen at (m ∷ ms) [] here later all tell t (inr (read, f, rest)) e r a wanted found k =
      let h : record { at = at; entry = m } ≡ here = cc in
      let is : m.kind ≡ Test a wanted found = ap (λ x. x.entry.kind) h ∙ k in
      let (x, mx, sp) = subst (Found s m) is f in
      subst (λ u. (x : EntryAt) × Among u x × IsSpokenOf a here.entry.home here.entry.node found x × (tested_at u a here.entry.home here.entry.node ≡ Some x.at)) (sym (append-nil seen))
      (subst (λ u. (x : EntryAt) × Among seen x × IsSpokenOf a u.entry.home u.entry.node found x × (tested_at seen a u.entry.home u.entry.node ≡ Some x.at)) h
      (spoken_at a m.home m.node found s seen all tell x mx sp))
  test_found s seen at (m ∷ ms) (x ∷ earlier) here later all tell t (inl u) e r a wanted found k =
      let h : record { at = at; entry = m } ≡ x = cc in
      absurd (r.0 (ap (λ y. y.entry.kind) (sym h) ∙ u))
  test_found s seen at (m ∷ ms) (x ∷ earlier) here later all tell t (inr (read, f, rest)) e r a wanted found k =
      let y : EntryAt = record { at = at; entry = m } in
      let h : y ≡ x = cc in
      let e' : end_to_end (at + size_at at m.kind) ms ≡ earlier ++ here ∷ later = cc in
      subst (λ u. (z : EntryAt) × Among u z × IsSpokenOf a here.entry.home here.entry.node found z × (tested_at u a here.entry.home here.entry.node ≡ Some z.at))
      (ap (λ u. (seen ++ u ∷ []) ++ earlier) h ∙ append_assoc seen (x ∷ []) earlier)
      (test_found (m ∷ s) (seen ++ y ∷ []) (at + size_at at m.kind) ms earlier here later (seen_next s seen y all)
      (all_append (λ x. TellsAt g x.entry) seen (y ∷ []) tell (t.0, tt)) t.1 rest e' r.1 a wanted found k)

module _ (w : Setting) (side : IsLegalSide w) (g : Graph) (s : IsSound w g) (ms : List Entry) (a : Stream w g ms) where
  all_find : Finds [] ms
  all_find = stream_finds w g s (laid_out w side) (has_subjects w.table side.operations side.legal) (roots_fit w side) ms a

  -- the agreements of a stream that is spelt
  pub tests_found : (order : Order) (nums : ℕ → ℕ) (octets : List ℕ) → AllByRecursion (IsRendered order nums octets) (end_to_end 0 ms) → AllFound [] 0 ms
  tests_found order nums octets r = all_found g order nums octets [] [] 0 ms (λ x m. absurd m) tt (stream_tells w g ms a) all_find r

  -- an agreement after entries that were read
  pub test_finds : (earlier : List EntryAt) (here : EntryAt) (later : List EntryAt) → end_to_end 0 ms ≡ earlier ++ here ∷ later → AllByRecursion IsReadAt earlier
      → (attribute : Attr) (wanted found : ℤ) → here.entry.kind ≡ Test attribute wanted found
      → (x : EntryAt) × Among earlier x × IsSpokenOf attribute here.entry.home here.entry.node found x
      × (tested_at earlier attribute here.entry.home here.entry.node ≡ Some x.at)
  test_finds earlier here later e r attribute wanted found k =
      test_found g [] [] 0 ms earlier here later (λ x m. absurd m) tt (stream_tells w g ms a) all_find e r attribute wanted found k
