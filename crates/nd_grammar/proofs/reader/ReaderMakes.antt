-- What reading a value makes: nodes of the form of their types, distinct numbers, cells that its pointers name, each paid by octets.
use Rattle.std.proofs.Common.{◌≡◌, ℕ, ◌+◌, ◌-◌, ◌*◌, ◌^◌, ◌<◌, ◌≤◌, zero, suc, ℤ, Bool, true, false, ◌&&◌, List, [], ◌∷◌, ◌++◌, length, Option, Some, None, refl, ap, sym, ◌∙◌, inl, inr, ◌⊎◌, arith}
use Rattle.std.proofs.Common.{subst, replicate, length-append}
use Rattle.std.specs.Prelude.{pos, map, flat_map, not, eqb}
use Rattle.std.specs.List.{AllByRecursion}
use Rattle.std.proofs.lemmas.List.{length-replicate}
use Rattle.std.proofs.lemmas.Bool.{and_from, lt-ltb, eq-eqb, cases_lt}
use Rattle.nd_base.specs.declared.octets.Order.{Order}
use Rattle.nd_types.specs.declared.types.TypeDef.{TypeDef}
use Rattle.nd_types.specs.declared.types.TypeId.{TypeId}
use Rattle.nd_types.specs.declared.types.Arm.{Arm}
use Rattle.nd_types.specs.declared.types.TypeDef.TheVariants as def
use Rattle.nd_types.specs.declared.types.Class.{Class}
use Rattle.nd_types.specs.declared.types.Class.TheVariants.{Ref, Unique, Full}
use Rattle.nd_types.specs.declared.types.Primitive.{Primitive}
use Rattle.nd_types.specs.declared.types.Primitive.TheVariants.{Short}
use Rattle.nd_types.specs.Table.{Table, type_at, width, selected, fits_octets, in_range}
use Rattle.nd_types.specs.Layout.{parts, hoists, hoists_by, align_of, arm_type}
use Rattle.nd_types.specs.Number.{AreOctets}
use Rattle.nd_value.specs.declared.item.Home.{Home}
use Rattle.nd_value.specs.Tree as tree
use Rattle.nd_value.specs.Tree.{Trees, node, none, Label, count, is_pointer, cell_in}
use Rattle.nd_value.specs.Agreement.{Agreement}
use Rattle.nd_value.specs.Setting.{Among, unread}
use Rattle.nd_value.specs.Nodes.{nodes_of, child_types, child_agreements, first_agreements, rest_agreements, selected_types}
use Rattle.nd_value.specs.Deferral.{Pending, pointer, pointer_by}
use Rattle.nd_value.specs.Misfit.{is_no_null_ref, is_bound, arm_fits}
use Rattle.nd_value.proofs.Apart.{among_left, among_right}
use Rattle.nd_grammar.specs.declared.reason.Reason.{Reason}
use Rattle.nd_grammar.specs.Entry.{Kind, Entry, Align, Max, Offset, Actual, Number, Num, Tag, Text, Context, child_tests}
use Rattle.nd_grammar.specs.Reader.{Progress, Names, Named, Read, ReadAll, is_stopped, pass, taken, number_in, value_in, text_in, attributes_in, identifier_in, named, read_if, read_list, tree_nodes}
use Rattle.nd_grammar.specs.Reader.{read_children, read_array, read_text, read_tagged, read_context, read_number, read_by, read_in_place, read_hoisted, read_whole, bound_or}
use Rattle.nd_grammar.proofs.next.HoistedMaxes.{HoistsLast}
use Rattle.nd_grammar.proofs.next.Mapped.{in_parts}
use Rattle.nd_grammar.proofs.reader.ReaderInPlace.{Readable}
use Rattle.nd_grammar.proofs.reader.ReaderLeaves.{value_pointers, first_value, after_value, no_pointer_unread}
use Rattle.nd_grammar.proofs.reader.ReaderOctets.{took, number_small, value_ranged, text_octets, attributes_small, identified}
use Rattle.nd_grammar.proofs.reader.ReaderMoves.{Moves, stays_there, moves_twice, pass_moves, all_moves, pointer_paid, NamedMakes, named_makes}
use Rattle.nd_grammar.specs.ReaderState.{paid, NumbersOk}
use Rattle.nd_grammar.proofs.reader.MadeTrees.{made_more, made_count, unread_made}
use Rattle.nd_grammar.specs.MadeTrees.{FitsAlone, MadeTrees, MadeTree}
use Rattle.nd_lemmas.proofs.Lists.{length_map as mapped_length}

-- a fixed bound is a number of 32 bits
abbrev pub IsSmall : Option ℕ → Type 0
IsSmall None = Unit {0}
IsSmall (Some n) = n < 2 ^ 32

abbrev pub SmallBound : TypeDef → Type 0
SmallBound (def.Array elem bound varying) = IsSmall bound
SmallBound (def.Text elem bound) = IsSmall bound
SmallBound _ = Unit {0}

-- the bounds of a table's types are numbers of 32 bits
pub record SmallBounds (table : Table) : Type 0 where
  pub each : (t : ℕ) (d : TypeDef) → type_at table t ≡ Some d → SmallBound d

bound_small : (b : Option ℕ) (m : ℕ) → IsSmall b → m < 2 ^ 32 → bound_or b m < 2 ^ 32
bound_small None m a h = h
bound_small (Some n) m a h = a

bound_is : (b : Option ℕ) (m : ℕ) → is_bound b (bound_or b m) ≡ true
bound_is None m = refl
bound_is (Some n) m = eq-eqb n n refl

arm_made : (o : Option Arm) (ks : Trees) → count ks ≡ length (selected_types o) → arm_fits o ks ≡ true
arm_made None ks e = refl
arm_made (Some a) ks e = eq-eqb (count ks) (length (arm_type a)) e

module _ (order : Order) (octets : List ℕ) (all : AreOctets octets) (table : Table) (h : Home) (small : SmallBounds table) (laid : HoistsLast table) where
  abbrev E : ℕ → Kind → Entry
  E n k = record { home = h; node = n; kind = k }

  abbrev M : Progress → Progress → Type 0
  M = Moves order octets

  abbrev P : ℕ → Kind → Progress → Progress
  P n k p = pass order octets (E n k) p

  abbrev T : ℕ → Kind → Progress → Option (List ℕ)
  T n k p = taken order octets (E n k) p

  -- what pointers tell of the names before and after them, and of what was paid
  pub record Costs (p : Progress) (s : Names) (q : Progress) (s' : Names) (ps : List Pending) : Type 0 where
    pub cost : 4 * length ps + paid p ≤ paid q
    pub cells : length s'.cells ≤ length s.cells + length ps
    pub covered : (c : ℕ) → length s.cells < c → c ≤ length s'.cells → (x : Pending) × Among ps x × (x.cell ≡ Some c)

  costs_nothing : (p q : Progress) (s : Names) → M p q → Costs p s q s []
  costs_nothing p q s m = record { cost = omega (arith, m.paid_more); cells = omega arith; covered = λ c a b. absurd (omega arith) }

  costs_later : (p q q' : Progress) (s s' : Names) (ps : List Pending) → Costs p s q s' ps → M q q' → Costs p s q' s' ps
  costs_later p q q' s s' ps c m = record { cost = omega (arith, c.cost, m.paid_more); cells = c.cells; covered = c.covered }

  costs_earlier : (p p' q : Progress) (s s' : Names) (ps : List Pending) → M p p' → Costs p' s q s' ps → Costs p s q s' ps
  costs_earlier p p' q s s' ps m c = record { cost = omega (arith, c.cost, m.paid_more); cells = c.cells; covered = c.covered }

  costs_joined : (p q r : Progress) (a b c : Names) (ps qs : List Pending) → Costs p a q b ps → Costs q b r c qs → Costs p a r c (ps ++ qs)
  costs_joined p q r a b c ps qs x y =
      let l : length (ps ++ qs) ≡ length ps + length qs = length-append ps qs in
      record {
        cost = omega (arith, l, x.cost, y.cost);
        cells = omega (arith, l, x.cells, y.cells);
        covered = λ k low high. go k low high (cases_lt (length b.cells) k);
      }
    where
      go : (k : ℕ) → length a.cells < k → k ≤ length c.cells → (length b.cells < k) ⊎ (k ≤ length b.cells) → (z : Pending) × Among (ps ++ qs) z × (z.cell ≡ Some k)
      go k low high (inl i) = let (z, m, e) = y.covered k i high in (z, among_right ps qs z m, e)
      go k low high (inr i) = let (z, m, e) = x.covered k low i in (z, among_left ps qs z m, e)

  -- what reading a value makes
  pub record Makes (d : Option TypeDef) (p : Progress) (s : Names) (r : Read) : Type 0 where
    pub made : MadeTree table d r.tree
    pub moves : Moves order octets p r.progress
    pub numbers : NumbersOk s → NumbersOk r.names
    pub costs : (k : ℕ) (ags : List Agreement) → Costs p s r.progress r.names (value_pointers table h d k ags r.tree)

  pub record AllMake (types : List ℕ) (p : Progress) (s : Names) (r : ReadAll) : Type 0 where
    pub made : MadeTrees table types r.trees
    pub moves : Moves order octets p r.progress
    pub numbers : NumbersOk s → NumbersOk r.names
    pub costs : (k : ℕ) (ags : List (List Agreement)) → Costs p s r.progress r.names (flat_map (pointer table h) (nodes_of table types ags k r.trees))

  -- a value is read where reading has not stopped, or where it hoists
  abbrev pub May : Option TypeDef → Progress → Type 0
  May d p = (p.stop ≡ None) ⊎ (hoists_by (hoists table) d ≡ true)

  abbrev pub Make : (ℕ → ℕ → Progress → Names → Read) → ℕ → Type 0
  Make read t = (n : ℕ) (p : Progress) (s : Names) → May (type_at table t) p → Makes (type_at table t) p s (read t n p s)

  unread_makes : (d : Option TypeDef) (p : Progress) (s : Names) → Makes d p s (record { tree = unread; progress = p; names = s })
  unread_makes d p s = record {
    made = unread_made table d;
    moves = stays_there order octets p;
    numbers = λ k. k;
    costs = λ k ags. subst (λ u. Costs p s p s (u ++ [])) (sym (no_pointer_unread d h k ags)) (costs_nothing p p s (stays_there order octets p));
  }

  if_makes : (read : ℕ → ℕ → Progress → Names → Read) (t n : ℕ) (p : Progress) (s : Names) → Make read t
      → (b : Bool) → (is_stopped p.stop && not (hoists table t)) ≡ b → Makes (type_at table t) p s (read_if b (read t n) p s)
  if_makes read t n p s law true e = unread_makes (type_at table t) p s
  if_makes read t n p s law false e = law n p s (may p.stop refl (hoists table t) refl e)
    where
      may : (o : Option (ℕ × Reason)) → p.stop ≡ o → (b : Bool) → hoists table t ≡ b → (is_stopped o && not b) ≡ false → May (type_at table t) p
      may None f b g e = inl f
      may (Some r) f true g e = inr (sym (laid.unfolds t) ∙ g)
      may (Some r) f false g e = cc

  pub list_makes : (read : ℕ → ℕ → Progress → Names → Read) (types : List ℕ) → AllByRecursion (Make read) types
      → (n : ℕ) (p : Progress) (s : Names) → AllMake types p s (read_list table read types n p s)
  list_makes read [] laws n p s = record { made = tt; moves = stays_there order octets p; numbers = λ k. k; costs = λ k ags. costs_nothing p p s (stays_there order octets p) }
  list_makes read (t ∷ types) laws n p s =
      let first : Read = read_if (is_stopped p.stop && not (hoists table t)) (read t n) p s in
      let others : ReadAll = read_list table read types (n + tree_nodes first.tree) first.progress first.names in
      let a : Makes (type_at table t) p s first = if_makes read t n p s laws.0 (is_stopped p.stop && not (hoists table t)) refl in
      let b : AllMake types first.progress first.names others = list_makes read types laws.1 (n + tree_nodes first.tree) first.progress first.names in
      record {
        made = made_more table t types first.tree others.trees a.made b.made;
        moves = moves_twice order octets p first.progress others.progress a.moves b.moves;
        numbers = λ k. b.numbers (a.numbers k);
        costs = λ k ags.
            subst (Costs p s others.progress others.names) (sym (first_value table h t types ags k first.tree others.trees))
            (costs_joined p first.progress others.progress s first.names others.names (value_pointers table h (type_at table t) k (first_agreements ags) first.tree)
            (flat_map (pointer table h) (nodes_of table types (rest_agreements ags) (after_value first.tree k) others.trees))
            (a.costs k (first_agreements ags)) (b.costs (after_value first.tree k) (rest_agreements ags)));
      }

  children_make : (read : ℕ → ℕ → Progress → Names → Read) (d : Option TypeDef) (n : ℕ) (l : Label) (types : List ℕ) (p0 p : Progress) (s : Names)
      → AllByRecursion (Make read) types
      → ((ks : Trees) → count ks ≡ length types → child_types d l ks ≡ types)
      → ((ks : Trees) → count ks ≡ length types → FitsAlone table d l ks)
      → ((k : ℕ) (ags : List Agreement) → pointer_by d (is_pointer l) (cell_in l) h k ags ≡ [])
      → M p0 p
      → Makes d p0 s (read_children order octets table h read d n l types p s)
  children_make read d n l types p0 p s laws same fits none_own before =
      let kids : ReadAll = read_list table read types (n + 1) p s in
      let a : AllMake types p s kids = list_makes read types laws (n + 1) p s in
      let c : count kids.trees ≡ length types = made_count table types kids.trees a.made in
      let q : Progress = (read_children order octets table h read d n l types p s).progress in
      let K : ℕ → List Pending = λ k. flat_map (pointer table h) (nodes_of table types (child_agreements d kids.trees) (k + 1) kids.trees) in
      let behind : M kids.progress q = all_moves order octets (child_tests h (child_agreements d kids.trees) (n + 1) kids.trees) kids.progress in
      record {
        made = (inr (fits kids.trees c), subst (λ u. MadeTrees table u kids.trees) (sym (same kids.trees c)) a.made);
        moves = moves_twice order octets p0 p q before (moves_twice order octets p kids.progress q a.moves behind);
        numbers = a.numbers;
        costs = λ k ags.
            subst (λ u. Costs p0 s q kids.names (u ++ flat_map (pointer table h) (nodes_of table (child_types d l kids.trees) (child_agreements d kids.trees) (k + 1) kids.trees)))
            (sym (none_own k ags))
            (subst (λ u. Costs p0 s q kids.names (flat_map (pointer table h) (nodes_of table u (child_agreements d kids.trees) (k + 1) kids.trees))) (sym (same kids.trees c))
            (costs_earlier p0 p q s kids.names (K k) before (costs_later p kids.progress q s kids.names (K k) (a.costs (k + 1) (child_agreements d kids.trees)) behind)));
      }

  -- a value without children and pointers
  bare_makes : (d : Option TypeDef) (l : Label) (p q : Progress) (s : Names) → FitsAlone table d l none → child_types d l none ≡ []
      → ((k : ℕ) (ags : List Agreement) → pointer_by d (is_pointer l) (cell_in l) h k ags ≡ [])
      → M p q → Makes d p s (record { tree = node l none; progress = q; names = s })
  bare_makes d l p q s fits no_children none_own m = record {
    made = (inr fits, subst (λ u. MadeTrees table u none) (sym no_children) tt);
    moves = m;
    numbers = λ k. k;
    costs = λ k ags. subst (λ u. Costs p s q s (u ++ [])) (sym (none_own k ags)) (costs_nothing p q s m);
  }

  two : (n : ℕ) (k k' : Kind) (p : Progress) → M p (P n k' (P n k p))
  two n k k' p = moves_twice order octets p (P n k p) (P n k' (P n k p)) (pass_moves order octets (E n k) p) (pass_moves order octets (E n k') (P n k p))

  many : (P : ℕ → Type 0) (t n : ℕ) → P t → AllByRecursion P (replicate n t)
  many P t zero a = tt
  many P t (suc n) a = (a, many P t n a)

  array_fits : (elem : TypeId) (bound : Option ℕ) (m : ℕ) → IsSmall bound → m < 2 ^ 32 → (o : ℕ) → o < 2 ^ 32 → (ks : Trees)
      → FitsAlone table (Some (def.Array elem bound true)) (tree.Arr (bound_or bound m) o) ks
  array_fits elem bound m b hm o ho ks = record {
    shape = refl;
    range = refl;
    no_null = refl;
    counts = bound_is bound m;
    machine = and_from _ _ (lt-ltb (bound_or bound m) (2 ^ 32) (bound_small bound m b hm)) (lt-ltb o (2 ^ 32) ho);
  }

  fixed_fits : (elem : TypeId) (bound : Option ℕ) (m : ℕ) → IsSmall bound → m < 2 ^ 32 → (ks : Trees) → count ks ≡ bound_or bound m
      → FitsAlone table (Some (def.Array elem bound false)) (tree.Arr (bound_or bound m) 0) ks
  fixed_fits elem bound m b hm ks c = record {
    shape = refl;
    range = refl;
    no_null = refl;
    counts = and_from _ _ (and_from (is_bound bound (bound_or bound m)) (eqb 0 0) (bound_is bound m) (eq-eqb 0 0 refl)) (eq-eqb (count ks) (bound_or bound m) c);
    machine = and_from _ _ (lt-ltb (bound_or bound m) (2 ^ 32) (bound_small bound m b hm)) (lt-ltb 0 (2 ^ 32) (omega arith));
  }

  array_makes : (read : ℕ → ℕ → Progress → Names → Read) (elem : TypeId) (bound : Option ℕ) (varying : Bool) (m n : ℕ) (p : Progress) (s : Names)
      → IsSmall bound → m < 2 ^ 32 → Make read elem.0
      → Makes (Some (def.Array elem bound varying)) p s (read_array order octets table h read (Some (def.Array elem bound varying)) varying (bound_or bound m) elem.0 n p s)
  array_makes read elem bound false m n p s b hm law =
      let max : ℕ = bound_or bound m in
      children_make read (Some (def.Array elem bound false)) n (tree.Arr max 0) (replicate max elem.0) p p s (many (Make read) elem.0 max law)
      (λ ks e. ap (λ u. replicate u elem.0) (e ∙ length-replicate max elem.0))
      (λ ks e. fixed_fits elem bound m b hm ks (e ∙ length-replicate max elem.0)) (λ k ags. refl) (stays_there order octets p)
  array_makes read elem bound true m n p s b hm law =
      let max : ℕ = bound_or bound m in
      let gap : Progress = P n (Align 4) p in
      let o : ℕ = number_in order octets (T n (Offset false 0) gap) in
      let behind : Progress = P n (Offset false o) gap in
      let c : ℕ = number_in order octets (T n (Actual false o max 0) behind) in
      let q : Progress = P n (Actual false o max c) behind in
      children_make read (Some (def.Array elem bound true)) n (tree.Arr max o) (replicate c elem.0) p q s (many (Make read) elem.0 c law)
      (λ ks e. ap (λ u. replicate u elem.0) (e ∙ length-replicate c elem.0))
      (λ ks e. array_fits elem bound m b hm o (number_small order octets all (T n (Offset false 0) gap) (took order octets all h n (Offset false 0) gap)) ks) (λ k ags. refl)
      (moves_twice order octets p behind q (two n (Align 4) (Offset false o) p) (pass_moves order octets (E n (Actual false o max c)) behind))

  text_makes : (elem : TypeId) (bound : Option ℕ) (m n : ℕ) (p : Progress) (s : Names) → IsSmall bound → m < 2 ^ 32
      → Makes (Some (def.Text elem bound)) p s (read_text order octets table h (bound_or bound m) n p s)
  text_makes elem bound m n p s b hm =
      let max : ℕ = bound_or bound m in
      let gap : Progress = P n (Align 4) p in
      let behind : Progress = P n (Offset true 0) gap in
      let c : ℕ = number_in order octets (T n (Actual true 0 max 0) behind) in
      let counted : Progress = P n (Actual true 0 max (c - 1 + 1)) behind in
      let o : Option (List ℕ) = T n (Text (replicate (c - 1) 0)) counted in
      let os : List ℕ = text_in order octets (c - 1) o in
      bare_makes (Some (def.Text elem bound)) (tree.Text max os) p (P n (Text os) counted) s
      (record {
        shape = refl;
        range = refl;
        no_null = refl;
        counts = bound_is bound m;
        machine = and_from _ _ (lt-ltb max (2 ^ 32) (bound_small bound m b hm))
            (text_octets order octets all (c - 1) _ o (took order octets all h n (Text (replicate (c - 1) 0)) counted));
      })
      refl (λ k ags. refl)
      (moves_twice order octets p behind (P n (Text os) counted) (two n (Align 4) (Offset true 0) p) (two n (Actual true 0 max (c - 1 + 1)) (Text os) behind))

  union_fits : (tag : TypeId) (enc : Bool) (arms : List Arm) (default : Option Arm) (z : ℤ) → fits_octets (type_at table tag.0) z ≡ true → (ks : Trees)
      → count ks ≡ length (selected_types (selected arms default z)) → FitsAlone table (Some (def.Union tag enc arms default)) (tree.Union z) ks
  union_fits tag enc arms default z f ks c = record { shape = arm_made (selected arms default z) ks c; range = f; no_null = refl; counts = refl; machine = refl }

  union_makes : (read : ℕ → ℕ → Progress → Names → Read) (tag : TypeId) (enc : Bool) (arms : List Arm) (default : Option Arm) (n : ℕ) (p : Progress) (s : Names)
      → ((v : ℤ) → AllByRecursion (Make read) (child_types (Some (def.Union tag enc arms default)) (tree.Union v) none))
      → (dt : Option TypeDef) → type_at table tag.0 ≡ dt
      → Makes (Some (def.Union tag enc arms default)) p s (read_tagged order octets table h read (Some (def.Union tag enc arms default)) dt n arms default p s)
  union_makes read tag enc arms default n p s laws (Some (def.Prim q)) e =
      let gap : Progress = P n (Align (width q)) p in
      let o : Option (List ℕ) = T n (Tag q None arms default (pos 0)) gap in
      let z : ℤ = value_in order octets q o in
      let f : in_range q z ≡ true = value_ranged order octets all q o (took order octets all h n (Tag q None arms default (pos 0)) gap) in
      let d : Option TypeDef = Some (def.Union tag enc arms default) in
      children_make read d n (tree.Union z) (child_types d (tree.Union z) none) p (P n (Tag q None arms default z) gap) s (laws z) (λ ks c. refl)
      (λ ks c. union_fits tag enc arms default z (ap (λ u. fits_octets u z) e ∙ f) ks c) (λ k ags. refl)
      (two n (Align (width q)) (Tag q None arms default z) p)
  union_makes read tag enc arms default n p s laws (Some (def.Enum vs)) e =
      let gap : Progress = P n (Align 2) p in
      let o : Option (List ℕ) = T n (Tag Short (Some vs) arms default (pos 0)) gap in
      let z : ℤ = value_in order octets Short o in
      let f : in_range Short z ≡ true = value_ranged order octets all Short o (took order octets all h n (Tag Short (Some vs) arms default (pos 0)) gap) in
      let d : Option TypeDef = Some (def.Union tag enc arms default) in
      children_make read d n (tree.Union z) (child_types d (tree.Union z) none) p (P n (Tag Short (Some vs) arms default z) gap) s (laws z) (λ ks c. refl)
      (λ ks c. union_fits tag enc arms default z (ap (λ u. fits_octets u z) e ∙ f) ks c) (λ k ags. refl)
      (two n (Align 2) (Tag Short (Some vs) arms default z) p)
  union_makes read tag enc arms default n p s laws None e = unread_makes (Some (def.Union tag enc arms default)) p s
  union_makes read tag enc arms default n p s laws (Some _) e = unread_makes (Some (def.Union tag enc arms default)) p s

  number_makes : (d : Option TypeDef) (q : Primitive) (vs : Option (List ℤ)) (n : ℕ) (p : Progress) (s : Names)
      → ((z : ℤ) → in_range q z ≡ true → FitsAlone table d (tree.Num z) none) → ((z : ℤ) → child_types d (tree.Num z) none ≡ [])
      → ((z : ℤ) (k : ℕ) (ags : List Agreement) → pointer_by d (is_pointer (tree.Num z)) (cell_in (tree.Num z)) h k ags ≡ [])
      → Makes d p s (read_number order octets table h n q vs p s)
  number_makes d q vs n p s fits none_below none_own =
      let gap : Progress = P n (Align (width q)) p in
      let o : Option (List ℕ) = T n (Num q vs (pos 0)) gap in
      let z : ℤ = value_in order octets q o in
      bare_makes d (tree.Num z) p (P n (Num q vs z) gap) s (fits z (value_ranged order octets all q o (took order octets all h n (Num q vs (pos 0)) gap))) (none_below z) (none_own z)
      (two n (Align (width q)) (Num q vs z) p)

  context_makes : (n : ℕ) (p : Progress) (s : Names) → Makes (Some def.Context) p s (read_context order octets table h n p s)
  context_makes n p s =
      let gap : Progress = P n (Align 4) p in
      let o : Option (List ℕ) = T n (Context 0 []) gap in
      let a : ℕ = attributes_in order octets o in
      let id : List ℕ = identifier_in order octets o in
      let t = took order octets all h n (Context 0 []) gap in
      let i = identified order octets all o t in
      bare_makes (Some def.Context) (tree.Context a id) p (P n (Context a id) gap) s
      (record {
        shape = refl;
        range = refl;
        no_null = refl;
        counts = refl;
        machine = and_from _ _ (and_from _ _ (lt-ltb a (2 ^ 32) (attributes_small order octets all o t)) i.sixteen) i.are_octets;
      })
      refl (λ k ags. refl) (two n (Align 4) (Context a id) p)

  no_null : (k : Class) (to : TypeId) (o : Option (List ℕ)) (v : ℕ) (s : Names) → is_no_null_ref (Some (def.Pointer k to)) (tree.Ptr (named k to.0 o v s).cell) ≡ true
  no_null Ref to o v s = refl
  no_null Unique to o v s = refl
  no_null Full to o v s = refl

  pointer_makes : (k : Class) (to : TypeId) (n : ℕ) (p : Progress) (s : Names) → p.stop ≡ None → Makes (Some (def.Pointer k to)) p s
      (record {
        tree = node (tree.Ptr (named k to.0 (T n (Number k to.0 None) (P n (Align 4) p)) (number_in order octets (T n (Number k to.0 None) (P n (Align 4) p))) s).cell) none;
        progress = P n (Number k to.0 (named k to.0 (T n (Number k to.0 None) (P n (Align 4) p)) (number_in order octets (T n (Number k to.0 None) (P n (Align 4) p))) s).cell) (P n (Align 4) p);
        names = (named k to.0 (T n (Number k to.0 None) (P n (Align 4) p)) (number_in order octets (T n (Number k to.0 None) (P n (Align 4) p))) s).names;
      })
  pointer_makes k to n p s e =
      let gap : Progress = P n (Align 4) p in
      let o : Option (List ℕ) = T n (Number k to.0 None) gap in
      let v : ℕ = number_in order octets o in
      let it : Named = named k to.0 o v s in
      let small_v : v < 2 ^ 32 = number_small order octets all o (took order octets all h n (Number k to.0 None) gap) in
      let m : NamedMakes s it = named_makes k to.0 o v s small_v in
      record {
        made = (inr (record { shape = refl; range = refl; no_null = no_null k to o v s; counts = refl; machine = refl }), tt);
        moves = two n (Align 4) (Number k to.0 it.cell) p;
        numbers = m.numbers;
        costs = λ i ags. record {
          cost = omega (arith, pointer_paid order octets (E n (Align 4)) (E n (Number k to.0 it.cell)) p e (λ at. refl));
          cells = omega (arith, m.cells);
          covered = λ c a b. (_, inl refl, m.covered c a b);
        };
      }

  by_makes : (read : ℕ → ℕ → Progress → Names → Read) (m t : ℕ) (d : TypeDef) (n : ℕ) (p : Progress) (s : Names) → SmallBound d → m < 2 ^ 32 → May (Some d) p
      → AllByRecursion (Make read) (parts (Some d)) → Makes (Some d) p s (read_by order octets table h read m t (Some d) n p s)
  by_makes read m t (def.Prim q) n p s b hm may laws =
      number_makes (Some (def.Prim q)) q None n p s (λ z f. record { shape = refl; range = f; no_null = refl; counts = refl; machine = refl }) (λ z. refl) (λ z k ags. refl)
  by_makes read m t (def.Enum vs) n p s b hm may laws =
      number_makes (Some (def.Enum vs)) Short (Some vs) n p s (λ z f. record { shape = refl; range = f; no_null = refl; counts = refl; machine = refl }) (λ z. refl) (λ z k ags. refl)
  by_makes read m t (def.Struct ms) n p s b hm may laws =
      children_make read (Some (def.Struct ms)) n tree.Rec (map (λ f. f.of.0) ms) p (P n (Align (align_of table t)) p) s laws (λ ks c. refl)
      (λ ks c. record { shape = eq-eqb (count ks) (length ms) (c ∙ mapped_length (λ f. f.of.0) ms); range = refl; no_null = refl; counts = refl; machine = refl }) (λ k ags. refl)
      (pass_moves order octets (E n (Align (align_of table t))) p)
  by_makes read m t (def.Array elem bound varying) n p s b hm may laws = array_makes read elem bound varying m n p s b hm laws.0
  by_makes read m t (def.Text elem bound) n p s b hm may laws = text_makes elem bound m n p s b hm
  by_makes read m t (def.Union tag enc arms default) n p s b hm may laws =
      union_makes read tag enc arms default n p s (λ v. in_parts (Make read) (Some (def.Union tag enc arms default)) (tree.Union v) none laws) (type_at table tag.0) refl
  by_makes read m t (def.Pointer k to) n p s b hm (inl e) laws = pointer_makes k to n p s e
  by_makes read m t (def.Pointer k to) n p s b hm (inr e) laws = cc
  by_makes read m t def.Context n p s b hm may laws = context_makes n p s
  by_makes read m t (def.Pipe e) n p s b hm may laws = unread_makes (Some (def.Pipe e)) p s

  all_make : (read : ℕ → ℕ → Progress → Names → Read) (depth : ℕ) → ((t : ℕ) → Readable table depth t → Make read t) → (ts : List ℕ)
      → AllByRecursion (Readable table depth) ts → AllByRecursion (Make read) ts
  all_make read depth law [] a = tt
  all_make read depth law (t ∷ ts) a = (law t a.0, all_make read depth law ts a.1)

  -- What reading a value in its place makes.
  pub in_place_makes : (depth m t : ℕ) → m < 2 ^ 32 → Readable table depth t → Make (read_in_place order octets table h depth m) t
  in_place_makes zero m t hm r n p s may = absurd r
  in_place_makes (suc depth) m t hm (d, e, f, a) n p s may =
      subst (λ u. Makes u p s (read_by order octets table h (read_in_place order octets table h depth m) m t u n p s)) (sym e)
      (by_makes (read_in_place order octets table h depth m) m t d n p s (small.each t d e) hm (subst (λ u. May u p) e may)
      (all_make (read_in_place order octets table h depth m) depth (λ u r. in_place_makes depth m u hm r) (parts (Some d)) a))

  makes_earlier : (d : Option TypeDef) (p q : Progress) (s : Names) (r : Read) → M p q → Makes d q s r → Makes d p s r
  makes_earlier d p q s r m a = record {
    made = a.made;
    moves = moves_twice order octets p q r.progress m a.moves;
    numbers = a.numbers;
    costs = λ k ags. costs_earlier p q r.progress s r.names (value_pointers table h d k ags r.tree) m (a.costs k ags);
  }

  hoisted_makes : (t : ℕ) → Readable table 32 t → (b : Bool) → hoists table t ≡ b → (p : Progress) (s : Names) → p.stop ≡ None
      → Makes (type_at table t) p s (read_hoisted order octets table h b t p s)
  hoisted_makes t r false e p s f = in_place_makes 32 0 t (omega arith) r 0 p s (inl f)
  hoisted_makes t r true e p s f =
      let gap : Progress = P 0 (Align 4) p in
      let o : Option (List ℕ) = T 0 (Max 0) gap in
      let m : ℕ = number_in order octets o in
      let q : Progress = P 0 (Max m) gap in
      makes_earlier (type_at table t) p q s (read_in_place order octets table h 32 m t 0 q s) (two 0 (Align 4) (Max m) p)
      (in_place_makes 32 m t (number_small order octets all o (took order octets all h 0 (Max 0) gap)) r 0 q s (inr (sym (laid.unfolds t) ∙ e)))

  -- What reading a whole value makes.
  pub whole_makes : (t : ℕ) → Readable table 32 t → (p : Progress) (s : Names) → Makes (type_at table t) p s (read_whole order octets table h t p s)
  whole_makes t r p s = by_stop p.stop refl
    where
      by_stop : (o : Option (ℕ × Reason)) → p.stop ≡ o → Makes (type_at table t) p s (read_if (is_stopped o) (read_hoisted order octets table h (hoists table t) t) p s)
      by_stop None e = hoisted_makes t r (hoists table t) refl p s e
      by_stop (Some x) e = unread_makes (type_at table t) p s
