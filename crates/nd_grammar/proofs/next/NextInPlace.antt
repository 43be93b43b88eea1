-- The entries before an entry fix the next one, over values in their places.
use Rattle.std.proofs.Common.{◌≡◌, ℕ, ◌+◌, ◌<◌, ℤ, Bool, true, false, List, [], ◌∷◌, ◌++◌, length, Option, Some, None, refl, ap, ap₂, sym, ◌∙◌, inl, inr, arith, subst, replicate, append_assoc, take}
use Rattle.std.proofs.Common.{drop}
use Rattle.nd_types.specs.declared.types.TypeDef.{TypeDef}
use Rattle.nd_types.specs.declared.types.TypeId.{TypeId}
use Rattle.nd_types.specs.declared.types.Field.{Field}
use Rattle.nd_types.specs.declared.types.Arm.{Arm}
use Rattle.nd_types.specs.declared.types.TypeDef.TheVariants as def
use Rattle.nd_types.specs.declared.types.Class.{Class}
use Rattle.nd_types.specs.declared.types.Class.TheVariants.{Ref, Unique, Full}
use Rattle.nd_types.specs.declared.types.Primitive.{Primitive}
use Rattle.nd_types.specs.Table.{Table, type_at}
use Rattle.nd_value.specs.declared.item.Home.{Home}
use Rattle.nd_value.specs.declared.value.Graph.{Graph}
use Rattle.std.proofs.lemmas.Bool.{and_parts, eqb-true}
use Rattle.nd_grammar.proofs.next.Identifiers.{ids}
use Rattle.nd_grammar.proofs.next.Next.{Pair, HomesMeet, Readings, Next, unread_left, unread_right}
use Rattle.nd_grammar.proofs.next.Matching.{CellsMatch, Match, Matched, CountsKnown, Known, SameMax, Maxes, matched_nodes, matched_count, matched_number, child_agreements_same, through, pointer_bare}
use Rattle.nd_grammar.proofs.next.Matching.{found_same}
use Rattle.nd_value.specs.Misfit.{has_machine_values, is_no_null_ref}
use Rattle.nd_value.specs.Tree.{Referent}
use Rattle.nd_value.specs.Tree as tree
use Rattle.nd_value.specs.Tree.{Tree, Trees, node, none, more, count, node_count, Label, is_pointer, cell_in}
use Rattle.nd_value.specs.Nodes.{child_types, child_agreements, first_agreements, rest_agreements}
use Rattle.nd_grammar.specs.Entry.{Entry, Actual, Text, Test, Unread, before_children, entries, in_place, tag_entries, tests, own_tests, child_tests}
use Rattle.nd_grammar.specs.Stream.{piece, IsNumber}
use Rattle.nd_types.specs.declared.types.Attr.{Attr}
use Rattle.nd_value.specs.Agreement.{Agreement, found_in}

-- what a type's node may say, or that it stands as one that is not read
pub data View (table : Table) (t : ℕ) : Option TypeDef → Label → Type 0 where
  v_prim : {p : Primitive} {z : ℤ} → View table t (Some (def.Prim p)) (tree.Num z)
  v_enum : {vs : List ℤ} {z : ℤ} → View table t (Some (def.Enum vs)) (tree.Num z)
  v_struct : {ms : List Field} → View table t (Some (def.Struct ms)) tree.Rec
  v_array : {e : TypeId} {b : Option ℕ} {v : Bool} {m o : ℕ} → View table t (Some (def.Array e b v)) (tree.Arr m o)
  v_text : {e : TypeId} {b : Option ℕ} {m : ℕ} {os : List ℕ} → View table t (Some (def.Text e b)) (tree.Text m os)
  v_union : {tag : TypeId} {enc : Bool} {arms : List Arm} {d : Option Arm} {v : ℤ} → View table t (Some (def.Union tag enc arms d)) (tree.Union v)
  v_pointer : {k : Class} {to : TypeId} {c : Option ℕ} → View table t (Some (def.Pointer k to)) (tree.Ptr c)
  v_context : {a : ℕ} {i : List ℕ} → View table t (Some def.Context) (tree.Context a i)
  v_unread : {d : Option TypeDef} {l : Label} → ((ks : Trees) → before_children table t d l ks ≡ Unread ∷ []) → View table t d l

pub view : (table : Table) (t : ℕ) (d : Option TypeDef) (l : Label) → View table t d l
view table t (Some (def.Prim p)) (tree.Num z) = v_prim
view table t (Some (def.Enum vs)) (tree.Num z) = v_enum
view table t (Some (def.Struct ms)) tree.Rec = v_struct
view table t (Some (def.Array e b v)) (tree.Arr m o) = v_array
view table t (Some (def.Text e b)) (tree.Text m os) = v_text
view table t (Some (def.Union tag enc arms d)) (tree.Union v) = v_union
view table t (Some (def.Pointer k to)) (tree.Ptr c) = v_pointer
view table t (Some def.Context) (tree.Context a i) = v_context
view table t _ _ = v_unread (λ ks. refl)

snoc_one : (xs ys : List ℕ) (a : ℕ) → xs ++ a ∷ [] ≡ ys ++ a ∷ [] → xs ≡ ys
snoc_one [] [] a e = refl
snoc_one [] (y ∷ []) a e = cc
snoc_one [] (y ∷ z ∷ ys) a e = cc
snoc_one (x ∷ []) [] a e = cc
snoc_one (x ∷ z ∷ xs) [] a e = cc
snoc_one (x ∷ xs) (y ∷ ys) a e =
    let t : xs ++ a ∷ [] ≡ ys ++ a ∷ [] = cc in
    let h : x ≡ y = cc in
    let r = snoc_one xs ys a t in
    cc

four : {X : Type 0} (a b c d m : List X) → (a ++ (b ++ (c ++ d))) ++ m ≡ a ++ (b ++ (c ++ (d ++ m)))
four a b c d m = simp append_assoc

arr_max : (m o m' o' : ℕ) → SameMax (tree.Arr m o) (tree.Arr m' o') → m ≡ m'
arr_max m o m' o' (inl e) = cc
arr_max m o m' o' (inr (inl e)) = cc
arr_max m o m' o' (inr (inr e)) = e

text_max : (m : ℕ) (os : List ℕ) (m' : ℕ) (os' : List ℕ) → SameMax (tree.Text m os) (tree.Text m' os') → m ≡ m'
text_max m os m' os' (inl e) = cc
text_max m os m' os' (inr (inl e)) = cc
text_max m os m' os' (inr (inr e)) = e

-- a reference pointer is not null
abbrev pub NoNull : Class → Option ℕ → Type 0
NoNull Ref None = ⊥
NoNull _ _ = Unit {0}

pub no_null : (k : Class) (to : TypeId) (c : Option ℕ) → is_no_null_ref (Some (def.Pointer k to)) (tree.Ptr c) ≡ true → NoNull k c
no_null Ref to None e = cc
no_null Ref to (Some c) e = tt
no_null Unique to None e = tt
no_null Unique to (Some c) e = tt
no_null Full to None e = tt
no_null Full to (Some c) e = tt

pub cells_match : (nums nums' : ℕ → ℕ) → ((c : ℕ) → 0 < nums c) → ((c : ℕ) → 0 < nums' c) → (k : Class) (c d : Option ℕ) (v : ℕ) → NoNull k c → NoNull k d
    → IsNumber nums k c v → IsNumber nums' k d v → CellsMatch nums nums' k c d
cells_match nums nums' low low' Full None None v a b x y = tt
cells_match nums nums' low low' Unique None None v a b x y = tt
cells_match nums nums' low low' Ref None None v a b x y = tt
cells_match nums nums' low low' Full (Some c) (Some d) v a b x y = sym x ∙ y
cells_match nums nums' low low' Unique (Some c) (Some d) v a b x y = tt
cells_match nums nums' low low' Ref (Some c) (Some d) v a b x y = tt
cells_match nums nums' low low' Full None (Some d) v a b x y = let l = low' d in absurd (omega arith)
cells_match nums nums' low low' Unique None (Some d) v a b x y = absurd (omega arith)
cells_match nums nums' low low' Ref None (Some d) v a b x y = absurd a
cells_match nums nums' low low' Full (Some c) None v a b x y = let l = low c in absurd (omega arith)
cells_match nums nums' low low' Unique (Some c) None v a b x y = absurd (omega arith)
cells_match nums nums' low low' Ref (Some c) None v a b x y = absurd b

-- an identifier has 16 octets
sixteen : (a a' : ℕ) (i j : List ℕ) → has_machine_values (tree.Context a i) ≡ true → has_machine_values (tree.Context a' j) ≡ true → length i ≡ length j
sixteen a a' i j e f =
    let (e1, e2) = and_parts _ _ e in
    let (e3, e4) = and_parts _ _ e1 in
    let (f1, f2) = and_parts _ _ f in
    let (f3, f4) = and_parts _ _ f1 in
    eqb-true (length i) 16 e4 ∙ sym (eqb-true (length j) 16 f4)

module _ (two : Readings) (W X : List Pair → Type 0) (map : List Pair) (one : W map) (table : Table) (g g' : Graph) (h h' : Home)
    (meet : HomesMeet map h h') where
  abbrev pub N : ℕ → List Entry → List Entry → Type 0
  N at ms ns = Next two W X map at ms ns

  abbrev pub Cells : Class → Option ℕ → Option ℕ → Type 0
  Cells = CellsMatch two.left two.right

  -- what follows the entries of a node, once its label is known to match
  abbrev Rest : Option TypeDef → Label → Label → Trees → Trees → List Entry → List Entry → Type 0
  Rest d l l' ks ks' ms ns =
      (p : ℕ) → Match Cells d l l' → child_types d l ks ≡ child_types d l' ks' → N p ms ns

  tag_next : (n : ℕ) (d : Option TypeDef) (arms : List Arm) (default : Option Arm) (v v' : ℤ) (ms ns : List Entry) (at : ℕ)
      → ((p : ℕ) → v ≡ v' → N p ms ns)
      → N at (entries h n (tag_entries d arms default v) ++ ms) (entries h' n (tag_entries d arms default v') ++ ns)
  tag_next n (Some (def.Prim p)) arms default v v' ms ns at k =
      inr (inr ([], one, meet, (refl, refl), λ _ _. inr (inr ([], one, meet, (refl, refl), λ x y. k _ (sym x.1 ∙ y.1)))))
  tag_next n (Some (def.Enum vs)) arms default v v' ms ns at k =
      inr (inr ([], one, meet, (refl, refl), λ _ _. inr (inr ([], one, meet, (refl, refl), λ x y. k _ (sym x.1 ∙ y.1)))))
  tag_next n _ arms default v v' ms ns at k = inl refl

  same_text : (p : ℕ) (os os' : List ℕ) → length os ≡ length os' → piece two.octets p (Text os) ≡ os ++ 0 ∷ []
      → piece two.octets p (Text os') ≡ os' ++ 0 ∷ [] → os ≡ os'
  same_text p os os' e x y = snoc_one os os' 0 (sym x ∙ ap (λ u. take (u + 1) (drop p two.octets)) e ∙ y)

  before_next : (t n : ℕ) {d : Option TypeDef} {l l' : Label} (ks ks' : Trees) (ms ns : List Entry) (at : ℕ)
      → View table t d l → View table t d l'
      → CountsKnown d l ks → CountsKnown d l' ks' → is_no_null_ref d l ≡ true → is_no_null_ref d l' ≡ true
      → has_machine_values l ≡ true → has_machine_values l' ≡ true
      → SameMax l l'
      → Rest d l l' ks ks' ms ns
      → N at (entries h n (before_children table t d l ks) ++ ms) (entries h' n (before_children table t d l' ks') ++ ns)
  before_next t n ks ks' ms ns at v_prim v_prim a b c d i j e k =
      inr (inr
      ([], one, meet, (refl, refl), λ _ _. inr (inr ([], one, meet, (refl, refl), λ x y. k _ (record { same = ap tree.Num (sym x.1 ∙ y.1); cells = tt; read = λ e. cc; read' = λ e. cc }) refl))))
  before_next t n ks ks' ms ns at v_enum v_enum a b c d i j e k =
      inr (inr
      ([], one, meet, (refl, refl), λ _ _. inr (inr ([], one, meet, (refl, refl), λ x y. k _ (record { same = ap tree.Num (sym x.1 ∙ y.1); cells = tt; read = λ e. cc; read' = λ e. cc }) refl))))
  before_next t n ks ks' ms ns at v_struct v_struct a b c d i j e k =
      inr (inr ([], one, meet, (refl, refl), λ _ _. k _ (record { same = refl; cells = tt; read = λ e. cc; read' = λ e. cc }) refl))
  before_next t n ks ks' ms ns at (v_array {e = elem} {v = true} {m = m} {o = o}) (v_array {m = m'} {o = o'}) a b c d i j e0 k =
      let e : m ≡ m' = arr_max m o m' o' e0 in
      inr (inr (
        [],
        one,
        meet,
        (refl, refl),
        λ _ _. inr (inr (
          [],
          one,
          meet,
          (refl, refl),
          λ x y.
              let eo : o ≡ o' = sym x.1 ∙ y.1 in
              inr (inr (
                [],
                one,
                meet,
                (refl, ap₂ (λ u v. Actual false u v 0) eo e),
                λ x' y'.
                    k _ (record { same = ap₂ tree.Arr e eo; cells = tt; read = λ e. cc; read' = λ e. cc }) (ap (λ u. replicate u elem.0) (sym x'.1 ∙ y'.1)),
              )),
        )),
      ))
  before_next t n ks ks' ms ns at (v_array {e = elem} {v = false} {m = m} {o = o}) (v_array {m = m'} {o = o'}) a b c d i j e0 k =
      let e : m ≡ m' = arr_max m o m' o' e0 in
      k at (record { same = ap₂ tree.Arr e (a.0 ∙ sym b.0); cells = tt; read = λ e. cc; read' = λ e. cc }) (ap (λ u. replicate u elem.0) (a.1 ∙ e ∙ sym b.1))
  before_next t n ks ks' ms ns at (v_text {m = m} {os = os}) (v_text {m = m'} {os = os'}) a b c d i j e0 k =
      let e : m ≡ m' = text_max m os m' os' e0 in
      inr (inr (
        [],
        one,
        meet,
        (refl, refl),
        λ _ _. inr (inr (
          [],
          one,
          meet,
          (refl, refl),
          λ _ _.
              inr (inr (
                [],
                one,
                meet,
                (refl, ap (λ u. Actual true 0 u 0) e),
                λ x y.
                    let el : length os ≡ length os' = (let f : length os + 1 ≡ length os' + 1 = sym x.1 ∙ y.1 in omega arith) in
                    inr (inr (
                      [],
                      one,
                      meet,
                      (refl, ap (λ u. Text (replicate u 0)) el),
                      λ x' y'.
                          k _ (record { same = ap₂ tree.Text e (same_text _ os os' el x'.1 y'.1); cells = tt; read = λ e. cc; read' = λ e. cc }) refl,
                    )),
              )),
        )),
      ))
  before_next t n ks ks' ms ns at (v_union {tag = tag} {enc = enc} {arms = arms} {d = default} {v = v}) (v_union {v = v'}) a b c d i j e k =
      tag_next n (type_at table tag.0) arms default v v' ms ns at (λ p ev.
      k p (record { same = ap tree.Union ev; cells = tt; read = λ e. cc; read' = λ e. cc }) (ap (λ u. child_types (Some (def.Union tag enc arms default)) (tree.Union u) ks) ev))
  before_next t n ks ks' ms ns at (v_pointer {k = kl} {to = to} {c = p}) (v_pointer {c = q}) a b c d i j e k =
      inr (inr (
        [],
        one,
        meet,
        (refl, refl),
        λ _ _. inr
            (inr (
              [],
              one,
              meet,
              (refl, refl),
              λ x y. k _
                  (record {
                    same = refl;
                    cells = cells_match two.left two.right two.left_low two.right_low kl p q _ (no_null kl to p c) (no_null kl to q d) x.1 y.1;
                    read = λ e. cc;
                    read' = λ e. cc;
                  }) refl,
            )),
      ))
  before_next t n ks ks' ms ns at (v_context {i = id}) (v_context {i = id'}) a b c d i j e k =
      inr (inr (
        [],
        one,
        meet,
        (refl, refl),
        λ _ _. inr (inr (
          [],
          one,
          meet,
          (refl, refl),
          λ x y.
              k _ (record { same = ap₂ tree.Context (sym x.1.0 ∙ y.1.0) (ids two.order id id' (sixteen _ _ id id' i j) (sym x.1.1 ∙ y.1.1)); cells = tt; read = λ e. cc; read' = λ e. cc }) refl,
        )),
      ))
  before_next t n {d = dd} {l' = l'} ks ks' ms ns at (v_unread x) y a b c d i j e k =
      rw (x ks) (unread_left two W X map at (record { home = h; node = n; kind = Unread }) ms (entries h' n (before_children table t dd l' ks') ++ ns) refl)
  before_next t n {d = dd} {l = l} ks ks' ms ns at x (v_unread y) a b c d i j e k =
      rw (y ks') (unread_right two W X map at (record { home = h'; node = n; kind = Unread }) (entries h n (before_children table t dd l ks) ++ ms) ns refl)

  pub tests_next : (n : ℕ) (t t' : Tree) (ws : List Agreement) → ((a : Attr) → found_in a t ≡ found_in a t') → (ms ns : List Entry) (at : ℕ)
      → ((p : ℕ) → N p ms ns)
      → N at (tests h n t ws ++ ms) (tests h' n t' ws ++ ns)
  tests_next n t t' [] e ms ns at k = k at
  tests_next n t t' (a ∷ ws) e ms ns at k =
      inr (inr ([], one, meet, (refl, ap (λ u. Test a.attr a.wanted u) (e a.attr)), λ _ _. tests_next n t t' ws e ms ns _ k))

  own_next : (b : Bool) (n : ℕ) (t t' : Tree) (ws : List Agreement) → ((a : Attr) → found_in a t ≡ found_in a t') → (ms ns : List Entry) (at : ℕ)
      → ((p : ℕ) → N p ms ns)
      → N at (own_tests b h n t ws ++ ms) (own_tests b h' n t' ws ++ ns)
  own_next true n t t' ws e ms ns at k = k at
  own_next false n t t' ws e ms ns at k = tests_next n t t' ws e ms ns at k

  pub child_tests_next : (types : List ℕ) (agreements : List (List Agreement)) (n : ℕ) (ts us : Trees) → Matched Cells table types ts us
      → (ms ns : List Entry) (at : ℕ) → ((p : ℕ) → N p ms ns)
      → N at (child_tests h agreements n ts ++ ms) (child_tests h' agreements n us ++ ns)
  child_tests_next types agreements n none none m ms ns at k = k at
  child_tests_next [] agreements n none (more u us) m ms ns at k = absurd m
  child_tests_next [] agreements n (more t ts) none m ms ns at k = absurd m
  child_tests_next (t ∷ types) agreements n none (more u us) m ms ns at k = absurd m
  child_tests_next (t ∷ types) agreements n (more (node l ks) ts) none m ms ns at k = absurd m
  child_tests_next [] agreements n (more t ts) (more u us) m ms ns at k = absurd m
  child_tests_next (t ∷ types) agreements n (more (node l ks) ts) (more (node l' ks') us) m ms ns at k =
      let c : count ks ≡ count ks' = matched_count Cells table _ ks ks' m.1 in
      let c' : node_count ks ≡ node_count ks' = matched_nodes Cells table _ ks ks' m.1 in
      let p' : is_pointer l ≡ is_pointer l' = through l l' m.0.same is_pointer pointer_bare in
      let X : Bool → ℕ → Type 0 = λ b v. N at
      ((own_tests (is_pointer l) h n (node l ks) (first_agreements agreements) ++ child_tests h (rest_agreements agreements) (n + 1 + node_count ks) ts) ++ ms)
      ((own_tests b h' n (node l' ks') (first_agreements agreements) ++ child_tests h' (rest_agreements agreements) (n + 1 + v) us) ++ ns) in
      subst (λ b. X b (node_count ks')) p' (subst (λ v. X (is_pointer l) v) c'
      (rw (append_assoc, append_assoc)
      (own_next (is_pointer l) n (node l ks) (node l' ks') (first_agreements agreements) (λ a. found_same l l' m.0.same a ks ks' c)
      (child_tests h (rest_agreements agreements) (n + 1 + node_count ks) ts ++ ms) (child_tests h' (rest_agreements agreements) (n + 1 + node_count ks) us ++ ns) at
      (λ p. child_tests_next types (rest_agreements agreements) (n + 1 + node_count ks) ts us m.2 ms ns p k))))

  -- Two lists of trees of the same types follow each other, up to an unread value; where both are spelled whole, they match.
  pub in_place_next : (types : List ℕ) (n : ℕ) (ts us : Trees)
      → Known g table types ts → Known g' table types us → Maxes table types ts us
      → (ms ns : List Entry) (at : ℕ)
      → ((p : ℕ) → Matched Cells table types ts us → N p ms ns)
      → N at (in_place table h types n ts ++ ms) (in_place table h' types n us ++ ns)
  in_place_next [] n none none a b x ms ns at k = k at tt
  in_place_next [] n none (more u us) a b x ms ns at k = absurd b
  in_place_next [] n (more t ts) us a b x ms ns at k = absurd a
  in_place_next (t ∷ types) n none us a b x ms ns at k = absurd a
  in_place_next (t ∷ types) n (more (node l ks) ts) none a b x ms ns at k = absurd b
  in_place_next (t ∷ types) n (more (node l ks) ts) (more (node l' ks') us) a b x ms ns at k =
      let d : Option TypeDef = type_at table t in
      let kinds : List ℕ = child_types d l ks in
      let A : List Entry = entries h n (before_children table t d l ks) in
      let B : List Entry = in_place table h kinds (n + 1) ks in
      let C : List Entry = child_tests h (child_agreements d ks) (n + 1) ks in
      let D : List Entry = in_place table h types (n + 1 + node_count ks) ts in
      let A' : List Entry = entries h' n (before_children table t d l' ks') in
      let B' : List ℕ → List Entry = λ y. in_place table h' y (n + 1) ks' in
      let C' : List (List Agreement) → List Entry = λ y. child_tests h' y (n + 1) ks' in
      let D' : ℕ → List Entry = λ y. in_place table h' types (n + 1 + y) us in
      let kinds' : List ℕ = child_types d l' ks' in
      let rest : (p : ℕ) → Match Cells d l l' → kinds ≡ kinds'
      → N p (B ++ (C ++ (D ++ ms))) (B' kinds' ++ (C' (child_agreements d ks') ++ (D' (node_count ks') ++ ns))) =
      λ p m e. subst (λ y. N p (B ++ (C ++ (D ++ ms))) (B' y ++ (C' (child_agreements d ks') ++ (D' (node_count ks') ++ ns)))) e
      (in_place_next kinds (n + 1) ks ks' (a.1 m.read) (subst (λ y. Known g' table y ks') (sym e) (b.1 m.read')) (x.1 e)
      (C ++ (D ++ ms)) (C' (child_agreements d ks') ++ (D' (node_count ks') ++ ns)) p
      (λ p' mk.
      let w : child_agreements d ks ≡ child_agreements d ks' = child_agreements_same Cells table d ks ks' (matched_number Cells table kinds ks ks' mk) in
      let v : node_count ks ≡ node_count ks' = matched_nodes Cells table kinds ks ks' mk in
      subst (λ y. N p' (C ++ (D ++ ms)) (C' y ++ (D' (node_count ks') ++ ns))) w
      (subst (λ y. N p' (C ++ (D ++ ms)) (C' (child_agreements d ks) ++ (D' y ++ ns))) v
      (child_tests_next kinds (child_agreements d ks) (n + 1) ks ks' mk (D ++ ms) (D' (node_count ks) ++ ns) p'
      (λ p''. in_place_next types (n + 1 + node_count ks) ts us a.2 b.2 x.2 ms ns p'' (λ q mr. k q (m, mk, mr))))))) in
      rw (four A B C D ms, four A' (B' kinds') (C' (child_agreements d ks')) (D' (node_count ks')) ns)
      (before_next t n ks ks' (B ++ (C ++ (D ++ ms))) (B' kinds' ++ (C' (child_agreements d ks') ++ (D' (node_count ks') ++ ns))) at
      (view table t d l) (view table t d l') a.0.counts b.0.counts a.0.no_null b.0.no_null a.0.machine b.0.machine x.0 rest)
