-- The lines of an operation's side, and the lists of enumerated types.
use Rattle.std.proofs.Common.{◌≡◌, ◌<◌, ◌≤◌, ℕ, ℤ, ◌+◌, ◌*◌, zero, suc, true, false, List, [], ◌∷◌, ◌++◌, length, take, flat_map, None, Some, refl, ap, sym, ◌∙◌, subst, arith}
use Rattle.std.specs.List.{slice_get, enumerate_from}
use Rattle.std.specs.Prelude.{◌==◌, if◌then◌else◌}
use Rattle.std.proofs.lemmas.List.{length-map}
use Rattle.std.proofs.lemmas.List.FromFn.{length-enumerate_from}
use Rattle.std.proofs.lemmas.Bool.{eq-eqb, ne_eqb}
use Rattle.std.proofs.lemmas.Option.{same_Some}
use Rattle.nd_types.specs.declared.types.TypeDef.{TypeDef}
use Rattle.nd_types.specs.declared.types.TypeDef.TheVariants as def
use Rattle.nd_types.specs.declared.types.Operation.{Operation}
use Rattle.nd_types.specs.declared.types.Primitive.{Primitive}
use Rattle.nd_types.specs.declared.types.Side.{Side}
use Rattle.nd_types.specs.declared.types.Side.TheVariants as side
use Rattle.nd_types.specs.Table.{Table, type_at}
use Rattle.nd_types.specs.Roots.{Root, roots_of, root_name}
use Rattle.ndr_code.specs.declared.lists.PlanLine.{PlanLine}
use Rattle.ndr_code.specs.declared.lists.PlanLine.TheVariants as line
use Rattle.ndr_code.specs.declared.lists.EnumList.{EnumList}
use Rattle.ndr_code.specs.Code.{id, value_roots, pipe_roots, root_at, checks_at, pipe_at, entry_lines, side_lines, operation_lines, entries_of, line_at, sides_of, side_number, enum_list, enum_list_by}
use Rattle.ndr_code.specs.Code.{values_of, enumerators}
use Rattle.ndr_code.specs.Runs.{IsRunAt}
use Rattle.ndr_code.proofs.Runs.{behind_at, part_at, first_at, item_at, flat_at, numbered, mapped}
use Rattle.nd_grammar.proofs.reader.ReaderNames.{get_left as item_before}

-- there are as many entries as roots
many_entries : (n : ℕ) (o : Operation) (s : Side) (at : ℕ → ℕ) (rs : List Root) → length (entry_lines n o s at rs) ≡ length rs
many_entries n o s at rs = length-map (enumerate_from 0 rs) (λ e. line.Entry n s (root_name o e.1.param) (at e.0)) ∙ length-enumerate_from 0 rs

module _ (table : Table) (operations : List Operation) (n : ℕ) (o : Operation) (is : slice_get operations n ≡ Some o) where
  both_at : IsRunAt (entries_of table operations) (length (flat_map (operation_lines table operations) (take n (enumerate_from 0 operations)))) (operation_lines table operations (n, o))
  both_at =
      let z : 0 + n ≡ n = omega arith in
      flat_at (operation_lines table operations) (enumerate_from 0 operations) n (n, o) (numbered 0 operations n o is ∙ ap (λ j. Some (j, o)) z)

  -- the lines of a side begin at its first line
  pub side_lines_at : (s : Side) → IsRunAt (entries_of table operations) (line_at table operations n o s) (side_lines table operations n o s)
  unfolding line_at
  side_lines_at side.In =
      let before : ℕ = length (flat_map (operation_lines table operations) (take n (enumerate_from 0 operations))) in
      let z : before ≡ before + 0 = omega arith in
      subst (λ k. IsRunAt (entries_of table operations) k (side_lines table operations n o side.In)) z
      (part_at (entries_of table operations) before (side_lines table operations n o side.In) (side_lines table operations n o side.Out) both_at)
  side_lines_at side.Out =
      let before : ℕ = length (flat_map (operation_lines table operations) (take n (enumerate_from 0 operations))) in
      behind_at (entries_of table operations) before (side_lines table operations n o side.In) (side_lines table operations n o side.Out) both_at

  module _ (s : Side) where
    -- the line of the i-th root that is no pipe
    pub root_line_at : (i : ℕ) (r : Root) → slice_get (value_roots (roots_of table s o)) i ≡ Some r
        → slice_get (entries_of table operations) (line_at table operations n o s + i) ≡ Some (line.Entry n s (root_name o r.param) (root_at table operations n o s i))
    root_line_at i r e =
        let rs : List Root = value_roots (roots_of table s o) in
        let own : List PlanLine = entry_lines n o s (root_at table operations n o s) rs in
        let more : List PlanLine = line.Checks n s (checks_at table operations n o s) ∷ entry_lines n o s (pipe_at table operations n o s) (pipe_roots (roots_of table s o)) in
        item_at (entries_of table operations) (line_at table operations n o s) (side_lines table operations n o s) i _ (side_lines_at s)
        (item_before own more i _ (mapped (λ e. line.Entry n s (root_name o e.1.param) (root_at table operations n o s e.0)) rs i r e))

    -- the lines after those of the roots
    behind_roots : IsRunAt (entries_of table operations) (line_at table operations n o s + length (value_roots (roots_of table s o)))
        (line.Checks n s (checks_at table operations n o s) ∷ entry_lines n o s (pipe_at table operations n o s) (pipe_roots (roots_of table s o)))
    behind_roots =
        let rs : List Root = value_roots (roots_of table s o) in
        let own : List PlanLine = entry_lines n o s (root_at table operations n o s) rs in
        let more : List PlanLine = line.Checks n s (checks_at table operations n o s) ∷ entry_lines n o s (pipe_at table operations n o s) (pipe_roots (roots_of table s o)) in
        subst (λ k. IsRunAt (entries_of table operations) (line_at table operations n o s + k) more) (many_entries n o s (root_at table operations n o s) rs)
        (behind_at (entries_of table operations) (line_at table operations n o s) own more (side_lines_at s))

    -- the line of the agreements
    pub checks_line_at : slice_get (entries_of table operations) (line_at table operations n o s + length (value_roots (roots_of table s o)))
        ≡ Some (line.Checks n s (checks_at table operations n o s))
    checks_line_at =
        first_at (entries_of table operations) (line_at table operations n o s + length (value_roots (roots_of table s o))) (line.Checks n s (checks_at table operations n o s))
        (entry_lines n o s (pipe_at table operations n o s) (pipe_roots (roots_of table s o))) behind_roots

    -- the line of the i-th pipe
    pub pipe_line_at : (i : ℕ) (r : Root) → slice_get (pipe_roots (roots_of table s o)) i ≡ Some r
        → slice_get (entries_of table operations) (line_at table operations n o s + length (value_roots (roots_of table s o)) + 1 + i)
        ≡ Some (line.Entry n s (root_name o r.param) (pipe_at table operations n o s i))
    pipe_line_at i r e =
        let rs : List Root = pipe_roots (roots_of table s o) in
        let begin : ℕ = line_at table operations n o s + length (value_roots (roots_of table s o)) in
        let own : List PlanLine = entry_lines n o s (pipe_at table operations n o s) rs in
        item_at (entries_of table operations) (begin + 1) own i _
        (behind_at (entries_of table operations) begin (line.Checks n s (checks_at table operations n o s) ∷ []) own behind_roots)
        (mapped (λ e. line.Entry n s (root_name o e.1.param) (pipe_at table operations n o s e.0)) rs i r e)

-- two numbers of each item: those of the n-th one
two_each : {X : Type 0} (f g : X → ℕ) (xs : List X) (n : ℕ) (x : X) → slice_get xs n ≡ Some x
    → (slice_get (flat_map (λ e. f e ∷ g e ∷ []) xs) (2 * n) ≡ Some (f x)) × (slice_get (flat_map (λ e. f e ∷ g e ∷ []) xs) (2 * n + 1) ≡ Some (g x))
two_each f g [] n x e = cc
two_each f g (y ∷ xs) zero x e = (ap (λ z. Some (f z)) (same_Some y x e), ap (λ z. Some (g z)) (same_Some y x e))
two_each f g (y ∷ xs) (suc n) x e =
    let h = two_each f g xs n x e in
    let a : suc (suc (2 * n)) ≡ 2 * suc n = omega arith in
    let b : suc (suc (2 * n + 1)) ≡ 2 * suc n + 1 = omega arith in (
      ap (λ k. slice_get (flat_map (λ e. f e ∷ g e ∷ []) (y ∷ xs)) k) (sym a) ∙ h.0,
      ap (λ k. slice_get (flat_map (λ e. f e ∷ g e ∷ []) (y ∷ xs)) k) (sym b) ∙ h.1,
    )

-- the starts have the first line of each side
pub start_at : (table : Table) (operations : List Operation) (n : ℕ) (o : Operation) → slice_get operations n ≡ Some o → (s : Side)
    → slice_get (sides_of table operations) (2 * n + side_number s) ≡ Some (line_at table operations n o s)
start_at table operations n o is s =
    let z : 0 + n ≡ n = omega arith in
    let at : slice_get (enumerate_from 0 operations) n ≡ Some (n, o) = numbered 0 operations n o is ∙ ap (λ j. Some (j, o)) z in
    let h = two_each {X = ℕ × Operation} (λ e. line_at table operations e.0 e.1 side.In) (λ e. line_at table operations e.0 e.1 side.Out) (enumerate_from 0 operations) n (n, o) at in
    go s h.0 h.1
  where
    go : (s : Side) → slice_get (sides_of table operations) (2 * n) ≡ Some (line_at table operations n o side.In)
        → slice_get (sides_of table operations) (2 * n + 1) ≡ Some (line_at table operations n o side.Out)
        → slice_get (sides_of table operations) (2 * n + side_number s) ≡ Some (line_at table operations n o s)
    go side.In a b = let z : 2 * n + 0 ≡ 2 * n = omega arith in ap (λ k. slice_get (sides_of table operations) k) z ∙ a
    go side.Out a b = b

-- the list of another type is passed
passed : (t other : ℕ) (d : TypeDef) (rest : List EnumList) → (t == other) ≡ false → enumerators (enum_list_by t d ++ rest) other ≡ enumerators rest other
passed t other (def.Enum vs) rest e = ap (λ b. if b then Some vs else enumerators rest other) e
passed t other _ rest e = refl

found : (t other : ℕ) (d : TypeDef) (vs : List ℤ) (rest : List EnumList) → d ≡ def.Enum vs → (t == other) ≡ true → enumerators (enum_list_by t d ++ rest) other ≡ Some vs
found t other d vs rest is e =
    ap (λ x. enumerators (enum_list_by t x ++ rest) other) is ∙ ap (λ b. if b then Some vs else enumerators rest other) e

-- the list of the i-th type, where they are numbered from k
listed : (k : ℕ) (table : Table) (i : ℕ) (vs : List ℤ) → slice_get table i ≡ Some (def.Enum vs) → enumerators (flat_map enum_list (enumerate_from k table)) (k + i) ≡ Some vs
listed k [] i vs e = cc
listed k (d ∷ table) zero vs e =
    let z : k ≡ k + 0 = omega arith in
    found k (k + 0) d vs (flat_map enum_list (enumerate_from (k + 1) table)) (same_Some d (def.Enum vs) e) (eq-eqb k (k + 0) z)
listed k (d ∷ table) (suc i) vs e =
    let z : k + 1 + i ≡ k + suc i = omega arith in
    let other : (k == (k + suc i)) ≡ false = ne_eqb k (k + suc i) (λ h. omega (arith, h)) in
    passed k (k + suc i) d (flat_map enum_list (enumerate_from (k + 1) table)) other
    ∙ ap (λ j. enumerators (flat_map enum_list (enumerate_from (k + 1) table)) j) (sym z)
    ∙ listed (k + 1) table i vs e

pub type_listed : (table : Table) (t : ℕ) (vs : List ℤ) → type_at table t ≡ Some (def.Enum vs) → enumerators (values_of table) t ≡ Some vs
type_listed table t vs e = let z : 0 + t ≡ t = omega arith in ap (λ j. enumerators (values_of table) j) (sym z) ∙ listed 0 table t vs e

-- no list of types from number k on is of one before
none_below : (k t : ℕ) (table : Table) → t < k → enumerators (flat_map enum_list (enumerate_from k table)) t ≡ None
none_below k t [] h = refl
none_below k t (d ∷ table) h =
    let other : (k == t) ≡ false = ne_eqb k t (λ e. omega (arith, h, e)) in
    passed k t d (flat_map enum_list (enumerate_from (k + 1) table)) other ∙ none_below (k + 1) t table (omega (arith, h))

-- nor of a primitive
unlisted : (k : ℕ) (table : Table) (i : ℕ) (p : Primitive) → slice_get table i ≡ Some (def.Prim p)
    → enumerators (flat_map enum_list (enumerate_from k table)) (k + i) ≡ None
unlisted k [] i p e = cc
unlisted k (d ∷ table) zero p e =
    ap (λ x. enumerators (enum_list_by k x ++ flat_map enum_list (enumerate_from (k + 1) table)) (k + 0)) (same_Some d (def.Prim p) e)
    ∙ none_below (k + 1) (k + 0) table (omega arith)
unlisted k (d ∷ table) (suc i) p e =
    let z : k + 1 + i ≡ k + suc i = omega arith in
    let other : (k == (k + suc i)) ≡ false = ne_eqb k (k + suc i) (λ h. omega (arith, h)) in
    passed k (k + suc i) d (flat_map enum_list (enumerate_from (k + 1) table)) other
    ∙ ap (λ j. enumerators (flat_map enum_list (enumerate_from (k + 1) table)) j) (sym z)
    ∙ unlisted (k + 1) table i p e

pub primitive_unlisted : (table : Table) (t : ℕ) (p : Primitive) → type_at table t ≡ Some (def.Prim p) → enumerators (values_of table) t ≡ None
primitive_unlisted table t p e = let z : 0 + t ≡ t = omega arith in ap (λ j. enumerators (values_of table) j) (sym z) ∙ unlisted 0 table t p e

-- the lists of types from number k on are of these types
listed_from : (k : ℕ) (table : Table) (j : ℕ) (b : EnumList) → slice_get (flat_map enum_list (enumerate_from k table)) j ≡ Some b → k ≤ b.of.0
listed_from k [] j b e = cc
listed_from k (def.Enum vs ∷ table) zero b e =
    let z : k ≡ b.of.0 = ap (λ x. x.of.0) (same_Some (record { of = id k; values = vs }) b e) in omega (arith, z)
listed_from k (def.Enum vs ∷ table) (suc j) b e = let h : k + 1 ≤ b.of.0 = listed_from (k + 1) table j b e in omega (arith, h)
listed_from k (_ ∷ table) j b e = let h : k + 1 ≤ b.of.0 = listed_from (k + 1) table j b e in omega (arith, h)

in_order : (k : ℕ) (table : Table) (i j : ℕ) (a b : EnumList) → slice_get (flat_map enum_list (enumerate_from k table)) i ≡ Some a
    → slice_get (flat_map enum_list (enumerate_from k table)) j ≡ Some b → i < j → a.of.0 < b.of.0
in_order k [] i j a b ea eb h = cc
in_order k (def.Enum vs ∷ table) i zero a b ea eb h = absurd (omega (arith, h))
in_order k (def.Enum vs ∷ table) zero (suc j) a b ea eb h =
    let z : k ≡ a.of.0 = ap (λ x. x.of.0) (same_Some (record { of = id k; values = vs }) a ea) in
    let le : k + 1 ≤ b.of.0 = listed_from (k + 1) table j b eb in omega (arith, z, le)
in_order k (def.Enum vs ∷ table) (suc i) (suc j) a b ea eb h = in_order (k + 1) table i j a b ea eb (omega (arith, h))
in_order k (_ ∷ table) i j a b ea eb h = in_order (k + 1) table i j a b ea eb h

pub lists_in_order : (table : Table) (i j : ℕ) (a b : EnumList) → slice_get (values_of table) i ≡ Some a → slice_get (values_of table) j ≡ Some b → i < j → a.of.0 < b.of.0
lists_in_order table i j a b ea eb h = in_order 0 table i j a b ea eb h
