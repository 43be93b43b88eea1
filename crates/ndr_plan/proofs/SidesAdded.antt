-- What a side, an operation and all operations add to the code and the lines.
-- `table` are the types, `n` is an operation's number, `o` the operation, `s` a side, `C` and `E` are the code and the lines before.
use Rattle.std.proofs.Common.{◌≡◌, ◌∙◌, ℕ, zero, suc, ◌+◌, ◌*◌, ◌≤◌, List, [], ◌∷◌, ◌++◌, length, Some, ap, ap₂, sym, take, arith, append_assoc, append-nil, length-append}
use Rattle.std.specs.List.{flat_map, enumerate_from, slice_get}
use Rattle.std.proofs.lemmas.Option.{same_Some}
use Rattle.std.proofs.lemmas.List.{take_all}
use Rattle.std.proofs.lemmas.List.FromFn.{length-enumerate_from}
use mathlib.Core.Path.{fun_ext}
use Rattle.nd_types.specs.declared.types.Operation.{Operation}
use Rattle.nd_types.specs.declared.types.Side.{Side}
use Rattle.nd_types.specs.declared.types.Side.TheVariants as side
use Rattle.nd_types.specs.Table.{Table}
use Rattle.nd_types.specs.Roots.{Root, roots_of, NamedRoot, named_roots}
use Rattle.ndr_code.specs.declared.instr.Instr.{Instr}
use Rattle.ndr_code.specs.declared.lists.PlanLine.{PlanLine}
use Rattle.ndr_code.specs.declared.lists.PlanLine.TheVariants as line
use Rattle.ndr_code.specs.Code.{value_roots, pipe_roots, root_run, checks_run, side_code, operation_code, operations_code, table_code, code_of, side_at, root_at, checks_at, pipe_at, entry_lines}
use Rattle.ndr_code.specs.Code.{side_lines, operation_lines, entries_of, line_at, sides_of}
use Rattle.ndr_code.specs.Code as code
use Rattle.ndr_code.proofs.Runs.{numbered}
use Rattle.ndr_plan.specs.Parts.{value_run, value_line, pipe_run, pipe_line, lines_from, HasOperation}
use Rattle.ndr_plan.specs.declared.side_code.Parts.{Parts}
use Rattle.ndr_plan.proofs.OwnParams.{roots_own}
use Rattle.ndr_plan.proofs.Walked.{values_coded, pipes_coded, value_lines, pipe_lines}
use Rattle.ndr_code.proofs.SideRuns.{all_threes as threes}

module _ (table : Table) (operations : List Operation) (n : ℕ) (o : Operation) (s : Side) where
  abbrev named : List NamedRoot
  named = named_roots table s o

  abbrev vs : List Root
  vs = value_roots (roots_of table s o)

  abbrev ps : List Root
  ps = pipe_roots (roots_of table s o)

  abbrev V : List Instr
  V = flat_map (root_run table) vs

  abbrev P : List Instr
  P = flat_map (code.pipe_run table) ps

  abbrev B : List Instr
  B = checks_run table o s

  module _ (C C1 C2 C3 : List Instr) (c1 : C1 ≡ C ++ flat_map (value_run table) named) (c2 : C2 ≡ C1 ++ B)
      (c3 : C3 ≡ C2 ++ flat_map (pipe_run table) named) where
    behind_values : C1 ≡ C ++ V
    behind_values = c1 ∙ ap (λ xs. C ++ xs) (values_coded table o (roots_of table s o))

    -- the runs of the roots, the agreements and the pipes are the code of the side
    pub side_coded : C3 ≡ C ++ side_code table o s
    side_coded =
        c3 ∙ ap₂ (λ xs ys. xs ++ ys) (c2 ∙ ap (λ xs. xs ++ B) behind_values) (pipes_coded table o (roots_of table s o))
        ∙ append_assoc (C ++ V) B P ∙ append_assoc C V (B ++ P)

    module _ (here : length C ≡ side_at table operations n o s) (E E1 E2 E3 : List PlanLine)
        (e1 : E1 ≡ E ++ lines_from (value_run table) (value_line n o s) (length C) named)
        (e2 : E2 ≡ E1 ++ (line.Checks n s (length C1) ∷ []))
        (e3 : E3 ≡ E2 ++ lines_from (pipe_run table) (pipe_line n o s) (length C2) named) where
      checks_here : length C1 ≡ checks_at table operations n o s
      checks_here = ap length behind_values ∙ length-append C V ∙ ap₂ (λ k l. k + l) here (threes table vs)

      pipes_here : length C2 ≡ checks_at table operations n o s + length B
      pipes_here = ap length c2 ∙ length-append C1 B ∙ ap (λ k. k + length B) checks_here

      value_entries : lines_from (value_run table) (value_line n o s) (length C) named ≡ entry_lines n o s (root_at table operations n o s) vs
      value_entries =
          value_lines table o n s (length C) (roots_of table s o) (roots_own table s o)
          ∙ ap (λ at. entry_lines n o s at vs) (fun_ext {f = λ i. length C + 3 * i} {g = root_at table operations n o s} (λ i. ap (λ k. k + 3 * i) here))

      pipe_entries : lines_from (pipe_run table) (pipe_line n o s) (length C2) named ≡ entry_lines n o s (pipe_at table operations n o s) ps
      pipe_entries =
          pipe_lines table o n s (length C2) (roots_of table s o) (roots_own table s o)
          ∙ ap (λ at. entry_lines n o s at ps) (fun_ext {f = λ i. length C2 + 2 * i} {g = pipe_at table operations n o s} (λ i. ap (λ k. k + 2 * i) pipes_here))

      -- and their lines are the lines of the side
      pub side_listed : E3 ≡ E ++ side_lines table operations n o s
      side_listed =
          let values = entry_lines n o s (root_at table operations n o s) vs in
          let checks = line.Checks n s (checks_at table operations n o s) in
          let pipes = entry_lines n o s (pipe_at table operations n o s) ps in
          e3
          ∙ ap₂ (λ xs ys. xs ++ ys)
          (e2 ∙ ap₂ (λ xs k. xs ++ (line.Checks n s k ∷ [])) (e1 ∙ ap (λ xs. E ++ xs) value_entries) checks_here) pipe_entries
          ∙ append_assoc (E ++ values) (checks ∷ []) pipes ∙ append_assoc E values (checks ∷ pipes)

-- a response is after its request
pub response_at : (table : Table) (operations : List Operation) (n : ℕ) (o : Operation) (C C' : List Instr) → length C ≡ side_at table operations n o side.In
    → C' ≡ C ++ side_code table o side.In → length C' ≡ side_at table operations n o side.Out
unfolding side_at
response_at table operations n o C C' here e =
    let before = length (table_code table ++ operations_code table (take n operations)) in
    let z : before + 0 ≡ before = omega arith in
    ap length e ∙ length-append C (side_code table o side.In) ∙ ap (λ k. k + length (side_code table o side.In)) (here ∙ z)

pub flat_taken : {X Y : Type 0} (f : X → List Y) (xs : List X) (i : ℕ) (x : X) → slice_get xs i ≡ Some x
    → flat_map f (take i xs) ++ f x ≡ flat_map f (take (suc i) xs)
flat_taken f [] i x e = cc
flat_taken f (y ∷ xs) zero x e = ap f (sym (same_Some y x e)) ∙ sym (append-nil (f y))
flat_taken f (y ∷ xs) (suc i) x e = append_assoc (f y) (flat_map f (take i xs)) (f x) ∙ ap (λ zs. f y ++ zs) (flat_taken f xs i x e)

-- what is made of the operations before the n-th one
pub record HasBefore (table : Table) (operations : List Operation) (n : ℕ) (p : Parts) : Type 0 where
  pub code_is : p.code ≡ table_code table ++ operations_code table (take n operations)
  pub entries_are : p.entries ≡ flat_map (operation_lines table operations) (take n (enumerate_from 0 operations))
  pub sides_are : p.sides ≡ flat_map (λ e. line_at table operations e.0 e.1 side.In ∷ line_at table operations e.0 e.1 side.Out ∷ []) (take n (enumerate_from 0 operations))

pub request_at : (table : Table) (operations : List Operation) (n : ℕ) (o : Operation) (p : Parts) → HasBefore table operations n p
    → length p.code ≡ side_at table operations n o side.In
unfolding side_at
request_at table operations n o p h =
    let before = length (table_code table ++ operations_code table (take n operations)) in
    let z : before ≡ before + 0 = omega arith in
    ap length h.code_is ∙ z

module _ (table : Table) (operations : List Operation) (n : ℕ) (o : Operation) (is : slice_get operations n ≡ Some o) (p q : Parts)
    (h : HasBefore table operations n p) (g : HasOperation p q table operations n o) where
  it_is : slice_get (enumerate_from 0 operations) n ≡ Some (n, o)
  it_is = let z : 0 + n ≡ n = omega arith in numbered 0 operations n o is ∙ ap (λ j. Some (j, o)) z

  abbrev starts : ℕ × Operation → List ℕ
  starts e = line_at table operations e.0 e.1 side.In ∷ line_at table operations e.0 e.1 side.Out ∷ []

  these_starts : length p.entries ∷ length (p.entries ++ side_lines table operations n o side.In) ∷ [] ≡ starts (n, o)
  unfolding line_at
  these_starts =
      let lines = flat_map (operation_lines table operations) (take n (enumerate_from 0 operations)) in
      let z : length lines ≡ length lines + 0 = omega arith in
      ap₂ (λ k l. k ∷ l ∷ []) (ap length h.entries_are ∙ z)
      (length-append p.entries (side_lines table operations n o side.In) ∙ ap (λ k. k + length (side_lines table operations n o side.In)) (ap length h.entries_are))

  pub one_operation : HasBefore table operations (n + 1) q
  one_operation =
      let z : suc n ≡ n + 1 = omega arith in
      let all = enumerate_from 0 operations in
      record {
        code_is =
            g.code_is ∙ ap (λ xs. xs ++ operation_code table o) h.code_is
            ∙ append_assoc (table_code table) (operations_code table (take n operations)) (operation_code table o)
            ∙ ap (λ xs. table_code table ++ xs) (flat_taken (operation_code table) operations n o is ∙ ap (λ k. operations_code table (take k operations)) z);
        entries_are =
            g.entries_are ∙ ap (λ xs. xs ++ operation_lines table operations (n, o)) h.entries_are
            ∙ flat_taken (operation_lines table operations) all n (n, o) it_is ∙ ap (λ k. flat_map (operation_lines table operations) (take k all)) z;
        sides_are =
            g.sides_are ∙ ap₂ (λ xs ys. xs ++ ys) h.sides_are these_starts
            ∙ flat_taken starts all n (n, o) it_is ∙ ap (λ k. flat_map starts (take k all)) z;
      }

-- what is made of all operations
pub all_operations : (table : Table) (operations : List Operation) (n : ℕ) (p : Parts) → HasBefore table operations n p → length operations ≤ n
    → p ≡ record { code = code_of table operations; entries = entries_of table operations; sides = sides_of table operations }
all_operations table operations n p h past =
    let far : length (enumerate_from 0 operations) ≤ n = omega (arith, past, length-enumerate_from 0 operations) in
    let whole = take_all n operations past in
    let all = take_all n (enumerate_from 0 operations) far in
    let code = h.code_is ∙ ap (λ xs. table_code table ++ operations_code table xs) whole in
    let entries = h.entries_are ∙ ap (λ xs. flat_map (operation_lines table operations) xs) all in
    let sides = h.sides_are ∙ ap (λ xs. flat_map (λ e. line_at table operations e.0 e.1 side.In ∷ line_at table operations e.0 e.1 side.Out ∷ []) xs) all in
    ap (λ c. record { code = c; entries = p.entries; sides = p.sides }) code
    ∙ ap (λ e. record { code = code_of table operations; entries = e; sides = p.sides }) entries
    ∙ ap (λ s. record { code = code_of table operations; entries = entries_of table operations; sides = s }) sides
