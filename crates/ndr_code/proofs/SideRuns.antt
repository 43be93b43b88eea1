-- Where the runs of an operation's side are.
use Rattle.std.proofs.Common.{◌≡◌, ℕ, ◌+◌, ◌*◌, zero, suc, List, [], ◌∷◌, ◌++◌, length, take, flat_map, Some, refl, sym, ◌∙◌, subst, arith, length-append}
use Rattle.std.specs.List.{slice_get}
use Rattle.nd_types.specs.declared.types.Operation.{Operation}
use Rattle.nd_types.specs.declared.types.Side.{Side}
use Rattle.nd_types.specs.declared.types.Side.TheVariants as side
use Rattle.nd_types.specs.Table.{Table}
use Rattle.nd_types.specs.Roots.{Root, roots_of}
use Rattle.ndr_code.specs.declared.instr.Instr.{Instr}
use Rattle.ndr_code.specs.Code.{table_code, operation_code, operations_code, code_of, side_code, side_at, root_at, checks_at, pipe_at, root_run, checks_run, pipe_run, value_roots, pipe_roots}
use Rattle.ndr_code.specs.Runs.{IsRunAt}
use Rattle.ndr_code.proofs.Runs.{behind_at, part_at, longer_at, last_at, within_at, flat_at}

-- roots that are no pipes have three instructions each
threes : (table : Table) (rs : List Root) (i : ℕ) (r : Root) → slice_get rs i ≡ Some r → length (flat_map (root_run table) (take i rs)) ≡ 3 * i
threes table [] i r e = cc
threes table (x ∷ rs) zero r e = refl
threes table (x ∷ rs) (suc i) r e =
    let h : length (flat_map (root_run table) (take i rs)) ≡ 3 * i = threes table rs i r e in
    length-append (root_run table x) (flat_map (root_run table) (take i rs)) ∙ omega (arith, h)

pub all_threes : (table : Table) (rs : List Root) → length (flat_map (root_run table) rs) ≡ 3 * length rs
all_threes table [] = refl
all_threes table (x ∷ rs) =
    let h : length (flat_map (root_run table) rs) ≡ 3 * length rs = all_threes table rs in
    length-append (root_run table x) (flat_map (root_run table) rs) ∙ omega (arith, h)

-- pipes have two
twos : (table : Table) (rs : List Root) (i : ℕ) (r : Root) → slice_get rs i ≡ Some r → length (flat_map (pipe_run table) (take i rs)) ≡ 2 * i
twos table [] i r e = cc
twos table (x ∷ rs) zero r e = refl
twos table (x ∷ rs) (suc i) r e =
    let h : length (flat_map (pipe_run table) (take i rs)) ≡ 2 * i = twos table rs i r e in
    length-append (pipe_run table x) (flat_map (pipe_run table) (take i rs)) ∙ omega (arith, h)

module _ (table : Table) (operations : List Operation) (n : ℕ) (o : Operation) (is : slice_get operations n ≡ Some o) where
  both_at : IsRunAt (code_of table operations) (length (table_code table ++ operations_code table (take n operations))) (operation_code table o)
  both_at =
      subst (λ k. IsRunAt (code_of table operations) k (operation_code table o))
      (sym (length-append (table_code table) (operations_code table (take n operations))))
      (last_at (table_code table) (operations_code table operations) (length (operations_code table (take n operations))) (operation_code table o)
      (flat_at (operation_code table) operations n o is))

  -- a side of an operation is at its address
  pub side_code_at : (s : Side) → IsRunAt (code_of table operations) (side_at table operations n o s) (side_code table o s)
  unfolding side_at
  side_code_at side.In =
      let z : length (table_code table ++ operations_code table (take n operations)) ≡ length (table_code table ++ operations_code table (take n operations)) + 0 = omega arith in
      subst (λ k. IsRunAt (code_of table operations) k (side_code table o side.In)) z
      (part_at (code_of table operations) (length (table_code table ++ operations_code table (take n operations))) (side_code table o side.In) (side_code table o side.Out) both_at)
  side_code_at side.Out =
      behind_at (code_of table operations) (length (table_code table ++ operations_code table (take n operations))) (side_code table o side.In) (side_code table o side.Out) both_at

  module _ (s : Side) where
    -- the run of the i-th root that is no pipe
    pub root_run_at : (i : ℕ) (r : Root) → slice_get (value_roots (roots_of table s o)) i ≡ Some r
        → IsRunAt (code_of table operations) (root_at table operations n o s i) (root_run table r)
    root_run_at i r e =
        let rs : List Root = value_roots (roots_of table s o) in
        let rest : List Instr = checks_run table o s ++ flat_map (pipe_run table) (pipe_roots (roots_of table s o)) in
        subst (λ k. IsRunAt (code_of table operations) (side_at table operations n o s + k) (root_run table r)) (threes table rs i r e)
        (within_at (code_of table operations) (side_at table operations n o s) (length (flat_map (root_run table) (take i rs))) (side_code table o s) (root_run table r)
        (side_code_at s)
        (longer_at (flat_map (root_run table) rs) rest (length (flat_map (root_run table) (take i rs))) (root_run table r) (flat_at (root_run table) rs i r e)))

    -- the agreements and the pipes after the roots
    behind_roots : IsRunAt (code_of table operations) (checks_at table operations n o s) (checks_run table o s ++ flat_map (pipe_run table) (pipe_roots (roots_of table s o)))
    behind_roots =
        let rs : List Root = value_roots (roots_of table s o) in
        let rest : List Instr = checks_run table o s ++ flat_map (pipe_run table) (pipe_roots (roots_of table s o)) in
        subst (λ k. IsRunAt (code_of table operations) (side_at table operations n o s + k) rest) (all_threes table rs)
        (behind_at (code_of table operations) (side_at table operations n o s) (flat_map (root_run table) rs) rest (side_code_at s))

    -- the run of the agreements
    pub checks_run_at : IsRunAt (code_of table operations) (checks_at table operations n o s) (checks_run table o s)
    checks_run_at =
        part_at (code_of table operations) (checks_at table operations n o s) (checks_run table o s) (flat_map (pipe_run table) (pipe_roots (roots_of table s o))) behind_roots

    -- the run of the i-th pipe
    pub pipe_run_at : (i : ℕ) (r : Root) → slice_get (pipe_roots (roots_of table s o)) i ≡ Some r
        → IsRunAt (code_of table operations) (pipe_at table operations n o s i) (pipe_run table r)
    pipe_run_at i r e =
        let rs : List Root = pipe_roots (roots_of table s o) in
        let begin : ℕ = checks_at table operations n o s + length (checks_run table o s) in
        subst (λ k. IsRunAt (code_of table operations) (begin + k) (pipe_run table r)) (twos table rs i r e)
        (within_at (code_of table operations) begin (length (flat_map (pipe_run table) (take i rs))) (flat_map (pipe_run table) rs) (pipe_run table r)
        (behind_at (code_of table operations) (checks_at table operations n o s) (checks_run table o s) (flat_map (pipe_run table) rs) behind_roots)
        (flat_at (pipe_run table) rs i r e))
