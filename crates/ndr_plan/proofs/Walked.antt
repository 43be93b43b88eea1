-- The roots of a side, one after another: their runs and lines, their agreements, and the numbers of the parameters that they are.
-- `table` are the types, `o` is an operation, `n` its number, `s` a side, `r` a root, `p` a parameter, `i` its index.
use Rattle.std.proofs.Common.{◌≡◌, ◌∙◌, ℕ, suc, ◌+◌, ◌*◌, Bool, true, false, not, List, [], ◌∷◌, ◌++◌, length, Option, refl, ap, ap₂, sym, map, cond, arith, append_assoc, append-nil, length-append}
use Rattle.std.specs.List.{flat_map, enumerate_from}
use Rattle.std.proofs.lemmas.List.{flat_map_more}
use Rattle.nd_types.specs.declared.types.AttrVar.{AttrVar}
use Rattle.nd_types.specs.declared.types.Operation.{Operation}
use Rattle.nd_types.specs.declared.types.Side.{Side}
use Rattle.nd_types.specs.Table.{Table}
use Rattle.nd_types.specs.Roots.{Root, NamedRoot, named_root, root_name}
use Rattle.ndr_code.specs.declared.instr.Instr.{Instr}
use Rattle.ndr_code.specs.declared.lists.PlanLine.{PlanLine}
use Rattle.ndr_code.specs.declared.lists.PlanLine.TheVariants as line
use Rattle.ndr_code.specs.Code.{value_roots, pipe_roots, root_run}
use Rattle.ndr_code.specs.Code as code
use Rattle.ndr_plan.specs.Numbers.{all_numbered, numbered}
use Rattle.ndr_plan.specs.Checks.{checks_by, vars_at}
use Rattle.ndr_plan.proofs.OwnParams.{IsOwn, AreOwn, own_name_is}
use Rattle.ndr_plan.specs.Parts.{own_name, value_run, value_line, pipe_run, pipe_line, lines_from, HasRuns}
use Rattle.ndr_plan.specs.declared.side_code.Parts.{Parts}

-- the lines of one more root
pub lines_more : (run : NamedRoot → List Instr) (line : ℕ → NamedRoot → List PlanLine) (at : ℕ) (rs : List NamedRoot) (r : NamedRoot)
    → lines_from run line at rs ++ line (at + length (flat_map run rs)) r ≡ lines_from run line at (rs ++ r ∷ [])
lines_more run line at [] r = let z : at + 0 ≡ at = omega arith in ap (λ k. line k r) z ∙ sym (append-nil (line at r))
lines_more run line at (x ∷ rs) r =
    let z : at + length (run x ++ flat_map run rs) ≡ at + length (run x) + length (flat_map run rs) =
    omega (arith, length-append (run x) (flat_map run rs)) in
    append_assoc (line at x) (lines_from run line (at + length (run x)) rs) (line (at + length (run x ++ flat_map run rs)) r)
    ∙ ap (λ k. line at x ++ (lines_from run line (at + length (run x)) rs ++ line k r)) z
    ∙ ap (λ ls. line at x ++ ls) (lines_more run line (at + length (run x)) rs r)

pub one_longer : {X Y : Type 0} (f : X → Y) (xs : List X) (x : X) → length (map f xs) + 1 ≡ length (map f (xs ++ x ∷ []))
one_longer f [] x = refl
one_longer f (y ∷ xs) x = omega (arith, one_longer f xs x)

-- the agreements of one more root
pub checks_more : (check : ℕ → AttrVar → List Instr) (o : Operation) (i : ℕ) (rs : List NamedRoot) (r : NamedRoot)
    → checks_by check o i rs ++ flat_map (check (i + length rs)) (vars_at o r.param) ≡ checks_by check o i (rs ++ r ∷ [])
checks_more check o i [] r =
    let z : i + 0 ≡ i = omega arith in
    ap (λ k. flat_map (check k) (vars_at o r.param)) z ∙ sym (append-nil (flat_map (check i) (vars_at o r.param)))
checks_more check o i (x ∷ rs) r =
    let z : i + suc (length rs) ≡ i + 1 + length rs = omega arith in
    let own = flat_map (check i) (vars_at o x.param) in
    append_assoc own (checks_by check o (i + 1) rs) (flat_map (check (i + suc (length rs))) (vars_at o r.param))
    ∙ ap (λ k. own ++ (checks_by check o (i + 1) rs ++ flat_map (check k) (vars_at o r.param))) z
    ∙ ap (λ ls. own ++ ls) (checks_more check o (i + 1) rs r)

-- the numbers with one more root
pub numbers_more : (items : List (Option ℕ)) (n : ℕ) (rs : List NamedRoot) (r : NamedRoot)
    → numbered (all_numbered items n rs) r.param (n + length rs) ≡ all_numbered items n (rs ++ r ∷ [])
numbers_more items n [] r = let z : n + 0 ≡ n = omega arith in ap (numbered items r.param) z
numbers_more items n (x ∷ rs) r =
    let z : n + suc (length rs) ≡ n + 1 + length rs = omega arith in
    ap (numbered (all_numbered (numbered items x.param n) (n + 1) rs) r.param) z ∙ numbers_more (numbered items x.param n) (n + 1) rs r

module _ (table : Table) (o : Operation) where
  value_coded : (r : Root) (b : Bool) (xs : List Instr) (rs : List Root) → xs ≡ flat_map (root_run table) rs
      → elim b [ true ↦ [] | false ↦ root_run table r ] ++ xs ≡ flat_map (root_run table) (cond (not b) (r ∷ rs) rs)
  value_coded r true xs rs e = e
  value_coded r false xs rs e = ap (λ ys. root_run table r ++ ys) e

  -- the runs of the roots that are no pipes
  pub values_coded : (rs : List Root) → flat_map (value_run table) (map (named_root o) rs) ≡ flat_map (root_run table) (value_roots rs)
  values_coded [] = refl
  values_coded (r ∷ rs) = value_coded r r.is_pipe (flat_map (value_run table) (map (named_root o) rs)) (value_roots rs) (values_coded rs)

  pipe_coded : (r : Root) (b : Bool) (xs : List Instr) (rs : List Root) → xs ≡ flat_map (code.pipe_run table) rs
      → elim b [ true ↦ code.pipe_run table r | false ↦ [] ] ++ xs ≡ flat_map (code.pipe_run table) (cond b (r ∷ rs) rs)
  pipe_coded r true xs rs e = ap (λ ys. code.pipe_run table r ++ ys) e
  pipe_coded r false xs rs e = e

  -- the runs of the pipes
  pub pipes_coded : (rs : List Root) → flat_map (pipe_run table) (map (named_root o) rs) ≡ flat_map (code.pipe_run table) (pipe_roots rs)
  pipes_coded [] = refl
  pipes_coded (r ∷ rs) = pipe_coded r r.is_pipe (flat_map (pipe_run table) (map (named_root o) rs)) (pipe_roots rs) (pipes_coded rs)

  module _ (n : ℕ) (s : Side) (at : ℕ) where
    -- the line of a root whose run is the k-th, of runs of so many instructions
    abbrev entry : ℕ → ℕ × Root → PlanLine
    entry size e = line.Entry n s (root_name o e.1.param) (at + size * e.0)

    abbrev entries : ℕ → ℕ → List Root → List PlanLine
    entries size k rs = map (entry size) (enumerate_from k rs)

    value_listed : (r : Root) → IsOwn o r.param → (k : ℕ) (b : Bool) (rest : ℕ → List PlanLine) (rs : List Root) → ((j : ℕ) → rest (at + 3 * j) ≡ entries 3 j rs)
        → elim b [ true ↦ [] | false ↦ line.Entry n s (own_name o r.param) (at + 3 * k) ∷ [] ] ++ rest (at + 3 * k + length {A = Instr} (elim b [ true ↦ [] | false ↦ root_run table r ]))
        ≡ entries 3 k (cond (not b) (r ∷ rs) rs)
    value_listed r own k true rest rs h = let z : at + 3 * k + 0 ≡ at + 3 * k = omega arith in ap rest z ∙ h k
    value_listed r own k false rest rs h =
        let z : at + 3 * k + 3 ≡ at + 3 * (k + 1) = omega arith in
        ap₂ (λ m ls. line.Entry n s m (at + 3 * k) ∷ ls) (own_name_is o r.param own) (ap rest z ∙ h (k + 1))

    values_listed : (rs : List Root) → AreOwn o rs → (k : ℕ) → lines_from (value_run table) (value_line n o s) (at + 3 * k) (map (named_root o) rs) ≡ entries 3 k (value_roots rs)
    values_listed [] own k = refl
    values_listed (r ∷ rs) own k =
        value_listed r own.1 k r.is_pipe (λ a. lines_from (value_run table) (value_line n o s) a (map (named_root o) rs)) (value_roots rs) (values_listed rs own.2)

    pipe_listed : (r : Root) → IsOwn o r.param → (k : ℕ) (b : Bool) (rest : ℕ → List PlanLine) (rs : List Root) → ((j : ℕ) → rest (at + 2 * j) ≡ entries 2 j rs)
        → elim b [ true ↦ line.Entry n s (own_name o r.param) (at + 2 * k) ∷ [] | false ↦ [] ] ++ rest (at + 2 * k + length {A = Instr} (elim b [ true ↦ code.pipe_run table r | false ↦ [] ]))
        ≡ entries 2 k (cond b (r ∷ rs) rs)
    pipe_listed r own k false rest rs h = let z : at + 2 * k + 0 ≡ at + 2 * k = omega arith in ap rest z ∙ h k
    pipe_listed r own k true rest rs h =
        let z : at + 2 * k + 2 ≡ at + 2 * (k + 1) = omega arith in
        ap₂ (λ m ls. line.Entry n s m (at + 2 * k) ∷ ls) (own_name_is o r.param own) (ap rest z ∙ h (k + 1))

    pipes_listed : (rs : List Root) → AreOwn o rs → (k : ℕ) → lines_from (pipe_run table) (pipe_line n o s) (at + 2 * k) (map (named_root o) rs) ≡ entries 2 k (pipe_roots rs)
    pipes_listed [] own k = refl
    pipes_listed (r ∷ rs) own k =
        pipe_listed r own.1 k r.is_pipe (λ a. lines_from (pipe_run table) (pipe_line n o s) a (map (named_root o) rs)) (pipe_roots rs) (pipes_listed rs own.2)

    -- the lines of the roots that are no pipes, and those of the pipes
    pub value_lines : (rs : List Root) → AreOwn o rs → lines_from (value_run table) (value_line n o s) at (map (named_root o) rs) ≡ entries 3 0 (value_roots rs)
    value_lines rs own =
        let z : at ≡ at + 3 * 0 = omega arith in
        ap (λ a. lines_from (value_run table) (value_line n o s) a (map (named_root o) rs)) z ∙ values_listed rs own 0

    pub pipe_lines : (rs : List Root) → AreOwn o rs → lines_from (pipe_run table) (pipe_line n o s) at (map (named_root o) rs) ≡ entries 2 0 (pipe_roots rs)
    pipe_lines rs own =
        let z : at ≡ at + 2 * 0 = omega arith in
        ap (λ a. lines_from (pipe_run table) (pipe_line n o s) a (map (named_root o) rs)) z ∙ pipes_listed rs own 0

-- no root, and one more root
pub runs_none : (p : Parts) (run : NamedRoot → List Instr) (line : ℕ → NamedRoot → List PlanLine) → HasRuns p p run line []
runs_none p run line = record { code_is = sym (append-nil p.code); entries_are = sym (append-nil p.entries); sides_are = refl }

pub runs_more : (p q q' : Parts) (run : NamedRoot → List Instr) (line : ℕ → NamedRoot → List PlanLine) (rs : List NamedRoot) (r : NamedRoot) → HasRuns p q run line rs
    → q' ≡ record { code = q.code ++ run r; entries = q.entries ++ line (length q.code) r; sides = q.sides } → HasRuns p q' run line (rs ++ r ∷ [])
runs_more p q q' run line rs r h e =
    let far : length q.code ≡ length p.code + length (flat_map run rs) = ap length h.code_is ∙ length-append p.code (flat_map run rs) in
    let lines = lines_from run line (length p.code) rs in
    record {
      code_is = ap (λ x. x.code) e ∙ ap (λ c. c ++ run r) h.code_is ∙ flat_map_more run p.code rs r;
      entries_are =
          ap (λ x. x.entries) e ∙ ap₂ (λ xs k. xs ++ line k r) h.entries_are far
          ∙ append_assoc p.entries lines (line (length p.code + length (flat_map run rs)) r)
          ∙ ap (λ xs. p.entries ++ xs) (lines_more run line (length p.code) rs r);
      sides_are = ap (λ x. x.sides) e ∙ h.sides_are;
    }
