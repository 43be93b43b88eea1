-- The lines of a side's roots in a plan, and the instructions at the addresses in them.
-- `plan` is a plan, `op` the number of an operation, `w` the setting of a side of it, `r` a root, `i` its number, `n` how many roots that are no pipes are left.
use Rattle.std.proofs.Common.{slice_index_or, ◌≡◌, ◌<◌, ℕ, ◌+◌, ◌*◌, zero, suc, Bool, true, false, List, [], ◌∷◌, length, Option, Some, None, refl, ap, sym, ◌∙◌, subst, take, arith}
use Rattle.std.specs.List.{slice_get}
use Rattle.std.proofs.lemmas.Option.{slice_get_read, slice_get_within}
use Rattle.nd_types.specs.declared.types.Operation.{Operation}
use Rattle.nd_types.specs.declared.types.Side.{Side}
use Rattle.nd_types.specs.Roots.{Root, root_name}
use Rattle.nd_types.specs.Table.{Table, type_at}
use Rattle.nd_lemmas.proofs.Lists.{item_at}
use Rattle.nd_value.specs.Deferral.{before_pipes}
use Rattle.nd_value.specs.Setting.{Setting, root_list}
use Rattle.ndr_code.specs.declared.instr.Instr.{Instr}
use Rattle.ndr_code.specs.declared.instr.Instr.TheVariants as code
use Rattle.ndr_code.specs.declared.lists.PlanLine.{PlanLine}
use Rattle.ndr_code.specs.declared.lists.PlanLine.TheVariants as line
use Rattle.ndr_code.specs.declared.plan.Plan.{Plan}
use Rattle.ndr_code.specs.Code.{checks_at, code_of, root_at, root_by, value_roots, entries_of, line_at, side_number, sides_of}
use Rattle.ndr_code.proofs.Runs.{first_at}
use Rattle.ndr_code.proofs.SideLines.{checks_line_at, root_line_at, start_at}
use Rattle.ndr_code.proofs.SideRuns.{root_run_at}
use Rattle.ndr_code.proofs.Parted.{values_first}
use Rattle.ndr_decode.specs.Streaming.{IsSettingOf}

-- ## Roots before the first pipe

abbrev IsAmongFirst : List Root → ℕ → ℕ → Type 0
IsAmongFirst rs many i = (r : Root) × (slice_get rs i ≡ Some r) × (slice_get (take many rs) i ≡ Some r)

among_first : (rs : List Root) (i : ℕ) → i < before_pipes rs → IsAmongFirst rs (before_pipes rs) i
among_first [] i l = absurd (omega (arith, l))
among_first (r ∷ rs) i l = go r.is_pipe i l (among_first rs)
  where
    go : (b : Bool) (i : ℕ) → i < elim b [ true ↦ 0 | false ↦ suc (before_pipes rs) ] → ((j : ℕ) → j < before_pipes rs → IsAmongFirst rs (before_pipes rs) j)
        → IsAmongFirst (r ∷ rs) (elim b [ true ↦ 0 | false ↦ suc (before_pipes rs) ]) i
    go true i l h = absurd (omega (arith, l))
    go false zero l h = (r, refl, refl)
    go false (suc j) l h = h j (omega (arith, l))

many_first : (rs : List Root) → length (take (before_pipes rs) rs) ≡ before_pipes rs
many_first [] = refl
many_first (r ∷ rs) = go r.is_pipe (many_first rs)
  where
    go : (b : Bool) → length (take (before_pipes rs) rs) ≡ before_pipes rs
        → length (take (elim b [ true ↦ 0 | false ↦ suc (before_pipes rs) ]) (r ∷ rs)) ≡ elim b [ true ↦ 0 | false ↦ suc (before_pipes rs) ]
    go true e = refl
    go false e = ap suc e

-- how many roots have runs of their own
pub many_values : (w : Setting) → length (value_roots (root_list w)) ≡ before_pipes (root_list w)
many_values w = ap length (values_first w) ∙ many_first (root_list w)

-- ## The lines of a side

-- the first line of the side
abbrev pub begin_of : Plan → ℕ → Setting → ℕ
begin_of plan op w = line_at w.table plan.tie.operations op w.op w.side

-- The next root, by the address in its line.
pub record HasNextRoot (plan : Plan) (w : Setting) (i n at : ℕ) : Type 0 where
  pub others : ℕ
  pub left : n ≡ suc others
  pub r : Root
  pub there : slice_get (root_list w) i ≡ Some r
  pub instr : slice_get plan.code at ≡ Some (root_by w.table r.of (type_at w.table r.of))

same_at : (n m a b : ℕ) (s t : Side) (x y : List ℕ) → Some (line.Entry n s x a) ≡ Some (line.Entry m t y b) → a ≡ b
same_at n m a b s t x y e = cc

same_checks : (n m a b : ℕ) (s t : Side) → Some (line.Checks n s a) ≡ Some (line.Checks m t b) → a ≡ b
same_checks n m a b s t e = cc

no_checks : (n m a b : ℕ) (s t : Side) (x : List ℕ) → Some (line.Entry n s x a) ≡ Some (line.Checks m t b) → ⊥
no_checks n m a b s t x e = cc

none_some : (l : PlanLine) → ◌≡◌ {A = Option PlanLine} None (Some l) → ⊥
none_some l e = cc

module _ (plan : Plan) (op : ℕ) (side : Side) (w : Setting) (set : IsSettingOf plan op side w) where
  entries_are : plan.entries ≡ entries_of w.table plan.tie.operations
  entries_are = plan.planned.entries_are ∙ ap (λ (t : Table). entries_of t plan.tie.operations) (sym set.table)

  code_is : plan.code ≡ code_of w.table plan.tie.operations
  code_is = plan.planned.code_is ∙ ap (λ (t : Table). code_of t plan.tie.operations) (sym set.table)

  checks_line : slice_get plan.entries (begin_of plan op w + before_pipes (root_list w)) ≡ Some (line.Checks op w.side (checks_at w.table plan.tie.operations op w.op w.side))
  checks_line =
      ap (λ (ls : List PlanLine). slice_get ls (begin_of plan op w + before_pipes (root_list w))) entries_are
      ∙ ap (λ (n : ℕ). slice_get (entries_of w.table plan.tie.operations) (begin_of plan op w + n)) (sym (many_values w))
      ∙ checks_line_at w.table plan.tie.operations op w.op set.there w.side

  module _ (i : ℕ) (r : Root) (value : slice_get (value_roots (root_list w)) i ≡ Some r) where
    root_line : slice_get plan.entries (begin_of plan op w + i) ≡ Some (line.Entry op w.side (root_name w.op r.param) (root_at w.table plan.tie.operations op w.op w.side i))
    root_line =
        ap (λ (ls : List PlanLine). slice_get ls (begin_of plan op w + i)) entries_are
        ∙ root_line_at w.table plan.tie.operations op w.op set.there w.side i r value

    root_instr : slice_get plan.code (root_at w.table plan.tie.operations op w.op w.side i) ≡ Some (root_by w.table r.of (type_at w.table r.of))
    root_instr =
        ap (λ (c : List Instr). slice_get c (root_at w.table plan.tie.operations op w.op w.side i)) code_is
        ∙ first_at (code_of w.table plan.tie.operations) (root_at w.table plan.tie.operations op w.op w.side i) (root_by w.table r.of (type_at w.table r.of)) (code.Defer ∷ code.Ret ∷ [])
        (root_run_at w.table plan.tie.operations op w.op set.there w.side i r value)

  value_of : (i : ℕ) → i < before_pipes (root_list w) → (r : Root) × (slice_get (root_list w) i ≡ Some r) × (slice_get (value_roots (root_list w)) i ≡ Some r)
  value_of i l =
      let (r, there, first) = among_first (root_list w) i l in
      (r, there, subst (λ (rs : List Root). slice_get rs i ≡ Some r) (sym (values_first w)) first)

  -- ## The line of a number, when so many roots are left

  module _ (i : ℕ) (number : ℕ) (here : number ≡ begin_of plan op w + i) where
    -- it is there
    pub line_there : (n : ℕ) → i + n ≡ before_pipes (root_list w) → slice_get plan.entries number ≡ None → ⊥
    line_there zero e none =
        let at : number ≡ begin_of plan op w + before_pipes (root_list w) = omega (arith, here, e) in
        none_some _ (sym none ∙ ap (slice_get plan.entries) at ∙ checks_line)
    line_there (suc n) e none =
        let (r, there, value) = value_of i (omega (arith, e)) in
        none_some _ (sym none ∙ ap (slice_get plan.entries) here ∙ root_line i r value)

    -- a root's line is that of the next root
    pub next_root : (n : ℕ) → i + n ≡ before_pipes (root_list w) → (m : ℕ) (s : Side) (name : List ℕ) (at : ℕ) → slice_get plan.entries number ≡ Some (line.Entry m s name at)
        → HasNextRoot plan w i n at
    next_root zero e m s name at is =
        let end : number ≡ begin_of plan op w + before_pipes (root_list w) = omega (arith, here, e) in
        absurd (no_checks m op at _ s w.side name (sym is ∙ ap (slice_get plan.entries) end ∙ checks_line))
    next_root (suc n) e m s name at is =
        let (r, there, value) = value_of i (omega (arith, e)) in
        let same : root_at w.table plan.tie.operations op w.op w.side i ≡ at = same_at op m _ at w.side s _ name (sym (root_line i r value) ∙ ap (slice_get plan.entries) (sym here) ∙ is) in
        record {
          others = n;
          left = refl;
          r = r;
          there = there;
          instr = subst (λ (a : ℕ). slice_get plan.code a ≡ Some (root_by w.table r.of (type_at w.table r.of))) same (root_instr i r value);
        }

    -- at the line of the agreements none is left
    pub none_left : (n : ℕ) → i + n ≡ before_pipes (root_list w) → (m : ℕ) (s : Side) (at : ℕ) → slice_get plan.entries number ≡ Some (line.Checks m s at)
        → (n ≡ 0) × (at ≡ checks_at w.table plan.tie.operations op w.op w.side)
    none_left zero e m s at is =
        let end : number ≡ begin_of plan op w + before_pipes (root_list w) = omega (arith, here, e) in
        (refl, same_checks m op at _ s w.side (sym is ∙ ap (slice_get plan.entries) end ∙ checks_line))
    none_left (suc n) e m s at is =
        let (r, there, value) = value_of i (omega (arith, e)) in
        absurd (no_checks op m _ at w.side s _ (sym (root_line i r value) ∙ ap (slice_get plan.entries) (sym here) ∙ is))

-- ## What is looked up

-- the first line of a side
pub side_start : (plan : Plan) (op : ℕ) (s : Side) (k : ℕ) → k ≡ side_number s → (o : Operation) → slice_get plan.tie.operations op ≡ Some o
    → slice_get plan.sides (op * 2 + k) ≡ Some (line_at plan.tie.types plan.tie.operations op o s)
side_start plan op s k e o there =
    let at : op * 2 + k ≡ 2 * op + side_number s = omega (arith, e) in
    ap (λ (ss : List ℕ). slice_get ss (op * 2 + k)) plan.planned.sides_are
    ∙ ap (slice_get (sides_of plan.tie.types plan.tie.operations)) at
    ∙ start_at plan.tie.types plan.tie.operations op o there s

pub side_within : (plan : Plan) (op : ℕ) (s : Side) (k : ℕ) → k ≡ side_number s → op < length plan.tie.operations → op * 2 + k < length plan.sides
side_within plan op s k e known =
    let (o, there) = item_at plan.tie.operations op known in
    slice_get_within plan.sides (op * 2 + k) (line_at plan.tie.types plan.tie.operations op o s) (side_start plan op s k e o there)

-- a line that was read
pub line_read : (plan : Plan) (ls : List PlanLine) (number : ℕ) (l k : PlanLine) → ls ≡ plan.entries → number < length ls → l ≡ slice_index_or ls number l → l ≡ k
    → slice_get plan.entries number ≡ Some k
line_read plan ls number l k same below is e = ap (λ (xs : List PlanLine). slice_get xs number) (sym same) ∙ slice_get_read ls (length ls) number l refl below is ∙ ap Some e
