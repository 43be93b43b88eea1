-- The lines of a plan for the side of a fit, and the instructions at the addresses in them.
-- `p` is a plan, `f` a fit, `o` its operation, `i` the number of a root, `n` how many roots that are no pipes are left.
use Rattle.std.proofs.Common.{◌≡◌, ◌<◌, ℕ, ◌+◌, zero, suc, Bool, true, false, List, [], ◌∷◌, length, Option, Some, None, refl, ap, sym, ◌∙◌, subst, take, drop, arith}
use Rattle.std.specs.Prelude.{slice_index_or}
use Rattle.std.specs.List.{slice_get}
use Rattle.std.proofs.lemmas.Option.{slice_get_read}
use Rattle.nd_types.specs.declared.interface.Interface.{Interface}
use Rattle.nd_types.specs.declared.types.Operation.{Operation}
use Rattle.nd_types.specs.declared.types.Side.{Side}
use Rattle.nd_types.specs.Roots.{Root, root_name}
use Rattle.nd_types.specs.Table.{type_at}
use Rattle.nd_lemmas.proofs.Lists.{item_at}
use Rattle.nd_value.specs.Deferral.{before_pipes}
use Rattle.nd_value.specs.Fitting.{Fitting}
use Rattle.nd_value.specs.Setting.{Setting, root_list}
use Rattle.ndr_code.specs.declared.instr.Instr.{Instr}
use Rattle.ndr_code.specs.declared.instr.Instr.TheVariants as code
use Rattle.ndr_code.specs.declared.lists.PlanLine.{PlanLine}
use Rattle.ndr_code.specs.declared.lists.PlanLine.TheVariants as line
use Rattle.ndr_code.specs.declared.plan.Plan.{Plan}
use Rattle.ndr_code.specs.Code.{checks_at, code_of, pipe_at, pipe_roots, root_at, root_by, value_roots, entries_of, line_at}
use Rattle.ndr_code.proofs.Runs.{first_at}
use Rattle.ndr_code.proofs.SideLines.{checks_line_at, pipe_line_at, root_line_at}
use Rattle.ndr_code.proofs.SideRuns.{root_run_at}
use Rattle.ndr_code.proofs.Parted.{values_first, pipes_last}
use Rattle.ndr_encode.specs.Work.{setting}

-- ## Roots before the first pipe

abbrev IsAmongFirst : List Root → ℕ → ℕ → Type 0
IsAmongFirst rs many i = (r : Root) × (slice_get rs i ≡ Some r) × (slice_get (take many rs) i ≡ Some r)

among_first : (rs : List Root) (i : ℕ) → i < before_pipes rs → IsAmongFirst rs (before_pipes rs) i
among_first [] i l = absurd (omega (arith, l))
among_first (r ∷ rs) i l = go r.is_pipe i l (among_first rs)
  where
    go : (b : Bool) (i : ℕ) → i < elim b [ true ↦ 0 | false ↦ suc (before_pipes rs) ] → ((j : ℕ) → j < before_pipes rs → IsAmongFirst rs (before_pipes rs) j)
        → IsAmongFirst (r ∷ rs) (elim b [ true ↦ 0 | false ↦ suc (before_pipes rs) ]) i
    go true i l h = absurd (omega (arith, l))
    go false zero l h = (r, refl, refl)
    go false (suc j) l h = h j (omega (arith, l))

many_first : (rs : List Root) → length (take (before_pipes rs) rs) ≡ before_pipes rs
many_first [] = refl
many_first (r ∷ rs) = go r.is_pipe (many_first rs)
  where
    go : (b : Bool) → length (take (before_pipes rs) rs) ≡ before_pipes rs
        → length (take (elim b [ true ↦ 0 | false ↦ suc (before_pipes rs) ]) (r ∷ rs)) ≡ elim b [ true ↦ 0 | false ↦ suc (before_pipes rs) ]
    go true e = refl
    go false e = ap suc e

-- how many roots have runs of their own
many_values : (w : Setting) → length (value_roots (root_list w)) ≡ before_pipes (root_list w)
many_values w = ap length (values_first w) ∙ many_first (root_list w)

-- ## The lines of a side

-- The next root, by the address in its line.
pub record HasNextRoot (p : Plan) (f : Fitting) (o : Operation) (i n at : ℕ) : Type 0 where
  pub others : ℕ
  pub left : n ≡ suc others
  pub r : Root
  pub there : slice_get (root_list (setting f o)) i ≡ Some r
  pub instr : slice_get p.code at ≡ Some (root_by f.interface.types r.of (type_at f.interface.types r.of))

same_at : (n m a b : ℕ) (s t : Side) (x y : List ℕ) → Some (line.Entry n s x a) ≡ Some (line.Entry m t y b) → a ≡ b
same_at n m a b s t x y e = cc

no_checks : (n m a b : ℕ) (s t : Side) (x : List ℕ) → Some (line.Entry n s x a) ≡ Some (line.Checks m t b) → ⊥
no_checks n m a b s t x e = cc

none_some : (l : PlanLine) → ◌≡◌ {A = Option PlanLine} None (Some l) → ⊥
none_some l e = cc

module _ (p : Plan) (f : Fitting) (tied : p.tie ≡ f.interface) (o : Operation) (is_there : slice_get f.interface.operations f.op ≡ Some o) where
  -- the setting, its roots, and its first line
  abbrev w : Setting
  w = setting f o

  abbrev begin : ℕ
  begin = line_at f.interface.types f.interface.operations f.op o f.side

  entries_are : p.entries ≡ entries_of f.interface.types f.interface.operations
  entries_are = p.planned.entries_are ∙ ap (λ (i : Interface). entries_of i.types i.operations) tied

  code_is : p.code ≡ code_of f.interface.types f.interface.operations
  code_is = p.planned.code_is ∙ ap (λ (i : Interface). code_of i.types i.operations) tied

  checks_line : slice_get p.entries (begin + before_pipes (root_list w)) ≡ Some (line.Checks f.op f.side (checks_at f.interface.types f.interface.operations f.op o f.side))
  checks_line =
      ap (λ (ls : List PlanLine). slice_get ls (begin + before_pipes (root_list w))) entries_are
      ∙ ap (λ (n : ℕ). slice_get (entries_of f.interface.types f.interface.operations) (begin + n)) (sym (many_values w))
      ∙ checks_line_at f.interface.types f.interface.operations f.op o is_there f.side

  module _ (i : ℕ) (r : Root) (value : slice_get (value_roots (root_list w)) i ≡ Some r) where
    root_line : slice_get p.entries (begin + i) ≡ Some (line.Entry f.op f.side (root_name o r.param) (root_at f.interface.types f.interface.operations f.op o f.side i))
    root_line =
        ap (λ (ls : List PlanLine). slice_get ls (begin + i)) entries_are
        ∙ root_line_at f.interface.types f.interface.operations f.op o is_there f.side i r value

    root_instr : slice_get p.code (root_at f.interface.types f.interface.operations f.op o f.side i) ≡ Some (root_by f.interface.types r.of (type_at f.interface.types r.of))
    root_instr =
        ap (λ (c : List Instr). slice_get c (root_at f.interface.types f.interface.operations f.op o f.side i)) code_is
        ∙ first_at (code_of f.interface.types f.interface.operations) (root_at f.interface.types f.interface.operations f.op o f.side i)
        (root_by f.interface.types r.of (type_at f.interface.types r.of)) (code.Defer ∷ code.Ret ∷ [])
        (root_run_at f.interface.types f.interface.operations f.op o is_there f.side i r value)

  value_of : (i : ℕ) → i < before_pipes (root_list w) → (r : Root) × (slice_get (root_list w) i ≡ Some r) × (slice_get (value_roots (root_list w)) i ≡ Some r)
  value_of i l =
      let (r, there, first) = among_first (root_list w) i l in
      (r, there, subst (λ (rs : List Root). slice_get rs i ≡ Some r) (sym (values_first w)) first)

  -- ## The line of a number, when so many roots are left

  module _ (i number : ℕ) (here : number ≡ begin + i) where
    -- it is there
    pub line_there : (n : ℕ) → i + n ≡ before_pipes (root_list w) → slice_get p.entries number ≡ None → ⊥
    line_there zero e none =
        let at : number ≡ begin + before_pipes (root_list w) = omega (arith, here, e) in
        none_some _ (sym none ∙ ap (slice_get p.entries) at ∙ checks_line)
    line_there (suc n) e none =
        let (r, there, value) = value_of i (omega (arith, e)) in
        none_some _ (sym none ∙ ap (slice_get p.entries) here ∙ root_line i r value)

    -- a root's line is that of the next root
    pub next_root : (n : ℕ) → i + n ≡ before_pipes (root_list w) → (m : ℕ) (s : Side) (name : List ℕ) (at : ℕ) → slice_get p.entries number ≡ Some (line.Entry m s name at)
        → HasNextRoot p f o i n at
    next_root zero e m s name at is =
        let end : number ≡ begin + before_pipes (root_list w) = omega (arith, here, e) in
        absurd (no_checks m f.op at _ s f.side name (sym is ∙ ap (slice_get p.entries) end ∙ checks_line))
    next_root (suc n) e m s name at is =
        let (r, there, value) = value_of i (omega (arith, e)) in
        let same : root_at f.interface.types f.interface.operations f.op o f.side i ≡ at =
        same_at f.op m _ at f.side s _ name (sym (root_line i r value) ∙ ap (slice_get p.entries) (sym here) ∙ is) in
        record {
          others = n;
          left = refl;
          r = r;
          there = there;
          instr = subst (λ (a : ℕ). slice_get p.code a ≡ Some (root_by f.interface.types r.of (type_at f.interface.types r.of))) same (root_instr i r value);
        }

    -- at the line of the agreements none is left
    pub none_are_left : (n : ℕ) → i + n ≡ before_pipes (root_list w) → (m : ℕ) (s : Side) (at : ℕ) → slice_get p.entries number ≡ Some (line.Checks m s at) → n ≡ 0
    none_are_left zero e m s at is = refl
    none_are_left (suc n) e m s at is =
        let (r, there, value) = value_of i (omega (arith, e)) in
        absurd (no_checks f.op m _ at f.side s _ (sym (root_line i r value) ∙ ap (slice_get p.entries) (sym here) ∙ is))

  -- ## The line of a pipe

  module _ (i number : ℕ) (here : number ≡ begin + before_pipes (root_list w) + 1 + i) (few : i < length (drop (before_pipes (root_list w)) (root_list w))) where
    pub record HasPipeLine : Type 0 where
      pub name : List ℕ
      pub is : slice_get p.entries number ≡ Some (line.Entry f.op f.side name (pipe_at f.interface.types f.interface.operations f.op o f.side i))

    pub pipe_line : HasPipeLine
    pipe_line =
        let (r, there) = item_at (drop (before_pipes (root_list w)) (root_list w)) i few in
        let pipe : slice_get (pipe_roots (root_list w)) i ≡ Some r = ap (λ (rs : List Root). slice_get rs i) (pipes_last w) ∙ there in
        record {
          name = root_name o r.param;
          is =
              ap (λ (ls : List PlanLine). slice_get ls number) entries_are ∙ ap (slice_get (entries_of f.interface.types f.interface.operations)) here
              ∙ ap (λ (n : ℕ). slice_get (entries_of f.interface.types f.interface.operations) (begin + n + 1 + i)) (sym (many_values w))
              ∙ pipe_line_at f.interface.types f.interface.operations f.op o is_there f.side i r pipe;
        }

    pub pipe_line_is : (m : ℕ) (s : Side) (name : List ℕ) (at : ℕ) → slice_get p.entries number ≡ Some (line.Entry m s name at)
        → at ≡ pipe_at f.interface.types f.interface.operations f.op o f.side i
    pipe_line_is m s name at is = same_at m f.op at _ s f.side name _ (sym is ∙ pipe_line.is)

    pub no_checks_line : (m : ℕ) (s : Side) (at : ℕ) → slice_get p.entries number ≡ Some (line.Checks m s at) → ⊥
    no_checks_line m s at is = no_checks f.op m _ at f.side s _ (sym pipe_line.is ∙ is)

-- a line that was read
pub line_read : (p : Plan) (ls : List PlanLine) (number : ℕ) (l k : PlanLine) → ls ≡ p.entries → number < length ls → l ≡ slice_index_or ls number l → l ≡ k
    → slice_get p.entries number ≡ Some k
line_read p ls number l k same below is e = ap (λ (xs : List PlanLine). slice_get xs number) (sym same) ∙ slice_get_read ls (length ls) number l refl below is ∙ ap Some e
