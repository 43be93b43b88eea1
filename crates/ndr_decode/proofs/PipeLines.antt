-- The lines of the pipes of a side in a plan, and the code at them.
-- `n` is the number of the operation `o`, `s` the side, `j` the number of a pipe among the side's pipes.
use Rattle.std.proofs.Common.{◌≡◌, ◌≤◌, ◌<◌, ℕ, ◌+◌, zero, suc, List, [], ◌∷◌, ◌++◌, length, Some, refl, ap, ap₂, sym, ◌∙◌, arith, append_assoc, length-append, map, flat_map, take, drop, drop-drop}
use denote.Enum.Bare.{sameb}
use Rattle.std.specs.Prelude.{false, not, slice_get, slice_index_or}
use Rattle.std.specs.List.{AllByRecursion, enumerate_from}
use Rattle.std.proofs.Math.Seq.{drop-append-add}
use Rattle.std.proofs.lemmas.List.{length-map}
use Rattle.std.proofs.lemmas.List.FromFn.{length-enumerate_from}
use Rattle.std.proofs.lemmas.Option.{same_Some, slice_get_read}
use Rattle.nd_types.specs.declared.types.Operation.{Operation}
use Rattle.nd_types.specs.declared.types.Side.{Side}
use Rattle.nd_types.specs.contracts.types.Side as row
use Rattle.nd_types.specs.declared.types.Side.TheVariants as way
use Rattle.nd_types.specs.declared.types.TypeDef.TheVariants as def
use Rattle.nd_types.specs.declared.types.TypeId.{TypeId}
use Rattle.nd_types.specs.Roots.{Root, roots_of, root_name}
use Rattle.nd_types.specs.Table.{Table, type_at}
use Rattle.nd_value.specs.Deferral.{before_pipes}
use Rattle.nd_value.specs.Setting.{Setting, root_list}
use Rattle.nd_value.proofs.Apart.{all_append, all_weaker}
use Rattle.nd_lemmas.proofs.Lists.{all_at}
use Rattle.nd_grammar.proofs.next.NextStream.{drop_at}
use Rattle.ndr_code.specs.Code.{code_of, pipe_at, pipe_roots, place_at, value_roots, entries_of, entry_lines, line_at, operation_lines, side_lines}
use Rattle.ndr_code.specs.declared.instr.Instr.{Instr}
use Rattle.ndr_code.specs.declared.instr.Instr.TheVariants as op
use Rattle.ndr_code.specs.declared.lists.PlanLine.{PlanLine}
use Rattle.ndr_code.specs.declared.lists.PlanLine.TheVariants as line
use Rattle.ndr_code.specs.declared.plan.Plan.{Plan}
use Rattle.ndr_code.proofs.Runs.{first_at}
use Rattle.ndr_code.proofs.SideLines.{pipe_line_at}
use Rattle.ndr_code.proofs.SideRuns.{pipe_run_at}
use Rattle.ndr_code.proofs.TypeRuns.{place_run_at}
use Rattle.ndr_code.proofs.Parted.{pipes_last}
use Rattle.ndr_decode.specs.Piping.{CallsPipe}
use Rattle.ndr_decode.specs.Streaming.{IsSettingOf}

-- ## What a line is of

abbrev line_op : PlanLine → ℕ
line_op (line.Entry n s name at) = n
line_op (line.Checks n s at) = n

abbrev line_side : PlanLine → Side
line_side (line.Entry n s name at) = s
line_side (line.Checks n s at) = s

abbrev IsOf : ℕ → Side → PlanLine → Type 0
IsOf n s l = (line_op l ≡ n) × (line_side l ≡ s)

entries_own : (n : ℕ) (o : Operation) (s : Side) (at : ℕ → ℕ) (k : ℕ) (rs : List Root) → AllByRecursion (IsOf n s) (map (λ e. line.Entry n s (root_name o e.1.param) (at e.0)) (enumerate_from k rs))
entries_own n o s at k [] = tt
entries_own n o s at k (r ∷ rs) = ((refl, refl), entries_own n o s at (k + 1) rs)

module _ (table : Table) (operations : List Operation) where
  abbrev lines_of : ℕ × Operation → List PlanLine
  lines_of e = operation_lines table operations e

  side_own : (n : ℕ) (o : Operation) (s : Side) → AllByRecursion (IsOf n s) (side_lines table operations n o s)
  side_own n o s =
      all_append (IsOf n s) (entry_lines n o s (λ i. _) (value_roots (roots_of table s o))) _ (entries_own n o s _ 0 (value_roots (roots_of table s o)))
      ((refl, refl), entries_own n o s (pipe_at table operations n o s) 0 (pipe_roots (roots_of table s o)))

  operation_own : (n : ℕ) (o : Operation) → AllByRecursion (λ l. line_op l ≡ n) (operation_lines table operations (n, o))
  operation_own n o =
      all_append (λ l. line_op l ≡ n) (side_lines table operations n o way.In) (side_lines table operations n o way.Out)
      (all_weaker (IsOf n way.In) (λ l. line_op l ≡ n) (λ l h. h.0) (side_lines table operations n o way.In) (side_own n o way.In))
      (all_weaker (IsOf n way.Out) (λ l. line_op l ≡ n) (λ l h. h.0) (side_lines table operations n o way.Out) (side_own n o way.Out))

  -- the lines of operations from number k on
  later_own : (k : ℕ) (os : List Operation) → AllByRecursion (λ l. k ≤ line_op l) (flat_map lines_of (enumerate_from k os))
  later_own k [] = tt
  later_own k (o ∷ os) =
      all_append (λ l. k ≤ line_op l) (lines_of (k, o)) (flat_map lines_of (enumerate_from (k + 1) os))
      (all_weaker (λ l. line_op l ≡ k) (λ l. k ≤ line_op l) (λ l h. omega (arith, h)) (lines_of (k, o)) (operation_own k o))
      (all_weaker (λ l. k + 1 ≤ line_op l) (λ l. k ≤ line_op l) (λ l h. omega (arith, h)) (flat_map lines_of (enumerate_from (k + 1) os)) (later_own (k + 1) os))

  -- the lines from those of an operation on
  abbrev FromOperation : ℕ → List Operation → ℕ → Operation → Type 0
  FromOperation k os n o =
      (after : List Operation) × (drop (length (flat_map lines_of (take n (enumerate_from k os)))) (flat_map lines_of (enumerate_from k os))
      ≡ lines_of (k + n, o) ++ flat_map lines_of (enumerate_from (k + n + 1) after))

  from_operation : (k : ℕ) (os : List Operation) (n : ℕ) (o : Operation) → slice_get os n ≡ Some o → FromOperation k os n o
  from_operation k [] n o e = cc
  from_operation k (x ∷ os) zero o e =
      let z : k ≡ k + 0 = omega arith in (
        os,
        ap₂ (λ j y. lines_of (j, y) ++ flat_map lines_of (enumerate_from (j + 1) os)) z (same_Some x o e)
            ∙ (let q : (k + 0) + 1 ≡ k + 0 + 1 = refl in ap (λ j. lines_of (k + 0, o) ++ flat_map lines_of (enumerate_from j os)) q),
      )
  from_operation k (x ∷ os) (suc n) o e =
      let later : FromOperation (k + 1) os n o = from_operation (k + 1) os n o e in
      let first : List PlanLine = lines_of (k, x) in
      let others : List PlanLine = flat_map lines_of (enumerate_from (k + 1) os) in
      let many : ℕ = length (flat_map lines_of (take n (enumerate_from (k + 1) os))) in
      let z : k + 1 + n ≡ k + suc n = omega arith in (
        later.0,
        ap (λ m. drop m (first ++ others)) (length-append first (flat_map lines_of (take n (enumerate_from (k + 1) os)))) ∙ drop-append-add first others many ∙ later.1
            ∙ ap (λ j. lines_of (j, o) ++ flat_map lines_of (enumerate_from (j + 1) later.0)) z,
      )

  -- ## What comes after a side's lines

  abbrev IsOther : ℕ → Side → PlanLine → Type 0
  IsOther n s l = IsOf n s l → ⊥

  apart : way.In ≡ way.Out → ⊥
  apart e = cc

  abbrev AfterSide : ℕ → Operation → Side → Type 0
  AfterSide n o s =
      (rest : List PlanLine) × ((drop (line_at table operations n o s) (entries_of table operations) ≡ side_lines table operations n o s ++ rest) × AllByRecursion (IsOther n s) rest)

  later_other : (n : ℕ) (s : Side) (after : List Operation) → AllByRecursion (IsOther n s) (flat_map lines_of (enumerate_from (n + 1) after))
  later_other n s after =
      all_weaker (λ l. n + 1 ≤ line_op l) (IsOther n s) (λ l h x. let e = x.0 in omega (arith, h, e)) (flat_map lines_of (enumerate_from (n + 1) after)) (later_own (n + 1) after)

  after_side : (n : ℕ) (o : Operation) → slice_get operations n ≡ Some o → (s : Side) → AfterSide n o s
  unfolding line_at
  after_side n o is way.In =
      let (after, e) = from_operation 0 operations n o is in
      let z : 0 + n ≡ n = omega arith in
      let before : ℕ = length (flat_map lines_of (take n (enumerate_from 0 operations))) in
      let b : before + 0 ≡ before = omega arith in
      let own : List PlanLine = side_lines table operations n o way.In in
      let others : List PlanLine = side_lines table operations n o way.Out in
      let more : List PlanLine = flat_map lines_of (enumerate_from (n + 1) after) in
      let f : drop before (entries_of table operations) ≡ (own ++ others) ++ more = e ∙ ap (λ j. lines_of (j, o) ++ flat_map lines_of (enumerate_from (j + 1) after)) z in (
        others ++ more,
        (
          ap (λ m. drop m (entries_of table operations)) b ∙ f ∙ append_assoc own others more,
          all_append (IsOther n way.In) others more
              (all_weaker (IsOf n way.Out) (IsOther n way.In) (λ l h x. apart (sym x.1 ∙ h.1)) others (side_own n o way.Out)) (later_other n way.In after),
        ),
      )
  after_side n o is way.Out =
      let (after, e) = from_operation 0 operations n o is in
      let z : 0 + n ≡ n = omega arith in
      let before : ℕ = length (flat_map lines_of (take n (enumerate_from 0 operations))) in
      let first : List PlanLine = side_lines table operations n o way.In in
      let own : List PlanLine = side_lines table operations n o way.Out in
      let more : List PlanLine = flat_map lines_of (enumerate_from (n + 1) after) in
      let f : drop before (entries_of table operations) ≡ (first ++ own) ++ more = e ∙ ap (λ j. lines_of (j, o) ++ flat_map lines_of (enumerate_from (j + 1) after)) z in (
        more,
        (
          sym (drop-drop (length first) before (entries_of table operations))
              ∙ ap (drop (length first)) (f ∙ append_assoc first own more)
              ∙ (let y : length first ≡ length first + 0 = omega arith in ap (λ m. drop m (first ++ (own ++ more))) y) ∙ drop-append-add first (own ++ more) 0,
          later_other n way.Out after,
        ),
      )

  many_entries : (n : ℕ) (o : Operation) (s : Side) (at : ℕ → ℕ) (rs : List Root) → length (entry_lines n o s at rs) ≡ length rs
  many_entries n o s at rs = length-map (enumerate_from 0 rs) (λ e. line.Entry n s (root_name o e.1.param) (at e.0)) ∙ length-enumerate_from 0 rs

  -- the first line after a list that begins at a place
  next_line : (a : ℕ) (own rest : List PlanLine) (list : List PlanLine) → drop a list ≡ own ++ rest → slice_get list (a + length own) ≡ slice_get rest 0
  next_line a own rest list e =
      let z : length own + 0 ≡ length own = omega arith in
      sym (drop_at a list (length own)) ∙ ap (λ xs. slice_get xs (length own)) e ∙ past own
    where
      past : (xs : List PlanLine) → slice_get (xs ++ rest) (length xs) ≡ slice_get rest 0
      past [] = refl
      past (x ∷ xs) = past xs

  -- the line after those of the pipes is of another side
  pub pipes_are_all : (n : ℕ) (o : Operation) → slice_get operations n ≡ Some o → (s : Side) (name : List ℕ) (at : ℕ)
      → slice_get (entries_of table operations) (line_at table operations n o s + length (value_roots (roots_of table s o)) + 1 + length (pipe_roots (roots_of table s o)))
      ≡ Some (line.Entry n s name at) → ⊥
  pipes_are_all n o is s name at e =
      let (rest, (f, others)) = after_side n o is s in
      let own : List PlanLine = side_lines table operations n o s in
      let values : List PlanLine = entry_lines n o s _ (value_roots (roots_of table s o)) in
      let pipes : List PlanLine = entry_lines n o s (pipe_at table operations n o s) (pipe_roots (roots_of table s o)) in
      let a : length own ≡ length values + suc (length pipes) = length-append values (_ ∷ pipes) in
      let b : length values ≡ length (value_roots (roots_of table s o)) = many_entries n o s _ (value_roots (roots_of table s o)) in
      let c : length pipes ≡ length (pipe_roots (roots_of table s o)) = many_entries n o s (pipe_at table operations n o s) (pipe_roots (roots_of table s o)) in
      let l : ℕ = line_at table operations n o s in
      let z : l + length own ≡ l + length (value_roots (roots_of table s o)) + 1 + length (pipe_roots (roots_of table s o)) = omega (arith, a, b, c) in
      let there : slice_get rest 0 ≡ Some (line.Entry n s name at) = sym (next_line l own rest (entries_of table operations) f) ∙ ap (slice_get (entries_of table operations)) z ∙ e in
      all_at (IsOther n s) rest 0 (line.Entry n s name at) others there (refl, refl)

-- ## The pipes of a setting

module _ (plan : Plan) (n : ℕ) (s : Side) (w : Setting) (setting : IsSettingOf plan n s w) where
  abbrev pub pipes : List Root
  pipes = drop (before_pipes (root_list w)) (root_list w)

  -- the line of the first pipe
  abbrev pub first_line : ℕ
  first_line = line_at plan.tie.types plan.tie.operations n w.op s + length (value_roots (roots_of plan.tie.types s w.op)) + 1

  roots_are : roots_of plan.tie.types s w.op ≡ root_list w
  roots_are = ap₂ (λ t u. roots_of t u w.op) (sym setting.table) (sym setting.on)

  pipes_are : pipe_roots (roots_of plan.tie.types s w.op) ≡ pipes
  pipes_are = ap pipe_roots roots_are ∙ pipes_last w

  pub record HasLine (j : ℕ) (elem : TypeId) : Type 0 where
    pub name : List ℕ
    pub at : ℕ
    pub entry : slice_get plan.entries (first_line + j) ≡ Some (line.Entry n s name at)
    pub calls : CallsPipe plan.code at (place_at w.table elem.0)

  -- each pipe has a line, whose run calls that of the pipe
  pub pipe_line : (j : ℕ) (r : Root) (elem : TypeId) → slice_get pipes j ≡ Some r → type_at w.table r.of ≡ Some (def.Pipe elem) → HasLine j elem
  pipe_line j r elem there is =
      let t : Table = plan.tie.types in
      let ops : List Operation = plan.tie.operations in
      let e : slice_get (pipe_roots (roots_of t s w.op)) j ≡ Some r = ap (λ rs. slice_get rs j) pipes_are ∙ there in
      let f : type_at t r.of ≡ Some (def.Pipe elem) = ap (λ u. type_at u r.of) (sym setting.table) ∙ is in
      let at : ℕ = pipe_at t ops n w.op s j in
      record {
        name = root_name w.op r.param;
        at = at;
        entry = ap (λ xs. slice_get xs (first_line + j)) plan.planned.entries_are ∙ pipe_line_at t ops n w.op setting.there s j r e;
        calls = record {
          run = place_at t r.of;
          call = ap (λ c. slice_get c at) plan.planned.code_is ∙ first_at (code_of t ops) at (op.Call (place_at t r.of)) (op.Ret ∷ []) (pipe_run_at t ops n w.op setting.there s j r e);
          pipe = ap (λ c. slice_get c (place_at t r.of)) plan.planned.code_is
              ∙ first_at (code_of t ops) (place_at t r.of) (op.Pipe (place_at t elem.0)) (op.Ret ∷ []) (place_run_at t ops r.of (def.Pipe elem) f)
              ∙ ap (λ u. Some (op.Pipe (place_at u elem.0))) (sym setting.table);
        };
      }

  -- after the last of them there is none of the side
  pub no_pipe_line : (name : List ℕ) (at : ℕ) → slice_get plan.entries (first_line + length pipes) ≡ Some (line.Entry n s name at) → ⊥
  no_pipe_line name at e =
      pipes_are_all plan.tie.types plan.tie.operations n w.op setting.there s name at
      (ap (λ rs. slice_get (entries_of plan.tie.types plan.tie.operations) (first_line + length rs)) pipes_are ∙ ap (λ xs. slice_get xs (first_line + length pipes)) (sym plan.planned.entries_are) ∙ e)

-- ## What the code compares

-- sides that are equal by the test are the same
pub same_side : (a b : Side) → false ≡ not (sameb row.the_type a b) → a ≡ b
same_side way.In way.In e = refl
same_side way.In way.Out e = cc
same_side way.Out way.In e = cc
same_side way.Out way.Out e = refl

-- a line that was read
pub entry_read : (plan : Plan) (ls : List PlanLine) (number : ℕ) (l : PlanLine) (n of : ℕ) (s on : Side) (name : List ℕ) (at : ℕ) → ls ≡ plan.entries → number < length plan.entries
    → l ≡ slice_index_or ls number l
    → l ≡ line.Entry of on name at → of ≡ n → on ≡ s → slice_get plan.entries number ≡ Some (line.Entry n s name at)
entry_read plan ls number l n of s on name at same below is e f g =
    ap (λ (xs : List PlanLine). slice_get xs number) (sym same) ∙ slice_get_read ls (length plan.entries) number l (ap length (sym same)) below is
    ∙ ap Some (e ∙ ap₂ (λ i j. line.Entry i j name at) f g)

-- one instruction calls one run, and one pipe has one run of elements
pub one_run : (code : List Instr) (at a b : ℕ) → CallsPipe code at a → CallsPipe code at b → a ≡ b
one_run code at a b x y =
    let e : x.run ≡ y.run = same_call x.run y.run (same_Some _ _ (sym x.call ∙ y.call)) in
    same_pipe a b (same_Some _ _ (sym x.pipe ∙ ap (slice_get code) e ∙ y.pipe))
  where
    same_call : (p q : ℕ) → op.Call p ≡ op.Call q → p ≡ q
    same_call p q e = cc

    same_pipe : (p q : ℕ) → op.Pipe p ≡ op.Pipe q → p ≡ q
    same_pipe p q e = cc
