-- The lines of a side's roots and pipes, one by one.
-- `op` is the number of the operation `o`, `number` that of a line, `i` that of a root, `k` that of a pipe.
use Rattle.std.proofs.Common.{◌≡◌, ◌≤◌, ◌<◌, ℕ, ◌+◌, ◌-◌, Bool, true, false, List, [], length, drop, Some, None, refl, ap, sym, ◌∙◌, inl, inr, ◌⊎◌, subst, arith}
use Rattle.std.specs.Prelude.{slice_get, slice_index_or}
use Rattle.std.proofs.lemmas.Option.{slice_get-get_or, slice_get_past, slice_get_within}
use Rattle.std.proofs.lemmas.Bool.{cases_lt}
use Rattle.nd_types.specs.declared.types.Operation.{Operation}
use Rattle.nd_types.specs.declared.types.Side.{Side}
use Rattle.nd_types.specs.declared.types.TypeId.{TypeId}
use Rattle.nd_types.specs.Roots.{Root, roots_of}
use Rattle.nd_value.specs.Deferral.{before_pipes}
use Rattle.nd_value.specs.Fitting.{setting_of}
use Rattle.nd_value.specs.Setting.{Setting}
use Rattle.nd_value.proofs.FewRoots.{few_before_pipes}
use Rattle.nd_lemmas.proofs.Lists.{item_at, all_at, drop_length}
use Rattle.nd_grammar.specs.LegalSide.{IsLegalSide}
use Rattle.nd_grammar.proofs.LegalSides.{interface_side, laid_out}
use Rattle.nd_grammar.proofs.next.NextStream.{IsPipeRoot}
use Rattle.nd_grammar.proofs.reader.ReaderStream.{roots_few}
use Rattle.ndr_code.specs.Code.{place_at, value_roots, line_at}
use Rattle.ndr_code.specs.declared.lists.PlanLine.{PlanLine}
use Rattle.ndr_code.specs.declared.lists.PlanLine.TheVariants as line
use Rattle.ndr_code.specs.declared.plan.Plan.{Plan}
use Rattle.ndr_decode.specs.Piping.{CallsPipe, ElementsRun}
use Rattle.ndr_decode.specs.Streaming.{IsSettingOf}
use Rattle.ndr_decode.proofs.PipeLines.{HasLine, no_pipe_line, pipe_line}
use Rattle.ndr_decode.proofs.RootLines.{HasNextRoot, line_read, line_there, many_values, next_root, none_left}
use Rattle.ndr_decode.proofs.RootTurns.{setting_by}
use Rattle.ndr_drain_reader.specs.Pipes.{IsChecksBy}

-- so many roots before the pipes were passed, and so many are left
pub record IsUpTo (plan : Plan) (op : ℕ) (side : Side) (o : Operation) (number : ℕ) : Type 0 where
  pub i : ℕ
  pub left : ℕ
  pub here : number ≡ line_at plan.tie.types plan.tie.operations op o side + i
  pub all : i + left ≡ before_pipes (roots_of plan.tie.types side o)

abbrev pub AllUpTo : Plan → ℕ → Side → ℕ → Type 0
AllUpTo plan op side number = (o : Operation) → slice_get plan.tie.operations op ≡ Some o → IsUpTo plan op side o number

-- so many pipes were counted
pub record HasCounted (plan : Plan) (op : ℕ) (side : Side) (o : Operation) (next k : ℕ) : Type 0 where
  pub here : next ≡ line_at plan.tie.types plan.tie.operations op o side + before_pipes (roots_of plan.tie.types side o) + 1 + k
  pub few : before_pipes (roots_of plan.tie.types side o) + k ≤ length (roots_of plan.tie.types side o)

abbrev pub AllCounted : Plan → ℕ → Side → ℕ → ℕ → Type 0
AllCounted plan op side next k = (o : Operation) → slice_get plan.tie.operations op ≡ Some o → HasCounted plan op side o next k

module _ (plan : Plan) (op : ℕ) (side : Side) (o : Operation) (there : slice_get plan.tie.operations op ≡ Some o) where
  abbrev w : Setting
  w = setting_of plan.tie o side

  legal : IsLegalSide w
  legal = interface_side plan.tie op o side there

  set : IsSettingOf plan op side w
  set = setting_by plan op side o there

  abbrev rs : List Root
  rs = roots_of plan.tie.types side o

  abbrev values : ℕ
  values = before_pipes (roots_of plan.tie.types side o)

  pub few_values : before_pipes (roots_of plan.tie.types side o) ≤ length (roots_of plan.tie.types side o)
  few_values = few_before_pipes rs

  pub roots_small : length (roots_of plan.tie.types side o) ≤ 513
  roots_small = roots_few w legal

  pub pipes_are : (root left : ℕ) → root ≡ before_pipes (roots_of plan.tie.types side o) → root + left ≡ length (roots_of plan.tie.types side o)
      → left ≡ length (drop (before_pipes (roots_of plan.tie.types side o)) (roots_of plan.tie.types side o))
  pipes_are root left e f = let d = drop_length values rs few_values in omega (arith, d, e, f)

  -- the first pipe is next
  pub at_first : (root left line : ℕ) → root ≡ before_pipes (roots_of plan.tie.types side o)
      → line ≡ line_at plan.tie.types plan.tie.operations op o side + root + 1
      → line ≡ line_at plan.tie.types plan.tie.operations op o side + length (value_roots (roots_of plan.tie.types side o)) + 1 + (root - before_pipes (roots_of plan.tie.types side o))
  at_first root left line e f = let m : length (value_roots rs) ≡ values = many_values w in omega (arith, e, f, m)

  -- ## Up to the line of the agreements

  pub up_begins : (number : ℕ) → number ≡ line_at plan.tie.types plan.tie.operations op o side → IsUpTo plan op side o number
  up_begins number e = record { i = 0; left = values; here = omega (arith, e); all = omega arith }

  module _ (number : ℕ) (u : IsUpTo plan op side o number) where
    pub up_next : (m : ℕ) (s : Side) (name : List ℕ) (at : ℕ) → slice_get plan.entries number ≡ Some (line.Entry m s name at) → IsUpTo plan op side o (number + 1)
    up_next m s name at e =
        let h : HasNextRoot plan w u.i u.left at = next_root plan op side w set u.i number u.here u.left u.all m s name at e in
        let here = u.here in let all = u.all in let left = h.left in
        record { i = u.i + 1; left = h.others; here = omega (arith, here); all = omega (arith, all, left) }

    pub up_ends : (m : ℕ) (s : Side) (at : ℕ) → slice_get plan.entries number ≡ Some (line.Checks m s at)
        → number ≡ line_at plan.tie.types plan.tie.operations op o side + before_pipes (roots_of plan.tie.types side o)
    up_ends m s at e =
        let none = (none_left plan op side w set u.i number u.here u.left u.all m s at e).0 in
        let here = u.here in let all = u.all in
        omega (arith, here, all, none)

    pub up_there : length plan.entries ≤ number → ⊥
    up_there past = line_there plan op side w set u.i number u.here u.left u.all (slice_get_past plan.entries number past)

    up_by : (l : PlanLine) (b : Bool) → slice_get plan.entries number ≡ Some l → IsChecksBy l b → b ≡ true
        → number ≡ line_at plan.tie.types plan.tie.operations op o side + before_pipes (roots_of plan.tie.types side o)
    up_by (line.Checks m s at) b e h f = up_ends m s at e
    up_by (line.Entry m s name at) b e h f = let z : true ≡ false = sym f ∙ h in cc

    on_by : (l : PlanLine) (b : Bool) → slice_get plan.entries number ≡ Some l → IsChecksBy l b → b ≡ false → IsUpTo plan op side o (number + 1)
    on_by (line.Checks m s at) b e h f = let z : true ≡ false = sym h ∙ f in cc
    on_by (line.Entry m s name at) b e h f = up_next m s name at e

  -- ## The pipes

  pipe_there : (k : ℕ) → values + k < length rs → (elem : TypeId) × HasLine plan op side w set k elem
  pipe_there k h =
      let d : values + length (drop values rs) ≡ length rs = drop_length values rs few_values in
      let below : k < length (drop values rs) = omega (arith, d, h) in
      let r : Root = slice_index_or (drop values rs) k (record { of = 0; param = None; vars = []; is_pipe = false }) in
      let e : slice_get (drop values rs) k ≡ Some r = slice_get-get_or (drop values rs) k (record { of = 0; param = None; vars = []; is_pipe = false }) below in
      let p : IsPipeRoot plan.tie.types r = all_at (IsPipeRoot plan.tie.types) (drop values rs) k r (laid_out w legal).pipes e in
      (p.elem, pipe_line plan op side w set k r p.elem e p.type_is)

  first_is : line_at plan.tie.types plan.tie.operations op o side + length (value_roots (roots_of plan.tie.types side o)) + 1
      ≡ line_at plan.tie.types plan.tie.operations op o side + before_pipes (roots_of plan.tie.types side o) + 1
  first_is = ap (λ n. line_at plan.tie.types plan.tie.operations op o side + n + 1) (many_values w)

  pub count_begins : (next : ℕ) → next ≡ line_at plan.tie.types plan.tie.operations op o side + before_pipes (roots_of plan.tie.types side o) + 1 → HasCounted plan op side o next 0
  count_begins next e = let f = few_values in record { here = omega (arith, e); few = omega (arith, f) }

  module _ (next k : ℕ) (c : HasCounted plan op side o next k) where
    at_line : (elem : TypeId) → (h : HasLine plan op side w set k elem) → slice_get plan.entries next ≡ Some (line.Entry op side h.name h.at)
    at_line elem h =
        let f = first_is in let here = c.here in
        let z : next ≡ line_at plan.tie.types plan.tie.operations op o side + length (value_roots (roots_of plan.tie.types side o)) + 1 + k = omega (arith, f, here) in
        ap (slice_get plan.entries) z ∙ h.entry

    -- after the last pipe there is no line of the side
    at_end : values + k ≡ length rs → (name : List ℕ) (at : ℕ) → slice_get plan.entries next ≡ Some (line.Entry op side name at) → ⊥
    at_end e name at l =
        let d : values + length (drop values rs) ≡ length rs = drop_length values rs few_values in
        let f = first_is in let here = c.here in
        let z : next ≡ line_at plan.tie.types plan.tie.operations op o side + length (value_roots (roots_of plan.tie.types side o)) + 1 + length (drop values rs) = omega (arith, f, here, d, e) in
        no_pipe_line plan op side w set name at (ap (slice_get plan.entries) (sym z) ∙ l)

    same_at : (u v : List ℕ) (y z : ℕ) → Some (line.Entry op side u y) ≡ Some (line.Entry op side v z) → y ≡ z
    same_at u v y z e = cc

    pub line_calls : (name : List ℕ) (at : ℕ) → slice_get plan.entries next ≡ Some (line.Entry op side name at) → (elem : ℕ) × CallsPipe plan.code at elem
    line_calls name at l = go (cases_lt (values + k) (length rs))
      where
        go : (values + k < length rs) ⊎ (length rs ≤ values + k) → (elem : ℕ) × CallsPipe plan.code at elem
        go (inl h) =
            let (elem, x) = pipe_there k h in
            let z : x.at ≡ at = same_at x.name name x.at at (sym (at_line elem x) ∙ l) in
            (place_at plan.tie.types elem.0, subst (λ a. CallsPipe plan.code a (place_at plan.tie.types elem.0)) z x.calls)
        go (inr h) = let few = c.few in absurd (at_end (omega (arith, h, few)) name at l)

    pub none_more : ElementsRun plan op side next None → before_pipes (roots_of plan.tie.types side o) + k ≡ length (roots_of plan.tie.types side o)
    none_more none = go (cases_lt (values + k) (length rs))
      where
        go : (values + k < length rs) ⊎ (length rs ≤ values + k) → values + k ≡ length rs
        go (inl h) = let (elem, x) = pipe_there k h in absurd (none x.name x.at (at_line elem x))
        go (inr h) = let few = c.few in omega (arith, h, few)

    pub past_lines : length plan.entries ≤ next → before_pipes (roots_of plan.tie.types side o) + k ≡ length (roots_of plan.tie.types side o)
    past_lines past = go (cases_lt (values + k) (length rs))
      where
        go : (values + k < length rs) ⊎ (length rs ≤ values + k) → values + k ≡ length rs
        go (inl h) =
            let (elem, x) = pipe_there k h in
            let below = slice_get_within plan.entries next (line.Entry op side x.name x.at) (at_line elem x) in
            absurd (omega (arith, below, past))
        go (inr h) = let few = c.few in omega (arith, h, few)

    pub one_more : (elem : ℕ) → ElementsRun plan op side next (Some elem) → HasCounted plan op side o (next + 1) (k + 1)
    one_more elem is = go (cases_lt (values + k) (length rs))
      where
        go : (values + k < length rs) ⊎ (length rs ≤ values + k) → HasCounted plan op side o (next + 1) (k + 1)
        go (inl h) = let here = c.here in record { here = omega (arith, here); few = omega (arith, h) }
        go (inr h) = let few = c.few in absurd (at_end (omega (arith, h, few)) is.name is.at is.entry)

-- the line of the agreements, and the lines before it
pub checks_found : (plan : Plan) (op : ℕ) (side : Side) (ls : List PlanLine) (number : ℕ) (l : PlanLine) (b : Bool) → ls ≡ plan.entries → number < length ls → l ≡ slice_index_or ls number l
    → IsChecksBy l b → b ≡ true → AllUpTo plan op side number
    → (o : Operation) → slice_get plan.tie.operations op ≡ Some o → number ≡ line_at plan.tie.types plan.tie.operations op o side + before_pipes (roots_of plan.tie.types side o)
checks_found plan op side ls number l b same below is h f all o there = up_by plan op side o there number (all o there) l b (line_read plan ls number l l same below is refl) h f

pub checks_passed : (plan : Plan) (op : ℕ) (side : Side) (ls : List PlanLine) (number : ℕ) (l : PlanLine) (b : Bool) → ls ≡ plan.entries → number < length ls → l ≡ slice_index_or ls number l
    → IsChecksBy l b → b ≡ false → AllUpTo plan op side number → AllUpTo plan op side (number + 1)
checks_passed plan op side ls number l b same below is h f all o there = on_by plan op side o there number (all o there) l b (line_read plan ls number l l same below is refl) h f

pub checks_there : (plan : Plan) (op : ℕ) (side : Side) (number : ℕ) → op < length plan.tie.operations → AllUpTo plan op side number → length plan.entries ≤ number → ⊥
checks_there plan op side number known all past = let (o, there) = item_at plan.tie.operations op known in up_there plan op side o there number (all o there) past

pub counted_calls : (plan : Plan) (op : ℕ) (side : Side) (next k : ℕ) → op < length plan.tie.operations → AllCounted plan op side next k
    → (name : List ℕ) (at : ℕ) → slice_get plan.entries next ≡ Some (line.Entry op side name at) → (elem : ℕ) × CallsPipe plan.code at elem
counted_calls plan op side next k known all = let (o, there) = item_at plan.tie.operations op known in line_calls plan op side o there next k (all o there)

pub counted_few : (plan : Plan) (op : ℕ) (side : Side) (next k : ℕ) → op < length plan.tie.operations → AllCounted plan op side next k → k ≤ 513
counted_few plan op side next k known all =
    let (o, there) = item_at plan.tie.operations op known in
    let few = (all o there).few in let small = roots_small plan op side o there in
    omega (arith, few, small)

-- the line of the agreements comes after the first line, and the roots are few
pub found_after : (plan : Plan) (op : ℕ) (side : Side) (first checks : ℕ) → op < length plan.tie.operations
    → ((o : Operation) → slice_get plan.tie.operations op ≡ Some o → checks ≡ first + before_pipes (roots_of plan.tie.types side o)) → (first ≤ checks) × (checks ≤ first + 513)
found_after plan op side first checks known at =
    let (o, there) = item_at plan.tie.operations op known in
    let e = at o there in
    let few = few_values plan op side o there in
    let small = roots_small plan op side o there in
    (omega (arith, e), omega (arith, e, few, small))
