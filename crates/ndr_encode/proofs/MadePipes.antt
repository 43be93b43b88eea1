-- The pipes of a side, as a search goes over them.
-- `p` is a plan, `f` a fit, `k` the greatest count of a chunk, `h` the stream of the fit, `s` what is known so far, `i` the number of the next pipe among all roots.
use Rattle.std.proofs.Common.{◌≡◌, ℕ, ◌+◌, ◌-◌, ◌<◌, ◌≤◌, suc, List, [], ◌∷◌, ◌++◌, length, drop, Some, refl, ap, ap₂, sym, ◌∙◌, subst, arith, append-nil, length-drop, length-append}
use Rattle.std.specs.Prelude.{reverse}
use Rattle.std.specs.List.{slice_get, AllByRecursion}
use Rattle.std.proofs.lemmas.List.{reverse-append}
use Rattle.std.proofs.lemmas.Option.{slice_get_within}
use Rattle.nd_types.specs.declared.types.Side.{Side}
use Rattle.nd_value.specs.declared.item.Home.{Home}
use Rattle.nd_value.specs.declared.item.Home.TheVariants as home
use Rattle.nd_value.specs.Deferral.{before_pipes}
use Rattle.nd_value.specs.Fitting.{Fitting}
use Rattle.nd_value.specs.Setting.{root_list}
use Rattle.nd_value.proofs.Apart.{all_append}
use Rattle.nd_value.proofs.FewRoots.{few_before_pipes}
use Rattle.ndr_code.specs.declared.lists.PlanLine.TheVariants as line
use Rattle.ndr_code.specs.declared.plan.Plan.{Plan}
use Rattle.ndr_code.specs.Code.{pipe_at, line_at}
use Rattle.ndr_encoder_laws.specs.pieces.Pieces.{pieces_end, pieces_names}
use Rattle.ndr_encoder_output.specs.declared.count.Named.{Named}
use Rattle.ndr_encoder_output.specs.Counting.{names_of}
use Rattle.ndr_encoder_laws.specs.turns.Turned.{cells_of}
use Rattle.ndr_encoder_laws.specs.chosen.Written.{pipe_turns}
use Rattle.ndr_encoder_value.specs.declared.turn.Turn.{Turn}
use Rattle.ndr_encoder_value.specs.Turns.{turn_pair, turn_pairs}
use Rattle.ndr_encoder_value.specs.Counted.{counted_turn, IsCounted}
use Rattle.ndr_encode.specs.declared.search.Search.{Search}
use Rattle.ndr_encode.specs.Search.{IsNumbered, unmarked, pending_names, ArePipes, IsTaken, CanTake}
use Rattle.ndr_encode.specs.Making.{stream_of, HasStream, BeginsPipes, PipesTaken}
use Rattle.ndr_encode.specs.Work.{setting}
use Rattle.ndr_encode.proofs.MadeLines.{pipe_line, pipe_line_is, no_checks_line}
use Rattle.ndr_encode.proofs.MadeRoots.{same_operation, as_many}
use Rattle.ndr_encode.proofs.Searching.{count_more, room_left, pairs_joined}

append_one : (us vs : List (Home × ℕ)) (u : Home × ℕ) → (us ++ u ∷ []) ++ vs ≡ us ++ u ∷ vs
append_one [] vs u = refl
append_one (x ∷ us) vs u = ap (λ l. x ∷ l) (append_one us vs u)

-- nothing is pending where no name is
reversed_long : (ds : List Named) → length (names_of (reverse ds)) ≡ length ds
reversed_long [] = refl
reversed_long (d ∷ ds) =
    ap (λ l. length (names_of l)) (reverse-append {A = Named} (d ∷ []) ds) ∙ joined_long (reverse ds) d ∙ ap suc (reversed_long ds)
  where
    joined_long : (xs : List Named) (d : Named) → length (names_of (xs ++ d ∷ [])) ≡ suc (length (names_of xs))
    joined_long [] d = refl
    joined_long (x ∷ xs) d = ap suc (joined_long xs d)

none_pending : (ds : List Named) → pending_names ds ≡ [] → ds ≡ []
none_pending [] e = refl
none_pending (d ∷ ds) e = let l : length (pending_names (d ∷ ds)) ≡ suc (length ds) = reversed_long (d ∷ ds) in let z : length (pending_names (d ∷ ds)) ≡ 0 =
    ap length e in absurd (omega (arith, l, z))

module _ (p : Plan) (k : ℕ) (f : Fitting) where
  -- the roots that are no pipes
  abbrev pub first_pipe : HasStream p k f → ℕ
  first_pipe h = before_pipes (root_list (setting f h.operation))

  -- pipes that are left
  abbrev pub pipes_from : HasStream p k f → ℕ → ℕ → List (Home × ℕ)
  pipes_from h i many = pipe_turns (pipe_at f.interface.types f.interface.operations f.op h.operation f.side) (first_pipe h) i many

  abbrev NamesNone : Home × ℕ → Type 0
  NamesNone u = pieces_names (counted_turn p.code k f.graph u) ≡ []

  -- So many pipes are left, from the i-th root on.
  pub record PipesLeft (i : ℕ) (s : Search) (h : HasStream p k f) : Type 0 where
    pub many : ℕ
    pub all : i + many ≡ length f.graph.roots
    pub from : first_pipe h ≤ i
    pub pipes : ArePipes p.code k f.graph (stream_of f h.operation h.steps) (pipes_from h (i - first_pipe h) many) s
    pub counted : AllByRecursion (IsCounted p.code k f.graph) (pipes_from h (i - first_pipe h) many)
    pub no_names : AllByRecursion NamesNone (pipes_from h (i - first_pipe h) many)

  abbrev pub PipesSoFar : Search → ℕ → Search → Type 0
  PipesSoFar old i s =
      (h : HasStream p k f) → ArePipes p.code k f.graph (stream_of f h.operation h.steps) (stream_of f h.operation h.steps).pipes old → PipesLeft i s h

  module _ (tied : p.tie ≡ f.interface) (first next : ℕ) (old : Search) (b : BeginsPipes p k f first next old) where
    next_is : (h : HasStream p k f) → next ≡ first_pipe h
    next_is h = b.next_is ∙ ap (λ o. before_pipes (root_list (setting f o))) (same_operation f b.stream.operation h.operation b.stream.is_there h.is_there)

    first_is : (h : HasStream p k f) → first ≡ line_at f.interface.types f.interface.operations f.op h.operation f.side + first_pipe h + 1
    first_is h =
        b.line_is
        ∙ ap (λ o. line_at f.interface.types f.interface.operations f.op o f.side + before_pipes (root_list (setting f o)) + 1)
        (same_operation f b.stream.operation h.operation b.stream.is_there h.is_there)

    -- at the beginning
    pub pipes_begin : PipesSoFar old next old
    pipes_begin h pipes =
        let n : next ≡ first_pipe h = next_is h in
        let rs = root_list (setting f h.operation) in
        let many : ℕ = length (drop (first_pipe h) rs) in
        let d : many ≡ length rs - first_pipe h = length-drop (first_pipe h) rs in
        let few : first_pipe h ≤ length rs = few_before_pipes rs in
        let a : length f.graph.roots ≡ length rs = as_many p k f h in
        let z : 0 ≡ next - first_pipe h = omega (arith, n) in
        record {
          many = many;
          all = omega (arith, n, d, few, a);
          from = omega (arith, n);
          pipes = subst (λ j. ArePipes p.code k f.graph (stream_of f h.operation h.steps) (pipes_from h j many) old) z pipes;
          counted = subst (λ j. AllByRecursion (IsCounted p.code k f.graph) (pipes_from h j many)) z h.searchable.pipes;
          no_names = subst (λ j. AllByRecursion NamesNone (pipes_from h j many)) z h.searchable.no_names;
        }

    module _ (i number : ℕ) (s : Search) (so_far : PipesSoFar old i s) (here : number + next ≡ first + i) where
      abbrev known : PipesLeft i s b.stream
      known = so_far b.stream b.searched

      -- all of them took their turns
      pub pipes_taken : length f.graph.roots ≤ i → PipesTaken p k f old s
      pipes_taken past h pipes =
          let l : PipesLeft i s h = so_far h pipes in
          let a = l.all in
          let none : l.many ≡ 0 = omega (arith, a, past) in
          subst (λ m. ArePipes p.code k f.graph (stream_of f h.operation h.steps) (pipes_from h (i - first_pipe h) m) s) none l.pipes

      module _ (there : i < length f.graph.roots) where
        its_line : (h : HasStream p k f) → PipesLeft i s h → number ≡ line_at f.interface.types f.interface.operations f.op h.operation f.side + first_pipe h + 1 + (i - first_pipe h)
        its_line h l =
            let a = l.from in
            let c = first_is h in
            let d = next_is h in
            omega (arith, here, a, c, d)

        among : (h : HasStream p k f) → PipesLeft i s h → i - first_pipe h < length (drop (first_pipe h) (root_list (setting f h.operation)))
        among h l =
            let rs = root_list (setting f h.operation) in
            let d : length (drop (first_pipe h) rs) ≡ length rs - first_pipe h = length-drop (first_pipe h) rs in
            let a : length f.graph.roots ≡ length rs = as_many p k f h in
            let c = l.from in
            omega (arith, d, a, c, there)

        -- its line is there
        pub line_within : number < length p.entries
        line_within =
            slice_get_within p.entries number _
            (pipe_line p f tied b.stream.operation b.stream.is_there (i - first_pipe b.stream) number (its_line b.stream known) (among b.stream known)).is

        pub no_checks_here : (m : ℕ) (side : Side) (at : ℕ) → slice_get p.entries number ≡ Some (line.Checks m side at) → ⊥
        no_checks_here m side at is =
            no_checks_line p f tied b.stream.operation b.stream.is_there (i - first_pipe b.stream) number (its_line b.stream known) (among b.stream known) m side at is

        module _ (m : ℕ) (side : Side) (name : List ℕ) (at : ℕ) (is : slice_get p.entries number ≡ Some (line.Entry m side name at)) where
          abbrev turn : Turn
          turn = record { home = home.Root i; start = at }

          -- the pipes after it
          abbrev rest : (h : HasStream p k f) → PipesLeft i s h → List (Home × ℕ)
          rest h l = pipes_from h (suc (i - first_pipe h)) (l.many - 1)

          next_pipe : (h : HasStream p k f) (l : PipesLeft i s h) → pipes_from h (i - first_pipe h) l.many ≡ turn_pair turn ∷ rest h l
          next_pipe h l =
              let a = l.all in
              let c = l.from in
              let more : l.many ≡ suc (l.many - 1) = omega (arith, a, there) in
              let root : first_pipe h + (i - first_pipe h) ≡ i = omega (arith, c) in
              let start : at ≡ pipe_at f.interface.types f.interface.operations f.op h.operation f.side (i - first_pipe h) =
              pipe_line_is p f tied h.operation h.is_there (i - first_pipe h) number (its_line h l) (among h l) m side name at is in
              ap (pipes_from h (i - first_pipe h)) more ∙ ap₂ (λ r q. (home.Root r, q) ∷ rest h l) root (sym start)

          pipes_here : (h : HasStream p k f) (l : PipesLeft i s h) → ArePipes p.code k f.graph (stream_of f h.operation h.steps) (turn_pair turn ∷ rest h l) s
          pipes_here h l = subst (λ us. ArePipes p.code k f.graph (stream_of f h.operation h.steps) us s) (next_pipe h l) l.pipes

          counted_here : (h : HasStream p k f) (l : PipesLeft i s h) → AllByRecursion (IsCounted p.code k f.graph) (turn_pair turn ∷ rest h l)
          counted_here h l = subst (AllByRecursion (IsCounted p.code k f.graph)) (next_pipe h l) l.counted

          no_names_here : (h : HasStream p k f) (l : PipesLeft i s h) → AllByRecursion NamesNone (turn_pair turn ∷ rest h l)
          no_names_here h l = subst (AllByRecursion NamesNone) (next_pipe h l) l.no_names

          -- the pipe can take its turn
          pub can_take : CanTake p.code k f.graph turn s
          can_take =
              let x = stream_of f b.stream.operation b.stream.steps in
              let a : ArePipes p.code k f.graph x (turn_pair turn ∷ rest b.stream known) s = pipes_here b.stream known in
              let few = a.counted.few in
              let c = b.stream.searchable.few_cells in
              let d = b.stream.searchable.few_roots in
              record {
                few_cells = b.stream.searchable.few_cells;
                counted = (counted_here b.stream known).0;
                room =
                    room_left p.code k f.graph (turn_pairs s.turns.items) (turn_pair turn ∷ rest b.stream known) (x.homes ++ x.pipes) s.turns.items s.count.at refl a.turns
                    (all_append (IsCounted p.code k f.graph) x.homes x.pipes b.stream.searchable.homes b.stream.searchable.pipes) a.counted.at (omega (arith, few, c, d));
                known = a.counted.known;
                names = x.names;
                numbers = a.numbers;
              }

          -- it took it
          pub pipe_went : (new : Search) → IsTaken p.code k f.graph turn s new → PipesSoFar old (i + 1) new
          pipe_went new t h pipes =
              let l : PipesLeft i s h = so_far h pipes in
              let x = stream_of f h.operation h.steps in
              let R : List (Home × ℕ) = rest h l in
              let a : ArePipes p.code k f.graph x (turn_pair turn ∷ R) s = pipes_here h l in
              let none : pieces_names (counted_turn p.code k f.graph (turn_pair turn)) ≡ [] = (no_names_here h l).0 in
              let e = l.all in
              let c = l.from in
              let next : suc (i - first_pipe h) ≡ i + 1 - first_pipe h = omega (arith, c) in
              let one_more : length new.turns.items ≡ suc (length s.turns.items) = ap length t.turns ∙ length-append s.turns.items (turn ∷ []) ∙ omega arith in
              let same_marks : unmarked new.placed.items ≡ unmarked s.placed.items = ap unmarked t.placed in
              let few : length s.turns.items + unmarked s.placed.items + suc (length R) ≤ length f.graph.roots + length f.graph.cells + 1 = a.counted.few in
              let went : ArePipes p.code k f.graph x R new =
              record {
                turns = ap (λ ts. turn_pairs ts ++ R) t.turns ∙ ap (λ us. us ++ R) (pairs_joined s.turns.items turn) ∙ append_one (turn_pairs s.turns.items) R (turn_pair turn) ∙ a.turns;
                numbers =
                    subst (λ ns. IsNumbered (length f.graph.cells) ns new.numbers.items new.named) (ap (λ us. x.names ++ cells_of us) none ∙ append-nil x.names)
                    (t.numbers x.names a.numbers);
                pending = none_pending new.count.names.items (t.pending ∙ ap₂ (λ us vs. us ++ vs) none (ap pending_names a.pending));
                counted = record {
                  at =
                      t.at ∙ ap (λ n. pieces_end n (counted_turn p.code k f.graph (turn_pair turn))) a.counted.at
                      ∙ sym (count_more p.code k f.graph s.turns.items new.turns.items turn t.turns);
                  few = omega (arith, one_more, same_marks, few);
                  room = ap length t.placed ∙ a.counted.room;
                  known = t.known;
                };
              } in
              record {
                many = l.many - 1;
                all = omega (arith, e, there);
                from = omega (arith, c);
                pipes = subst (λ j. ArePipes p.code k f.graph x (pipes_from h j (l.many - 1)) new) next went;
                counted = subst (λ j. AllByRecursion (IsCounted p.code k f.graph) (pipes_from h j (l.many - 1))) next (counted_here h l).1;
                no_names = subst (λ j. AllByRecursion NamesNone (pipes_from h j (l.many - 1))) next (no_names_here h l).1;
              }
