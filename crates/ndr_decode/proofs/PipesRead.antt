-- The pipes of a stream, one after the other: from the agreements of the parameters to the end of the stream.
-- `x` is the stream before its pipes, `m` the machine so far, `z` the one after the next pipe; `a` and `s` are what was seen so far, `b` and `t` over the next pipe,
-- `e` and `u` over both; `passed` is how many pipes were read.
use Rattle.std.proofs.Common.{◌≡◌, ◌≤◌, ◌<◌, ℕ, ◌+◌, ◌*◌, zero, suc, Bool, List, [], ◌∷◌, ◌++◌, length, map, drop, Option, Some, None, Result, Ok, Err, IsErrAnd, refl, ap, sym, ◌∙◌, subst, arith}
use Rattle.std.proofs.Common.{append_assoc}
use Rattle.std.specs.Prelude.{slice_get}
use Rattle.std.specs.List.{AllByRecursion}
use Rattle.std.proofs.lemmas.List.{append-nil}
use Rattle.std.proofs.lemmas.Option.{same_Some, slice_get_within as within}
use Rattle.nd_base.specs.declared.octets.Order.{Order}
use Rattle.nd_base.specs.Over.{Count, SourceOver}
use Rattle.nd_types.specs.Number.{AreOctets}
use Rattle.nd_types.specs.declared.types.Side.{Side}
use Rattle.nd_types.specs.declared.types.TypeId.{TypeId}
use Rattle.nd_types.specs.Roots.{Root}
use Rattle.nd_value.specs.declared.item.Item.{Item}
use Rattle.nd_value.specs.declared.value.Graph.{Graph}
use Rattle.nd_value.specs.Deferral.{before_pipes}
use Rattle.nd_value.specs.Logged.{Logged}
use Rattle.nd_value.specs.Setting.{Setting, cell_at, root_list}
use Rattle.nd_value.specs.Tree.{Referent, Tree}
use Rattle.nd_flat.specs.Building.{closed}
use Rattle.nd_grammar.specs.Entry.{EntryAt}
use Rattle.nd_grammar.specs.LegalSide.{IsLegalSide}
use Rattle.nd_grammar.specs.Reader.{Names}
use Rattle.nd_grammar.specs.StreamReader.{Reading, graph_of}
use Rattle.nd_grammar.proofs.LegalSides.{laid_out}
use Rattle.nd_grammar.proofs.next.NextStream.{IsPipeRoot, drop_at}
use Rattle.nd_grammar.specs.ReaderState.{State as IsReading}
use Rattle.nd_grammar.proofs.reader.ReaderStream.{roots_few}
use Rattle.ndr_code.specs.declared.lists.PlanLine.TheVariants as line
use Rattle.ndr_code.specs.Code.{place_at}
use Rattle.ndr_code.specs.declared.plan.Plan.{Plan}
use Rattle.ndr_decoder_laws.specs.reader.Around.{going}
use Rattle.ndr_decoder_state.specs.declared.fault.DecodeFault.{DecodeFault}
use Rattle.ndr_decoder_state.specs.declared.machine.Machine.{Machine}
use Rattle.nd_grammar.specs.decoded.Verdict.{DecodingSeen}
use Rattle.ndr_decoder_laws.specs.stream.Between.{Between}
use Rattle.ndr_decoder_laws.specs.stream.Calls.{Follows, Took}
use Rattle.ndr_decoder_laws.specs.stream.Parameters.{TestsPass, parameter_tests}
use Rattle.ndr_decoder_laws.proofs.stream.FewReferences.{few_now}
use Rattle.ndr_decoder_laws.proofs.stream.Graphs.{graph_is}
use Rattle.ndr_decoder_laws.proofs.stream.HeadEnds.{parameters_pass}
use Rattle.ndr_decoder_laws.proofs.stream.Joined.{took_twice}
use Rattle.ndr_decoder_laws.specs.pipes.Pipes.{InPipes, Position, pipes_due}
use Rattle.ndr_decoder_laws.proofs.pipes.PipesBegin.{pipes_begin, pipes_end}
use Rattle.ndr_decoder_stream.specs.declared.stream.Stream.{Stream}
use Rattle.ndr_decoder_stream.specs.Seen.{between_of}
use Rattle.ndr_decoder_stream.proofs.Opened.{closed_types}
use Rattle.ndr_decoder_laws.specs.stream.Report.{the_stream}
use Rattle.ndr_decode.specs.Piping.{CallsPipe, ElementsRun, EndComes, IsAtPipe, IsBefore, IsPipeBy, IsPipeLine, PipeComes}
use Rattle.ndr_decode.specs.Streaming.{FaultOf, IsSettingOf, Stands, WasRead, cells_of}
use Rattle.ndr_decode.proofs.PaidHomes.{paid_between, roots_kept, roots_within}
use Rattle.ndr_decode.proofs.PipeLines.{HasLine, first_line, no_pipe_line, one_run, pipe_line}
use Rattle.ndr_decode.proofs.PipeOpens.{closed_roots}
use Rattle.ndr_decoder_stream.proofs.Counting.{faulty}
use Rattle.ndr_decode.proofs.Standing.{idle_log, idle_source, then_fault, took_nothing}

-- ## Lists of pipes

second_left : {X : Type 0} (p : ℕ) (xs : List X) (x : X) (rest : List X) → drop p xs ≡ x ∷ rest → drop (suc p) xs ≡ rest
second_left zero [] x rest e = cc
second_left (suc p) [] x rest e = cc
second_left zero (y ∷ ys) x rest e = cc
second_left (suc p) (y ∷ ys) x rest e = second_left p ys x rest e

-- the first of what is left, and what is left after it
first_left : {X : Type 0} (p : ℕ) (xs : List X) (x : X) (rest : List X) → drop p xs ≡ x ∷ rest → (slice_get xs p ≡ Some x) × (drop (p + 1) xs ≡ rest)
first_left p xs x rest e = (
  (let z : p + 0 ≡ p = omega arith in ap (slice_get xs) (sym z) ∙ sym (drop_at p xs 0) ∙ ap (λ ys. slice_get ys 0) e),
  (let z : p + 1 ≡ suc p = omega arith in ap (λ j. drop j xs) z ∙ second_left p xs x rest e),
)

all_left : {X : Type 0} (p : ℕ) (xs : List X) → drop p xs ≡ [] → length xs ≤ p
all_left zero [] e = omega arith
all_left (suc p) [] e = omega arith
all_left zero (y ∷ ys) e = cc
all_left (suc p) (y ∷ ys) e = let l : length ys ≤ p = all_left p ys e in omega (arith, l)

each_left : {X : Type 0} (P : X → Type 0) (p : ℕ) (xs : List X) → AllByRecursion P xs → AllByRecursion P (drop p xs)
each_left P zero xs a = a
each_left P (suc p) [] a = a
each_left P (suc p) (y ∷ ys) a = each_left P p ys a.1

-- So many pipes of the side were read.
pub record PipesRead (w : Setting) (order : Order) (fetched : List ℕ) (noted : List Item) (direct : ℕ) (first : Names) (cells : ℕ) (source : SourceOver) (t : DecodingSeen) (m : Machine)
    (passed : ℕ) : Type 0 where
  pub octets : List ℕ
  pub items : List Item
  pub i : ℕ
  pub rs : List Root
  pub roots : List Tree
  pub k : Position
  pub is_at : i ≡ before_pipes (root_list w) + passed
  pub left : drop passed (drop (before_pipes (root_list w)) (root_list w)) ≡ rs
  pub few : passed ≤ length (drop (before_pipes (root_list w)) (root_list w))
  pub before : IsBefore w order (fetched ++ octets) (noted ++ items) direct first i rs roots k m
  pub took : Took source t cells octets items m.cells

-- what the loop keeps, at a line
abbrev pub PipesGoOn : Plan → ℕ → Side → Order → ℕ → Stream → SourceOver → DecodingSeen → Stream → ℕ → ℕ → Type 0
PipesGoOn plan n side order begin x source t y next number =
    (w : Setting) (legal : IsLegalSide w) (fetched : List ℕ) (noted : List Item) (direct : ℕ) (s : Reading) (seen : List EntryAt) → IsSettingOf plan n side w
    → Stands w legal order fetched noted direct x s seen [] 0 → TestsPass w order fetched noted direct (between_of x) s seen (parameter_tests w s)
    → (passed : ℕ) × (PipesRead w order fetched noted direct s.names (cells_of x) source t y.machine passed × ((next ≡ begin + passed) × (number ≡ length y.machine.builder.graph.roots)))

module _ (plan : Plan) (n : ℕ) (side : Side) (order : Order) (w : Setting) (legal : IsLegalSide w) (setting : IsSettingOf plan n side w) (fetched : List ℕ) (noted : List Item) (direct : ℕ)
    (x : Stream) (s : Reading) (seen : List EntryAt)
    (st : Stands w legal order fetched noted direct x s seen [] 0) (hold : TestsPass w order fetched noted direct (between_of x) s seen (parameter_tests w s)) where
  abbrev b0 : Between
  b0 = between_of x

  abbrev first : ℕ
  first = before_pipes (root_list w)

  abbrev side_pipes : List Root
  side_pipes = drop (before_pipes (root_list w)) (root_list w)

  all_octets : AreOctets (fetched ++ [])
  all_octets = subst AreOctets (sym (append-nil fetched)) st.agrees.octets

  roots_read : length s.roots ≡ before_pipes (root_list w)
  roots_read =
      let reading : IsReading w legal order (fetched ++ []) all_octets s (st.agrees.state [] all_octets).0 [] 0 = (st.agrees.state [] all_octets).1 in
      let left : length s.roots + 0 ≡ before_pipes (root_list w) = reading.roots_left in omega (arith, left)

  -- ## The beginning

  graph_now : closed x.machine.builder ≡ graph_of s.roots s.names
  graph_now = st.agrees.keeps.graph

  pub few_numbers : length x.machine.builder.graph.roots ≤ 513
  few_numbers =
      let a : length (closed x.machine.builder).roots ≡ length x.machine.builder.graph.roots = closed_roots x.machine.builder in
      let b : length (closed x.machine.builder).roots ≡ length s.roots = ap (λ (g : Graph). length g.roots) graph_now in
      let c : length s.roots + 0 ≤ 513 = roots_within w legal order fetched noted direct b0 s seen [] 0 st.agrees in
      omega (arith, a, b, c)

  -- the number of the first pipe's root
  pub first_number : length x.roots.items ≡ length x.machine.builder.graph.roots
  first_number =
      let a : length (closed x.machine.builder).roots ≡ length x.machine.builder.graph.roots = closed_roots x.machine.builder in
      let b : length (closed x.machine.builder).roots ≡ length s.roots = ap (λ (g : Graph). length g.roots) graph_now in
      let c : length x.roots.items ≡ length s.roots = roots_kept w legal order fetched noted direct b0 s seen [] 0 st.agrees in
      omega (arith, a, b, c)

  before_first : IsBefore w order fetched noted direct s.names first side_pipes s.roots (pipes_due b0 hold.after s.names) x.machine
  before_first =
      let paid : 4 * length b0.cells ≤ b0.at + 4 * length s.roots = paid_between w legal order fetched noted direct b0 s seen [] 0 st.agrees in
      let many : length s.roots + 0 ≤ 513 = roots_within w legal order fetched noted direct b0 s seen [] 0 st.agrees in
      let a : length (closed x.machine.builder).roots ≡ length x.machine.builder.graph.roots = closed_roots x.machine.builder in
      let b : length (closed x.machine.builder).roots ≡ length s.roots = ap (λ (g : Graph). length g.roots) graph_now in
      record {
        in_pipes = pipes_begin w legal order fetched noted direct b0 s hold.after st.agrees.octets hold.keeps roots_read st.agrees.needed
            (λ later all. parameters_pass w legal order fetched noted direct b0 s seen st.agrees hold.after hold.goes later all);
        few = few_now w legal order fetched noted direct b0 s seen [] 0 st.agrees;
        at = refl;
        cells = refl;
        numbers = refl;
        within = st.within;
        paid = omega (arith, paid, many);
        whole = st.whole;
        number = omega (arith, a, b, roots_read);
        roots_are = ap (λ (g : Graph). g.roots) graph_now;
        values = λ c. ap (λ (g : Graph). cell_at g c) graph_now;
      }

  pub none_read : (o : Option (List ℕ)) (ended : Bool) (faults : Count) (g : Logged) (steps : ℕ)
      → PipesRead w order fetched noted direct s.names (cells_of x) (idle_source o ended faults) (idle_log g steps) x.machine 0
  none_read o ended faults g steps = record {
    octets = [];
    items = [];
    i = first;
    rs = side_pipes;
    roots = s.roots;
    k = pipes_due b0 hold.after s.names;
    is_at = omega arith;
    left = refl;
    few = omega arith;
    before = subst (λ (f : List ℕ). IsBefore w order f (noted ++ []) direct s.names first side_pipes s.roots (pipes_due b0 hold.after s.names) x.machine) (sym (append-nil fetched))
        (subst (λ (j : List Item). IsBefore w order fetched j direct s.names first side_pipes s.roots (pipes_due b0 hold.after s.names) x.machine) (sym (append-nil noted)) before_first);
    took = subst (λ c. Took (idle_source o ended faults) (idle_log g steps) (cells_of x) [] [] c) (sym x.machine.numbered) (took_nothing o ended faults g steps (cells_of x));
  }

  -- ## The next pipe

  module _ (y : Stream) (a : SourceOver) (d : DecodingSeen) (passed : ℕ) (p : PipesRead w order fetched noted direct s.names (cells_of x) a d y.machine passed) where
    abbrev f0 : List ℕ
    f0 = fetched ++ p.octets

    abbrev n0 : List Item
    n0 = noted ++ p.items

    abbrev its_line : ℕ
    its_line = first_line plan n side w setting + passed

    -- the next pipe is that of the next line
    pub record IsNext (elem : ℕ) : Type 0 where
      pub r : Root
      pub rest : List Root
      pub of : TypeId
      pub split : p.rs ≡ r ∷ rest
      pub there : slice_get side_pipes passed ≡ Some r
      pub left : drop (passed + 1) side_pipes ≡ rest
      pub by_plan : IsPipeBy plan w r.of of elem

    by_line : (rs : List Root) → p.rs ≡ rs → (elem : ℕ) → IsPipeLine plan n side its_line elem → IsNext elem
    by_line [] e elem l =
        let many : length side_pipes ≤ passed = all_left passed side_pipes (p.left ∙ e) in
        let all : passed ≤ length side_pipes = p.few in
        let z : passed ≡ length side_pipes = omega (arith, many, all) in
        absurd (no_pipe_line plan n side w setting l.name l.at (ap (λ j. slice_get plan.entries (first_line plan n side w setting + j)) (sym z) ∙ l.entry))
    by_line (r ∷ rest) e elem l =
        let (there, left) = first_left passed side_pipes r rest (p.left ∙ e) in
        let each : AllByRecursion (IsPipeRoot w.table) (r ∷ rest) =
        subst (AllByRecursion (IsPipeRoot w.table)) (p.left ∙ e) (each_left (IsPipeRoot w.table) passed side_pipes (laid_out w legal).pipes) in
        let is : IsPipeRoot w.table r = each.0 in
        let h : HasLine plan n side w setting passed is.elem = pipe_line plan n side w setting passed r is.elem there is.type_is in
        let at : l.at ≡ h.at = same_place l.name h.name l.at h.at (same_Some _ _ (sym l.entry ∙ h.entry)) in
        record {
          r = r;
          rest = rest;
          of = is.elem;
          split = e;
          there = there;
          left = left;
          by_plan =
              record { table = setting.table; there = is.type_is; run_is = one_run plan.code h.at elem (place_at w.table is.elem.0) (subst (λ j. CallsPipe plan.code j elem) at l.calls) h.calls };
        }
      where
        same_place : (u v : List ℕ) (y z : ℕ) → line.Entry n side u y ≡ line.Entry n side v z → y ≡ z
        same_place u v y z e = cc

    pub next_is : (next elem : ℕ) → next ≡ its_line → IsPipeLine plan n side next elem → IsNext elem
    next_is next elem e l = by_line p.rs refl elem (subst (λ j. IsPipeLine plan n side j elem) e l)

    -- the line of a pipe that is left calls its run
    pub line_calls : (next : ℕ) → next ≡ its_line → (name : List ℕ) (at : ℕ) → slice_get plan.entries next ≡ Some (line.Entry n side name at) → (elem : ℕ) × CallsPipe plan.code at elem
    line_calls next e name at l = go p.rs refl
      where
        there : slice_get plan.entries its_line ≡ Some (line.Entry n side name at)
        there = ap (slice_get plan.entries) (sym e) ∙ l

        same_place : (u v : List ℕ) (y z : ℕ) → line.Entry n side u y ≡ line.Entry n side v z → y ≡ z
        same_place u v y z e = cc

        go : (rs : List Root) → p.rs ≡ rs → (elem : ℕ) × CallsPipe plan.code at elem
        go [] e =
            let many : length side_pipes ≤ passed = all_left passed side_pipes (p.left ∙ e) in
            let all : passed ≤ length side_pipes = p.few in
            let z : passed ≡ length side_pipes = omega (arith, many, all) in
            absurd (no_pipe_line plan n side w setting name at (ap (λ j. slice_get plan.entries (first_line plan n side w setting + j)) (sym z) ∙ there))
        go (r ∷ rest) e =
            let (here, left) = first_left passed side_pipes r rest (p.left ∙ e) in
            let each : AllByRecursion (IsPipeRoot w.table) (r ∷ rest) =
            subst (AllByRecursion (IsPipeRoot w.table)) (p.left ∙ e) (each_left (IsPipeRoot w.table) passed side_pipes (laid_out w legal).pipes) in
            let is : IsPipeRoot w.table r = each.0 in
            let h : HasLine plan n side w setting passed is.elem = pipe_line plan n side w setting passed r is.elem here is.type_is in
            let at_is : h.at ≡ at = same_place h.name name h.at at (same_Some _ _ (sym h.entry ∙ there)) in
            (place_at w.table is.elem.0, subst (λ j. CallsPipe plan.code j (place_at w.table is.elem.0)) at_is h.calls)

    -- ## The end

    -- no line more of the side: all its pipes were read
    none_by : (rs : List Root) → p.rs ≡ rs → ((name : List ℕ) (at : ℕ) → slice_get plan.entries its_line ≡ Some (line.Entry n side name at) → ⊥) → p.rs ≡ []
    none_by [] e none = e
    none_by (r ∷ rest) e none =
        let (there, left) = first_left passed side_pipes r rest (p.left ∙ e) in
        let each : AllByRecursion (IsPipeRoot w.table) (r ∷ rest) =
        subst (AllByRecursion (IsPipeRoot w.table)) (p.left ∙ e) (each_left (IsPipeRoot w.table) passed side_pipes (laid_out w legal).pipes) in
        let is : IsPipeRoot w.table r = each.0 in
        let h : HasLine plan n side w setting passed is.elem = pipe_line plan n side w setting passed r is.elem there is.type_is in
        absurd (none h.name h.at h.entry)

    pub side_done : (next : ℕ) → next ≡ its_line → ElementsRun plan n side next None → p.rs ≡ []
    side_done next e none = none_by p.rs refl (λ name at l. none name at (ap (slice_get plan.entries) e ∙ l))

    pub lines_done : (next : ℕ) → next ≡ its_line → length plan.entries ≤ next → p.rs ≡ []
    lines_done next e past = none_by p.rs refl (λ name at l. let here : its_line < length plan.entries = within plan.entries its_line _ l in omega (arith, here, e, past))

    abbrev cells_from : Names → List ℕ
    cells_from u = map (λ (c : Referent). c.of) u.cells

    pub stream_ends : p.rs ≡ [] → WasRead w order fetched noted (cells_of x) a d y
    stream_ends e =
        let last : InPipes w order f0 n0 direct s.names p.i [] p.roots p.k = subst (λ rs. InPipes w order f0 n0 direct s.names p.i rs p.roots p.k) e p.before.in_pipes in
        let (progress, graph) = pipes_end w order f0 n0 direct s.names p.i p.rs p.roots p.k last in
        let told = last.stands.told p.i (omega arith) in
        let names_are : p.k.names.cells ≡ s.names.cells = ap (λ (g : Graph). g.cells) (sym (last.reads [] tt).graph) ∙ last.stands.cells_stay [] tt in
        let types_are : map (λ (c : Referent). c.of) (closed y.machine.builder).cells ≡ cells_from s.names =
        closed_types y.machine.builder ∙ p.before.cells ∙ told.cells_are ∙ ap (map (λ (c : Referent). c.of)) names_are in
        let graph_is_built : closed y.machine.builder ≡ graph_of p.roots s.names =
        graph_is (closed y.machine.builder) p.roots s.names p.before.roots_are types_are (λ j. p.before.values (suc j)) in
        let reached : length f0 ≡ y.machine.at = last.stands.reached ∙ sym p.before.at in
        record {
          octets = p.octets;
          items = p.items;
          all = last.stands.octets;
          seen = p.k.seen;
          at = reached;
          progress = progress ∙ ap (λ j. going j p.k.seen) reached;
          graph = graph ∙ sym graph_is_built;
          noted_are = told.noted_are;
          whole = p.before.whole;
          took = subst (λ c. Took a d (cells_of x) p.octets p.items c) y.machine.numbered p.took;
        }

    -- ## The next pipe

    module _ (elem : ℕ) (q : IsNext elem) (number : ℕ) (number_is : number ≡ length y.machine.builder.graph.roots) where
      number_here : p.i ≡ number
      number_here = sym p.before.number ∙ sym number_is

      pub next_before : IsBefore w order f0 n0 direct s.names number (q.r ∷ q.rest) p.roots p.k y.machine
      next_before =
          subst (λ (j : ℕ). IsBefore w order f0 n0 direct s.names j (q.r ∷ q.rest) p.roots p.k y.machine) number_here
          (subst (λ (rs : List Root). IsBefore w order f0 n0 direct s.names p.i rs p.roots p.k y.machine) q.split p.before)

      pub pipe_due : IsAtPipe plan order number elem y.machine
      pipe_due = record {
        w = w;
        legal = legal;
        fetched = f0;
        noted = n0;
        direct = direct;
        first = s.names;
        r = q.r;
        rs = q.rest;
        roots = p.roots;
        k = p.k;
        elem = q.of;
        by_plan = q.by_plan;
        before = next_before;
      }

      pub number_few : number + 1 ≤ 513
      number_few =
          let there : slice_get (root_list w) (first + passed) ≡ Some q.r = sym (drop_at first (root_list w) passed) ∙ q.there in
          let l : first + passed < length (root_list w) = within (root_list w) (first + passed) q.r there in
          let is : p.i ≡ first + passed = p.is_at in
          let few : length (root_list w) ≤ 513 = roots_few w legal in
          omega (arith, l, is, few, number_here)

      module _ (z : Machine) (b e : SourceOver) (t u : DecodingSeen) (f : Follows a b e d t u) where
        abbrev Comes : Result (Unit {0}) DecodeFault → Type 0
        Comes result = PipeComes w order f0 n0 direct s.names number q.rest p.roots y.machine.cells b t z result

        pub next_fault : e.faults.before ≤ b.faults.before → e.faults.now ≡ b.faults.now → (v : DecodeFault) → Comes (Err v) → FaultOf the_stream w order fetched noted (cells_of x) e u v
        next_fault low same v c = then_fault w legal order fetched noted (cells_of x) a b e d t u f p.octets p.items y.machine.cells p.took the_stream low same v c

        pub next_read : (j : Unit {0}) → Comes (Ok j) → PipesRead w order fetched noted direct s.names (cells_of x) e u z (passed + 1) × (number + 1 ≡ length z.builder.graph.roots)
        next_read j c = (
          record {
            octets = p.octets ++ c.octets;
            items = p.items ++ c.items;
            i = number + 1;
            rs = q.rest;
            roots = p.roots ++ c.v ∷ [];
            k = c.k;
            is_at = let is : p.i ≡ first + passed = p.is_at in omega (arith, is, number_here);
            left = q.left;
            few = let l : passed < length side_pipes = within side_pipes passed q.r q.there in omega (arith, l);
            before = subst (λ (l : List ℕ). IsBefore w order l (noted ++ (p.items ++ c.items)) direct s.names (number + 1) q.rest (p.roots ++ c.v ∷ []) c.k z) (append_assoc fetched p.octets c.octets)
                (subst (λ (l : List Item). IsBefore w order (f0 ++ c.octets) l direct s.names (number + 1) q.rest (p.roots ++ c.v ∷ []) c.k z) (append_assoc noted p.items c.items) c.before);
            took = took_twice a b e d t u f (cells_of x) y.machine.cells z.cells p.octets c.octets p.items c.items p.took c.took;
          },
          sym c.before.number,
        )

  -- a fault comes
  pub ends_faulty : (source : SourceOver) (t : DecodingSeen) (y : Stream) (v : DecodeFault) → FaultOf the_stream w order fetched noted (cells_of x) source t v
      → (result : Result (Unit {0}) DecodeFault) → IsErrAnd result (λ e. e ≡ v)
      → EndComes w order fetched noted (cells_of x) source t y result
  ends_faulty source t y v f result is = subst (EndComes w order fetched noted (cells_of x) source t y) (faulty result v is) f
