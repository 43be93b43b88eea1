-- The loop over the chunks of a pipe.
-- `m` is the machine before the pipe, `n` the one so far, `z` the one after the next chunk; `a` and `s` are what was seen so far, `b` and `t` over the next
-- chunk, `e` and `u` over both.
use Rattle.std.proofs.Common.{◌≡◌, ◌≤◌, ℕ, ◌+◌, zero, suc, Bool, List, [], ◌∷◌, ◌++◌, length, Option, None, Result, Ok, Err, IsErrAnd, refl, ap, sym, ◌∙◌, subst, arith, append_assoc}
use Rattle.std.proofs.lemmas.List.{append-nil}
use Rattle.nd_base.specs.declared.octets.Order.{Order}
use Rattle.nd_base.specs.Over.{Count, SourceOver}
use Rattle.nd_types.specs.declared.types.TypeId.{TypeId}
use Rattle.nd_types.specs.Roots.{Root}
use Rattle.nd_value.specs.declared.item.Home.TheVariants as home
use Rattle.nd_value.specs.declared.item.Item.{Item}
use Rattle.nd_value.specs.Logged.{Logged}
use Rattle.nd_value.specs.Setting.{Setting}
use Rattle.nd_value.specs.Tree as tree
use Rattle.nd_value.specs.Tree.{Tree, none}
use Rattle.nd_flat.specs.Building.{closed, opened, with_nodes, with_root}
use Rattle.nd_grammar.specs.LegalSide.{IsLegalSide}
use Rattle.nd_grammar.specs.Reader.{Names}
use Rattle.ndr_code.specs.declared.plan.Plan.{Plan}
use Rattle.ndr_decoder_state.specs.declared.fault.DecodeFault.{DecodeFault}
use Rattle.ndr_decoder_state.specs.declared.fault.DecodeFault.TheVariants as fault
use Rattle.ndr_decoder_state.specs.declared.machine.Machine.{Machine}
use Rattle.nd_grammar.specs.decoded.Verdict.{DecodingSeen}
use Rattle.ndr_decoder_laws.specs.stream.Calls.{Follows, Took}
use Rattle.ndr_decoder_laws.specs.stream.Report.{StreamCut, the_stream}
use Rattle.ndr_decoder_laws.proofs.stream.Joined.{took_twice}
use Rattle.ndr_decoder_laws.specs.pipes.Pipes.{Position}
use Rattle.ndr_decoder_laws.proofs.pipes.PipesBegin.{pipes_add}
use Rattle.ndr_decode.specs.Piping.{ChunkComes, ElementsRead, IsAtChunk, IsAtPipe, IsBefore, IsInPipe, IsPipeBy, PipeComes, PipeRead}
use Rattle.ndr_decode.specs.Streaming.{FaultOf}
use Rattle.ndr_decode.proofs.PipeOpens.{cells_many, opened_cells, pipe_opened}
use Rattle.ndr_decode.proofs.PipeFaults.{cut_after, cut_at}
use Rattle.ndr_decoder_stream.proofs.Counting.{faulty}
use Rattle.ndr_decode.proofs.Standing.{idle_log, idle_source, then_fault, took_nothing}

-- Of the pipe that came next so many elements were read.
abbrev pub PipeGoesOn : Plan → Order → ℕ → ℕ → ℕ → Machine → SourceOver → DecodingSeen → Machine → Type 0
PipeGoesOn plan order i run so_far m source t n =
    (w : Setting) → IsLegalSide w → (fetched : List ℕ) (noted : List Item) (direct : ℕ) (first : Names) (r : Root) (rs : List Root) (roots : List Tree) (k : Position) (elem : TypeId)
    → IsPipeBy plan w r.of elem run → IsBefore w order fetched noted direct first i (r ∷ rs) roots k m
    → ElementsRead w order fetched noted direct first i rs roots elem m.cells source t n so_far

-- so the next chunk is due
pub chunk_due : (plan : Plan) (order : Order) (i run so_far : ℕ) (m n : Machine) (source : SourceOver) (t : DecodingSeen) → IsAtPipe plan order i run m
    → PipeGoesOn plan order i run so_far m source t n → IsAtChunk plan order i run so_far n
chunk_due plan order i run so_far m n source t x goes =
    let e = goes x.w x.legal x.fetched x.noted x.direct x.first x.r x.rs x.roots x.k x.elem x.by_plan x.before in
    record {
      w = x.w;
      legal = x.legal;
      fetched = x.fetched ++ e.octets;
      noted = x.noted ++ e.items;
      direct = x.direct;
      first = x.first;
      r = x.r;
      rs = x.rs;
      roots = x.roots;
      elem = x.elem;
      done = e.done;
      k = e.k;
      by_plan = x.by_plan;
      as_many = e.as_many;
      in_pipe = e.in_pipe;
    }

module _ (plan : Plan) (w : Setting) (legal : IsLegalSide w) (order : Order) (fetched : List ℕ) (noted : List Item) (direct : ℕ) (first : Names) (i : ℕ) (r : Root) (rs : List Root)
    (roots : List Tree) (k : Position) (elem : TypeId) (run : ℕ)
    (of_plan : IsPipeBy plan w r.of elem run) (m : Machine) (p : IsBefore w order fetched noted direct first i (r ∷ rs) roots k m) where
  -- ## The beginning

  -- memory fails before it
  pub pipe_memory : (o : Option (List ℕ)) (ended : Bool) (faults : Count) (g : Logged) (steps : ℕ)
      → FaultOf the_stream w order fetched noted m.cells (idle_source o ended faults) (idle_log g steps) fault.Memory
  pipe_memory o ended faults g steps =
      let many : length k.cells ≡ m.cells = ap length (sym p.cells) ∙ sym (cells_many m) in
      let told = p.in_pipes.stands.told i (omega arith) in
      let cut : StreamCut the_stream w order fetched noted m.cells =
      subst (StreamCut the_stream w order fetched noted) many
      (cut_at w order fetched noted direct (home.Root i) k.seen k.names k.cells k.numbers _ _ _ k.at p.in_pipes.stands.octets p.few told
      (λ later all. pipes_add w order fetched noted direct first i (r ∷ rs) roots k p.in_pipes later all)) in
      cut_after w order fetched noted m.cells m.cells (idle_source o ended faults) (idle_log g steps) [] [] (took_nothing o ended faults g steps m.cells)
      (subst (λ (f : List ℕ). StreamCut the_stream w order f (noted ++ []) m.cells) (sym (append-nil fetched))
      (subst (λ (j : List Item). StreamCut the_stream w order fetched j m.cells) (sym (append-nil noted)) cut))

  pub pipe_begun : (n : Machine) → n.builder ≡ with_nodes ((tree.Pipe, 0) ∷ []) (opened (home.Root i) (with_root (closed m.builder)) m.builder) → n.home ≡ home.Root i → n.at ≡ m.at → n.max_at ≡ None
      → n.referents ≡ m.referents → (o : Option (List ℕ)) (ended : Bool) (faults : Count) (g : Logged) (steps : ℕ)
      → ElementsRead w order fetched noted direct first i rs roots elem m.cells (idle_source o ended faults) (idle_log g steps) n 0
  pipe_begun n built at_home at max_at referents o ended faults g steps =
      let is : IsInPipe w order fetched noted direct first i rs roots elem none k n =
      pipe_opened w order fetched noted direct first i rs roots elem r k of_plan.there m n p built at_home at max_at referents in
      let many : n.cells ≡ m.cells = opened_cells w order fetched noted direct first i rs roots elem r k of_plan.there m n p built at_home at max_at referents in
      record {
        octets = [];
        items = [];
        done = none;
        k = k;
        in_pipe = subst (λ (f : List ℕ). IsInPipe w order f (noted ++ []) direct first i rs roots elem none k n) (sym (append-nil fetched))
            (subst (λ (j : List Item). IsInPipe w order fetched j direct first i rs roots elem none k n) (sym (append-nil noted)) is);
        as_many = refl;
        took = subst (λ c. Took (idle_source o ended faults) (idle_log g steps) m.cells [] [] c) (sym many) (took_nothing o ended faults g steps m.cells);
      }

  -- ## A turn

  module _ (n : Machine) (a : SourceOver) (s : DecodingSeen) (so_far : ℕ) (x : ElementsRead w order fetched noted direct first i rs roots elem m.cells a s n so_far) where
    module _ (z : Machine) (b e : SourceOver) (t u : DecodingSeen) (f : Follows a b e s t u) where
      abbrev Comes : Result ℕ DecodeFault → Type 0
      Comes result = ChunkComes w order (fetched ++ x.octets) (noted ++ x.items) direct first i rs roots elem so_far n.cells b t z result

      pub turn_fault : e.faults.before ≤ b.faults.before → e.faults.now ≡ b.faults.now → (d : DecodeFault) → Comes (Err d) → FaultOf the_stream w order fetched noted m.cells e u d
      turn_fault low same d y = then_fault w legal order fetched noted m.cells a b e s t u f x.octets x.items n.cells x.took the_stream low same d y

      -- the pipe has ended
      pub turn_ends : (count : ℕ) → count ≡ 0 → Comes (Ok count) → PipeRead w order fetched noted direct first i rs roots m.cells e u z
      turn_ends count none_more y0 =
          let y : PipeRead w order (fetched ++ x.octets) (noted ++ x.items) direct first i rs roots n.cells b t z = subst (λ j. Comes (Ok j)) none_more y0 in
          record {
            octets = x.octets ++ y.octets;
            items = x.items ++ y.items;
            v = y.v;
            k = y.k;
            before = subst (λ (l : List ℕ). IsBefore w order l (noted ++ (x.items ++ y.items)) direct first (i + 1) rs (roots ++ y.v ∷ []) y.k z) (append_assoc fetched x.octets y.octets)
                (subst (λ (l : List Item). IsBefore w order ((fetched ++ x.octets) ++ y.octets) l direct first (i + 1) rs (roots ++ y.v ∷ []) y.k z) (append_assoc noted x.items y.items) y.before);
            took = took_twice a b e s t u f m.cells n.cells z.cells x.octets y.octets x.items y.items x.took y.took;
          }

      -- there are more
      pub turn_goes_on : (count : ℕ) → (count ≡ 0 → ⊥) → Comes (Ok count) → ElementsRead w order fetched noted direct first i rs roots elem m.cells e u z (so_far + count)
      turn_goes_on zero some y = absurd (some refl)
      turn_goes_on (suc c) some y = record {
        octets = x.octets ++ y.octets;
        items = x.items ++ y.items;
        done = y.done;
        k = y.k;
        in_pipe = subst (λ (l : List ℕ). IsInPipe w order l (noted ++ (x.items ++ y.items)) direct first i rs roots elem y.done y.k z) (append_assoc fetched x.octets y.octets)
            (subst (λ (l : List Item). IsInPipe w order ((fetched ++ x.octets) ++ y.octets) l direct first i rs roots elem y.done y.k z) (append_assoc noted x.items y.items) y.in_pipe);
        as_many = y.as_many;
        took = took_twice a b e s t u f m.cells n.cells z.cells x.octets y.octets x.items y.items x.took y.took;
      }

  -- a fault comes
  pub pipe_faulty : (source : SourceOver) (t : DecodingSeen) (z : Machine) (d : DecodeFault) → FaultOf the_stream w order fetched noted m.cells source t d → (result : Result (Unit {0}) DecodeFault)
      → IsErrAnd result (λ y. y ≡ d)
      → PipeComes w order fetched noted direct first i rs roots m.cells source t z result
  pipe_faulty source t z d f result is = subst (PipeComes w order fetched noted direct first i rs roots m.cells source t z) (faulty result d is) f
