-- A chunk that was read, and the intake after it.
-- `i` is the intake before, `o` its operation, `m` the machine that read the chunk, `s` the source over the call, `t` the log and the steps over it.
use Rattle.std.proofs.Common.{◌≡◌, ◌≤◌, ◌<◌, ◌-◌, ◌*◌, ℕ, ◌+◌, suc, Bool, List, [], ◌∷◌, ◌++◌, length, Option, Some, None, refl, ap, ap₂, sym, ◌∙◌, subst, arith}
use Rattle.std.specs.Io.KnownBytes.{Consumes}
use Rattle.std.specs.List.{slice_get}
use Rattle.nd_base.specs.declared.TheConstants.{STREAM_LIMIT}
use Rattle.nd_base.specs.Over.{Count, SourceOver}
use Rattle.nd_types.specs.declared.types.Operation.{Operation}
use Rattle.nd_value.specs.declared.value.Graph.{Graph}
use Rattle.nd_value.specs.declared.item.Home.{Home}
use Rattle.nd_value.specs.declared.item.Home.TheVariants as home
use Rattle.nd_value.specs.Logged.{Logged}
use Rattle.nd_value.specs.Setting.{Setting}
use Rattle.nd_value.specs.Tree as tree
use Rattle.nd_value.specs.Tree.{Referent, Tree, Trees, flat, items, more, node, node_count, none, trees, unflat-of}
use Rattle.nd_flat.specs.Building.{CanClose, CanCloseAt, HasNoUnread, closed, put}
use Rattle.nd_flat.specs.Forest.{first_tree, tree_in}
use Rattle.nd_grammar.specs.Items.{but_gaps}
use Rattle.ndr_decoder_state.specs.declared.machine.Machine.{Machine}
use Rattle.nd_grammar.specs.decoded.Verdict.{DecodingSeen, HasNoted}
use Rattle.ndr_decode.specs.Piping.{ElementsRun}
use Rattle.ndr_decode.proofs.Standing.{idle_log, idle_source}
use Rattle.ndr_drain_laws.specs.parts.Parts.{IsPart, Spot, after, part_items}
use Rattle.ndr_drain_laws.proofs.reader.Meeting.{gap_cut}
use Rattle.ndr_drain_reader.specs.Calls.{IsAnswered, IsChunkCut, left_after}
use Rattle.ndr_drain_reader.specs.Chunks.{HasElements, IsAtChunk, IsOpened, TakenWhole}
use Rattle.ndr_drain_reader.specs.Ready.{IsReady}
use Rattle.ndr_drain_reader.specs.Seen.{IntakeSeen, intake_seen, moved_to}
use Rattle.ndr_drain_reader.specs.declared.intake.Intake.{Intake}
use Rattle.ndr_drain_reader.proofs.Headers.{none_noted}
use Rattle.ndr_drain_reader.proofs.Places.{at_pipe, by_plan, its_elem, side_legal, w}
use Rattle.ndr_drain_reader.proofs.Taken.{cut_counted}
use Rattle.nd_grammar.proofs.agreements.EntriesTell.{flat_length as many_nodes}
use Rattle.nd_value.proofs.SameCells.{back as trees_items}

-- ## Elements that were built

module _ (elements : List Tree) (m : Machine) (h : HasElements elements m) where
  abbrev pipe : Tree
  pipe = node tree.Pipe (trees elements)

  whole_tree : tree_in m.builder.nodes ≡ pipe
  whole_tree = ap tree_in h.nodes ∙ ap first_tree (unflat-of (more pipe none))

  graph_is : closed m.builder ≡ record { roots = pipe ∷ []; cells = [] }
  graph_is =
      ap (λ (o : Option Home). put o (tree_in m.builder.nodes) m.builder.graph) h.open_home
      ∙ ap (λ (v : Tree). put (Some (home.Root 0)) v m.builder.graph) whole_tree
      ∙ ap₂ (λ (rs : List Tree) (cs : List Referent). put (Some (home.Root 0)) pipe (record { roots = rs; cells = cs })) h.roots h.cells

  pub can_close : CanClose m.builder
  can_close = subst (λ o. CanCloseAt o m.builder.nodes) (sym h.open_home) (h.nodes ∙ ap (λ t. flat (more t none)) (sym whole_tree))

  pub no_unread : HasNoUnread (closed m.builder)
  no_unread = subst HasNoUnread (sym graph_is) (record { roots = ((λ e. cc), tt); cells = tt })

  pub its_pipe : (kids : Trees) × ((closed m.builder).roots ≡ node tree.Pipe kids ∷ [])
  its_pipe = (trees elements, ap (λ (g : Graph). g.roots) graph_is)

  pub same_elements : (vs : List Tree) → (closed m.builder).roots ≡ node tree.Pipe (trees vs) ∷ [] → vs ≡ elements
  same_elements vs e =
      let same : node tree.Pipe (trees vs) ∷ [] ≡ node tree.Pipe (trees elements) ∷ [] = sym e ∙ ap (λ (g : Graph). g.roots) graph_is in
      let kids : trees vs ≡ trees elements = ap kids_of same in
      sym (trees_items vs) ∙ ap items kids ∙ trees_items elements
    where
      kids_of : List Tree → Trees
      kids_of [] = none
      kids_of (node l ks ∷ ts) = ks

  pub many : m.count ≡ 1 + node_count (trees elements)
  many =
      let a : length (flat (more pipe none)) ≡ node_count (more pipe none) = many_nodes (more pipe none) in
      let b : m.count ≡ length (flat (more pipe none)) = m.counted ∙ ap length h.nodes in
      omega (arith, a, b)

-- ## Before anything was read

consumes_none : (o : Option (List ℕ)) → Consumes o o []
consumes_none None = tt
consumes_none (Some os) = refl

module _ (i : Intake) (ready : IsReady i) (some : 0 < i.left) (o : Operation) (there : slice_get i.plan.now.tie.operations i.op ≡ Some o) where
  abbrev pub spot : Spot
  spot = (intake_seen i).spot

  abbrev its : Setting
  its = w i ready some o there

  pub nothing_read : (left : Option (List ℕ)) (ended : Bool) (faults : Count) (g : Logged) (steps : ℕ) → IsChunkCut its i.order spot (idle_source left ended faults) (idle_log g steps)
  nothing_read left ended faults g steps =
      cut_counted its i.order spot (idle_source left ended faults) (idle_log g steps) [] [] (gap_cut its (side_legal i ready some o there) i.order spot (at_pipe i ready some o there) [] tt)
      (consumes_none left)
      (none_noted (idle_log g steps) refl) (omega arith)

  abbrev pub at_chunk : (run : ℕ) → ElementsRun i.plan.now i.op i.side i.line (Some run) → (m : Machine) → IsOpened spot m → IsAtChunk i.plan.now run m
  at_chunk run is m opened = record {
    w = its;
    legal = side_legal i ready some o there;
    spot = spot;
    at_pipe = at_pipe i ready some o there;
    elem = its_elem i ready some o there;
    by_plan = by_plan i ready some o there run is;
    opened = opened;
  }

  -- ## After it was read

  module _ (s : SourceOver) (t : DecodingSeen) (m : Machine) (count : ℕ) (x : TakenWhole its i.order spot s t m count) where
    pub within_limit : m.at ≤ STREAM_LIMIT
    within_limit =
        let a : m.at ≡ i.at + length x.octets = x.at in
        let b : i.at + length x.octets ≤ STREAM_LIMIT = x.read.spelt.within in
        omega (arith, a, b)

    -- the pipe has ended
    module _ (no_more : count ≡ 0) where
      none_are : x.elements ≡ []
      none_are = empty x.elements (x.as_many ∙ no_more)
        where
          empty : (vs : List Tree) → length vs ≡ 0 → vs ≡ []
          empty [] e = refl
          empty (v ∷ vs) e = cc

      pub ended : (now : IntakeSeen) → now ≡ moved_to (record { place = m.at; root = i.root + 1; node = 1 }) (i.left - 1) (intake_seen i) → IsAnswered its s t (intake_seen i) now None
      ended now moved = record {
        octets = x.octets;
        left = x.left;
        read = subst (λ vs. IsPart its i.order spot (record { octets = x.octets; elements = vs })) none_are x.read;
        moved = moved ∙ ap (λ (z : ℕ). moved_to (record { place = z; root = i.root + 1; node = 1 }) (i.left - 1) (intake_seen i)) x.at;
        logged = λ before l. subst (λ vs. HasNoted (part_items its i.order (before ++ x.octets) spot vs) t) none_are (x.logged before l);
        stepped = λ before l. subst (λ vs. t.steps_now ≡ t.steps + length (but_gaps (part_items its i.order (before ++ x.octets) spot vs))) none_are (x.stepped before l);
        by_octets = x.by_octets;
      }

    -- elements were read
    module _ (k : ℕ) (is_more : count ≡ suc k) where
      some_are : 1 ≤ length x.elements
      some_are = let a = x.as_many in omega (arith, a, is_more)

      -- the spot after elements
      after_some : (vs : List Tree) → 1 ≤ length vs
          → after spot (record { octets = x.octets; elements = vs }) ≡ record { place = i.at + length x.octets; root = i.root; node = i.node + node_count (trees vs) }
      after_some [] l = absurd (omega (arith, l))
      after_some (v ∷ vs) l = refl

      left_some : (vs : List Tree) → 1 ≤ length vs → left_after i.left vs ≡ i.left
      left_some [] l = absurd (omega (arith, l))
      left_some (v ∷ vs) l = refl

      then_is : after spot (record { octets = x.octets; elements = x.elements }) ≡ record { place = i.at + length x.octets; root = i.root; node = i.node + node_count (trees x.elements) }
      then_is = after_some x.elements some_are

      nodes_are : m.count - 1 ≡ node_count (trees x.elements)
      nodes_are = let a : m.count ≡ 1 + node_count (trees x.elements) = many x.elements m x.built in omega (arith, a)

      pub few_after : i.node + (m.count - 1) ≤ 32 * m.at + 1
      few_after =
          let a : i.node + node_count (trees x.elements) ≤ 32 * (i.at + length x.octets) + 1 = subst (λ (z : Spot). z.node ≤ 32 * z.place + 1) then_is x.few_then in
          let b : m.at ≡ i.at + length x.octets = x.at in
          let c = nodes_are in
          omega (arith, a, b, c)

      pub answered : (vs : List Tree) → vs ≡ x.elements → (now : IntakeSeen) → now ≡ moved_to (record { place = m.at; root = i.root; node = i.node + (m.count - 1) }) i.left (intake_seen i)
          → IsAnswered its s t (intake_seen i) now (Some vs)
      answered vs same now moved =
          subst (λ us. IsAnswered its s t (intake_seen i) now (Some us)) (sym same) (
            record {
              octets = x.octets;
              left = x.left;
              read = x.read;
              moved = moved ∙ ap₂ (λ (z n : ℕ). moved_to (record { place = z; root = i.root; node = i.node + n }) i.left (intake_seen i)) x.at nodes_are
                  ∙ ap₂ (λ (z : Spot) (n : ℕ). moved_to z n (intake_seen i)) (sym then_is) (sym (left_some x.elements some_are));
              logged = x.logged;
              stepped = x.stepped;
              by_octets = x.by_octets;
            },
            some_are,
          )
