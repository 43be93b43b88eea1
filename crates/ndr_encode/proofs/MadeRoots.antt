-- The roots of a side that are no pipes, as a search goes over them.
-- `p` is a plan, `f` a fit, `k` the greatest count of a chunk, `h` the stream of the fit, `s` what is known so far, `i` the number of the next root.
use Rattle.std.proofs.Common.{◌≡◌, ℕ, ◌+◌, ◌^◌, ◌<◌, ◌≤◌, suc, List, [], ◌∷◌, length, Option, Some, refl, ap, sym, ◌∙◌, subst, arith}
use Rattle.std.specs.List.{slice_get}
use Rattle.std.proofs.lemmas.Option.{same_Some, slice_get_past}
use Rattle.nd_types.specs.declared.types.Class.TheVariants.{Ref}
use Rattle.nd_types.specs.declared.types.Operation.{Operation}
use Rattle.nd_types.specs.declared.types.Side.{Side}
use Rattle.nd_types.specs.declared.types.TypeDef.{TypeDef}
use Rattle.nd_types.specs.declared.types.TypeDef.TheVariants as def
use Rattle.nd_types.specs.Table.{Table, type_at}
use Rattle.nd_value.specs.Deferral.{before_pipes, root_type}
use Rattle.nd_value.specs.Fitting.{Fitting}
use Rattle.nd_value.specs.Setting.{root_list}
use Rattle.nd_value.proofs.FewRoots.{few_before_pipes}
use Rattle.ndr_code.specs.declared.lists.PlanLine.TheVariants as line
use Rattle.ndr_code.specs.declared.plan.Plan.{Plan}
use Rattle.ndr_code.specs.Code.{root_by as instr_by, line_at}
use Rattle.ndr_encoder_laws.specs.turns.Turned.{Item}
use Rattle.ndr_encoder_laws.specs.turns.Roots.{root_item, root_items}
use Rattle.ndr_encode.specs.declared.search.Search.{Search}
use Rattle.ndr_encode.specs.Search.{IsSearched, CanSearch, StillSearched, root_by, CanRoot, RootTaken}
use Rattle.ndr_encode.specs.Making.{stream_of, HasStream, BeginsRoots, RootsTaken}
use Rattle.ndr_encode.specs.Work.{setting}
use Rattle.ndr_encode.proofs.MadeLines.{HasNextRoot, line_there, next_root, none_are_left}

-- the first instruction of a root's run says which item it is
item_of : (table : Table) (i t : ℕ) (d : Option TypeDef) → root_by i (Some (instr_by table t d)) ≡ root_item table i t d ∷ []
item_of table i t (Some (def.Pointer Ref to)) = refl
item_of table i t _ = refl

-- one operation has one stream
pub same_operation : (f : Fitting) (o q : Operation) → slice_get f.interface.operations f.op ≡ Some o → slice_get f.interface.operations f.op ≡ Some q → o ≡ q
same_operation f o q a b = same_Some o q (sym a ∙ b)

-- there are as many roots as the graph has
pub as_many : (p : Plan) (k : ℕ) (f : Fitting) (h : HasStream p k f) → length f.graph.roots ≡ length (root_list (setting f h.operation))
as_many p k f h =
    h.fit.conforms.all_roots ∙ ap (λ o. length (root_list (setting f o))) (same_operation f h.fit.operation h.operation h.fit.is_there h.is_there)

-- So many roots are left, from the i-th on, and nothing is pending.
pub record RootsLeft (p : Plan) (k : ℕ) (f : Fitting) (i : ℕ) (s : Search) (h : HasStream p k f) : Type 0 where
  pub left : ℕ
  pub all : i + left ≡ before_pipes (root_list (setting f h.operation))
  pub searched : IsSearched p.code k f.graph (stream_of f h.operation h.steps) (root_items (setting f h.operation) i left) s
  pub pending : s.count.names.items ≡ []

abbrev pub RootsSoFar : Plan → ℕ → Fitting → Search → ℕ → Search → Type 0
RootsSoFar p k f old i s =
    (h : HasStream p k f) → old.count.names.items ≡ []
    → IsSearched p.code k f.graph (stream_of f h.operation h.steps) (root_items (setting f h.operation) 0 (before_pipes (root_list (setting f h.operation)))) old
    → RootsLeft p k f i s h

-- at the beginning
pub roots_begin : (p : Plan) (k : ℕ) (f : Fitting) (s : Search) → RootsSoFar p k f s 0 s
roots_begin p k f s h none searched = record { left = before_pipes (root_list (setting f h.operation)); all = omega arith; searched = searched; pending = none }

module _ (p : Plan) (k : ℕ) (f : Fitting) (tied : p.tie ≡ f.interface) (first : ℕ) (old : Search) (b : BeginsRoots p k f first old) where
  -- the first line, for each stream
  first_is : (h : HasStream p k f) → first ≡ line_at f.interface.types f.interface.operations f.op h.operation f.side
  first_is h =
      b.line_is ∙ ap (λ o. line_at f.interface.types f.interface.operations f.op o f.side) (same_operation f b.stream.operation h.operation b.stream.is_there h.is_there)

  module _ (i number : ℕ) (s : Search) (so_far : RootsSoFar p k f old i s) (here : number ≡ first + i) where
    -- what is left for the stream that is there
    abbrev known : RootsLeft p k f i s b.stream
    known = so_far b.stream b.pending b.searched

    its_line : (h : HasStream p k f) → number ≡ line_at f.interface.types f.interface.operations f.op h.operation f.side + i
    its_line h = here ∙ ap (λ n. n + i) (first_is h)

    -- the lines do not end here
    pub more_lines : length p.entries ≤ number → ⊥
    more_lines past =
        line_there p f tied b.stream.operation b.stream.is_there i number (its_line b.stream) known.left known.all (slice_get_past p.entries number past)

    -- ## A line of a root

    module _ (m : ℕ) (side : Side) (name : List ℕ) (at : ℕ) (is : slice_get p.entries number ≡ Some (line.Entry m side name at)) where
      root_here : (h : HasStream p k f) (l : RootsLeft p k f i s h) → HasNextRoot p f h.operation i l.left at
      root_here h l = next_root p f tied h.operation h.is_there i number (its_line h) l.left l.all m side name at is

      abbrev item : (h : HasStream p k f) → RootsLeft p k f i s h → Item
      item h l = root_item f.interface.types i (root_here h l).r.of (type_at f.interface.types (root_here h l).r.of)

      item_is : (h : HasStream p k f) (l : RootsLeft p k f i s h) → root_by i (slice_get p.code at) ≡ item h l ∷ []
      item_is h l =
          let n : HasNextRoot p f h.operation i l.left at = root_here h l in
          ap (root_by i) n.instr ∙ item_of f.interface.types i n.r.of (type_at f.interface.types n.r.of)

      items_are : (h : HasStream p k f) (l : RootsLeft p k f i s h)
          → root_items (setting f h.operation) i l.left ≡ item h l ∷ root_items (setting f h.operation) (suc i) (root_here h l).others
      items_are h l =
          let n : HasNextRoot p f h.operation i l.left at = root_here h l in
          ap (root_items (setting f h.operation) i) n.left
          ∙ ap (λ q. root_item f.interface.types i (root_type q) (type_at f.interface.types (root_type q)) ∷ root_items (setting f h.operation) (suc i) n.others) n.there

      searched_here : (h : HasStream p k f) (l : RootsLeft p k f i s h)
          → IsSearched p.code k f.graph (stream_of f h.operation h.steps) (item h l ∷ root_items (setting f h.operation) (suc i) (root_here h l).others) s
      searched_here h l = subst (λ items. IsSearched p.code k f.graph (stream_of f h.operation h.steps) items s) (items_are h l) l.searched

      -- the root can take its turn
      pub can_root : CanRoot p.code k f.graph i (slice_get p.code at) s
      can_root = record {
        stream = stream_of f b.stream.operation b.stream.steps;
        due = root_items (setting f b.stream.operation) (suc i) (root_here b.stream known).others;
        item = item b.stream known;
        is_item = item_is b.stream known;
        searchable = b.stream.searchable;
        searched = searched_here b.stream known;
        pending = known.pending;
      }

      -- its number is below the limit
      pub few_roots : i + 1 < 2 ^ 32
      few_roots =
          let n : HasNextRoot p f b.stream.operation i known.left at = root_here b.stream known in
          let l = n.left in
          let a = known.all in
          let c = few_before_pipes (root_list (setting f b.stream.operation)) in
          let d = as_many p k f b.stream in
          let e = b.stream.searchable.few_roots in
          omega (arith, l, a, c, d, e)

      -- it took it
      module _ (mid : Search) (taken : RootTaken p.code k f.graph i (slice_get p.code at) s mid) where
        searched_mid : (h : HasStream p k f) (l : RootsLeft p k f i s h)
            → IsSearched p.code k f.graph (stream_of f h.operation h.steps) (root_items (setting f h.operation) (suc i) (root_here h l).others) mid
        searched_mid h l =
            taken (stream_of f h.operation h.steps) (root_items (setting f h.operation) (suc i) (root_here h l).others) (item h l) (item_is h l) h.searchable l.pending
            (searched_here h l)

        pub can_search : CanSearch p.code k f.graph mid
        can_search =
            (stream_of f b.stream.operation b.stream.steps, root_items (setting f b.stream.operation) (suc i) (root_here b.stream known).others, b.stream.searchable, searched_mid b.stream known)

        -- and the referents after it
        pub root_went : (new : Search) → StillSearched p.code k f.graph mid new → new.count.names.items ≡ [] → RootsSoFar p k f old (i + 1) new
        root_went new still over h none searched =
            let l : RootsLeft p k f i s h = so_far h none searched in
            let n : HasNextRoot p f h.operation i l.left at = root_here h l in
            let q = n.left in
            let a = l.all in
            let next : suc i ≡ i + 1 = omega arith in
            record {
              left = n.others;
              all = omega (arith, q, a);
              searched =
                  subst (λ j. IsSearched p.code k f.graph (stream_of f h.operation h.steps) (root_items (setting f h.operation) j n.others) new) next
                  (still (stream_of f h.operation h.steps) (root_items (setting f h.operation) (suc i) n.others) h.searchable (searched_mid h l));
              pending = over;
            }

    -- ## The line of the agreements

    module _ (m : ℕ) (side : Side) (at : ℕ) (is : slice_get p.entries number ≡ Some (line.Checks m side at)) where
      none_here : (h : HasStream p k f) (l : RootsLeft p k f i s h) → l.left ≡ 0
      none_here h l = none_are_left p f tied h.operation h.is_there i number (its_line h) l.left l.all m side at is

      -- all roots took their turns
      pub roots_taken : RootsTaken p k f old s
      roots_taken h none searched =
          let l : RootsLeft p k f i s h = so_far h none searched in
          (subst (λ n. IsSearched p.code k f.graph (stream_of f h.operation h.steps) (root_items (setting f h.operation) i n) s) (none_here h l) l.searched, l.pending)

      pub roots_counted : (o : Operation) → slice_get f.interface.operations f.op ≡ Some o → i ≡ before_pipes (root_list (setting f o))
      roots_counted o there =
          let e = none_here b.stream known in
          let a = known.all in
          let n : i ≡ before_pipes (root_list (setting f b.stream.operation)) = omega (arith, e, a) in
          n ∙ ap (λ q. before_pipes (root_list (setting f q))) (same_operation f b.stream.operation o b.stream.is_there there)
