-- The roots of a side, one after the other.
-- `k` are the octets with the partial graph in which they are refused, `u` and `v` are walks before and after a call, `i` is the index of a root, `r` a
-- root, `rs` are roots, `vs` their values, `cut` and `cuts` are the counts of the chunks of pipes.
use Rattle.std.proofs.Common.{◌≡◌, ◌⊎◌, inl, inr, ◌∙◌, ℕ, zero, suc, ◌+◌, ◌-◌, ◌<◌, ◌≤◌, Bool, true, false, not, cond, List, [], ◌∷◌, ◌++◌, drop, filter, length, Option, Some, None, refl, sym, ap}
use Rattle.std.proofs.Common.{ap₂, subst, arith, flat_map}
use Rattle.std.specs.List.{AllByRecursion, slice_get}
use Rattle.std.proofs.lemmas.Grind.{flat_map-append}
use Rattle.std.proofs.lemmas.Option.{same_Some, slice_get-get_or, slice_get_within}
use Rattle.nd_lemmas.proofs.Lists.{drop_past}
use Rattle.nd_types.specs.declared.types.Side.{Side}
use Rattle.nd_types.specs.declared.types.Side.TheVariants as side
use Rattle.nd_types.specs.declared.types.TypeId.{TypeId}
use Rattle.nd_types.specs.declared.walk.RootDef.{RootDef}
use Rattle.nd_types.specs.Roots.{Root, params_from, result_root, roots_of}
use Rattle.nd_types.specs.Table.{type_at}
use Rattle.nd_value.specs.declared.item.Home.TheVariants as home
use Rattle.nd_value.specs.Deferral.{Placed_cells, Step, before_pipes, due_root, due_roots}
use Rattle.nd_value.specs.Setting.{Setting, or_unread, root_at, root_list, unread}
use Rattle.nd_value.specs.Tree.{count}
use Rattle.nd_value.proofs.Apart.{all_append}
use Rattle.nd_value.proofs.FewRoots.{few_before_pipes}
use Rattle.nd_grammar.specs.Entry.{Entry}
use Rattle.nd_grammar.specs.Stream.{AllCut, Cuts, kids_of, pipe_entries, pipes_entries, step_entries}
use Rattle.ndr_trace_value.specs.Untested.{untested}
use Rattle.ndr_trace_value.proofs.Untested.{untested_append}
use Rattle.ndr_trace_value.specs.declared.nodes.Walker.{Walker}
use Rattle.ndr_trace.specs.Homes.{IsAwaiting, IsDeferring, IsPart, IsRoot, step_names}
use Rattle.ndr_trace_value.specs.Naming.{IsNaming, named_by, names_in}
use Rattle.ndr_trace.specs.Sides.{IsAtPipes, IsAtRoot, IsBeforePipes, pipes_due}
use Rattle.ndr_trace_value.specs.Tracing.{IsTracing, Known}
use Rattle.ndr_trace.proofs.Deferring.{inverted}
use Rattle.ndr_trace.proofs.Referents.{none_left}

-- ## Pipes come last

kept : (f : Root → Bool) (rs : List Root) → AllByRecursion (λ r. f r ≡ true) (filter f rs)
kept f [] = tt
kept f (r ∷ rs) = go (f r) refl (kept f rs)
  where
    go : (b : Bool) → f r ≡ b → AllByRecursion (λ q. f q ≡ true) (filter f rs) → AllByRecursion (λ q. f q ≡ true) (cond b (r ∷ filter f rs) (filter f rs))
    go true e a = (e, a)
    go false e a = a

no_result : (s : Side) (t : Option TypeId) → AllByRecursion (λ r. not r.is_pipe ≡ true) (result_root s t)
no_result side.Out (Some t) = (refl, tt)
no_result side.Out None = tt
no_result side.In (Some t) = tt
no_result side.In None = tt

-- a root is a pipe exactly if it does not come before the pipes
parted : (xs ys : List Root) → AllByRecursion (λ r. not r.is_pipe ≡ true) xs → AllByRecursion (λ r. r.is_pipe ≡ true) ys → (i : ℕ) (r : Root) → slice_get (xs ++ ys) i ≡ Some r
    → ((r.is_pipe ≡ false) × (i < before_pipes (xs ++ ys))) ⊎ ((r.is_pipe ≡ true) × (before_pipes (xs ++ ys) ≤ i))
parted [] [] a b i r e = cc
parted [] (y ∷ ys) a b i r e = inr (its_pipe (y ∷ ys) b i e, none_before y.is_pipe b.0)
  where
    its_pipe : (zs : List Root) → AllByRecursion (λ q. q.is_pipe ≡ true) zs → (i : ℕ) → slice_get zs i ≡ Some r → r.is_pipe ≡ true
    its_pipe [] c i f = cc
    its_pipe (z ∷ zs) c zero f = ap (λ (q : Root). q.is_pipe) (sym (same_Some _ _ f)) ∙ c.0
    its_pipe (z ∷ zs) c (suc i) f = its_pipe zs c.1 i f

    none_before : (q : Bool) → q ≡ true → elim q [ true ↦ 0 | false ↦ suc (before_pipes ys) ] ≤ i
    none_before true f = omega arith
    none_before false f = cc
parted (x ∷ xs) ys a b i r e = go x.is_pipe refl i e (λ j f. parted xs ys a.1 b j r f)
  where
    more_before : (q : Bool) → q ≡ false → elim q [ true ↦ 0 | false ↦ suc (before_pipes (xs ++ ys)) ] ≡ suc (before_pipes (xs ++ ys))
    more_before true f = cc
    more_before false f = refl

    go : (q : Bool) → x.is_pipe ≡ q → (i : ℕ) → slice_get (x ∷ (xs ++ ys)) i ≡ Some r
        → ((j : ℕ) → slice_get (xs ++ ys) j ≡ Some r → ((r.is_pipe ≡ false) × (j < before_pipes (xs ++ ys))) ⊎ ((r.is_pipe ≡ true) × (before_pipes (xs ++ ys) ≤ j)))
        → ((r.is_pipe ≡ false) × (i < before_pipes (x ∷ (xs ++ ys)))) ⊎ ((r.is_pipe ≡ true) × (before_pipes (x ∷ (xs ++ ys)) ≤ i))
    go true q i f later = let z = a.0 in let y : not true ≡ true = ap not (sym q) ∙ z in cc
    go false q zero f later =
        let n : before_pipes (x ∷ (xs ++ ys)) ≡ suc (before_pipes (xs ++ ys)) = more_before x.is_pipe q in
        inl (ap (λ (s : Root). s.is_pipe) (sym (same_Some _ _ f)) ∙ q, omega (arith, n))
    go false q (suc i) f later = step (later i f)
      where
        step : ((r.is_pipe ≡ false) × (i < before_pipes (xs ++ ys))) ⊎ ((r.is_pipe ≡ true) × (before_pipes (xs ++ ys) ≤ i))
            → ((r.is_pipe ≡ false) × (suc i < before_pipes (x ∷ (xs ++ ys)))) ⊎ ((r.is_pipe ≡ true) × (before_pipes (x ∷ (xs ++ ys)) ≤ suc i))
        step (inl (g, l)) = let n : before_pipes (x ∷ (xs ++ ys)) ≡ suc (before_pipes (xs ++ ys)) = more_before x.is_pipe q in inl (g, omega (arith, n, l))
        step (inr (g, l)) = let n : before_pipes (x ∷ (xs ++ ys)) ≡ suc (before_pipes (xs ++ ys)) = more_before x.is_pipe q in inr (g, omega (arith, n, l))

roots_parted : (w : Setting) → root_list w
    ≡ (filter (λ r. not r.is_pipe) (params_from w.table w.side 0 w.op.params) ++ result_root w.side w.op.result) ++ filter (λ r. r.is_pipe) (params_from w.table w.side 0 w.op.params)
unfolding roots_of
roots_parted w = refl

pub pipe_or_not : (w : Setting) (i : ℕ) (r : Root) → slice_get (root_list w) i ≡ Some r
    → ((r.is_pipe ≡ false) × (i < before_pipes (root_list w))) ⊎ ((r.is_pipe ≡ true) × (before_pipes (root_list w) ≤ i))
pipe_or_not w i r e =
    let ps = params_from w.table w.side 0 w.op.params in
    let xs = filter (λ (q : Root). not q.is_pipe) ps ++ result_root w.side w.op.result in
    let ys = filter (λ (q : Root). q.is_pipe) ps in
    let p = roots_parted w in
    subst (λ rs. ((r.is_pipe ≡ false) × (i < before_pipes rs)) ⊎ ((r.is_pipe ≡ true) × (before_pipes rs ≤ i))) (sym p)
    (parted xs ys (all_append (λ (q : Root). not q.is_pipe ≡ true) _ _ (kept (λ (q : Root). not q.is_pipe) ps) (no_result w.side w.op.result)) (kept (λ (q : Root). q.is_pipe) ps) i r
    (ap (λ rs. slice_get rs i) (sym p) ∙ e))

-- ## One root

drop_at : {X : Type 0} (xs : List X) (i : ℕ) (x : X) → slice_get xs i ≡ Some x → drop i xs ≡ x ∷ drop (i + 1) xs
drop_at [] i x e = cc
drop_at (y ∷ ys) zero x e = ap (λ z. z ∷ ys) (same_Some _ _ e)
drop_at (y ∷ ys) (suc i) x e =
    let n : suc (i + 1) ≡ suc i + 1 = omega arith in
    drop_at ys i x e ∙ ap (λ j. x ∷ drop j (y ∷ ys)) n

module _ (k : Known) where
  -- a root that is no pipe is due next
  pub next_root : (u : Walker) (at : ℕ) (root : RootDef) → IsRoot k at root → root.pipe ≡ false → IsAtRoot k u at
      → (cuts : List (List ℕ)) × IsBeforePipes k u at cuts × (at < before_pipes (root_list k.setting))
      × IsAwaiting k u (due_root at ∷ due_roots (at + 1) (before_pipes (root_list k.setting) - (at + 1))) (pipes_due k (before_pipes (root_list k.setting)) cuts)
      (names_in (pipes_due k (before_pipes (root_list k.setting)) cuts))
  next_root u at root r never (cuts, s) = go (pipe_or_not k.setting at r.its r.there) s
    where
      Goal : Type 0
      Goal =
          (cuts : List (List ℕ)) × IsBeforePipes k u at cuts × (at < before_pipes (root_list k.setting))
          × IsAwaiting k u (due_root at ∷ due_roots (at + 1) (before_pipes (root_list k.setting) - (at + 1))) (pipes_due k (before_pipes (root_list k.setting)) cuts)
          (names_in (pipes_due k (before_pipes (root_list k.setting)) cuts))

      first_due : (m : ℕ) → at < m → due_roots at (m - at) ≡ due_root at ∷ due_roots (at + 1) (m - (at + 1))
      first_due m l =
          let e : m - at ≡ suc (m - (at + 1)) = omega (arith, l) in
          let f : suc at ≡ at + 1 = omega arith in
          ap (due_roots at) e ∙ ap (λ j. due_root at ∷ due_roots j (m - (at + 1))) f

      go : ((r.its.is_pipe ≡ false) × (at < before_pipes (root_list k.setting))) ⊎ ((r.its.is_pipe ≡ true) × (before_pipes (root_list k.setting) ≤ at))
          → IsBeforePipes k u at cuts ⊎ IsAtPipes k u at cuts → Goal
      go (inr (p, l)) s = let z : true ≡ false = sym p ∙ r.pipe ∙ never in cc
      go (inl (p, l)) (inr t) = let h = t.past in absurd (omega (arith, h, l))
      go (inl (p, l)) (inl b) = (
        cuts,
        b,
        l,
        subst (λ ds. IsAwaiting k u ds (pipes_due k (before_pipes (root_list k.setting)) cuts) (names_in (pipes_due k (before_pipes (root_list k.setting)) cuts)))
            (first_due (before_pipes (root_list k.setting)) l) b.awaiting,
      )

  -- after it the next one is
  pub after_root : (u v : Walker) (at : ℕ) (cuts : List (List ℕ)) → IsBeforePipes k u at cuts → at < before_pipes (root_list k.setting) → v.cells.pending.items ≡ []
      → IsAwaiting k v (due_roots (at + 1) (before_pipes (root_list k.setting) - (at + 1))) (pipes_due k (before_pipes (root_list k.setting)) cuts)
      (names_in (pipes_due k (before_pipes (root_list k.setting)) cuts))
      → IsAtRoot k v (at + 1)
  after_root u v at cuts b l empty a = (cuts, inl (record { before = omega (arith, l); none_pending = empty; awaiting = a; all_cut = b.all_cut }))

  -- where no root before the pipes is left, these are due
  to_pipes : (u : Walker) (at : ℕ) (cuts : List (List ℕ)) → at ≡ before_pipes (root_list k.setting) → IsBeforePipes k u at cuts → IsAtPipes k u at cuts
  to_pipes u at cuts e b =
      let m = before_pipes (root_list k.setting) in
      let zero_left : m - at ≡ 0 = omega (arith, e) in
      let a = subst (λ j. IsAwaiting k u (due_roots at j) (pipes_due k m cuts) (names_in (pipes_due k m cuts))) zero_left b.awaiting in
      go (none_left k [] (pipes_due k m cuts) (names_in (pipes_due k m cuts)) u a b.none_pending)
    where
      go : (done : Placed_cells) × (us : List Step) × IsDeferring k u done [] us (pipes_due k (before_pipes (root_list k.setting)) cuts)
          (names_in (pipes_due k (before_pipes (root_list k.setting)) cuts)) → IsAtPipes k u at cuts
      go (done, us, d) =
          let none : us ≡ [] = inverted k.setting k.graph d.deferral in
          record {
            past = omega (arith, e);
            tracing =
                subst (λ j. IsTracing k u.progress (pipes_due k j cuts)) (sym e)
                (subst (λ ws. IsTracing k u.progress (untested (flat_map (step_entries k.setting k.graph) ws) ++ pipes_due k (before_pipes (root_list k.setting)) cuts)) none d.tracing);
            naming =
                subst (λ j. IsNaming k u.cells (names_in (pipes_due k j cuts))) (sym e)
                (subst (λ ws. IsNaming k u.cells (flat_map (step_names k.setting k.graph) ws ++ names_in (pipes_due k (before_pipes (root_list k.setting)) cuts))) none d.naming);
            all_cut = subst (λ j. AllCut (drop j k.graph.roots) cuts) (sym e) b.all_cut;
          }

  at_pipes : (u : Walker) (at : ℕ) → before_pipes (root_list k.setting) ≤ at → IsAtRoot k u at → (cuts : List (List ℕ)) × IsAtPipes k u at cuts
  at_pipes u at l (cuts, inr t) = (cuts, t)
  at_pipes u at l (cuts, inl b) = let h = b.before in (cuts, to_pipes u at cuts (omega (arith, h, l)) b)

  -- a pipe is due next
  pub record NextPipe (u : Walker) (at : ℕ) (root : RootDef) : Type 0 where
    pub cut : List ℕ
    pub later : List (List ℕ)
    pub cuts_all : Cuts (count (kids_of (root_at k.graph at))) cut
    pub tracing : IsTracing k u.progress (untested (pipe_entries k.setting.table (home.Root at) (type_at k.setting.table root.of.0) cut (root_at k.graph at)) ++ pipes_due k (at + 1) later)
    pub naming : IsNaming k u.cells
        (names_in (untested (pipe_entries k.setting.table (home.Root at) (type_at k.setting.table root.of.0) cut (root_at k.graph at))) ++ names_in (pipes_due k (at + 1) later))
    pub past : before_pipes (root_list k.setting) ≤ at
    pub all_cut : AllCut (drop (at + 1) k.graph.roots) later

  pub next_pipe : (s : IsPart k) (u : Walker) (at : ℕ) (root : RootDef) → IsRoot k at root → root.pipe ≡ true → IsAtRoot k u at → NextPipe u at root
  next_pipe s u at root r its_pipe a = go (pipe_or_not k.setting at r.its r.there)
    where
      few : at < length k.graph.roots
      few = let b = slice_get_within (root_list k.setting) at r.its r.there in let c = s.partial.all_roots in omega (arith, b, c)

      got : slice_get k.graph.roots at ≡ Some (root_at k.graph at)
      got = let g = slice_get-get_or k.graph.roots at unread few in g ∙ ap Some (sym (ap or_unread g))

      with_cuts : (cuts : List (List ℕ)) → IsAtPipes k u at cuts → NextPipe u at root
      with_cuts [] t = absurd (subst (λ vs. AllCut vs []) (drop_at k.graph.roots at (root_at k.graph at) got) t.all_cut)
      with_cuts (cut ∷ later) t =
          let cuts_all = subst (λ vs. AllCut vs (cut ∷ later)) (drop_at k.graph.roots at (root_at k.graph at) got) t.all_cut in
          let own : List Entry = pipe_entries k.setting.table (home.Root at) (type_at k.setting.table root.of.0) cut (root_at k.graph at) in
          let others : List Entry = pipes_entries k.setting.table (at + 1) (drop (at + 1) (root_list k.setting)) (drop (at + 1) k.graph.roots) later in
          let parts : pipes_due k at (cut ∷ later) ≡ untested own ++ untested others =
          ap₂ (λ rs vs. untested (pipes_entries k.setting.table at rs vs (cut ∷ later))) (drop_at (root_list k.setting) at r.its r.there)
          (drop_at k.graph.roots at (root_at k.graph at) got)
          ∙ ap (λ t. untested (pipe_entries k.setting.table (home.Root at) (type_at k.setting.table t) cut (root_at k.graph at) ++ others)) r.of
          ∙ untested_append own others in
          record {
            cut = cut;
            later = later;
            cuts_all = cuts_all.0;
            tracing = subst (λ ms. IsTracing k u.progress ms) parts t.tracing;
            naming = subst (λ ns. IsNaming k u.cells ns) (ap names_in parts ∙ flat_map-append (λ (m : Entry). named_by m.kind) (untested own) (untested others)) t.naming;
            past = t.past;
            all_cut = cuts_all.1;
          }

      go : ((r.its.is_pipe ≡ false) × (at < before_pipes (root_list k.setting))) ⊎ ((r.its.is_pipe ≡ true) × (before_pipes (root_list k.setting) ≤ at)) → NextPipe u at root
      go (inl (p, l)) = let z : true ≡ false = sym its_pipe ∙ sym r.pipe ∙ p in cc
      go (inr (p, l)) = let (cuts, t) = at_pipes u at l a in with_cuts cuts t

  pub after_pipe : (u v : Walker) (at : ℕ) (root : RootDef) → (p : NextPipe u at root) → IsTracing k v.progress (pipes_due k (at + 1) p.later)
      → IsNaming k v.cells (names_in (pipes_due k (at + 1) p.later)) → IsAtRoot k v (at + 1)
  after_pipe u v at root p t nm = (p.later, inr (record { past = (let l = p.past in omega (arith, l)); tracing = t; naming = nm; all_cut = p.all_cut }))

  -- ## The last root

  pub no_root_left : (s : IsPart k) (u : Walker) (at : ℕ) → length (root_list k.setting) ≤ at → IsAtRoot k u at → IsTracing k u.progress []
  no_root_left s u at l a =
      let b : before_pipes (root_list k.setting) ≤ at = (let c = few_before_pipes (root_list k.setting) in omega (arith, c, l)) in
      let (cuts, t) = at_pipes u at b a in
      subst (λ rs. IsTracing k u.progress (untested (pipes_entries k.setting.table at rs (drop at k.graph.roots) cuts))) (drop_past (root_list k.setting) at l) t.tracing
