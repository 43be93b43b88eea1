-- The homes of a graph that conforms have the forms of their types.
use Rattle.std.proofs.Common.{◌≡◌, ℕ, ◌+◌, ◌<◌, ◌≤◌, zero, suc, true, false, List, [], ◌∷◌, length, drop, Option, Some, None, refl, sym, ◌∙◌, subst, arith}
use Rattle.std.specs.Prelude.{replicate}
use Rattle.std.specs.List.{AllByRecursion, slice_get}
use Rattle.std.proofs.lemmas.Option.{slice_get-get_or}
use Rattle.nd_types.specs.declared.types.TypeDef.{TypeDef}
use Rattle.nd_types.specs.declared.types.TypeId.{TypeId}
use Rattle.nd_types.specs.declared.types.TypeDef.TheVariants as def
use Rattle.nd_types.specs.Table.{type_at}
use Rattle.nd_types.specs.Roots.{Root}
use Rattle.nd_value.specs.declared.value.Graph.{Graph}
use Rattle.nd_value.specs.Tree as tree
use Rattle.nd_value.specs.Tree.{Tree, Trees, node, none, more, count, Label}
use Rattle.nd_value.specs.Agreement.{Agreement, root_agreements}
use Rattle.nd_value.specs.Nodes.{child_types, child_agreements}
use Rattle.nd_value.specs.Misfit.{has_shape}
use Rattle.nd_value.specs.Setting.{Setting, root_list, root_at}
use Rattle.nd_value.specs.Deferral.{Step, Due, due_roots, before_pipes, Deferral, none_due, at_root, at_null, at_standing, at_referent, Placed_cells, Standing, standing_root, standing_cell, due_of}
use Rattle.nd_value.specs.Conforms.{Conforms}
use Rattle.nd_value.proofs.Apart.{all_append}
use Rattle.nd_value.proofs.FewRoots.{few_before_pipes}
use Rattle.nd_grammar.specs.LegalSide.{IsLegalSide}
use Rattle.nd_grammar.proofs.LegalSides.{laid_out}
use Rattle.nd_grammar.proofs.next.NextStream.{IsPipeRoot, drop_at}
use Rattle.nd_lemmas.proofs.Lists.{all_at}
use Rattle.nd_grammar.proofs.conforming.GoodEntries.{HoldsNoPipe}
use Rattle.nd_grammar.proofs.conforming.GoodTrees.{GoodTrees, good_roots}
use Rattle.nd_grammar.proofs.conforming.GoodStream.{StandsGood, DueGood, standing_due, pending_cell, root_good, roots_due}
use Rattle.nd_grammar.proofs.legal.LegalPipes.{holds_no_pipe, plain_before}
use Rattle.nd_grammar.specs.ReaderState.{Known, Usable}
use Rattle.nd_grammar.proofs.legal.LegalUsable.{usable_readable, element_usable}
use Rattle.nd_grammar.proofs.reader.ReaderInPlace.{Readable}
use Rattle.ndr_encoder_laws.specs.pieces.Heads.{standings}
use Rattle.ndr_encoder_laws.specs.written.Shaped.{Shaped}
use Rattle.ndr_encoder_laws.specs.shaped.ShapedPipes.{IsShapedPipe}
use Rattle.ndr_encoder_laws.proofs.shaped.Forms.{shaped}

module _ (w : Setting) (side : IsLegalSide w) (g : Graph) (c : Conforms w g) where
  pub no_pipes : HoldsNoPipe w.table
  no_pipes = holds_no_pipe w.table side.operations side.legal

  known_by : (t : ℕ) (o : Option TypeDef) (l : Label) (ks : Trees) → type_at w.table t ≡ o → has_shape o l ks ≡ true → Known w.table t
  known_by t (Some d) l ks e h = (d, e)
  known_by t None l ks e h = cc

  known_of : (t : ℕ) (v : Tree) → GoodTrees w.table g (t ∷ []) [] (more v none) → Known w.table t
  known_of t (node l ks) a = known_by t (type_at w.table t) l ks refl a.0.shape

  pub standing_shaped : (x : Standing) → StandsGood w no_pipes g x → Shaped 32 w.table (x.of ∷ []) (more x.val none)
  standing_shaped x s =
      let usable : Usable w.table x.of = record { known = known_of x.of x.val s.trees; no_pipe = s.no_pipe } in
      shaped w.table side.operations side.legal g 32 (x.of ∷ []) [] (more x.val none) (usable_readable w.table side.operations side.legal x.of usable, tt) s.trees

  standings_good : {done : Placed_cells} {due : List Due} {steps : List Step} → Deferral w g done due steps → AllByRecursion (DueGood w no_pipes g) due
      → AllByRecursion (StandsGood w no_pipes g) (standings w g steps)
  standings_good none_due a = tt
  standings_good (at_root {i = i} {due = due} f d) a =
      let (r, e, p) = a.0 in
      let s : StandsGood w no_pipes g (standing_root w g i) = root_good w no_pipes g c i r e p in
      (s, standings_good d (all_append (DueGood w no_pipes g) (due_of w.table (standing_root w g i)) due (standing_due w no_pipes g (standing_root w g i) s) a.1))
  standings_good (at_null e d) a = standings_good d a.1
  standings_good (at_standing k e full h d) a = standings_good d a.1
  standings_good (at_referent {p = p} {due = due} k e n d) a =
      let s : StandsGood w no_pipes g (standing_cell g p k) = pending_cell w no_pipes g c p a.0 k e in
      (s, standings_good d (all_append (DueGood w no_pipes g) (due_of w.table (standing_cell g p k)) due (standing_due w no_pipes g (standing_cell g p k) s) a.1))

  each_shaped : (xs : List Standing) → AllByRecursion (StandsGood w no_pipes g) xs → AllByRecursion (λ (x : Standing). Shaped 32 w.table (x.of ∷ []) (more x.val none)) xs
  each_shaped [] a = tt
  each_shaped (x ∷ xs) a = (standing_shaped x a.0, each_shaped xs a.1)

  pub homes_shaped : (steps : List Step) → Deferral w g [] (due_roots 0 (before_pipes (root_list w))) steps
      → AllByRecursion (λ (x : Standing). Shaped 32 w.table (x.of ∷ []) (more x.val none)) (standings w g steps)
  homes_shaped steps d =
      let few : before_pipes (root_list w) ≤ length (root_list w) = few_before_pipes (root_list w) in
      let dues : AllByRecursion (DueGood w no_pipes g) (due_roots 0 (before_pipes (root_list w))) = roots_due w no_pipes g c 0 (before_pipes (root_list w)) (λ j h. (
      let k : 0 + j < length (root_list w) = omega (arith, few, h) in
      let z : 0 + j < before_pipes (root_list w) = omega (arith, h) in
      let e = slice_get-get_or (root_list w) (0 + j) (record { of = 0; param = None; vars = []; is_pipe = false }) k in
      (_, e, plain_before w side (0 + j) _ e z))) in
      each_shaped (standings w g steps) (standings_good d dues)

  -- a pipe that fits is one, and its elements have their forms
  pipe_by : (t : ℕ) (elem : TypeId) (given : List (List Agreement)) (l : Label) (ks : Trees) → type_at w.table t ≡ Some (def.Pipe elem)
      → has_shape (Some (def.Pipe elem)) l ks ≡ true → GoodTrees w.table g (child_types (Some (def.Pipe elem)) l ks) given ks → IsShapedPipe w.table t (node l ks)
  pipe_by t elem given tree.Pipe ks is h a =
      let usable : Usable w.table elem.0 = element_usable w.table side.operations side.legal t elem is in
      record {
        elem = elem;
        type_is = is;
        kids = ks;
        value_is = refl;
        shaped = shaped w.table side.operations side.legal g 32 (replicate (count ks) elem.0) given ks
            (many (count ks) (usable_readable w.table side.operations side.legal elem.0 usable)) a;
      }
    where
      many : (n : ℕ) → Readable w.table 32 elem.0 → AllByRecursion (Readable w.table 32) (replicate n elem.0)
      many zero r = tt
      many (suc n) r = (r, many n r)
  pipe_by t elem given _ ks is h a = cc

  pipe_of_root : (r : Root) (given : List (List Agreement)) (v : Tree) → IsPipeRoot w.table r → GoodTrees w.table g (r.of ∷ []) given (more v none) → IsShapedPipe w.table r.of v
  pipe_of_root r given (node l ks) p a =
      pipe_by r.of p.elem (child_agreements (type_at w.table r.of) ks) l ks p.type_is (subst (λ o. has_shape o l ks ≡ true) p.type_is a.0.shape)
      (subst (λ o. GoodTrees w.table g (child_types o l ks) (child_agreements (type_at w.table r.of) ks) ks) p.type_is a.2)

  pub pipes_shaped : (j : ℕ) (r : Root) → slice_get (drop (before_pipes (root_list w)) (root_list w)) j ≡ Some r → IsShapedPipe w.table r.of (root_at g (before_pipes (root_list w) + j))
  pipes_shaped j r e =
      let n : ℕ = before_pipes (root_list w) in
      let at : slice_get (root_list w) (n + j) ≡ Some r = sym (drop_at n (root_list w) j) ∙ e in
      pipe_of_root r (root_agreements w g r.vars ∷ []) (root_at g (n + j)) (all_at (IsPipeRoot w.table) (drop n (root_list w)) j r (laid_out w side).pipes e) (good_roots w g c (n + j) r at)
