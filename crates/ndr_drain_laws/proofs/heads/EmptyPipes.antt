-- The entries of a pipe without elements pass.
use Rattle.std.proofs.Common.{◌≡◌, ℕ, ◌+◌, ◌-◌, ◌≤◌, [], Some, refl, ap, sym, ◌∙◌, arith, subst, drop}
use Rattle.std.specs.List.{slice_get}
use Rattle.nd_types.specs.Roots.{Root}
use Rattle.nd_types.specs.Table.{type_at}
use Rattle.nd_value.specs.declared.item.Home.TheVariants as home
use Rattle.nd_value.specs.declared.value.Graph.{Graph}
use Rattle.nd_value.specs.Deferral.{before_pipes}
use Rattle.nd_value.specs.Setting.{Setting, root_list}
use Rattle.nd_value.specs.Tree.{Tree, count}
use Rattle.nd_grammar.specs.LegalSide.{IsLegalSide}
use Rattle.nd_grammar.specs.Stream.{Cuts, kids_of, pipe_entries}
use Rattle.nd_grammar.proofs.LegalSides.{laid_out}
use Rattle.nd_grammar.proofs.conforming.Passed.{PassedAll}
use Rattle.nd_grammar.proofs.conforming.StreamConforming.{PipePasses}
use Rattle.nd_grammar.proofs.next.NextStream.{IsPipeRoot, drop_at}
use Rattle.nd_lemmas.proofs.Lists.{all_at}
use Rattle.ndr_drain_laws.specs.parts.Parts.{HasEmptyPipes, empty_pipe}

module _ (w : Setting) (side : IsLegalSide w) (g : Graph) (empty : HasEmptyPipes w g) where
  abbrev n : ℕ
  n = before_pipes (root_list w)

  passed : (j : ℕ) (r : Root) → IsPipeRoot w.table r → PassedAll (pipe_entries w.table (home.Root j) (type_at w.table r.of) [] empty_pipe)
  passed j r q = subst (λ d. PassedAll (pipe_entries w.table (home.Root j) d [] empty_pipe)) (sym q.type_is) (record { passed = (tt, (tt, tt)); light = omega arith })

  none_cut : Cuts (count (kids_of empty_pipe)) []
  none_cut = (refl, tt)

  pub empty_passes : (j : ℕ) (r : Root) (v : Tree) → n ≤ j → slice_get (root_list w) j ≡ Some r → slice_get g.roots j ≡ Some v → PipePasses w j r v
  empty_passes j r v h er ev =
      let k : n + (j - n) ≡ j = omega arith in
      let q : IsPipeRoot w.table r =
      all_at (IsPipeRoot w.table) (drop n (root_list w)) (j - n) r (laid_out w side).pipes (drop_at n (root_list w) (j - n) ∙ ap (slice_get (root_list w)) k ∙ er) in
      let z : v ≡ empty_pipe = all_at (λ u. u ≡ empty_pipe) (drop n g.roots) (j - n) v empty (drop_at n g.roots (j - n) ∙ ap (slice_get g.roots) k ∙ ev) in
      subst (PipePasses w j r) (sym z) ([], none_cut, passed j r q)
