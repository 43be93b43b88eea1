-- The homes of a graph in the order of the stream, and its pipes: they are there, and their pieces can be written.
use Rattle.std.proofs.Common.{◌≡◌, ℕ, ◌+◌, ◌-◌, ◌≤◌, zero, suc, List, [], ◌∷◌, length, drop, Some, sym, subst, arith, length-drop}
use Rattle.std.specs.List.{AllByRecursion, slice_get}
use Rattle.nd_types.specs.Table.{Table}
use Rattle.nd_value.specs.declared.value.Graph.{Graph}
use Rattle.nd_value.specs.Setting.{Setting, root_list}
use Rattle.nd_value.specs.Deferral.{Step, Deferral, due_roots, before_pipes, Standing}
use Rattle.nd_value.specs.Conforms.{Conforms}
use Rattle.nd_value.proofs.Apart.{all_append}
use Rattle.nd_value.proofs.FewRoots.{few_before_pipes}
use Rattle.nd_grammar.specs.LegalSide.{IsLegalSide}
use Rattle.nd_flat.specs.Building.{HasHome}
use Rattle.ndr_code.specs.declared.instr.Instr.{Instr}
use Rattle.ndr_code.specs.Code.{code_of, pipe_at, pipe_roots}
use Rattle.ndr_encoder_laws.specs.pieces.Pieces.{Piece}
use Rattle.ndr_encoder_laws.specs.pieces.Heads.{standings}
use Rattle.ndr_encoder_output.specs.Filling.{FitsPiece}
use Rattle.ndr_encoder_laws.specs.turns.Roots.{home_turns}
use Rattle.ndr_encoder_laws.specs.chosen.Written.{turns_pieces, pipe_turns, all_turns}
use Rattle.ndr_encoder_laws.proofs.chosen.Written.{written}
use Rattle.ndr_encoder_value.specs.Turns.{written_turns}
use Rattle.ndr_encoder_value.proofs.Fits.{Good}
use Rattle.ndr_encoder_value.proofs.GoodHomes.{stream_good, homes_there}
use Rattle.ndr_encoder_value.proofs.Maxima.{maxima_same}

pub fit_of : (ps : List Piece) → AllByRecursion Good ps → AllByRecursion FitsPiece ps
fit_of [] a = tt
fit_of (p ∷ ps) a = (a.0.0, fit_of ps a.1)

turns_there : (g : Graph) (table : Table) (xs : List Standing) → AllByRecursion (λ (x : Standing). HasHome g x.home) xs → AllByRecursion (λ u. HasHome g u.0) (home_turns table xs)
turns_there g table [] a = tt
turns_there g table (x ∷ xs) a = (a.0, turns_there g table xs a.1)

pipes_there : (g : Graph) (at : ℕ → ℕ) (first j m : ℕ) → first + j + m ≤ length g.roots → AllByRecursion (λ u. HasHome g u.0) (pipe_turns at first j m)
pipes_there g at first j zero h = tt
pipes_there g at first j (suc m) h = (omega (arith, h), pipes_there g at first (suc j) m (omega (arith, h)))

module _ (w : Setting) (side : IsLegalSide w) (g : Graph) (c : Conforms w g) where
  abbrev C : List Instr
  C = code_of w.table side.operations

  pub all_there : (n : ℕ) (steps : List Step) → Deferral w g [] (due_roots 0 (before_pipes (root_list w))) steps → AllByRecursion (λ u. HasHome g u.0) (all_turns w side.operations n g steps)
  all_there n steps d =
      let first : ℕ = before_pipes (root_list w) in
      let at : ℕ → ℕ = pipe_at w.table side.operations n w.op w.side in
      let few : first ≤ length (root_list w) = few_before_pipes (root_list w) in
      let same : length g.roots ≡ length (root_list w) = c.all_roots in
      let left : length (drop first (root_list w)) ≡ length (root_list w) - first = length-drop first (root_list w) in
      all_append (λ u. HasHome g u.0) (home_turns w.table (standings w g steps)) (pipe_turns at first 0 (length (drop first (root_list w))))
      (turns_there g w.table (standings w g steps) (homes_there w side g c steps d)) (pipes_there g at first 0 (length (drop first (root_list w))) (omega (arith, few, same, left)))

  module _ (pipes_last : pipe_roots (root_list w) ≡ drop (before_pipes (root_list w)) (root_list w)) (k n : ℕ) (is : slice_get side.operations n ≡ Some w.op) (steps : List Step)
      (d : Deferral w g [] (due_roots 0 (before_pipes (root_list w))) steps) (some : 1 ≤ k) where
    pub turns_same : written_turns C k g (all_turns w side.operations n g steps) ≡ turns_pieces C k g (all_turns w side.operations n g steps)
    turns_same = maxima_same w side g c pipes_last k n is steps d some

    pub turns_good : AllByRecursion Good (turns_pieces C k g (all_turns w side.operations n g steps))
    turns_good = subst (AllByRecursion Good) (sym (written w side g c pipes_last k n is steps d some)) (stream_good w side g c k steps d)

    pub turns_fit : AllByRecursion FitsPiece (written_turns C k g (all_turns w side.operations n g steps))
    turns_fit = subst (AllByRecursion FitsPiece) (sym turns_same) (fit_of (turns_pieces C k g (all_turns w side.operations n g steps)) turns_good)
