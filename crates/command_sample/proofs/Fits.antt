-- What is known of a fit of the sample: it conforms, and its octets are so many.
use Rattle.std.proofs.Common.{◌≡◌, ◌∙◌, ℕ, ◌+◌, ◌*◌, ◌≤◌, ◌<◌, ◌^◌, List, [], ◌∷◌, length, drop, Option, Some, None, refl, ap, sym, subst, subst₂, inl, arith}
use Rattle.std.specs.List.{slice_get}
use Rattle.std.proofs.lemmas.Option.{same_Some}
use Rattle.nd_base.specs.declared.octets.Order.TheVariants.{Little}
use Rattle.nd_types.specs.declared.interface.Interface.{Interface}
use Rattle.nd_types.specs.declared.types.Operation.{Operation}
use Rattle.nd_types.specs.declared.types.Side.{Side}
use Rattle.nd_types.specs.declared.types.Side.TheVariants.{In}
use Rattle.nd_types.specs.Table.{Table}
use Rattle.nd_value.specs.declared.value.Graph.{Graph}
use Rattle.nd_value.specs.Conforms.{Conforms, HasFewNodes, IsOfNoFit}
use Rattle.nd_value.specs.Deferral.{Step, Deferral, due_roots, before_pipes}
use Rattle.nd_value.specs.Fitting.{Fitting, setting_beside}
use Rattle.nd_value.specs.declared.item.Home.{Home}
use Rattle.nd_value.specs.declared.misfit.Misfit.{Misfit}
use Rattle.nd_value.specs.declared.misfit.Misfit.TheVariants as answer
use Rattle.nd_value.specs.declared.misfit.MisfitReason.{MisfitReason}
use Rattle.nd_value.specs.Setting.{Setting, root_list}
use Rattle.nd_grammar.specs.Stream.{Chosen, pipe_cuts, representation}
use Rattle.nd_grammar.specs.Entry.{end_of}
use Rattle.nd_grammar.specs.LegalSide.{IsLegalSide}
use Rattle.nd_grammar.proofs.ChosenRepresents.{chosen_exists, chosen_represents}
use Rattle.ndr_encode.specs.Work.{WorkSeen, IsWorkFor, IsTooLong, IsChosen, chosen_length}
use Rattle.ndr_encode.proofs.Lengths.{chosen_length as end_of_octets}
use Rattle.command_sample.specs.Interface.{sample_types, sample_setting, take}
use Rattle.command_sample.specs.Nodes.{sample_graph}
use Rattle.command_sample.proofs.Conforming.{conforms}
use Rattle.command_sample.proofs.Legal.{legal}
use Rattle.command_sample.proofs.Lengths.{length_is}
use Rattle.command_sample.specs.Steps.{IsSampleInterface, IsSampleFit, AreSampleOctets}

-- the side is legal
pub sample_side : IsLegalSide sample_setting
sample_side = record { operations = take ∷ []; legal = legal; operation = inl refl }

-- the one operation
only : (o : Operation) (os : List Operation) (n : ℕ) → os ≡ take ∷ [] → n ≡ 0 → slice_get os n ≡ Some o → o ≡ take
only o os n os_is n_is there =
    let h : slice_get (take ∷ []) 0 ≡ Some o = subst₂ (λ (xs : List Operation) m. slice_get xs m ≡ Some o) os_is n_is there in
    sym (same_Some _ _ h)

pub setting_is : (table : Table) (o : Operation) (s : Side) (q : Option Graph) → table ≡ sample_types → o ≡ take → s ≡ In → q ≡ None
    → record { table = table; op = o; side = s; given = q } ≡ sample_setting
setting_is table o s q table_is o_is s_is q_is =
    ap (λ (t : Table). record { table = t; op = o; side = s; given = q }) table_is
    ∙ ap (λ (p : Operation). record { table = sample_types; op = p; side = s; given = q }) o_is
    ∙ ap (λ (k : Side). record { table = sample_types; op = take; side = k; given = q }) s_is
    ∙ ap (λ (r : Option Graph). record { table = sample_types; op = take; side = In; given = r }) q_is

module _ (f : Fitting) (seed n : ℕ) (is : IsSampleFit f seed n) where
  abbrev own : Operation → Setting
  own o = setting_beside f.interface o f.side f.given

  own_is : (o : Operation) → slice_get f.interface.operations f.op ≡ Some o → own o ≡ sample_setting
  own_is o there = setting_is f.interface.types o f.side f.given is.interface.types (only o f.interface.operations f.op is.interface.operations is.op there) is.side is.given

  -- so many octets are chosen
  many : (o : Operation) → slice_get f.interface.operations f.op ≡ Some o → (steps : List Step)
      → Deferral (own o) f.graph [] (due_roots 0 (before_pipes (root_list (own o)))) steps → chosen_length f o 1 steps ≡ 4 + 12 * n
  many o there steps d =
      subst₂
      (λ (w : Setting) (g : Graph). Deferral w g [] (due_roots 0 (before_pipes (root_list w))) steps
      → end_of 0 (representation w g steps (pipe_cuts 1 (drop (before_pipes (root_list w)) g.roots))) ≡ 4 + 12 * n)
      (sym (own_is o there)) (sym is.graph)
      (λ d'. length_is seed n is.some is.few steps d' (pipe_cuts 1 (drop (before_pipes (root_list sample_setting)) (sample_graph seed n).roots))) d

  pub work_is : (work : WorkSeen) → IsWorkFor f 1 work → work.length ≡ 4 + 12 * n
  work_is work w = w.length ∙ many w.operation w.is_there w.steps w.deferral

  pub never_long : (m : ℕ) → IsTooLong f 1 m → ⊥
  never_long m t =
      let g : Graph = sample_graph seed n in
      let fits : Conforms sample_setting g = conforms seed n is.some is.few in
      let (octets, c) = chosen_exists sample_setting Little 1 g fits in
      let is_m : length octets ≡ m = t.many Little octets (λ o there. subst₂ (λ (v : Setting) (h : Graph). Chosen v Little 1 h octets) (sym (own_is o there)) (sym is.graph) c) in
      let total : length octets ≡ 4 + 12 * n =
      end_of_octets sample_setting sample_side g fits Little 1 octets c c.steps c.deferral
      ∙ length_is seed n is.some is.few c.steps c.deferral (pipe_cuts 1 (drop (before_pipes (root_list sample_setting)) g.roots)) in
      let past = t.too_long in
      let few = is.few in
      omega (arith, total, is_m, past, few)

  pub octets_are : (work : WorkSeen) → IsWorkFor f 1 work → (octets : List ℕ) → IsChosen f Little work.chunk octets → length octets ≡ work.length → AreSampleOctets octets seed n
  octets_are work w octets chosen long =
      let length : length octets ≡ 4 + 12 * n = long ∙ work_is work w in
      let few = is.few in
      let own_chosen : Chosen (own w.operation) Little 1 f.graph octets =
      subst (λ k. Chosen (own w.operation) Little k f.graph octets) w.chunk (chosen w.operation w.is_there) in
      record {
        represents =
            chosen_represents sample_setting sample_side (sample_graph seed n) (conforms seed n is.some is.few) Little 1 (omega arith) octets
            (subst₂ (λ (v : Setting) (g : Graph). Chosen v Little 1 g octets) (own_is w.operation w.is_there) is.graph own_chosen) (omega (arith, length, few));
        long = length;
        some = is.some;
        few = is.few;
      }

-- a graph of the sample is not refused
pub never_misfit : (i : Interface) (seed n : ℕ) → IsSampleInterface i → 1 ≤ n → n ≤ 1000000 → (o : Operation) (g : Graph) → slice_get i.operations 0 ≡ Some o → g ≡ sample_graph seed n
    → Conforms (setting_beside i o In None) g
never_misfit i seed n s some few o g there is =
    subst₂ (λ (w : Setting) (h : Graph). Conforms w h) (sym (setting_is i.types o In None s.types (only o i.operations 0 s.operations refl there) refl refl)) (sym is)
    (conforms seed n some few)

-- how few its cells and nodes are
pub few_cells : (seed n : ℕ) (g : Graph) → 1 ≤ n → n ≤ 1000000 → g ≡ sample_graph seed n → length g.cells < 2 ^ 32
few_cells seed n g some few is = let c = conforms seed n some few in rw is c.few_cells

pub few_nodes : (seed n : ℕ) (g : Graph) → 1 ≤ n → n ≤ 1000000 → g ≡ sample_graph seed n → HasFewNodes g
few_nodes seed n g some few is = let c = conforms seed n some few in subst (λ (h : Graph). HasFewNodes h) (sym is) c.few_nodes

-- which is this one
pub take_is : (i : Interface) → IsSampleInterface i → slice_get i.operations 0 ≡ Some take
take_is i s = subst (λ (os : List Operation). slice_get os 0 ≡ Some take) (sym s.operations) refl

-- no place is answered for it
pub never_at : (i : Interface) (seed n : ℕ) → IsSampleInterface i → 1 ≤ n → n ≤ 1000000 → (g : Graph) → g ≡ sample_graph seed n
    → (m : Misfit) (h : Home) (k : ℕ) (r : MisfitReason) → m ≡ answer.At h k r → IsOfNoFit (setting_beside i take In None) g m → ⊥
never_at i seed n s some few g is m h k r at none =
    let refused : ¬ Conforms (setting_beside i take In None) g = subst (λ (x : Misfit). IsOfNoFit (setting_beside i take In None) g x) at none in
    refused (never_misfit i seed n s some few take g (take_is i s) is)
