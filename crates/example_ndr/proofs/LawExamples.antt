-- The laws at a ring of two nodes: their premises can be met.
use Rattle.std.proofs.Common.{◌≡◌, ℕ, List, [], ◌∷◌, refl, inl, lit≤}
use Rattle.nd_base.specs.declared.octets.Order.TheVariants.{Little}
use Rattle.nd_types.specs.Layout.{hoists}
use Rattle.nd_types.specs.Legal.{IsLegal, is_shallow, element_count, fits_pipes}
use Rattle.nd_value.specs.declared.value.Graph.{Graph}
use Rattle.nd_value.specs.Setting.{root_list}
use Rattle.nd_value.specs.Conforms.{Conforms}
use Rattle.nd_value.specs.Deferral.{Deferral, Step, due_roots, before_pipes}
use Rattle.nd_value.specs.Canon.{Same}
use Rattle.nd_value.proofs.DeferralBridge.{deferral_is}
use Rattle.nd_value.proofs.NodeFacts.{sound_conforming}
use Rattle.nd_grammar.specs.LegalSide.{IsLegalSide}
use Rattle.nd_grammar.specs.Stream.{Represents}
use Rattle.nd_grammar.specs.Refusal.{Bad}
use Rattle.nd_grammar.specs.declared.reason.Reason.{Reason}
use Rattle.nd_grammar.specs.declared.reason.Reason.TheVariants as reason
use Rattle.example_ndr.proofs.Check.{upto}
use Rattle.example_ndr.proofs.LawRing.{ring, ring_2, ring_2_octets, ring_conforms, ring_represented, ring_cut}
use Rattle.nd_grammar.proofs.OneGraph.{one_graph}
use Rattle.nd_grammar.proofs.OneRefusal.{one_bad}
use Rattle.nd_grammar.proofs.Excluded.{excluded}

pub ring_is_legal : IsLegal ring.table (ring.op ∷ [])
unfolding hoists is_shallow element_count fits_pipes
ring_is_legal = record {
  basic = refl;
  no_later_basic = refl;
  types_known = refl;
  params_known = refl;
  results_known = refl;
  nesting = refl;
  members = refl;
  enumerators = refl;
  bounds = refl;
  elements = refl;
  dimensions = refl;
  array_elements = refl;
  text_elements = refl;
  pipe_elements = refl;
  hoisting_members = refl;
  hoisting_arms = refl;
  pipes = refl;
  contexts = refl;
  tags = refl;
  labels = refl;
  distinct_labels = refl;
  switched_types = refl;
  referents = refl;
  ordered = refl;
  variables = refl;
  sized = refl;
  one_size = refl;
  varying = refl;
  one_length = refl;
  count_variables = refl;
  switched = refl;
  switches = refl;
  switch_variables = refl;
  handles = refl;
  out_pointers = refl;
  out_types = refl;
  results = refl;
  part_names = refl;
  operation_names = refl;
  few_types = lit≤ tt;
  few_operations = lit≤ tt;
  few_params = refl;
  few_parts = lit≤ tt;
}

pub ring_side : IsLegalSide ring
ring_side = record { operations = ring.op ∷ []; legal = ring_is_legal; operation = inl refl }

-- the ring has an order of deferral
pub ring_order : (steps : List Step) × Deferral ring ring_2 [] (due_roots 0 (before_pipes (root_list ring))) steps
ring_order = deferral_is ring ring_2 (sound_conforming ring ring_2 ring_conforms)

-- its octets represent it alone
pub ring_alone : (g : Graph) → Conforms ring g → Represents ring Little ring_2_octets g → Same ring_2 g
ring_alone g c r = (one_graph ring ring_side Little ring_2_octets [] ring_2 g ring_conforms c ring_represented r).1

pub ring_twice : Same ring_2 ring_2
ring_twice = ring_alone ring_2 ring_conforms ring_represented

-- cut after 6 octets, they are refused there for this reason alone, and are no stream of any graph
pub ring_cut_once : (place : ℕ) (why : Reason) → Bad ring Little (upto 6 ring_2_octets) place why → (place ≡ 6) × (why ≡ reason.Truncated)
ring_cut_once place why b = one_bad ring ring_side Little (upto 6 ring_2_octets) place 6 why reason.Truncated b ring_cut

pub ring_cut_excluded : (g : Graph) → Conforms ring g → Represents ring Little (upto 6 ring_2_octets) g → ⊥
ring_cut_excluded g c r = excluded ring ring_side Little (upto 6 ring_2_octets) 6 reason.Truncated ring_cut (upto 6 ring_2_octets) [] refl g c r
