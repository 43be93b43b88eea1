-- The reader's two laws, the one verdict and the laws of written octets, at a ring of two nodes: their premises can be met.
use Rattle.std.proofs.Common.{ℕ, List, refl, arith, lit≤}
use Rattle.std.specs.Prelude.{◌≡◌}
use Rattle.nd_base.specs.declared.octets.Order.TheVariants.{Little}
use Rattle.nd_types.specs.Layout.{align_of, hoists}
use Rattle.nd_types.specs.Roots.{roots_of}
use Rattle.nd_types.specs.Number.{AreOctets}
use Rattle.nd_value.specs.declared.value.Graph.{Graph}
use Rattle.nd_value.specs.Canon.{Same}
use Rattle.nd_grammar.specs.declared.reason.Reason.TheVariants as reason
use Rattle.nd_grammar.specs.Refusal.{Bad}
use Rattle.nd_grammar.specs.Stream.{BeginsWith, Represents, Chosen}
use Rattle.nd_value.specs.Conforms.{Conforms}
use Rattle.nd_grammar.proofs.ChosenRepresents.{chosen_represents, chosen_apart}
use Rattle.nd_grammar.proofs.written.SameForms.{same_written}
use Rattle.example_ndr.proofs.Check.{upto, chosen_so}
use Rattle.example_ndr.proofs.LawRing.{ring, ring_2, ring_2_octets, ring_conforms}
use Rattle.example_ndr.proofs.LawExamples.{ring_side}
use Rattle.nd_grammar.proofs.ReaderLaws.{reader_accepts, reader_refuses, one_beginning}

ring_are_octets : AreOctets ring_2_octets
ring_are_octets = grind arith

cut_are_octets : AreOctets (upto 6 ring_2_octets)
cut_are_octets = grind arith

-- its octets begin with its stream
pub ring_is_read : BeginsWith ring Little ring_2_octets 20 ring_2
unfolding align_of hoists roots_of
ring_is_read = reader_accepts ring ring_side Little ring_2_octets ring_are_octets refl

-- cut after six octets they are refused there
pub ring_is_cut : Bad ring Little (upto 6 ring_2_octets) 6 reason.Truncated
unfolding align_of hoists roots_of
ring_is_cut = reader_refuses ring ring_side Little (upto 6 ring_2_octets) cut_are_octets 6 reason.Truncated refl

-- and every other graph whose stream they begin with is the same
pub ring_alone : (n : ℕ) (g : Graph) → BeginsWith ring Little ring_2_octets n g → (n ≡ 20) × Same g ring_2
ring_alone n g b = one_beginning ring ring_side Little ring_2_octets n 20 g ring_2 b ring_is_read

-- they are the octets that are written for it, and represent it
pub ring_written : Chosen ring Little 1 ring_2 ring_2_octets
unfolding align_of hoists roots_of
ring_written = chosen_so ring Little 1 ring_2 ring_2_octets 10 refl refl

pub ring_written_represents : Represents ring Little ring_2_octets ring_2
ring_written_represents = chosen_represents ring ring_side ring_2 ring_conforms Little 1 (omega arith) ring_2_octets ring_written (lit≤ tt)

-- for its nodes in the other order the same octets are written, and for no other graph
pub ring_turned : (h : Graph) (octets : List ℕ) → Same ring_2 h → Chosen ring Little 1 h octets → ring_2_octets ≡ octets
ring_turned h octets s o = same_written ring ring_side ring_2 h ring_conforms s Little 1 ring_2_octets octets ring_written o

pub ring_only : (h : Graph) → Conforms ring h → Chosen ring Little 1 h ring_2_octets → Same ring_2 h
ring_only h c o = chosen_apart ring ring_side Little 1 1 ring_2_octets ring_2 h (omega arith) (omega arith) ring_conforms c ring_written o
