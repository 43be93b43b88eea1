-- The worked examples of directory by the reader: it finds the graph of each stream, and the place and reason of each refusal.
use Rattle.std.proofs.Common.{refl}
use Rattle.nd_base.specs.declared.octets.Order.TheVariants.{Little}
use Rattle.nd_types.specs.Layout.{align_of, hoists}
use Rattle.nd_types.specs.Roots.{roots_of}
use Rattle.std.specs.Prelude.{length}
use Rattle.nd_grammar.specs.StreamReader.{read_stream}
use Rattle.example_ndr.proofs.ReaderFinds.{IsFound}
use Rattle.example_ndr.proofs.WorkedDirectory.{put, put_graph, put_octets}

pub read_directory_entry : IsFound (read_stream put Little put_octets) put_graph (length put_octets)
unfolding align_of hoists roots_of
read_directory_entry = (refl, (refl, refl))
