-- The worked examples are read.
use Rattle.std.proofs.Common.{refl, [], ◌∷◌, lit≤}
use Rattle.nd_types.specs.Roots.{roots_of}
use Rattle.text_grammar.specs.declared.version.Version.TheVariants as version
use Rattle.text_grammar.specs.Written.{graph_tokens}
use Rattle.text_grammar.specs.Reads.{ReadsAs}
use Rattle.text_grammar.specs.Examples.{adding, adding_text, three_numbers, ring, ring_text, ring_of_two, using, using_text, a_handle, putting, putting_text, putting_text_one, three_entries, listing}
use Rattle.text_grammar.specs.Examples.{listing_text, four_lists, bytes, bytes_text, four_byte_lists}
use Rattle.text_grammar.proofs.Tested.{begins_tested}

pub numbers_read : ReadsAs adding adding_text three_numbers
unfolding roots_of
numbers_read = record {
  short = lit≤ tt;
  version = version.Two;
  readable = record { all_roots = refl; forms = refl; named = tt };
  rest = 10 ∷ [];
  tokens = begins_tested [] adding_text (graph_tokens version.Two adding three_numbers) (10 ∷ []) refl;
  ended = refl;
}

pub ring_read : ReadsAs ring ring_text ring_of_two
unfolding roots_of
ring_read = record {
  short = lit≤ tt;
  version = version.Two;
  readable = record { all_roots = refl; forms = refl; named = (refl, (refl, tt)) };
  rest = 10 ∷ [];
  tokens = begins_tested [] ring_text (graph_tokens version.Two ring ring_of_two) (10 ∷ []) refl;
  ended = refl;
}

pub handle_read : ReadsAs using using_text a_handle
unfolding roots_of
handle_read = record {
  short = lit≤ tt;
  version = version.One;
  readable = record { all_roots = refl; forms = refl; named = tt };
  rest = 10 ∷ [];
  tokens = begins_tested [] using_text (graph_tokens version.One using a_handle) (10 ∷ []) refl;
  ended = refl;
}

pub directory_read : ReadsAs putting putting_text three_entries
unfolding roots_of
directory_read = record {
  short = lit≤ tt;
  version = version.Two;
  readable = record { all_roots = refl; forms = refl; named = (refl, (refl, (refl, tt))) };
  rest = 10 ∷ [];
  tokens = begins_tested [] putting_text (graph_tokens version.Two putting three_entries) (10 ∷ []) refl;
  ended = refl;
}

pub lists_read : ReadsAs listing listing_text four_lists
unfolding roots_of
lists_read = record {
  short = lit≤ tt;
  version = version.One;
  readable = record { all_roots = refl; forms = refl; named = tt };
  rest = [];
  tokens = begins_tested [] listing_text (graph_tokens version.One listing four_lists) [] refl;
  ended = refl;
}

pub directory_read_one : ReadsAs putting putting_text_one three_entries
unfolding roots_of
directory_read_one = record {
  short = lit≤ tt;
  version = version.One;
  readable = record { all_roots = refl; forms = refl; named = (refl, (refl, (refl, tt))) };
  rest = 10 ∷ [];
  tokens = begins_tested [] putting_text_one (graph_tokens version.One putting three_entries) (10 ∷ []) refl;
  ended = refl;
}

pub bytes_read : ReadsAs bytes bytes_text four_byte_lists
unfolding roots_of
bytes_read = record {
  short = lit≤ tt;
  version = version.Two;
  readable = record { all_roots = refl; forms = refl; named = tt };
  rest = [];
  tokens = begins_tested [] bytes_text (graph_tokens version.Two bytes four_byte_lists) [] refl;
  ended = refl;
}
