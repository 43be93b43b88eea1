-- The worked examples are printed: the texts of numbers, of a ring and of a directory.
use Rattle.std.proofs.Common.{◌≡◌, refl, sym, codes}
use Rattle.std.specs.Fmt.{decimal}
use Rattle.nd_types.specs.Roots.{roots_of}
use Rattle.text_grammar.specs.declared.version.Version.TheVariants as version
use Rattle.text_grammar.specs.Written.{graph_text}
use Rattle.text_grammar.specs.Examples.{adding, adding_text, three_numbers, ring, ring_text, ring_of_two, putting, putting_text, three_entries}
use Rattle.text_grammar.proofs.Numerals.{is_written}

zero : decimal 0 ≡ codes "0"
zero = sym (is_written 0 (codes "0") refl refl).0

one : decimal 1 ≡ codes "1"
one = sym (is_written 1 (codes "1") refl refl).0

two : decimal 2 ≡ codes "2"
two = sym (is_written 2 (codes "2") refl refl).0

three : decimal 3 ≡ codes "3"
three = sym (is_written 3 (codes "3") refl refl).0

four : decimal 4 ≡ codes "4"
four = sym (is_written 4 (codes "4") refl refl).0

seven : decimal 7 ≡ codes "7"
seven = sym (is_written 7 (codes "7") refl refl).0

eight : decimal 8 ≡ codes "8"
eight = sym (is_written 8 (codes "8") refl refl).0

n1024 : decimal 1024 ≡ codes "1024"
n1024 = sym (is_written 1024 (codes "1024") refl refl).0

pub numbers_printed : graph_text version.Two adding three_numbers ≡ adding_text
unfolding roots_of
numbers_printed = rw (one, two, three) refl

pub ring_printed : graph_text version.Two ring ring_of_two ≡ ring_text
unfolding roots_of
ring_printed = rw (one, two, seven, eight) refl

pub directory_printed : graph_text version.Two putting three_entries ≡ putting_text
unfolding roots_of
directory_printed = rw (zero, one, two, three, four, n1024) refl
