use Rattle.std.proofs.Common.{[], None}
use Rattle.ndr_decoder_laws.proofs.stream.Cells as told_law
use Rattle.ndr_decoder_laws.proofs.stream.HomeBegins as law
use Rattle.ndr_decoder_laws.proofs.laws.stream.homes_begin.Goals as goal

pub returns : goal.returns
returns c = record {
  reference = λ order fetched noted direct h seen names types numbers to t. told_law.told_reference order fetched h seen names types numbers None 0 [] to t;
  begins =
      λ table operations legal order fetched noted direct h seen names t u b at types x o told. law.home_begins table operations legal order fetched noted direct h seen names t u b at types x o told;
}
