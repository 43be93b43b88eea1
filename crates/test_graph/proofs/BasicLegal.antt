-- An interface without operations is legal.
use Rattle.std.proofs.Common.{[], refl, arith, lit≤}
use Rattle.nd_types.specs.Kinds.{basic_types}
use Rattle.nd_types.specs.Legal.{IsLegal}
use Rattle.nd_types.proofs.PlainLaws.{plain_is_legal}

pub legal : IsLegal basic_types []
legal = plain_is_legal basic_types [] (record {
  basic = refl;
  plain = λ k d lt. absurd (omega (arith, lt));
  few = lit≤ tt;
  distinct = λ i j d low high e. absurd (omega (arith, low, high));
})
