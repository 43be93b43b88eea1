-- How many digits a count has.
use Rattle.std.proofs.Common.{◌≡◌, ap, ℕ, ◌≤◌, List, length, decimal, arith, subst, sym}
use Rattle.std.proofs.lemmas.Fmt.{length-decimal-le}

pub few_digits : (n : ℕ) (octets : List ℕ) → n ≤ 4096 → octets ≡ decimal n → length octets ≤ 4
few_digits n octets h e =
    let P : List ℕ → Type 0 = λ l. length l ≤ 4 in
    subst P (sym e) (length-decimal-le 4 n (omega arith) (omega (arith, h)) (omega (arith, h)))
