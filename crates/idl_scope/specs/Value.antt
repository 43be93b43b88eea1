-- The value of a constant expression (C706, section 4.2.7).
use Rattle.std.specs.Prelude.{ℕ, ◌-◌, ◌^◌, ℤ, pos, Bool, true, false, not, ◌&&◌, ◌||◌, if◌then◌else◌, ◌==◌, nat_lt, negsuc, bit_and, bit_or, bit_xor}
use Rattle.std.specs.Prelude.{nat_le, ◌+ℤ◌}
use Rattle.std.specs.Prelude.{◌-ℤ◌, ◌*ℤ◌, neg_ℤ, int_lt, int_le, int_div, int_rem, List, ◌∷◌, Option, Some, None, Result, Ok, is_some, Err}
use Rattle.std.specs.Int.{bit_at, int_shr}
use Rattle.idl_lexer.specs.Pieces.{number_of}
use Rattle.idl_grammar.specs.declared.expressions.BinaryOperator.{BinaryOperator}
use Rattle.idl_grammar.specs.declared.expressions.BinaryOperator.TheVariants as binary
use Rattle.idl_grammar.specs.declared.expressions.UnaryOperator.{UnaryOperator}
use Rattle.idl_grammar.specs.declared.expressions.UnaryOperator.TheVariants as unary
use Rattle.idl_grammar.specs.declared.expressions.Operand.{Operand}
use Rattle.idl_grammar.specs.declared.expressions.Operand.TheVariants as operand
use Rattle.idl_grammar.specs.Tree.{Expr, Leaf, Round, Unary, Binary, Conditional}
use Rattle.idl_scope.specs.declared.fault.ConstFault.{ConstFault}
use Rattle.idl_scope.specs.declared.fault.ConstFault.TheVariants.{OutOfRange, ZeroDivisor, NotConst}
use Rattle.idl_scope.specs.declared.fault.ValueFault.{ValueFault}
use Rattle.idl_scope.specs.declared.fault.ExpressionFault.{ExpressionFault}
use Rattle.idl_scope.specs.declared.fault.ExpressionFault.TheVariants as fault
use Rattle.idl_scope.specs.declared.meaning.Meaning.{Meaning}
use Rattle.idl_scope.specs.declared.meaning.Meaning.TheVariants as meaning

-- ## Whole numbers in constant expressions

-- `pos n` is n, and `negsuc n` is -(n + 1).

-- what an operator may give: from -2^63 to 2^64 - 1
abbrev pub is_in_range : ℤ → Bool
is_in_range (pos n) = nat_lt n (2 ^ 64)
is_in_range (negsuc n) = nat_lt n (2 ^ 63)

abbrev pub is_zero : ℤ → Bool
is_zero (pos n) = n == 0
is_zero (negsuc n) = false

-- 1 for what holds, 0 for what does not
abbrev pub truth : Bool → ℤ
truth true = pos 1
truth false = pos 0

abbrev pub are_equal : ℤ → ℤ → Bool
are_equal (pos a) (pos b) = a == b
are_equal (pos a) (negsuc b) = false
are_equal (negsuc a) (pos b) = false
are_equal (negsuc a) (negsuc b) = a == b

-- ### Two's complement of unlimited width

-- bit k of a number: those of -(n + 1) are those of n, each the other way
abbrev pub bit : ℤ → ℕ → ℕ
bit (pos n) k = bit_at n k
bit (negsuc n) k = 1 - bit_at n k

-- each bit the other way
abbrev pub complement : ℤ → ℤ
complement (pos n) = negsuc n
complement (negsuc n) = pos n

-- the bits of a that b has not
abbrev pub without : ℕ → ℕ → ℕ
without a b = bit_xor a (bit_and a b)

-- the bits that stand in both
abbrev pub bits_in_both : ℤ → ℤ → ℤ
bits_in_both (pos a) (pos b) = pos (bit_and a b)
bits_in_both (pos a) (negsuc b) = pos (without a b)
bits_in_both (negsuc a) (pos b) = pos (without b a)
bits_in_both (negsuc a) (negsuc b) = negsuc (bit_or a b)

-- the bits that stand in one or in both
abbrev pub bits_in_either : ℤ → ℤ → ℤ
bits_in_either (pos a) (pos b) = pos (bit_or a b)
bits_in_either (pos a) (negsuc b) = negsuc (without b a)
bits_in_either (negsuc a) (pos b) = negsuc (without a b)
bits_in_either (negsuc a) (negsuc b) = negsuc (bit_and a b)

-- the bits that stand in one alone
abbrev pub bits_in_one : ℤ → ℤ → ℤ
bits_in_one (pos a) (pos b) = pos (bit_xor a b)
bits_in_one (pos a) (negsuc b) = negsuc (bit_xor a b)
bits_in_one (negsuc a) (pos b) = negsuc (bit_xor a b)
bits_in_one (negsuc a) (negsuc b) = pos (bit_xor a b)

-- ## What operators give, in whole numbers: the operators of C

-- a value, or a fault and the octet where it is reported
abbrev pub Outcome : Type 0
Outcome = Result ℤ ValueFault

abbrev pub fault_at : ConstFault → ℕ → ValueFault
fault_at fault at = record { at = at; fault = fault }

abbrev pub fails : ConstFault → ℕ → Outcome
fails fault at = Err (fault_at fault at)

-- goes on with a value; a fault stays
abbrev pub with_value : Outcome → (ℤ → Outcome) → Outcome
with_value (Ok z) next = next z
with_value (Err f) next = Err f

-- the value of an operator, which has to be in range
abbrev pub in_range : ℕ → ℤ → Outcome
in_range at z = elim (is_in_range z) [ true ↦ Ok z | false ↦ fails OutOfRange at ]

-- the value of a shift, by 0 to 63 places
abbrev pub shifted : ℕ → (ℕ → ℤ) → ℤ → Outcome
shifted at by (pos k) = elim (nat_le k 63) [ true ↦ in_range at (by k) | false ↦ fails OutOfRange at ]
shifted at by (negsuc k) = fails OutOfRange at

-- what a division gives, by a divisor that is not 0
abbrev pub divided : ℕ → ℤ → ℤ → Outcome
divided at z divisor = elim (is_zero divisor) [ true ↦ fails ZeroDivisor at | false ↦ in_range at z ]

abbrev pub unary_value : UnaryOperator → ℤ → ℤ
unary_value unary.Plus a = a
unary_value unary.Minus a = neg_ℤ a
unary_value unary.Complement a = complement a
unary_value unary.Not a = truth (is_zero a)

-- `/` rounds toward zero, `%` has the sign of the left operand, and `>>` rounds down.
abbrev pub binary_value : ℕ → BinaryOperator → ℤ → ℤ → Outcome
binary_value at binary.LogicalOr a b = Ok (truth (not (is_zero a) || not (is_zero b)))
binary_value at binary.LogicalAnd a b = Ok (truth (not (is_zero a) && not (is_zero b)))
binary_value at binary.Or a b = in_range at (bits_in_either a b)
binary_value at binary.ExclusiveOr a b = in_range at (bits_in_one a b)
binary_value at binary.And a b = in_range at (bits_in_both a b)
binary_value at binary.Equal a b = Ok (truth (are_equal a b))
binary_value at binary.NotEqual a b = Ok (truth (not (are_equal a b)))
binary_value at binary.Less a b = Ok (truth (int_lt a b))
binary_value at binary.Greater a b = Ok (truth (int_lt b a))
binary_value at binary.LessEqual a b = Ok (truth (int_le a b))
binary_value at binary.GreaterEqual a b = Ok (truth (int_le b a))
binary_value at binary.ShiftLeft a b = shifted at (λ k. a *ℤ pos (2 ^ k)) b
binary_value at binary.ShiftRight a b = shifted at (λ k. int_shr a k) b
binary_value at binary.Add a b = in_range at (a +ℤ b)
binary_value at binary.Subtract a b = in_range at (a -ℤ b)
binary_value at binary.Multiply a b = in_range at (a *ℤ b)
binary_value at binary.Divide a b = divided at (int_div a b) b
binary_value at binary.Remainder a b = divided at (int_rem a b) b

-- whether the left operand decides alone, so that the right one is not evaluated
abbrev pub is_decided : BinaryOperator → ℤ → Bool
is_decided binary.LogicalOr a = not (is_zero a)
is_decided binary.LogicalAnd a = is_zero a
is_decided _ a = false

-- ## Values

-- what C's escapes \a \b \f \n \r \t \v stand for; any other character after a backslash stands for itself
abbrev pub escaped : ℕ → ℕ
escaped c =
    if c == 97 then 7 else (if c == 98 then 8 else (if c == 102 then 12 else (if c == 110 then 10
    else (if c == 114 then 13 else (if c == 116 then 9 else (if c == 118 then 11 else c))))))

-- the value of a character between its quotes: that of its octet, or of its escape
abbrev pub character_value : List ℕ → ℕ
character_value (quote ∷ c ∷ d ∷ rest) = if c == 92 then escaped d else c
character_value _ = 0

abbrev pub number_or_fault : ℕ → Option ℕ → Outcome
number_or_fault at (Some n) = Ok (pos n)
number_or_fault at None = fails OutOfRange at

-- a name that is not known stands for no number either
abbrev pub name_value : ℕ → Option Meaning → Outcome
name_value at (Some (meaning.Number z)) = Ok z
name_value at _ = fails NotConst at

-- The value of one token. `meanings` tells what the names that are known stand for. A number past 2^64 - 1 is no token, and out of range.
abbrev pub operand_value : (List ℕ → Option Meaning) → Operand → Outcome
operand_value meanings (operand.Number s) = number_or_fault s.at (number_of s.octets)
operand_value meanings (operand.Character s) = Ok (pos (character_value s.octets))
operand_value meanings (operand.Name s) = name_value s.at (meanings s.octets)
operand_value meanings (operand.True at) = Ok (pos 1)
operand_value meanings (operand.False at) = Ok (pos 0)

-- what `?:` gives, from its condition and its two operands
abbrev pub chosen : ℤ → (if_not_zero if_zero : Outcome) → Outcome
chosen condition if_not_zero if_zero = elim (is_zero condition) [ true ↦ if_zero | false ↦ if_not_zero ]

-- what an operator gives whose right operand is evaluated unless the left one decides
abbrev pub joined : ℕ → BinaryOperator → ℤ → (right : Outcome) → Outcome
joined at s a right = elim (is_decided s a) [ true ↦ Ok (truth (not (is_zero a))) | false ↦ with_value right (λ b. binary_value at s a b) ]

-- The value of an expression, or its first fault, operands from left to right. An operator has its fault at itself.
abbrev pub value : (List ℕ → Option Meaning) → Expr → Outcome
value meanings (Leaf a) = operand_value meanings a
value meanings (Round at e) = value meanings e
value meanings (Unary at s e) = with_value (value meanings e) (λ a. in_range at (unary_value s a))
value meanings (Binary l at s r) = with_value (value meanings l) (λ a. joined at s a (value meanings r))
value meanings (Conditional c at a b) =
    with_value (value meanings c) (λ z. with_value (chosen z (value meanings a) (value meanings b)) (λ v. in_range at v))

-- the reason alone
abbrev pub constant : Outcome → Result ℤ ConstFault
constant (Ok z) = Ok z
constant (Err f) = Err f.fault

-- ### Names that are not known

abbrev pub or_else : Option ℕ → Option ℕ → Option ℕ
or_else (Some at) other = Some at
or_else None other = other

abbrev pub unknown_operand : (List ℕ → Option Meaning) → Operand → Option ℕ
unknown_operand meanings (operand.Name s) = if is_some (meanings s.octets) then None else Some s.at
unknown_operand meanings _ = None

-- where the first name of an expression stands that is not known, evaluated or not
abbrev pub first_unknown : (List ℕ → Option Meaning) → Expr → Option ℕ
first_unknown meanings (Leaf a) = unknown_operand meanings a
first_unknown meanings (Round at e) = first_unknown meanings e
first_unknown meanings (Unary at s e) = first_unknown meanings e
first_unknown meanings (Binary l at s r) = or_else (first_unknown meanings l) (first_unknown meanings r)
first_unknown meanings (Conditional c at a b) = or_else (first_unknown meanings c) (or_else (first_unknown meanings a) (first_unknown meanings b))

-- The value where all names are known, else the fault that stands first in the text: a name that is not known, or the fault of the value.
abbrev pub first_fault : Option ℕ → Outcome → Result ℤ ExpressionFault
first_fault None (Ok z) = Ok z
first_fault None (Err f) = Err (fault.Const f)
first_fault (Some at) (Ok z) = Err (fault.Unknown at)
first_fault (Some at) (Err f) = Err (if nat_le at f.at then fault.Unknown at else fault.Const f)

-- what an expression comes to in its place, where all its names have to be known
abbrev pub evaluated : (List ℕ → Option Meaning) → Expr → Result ℤ ExpressionFault
evaluated meanings e = first_fault (first_unknown meanings e) (value meanings e)
