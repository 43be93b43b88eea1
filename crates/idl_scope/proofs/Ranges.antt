-- The values of operators are in range.
use Rattle.std.proofs.Common.{◌≡◌, ℕ, ◌^◌, Bool, true, false, not, refl, List, Option, Ok, Err, ℤ, pos, negsuc, leb, ◌+ℤ◌, ◌-ℤ◌, ◌*ℤ◌}
use Rattle.std.specs.Prelude.{int_div, int_rem}
use Rattle.std.specs.Int.{int_shr}
use Rattle.idl_grammar.specs.declared.expressions.BinaryOperator.{BinaryOperator}
use Rattle.idl_grammar.specs.declared.expressions.BinaryOperator.TheVariants as binary
use Rattle.idl_grammar.specs.declared.expressions.UnaryOperator.{UnaryOperator}
use Rattle.idl_grammar.specs.Tree.{Expr, Unary, Binary, Conditional}
use Rattle.idl_scope.specs.declared.fault.ConstFault.TheVariants.{OutOfRange, ZeroDivisor}
use Rattle.idl_scope.specs.declared.fault.ValueFault.{ValueFault}
use Rattle.idl_scope.specs.Value.{is_in_range, is_zero, truth, bits_in_both, bits_in_either, bits_in_one, Outcome, fault_at, with_value, in_range, shifted, divided, unary_value, binary_value}
use Rattle.idl_scope.specs.Value.{is_decided, value}
use Rattle.idl_scope.specs.declared.meaning.Meaning.{Meaning}

-- a value, where there is one, is in range
abbrev Keeps : Outcome → Type 0
Keeps o = (z : ℤ) → o ≡ Ok z → is_in_range z ≡ true

ok_keeps : (a : ℤ) → is_in_range a ≡ true → Keeps (Ok a)
ok_keeps a h z e = cc

err_keeps : (f : ValueFault) → Keeps (Err f)
err_keeps f z e = cc

told_keeps : (b : Bool) (x y : Outcome) → (b ≡ true → Keeps x) → Keeps y → Keeps (elim b [ true ↦ x | false ↦ y ])
told_keeps true x y kx ky = kx refl
told_keeps false x y kx ky = ky

choice_keeps : (b : Bool) (x y : Outcome) → Keeps x → Keeps y → Keeps (elim b [ true ↦ x | false ↦ y ])
choice_keeps true x y kx ky = kx
choice_keeps false x y kx ky = ky

with_value_keeps : (o : Outcome) (next : ℤ → Outcome) → ((a : ℤ) → Keeps (next a)) → Keeps (with_value o next)
with_value_keeps (Ok a) next k = k a
with_value_keeps (Err f) next k = err_keeps f

truth_keeps : (b : Bool) → Keeps (Ok (truth b))
truth_keeps true = ok_keeps (pos 1) refl
truth_keeps false = ok_keeps (pos 0) refl

in_range_keeps : (at : ℕ) (a : ℤ) → Keeps (in_range at a)
in_range_keeps at a = told_keeps (is_in_range a) (Ok a) (Err (fault_at OutOfRange at)) (ok_keeps a) (err_keeps (fault_at OutOfRange at))

shifted_keeps : (at : ℕ) (by : ℕ → ℤ) (b : ℤ) → Keeps (shifted at by b)
shifted_keeps at by (pos k) = choice_keeps (leb k 63) (in_range at (by k)) (Err (fault_at OutOfRange at)) (in_range_keeps at (by k)) (err_keeps (fault_at OutOfRange at))
shifted_keeps at by (negsuc k) = err_keeps (fault_at OutOfRange at)

divided_keeps : (at : ℕ) (a b : ℤ) → Keeps (divided at a b)
divided_keeps at a b = choice_keeps (is_zero b) (Err (fault_at ZeroDivisor at)) (in_range at a) (err_keeps (fault_at ZeroDivisor at)) (in_range_keeps at a)

binary_keeps : (at : ℕ) (s : BinaryOperator) (a b : ℤ) → Keeps (binary_value at s a b)
binary_keeps at binary.LogicalOr a b = truth_keeps _
binary_keeps at binary.LogicalAnd a b = truth_keeps _
binary_keeps at binary.Or a b = in_range_keeps at (bits_in_either a b)
binary_keeps at binary.ExclusiveOr a b = in_range_keeps at (bits_in_one a b)
binary_keeps at binary.And a b = in_range_keeps at (bits_in_both a b)
binary_keeps at binary.Equal a b = truth_keeps _
binary_keeps at binary.NotEqual a b = truth_keeps _
binary_keeps at binary.Less a b = truth_keeps _
binary_keeps at binary.Greater a b = truth_keeps _
binary_keeps at binary.LessEqual a b = truth_keeps _
binary_keeps at binary.GreaterEqual a b = truth_keeps _
binary_keeps at binary.ShiftLeft a b = shifted_keeps at (λ k. a *ℤ pos (2 ^ k)) b
binary_keeps at binary.ShiftRight a b = shifted_keeps at (λ k. int_shr a k) b
binary_keeps at binary.Add a b = in_range_keeps at (a +ℤ b)
binary_keeps at binary.Subtract a b = in_range_keeps at (a -ℤ b)
binary_keeps at binary.Multiply a b = in_range_keeps at (a *ℤ b)
binary_keeps at binary.Divide a b = divided_keeps at (int_div a b) b
binary_keeps at binary.Remainder a b = divided_keeps at (int_rem a b) b

pub unary_in_range : (meanings : List ℕ → Option Meaning) (at : ℕ) (s : UnaryOperator) (e : Expr) (z : ℤ) → value meanings (Unary at s e) ≡ Ok z → is_in_range z ≡ true
unary_in_range meanings at s e = with_value_keeps (value meanings e) (λ a. in_range at (unary_value s a)) (λ a. in_range_keeps at (unary_value s a))

pub binary_in_range : (meanings : List ℕ → Option Meaning) (l : Expr) (at : ℕ) (s : BinaryOperator) (r : Expr) (z : ℤ) → value meanings (Binary l at s r) ≡ Ok z → is_in_range z ≡ true
binary_in_range meanings l at s r =
    with_value_keeps (value meanings l) _ (λ a. choice_keeps (is_decided s a) (Ok (truth (not (is_zero a)))) (with_value (value meanings r) (λ b. binary_value at s a b))
    (truth_keeps (not (is_zero a))) (with_value_keeps (value meanings r) (λ b. binary_value at s a b) (λ b. binary_keeps at s a b)))

pub conditional_in_range : (meanings : List ℕ → Option Meaning) (c : Expr) (at : ℕ) (a b : Expr) (z : ℤ) → value meanings (Conditional c at a b) ≡ Ok z → is_in_range z ≡ true
conditional_in_range meanings c at a b =
    with_value_keeps (value meanings c) _ (λ t. with_value_keeps (elim (is_zero t) [ true ↦ value meanings b | false ↦ value meanings a ]) (λ v. in_range at v) (λ v. in_range_keeps at v))
