-- Lists of numbers of one primitive.
-- `p` is a primitive, `t` a tree, `vs` are trees, `z` is a number, `zs` are numbers.
use Rattle.std.specs.Prelude.{◌≡◌, ℕ, ℤ, pos, List, [], ◌∷◌, ◌++◌, map, IsTrue}
use Rattle.std.specs.List.{AllByRecursion}
use Rattle.nd_base.specs.declared.octets.Order.TheVariants.{Little}
use Rattle.nd_types.specs.declared.types.Primitive.{Primitive}
use Rattle.nd_types.specs.Table.{in_range}
use Rattle.nd_types.specs.Number.{written}
use Rattle.nd_value.specs.Tree as tree
use Rattle.nd_value.specs.Tree.{Tree, node, none}

-- the number of a tree; 0 where it is none
abbrev pub number_of : Tree → ℤ
number_of (node (tree.Num z) ks) = z
number_of _ = pos 0

abbrev pub numbers_of : List Tree → List ℤ
numbers_of vs = map number_of vs

-- a value of the primitive
pub record IsNumberOf (p : Primitive) (t : Tree) : Type 0 where
  pub alone : t ≡ node (tree.Num (number_of t)) none
  pub fits : IsTrue (in_range p (number_of t))

abbrev pub AreNumbersOf : Primitive → List Tree → Type 0
AreNumbersOf p vs = AllByRecursion (IsNumberOf p) vs

-- the octets of numbers, one after the other, little-endian
abbrev pub written_all : Primitive → List ℤ → List ℕ
written_all p [] = []
written_all p (z ∷ zs) = written Little p z ++ written_all p zs
