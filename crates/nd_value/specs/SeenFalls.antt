-- A value's children have fewer nodes than the value.
use Rattle.std.specs.Prelude.{ℕ, ◌+◌, ◌≤◌, List, [], ◌∷◌, map, Option, Some, None}
use Rattle.std.specs.declared.boxed.Box.{Box}
use Rattle.std.specs.declared.alloc.Global.{Global}
use Rattle.std.proofs.Common.{arith}
use denote.Param.Weighed.{most}
use Rattle.nd_value.specs.declared.value.Val.{Val}
use Rattle.nd_value.specs.declared.value.Val.TheVariants.{Num, Rec, Arr, Text, Union, Ptr, Context, Pipe}
use Rattle.nd_value.specs.declared.value.ArmVal.TheDeep.{deep-Val}
use Rattle.nd_value.specs.declared.value.ArmVal.TheDeep as deep
use Rattle.nd_value.specs.declared.value.ArmVal.TheInside as arm
use Rattle.nd_value.specs.declared.value.Vals.TheInside as vals
use Rattle.nd_value.specs.Tree.{Tree, trees, node_count, weight, more, node, none}
use Rattle.nd_value.specs.Tree as tree
use Rattle.nd_value.specs.Seen.{tree_of, arm_trees}

deep_le : (v : Val) → deep-Val v ≤ node_count (more (tree_of v) none)
deep_le (Num z) = omega arith
deep_le (Rec vs) = omega arith
deep_le (Arr max offset vs) = omega arith
deep_le (Text max octets) = omega arith
deep_le (Union tag arm) = omega arith
deep_le (Ptr cell) = omega arith
deep_le (Context attributes id) = omega arith
deep_le (Pipe vs) = omega arith

split_weight : (t : Tree) (ts : List Tree) → node_count (more t none) ≤ weight (t ∷ ts)
split_weight (node l ks) ts = omega arith

tail_weight : (t : Tree) (ts : List Tree) → weight ts ≤ weight (t ∷ ts)
tail_weight (node l ks) ts = omega arith

pub most_le : (vs : List Val) → most deep-Val vs ≤ weight (map tree_of vs)
most_le [] = omega arith
most_le (v ∷ vs) =
    omega (arith, most_le vs, deep_le v, split_weight (tree_of v) (map tree_of vs), tail_weight (tree_of v) (map tree_of vs))

pub vals_fall : (a : vals.Inside) → deep.deep-Vals a ≤ weight (map tree_of a.items.items)
vals_fall a = omega (arith, most_le a.items.items)

pub arm_falls : (a : arm.Inside) → deep.deep-ArmVal a ≤ weight (arm_trees a.val)
arm_falls a = go a.val
  where
    go : (o : Option (Box Val Global)) → deep.deep-ArmVal (record { val = o }) ≤ weight (arm_trees o)
    go None = omega arith
    go (Some b) = omega (arith, deep_le b.value)
