-- What a node of a graph has to keep to by itself: the tests of one node, and its first misfit.
-- `d` is a node's type, `l` its label, `ks` are its children, `g` is a graph, `x` a node, `c` a cell or its number, `z` a
-- number, `v` a tag, `a` an arm.
use Rattle.std.specs.Prelude.{ℕ, ◌+◌, ◌^◌, ℤ, Bool, true, false, not, ◌&&◌, ◌||◌, ◌==◌, nat_eq, nat_le, nat_lt, List, [], ◌∷◌, length, Option, Some}
use Rattle.std.specs.Prelude.{None}
use Rattle.std.specs.List.{list_all, list_any}
use Rattle.nd_types.specs.declared.types.TypeDef.{TypeDef}
use Rattle.nd_types.specs.declared.types.Arm.{Arm}
use Rattle.nd_types.specs.declared.types.Class.TheVariants.{Ref}
use Rattle.nd_types.specs.declared.types.TypeDef.TheVariants as def
use Rattle.nd_types.specs.Table.{Table, type_at, selected, is_value, fits_octets}
use Rattle.nd_types.specs.Layout.{arm_type}
use Rattle.nd_value.specs.declared.value.Graph.{Graph}
use Rattle.nd_value.specs.declared.misfit.MisfitReason.{MisfitReason}
use Rattle.nd_value.specs.declared.misfit.MisfitReason.TheVariants as misfit
use Rattle.nd_value.specs.Tree as tree
use Rattle.nd_value.specs.Tree.{Trees, none, count, Label, Referent}
use Rattle.nd_value.specs.Setting.{cell_of_number}
use Rattle.nd_value.specs.Nodes.{child_types, TypedNode}

-- Where the tag selects an arm, the union's value is there exactly if that arm has a type. (Where the tag selects none, what is
-- there is not asked.)
abbrev pub arm_fits : Option Arm → Trees → Bool
arm_fits None ks = true
arm_fits (Some a) ks = count ks == length (arm_type a)

-- a node has the form of its type: the right variant, as many members as the struct has, an arm where one is selected
abbrev pub has_shape : Option TypeDef → Label → Trees → Bool
has_shape (Some (def.Prim p)) (tree.Num z) none = true
has_shape (Some (def.Enum values)) (tree.Num z) none = true
has_shape (Some (def.Struct members)) tree.Rec ks = count ks == length members
has_shape (Some (def.Array elem bound varying)) (tree.Arr max offset) ks = true
has_shape (Some (def.Text elem bound)) (tree.Text max octets) none = true
has_shape (Some (def.Union tag encapsulated arms default)) (tree.Union v) ks = arm_fits (selected arms default v) ks
has_shape (Some (def.Pointer class to)) (tree.Ptr c) none = true
has_shape (Some def.Context) (tree.Context attributes id) none = true
has_shape (Some (def.Pipe elem)) tree.Pipe ks = true
has_shape _ _ ks = false

-- a number or a union's tag is one that its type may hold
abbrev pub has_range : (Option TypeDef → ℤ → Bool) → Table → Option TypeDef → Label → Bool
has_range may_hold table (Some (def.Union tag encapsulated arms default)) (tree.Union v) = may_hold (type_at table tag.0) v
has_range may_hold table d (tree.Num z) = may_hold d z
has_range may_hold table d _ = true

-- a reference pointer is never null
abbrev pub is_no_null_ref : Option TypeDef → Label → Bool
is_no_null_ref (Some (def.Pointer Ref to)) (tree.Ptr None) = false
is_no_null_ref _ _ = true

-- a pointer names a cell that is there: cells are numbered from 1
abbrev pub names_cell : Graph → Label → Bool
names_cell g (tree.Ptr (Some c)) = not (c == 0) && nat_le c (length g.cells)
names_cell g _ = true

-- a cell, where it is there, is of this type
abbrev pub has_type : Option Referent → ℕ → Bool
has_type None t = true
has_type (Some c) t = c.of == t

-- a pointer names a cell of its referent's type
abbrev pub names_pointee : Graph → Option TypeDef → Label → Bool
names_pointee g (Some (def.Pointer class to)) (tree.Ptr (Some c)) = has_type (cell_of_number g c) to.0
names_pointee g _ _ = true

-- a fixed bound is the maximum count
abbrev pub is_bound : Option ℕ → ℕ → Bool
is_bound None max = true
is_bound (Some n) max = max == n

-- The counts of a value have the form of its type: an array that does not vary has offset 0 and as many elements as its
-- maximum count, and a fixed bound is the maximum count.
abbrev pub has_counts : Option TypeDef → Label → Trees → Bool
has_counts (Some (def.Array elem bound true)) (tree.Arr max offset) ks = is_bound bound max
has_counts (Some (def.Array elem bound false)) (tree.Arr max offset) ks = is_bound bound max && offset == 0 && count ks == max
has_counts (Some (def.Text elem bound)) (tree.Text max octets) ks = is_bound bound max
has_counts _ _ ks = true

-- offset and actual count end within the maximum count; a text's actual count includes its terminator
abbrev pub is_within : Label → Trees → Bool
is_within (tree.Arr max offset) ks = nat_le (offset + count ks) max
is_within (tree.Text max octets) ks = nat_le (length octets + 1) max
is_within _ ks = true

-- a text has no zero before its terminator
abbrev pub has_no_zero : Label → Bool
has_no_zero (tree.Text max octets) = not (list_any (nat_eq 0) octets)
has_no_zero _ = true

-- an arm is selected
abbrev pub selects : Option Arm → Bool
selects None = false
selects (Some a) = true

-- a tag selects an arm
abbrev pub has_arm : Option TypeDef → Label → Bool
has_arm (Some (def.Union tag encapsulated arms default)) (tree.Union v) = selects (selected arms default v)
has_arm _ _ = true

-- a reason where a test fails, else what comes later
abbrev pub unless : Bool → MisfitReason → Option MisfitReason → Option MisfitReason
unless true r o = o
unless false r o = Some r

-- the first reason for which a node of a type cannot stand in a graph, or none
abbrev pub misfit_by : Table → Graph → Option TypeDef → Label → Trees → Option MisfitReason
misfit_by table g d l ks =
    unless (has_shape d l ks) misfit.Shape
    (unless (has_range is_value table d l) misfit.Range
    (unless (is_no_null_ref d l) misfit.NullRef
    (unless (names_cell g l) misfit.NoCell
    (unless (names_pointee g d l) misfit.CellType
    (unless (has_counts d l ks && is_within l ks) misfit.Bound
    (unless (has_no_zero l) misfit.Zero
    (unless (has_arm d l) misfit.NoArm None)))))))

-- the same of a node as it stands
abbrev pub misfit_of : Table → Graph → TypedNode → Option MisfitReason
misfit_of table g x = misfit_by table g (type_at table x.of) x.label x.kids

-- a value that is not read: it has no children
abbrev pub is_unread : Label → Trees → Bool
is_unread tree.Unread none = true
is_unread _ _ = false

-- What a node of a partial graph keeps to. One that is unread has no children. Any other has the form and the counts of its type,
-- its numbers are in the range of their octets, it is no reference pointer that is null, and a pointer that is not null names a
-- cell of its referent's type. Allowed are an enumerated value that is no enumerator, an offset and an actual count that end past
-- the maximum count, zero octets in a text, and a tag that selects no arm: then no value is there.
abbrev pub is_partial_node : Table → Graph → TypedNode → Bool
is_partial_node table g x =
    let d = type_at table x.of in
    is_unread x.label x.kids
    || has_shape d x.label x.kids && count x.kids == length (child_types d x.label x.kids) && has_range fits_octets table d x.label
    && is_no_null_ref d x.label
    && names_cell g x.label && names_pointee g d x.label && has_counts d x.label x.kids

-- a number of 8 bits
abbrev pub is_octet : ℕ → Bool
is_octet b = nat_lt b 256

-- a number of 32 bits
abbrev pub is_count : ℕ → Bool
is_count n = nat_lt n (2 ^ 32)

-- A node's counts and attributes fit in 32 bits, its octets in 8, and an identifier has 16 of them: so it is with every value of
-- the program, and without it two graphs with equal octets need not be equal.
abbrev pub has_machine_values : Label → Bool
has_machine_values (tree.Arr max offset) = is_count max && is_count offset
has_machine_values (tree.Text max octets) = is_count max && list_all is_octet octets
has_machine_values (tree.Ptr (Some c)) = is_count c
has_machine_values (tree.Context attributes id) = is_count attributes && length id == 16 && list_all is_octet id
has_machine_values _ = true
