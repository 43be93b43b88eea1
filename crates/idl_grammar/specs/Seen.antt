-- The tree of the program as the grammar's tree: the same parts, without where they lie in memory.
use Rattle.std.specs.Prelude.{List, map, option_map}
use Rattle.idl_grammar.specs.declared.expressions.Expr as program
use Rattle.idl_grammar.specs.declared.expressions.Expr.TheVariants as exprs
use Rattle.idl_grammar.specs.declared.attributes.AttributeKind as kinds
use Rattle.idl_grammar.specs.declared.attributes.AttributeKind.TheVariants as kind
use Rattle.idl_grammar.specs.declared.attributes.Attribute as attribute
use Rattle.idl_grammar.specs.declared.attributes.Attributes as attributes
use Rattle.idl_grammar.specs.declared.declarators.Bound as bounds
use Rattle.idl_grammar.specs.declared.declarators.Bound.TheVariants as bound
use Rattle.idl_grammar.specs.declared.declarators.Declarator as declarator
use Rattle.idl_grammar.specs.declared.declarators.Init as inits
use Rattle.idl_grammar.specs.declared.declarators.Init.TheVariants as init
use Rattle.idl_grammar.specs.declared.types.Enumerator as enumerator
use Rattle.idl_grammar.specs.declared.types.Label as labels
use Rattle.idl_grammar.specs.declared.types.Label.TheVariants as label
use Rattle.idl_grammar.specs.declared.types.TypeSpec as types
use Rattle.idl_grammar.specs.declared.types.TypeSpec.TheVariants as type
use Rattle.idl_grammar.specs.declared.types.Arm as arms
use Rattle.idl_grammar.specs.declared.types.Arm.TheVariants as arm
use Rattle.idl_grammar.specs.declared.types.Member as member
use Rattle.idl_grammar.specs.declared.types.Case as case
use Rattle.idl_grammar.specs.declared.files.Import as import
use Rattle.idl_grammar.specs.declared.files.Parameter as parameter
use Rattle.idl_grammar.specs.declared.files.Parameters as lists
use Rattle.idl_grammar.specs.declared.files.Parameters.TheVariants as list
use Rattle.idl_grammar.specs.declared.files.Export as exports
use Rattle.idl_grammar.specs.declared.files.Export.TheVariants as export
use Rattle.idl_grammar.specs.declared.files.Tree as trees
use Rattle.idl_grammar.specs.Tree as tree
use Rattle.idl_grammar.specs.Reading.{MemberParts}

-- an expression
abbrev pub seen_expr : program.Expr → tree.Expr
seen_expr (exprs.Leaf a) = tree.Leaf a
seen_expr (exprs.Round' at p e) = tree.Round at (seen_expr e)
seen_expr (exprs.Unary' at s p e) = tree.Unary at s (seen_expr e)
seen_expr (exprs.Binary' p l at s q r) = tree.Binary (seen_expr l) at s (seen_expr r)
seen_expr (exprs.Conditional' p c at q a o b) = tree.Conditional (seen_expr c) at (seen_expr a) (seen_expr b)

abbrev pub seen_kind : kinds.AttributeKind → tree.AttributeKind
seen_kind (kind.Uuid u) = tree.Uuid u
seen_kind (kind.Version major minor) = tree.Version major minor
seen_kind (kind.Endpoint list) = tree.Endpoint list.items
seen_kind kind.Local = tree.Local
seen_kind (kind.PointerDefault c) = tree.PointerDefault c
seen_kind (kind.Class c) = tree.Class c
seen_kind kind.In = tree.In
seen_kind kind.Out = tree.Out
seen_kind kind.String = tree.String
seen_kind kind.ContextHandle = tree.ContextHandle
seen_kind (kind.Of word v) = tree.Of word v
seen_kind (kind.SwitchTypeIs s) = tree.SwitchTypeIs s
seen_kind (kind.Case values) = tree.Case (map seen_expr values.items)
seen_kind kind.Default = tree.Default
seen_kind kind.Idempotent = tree.Idempotent
seen_kind kind.Broadcast = tree.Broadcast
seen_kind kind.Maybe = tree.Maybe
seen_kind kind.AnySize = tree.AnySize
seen_kind kind.AnyLength = tree.AnyLength

abbrev pub seen_attribute : attribute.Attribute → tree.Attribute
seen_attribute a = record { at = a.at; kind = seen_kind a.kind }

abbrev pub seen_attributes : attributes.Attributes → tree.Attributes
seen_attributes a = record { at = a.at; list = map seen_attribute a.list.items }

abbrev pub seen_bound : bounds.Bound → tree.Bound
seen_bound bound.Star = tree.Star
seen_bound (bound.Count e) = tree.Count (seen_expr e)
seen_bound (bound.From e) = tree.From (seen_expr e)
seen_bound (bound.Between e f) = tree.Between (seen_expr e) (seen_expr f)

abbrev pub seen_declarator : declarator.Declarator → tree.Declarator
seen_declarator d = record { stars = d.stars.items; name = d.name; dimensions = map (option_map seen_bound) d.dimensions.items }

abbrev pub seen_init : inits.Init → tree.Init
seen_init (init.Text s) = tree.Text s
seen_init (init.Null at) = tree.Null at
seen_init (init.Value e) = tree.Value (seen_expr e)

abbrev pub seen_enumerator : enumerator.Enumerator → tree.Enumerator
seen_enumerator e = record { name = e.name; value = option_map seen_expr e.value }

abbrev pub seen_label : labels.Label → tree.Label
seen_label (label.Value at e) = tree.Value at (seen_expr e)
seen_label (label.Default at) = tree.Default at

abbrev mutual
  -- A type. The rows are the vectors in it.
  pub seen_type : types.TypeSpec → tree.TypeSpec
  seen_type (type.Simple s) = tree.Simple s
  seen_type (type.Name n) = tree.Name n
  seen_type (type.Tag at kind tag) = tree.Tag at kind tag
  seen_type (type.Struct' at tag s row) = tree.Struct at tag (seen_members row)
  seen_type (type.EncapsulatedUnion' at tag d name s row) = tree.EncapsulatedUnion at tag d name (seen_cases row)
  seen_type (type.NonEncapsulatedUnion' at tag s row) = tree.NonEncapsulatedUnion at tag (seen_arms row)
  seen_type (type.Enum at tag es) = tree.Enum at tag (map seen_enumerator es.items)

  pub seen_members : {s : _} → types.Row_of-Member s → tree.Members
  seen_members types.end_of-Member = tree.no_members
  seen_members (types.more_of-Member at a type ds rest) =
      tree.next_member at (option_map seen_attributes a) (seen_type type) (map seen_declarator ds.items) (seen_members rest)

  pub seen_cases : {s : _} → types.Row_of-Case s → tree.Cases
  seen_cases types.end_of-Case = tree.no_cases
  seen_cases (types.more_of-Case ls a rest) = tree.next_case (map seen_label ls.items) (seen_arm a) (seen_cases rest)

  pub seen_arms : {s : _} → types.Row_of-Arm s → tree.Arms
  seen_arms types.end_of-Arm = tree.no_arms
  seen_arms (types.more_of-Arm a rest) = tree.next_arm (seen_arm a) (seen_arms rest)

  pub seen_arm : arms.Arm → tree.Arm
  seen_arm (arm.Empty at a) = tree.Empty at (option_map seen_attributes a)
  seen_arm (arm.Typed at a type d) = tree.Typed at (option_map seen_attributes a) (seen_type type) (seen_declarator d)

-- ## Files

abbrev pub seen_import : import.Import → tree.Import
seen_import m = record { files = m.files.items }

abbrev pub seen_parameter : parameter.Parameter → tree.Parameter
seen_parameter p =
    record { at = p.at; attributes = option_map seen_attributes p.attributes; type = seen_type p.of; declarator = seen_declarator p.declarator }

abbrev pub seen_parameters : lists.Parameters → tree.Parameters
seen_parameters list.Absent = tree.Absent
seen_parameters list.Void = tree.Void
seen_parameters (list.List ps) = tree.Listed (map seen_parameter ps.items)

abbrev pub seen_export : exports.Export → tree.Export
seen_export (export.Typedef at a pipe type ds) = tree.Typedef at (option_map seen_attributes a) pipe (seen_type type) (map seen_declarator ds.items)
seen_export (export.Const at type star name value) = tree.Const at type star name (seen_init value)
seen_export (export.Tagged at a type) = tree.Tagged at (option_map seen_attributes a) (seen_type type)
seen_export (export.Operation at a result name ps) = tree.Operation at (option_map seen_attributes a) (seen_type result) name (seen_parameters ps)

-- a file
abbrev pub seen_tree : trees.Tree → tree.Tree
seen_tree t = record {
  attributes = seen_attributes t.attributes;
  name = t.name;
  imports = map seen_import t.imports.items;
  exports = map seen_export t.exports.items;
}

-- ## Items of lists inside types, as they are read

-- a member of a struct
abbrev pub seen_member : member.Member → MemberParts
seen_member m = (m.at, (option_map seen_attributes m.attributes, (seen_type m.of, map seen_declarator m.declarators.items)))

-- a case of a union
abbrev pub seen_case : case.Case → List tree.Label × tree.Arm
seen_case c = (map seen_label c.labels.items, seen_arm c.arm)
