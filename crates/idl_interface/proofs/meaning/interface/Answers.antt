use Rattle.std.proofs.Common.{◌≡◌, ◌∙◌, ◌≤◌, ℕ, true, List, [], ◌∷◌, map, sym, ap, subst, subst₂}
use Rattle.std.specs.List.{list_all}
use Rattle.nd_base.specs.Text.{is_identifier}
use Rattle.nd_types.specs.Table.{Table}
use Rattle.nd_types.specs.declared.types.Operation.{Operation}
use Rattle.nd_types.specs.Legal.{IsLegal, has_named_parts, has_names}
use Rattle.idl_grammar.specs.declared.attributes.Attribute as attributes
use Rattle.idl_grammar.specs.Seen.{seen_attribute, seen_tree}
use Rattle.idl_rule_definitions.specs.Attributes.{first_said}
use Rattle.idl_rule_definitions.specs.Checked.{world_of}
use Rattle.idl_rule_definitions.specs.Scene.{scene_of}
use Rattle.nd_types.specs.Meant.{Meant}
use Rattle.idl_rule_definitions.specs.Meaning.{meaning, header_meant, types_of, uuid_said, major_said, minor_said, or_none}
use Rattle.idl_legal_laws.proofs.Few.{few_types}
use Rattle.idl_legal_laws.proofs.fields.Limits.{few_params, few_parts}
use Rattle.idl_legal_laws.proofs.Scenes.{kept}
use Rattle.idl_legal_laws.proofs.legal.Counts as counts
use Rattle.nd_types.specs.declared.TheConstants.{MEMBER_LIMIT}
use Rattle.idl_interface.proofs.Limits.{each_few}
use Rattle.idl_interface.proofs.MainFile.{meant_is, small_major, small_minor, small_version}
use Rattle.idl_interface.proofs.meaning.interface.Goals as goal

pub invariant_of-result : goal.invariant_of-result
invariant_of-result c =
    let w = world_of c.args.scope.now in
    record {
      named = subst (λ (n : List ℕ). is_identifier n ≡ true) (sym c.in_ok-name.ensures.same) c.in_ok-name.ensures.named;
      legal = subst₂ IsLegal (sym c.in_ok-types.ensures.made) (sym c.in_ok-operations.ensures.made)
          (c.meaning_is_legal.ensures.tables w c.requires.kept (record {
            part_names = subst (λ (t : Table). list_all has_named_parts t ≡ true) c.in_ok-types.ensures.made c.in_ok-types.ensures.named;
            operation_names = subst (λ (o : List Operation). list_all has_names o ≡ true) c.in_ok-operations.ensures.made c.in_ok-operations.ensures.named;
          }));
      laid_out = c.in_ok-layouts.ensures;
    }

pub type_table-requires-clause-program : goal.type_table-requires-clause-program
type_table-requires-clause-program c =
    let w = world_of c.args.scope.now in
    record {
      types = c.requires.types;
      tags = c.requires.tags;
      operations = c.requires.operations;
      numbers = c.requires.numbers;
      few = few_types (scene_of w) (kept w c.requires.kept).none;
    }

pub type_table-requires-clause-few : goal.type_table-requires-clause-few
type_table-requires-clause-few c =
    let w = world_of c.args.scope.now in
    each_few MEMBER_LIMIT (types_of (scene_of w)) (few_parts w (kept w c.requires.kept).none)

pub all_operations-requires-clause-program : goal.all_operations-requires-clause-program
all_operations-requires-clause-program c =
    let w = world_of c.args.scope.now in
    record {
      types = c.requires.types;
      tags = c.requires.tags;
      operations = c.requires.operations;
      numbers = c.requires.numbers;
      few = few_types (scene_of w) (kept w c.requires.kept).none;
    }

pub all_operations-requires-clause-few : goal.all_operations-requires-clause-few
all_operations-requires-clause-few c =
    let w = world_of c.args.scope.now in
    few_params (scene_of w) (kept w c.requires.kept).none

pub type_table-requires-clause-bounds : goal.type_table-requires-clause-bounds
type_table-requires-clause-bounds c =
    let w = world_of c.args.scope.now in
    counts.bounds (scene_of w) (kept w c.requires.kept)

pub major-major-requires : goal.major-major-requires
major-major-requires c =
    subst (λ (l : List attributes.Attribute). or_none (first_said major_said (map seen_attribute l)) ≤ 65535) (sym c.as_slice-list.ensures.value)
    (small_version major_said small_major (world_of c.args.scope.now) (seen_tree c.main_tree-tree.result.now) c.requires.kept c.main_tree-tree.ensures)

pub minor-minor-requires : goal.minor-minor-requires
minor-minor-requires c =
    subst (λ (l : List attributes.Attribute). or_none (first_said minor_said (map seen_attribute l)) ≤ 65535) (sym c.as_slice-list.ensures.value)
    (small_version minor_said small_minor (world_of c.args.scope.now) (seen_tree c.main_tree-tree.result.now) c.requires.kept c.main_tree-tree.ensures)

pub returns : goal.returns
unfolding meaning
returns c =
    let w = world_of c.args.scope.now in
    let s = scene_of w in
    let same = c.as_slice-list.ensures.value in
    ap (map (header_meant s)) c.main_tree-tree.ensures
    ∙ ap (λ (m : Meant). m ∷ [])
    (meant_is s (seen_tree c.main_tree-tree.result.now) _ c.in_ok-name.ensures.same
    (c.uuid-uuid.ensures ∙ ap (λ l. first_said uuid_said (map seen_attribute l)) same)
    (c.major-major.ensures ∙ ap (λ l. or_none (first_said major_said (map seen_attribute l))) same)
    (c.minor-minor.ensures ∙ ap (λ l. or_none (first_said minor_said (map seen_attribute l))) same)
    c.in_ok-types.ensures.made c.in_ok-operations.ensures.made)
