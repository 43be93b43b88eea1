-- Files that break no rule mean a legal interface.
use Rattle.std.proofs.Common.{◌≡◌, []}
use Rattle.nd_types.specs.Legal.{IsLegal}
use Rattle.idl_rule_definitions.specs.Nodes.{World}
use Rattle.idl_rule_definitions.specs.Scene.{scene_of}
use Rattle.idl_rule_definitions.specs.Rules.{breaches}
use Rattle.idl_rule_definitions.specs.Meaning.{types_of, operations_of, HasIdentifiers}
use Rattle.idl_legal_laws.proofs.Referents.{table_referents}
use Rattle.idl_legal_laws.proofs.Few.{few_types}
use Rattle.idl_legal_laws.proofs.Scenes.{kept}
use Rattle.idl_legal_laws.proofs.legal.Known as known
use Rattle.idl_legal_laws.proofs.legal.Values as values
use Rattle.idl_legal_laws.proofs.legal.Places as places
use Rattle.idl_legal_laws.proofs.legal.Alone as alone
use Rattle.idl_legal_laws.proofs.legal.Counts as counts
use Rattle.idl_legal_laws.proofs.fields.Facts.{legal_fields}

-- files that break no rule, and whose names are identifiers, mean a legal interface
pub all_legal : (w : World) → breaches w ≡ [] → HasIdentifiers (types_of (scene_of w)) (operations_of (scene_of w)) → IsLegal (types_of (scene_of w)) (operations_of (scene_of w))
all_legal w h named =
    let s = scene_of w in
    let k = kept w h in
    let f = legal_fields w h in
    record {
      basic = known.basic s;
      no_later_basic = known.no_later_basic s;
      types_known = known.types_known s k;
      params_known = f.params_known;
      results_known = f.results_known;
      nesting = known.nesting s k;
      members = known.members s;
      enumerators = values.enumerators s k;
      bounds = counts.bounds s k;
      elements = counts.elements s k;
      dimensions = counts.fixed_dimensions s k;
      array_elements = places.array_elements s k;
      text_elements = counts.text_elements s k;
      pipe_elements = places.pipe_elements s k;
      hoisting_members = places.hoisting_members s k;
      hoisting_arms = places.hoisting_arms s k;
      pipes = alone.pipes s k;
      contexts = alone.contexts s k;
      tags = known.tags s k;
      labels = values.labels s k;
      distinct_labels = values.distinct_labels s k;
      switched_types = alone.switched_types s k;
      referents = table_referents s k.none;
      ordered = f.ordered;
      variables = f.variables;
      sized = f.sized;
      one_size = f.one_size;
      varying = f.varying;
      one_length = f.one_length;
      count_variables = f.count_variables;
      switched = f.switched;
      switches = f.switches;
      switch_variables = f.switch_variables;
      handles = f.handles;
      out_pointers = f.out_pointers;
      out_types = f.out_types;
      results = f.results;
      part_names = named.part_names;
      operation_names = named.operation_names;
      few_types = few_types s k.none;
      few_operations = f.few_operations;
      few_params = f.few_params;
      few_parts = f.few_parts;
    }
