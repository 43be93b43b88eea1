-- The interface of the worked example is legal.
use Rattle.std.proofs.Common.{[], ◌∷◌, refl, lit≤}
use Rattle.nd_types.specs.Layout.{hoists}
use Rattle.nd_types.specs.Legal.{IsLegal, is_shallow, element_count, fits_pipes}
use Rattle.test_text.specs.Worked.{put, put_types}

pub legal : IsLegal put_types (put ∷ [])
unfolding hoists is_shallow element_count fits_pipes
legal = record {
  basic = refl;
  no_later_basic = refl;
  types_known = refl;
  params_known = refl;
  results_known = refl;
  nesting = refl;
  members = refl;
  enumerators = refl;
  bounds = refl;
  elements = refl;
  dimensions = refl;
  array_elements = refl;
  text_elements = refl;
  pipe_elements = refl;
  hoisting_members = refl;
  hoisting_arms = refl;
  pipes = refl;
  contexts = refl;
  tags = refl;
  labels = refl;
  distinct_labels = refl;
  switched_types = refl;
  referents = refl;
  ordered = refl;
  variables = refl;
  sized = refl;
  one_size = refl;
  varying = refl;
  one_length = refl;
  count_variables = refl;
  switched = refl;
  switches = refl;
  switch_variables = refl;
  handles = refl;
  out_pointers = refl;
  out_types = refl;
  results = refl;
  part_names = refl;
  operation_names = refl;
  few_types = lit≤ tt;
  few_operations = lit≤ tt;
  few_params = refl;
  few_parts = lit≤ tt;
}
