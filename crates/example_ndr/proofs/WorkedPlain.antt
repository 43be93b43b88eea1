-- Worked examples without pointers.
use Rattle.std.proofs.Common.{[], ◌∷◌, refl}
use Rattle.std.specs.Prelude.{pos}
use Rattle.nd_base.specs.declared.octets.Order.TheVariants.{Big, Little}
use Rattle.nd_types.specs.Layout.{align_of, hoists}
use Rattle.nd_types.specs.Roots.{roots_of}
use Rattle.nd_value.specs.declared.value.Graph.{Graph}
use Rattle.nd_value.specs.declared.item.Home.TheVariants as home
use Rattle.nd_value.specs.declared.misfit.MisfitReason.TheVariants as misfit
use Rattle.nd_value.specs.Setting.{unread}
use Rattle.nd_value.specs.Conforms.{IsFirstMisfit, is_local}
use Rattle.nd_grammar.specs.declared.reason.Reason.TheVariants as reason
use Rattle.nd_grammar.specs.Stream.{Represents, Chosen}
use Rattle.nd_grammar.specs.Refusal.{Bad}
use Rattle.nd_grammar.specs.ExampleParts.{request, num}
use Rattle.example_ndr.specs.ExamplesPlain.{integers, one_two_three, integers_little, integers_big, cut_in_hyper, cut_in_gap, flag, true_flag, colour, colour_4, handle, a_handle, handle_little}
use Rattle.example_ndr.specs.ExamplesPlain.{handle_big}
use Rattle.example_ndr.proofs.Check.{represents_so, bad_so, partial_so, chosen_so}

pub three_integers : Represents integers Little integers_little one_two_three
unfolding align_of hoists roots_of
three_integers = represents_so integers Little integers_little one_two_three [] 10 refl tt refl refl refl refl

pub three_integers_big : Represents integers Big integers_big one_two_three
unfolding align_of hoists roots_of
three_integers_big = represents_so integers Big integers_big one_two_three [] 10 refl tt refl refl refl refl

pub three_integers_written : Chosen integers Little 1 one_two_three integers_little
unfolding align_of hoists roots_of
three_integers_written = chosen_so integers Little 1 one_two_three integers_little 10 refl refl

-- no parameters, no octets
abbrev pub nothing : Graph
nothing = record { roots = []; cells = [] }

pub no_parameters : Represents (request [] []) Little [] nothing
unfolding align_of hoists roots_of
no_parameters = represents_so (request [] []) Little [] nothing [] 10 refl tt refl refl refl refl

-- cut short: the third number is not whole, or the gap before it
abbrev pub third_cut : Graph
third_cut = record { roots = num (pos 1) ∷ num (pos 2) ∷ num (pos 0) ∷ []; cells = [] }

pub cut_number : Bad integers Little cut_in_hyper 9 reason.Truncated
unfolding align_of hoists roots_of
cut_number =
    bad_so integers Little cut_in_hyper 9 reason.Truncated third_cut [] 20 5 _ _ (partial_so integers third_cut refl refl refl refl) refl tt refl refl refl refl refl

pub cut_gap : Bad integers Little cut_in_gap 7 reason.Truncated
unfolding align_of hoists roots_of
cut_gap =
    bad_so integers Little cut_in_gap 7 reason.Truncated third_cut [] 20 4 _ _ (partial_so integers third_cut refl refl refl refl) refl tt refl refl refl refl refl

-- cut within the first number, the others being unread
abbrev pub first_cut : Graph
first_cut = record { roots = num (pos 0) ∷ unread ∷ unread ∷ []; cells = [] }

pub cut_first : Bad integers Little (1 ∷ 0 ∷ 0 ∷ []) 3 reason.Truncated
unfolding align_of hoists roots_of
cut_first =
    bad_so integers Little (1 ∷ 0 ∷ 0 ∷ []) 3 reason.Truncated first_cut [] 20 1 _ _ (partial_so integers first_cut refl refl refl refl) refl tt refl refl refl refl refl

-- a short of 40000
abbrev pub too_great : Graph
too_great = record { roots = num (pos 1) ∷ num (pos 40000) ∷ num (pos 3) ∷ []; cells = [] }

pub out_of_range : IsFirstMisfit integers too_great (record { home = home.Root 1; node = 0; reason = misfit.Range })
unfolding align_of hoists roots_of
out_of_range = is_local _ refl

-- a missing root
abbrev pub two_roots : Graph
two_roots = record { roots = num (pos 1) ∷ num (pos 2) ∷ []; cells = [] }

pub root_missing : IsFirstMisfit integers two_roots (record { home = home.Root 2; node = 0; reason = misfit.Shape })
unfolding align_of hoists roots_of
root_missing = is_local _ refl

-- any octet but zero is TRUE, and TRUE is written as 1
pub any_truth : Represents flag Little (0xFF ∷ []) true_flag
unfolding align_of hoists roots_of
any_truth = represents_so flag Little (0xFF ∷ []) true_flag [] 10 refl tt refl refl refl refl

pub truth_written : Chosen flag Little 1 true_flag (1 ∷ [])
unfolding align_of hoists roots_of
truth_written = chosen_so flag Little 1 true_flag (1 ∷ []) 10 refl refl

-- an enumerated value is one of its enumerators
pub enumerated : Represents colour Little (4 ∷ 0 ∷ []) colour_4
unfolding align_of hoists roots_of
enumerated = represents_so colour Little (4 ∷ 0 ∷ []) colour_4 [] 10 refl tt refl refl refl refl

pub no_enumerator : Bad colour Little (1 ∷ 0 ∷ []) 0 reason.EnumValue
unfolding align_of hoists roots_of
no_enumerator =
    bad_so colour Little (1 ∷ 0 ∷ []) 0 reason.EnumValue colour_4 [] 20 1 _ _ (partial_so colour colour_4 refl refl refl refl) refl tt refl refl refl refl refl

-- a context handle in both orders
pub handle_in_little : Represents handle Little handle_little a_handle
unfolding align_of hoists roots_of
handle_in_little = represents_so handle Little handle_little a_handle [] 20 refl tt refl refl refl refl

pub handle_in_big : Represents handle Big handle_big a_handle
unfolding align_of hoists roots_of
handle_in_big = represents_so handle Big handle_big a_handle [] 20 refl tt refl refl refl refl

pub handle_written : Chosen handle Big 1 a_handle handle_big
unfolding align_of hoists roots_of
handle_written = chosen_so handle Big 1 a_handle handle_big 20 refl refl
