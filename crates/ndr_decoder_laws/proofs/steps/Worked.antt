-- The steps at a short of the basic types: the premises of the laws can be met.
use Rattle.std.proofs.Common.{◌≡◌, ◌≤◌, ℕ, ◌+◌, false, List, [], ◌∷◌, None, refl, lit≤}
use Rattle.std.specs.Prelude.{pos}
use Rattle.nd_base.specs.declared.octets.Order.TheVariants.{Little}
use Rattle.nd_types.specs.declared.types.Attr.{Attr}
use Rattle.nd_types.specs.declared.types.Attr.TheVariants as attr
use Rattle.nd_types.specs.declared.types.Primitive.TheVariants.{Short}
use Rattle.nd_types.specs.declared.types.TypeDef.TheVariants as def
use Rattle.nd_types.specs.Kinds.{basic_types}
use Rattle.nd_types.specs.Layout.{align_of, hoists}
use Rattle.nd_value.specs.declared.item.Home.{Home}
use Rattle.nd_value.specs.declared.item.Item.{Item}
use Rattle.nd_value.specs.declared.item.ItemKind.TheVariants as item
use Rattle.nd_value.specs.Tree as tree
use Rattle.nd_grammar.specs.Reader.{Names, Read, read_whole}
use Rattle.nd_grammar.specs.Refusal.{tested_at}
use Rattle.ndr_code.specs.declared.instr.Instr.{Instr}
use Rattle.ndr_code.specs.declared.instr.Instr.TheVariants as op
use Rattle.ndr_code.specs.declared.lists.EnumList.{EnumList}
use Rattle.ndr_code.specs.Code.{code_of, place_at, id, values_of}
use Rattle.ndr_code.specs.Runs.{IsRunAt}
use Rattle.ndr_code.proofs.Runs.{first_at, next_at}
use Rattle.ndr_decoder_laws.specs.reader.Around.{going}
use Rattle.ndr_decoder_laws.specs.declared.frame.Frame.TheVariants as frame
use Rattle.ndr_decoder_laws.specs.steps.Spots.{IsFine, IsPlanned}
use Rattle.ndr_decoder_laws.specs.steps.Steps.{State, begun, done_after, with_node, place_of, no_place}
use Rattle.ndr_decoder_laws.proofs.verdict.CellsSeen.{none_seen}
use Rattle.ndr_decoder_laws.specs.steps.Good.{Good, Whole, IsBegun}
use Rattle.ndr_decoder_laws.proofs.steps.PlanRuns.{planned_by}
use Rattle.ndr_decoder_laws.proofs.steps.Begins.{begins_plain}
use Rattle.ndr_decoder_laws.proofs.steps.PointSteps.{step_right}

abbrev pub code : List Instr
code = code_of basic_types []

abbrev pub values : List EnumList
values = values_of basic_types

abbrev no_names : Names
no_names = record { cells = []; numbers = [] }

pub plan : IsPlanned code values basic_types
plan = planned_by basic_types [] refl refl

-- a gap to a multiple of 2, and the short
pub run : IsRunAt code (place_at basic_types 5) (op.Align 2 ∷ op.Num (id 5) ∷ op.Ret ∷ [])
unfolding align_of
run = plan.place 5 (def.Prim Short) refl

not_hoisting : hoists basic_types 5 ≡ false
unfolding hoists
not_hoisting = refl

abbrev pub at_first : State
at_first = record {
  pc = place_at basic_types 5;
  phase = begun;
  at = 0;
  max = 0;
  max_at = None;
  tag = pos 0;
  carrier = Short;
  top = frame.Home;
  stack = [];
  nodes = [];
  own = None;
  members = [];
  firsts = [];
  fresh = [];
  cells = [];
  numbers = [];
}

abbrev pub after_gap : State
after_gap = done_after 0 at_first

abbrev pub after_short : State
after_short = done_after 2 (with_node (tree.Num (pos 258), 0) None after_gap)

fine : IsFine basic_types 32 5
fine = record { of = def.Prim Short; is_there = refl; formed = tt; inner = tt }

module _ (h : Home) where
  abbrev pub target : List ℕ → Read
  target octets = read_whole Little octets basic_types h 5 (going 0 []) no_names

  -- two octets at the place 0, of the home's first node
  abbrev pub short_item : List Item
  short_item = record { at = 0; len = 2; kind = item.Num; home = h; node = 0; value = pos 258 } ∷ []

  nothing_found : (a : Attr) (j : ℕ) → tested_at [] a h (0 + j) ≡ place_of a None no_place
  nothing_found attr.Size j = refl
  nothing_found attr.Max j = refl
  nothing_found attr.First j = refl
  nothing_found attr.Length j = refl
  nothing_found attr.Last j = refl
  nothing_found attr.Switch j = refl

  begins : IsBegun [] 0 Little [] h [] no_names at_first
  begins = record {
    phase = refl;
    max = refl;
    max_at = refl;
    top = refl;
    stack = refl;
    nodes = refl;
    members = refl;
    firsts = refl;
    fresh = refl;
    reached = refl;
    told = record { noted_are = refl; cells_are = refl; cells_named = record { named = none_seen; there = tt }; numbers_are = λ v p. (refl, λ to. refl); ahead = nothing_found; lie_within = tt };
  }

  pub good_first : Good Little [] code basic_types h 5 32 [] 0 target at_first
  good_first = begins_plain Little [] code values basic_types h 5 [] 0 plan at_first [] no_names fine begins not_hoisting refl

  good_after_gap : Good Little [] code basic_types h 5 32 [] 0 target after_gap
  good_after_gap =
      step_right Little [] [] code values basic_types h 5 32 [] 0 target plan at_first good_first (op.Align 2)
      (first_at code (place_at basic_types 5) (op.Align 2) (op.Num (id 5) ∷ op.Ret ∷ []) run) refl

  pub run_short : IsRunAt code (place_at basic_types 5 + 1) (op.Num (id 5) ∷ op.Ret ∷ [])
  run_short = next_at code (place_at basic_types 5) (op.Align 2) (op.Num (id 5) ∷ op.Ret ∷ []) run

  good_after_short : Good Little (2 ∷ 1 ∷ []) code basic_types h 5 32 short_item 0 target after_short
  good_after_short =
      step_right Little [] (2 ∷ 1 ∷ []) code values basic_types h 5 32 [] 0 target plan after_gap good_after_gap (op.Num (id 5))
      (first_at code (place_at basic_types 5 + 1) (op.Num (id 5)) (op.Ret ∷ []) run_short) (refl, lit≤ tt)

  -- after the octets 2 and 1 the value is 258, and the only item is the short
  pub short_is_read : Whole Little (2 ∷ 1 ∷ []) basic_types h 5 short_item 0 target after_short
  short_is_read =
      step_right Little (2 ∷ 1 ∷ []) [] code values basic_types h 5 32 short_item 0 target plan after_short good_after_short op.Ret
      (first_at code (place_at basic_types 5 + 1 + 1) op.Ret [] (next_at code (place_at basic_types 5 + 1) (op.Num (id 5)) (op.Ret ∷ []) run_short)) refl
