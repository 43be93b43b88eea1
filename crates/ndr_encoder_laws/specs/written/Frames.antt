-- The frames of a run, the innermost first.
-- `f` is a frame.
use Rattle.std.specs.Prelude.{nat_lt, List, [], ◌∷◌, length, true, false, Option, Some, None}
use Rattle.ndr_encoder_laws.specs.declared.frames.Frame.{Frame}

-- one frame more, where there is room
abbrev pub pushed : Frame → List Frame → List Frame
pushed f frames = elim (nat_lt (length frames) 36) [ true ↦ f ∷ frames | false ↦ frames ]

abbrev pub first_frame : List Frame → Option Frame
first_frame [] = None
first_frame (f ∷ frames) = Some f

abbrev pub rest_frames : List Frame → List Frame
rest_frames [] = []
rest_frames (f ∷ frames) = frames
