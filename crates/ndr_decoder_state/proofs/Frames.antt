-- The instruction at the end of a frame.
use Rattle.std.proofs.Common.{◌≡◌, ◌<◌, ◌^◌, ℕ, List, [], ◌∷◌, refl, sym, subst, ◌∙◌}
use Rattle.ndr_decoder_laws.specs.declared.frame.Frame.{Frame}
use Rattle.ndr_decoder_laws.specs.steps.Steps.{State, popped_to}

popped_pc : (fs : List Frame) (s : State) → (popped_to fs s).pc ≡ s.pc
popped_pc [] s = refl
popped_pc (f ∷ fs) s = refl

pub pc_after_pop : (new : ℕ) (fs : List Frame) (s : State) → new ≡ (popped_to fs s).pc → s.pc < 2 ^ 32 → new < 2 ^ 32
pc_after_pop new fs s e few = subst (λ (n : ℕ). n < 2 ^ 32) (sym (e ∙ popped_pc fs s)) few
