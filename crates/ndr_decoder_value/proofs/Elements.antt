-- Elements that begin.
-- `n` is their number, `s` a state, `p` and `m` are later ones.
use Rattle.std.proofs.Common.{◌≡◌, ℕ, ◌+◌, ◌-◌, zero, suc, refl, sym, ap, ◌∙◌, arith}
use Rattle.ndr_decoder_laws.specs.declared.frame.Frame.TheVariants as frame
use Rattle.ndr_decoder_laws.specs.steps.Steps.{State, goes, elements, jumped, pushed}

pub some_elements : (n run : ℕ) (s p m : State) → (n ≡ 0 → ⊥) → p ≡ pushed (frame.Elements (n - 1) run (s.pc + 1)) s → m ≡ jumped run p
    → goes (elements n run s) ≡ goes m
some_elements zero run s p m some ep em = absurd (some refl)
some_elements (suc n) run s p m some ep em =
    let one : suc n - 1 ≡ n = omega arith in
    sym (ap goes em ∙ ap (λ q. goes (jumped run q)) ep ∙ ap (λ k. goes (jumped run (pushed (frame.Elements k run (s.pc + 1)) s))) one)

-- the cells are those before
pub elements_cells : (n run : ℕ) (s : State) → (elements n run s).cells ≡ s.cells
elements_cells zero run s = refl
elements_cells (suc n) run s = refl
