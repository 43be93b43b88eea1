-- Classes of pointers, and the numbers of full ones.
-- `s` is a state, `v` a pointer's number, `k` what is known of it, `old` and `new` are the numbers before and after one is met.
use Rattle.std.proofs.Common.{◌≡◌, ◌≤◌, ◌<◌, ℕ, ◌+◌, Bool, List, [], ◌∷◌, ◌++◌, length, Option, Some, None, Ok, refl, sym, ap, ◌∙◌, arith, length-append}
use Rattle.std.specs.Prelude.{if◌then◌else◌}
use Rattle.std.proofs.lemmas.Bool.{eq-eqb, ne_eqb}
use Rattle.nd_types.specs.declared.types.Class.{Class}
use Rattle.nd_types.specs.declared.types.Class.TheVariants.{Full}
use Rattle.nd_types.specs.declared.types.TypeId.{TypeId}
use Rattle.nd_value.specs.declared.value.CellId.{CellId}
use Rattle.nd_grammar.specs.declared.reason.Reason.TheVariants as reason
use Rattle.ndr_refs.specs.declared.referents.Known.{Known}
use Rattle.ndr_refs.specs.Known.{known, first_met, IsMet, IsMetBy}
use Rattle.ndr_decoder_laws.specs.steps.Steps.{State, goes, refused, with_names, owing, new_cell, done_after, full_by}
use Rattle.ndr_decoder_value.specs.Parts.{full_read}

-- ## Classes

-- ## Unique pointers

-- ## A number is met

-- the numbers have grown: it was new
pub met_new : (v : ℕ) (of : TypeId) (next cell : CellId) (old new : List (ℕ × Known)) → IsMet v of next old (Ok cell) new → length old < length new
    → (known v old ≡ None) × (new ≡ old ++ (v, first_met of next) ∷ [])
met_new v of next cell old new h l = by (known v old) refl h
  where
    by : (k : Option Known) → known v old ≡ k → IsMetBy k v of next old (Ok cell) new → (known v old ≡ None) × (new ≡ old ++ (v, first_met of next) ∷ [])
    by None e h = (e, h.1)
    by (Some k) e h = let same : length new ≡ length old = ap length h.1 in absurd (omega (arith, same, l))

-- they have not: it was known, with this type
pub record IsKnownAs (v : ℕ) (of : TypeId) (cell : CellId) (old new : List (ℕ × Known)) : Type 0 where
  pub k : Known
  pub there : known v old ≡ Some k
  pub typed : k.of ≡ of
  pub named : cell ≡ k.cell
  pub stays : new ≡ old

pub met_known : (v : ℕ) (of : TypeId) (next cell : CellId) (old new : List (ℕ × Known)) → IsMet v of next old (Ok cell) new → length new ≤ length old → IsKnownAs v of cell old new
met_known v of next cell old new h l = by (known v old) refl h
  where
    by : (k : Option Known) → known v old ≡ k → IsMetBy k v of next old (Ok cell) new → IsKnownAs v of cell old new
    by None e h =
        let one : length new ≡ length old + 1 = ap length h.1 ∙ length-append old ((v, first_met of next) ∷ []) in absurd (omega (arith, one, l))
    by (Some k) e h = record { k = k; there = e; typed = h.0.0; named = h.0.1; stays = h.1 }

-- ## Full pointers

-- a number that is not 0
full_some : (to : TypeId) (run v : ℕ) (s : State) (k : Option Known) → (v ≡ 0 → ⊥) → known v s.numbers ≡ k → full_read to run v s ≡ full_by k v to run s
full_some to run v s k n e =
    ap (λ (b : Bool). if b then goes (done_after 4 (owing Full to run None s)) else full_by (known v s.numbers) v to run s) (ne_eqb v 0 n)
    ∙ ap (λ (q : Option Known). full_by q v to run s) e

abbrev cell_of : ℕ → CellId
cell_of m = record { 0 = m }

pub full_new : (class : Class) (to : TypeId) (run v : ℕ) (next : CellId) (numbers : List (ℕ × Known)) (s : State) → class ≡ Full → (v ≡ 0 → ⊥) → next.0 ≡ length s.cells + 1
    → (known v s.numbers ≡ None) × (numbers ≡ s.numbers ++ (v, first_met to next) ∷ [])
    → full_read to run v s ≡ goes (done_after 4 (new_cell class to run (with_names s.cells numbers s)))
full_new class to run v next numbers s c n e h =
    full_some to run v s None n h.0
    ∙ ap (λ (m : ℕ). goes (done_after 4 (owing Full to run (Some (length s.cells + 1)) (with_names (s.cells ++ to.0 ∷ []) (s.numbers ++ (v, first_met to (cell_of m)) ∷ []) s)))) (sym e)
    ∙ ap (λ (ns : List (ℕ × Known)). goes (done_after 4 (owing Full to run (Some (length s.cells + 1)) (with_names (s.cells ++ to.0 ∷ []) ns s)))) (sym h.1)
    ∙ ap (λ (q : Class). goes (done_after 4 (owing q to run (Some (length s.cells + 1)) (with_names (s.cells ++ to.0 ∷ []) numbers s)))) (sym c)

pub full_known : (class : Class) (to : TypeId) (run v : ℕ) (cell : CellId) (numbers : List (ℕ × Known)) (s : State) → class ≡ Full → (v ≡ 0 → ⊥)
    → IsKnownAs v to cell s.numbers numbers
    → full_read to run v s ≡ goes (done_after 4 (owing class to run (Some cell.0) (with_names s.cells numbers s)))
full_known class to run v cell numbers s c n h =
    full_some to run v s (Some h.k) n h.there
    ∙ ap (λ (b : Bool). if b then goes (done_after 4 (owing Full to run (Some h.k.cell.0) s)) else refused s.at reason.OtherType) (eq-eqb h.k.of.0 to.0 (ap (λ (t : TypeId). t.0) h.typed))
    ∙ ap (λ (q : CellId). goes (done_after 4 (owing Full to run (Some q.0) s))) (sym h.named)
    ∙ ap (λ (ns : List (ℕ × Known)). goes (done_after 4 (owing Full to run (Some cell.0) (with_names s.cells ns s)))) (sym h.stays)
    ∙ ap (λ (q : Class). goes (done_after 4 (owing q to run (Some cell.0) (with_names s.cells numbers s)))) (sym c)
