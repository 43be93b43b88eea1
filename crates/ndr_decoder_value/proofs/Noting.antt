-- What a function noted and counted, from what its calls noted and counted.
-- `o` is what a step comes to, `xs` are items, `x` is an item, `log` a log, `n` a number of steps and `k` one of cells; the second of two is what there is
-- afterwards. `r` is a result, `e` its error, `s` a state.
use Rattle.std.proofs.Common.{◌≡◌, ℕ, ◌+◌, List, [], ◌∷◌, length, Result, Ok, Err, OnOk, IfErr, IsErrAnd, refl, sym, ap, ◌∙◌, subst, arith}
use Rattle.std.proofs.lemmas.List.{length-map}
use Rattle.nd_value.specs.Logged.{Logged, noted, ticks_of}
use Rattle.nd_value.specs.declared.item.Home.{Home}
use Rattle.nd_value.specs.declared.item.Item.{Item}
use Rattle.nd_value.specs.Tree.{Referent}
use Rattle.ndr_decoder_laws.specs.steps.Steps.{State, Outcome, goes, refused}
use Rattle.ndr_decoder_laws.specs.steps.StepItems.{gap_items}
use Rattle.ndr_decoder_state.specs.Notes.{notes_seen, all_noted, ticks, nothing_noted, all_are_noted, Noted}
use Rattle.ndr_decoder_state.specs.Seen.{state_of, Does}
use Rattle.ndr_decoder_state.specs.declared.fault.DecodeFault.{DecodeFault}
use Rattle.ndr_decoder_state.specs.declared.fault.DecodeFault.TheVariants as fault
use Rattle.ndr_decoder_state.specs.declared.machine.Machine.{Machine}

-- ## Cells

-- the cells of a machine's state are those that have their numbers
pub cell_count : (m : Machine) → length (state_of m).cells ≡ m.cells
cell_count m = length-map m.builder.graph.cells (λ (c : Referent). c.of) ∙ sym m.numbered

-- machines with the same cells have as many
pub same_cells : (old new : Machine) → (state_of new).cells ≡ (state_of old).cells → new.cells ≡ old.cells
same_cells old new e = sym (cell_count new) ∙ ap length e ∙ cell_count old

-- ## Results

-- an instruction that goes on is refused for memory alone
pub goes_memory : (x s : State) (r : Result (Unit {0}) DecodeFault) → Does (goes x) r s → IfErr r (λ e. e ≡ fault.Memory)
goes_memory x s (Ok u) d = tt
goes_memory x s (Err (fault.Bad place why)) d = absurd (other d)
  where
    other : goes x ≡ refused place why → ⊥
    other e = cc
goes_memory x s (Err fault.ReadFault) d = absurd d
goes_memory x s (Err fault.Memory) d = refl

pub goes_same : (x s : State) → goes x ≡ goes s → s ≡ x
goes_same x s e = cc

-- where it goes on, it comes to that state
pub goes_state : (x s : State) (r : Result (Unit {0}) DecodeFault) → Does (goes x) r s → OnOk r (s ≡ x)
goes_state x s (Ok u) d = goes_same x s d
goes_state x s (Err e) d = tt

-- memory is what a `?` handed on
pub memory_on : {T : Type 0} (r : Result T DecodeFault) (e : DecodeFault) → IsErrAnd r (λ y. y ≡ e) → e ≡ fault.Memory → r ≡ Err fault.Memory
memory_on (Ok t) e h m = absurd h
memory_on (Err y) e h m = ap Err (h ∙ m)

-- ## Items

-- an item was noted, and no cell got its number
pub one_noted : (x : Item) (log log' : Logged) (n n' k k' : ℕ) → log' ≡ noted x log → n' ≡ n + ticks_of x.kind → k' ≡ k
    → (log' ≡ all_noted (x ∷ []) log) × (n' + k ≡ n + ticks (x ∷ []) + k')
one_noted x log log' n n' k k' e i c = (e, omega (arith, i, c))

-- a gap was noted, or an empty one was none
pub gap_noted : (h : Home) (at : ℕ) (os : List ℕ) (log log' : Logged) (n n' k k' : ℕ) → log' ≡ all_noted (gap_items h at os) log → n' ≡ n → k' ≡ k
    → (log' ≡ all_noted (gap_items h at os) log) × (n' + k ≡ n + ticks (gap_items h at os) + k')
gap_noted h at [] log log' n n' k k' e i c = (e, omega (arith, i, c))
gap_noted h at (o ∷ os) log log' n n' k k' e i c = (e, omega (arith, i, c))

-- memory was refused before an item was noted
pub stopped_before : {T : Type 0} (o : Outcome) (xs : List Item) (log log' : Logged) (n n' k k' : ℕ) (r : Result T DecodeFault) (e : DecodeFault)
    → IsErrAnd r (λ y. y ≡ e) → e ≡ fault.Memory → log' ≡ log → n' ≡ n → Noted o xs (notes_seen log log' n n' k k') r
stopped_before {T} o xs log log' n n' k k' r e h m same none =
    subst (λ (y : Result T DecodeFault). Noted o xs (notes_seen log log' n n' k k') y) (sym (memory_on r e h m)) (nothing_noted same (omega (arith, none)))

-- memory was refused after an item was noted
pub stopped_after : {T : Type 0} (x : Item) (s : State) (log log' : Logged) (n n' k k' : ℕ) (r : Result T DecodeFault) (e : DecodeFault)
    → IsErrAnd r (λ y. y ≡ e) → e ≡ fault.Memory → log' ≡ noted x log → n' ≡ n + ticks_of x.kind → length s.cells ≡ k
    → Noted (goes s) (x ∷ []) (notes_seen log log' n n' k k') r
stopped_after {T} x s log log' n n' k k' r e h m el i c =
    subst (λ (y : Result T DecodeFault). Noted (goes s) (x ∷ []) (notes_seen log log' n n' k k') y) (sym (memory_on r e h m))
    (all_are_noted s refl el (omega (arith, i, c)))

-- an item was noted, and what followed did what it does or lacked memory
pub noted_by_result : (x : Item) (s t : State) (log log' : Logged) (n n' k k' : ℕ) (r : Result (Unit {0}) DecodeFault)
    → Does (goes s) r t → log' ≡ noted x log → n' ≡ n + ticks_of x.kind → length s.cells ≡ k → length t.cells ≡ k'
    → Noted (goes s) (x ∷ []) (notes_seen log log' n n' k k') r
noted_by_result x s t log log' n n' k k' (Ok u) d el i c c' =
    let e : length t.cells ≡ length s.cells = ap (λ (q : State). length q.cells) (goes_state s t (Ok u) d) in (el, omega (arith, i, c, c', e))
noted_by_result x s t log log' n n' k k' (Err e) d el i c c' =
    stopped_after {T = Unit {0}} x s log log' n n' k k' (Err e) e refl (goes_memory s t (Err e) d) el i c
