-- What the code of actual counts and of strings noted.
-- `m` is the machine before, `t` the one after, `o` an offset, `c` an actual count, `log` a log, `n` a number of steps; the second of two is what there is
-- afterwards. `r` is a result, `e` its error.
use Rattle.std.proofs.Common.{◌≡◌, ◌≤◌, ℕ, ◌+◌, Bool, List, [], ◌∷◌, length, pos, Option, Some, None, Result, IsErrAnd, sym, ap, ◌∙◌, subst, if◌then◌else◌}
use Rattle.std.proofs.lemmas.Bool.{le-ltb}
use Rattle.nd_value.specs.Logged.{Logged, noted, ticks_of}
use Rattle.nd_value.specs.declared.item.Item.{Item}
use Rattle.nd_value.specs.declared.item.ItemKind.{ItemKind}
use Rattle.nd_value.specs.declared.item.ItemKind.TheVariants as item
use Rattle.nd_value.specs.Tree as tree
use Rattle.nd_grammar.specs.declared.reason.Reason.{Reason}
use Rattle.nd_grammar.specs.declared.reason.Reason.TheVariants as reason
use Rattle.ndr_decoder_laws.specs.steps.Steps.{State, Outcome, goes, refused, past, begun, with_node, elements, text_done}
use Rattle.ndr_decoder_laws.specs.steps.StepItems.{next_item}
use Rattle.ndr_decoder_state.specs.Notes.{notes_seen, Noted}
use Rattle.ndr_decoder_state.specs.Seen.{state_of, Does}
use Rattle.ndr_decoder_state.specs.declared.fault.DecodeFault.{DecodeFault}
use Rattle.ndr_decoder_state.specs.declared.fault.DecodeFault.TheVariants as fault
use Rattle.ndr_decoder_state.specs.declared.machine.Machine.{Machine}
use Rattle.ndr_decoder_value.specs.Parts.{actual_read}
use Rattle.ndr_decoder_value.proofs.Elements.{elements_cells}
use Rattle.ndr_decoder_value.proofs.Noting.{cell_count, stopped_after, noted_by_result}

-- ## Actual counts

module _ (m : Machine) (o c limit run : ℕ) (fits : o + c ≤ limit) where
  abbrev counted : State
  counted = with_node (tree.Arr limit o, c) (Some m.at) (past 4 begun (state_of m))

  actual_goes : goes (elements c run counted) ≡ actual_read o c limit run (state_of m)
  actual_goes = sym (ap (λ (b : Bool). if b then refused m.at reason.PastBound else goes (elements c run counted)) (le-ltb limit (o + c) fits))

  counted_cells : length (elements c run counted).cells ≡ m.cells
  counted_cells = ap length (elements_cells c run counted) ∙ cell_count m

  abbrev actual_item : Item
  actual_item = next_item m.home (state_of m) item.Actual 4 (pos c)

  -- memory was refused for the node
  pub actual_stopped : (log log' : Logged) (n n' k' : ℕ) (r : Result (Unit {0}) DecodeFault) (e : DecodeFault) → IsErrAnd r (λ y. y ≡ e) → e ≡ fault.Memory
      → log' ≡ noted actual_item log → n' ≡ n + 1 → Noted (actual_read o c limit run (state_of m)) (actual_item ∷ []) (notes_seen log log' n n' m.cells k') r
  actual_stopped log log' n n' k' r e h memory el i =
      subst (λ (x : Outcome). Noted x (actual_item ∷ []) (notes_seen log log' n n' m.cells k') r) actual_goes
      (stopped_after actual_item (elements c run counted) log log' n n' m.cells k' r e h memory el i counted_cells)

  -- the elements begin, or memory was refused for them
  pub actual_ended : (t : Machine) (u : State) (log log' : Logged) (n n' : ℕ) (r : Result (Unit {0}) DecodeFault) → u ≡ counted
      → Does (goes (elements c run u)) r (state_of t) → log' ≡ noted actual_item log → n' ≡ n + 1
      → Noted (actual_read o c limit run (state_of m)) (actual_item ∷ []) (notes_seen log log' n n' m.cells t.cells) r
  actual_ended t u log log' n n' r eu d el i =
      subst (λ (x : Outcome). Noted x (actual_item ∷ []) (notes_seen log log' n n' m.cells t.cells) r) actual_goes
      (noted_by_result actual_item (elements c run counted) (state_of t) log log' n n' m.cells t.cells r
      (subst (λ (q : State). Does (goes (elements c run q)) r (state_of t)) eu d) el i counted_cells (cell_count t))

-- ## Octets of strings

-- memory was refused for the node of a string
pub text_stopped : (m : Machine) (why : Option (ℕ × Reason)) (x : Item) (limit : ℕ) (os : List ℕ) (log log' : Logged) (n n' k' : ℕ) (r : Result (Unit {0}) DecodeFault)
    (e : DecodeFault) → why ≡ None → x.kind ≡ item.Text → IsErrAnd r (λ y. y ≡ e) → e ≡ fault.Memory → log' ≡ noted x log → n' ≡ n + 1
    → Noted (text_done why limit os (state_of m)) (x ∷ []) (notes_seen log log' n n' m.cells k') r
text_stopped m why x limit os log log' n n' k' r e none kind h memory el i =
    subst (λ (w : Option (ℕ × Reason)). Noted (text_done w limit os (state_of m)) (x ∷ []) (notes_seen log log' n n' m.cells k') r) (sym none)
    (stopped_after x _ log log' n n' m.cells k' r e h memory el (i ∙ ap (λ (q : ItemKind). n + ticks_of q) (sym kind)) (cell_count m))
