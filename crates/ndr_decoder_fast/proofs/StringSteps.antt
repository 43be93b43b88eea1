-- The steps of a string before its offset: the gap, the maximum count, the call of its run, and the run's gap, which is empty.
-- `g` is how many octets the gap has, `max` the maximum count, `run` the string's run; `s0` is the state before, `s1` the one after.
use Rattle.std.proofs.Common.{◌≡◌, ◌≤◌, ◌<◌, ◌^◌, ℕ, ◌+◌, ◌-◌, Bool, List, [], ◌∷◌, ◌++◌, length, take, drop, Option, Some, Result, Ok, Err, IsErrAnd, refl, sym, ap, ◌∙◌, subst, arith, pos, zero, suc}
use Rattle.std.proofs.lemmas.List.{append-nil, take-append-drop, length-take-le, length-drop}
use Rattle.std.specs.Prelude.{slice_get}
use Rattle.std.specs.Io.KnownBytes.{Consumes}
use Rattle.nd_base.specs.declared.octets.Order.{Order}
use Rattle.nd_base.specs.declared.TheConstants.{STREAM_LIMIT}
use Rattle.nd_types.specs.Number.{AreOctets, unsigned}
use Rattle.nd_value.specs.declared.item.Home.{Home}
use Rattle.nd_value.specs.declared.item.Item.{Item}
use Rattle.nd_value.specs.declared.item.ItemKind.TheVariants as item
use Rattle.nd_grammar.specs.Entry.{gap}
use Rattle.ndr_code.specs.declared.instr.Instr.{Instr}
use Rattle.ndr_code.specs.declared.instr.Instr.TheVariants as op
use Rattle.ndr_code.specs.declared.lists.EnumList.{EnumList}
use Rattle.ndr_decoder_laws.specs.declared.frame.Frame.{Frame}
use Rattle.ndr_decoder_laws.specs.steps.Steps.{State, Phase, begun, gap_read, goes, step, wants, past, jumped, done_after, with_max, hoist_by, hoist_want, call_from}
use Rattle.ndr_decoder_laws.specs.steps.StepItems.{gap_items, next_item, hoist_items}
use Rattle.ndr_decoder_laws.specs.steps.Good.{HasOctets}
use Rattle.ndr_decoder_laws.specs.runs.Reaching.{Reaches, IsSafe, begins, steps_to}
use Rattle.ndr_decoder_fast.specs.declared.fault.LeapFault.{LeapFault}
use Rattle.ndr_decoder_fast.specs.declared.fault.LeapFault.TheVariants as leap
use Rattle.ndr_decoder_state.specs.declared.machine.Machine.{Machine}
use Rattle.ndr_decoder_state.specs.Seen.{state_of}
use Rattle.ndr_decoder_state.specs.Notes.{ticks}
use Rattle.ndr_decoder_fast.specs.Leaps.{Leapt, Leaps}
use Rattle.ndr_decoder_fast.specs.Strings.{MaxCame, IsAtString, max_read, GoesFar, ReadsText}
use Rattle.ndr_decoder_fast.proofs.Going.{source, far_on}

-- ## What may be taken for granted

-- there is room for a node more after a step that added none
pub few_more : (code : List Instr) (m n : Machine) → IsSafe code (state_of m) → n.builder.nodes ≡ m.builder.nodes → n.count + 1 < 2 ^ 32
few_more code m n safe same =
    let few : length m.builder.nodes + 8192 < 2 ^ 32 = safe.few_nodes in
    let counted : n.count ≡ length n.builder.nodes = n.counted in
    let sizes : length n.builder.nodes ≡ length m.builder.nodes = ap length same in
    omega (arith, few, counted, sizes)

octets_taken : (k : ℕ) (os : List ℕ) → AreOctets os → AreOctets (take k os)
octets_taken zero os h = tt
octets_taken (suc k) [] h = tt
octets_taken (suc k) (o ∷ os) h = (h.0, octets_taken k os h.1)

octets_left : (k : ℕ) (os : List ℕ) → AreOctets os → AreOctets (drop k os)
octets_left zero os h = h
octets_left (suc k) [] h = tt
octets_left (suc k) (o ∷ os) h = octets_left k os h.1

pub no_ticks : (h : Home) (at : ℕ) (os : List ℕ) → ticks (gap_items h at os) ≡ 0
no_ticks h at [] = refl
no_ticks h at (o ∷ os) = refl

-- ## Up to the offset

module _ (values : List EnumList) (order : Order) (code : List Instr) (h : Home) (l0 l1 : Option (List ℕ)) (e : Bool) (f0 f1 run bound g max : ℕ) (s0 : State)
    (here : slice_get code s0.pc ≡ Some op.Hoist) (ahead : IsAtString code 512 run bound s0) (g_is : g ≡ gap s0.at 4) (few : g ≤ 4) (came : MaxCame order l0 l1 g max) where
  abbrev first : List ℕ
  first = take g came.os

  abbrev rest : List ℕ
  rest = drop g came.os

  first_size : length first ≡ g
  first_size = let size : length came.os ≡ g + 4 = came.size in length-take-le g came.os (omega (arith, size))

  rest_size : length rest ≡ 4
  rest_size = let size : length came.os ≡ g + 4 = came.size in let left : length rest ≡ length came.os - g = length-drop g came.os in omega (arith, size, left)

  -- after the gap, after the maximum count, in the run, and past its gap
  abbrev after_gap : State
  after_gap = past (length first) gap_read s0

  abbrev after_max : State
  after_max = done_after 4 (with_max (unsigned order rest) after_gap)

  abbrev within_run : State
  within_run = jumped run after_max

  abbrev at_text : State
  at_text = done_after (length {A = ℕ} []) within_run

  gap_step : step values order first op.Hoist s0 ≡ goes after_gap
  gap_step = ap (λ (p : Phase). hoist_by values order first p s0) ahead.first

  gap_has : HasOctets (wants values op.Hoist s0) first s0.at
  gap_has = subst (λ (p : Phase). HasOctets (hoist_want values p s0.at) first s0.at) (sym ahead.first) (first_size ∙ g_is)

  gap_ticks : ticks (hoist_items order h first s0.phase s0) ≡ 0
  gap_ticks = ap (λ (p : Phase). ticks (hoist_items order h first p s0)) ahead.first ∙ no_ticks h s0.at first

  max_has : HasOctets (wants values op.Hoist after_gap) rest after_gap.at
  max_has = let within : s0.at + 512 ≤ STREAM_LIMIT = ahead.within in let size : length first ≡ g = first_size in (rest_size, omega (arith, within, size, few))

  call_step : step values order [] (op.Call run) after_max ≡ goes within_run
  call_step = ap (λ (f : Frame). goes (call_from f run after_max)) ahead.home

  -- a place that is a multiple of four after the maximum count
  no_gap : 0 ≡ gap within_run.at 4
  no_gap = let size : length first ≡ g = first_size in aligned s0.at (length first) (size ∙ g_is)
    where
      aligned : (at k : ℕ) → k ≡ gap at 4 → 0 ≡ gap (at + k + 4) 4
      aligned at k e = omega (arith, e)

  abbrev noted : List Item
  noted = hoist_items order h first s0.phase s0 ++ next_item h after_gap item.Max 4 (pos (unsigned order rest)) ∷ []

  reached : Reaches values order code h s0 (((first ++ rest) ++ []) ++ []) ((noted ++ []) ++ []) at_text
  reached =
      steps_to ((first ++ rest) ++ []) [] (noted ++ []) within_run at_text (op.Align 4)
      (steps_to (first ++ rest) [] noted after_max within_run (op.Call run)
      (steps_to first rest (hoist_items order h first s0.phase s0) after_gap after_max op.Hoist
      (steps_to [] first [] s0 after_gap op.Hoist begins here gap_has (octets_taken g came.os came.came.octets) gap_step)
      here max_has (octets_left g came.os came.came.octets) refl)
      ahead.calls refl tt call_step)
      ahead.aligns no_gap tt refl

  -- at the `text`, at some place
  abbrev at_place : ℕ → State
  at_place at = record {
    pc = run + 1;
    phase = begun;
    at = at;
    max = max;
    max_at = Some (s0.at + g);
    tag = s0.tag;
    carrier = s0.carrier;
    top = s0.top;
    stack = s0.stack;
    nodes = s0.nodes;
    own = s0.own;
    members = s0.members;
    firsts = s0.firsts;
    fresh = s0.fresh;
    cells = s0.cells;
    numbers = s0.numbers;
  }

  same_state : at_text ≡ max_read g max run s0
  same_state =
      let size : length first ≡ g = first_size in
      ap (λ (k : ℕ). done_after 0 (jumped run (done_after 4 (with_max (unsigned order rest) (past k gap_read s0))))) size
      ∙ ap (λ (m : ℕ). done_after 0 (jumped run (done_after 4 (with_max m (past g gap_read s0))))) came.number
      ∙ ap at_place (omega arith)

  ticks_two : (xs : List Item) (x : Item) → ticks xs ≡ 0 → ticks (x ∷ []) ≡ 1 → ticks (((xs ++ x ∷ []) ++ []) ++ []) ≡ 1
  ticks_two xs x none one = ap (λ ys. ticks (ys ++ [])) (append-nil (xs ++ x ∷ [])) ∙ ap ticks (append-nil (xs ++ x ∷ [])) ∙ both xs none
    where
      both : (ys : List Item) → ticks ys ≡ 0 → ticks (ys ++ x ∷ []) ≡ 1
      both [] n = one
      both (y ∷ ys) n = let n' : ticks (y ∷ ys) ≡ 0 = n in let k : ticks ys ≡ 0 = omega (arith, n') in let more : ticks (ys ++ x ∷ []) ≡ 1 = both ys k in omega (arith, n', more)

  pub hoisted : (k0 k1 : ℕ) (s1 : State) → k1 ≡ k0 + 1 → s1 ≡ max_read g max run s0 → Leapt values order code h s0 (source l0 l1 e f0 f1) k0 k1 s1
  hoisted k0 k1 s1 counted is =
      let same : at_text ≡ s1 = same_state ∙ sym is in
      let t : ticks ((noted ++ []) ++ []) ≡ 1 = ticks_two (hoist_items order h first s0.phase s0) (next_item h after_gap item.Max 4 (pos (unsigned order rest))) gap_ticks refl in
      let cells : length s1.cells ≡ length s0.cells = ap (λ (s : State). length s.cells) is in
      record {
        fetched = ((first ++ rest) ++ []) ++ [];
        noted = (noted ++ []) ++ [];
        reached = subst (λ s. Reaches values order code h s0 (((first ++ rest) ++ []) ++ []) ((noted ++ []) ++ []) s) same reached;
        left =
            let all : ((first ++ rest) ++ []) ++ [] ≡ came.os =
            append-nil ((first ++ rest) ++ []) ∙ append-nil (first ++ rest) ∙ take-append-drop g came.os in
            subst (Consumes l0 l1) (sym all) came.came.taken;
        counted = omega (arith, t, cells, counted);
      }

  -- ## With what comes after it

  module _ (l2 : Option (List ℕ)) (e2 : Bool) (f2 k0 k1 k2 : ℕ) (s1 s2 : State) (counted : k1 ≡ k0 + 1) (is : s1 ≡ max_read g max run s0) where
    text_there : slice_get code s1.pc ≡ Some (op.Text bound)
    text_there = ap (λ (s : State). slice_get code s.pc) is ∙ ahead.reads

    far : (r : Result (Unit {0}) LeapFault) → ReadsText order bound s1 (source l1 l2 e2 f1 f2) k1 k2 s2 r → GoesFar values order code h s0 (source l0 l2 e2 f0 f2) k0 k2 s2 r
    far r later = far_on values order code h l0 l1 l2 e e2 f0 f1 f2 k0 k1 k2 s0 s1 s2 (hoisted k0 k1 s1 counted is) r (later values code h text_there)

    pub string_leapt : (u : Unit {0}) → ReadsText order bound s1 (source l1 l2 e2 f1 f2) k1 k2 s2 (Ok u) → Leapt values order code h s0 (source l0 l2 e2 f0 f2) k0 k2 s2
    string_leapt u later = far (Ok u) later

    failed : (x : LeapFault) → GoesFar values order code h s0 (source l0 l2 e2 f0 f2) k0 k2 s2 (Err x) → Leaps values order code h s0 (source l0 l2 e2 f0 f2) k0 k2 s2 (Err x)
    failed (leap.Bad place why) f = f
    failed leap.Memory f = f

    pub string_failed : (x : LeapFault) (r : Result Bool LeapFault) → ReadsText order bound s1 (source l1 l2 e2 f1 f2) k1 k2 s2 (Err x) → IsErrAnd r (λ y. y ≡ x)
        → Leaps values order code h s0 (source l0 l2 e2 f0 f2) k0 k2 s2 r
    string_failed x (Ok b) later is_err = absurd is_err
    string_failed x (Err y) later is_err =
        subst (λ z. Leaps values order code h s0 (source l0 l2 e2 f0 f2) k0 k2 s2 (Err z)) (sym is_err) (failed x (far (Err x) later))
