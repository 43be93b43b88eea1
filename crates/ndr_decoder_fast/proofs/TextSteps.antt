-- The steps of a string's `text`, by what came from the source.
-- `l0`, `l1`, `l2` are the octets of the source before, between and after, `k0`, `k1`, `k2` the counts of steps, `s0`, `s1`, `s2` the states, `n` is a count.
use Rattle.std.proofs.Common.{◌≡◌, ◌≤◌, ◌<◌, ℕ, ◌+◌, ◌-◌, false, List, length, take, Option, Some, None, Result, Ok, Err, IsErrAnd, refl, sym, ap, ◌∙◌, subst, arith}
use Rattle.std.proofs.lemmas.Bool.{eq-eqb, ne_eqb, lt-ltb}
use Rattle.std.proofs.lemmas.Bool.Decides.{nat_tests}
use Rattle.std.specs.Prelude.{slice_get, Bool, eqb, ltb, if◌then◌else◌}
use Rattle.nd_base.specs.declared.octets.Order.{Order}
use Rattle.nd_base.specs.declared.TheConstants.{STREAM_LIMIT}
use Rattle.nd_base.specs.Over.{SourceOver}
use Rattle.nd_value.specs.declared.item.Home.{Home}
use Rattle.nd_value.specs.Tree as tree
use Rattle.nd_grammar.specs.declared.reason.Reason.{Reason}
use Rattle.nd_grammar.specs.declared.reason.Reason.TheVariants as reason
use Rattle.nd_grammar.specs.Refusal.{text_refusal}
use Rattle.ndr_code.specs.declared.instr.Instr.{Instr}
use Rattle.ndr_code.specs.declared.instr.Instr.TheVariants as op
use Rattle.ndr_code.specs.declared.lists.EnumList.{EnumList}
use Rattle.ndr_decoder_laws.specs.steps.Steps.{State, Outcome, Phase, begun, offset_read, count_read, goes, refused, step, wants, past, done_after, with_node, text_by, text_want, text_done, limit_of}
use Rattle.ndr_decoder_laws.specs.steps.StepItems.{step_items, text_items}
use Rattle.ndr_decoder_laws.specs.steps.Good.{HasOctets}
use Rattle.ndr_decoder_fast.specs.declared.fault.LeapFault.{LeapFault}
use Rattle.ndr_decoder_fast.specs.declared.fault.LeapFault.TheVariants as leap
use Rattle.ndr_decoder_fast.specs.declared.fault.TextReason.TheVariants as why
use Rattle.ndr_decoder_fast.specs.Faults.{reason_of}
use Rattle.ndr_decoder_state.specs.Notes.{ticks}
use Rattle.ndr_decoder_fast.specs.Leaps.{Refuses}
use Rattle.ndr_decoder_fast.specs.Strings.{HasCome, CountCame, ReadsText, TextDoes}
use Rattle.ndr_decoder_fast.proofs.Going.{source, far_on, not_far, one_step, refused_here, given_up}

module _ (order : Order) (bound : ℕ) (l0 l1 : Option (List ℕ)) (e : Bool) (f0 f1 : ℕ) (s0 : State) where
  abbrev Src : SourceOver
  Src = source l0 l1 e f0 f1

  -- ## Nothing came

  pub nothing_read : (k : ℕ) (u : Unit {0}) → l1 ≡ l0 → ReadsText order bound s0 Src k k s0 (Ok u)
  nothing_read k u left values code h there = not_far values order code h l0 l1 e f0 f1 k k s0 s0 left refl refl

  -- ## The offset

  module _ (n : ℕ) (first : s0.phase ≡ begun) (within : s0.at + 4 ≤ STREAM_LIMIT) (came : CountCame order l0 l1 n) where
    four : (values : List EnumList) → HasOctets (wants values (op.Text bound) s0) came.os s0.at
    four values = subst (λ (p : Phase). HasOctets (text_want values p) came.os s0.at) (sym first) (came.size, within)

    offset_step : (values : List EnumList) → step values order came.os (op.Text bound) s0 ≡ (if eqb n 0 then goes (past 4 (offset_read 0) s0) else refused s0.at reason.TextOffset)
    offset_step values =
        ap (λ (p : Phase). text_by values order came.os p (limit_of bound s0) s0) first
        ∙ ap (λ (k : ℕ). if eqb k 0 then goes (past 4 (offset_read 0) s0) else refused s0.at reason.TextOffset) came.number

    pub offset_refused : (k : ℕ) (s1 : State) → (n ≡ 0 → ⊥) → ReadsText order bound s0 Src k k s1 (Err (leap.Bad s0.at why.TextOffset))
    offset_refused k s1 other values code h there =
        refused_here values order code h l0 l1 e f0 f1 k k s0 s1 (op.Text bound) came.os there came.came (four values) s0.at reason.TextOffset
        (offset_step values ∙ ap (λ (b : Bool). if b then goes (past 4 (offset_read 0) s0) else refused s0.at reason.TextOffset) (ne_eqb n 0 other)) refl

    offset_ticks : (h : Home) → ticks (step_items order h came.os (op.Text bound) s0) ≡ 1
    offset_ticks h = ap (λ (p : Phase). ticks (text_items order h came.os p s0)) first

    pub offset_passed : (l2 : Option (List ℕ)) (e2 : Bool) (f2 k0 k1 k2 : ℕ) (s1 s2 : State) (r : Result (Unit {0}) LeapFault) → n ≡ 0 → k1 ≡ k0 + 1 → s1 ≡ past 4 (offset_read 0) s0
        → ReadsText order bound s1 (source l1 l2 e2 f1 f2) k1 k2 s2 r → ReadsText order bound s0 (source l0 l2 e2 f0 f2) k0 k2 s2 r
    offset_passed l2 e2 f2 k0 k1 k2 s1 s2 r none counted is later values code h there =
        let t : ticks (step_items order h came.os (op.Text bound) s0) ≡ 1 = offset_ticks h in
        let cells : length s1.cells ≡ length s0.cells = ap (λ (s : State). length s.cells) is in
        let pc : s1.pc ≡ s0.pc = ap (λ (s : State). s.pc) is in
        let does : step values order came.os (op.Text bound) s0 ≡ goes s1 =
        offset_step values ∙ ap (λ (b : Bool). if b then goes (past 4 (offset_read 0) s0) else refused s0.at reason.TextOffset) (eq-eqb n 0 none) ∙ ap goes (sym is) in
        far_on values order code h l0 l1 l2 e e2 f0 f1 f2 k0 k1 k2 s0 s1 s2
        (one_step values order code h l0 l1 e f0 f1 k0 k1 s0 s1 (op.Text bound) came.os there came.came (four values) does (omega (arith, t, cells, counted)))
        r (later values code h (ap (slice_get code) pc ∙ there))

  -- ## The actual count

  module _ (n : ℕ) (second : s0.phase ≡ offset_read 0) (within : s0.at + 4 ≤ STREAM_LIMIT) (came : CountCame order l0 l1 n) where
    abbrev limit : ℕ
    limit = limit_of bound s0

    abbrev counted_by : Bool → Bool → ℕ → Outcome
    counted_by empty past_bound c = if empty then refused s0.at reason.TextEmpty else if past_bound then refused s0.at reason.PastBound else goes (past 4 (count_read (c - 1)) s0)

    four_more : (values : List EnumList) → HasOctets (wants values (op.Text bound) s0) came.os s0.at
    four_more values = subst (λ (p : Phase). HasOctets (text_want values p) came.os s0.at) (sym second) (came.size, within)

    actual_step : (values : List EnumList) → step values order came.os (op.Text bound) s0 ≡ counted_by (eqb n 0) (ltb limit n) n
    actual_step values =
        ap (λ (p : Phase). text_by values order came.os p (limit_of bound s0) s0) second ∙ ap (λ (k : ℕ). counted_by (eqb k 0) (ltb limit k) k) came.number

    refuses : (k : ℕ) (s1 : State) (because : Reason) → ((values : List EnumList) → step values order came.os (op.Text bound) s0 ≡ refused s0.at because)
        → (values : List EnumList) (code : List Instr) (h : Home) → slice_get code s0.pc ≡ Some (op.Text bound) → Refuses values order code h s0 Src k k s1 s0.at because
    refuses k s1 because is values code h there =
        refused_here values order code h l0 l1 e f0 f1 k k s0 s1 (op.Text bound) came.os there came.came (four_more values) s0.at because (is values) refl

    pub actual_empty : (k : ℕ) (s1 : State) → n ≡ 0 → ReadsText order bound s0 Src k k s1 (Err (leap.Bad s0.at why.TextEmpty))
    actual_empty k s1 none = refuses k s1 reason.TextEmpty (λ values. actual_step values ∙ ap (λ (b : Bool). counted_by b (ltb limit n) n) (eq-eqb n 0 none))

    pub actual_past : (k : ℕ) (s1 : State) → (n ≡ 0 → ⊥) → limit < n → ReadsText order bound s0 Src k k s1 (Err (leap.Bad s0.at why.PastBound))
    actual_past k s1 some over =
        refuses k s1 reason.PastBound
        (λ values. actual_step values ∙ ap (λ (b : Bool). counted_by b (ltb limit n) n) (ne_eqb n 0 some) ∙ ap (λ (b : Bool). counted_by false b n) (lt-ltb limit n over))

    actual_ticks : (h : Home) → ticks (step_items order h came.os (op.Text bound) s0) ≡ 1
    actual_ticks h = ap (λ (p : Phase). ticks (text_items order h came.os p s0)) second

    pub actual_passed : (l2 : Option (List ℕ)) (e2 : Bool) (f2 k0 k1 k2 : ℕ) (s1 s2 : State) (r : Result (Unit {0}) LeapFault) → (n ≡ 0 → ⊥) → n ≤ limit → k1 ≡ k0 + 1
        → s1 ≡ past 4 (count_read (n - 1)) s0 → ReadsText order bound s1 (source l1 l2 e2 f1 f2) k1 k2 s2 r → ReadsText order bound s0 (source l0 l2 e2 f0 f2) k0 k2 s2 r
    actual_passed l2 e2 f2 k0 k1 k2 s1 s2 r some few counted is later values code h there =
        let t : ticks (step_items order h came.os (op.Text bound) s0) ≡ 1 = actual_ticks h in
        let cells : length s1.cells ≡ length s0.cells = ap (λ (s : State). length s.cells) is in
        let pc : s1.pc ≡ s0.pc = ap (λ (s : State). s.pc) is in
        let does : step values order came.os (op.Text bound) s0 ≡ goes s1 =
        actual_step values ∙ ap (λ (b : Bool). counted_by b (ltb limit n) n) (ne_eqb n 0 some)
        ∙ ap (λ (b : Bool). counted_by false b n) (not_below limit n few) ∙ ap goes (sym is) in
        far_on values order code h l0 l1 l2 e e2 f0 f1 f2 k0 k1 k2 s0 s1 s2
        (one_step values order code h l0 l1 e f0 f1 k0 k1 s0 s1 (op.Text bound) came.os there came.came (four_more values) does (omega (arith, t, cells, counted)))
        r (later values code h (ap (slice_get code) pc ∙ there))
      where
        not_below : (a b : ℕ) → b ≤ a → ltb a b ≡ false
        not_below a b h = grind (arith, nat_tests, h)

  -- ## The octets

  module _ (n : ℕ) (third : s0.phase ≡ count_read (n - 1)) (some : 0 < n) (os : List ℕ) (size : length os ≡ n) (within : s0.at + length os ≤ STREAM_LIMIT) (came : HasCome l0 l1 os) where
    abbrev done : Outcome
    done = text_done (text_refusal s0.at os) (limit_of bound s0) os s0

    all_of_them : (values : List EnumList) → HasOctets (wants values (op.Text bound) s0) os s0.at
    all_of_them values =
        let n_is : length os ≡ n - 1 + 1 = omega (arith, size, some) in
        subst (λ (p : Phase). HasOctets (text_want values p) os s0.at) (sym third) (n_is, omega (arith, n_is, within))

    octets_step : (values : List EnumList) → step values order os (op.Text bound) s0 ≡ done
    octets_step values = ap (λ (p : Phase). text_by values order os p (limit_of bound s0) s0) third

    octets_ticks : (h : Home) → ticks (step_items order h os (op.Text bound) s0) ≡ 1
    octets_ticks h = ap (λ (p : Phase). ticks (text_items order h os p s0)) third

    -- no cell is named
    same_cells : (r : Option (ℕ × Reason)) (s1 : State) → text_done r (limit_of bound s0) os s0 ≡ goes s1 → s1.cells ≡ s0.cells
    same_cells None s1 does = let same : done_after (length os) (with_node (tree.Text (limit_of bound s0) (take (length os - 1) os), 0) (Some (s0.at - 4)) s0) ≡ s1 =
        cc in ap (λ (s : State). s.cells) (sym same)
    same_cells (Some x) s1 does = absurd (let no : refused x.0 x.1 ≡ goes s1 = does in cc)

    pub octets_read : (k0 k1 : ℕ) (s1 : State) (u v : Unit {0}) → k1 ≡ k0 + 1 → TextDoes done (Ok v) s1 → ReadsText order bound s0 Src k0 k1 s1 (Ok u)
    octets_read k0 k1 s1 u v counted does values code h there =
        let t : ticks (step_items order h os (op.Text bound) s0) ≡ 1 = octets_ticks h in
        let cells : length s1.cells ≡ length s0.cells = ap length (same_cells (text_refusal s0.at os) s1 does) in
        one_step values order code h l0 l1 e f0 f1 k0 k1 s0 s1 (op.Text bound) os there came (all_of_them values) (octets_step values ∙ does) (omega (arith, t, cells, counted))

    octets_fault : (k : ℕ) (s1 : State) (x : LeapFault) → TextDoes done (Err x) s1 → ReadsText order bound s0 Src k k s1 (Err x)
    octets_fault k s1 (leap.Bad place because) does values code h there =
        refused_here values order code h l0 l1 e f0 f1 k k s0 s1 (op.Text bound) os there came (all_of_them values) place (reason_of because) (octets_step values ∙ does) refl
    octets_fault k s1 leap.Memory does values code h there = given_up values order code h l0 l1 e f0 f1 k k s0 s1 os came refl

    pub octets_failed : (k : ℕ) (s1 : State) (x : LeapFault) (r : Result (Unit {0}) LeapFault) → TextDoes done (Err x) s1 → IsErrAnd r (λ y. y ≡ x) → ReadsText order bound s0 Src k k s1 r
    octets_failed k s1 x (Ok u) does is = absurd is
    octets_failed k s1 x (Err y) does is = subst (λ z. ReadsText order bound s0 Src k k s1 (Err z)) (sym is) (octets_fault k s1 x does)
