-- Reading a struct whose octets have come, member by member.
-- `s` is the state before the next member, `from` how many octets were taken, `left` how many members there are still.
use Rattle.std.proofs.Common.{◌≡◌, ◌≤◌, ◌<◌, ◌^◌, ℕ, ◌+◌, ◌-◌, zero, suc, List, [], ◌∷◌, ◌++◌, length, Option, Some, None, Result, Ok, Err, IsErrAnd, refl, ap, sym, ◌∙◌, subst, arith, length-append}
use Rattle.std.specs.Prelude.{Bool, true, false, take, drop, slice_get}
use Rattle.std.proofs.lemmas.Option.{same_Some, slice_get_within}
use Rattle.std.specs.Io.KnownBytes.{Consumes}
use Rattle.nd_base.specs.Over.{SourceOver}
use Rattle.nd_base.specs.declared.octets.Memory.{Memory}
use Rattle.nd_base.specs.declared.octets.Order.{Order}
use Rattle.nd_base.specs.declared.TheConstants.{STREAM_LIMIT}
use Rattle.nd_types.specs.declared.types.TypeId.{TypeId}
use Rattle.nd_types.specs.Number.{AreOctets, unsigned}
use Rattle.nd_value.specs.declared.item.Home.{Home}
use Rattle.nd_value.specs.declared.item.Item.{Item}
use Rattle.nd_value.specs.Tree as tree
use Rattle.nd_grammar.specs.Entry.{gap}
use Rattle.nd_grammar.proofs.reader.Ranges.{drop_octets, take_octets}
use Rattle.ndr_code.specs.declared.instr.Instr.{Instr}
use Rattle.ndr_code.specs.declared.instr.Instr.TheVariants as op
use Rattle.ndr_code.specs.declared.lists.EnumList.{EnumList}
use Rattle.ndr_decoder_laws.specs.steps.Steps.{State, with_node, jumped}
use Rattle.ndr_decoder_laws.specs.runs.Reaching.{Reaches, IsSafe, begins}
use Rattle.ndr_decoder_laws.proofs.runs.RowSteps.{length_left}
use Rattle.std.proofs.lemmas.List.{length-take-le as length_taken, take-append-drop as taken_and_left}
use Rattle.ndr_decoder_state.specs.Notes.{ticks}
use Rattle.ndr_decoder_fast.specs.declared.fault.LeapFault.{LeapFault}
use Rattle.ndr_decoder_fast.specs.declared.fault.LeapFault.TheVariants as leap
use Rattle.ndr_decoder_fast.specs.Leaps.{Leaps, LeapsOrGivesUp}
use Rattle.ndr_code.specs.declared.fields.Form.{Form}
use Rattle.ndr_code.specs.declared.fields.Form.TheVariants as form
use Rattle.ndr_code.specs.declared.fields.Field.{Field}
use Rattle.ndr_code.specs.Lengths.{field_len, HasFields}
use Rattle.ndr_decoder_fast.specs.Structs.{cells_with, form_read, is_null, field_read, at_address, within, IsLevel, IsInside, IsOver, IsStopped, StructRead}
use Rattle.ndr_code.specs.Fields.{field_called, field_of, run_of}
use Rattle.ndr_decoder_fast.proofs.StructSteps.{struct_begun, field_came, struct_ended}

-- ## Reading it

-- a call is within the code
called_within : (code : List Instr) (pc : ℕ) (f : Field) → field_of code pc ≡ Some f → pc < length code
called_within code pc f e = there (slice_get code pc) refl e
  where
    there : (i : Option Instr) → slice_get code pc ≡ i → field_called code (run_of i) ≡ Some f → pc < length code
    there None is e = absurd (cc)
    there (Some i) is e = slice_get_within code pc i is

-- cells are never forgotten
more_cells : (b : Bool) (to : TypeId) (cells : List ℕ) → length cells ≤ length (cells_with b to cells)
more_cells true to cells = omega arith
more_cells false to cells = let e : length (cells ++ to.0 ∷ []) ≡ length cells + 1 = length-append cells (to.0 ∷ []) in omega (arith, e)

cells_grow : (order : Order) (f : Form) (os : List ℕ) (s : State) → length s.cells ≤ length (form_read order f os s).cells
cells_grow order (form.Number p) os s = omega arith
cells_grow order (form.Pointer class to run) os s = more_cells (is_null class (unsigned order os)) to s.cells

next_part : (from n : ℕ) (os : List ℕ) → from + n ≤ length os → take (from + n) os ≡ take from os ++ take n (drop from os)
next_part zero n os fits = let e : 0 + n ≡ n = omega arith in ap (λ k. take k os) e
next_part (suc from) n [] fits = absurd (omega (arith, fits))
next_part (suc from) n (o ∷ os) fits =
    let e : suc from + n ≡ suc (from + n) = omega arith in
    ap (λ k. take k (o ∷ os)) e ∙ ap (λ l. o ∷ l) (next_part from n os (omega (arith, fits)))

part_length : (from n : ℕ) (os : List ℕ) → from + n ≤ length os → length (take n (drop from os)) ≡ n
part_length from n os fits =
    let left : from + length (drop from os) ≡ length os = length_left from os (omega (arith, fits)) in
    length_taken n (drop from os) (omega (arith, left, fits))

all_taken : (n : ℕ) (os : List ℕ) → n ≡ length os → take n os ≡ os
all_taken zero [] e = refl
all_taken zero (o ∷ os) e = absurd (omega (arith, e))
all_taken (suc n) [] e = absurd (omega (arith, e))
all_taken (suc n) (o ∷ os) e = ap (λ l. o ∷ l) (all_taken n os (omega (arith, e)))

module _ (values : List EnumList) (order : Order) (code : List Instr) (h : Home) (s0 : State) (steps : ℕ) (os : List ℕ) where
  pub record IsReading (from left steps_now : ℕ) (s : State) : Type 0 where
    pub inside : IsInside values order code h s0 steps (take from os) steps_now s
    pub rest : ℕ
    pub sum : from + rest ≡ length os
    pub fields : HasFields code s.pc s.at left rest
    pub within_limit : s.at + rest ≤ STREAM_LIMIT
    pub level : length s.firsts ≡ length s.members

  pub reading_begun : (n : ℕ) (s : State) → slice_get code s0.pc ≡ Some (op.Record n) → HasFields code (s0.pc + 1) s0.at n (length os) → s0.at + length os ≤ STREAM_LIMIT → IsLevel s0
      → s ≡ at_address (s0.pc + 1) (with_node (tree.Rec, n) None s0) → IsReading 0 n steps s
  reading_begun n s there fields short level e =
      subst (λ k. IsReading 0 n steps k) (sym e)
      (record {
        inside = subst (λ l. IsInside values order code h s0 steps l steps (at_address (s0.pc + 1) (with_node (tree.Rec, n) None s0))) (none os) (struct_begun values order code h s0 steps n there);
        rest = length os;
        sum = omega arith;
        fields = fields;
        within_limit = short;
        level = level;
      })
    where
      none : (os : List ℕ) → [] ≡ take 0 os
      none [] = refl
      none (o ∷ os) = refl

  -- there is a member as long as some are left
  pub some_field : (from left steps_now : ℕ) (s : State) → IsReading from left steps_now s → 0 < left → field_of code s.pc ≡ None → ⊥
  some_field from zero steps_now s r some e = omega (arith, some)
  some_field from (suc n) steps_now s r some e = let it : field_of code s.pc ≡ Some r.fields.0 = r.fields.1.1.0 in cc

  -- its octets are there
  pub field_fits : (from left steps_now : ℕ) (s : State) (f : Field) → IsReading from left steps_now s → 0 < left → field_of code s.pc ≡ Some f
      → (from + field_len s.at f ≤ length os) × (s.at + field_len s.at f ≤ STREAM_LIMIT)
  field_fits from zero steps_now s f r some e = absurd (omega (arith, some))
  field_fits from (suc n) steps_now s f r some e =
      let same : r.fields.0 ≡ f = same_Some r.fields.0 f (sym r.fields.1.1.0 ∙ e) in
      let len_is : r.rest ≡ field_len s.at f + r.fields.1.0 = subst (λ k. r.rest ≡ field_len s.at k + r.fields.1.0) same r.fields.1.1.1.0 in
      let sum : from + r.rest ≡ length os = r.sum in
      let short : s.at + r.rest ≤ STREAM_LIMIT = r.within_limit in
      (omega (arith, len_is, sum), omega (arith, len_is, short))

  -- one more
  pub reading_on : (from left steps1 steps2 : ℕ) (s s1 : State) (f : Field) → IsReading from left steps1 s → 0 < left → field_of code s.pc ≡ Some f → AreOctets os
      → s1 ≡ field_read order f (take (field_len s.at f) (drop from os)) s → steps2 + length s.cells ≡ steps1 + 1 + length s1.cells
      → IsReading (from + field_len s.at f) (left - 1) steps2 s1
  reading_on from zero steps1 steps2 s s1 f r some e octets is more = absurd (omega (arith, some))
  reading_on from (suc n) steps1 steps2 s s1 f r some e octets is more =
      let k : ℕ = field_len s.at f in
      let here : List ℕ = take k (drop from os) in
      let t : State = field_read order f here s in
      let same : r.fields.0 ≡ f = same_Some r.fields.0 f (sym r.fields.1.1.0 ∙ e) in
      let len_is : r.rest ≡ k + r.fields.1.0 = subst (λ q. r.rest ≡ field_len s.at q + r.fields.1.0) same r.fields.1.1.1.0 in
      let rests : HasFields code (s.pc + 1) (s.at + k) n r.fields.1.0 = subst (λ q. HasFields code (s.pc + 1) (s.at + field_len s.at q) n r.fields.1.0) same r.fields.1.1.1.1 in
      let sum : from + r.rest ≡ length os = r.sum in
      let short : s.at + r.rest ≤ STREAM_LIMIT = r.within_limit in
      let size : length here ≡ k = part_length from k os (omega (arith, len_is, sum)) in
      let counted : steps2 + length s.cells ≡ steps1 + 1 + length t.cells = subst (λ q. steps2 + length s.cells ≡ steps1 + 1 + length q.cells) is more in
      let came : IsInside values order code h s0 steps (take from os ++ here) steps2 t =
      field_came values order code h s0 steps steps1 steps2 (take from os) here s f r.inside e (take_octets k (drop from os) (drop_octets from os octets)) size
      (omega (arith, size, len_is, short)) counted in
      let less : suc n - 1 ≡ n = omega arith in
      subst (λ q. IsReading (from + k) (suc n - 1) steps2 q) (sym is)
      (record {
        inside = subst (λ l. IsInside values order code h s0 steps l steps2 t) (sym (next_part from k os (omega (arith, len_is, sum)))) came;
        rest = r.fields.1.0;
        sum = omega (arith, len_is, sum);
        fields = subst (λ q. HasFields code (s.pc + 1) (s.at + q) (suc n - 1) r.fields.1.0) (sym size) (subst (λ q. HasFields code (s.pc + 1) (s.at + k) q r.fields.1.0) (sym less) rests);
        within_limit = omega (arith, size, len_is, short);
        level = r.level;
      })

  -- memory failed at a member
  pub reading_stopped : (from left steps1 steps2 : ℕ) (s : State) (f : Field) → IsReading from left steps1 s → 0 < left → field_of code s.pc ≡ Some f → AreOctets os
      → steps2 + length s.cells ≤ steps1 + length (field_read order f (take (field_len s.at f) (drop from os)) s).cells
      → IsStopped values order code h s0 steps os steps2
  reading_stopped from zero steps1 steps2 s f r some e octets more = absurd (omega (arith, some))
  reading_stopped from (suc n) steps1 steps2 s f r some e octets more =
      let k : ℕ = field_len s.at f in
      let here : List ℕ = take k (drop from os) in
      let t : State = field_read order f here s in
      let same : r.fields.0 ≡ f = same_Some r.fields.0 f (sym r.fields.1.1.0 ∙ e) in
      let len_is : r.rest ≡ k + r.fields.1.0 = subst (λ q. r.rest ≡ field_len s.at q + r.fields.1.0) same r.fields.1.1.1.0 in
      let sum : from + r.rest ≡ length os = r.sum in
      let short : s.at + r.rest ≤ STREAM_LIMIT = r.within_limit in
      let size : length here ≡ k = part_length from k os (omega (arith, len_is, sum)) in
      let most : ℕ = steps1 + 1 + length t.cells - length s.cells in
      let few : length s.cells ≤ length t.cells = cells_grow order f.form (drop (gap s.at f.to) here) s in
      let came : IsInside values order code h s0 steps (take from os ++ here) most t =
      field_came values order code h s0 steps steps1 most (take from os) here s f r.inside e (take_octets k (drop from os) (drop_octets from os octets)) size (omega (arith, size, len_is, short))
      (omega (arith, few)) in
      let counted : most + length s0.cells ≡ steps + ticks came.noted + length t.cells = came.counted in
      record {
        fetched = take from os ++ here;
        rest = drop (from + k) os;
        noted = came.noted;
        s = within t.pc t.at came.back (t.members ++ came.members) (t.firsts ++ came.firsts) t;
        octets = ap (λ l. l ++ drop (from + k) os) (sym (next_part from k os (omega (arith, len_is, sum)))) ∙ taken_and_left (from + k) os;
        reached = came.reached;
        counted = omega (arith, counted, more, few);
      }

  -- the same where the octets of the member end at a place
  pub field_on : (from end left steps1 steps2 : ℕ) (s s1 : State) (f : Field) → IsReading from left steps1 s → 0 < left → field_of code s.pc ≡ Some f → AreOctets os
      → end ≡ from + field_len s.at f → s1 ≡ field_read order f (take (end - from) (drop from os)) s → steps2 + length s.cells ≡ steps1 + 1 + length s1.cells
      → IsReading end (left - 1) steps2 s1
  field_on from end left steps1 steps2 s s1 f r some there octets e is more =
      let k : end - from ≡ field_len s.at f = omega (arith, e) in
      subst (λ q. IsReading q (left - 1) steps2 s1) (sym e)
      (reading_on from left steps1 steps2 s s1 f r some there octets (is ∙ ap (λ n. field_read order f (take n (drop from os)) s) k) more)

  pub field_stopped : (from end left steps1 steps2 : ℕ) (s : State) (f : Field) → IsReading from left steps1 s → 0 < left → field_of code s.pc ≡ Some f → AreOctets os
      → end ≡ from + field_len s.at f → steps2 + length s.cells ≤ steps1 + length (field_read order f (take (end - from) (drop from os)) s).cells
      → IsStopped values order code h s0 steps os steps2
  field_stopped from end left steps1 steps2 s f r some there octets e more =
      let k : end - from ≡ field_len s.at f = omega (arith, e) in
      reading_stopped from left steps1 steps2 s f r some there octets (subst (λ n. steps2 + length s.cells ≤ steps1 + length (field_read order f (take n (drop from os)) s).cells) k more)

  -- memory failed before the first member
  pub stopped_first : IsStopped values order code h s0 steps os steps
  stopped_first = record {
    fetched = [];
    rest = os;
    noted = [];
    s = s0;
    octets = refl;
    reached = begins;
    counted = omega arith;
  }

  pub memory_stops : (steps_now : ℕ) (s : State) (r : Result (Unit {0}) Memory) (e : Memory) → IsErrAnd r (λ y. y ≡ e)
      → IsStopped values order code h s0 steps os steps_now → StructRead values order code h s0 steps os steps_now s r
  memory_stops steps_now s (Ok u) e is x = absurd is
  memory_stops steps_now s (Err y) e is x = x

  -- all members were read
  pub reading_over : (from left steps_now : ℕ) (s s1 : State) → IsReading from left steps_now s → left ≡ 0 → s1 ≡ jumped (s.pc + 1) s → IsOver values order code h s0 steps os steps_now s1
  reading_over from zero steps_now s s1 r none is =
      let len_is : r.rest ≡ 0 = r.fields.1 in
      let sum : from + r.rest ≡ length os = r.sum in
      subst (λ q. IsOver values order code h s0 steps os steps_now q) (sym is)
      (subst (λ l. IsOver values order code h s0 steps l steps_now (jumped (s.pc + 1) s)) (all_taken from os (omega (arith, len_is, sum)))
      (struct_ended values order code h s0 steps steps_now (take from os) s r.inside r.fields.0 r.level))
  reading_over from (suc n) steps_now s s1 r none is = absurd (omega (arith, none))

  -- ## Where it goes on

  -- the address of the `close`, or of a call
  pub pc_here : (from left steps_now : ℕ) (s : State) → IsReading from left steps_now s → length code < 2 ^ 32 → s.pc < 2 ^ 32
  pc_here from left steps_now s r short = pc_by left r.fields
    where
      pc_by : (left : ℕ) → HasFields code s.pc s.at left r.rest → s.pc < 2 ^ 32
      pc_by zero f = let below : s.pc < length code = slice_get_within code s.pc op.Close f.0 in omega (arith, below, short)
      pc_by (suc n) f = let below : s.pc < length code = called_within code s.pc f.0 f.1.1.0 in omega (arith, below, short)

-- ## What a struct comes to

rest_octets : (xs ys : List ℕ) → AreOctets (xs ++ ys) → AreOctets ys
rest_octets [] ys a = a
rest_octets (x ∷ xs) ys a = rest_octets xs ys a.1

module _ (values : List EnumList) (order : Order) (code : List Instr) (h : Home) (s0 : State) (source : SourceOver) (steps : ℕ) (os : List ℕ) (left : Consumes source.left source.left_now os) where
  pub struct_stopped : AreOctets os → (steps_now : ℕ) (s s1 : State) (e : Memory) (r : Result Bool Memory) → IsStopped values order code h s0 steps os steps_now → IsErrAnd r (λ y. y ≡ e)
      → LeapsOrGivesUp values order code h s0 source steps steps_now s1 r
  struct_stopped octets steps_now s s1 e (Ok b) x is = absurd is
  struct_stopped octets steps_now s s1 e (Err y) x is =
      record {
        fetched = x.fetched;
        noted = x.noted;
        s = x.s;
        reached = x.reached;
        os = x.rest;
        octets = rest_octets x.fetched x.rest (subst AreOctets (sym x.octets) octets);
        left = subst (Consumes source.left source.left_now) (sym x.octets) left;
        counted = x.counted;
      }

-- what comes of a struct is what a leap comes to
module _ (values : List EnumList) (order : Order) (code : List Instr) (h : Home) (s0 : State) (source : SourceOver) (steps steps_now : ℕ) (s1 : State) where
  pub leaps_on : (b : Bool) → LeapsOrGivesUp values order code h s0 source steps steps_now s1 (Ok b) → Leaps values order code h s0 source steps steps_now s1 (Ok b)
  leaps_on true x = x
  leaps_on false x = x

  pub leap_stopped : (e : Memory) (r : Result Bool LeapFault) → LeapsOrGivesUp values order code h s0 source steps steps_now s1 (Err e) → IsErrAnd r (λ y. y ≡ leap.Memory)
      → Leaps values order code h s0 source steps steps_now s1 r
  leap_stopped e (Ok b) x is = absurd is
  leap_stopped e (Err y) x is = subst (λ z. Leaps values order code h s0 source steps steps_now s1 (Err z)) (sym is) x

-- ## Where it begins

pub safe_first : {values : List EnumList} {order : Order} {code : List Instr} {h : Home} {s0 : State}
    → ((fetched : List ℕ) (noted : List Item) (s : State) → Reaches values order code h s0 fetched noted s → IsSafe code s) → IsSafe code s0
safe_first {values} {order} {code} {h} {s0} safe = safe [] [] s0 begins
