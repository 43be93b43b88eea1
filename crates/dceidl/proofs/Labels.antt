-- The format label before the octets of values: what is read after it, and where the input is known it states one order, or is refused in one way.
use Rattle.std.proofs.Common.{◌≡◌, ℕ, ◌+◌, ◌<◌, ◌≤◌, Bool, List, [], ◌++◌, length, Option, Some, Result, Ok, Err, IfOk, IfErr, refl, sym, ◌∙◌, ap, subst, take, drop, inr, arith}
use Rattle.std.proofs.lemmas.List.{append-nil, length-append, drop_at}
use Rattle.std.specs.Io.KnownBytes.{Consumes, IsAtEnd}
use Rattle.nd_base.specs.declared.octets.Order.{Order}
use Rattle.nd_base.specs.Over.{Rose, SourceOver, HasRisen}
use Rattle.nd_base.proofs.Rising.{rose_later}
use Rattle.nd_value.specs.Setting.{Setting}
use Rattle.command_streams.specs.Input.{HasLabel, IsShortLabel, IsLabelCause, AreGiven}
use Rattle.ndr_pipe.specs.Ends.{EndsSeen}
use Rattle.ndr_prim.specs.declared.label.LabelFault.{LabelFault}
use Rattle.ndr_prim.specs.Label.{order_of_label}
use Rattle.command_refusals.specs.declared.refusal.Refusal.{Refusal}
use Rattle.command_refusals.specs.declared.refusal.Refusal.TheVariants.{Memory, Absent, FileFailed, BadIdl, NoOperation, ReadFault, BadOctets, BadText, BadValue, TooLong, BadRequest, BadLabel}
use Rattle.command_refusals.specs.declared.refusal.Refusal.TheVariants.{ShortLabel, TooFewEnds, EndFailed}
use Rattle.command_refusals.specs.declared.refusal.Refusal.TheVariants.{BadPdu, NotCompatible, BadScript, LongScript}
use Rattle.command_line.specs.declared.command.Reading.{Reading}
use Rattle.command_line.specs.declared.command.OrderWord.{OrderWord}
use Rattle.command_line.specs.declared.command.OrderWord.TheVariants.{Fixed, Label}
use Rattle.command_line.specs.declared.command.Task.TheVariants.{Read}
use Rattle.dceidl.specs.Input.{IsAfterLabel, IsOpened, IsUnopened, IsMadeReading, IsReadingCause, IsMadeOf, IsTaskCause}
use Rattle.dceidl.specs.Rows.{AreGivenIn}
use Rattle.command_streams.proofs.OneInput.{split_by}
use Rattle.nd_lemmas.proofs.Lists.{take_front}

-- a source over a call
abbrev pub over : Option (List ℕ) → Option (List ℕ) → Bool → ℕ → ℕ → SourceOver
over left now ended before after = record { left = left; left_now = now; ended_now = ended; faults = record { before = before; now = after } }

-- ## What is read after a label, and in an order that the command names

module _ (l m n : Option (List ℕ)) (u t : Bool) (f0 f1 f2 : ℕ) (later : f0 ≤ f1) (order : Order) (is : HasLabel (over l m u f0 f1) order) (how : Reading) (e : EndsSeen)
    (w : Setting) where
  abbrev source_all : SourceOver
  source_all = over l n t f0 f2

  abbrev source_after : SourceOver
  source_after = over m n t f1 f2

  opened : IsAfterLabel source_all source_after order
  opened = record { label = is.label; taken = is.taken; is_label = (is.four, is.states); left_now = refl; ended = refl; faults = refl; later = later }

  pub labelled_made : (result : Result (List ℕ) Refusal) → IfOk result (IsMadeReading how source_after e w order) → IfOk result (IsMadeOf source_all e (Read how Label) w)
  labelled_made (Ok made) m = (source_after, order, opened, m)
  labelled_made (Err r) m = tt

  pub labelled_refused : (result : Result (List ℕ) Refusal) → IfErr result (IsReadingCause how source_after e w order) → IfErr result (IsTaskCause source_all e (Read how Label) w)
  labelled_refused (Ok made) cause = tt
  labelled_refused (Err r) cause = inr (source_after, order, opened, cause)

module _ (s : SourceOver) (e : EndsSeen) (w : Setting) (how : Reading) (order : Order) where
  pub fixed_made : (result : Result (List ℕ) Refusal) → IfOk result (IsMadeReading how s e w order) → IfOk result (IsMadeOf s e (Read how (Fixed order)) w)
  fixed_made (Ok made) m = (s, order, (refl, refl), m)
  fixed_made (Err r) m = tt

  pub fixed_refused : (result : Result (List ℕ) Refusal) → IfErr result (IsReadingCause how s e w order) → IfErr result (IsTaskCause s e (Read how (Fixed order)) w)
  fixed_refused (Ok made) cause = tt
  fixed_refused (Err r) cause = inr (s, order, (refl, refl), cause)

-- the way of reading of the code
pub made_reading : (s : SourceOver) (e : EndsSeen) (w : Setting) (order : Order) (how own : Reading) → how ≡ own → (result : Result (List ℕ) Refusal)
    → IfOk result (IsMadeReading own s e w order) → IfOk result (IsMadeReading how s e w order)
made_reading s e w order how own same result m = subst (λ h. IfOk result (IsMadeReading h s e w order)) (sym same) m

-- ## Where the input is known

-- four octets that were taken are the first four
module _ (s : SourceOver) (a octets : List ℕ) (left : s.left ≡ Some (a ++ octets)) (four : length a ≡ 4) where
  same_label : (now : Option (List ℕ)) (b : List ℕ) → Consumes s.left now b → length b ≡ 4 → a ≡ b
  same_label now b taken also =
      let (more, is, whole) = split_by s.left now (a ++ octets) b left taken in
      sym (take_front 4 a octets four) ∙ ap (take 4) whole ∙ take_front 4 b more also

  what_follows : (now : Option (List ℕ)) (b : List ℕ) → Consumes s.left now b → length b ≡ 4 → now ≡ Some octets
  what_follows now b taken also =
      let (more, is, whole) = split_by s.left now (a ++ octets) b left taken in
      let same : octets ≡ more = sym (drop_at a octets 4 four) ∙ ap (drop 4) whole ∙ drop_at b more 4 also in
      is ∙ ap Some (sym same)

-- an input that was taken whole and is shorter than a label
fewer_than_four : (s : SourceOver) (all : List ℕ) → s.left ≡ Some all → IsShortLabel s → length all < 4
fewer_than_four s all left h =
    let (rest, is, whole) = split_by s.left s.left_now all h.label left h.taken in
    let none : rest ≡ [] = subst IsAtEnd is h.none_left in
    let many : length all ≡ length h.label = ap length (whole ∙ ap (λ u. h.label ++ u) none ∙ append-nil h.label) in
    let short = h.short in
    omega (arith, many, short)

at_least_four : (s : SourceOver) (all : List ℕ) → s.left ≡ Some all → (now : Option (List ℕ)) (label : List ℕ) → Consumes s.left now label → length label ≡ 4 → 4 ≤ length all
at_least_four s all left now label taken four =
    let (rest, is, whole) = split_by s.left now all label left taken in
    let many : length all ≡ length label + length rest = ap length whole ∙ length-append label rest in
    omega (arith, many, four)

stated_or_bad : (label other : List ℕ) (order : Order) (why : LabelFault) → label ≡ other → order_of_label label ≡ Ok order → order_of_label other ≡ Err why → ⊥
stated_or_bad label other order why same states bad =
    let both : order_of_label label ≡ Err why = ap order_of_label same ∙ bad in
    let never = sym states ∙ both in
    cc

one_stated : (label other : List ℕ) (a b : Order) → label ≡ other → order_of_label label ≡ Ok a → order_of_label other ≡ Ok b → b ≡ a
one_stated label other a b same x y =
    let both : order_of_label label ≡ Ok b = ap order_of_label same ∙ y in
    let ok : Ok b ≡ Ok a = sym both ∙ x in
    cc

one_fault : (label other : List ℕ) (why because : LabelFault) → label ≡ other → order_of_label label ≡ Err why → order_of_label other ≡ Err because → because ≡ why
one_fault label other why because same x y =
    let both : order_of_label label ≡ Err because = ap order_of_label same ∙ y in
    let err : Err because ≡ Err why = sym both ∙ x in
    cc

-- The octets of the input are known, after a label of this order if the command asks for one.
module _ (s : SourceOver) (order : Order) (octets : List ℕ) where
  reads_after : (rest : SourceOver) (other : Order) → IsAfterLabel s rest other → (HasRisen s.faults → ⊥) → HasRisen rest.faults → ⊥
  reads_after rest other o reads rose = reads (rose_later s.faults.before rest.faults.before s.faults.now o.later (subst (λ k. Rose rest.faults.before k) o.faults rose))

  -- what is read is these octets
  pub given_after : (word : OrderWord) → AreGivenIn s word order octets → (rest : SourceOver) (other : Order) → IsOpened word s rest other → AreGiven rest octets
  given_after (Fixed named) g rest other (same, is) =
      subst (λ r. AreGiven r octets) (sym same) (subst (λ l. AreGiven s (l ++ octets)) g.is_label.0 g.given)
  given_after Label g rest other o = record {
    left = what_follows s g.label octets g.given.left g.is_label.0 rest.left o.label o.taken o.is_label.0;
    reads = reads_after rest other o g.given.reads;
  }

  -- in this order
  pub one_order : (word : OrderWord) → AreGivenIn s word order octets → (rest : SourceOver) (other : Order) → IsOpened word s rest other → other ≡ order
  one_order (Fixed named) g rest other (same, is) = is ∙ sym g.is_label.1
  one_order Label g rest other o =
      one_stated g.label o.label order other (same_label s g.label octets g.given.left g.is_label.0 rest.left o.label o.taken o.is_label.0) g.is_label.1 o.is_label.1

  -- and the label is not refused
  labelled_cause : AreGivenIn s Label order octets → (r : Refusal) → IsLabelCause s r → ⊥
  labelled_cause g ReadFault rose = g.given.reads rose
  labelled_cause g (BadLabel why) b =
      stated_or_bad g.label b.label order why (same_label s g.label octets g.given.left g.is_label.0 s.left_now b.label b.taken b.four) g.is_label.1 b.states
  labelled_cause g ShortLabel h =
      let few = fewer_than_four s (g.label ++ octets) g.given.left h in
      let many = length-append g.label octets in
      let four = g.is_label.0 in
      omega (arith, few, many, four)
  labelled_cause g Memory cause = absurd cause
  labelled_cause g (Absent other) cause = absurd cause
  labelled_cause g (FileFailed other) cause = absurd cause
  labelled_cause g (BadIdl file line column reason) cause = absurd cause
  labelled_cause g NoOperation cause = absurd cause
  labelled_cause g (BadOctets place because) cause = absurd cause
  labelled_cause g (BadText line column reason) cause = absurd cause
  labelled_cause g (BadValue path reason) cause = absurd cause
  labelled_cause g (TooLong many) cause = absurd cause
  labelled_cause g (BadRequest fault) cause = absurd cause
  labelled_cause g (TooFewEnds wanted found) cause = absurd cause
  labelled_cause g (EndFailed which) cause = absurd cause
  labelled_cause g (BadPdu spot because) cause = absurd cause
  labelled_cause g (NotCompatible differing) cause = absurd cause
  labelled_cause g (BadScript row) cause = absurd cause
  labelled_cause g LongScript cause = absurd cause

  pub never_unopened : (word : OrderWord) → AreGivenIn s word order octets → (r : Refusal) → IsUnopened word s r → ⊥
  never_unopened (Fixed named) g r cause = cause
  never_unopened Label g r cause = labelled_cause g r cause

-- A label that must be refused is refused in one way, and nothing is read after it.
module _ (s : SourceOver) (label octets : List ℕ) (given : AreGiven s (label ++ octets)) (four : length label ≡ 4) (why : LabelFault) (bad : order_of_label label ≡ Err why) where
  pub bad_opened : (rest : SourceOver) (order : Order) → IsAfterLabel s rest order → ⊥
  bad_opened rest order o =
      stated_or_bad o.label label order why (sym (same_label s label octets given.left four rest.left o.label o.taken o.is_label.0)) o.is_label.1 bad

  pub bad_cause : (r : Refusal) → IsLabelCause s r → r ≡ BadLabel why
  bad_cause ReadFault rose = absurd (given.reads rose)
  bad_cause (BadLabel because) b = ap BadLabel (one_fault label b.label why because (same_label s label octets given.left four s.left_now b.label b.taken b.four) bad b.states)
  bad_cause ShortLabel h =
      let few = fewer_than_four s (label ++ octets) given.left h in
      let many = length-append label octets in
      absurd (omega (arith, few, many, four))
  bad_cause Memory cause = absurd cause
  bad_cause (Absent other) cause = absurd cause
  bad_cause (FileFailed other) cause = absurd cause
  bad_cause (BadIdl file line column reason) cause = absurd cause
  bad_cause NoOperation cause = absurd cause
  bad_cause (BadOctets place because) cause = absurd cause
  bad_cause (BadText line column reason) cause = absurd cause
  bad_cause (BadValue path reason) cause = absurd cause
  bad_cause (TooLong many) cause = absurd cause
  bad_cause (BadRequest fault) cause = absurd cause
  bad_cause (TooFewEnds wanted found) cause = absurd cause
  bad_cause (EndFailed which) cause = absurd cause
  bad_cause (BadPdu spot because) cause = absurd cause
  bad_cause (NotCompatible differing) cause = absurd cause
  bad_cause (BadScript row) cause = absurd cause
  bad_cause LongScript cause = absurd cause

-- The same of an input that is shorter than a label.
module _ (s : SourceOver) (octets : List ℕ) (given : AreGiven s octets) (few : length octets < 4) where
  pub short_opened : (rest : SourceOver) (order : Order) → IsAfterLabel s rest order → ⊥
  short_opened rest order o =
      let many = at_least_four s octets given.left rest.left o.label o.taken o.is_label.0 in omega (arith, few, many)

  pub short_cause : (r : Refusal) → IsLabelCause s r → r ≡ ShortLabel
  short_cause ReadFault rose = absurd (given.reads rose)
  short_cause (BadLabel why) b =
      let many = at_least_four s octets given.left s.left_now b.label b.taken b.four in absurd (omega (arith, few, many))
  short_cause ShortLabel h = refl
  short_cause Memory cause = absurd cause
  short_cause (Absent other) cause = absurd cause
  short_cause (FileFailed other) cause = absurd cause
  short_cause (BadIdl file line column reason) cause = absurd cause
  short_cause NoOperation cause = absurd cause
  short_cause (BadOctets place because) cause = absurd cause
  short_cause (BadText line column reason) cause = absurd cause
  short_cause (BadValue path reason) cause = absurd cause
  short_cause (TooLong many) cause = absurd cause
  short_cause (BadRequest fault) cause = absurd cause
  short_cause (TooFewEnds wanted found) cause = absurd cause
  short_cause (EndFailed which) cause = absurd cause
  short_cause (BadPdu spot because) cause = absurd cause
  short_cause (NotCompatible differing) cause = absurd cause
  short_cause (BadScript row) cause = absurd cause
  short_cause LongScript cause = absurd cause
