-- The checks of a side, tried with what is kept, are the agreements of its parameters.
-- `g` is the graph before its pipes are read, `seen` are the entries that were passed, `i` an instruction, `why` is why an agreement does not hold.
use Rattle.std.proofs.Common.{◌≡◌, ℕ, ℤ, Bool, true, List, [], ◌∷◌, ◌++◌, Option, Some, None, refl, sym, ap, ◌∙◌, subst, flat_map, slice_get}
use Rattle.std.specs.List.{AllByRecursion}
use Rattle.std.proofs.lemmas.Option.{same_Some}
use Rattle.nd_base.specs.declared.octets.Order.{Order}
use Rattle.nd_types.specs.declared.types.Attr.{Attr}
use Rattle.nd_value.specs.declared.item.Item.{Item}
use Rattle.nd_value.specs.declared.value.Graph.{Graph}
use Rattle.nd_value.specs.Agreement.{agreement, wanted_by, starred}
use Rattle.nd_value.specs.Setting.{Setting, root_at}
use Rattle.nd_grammar.specs.declared.reason.Reason.{Reason}
use Rattle.nd_grammar.specs.Entry.{Entry, EntryAt}
use Rattle.nd_grammar.specs.LegalSide.{IsLegalSide}
use Rattle.nd_grammar.specs.Reader.{Progress, pass, pass_all}
use Rattle.nd_grammar.specs.Stream.{root_test}
use Rattle.nd_grammar.specs.StreamReader.{Reading}
use Rattle.ndr_code.specs.declared.instr.Instr.{Instr}
use Rattle.ndr_code.specs.declared.instr.Instr.TheVariants as op
use Rattle.ndr_decoder_laws.proofs.reader.Continuing.{all_stay}
use Rattle.ndr_code.specs.Tried.{tried, given_number}
use Rattle.ndr_decoder_laws.specs.declared.kept.Kept.{Kept}
use Rattle.ndr_decoder_laws.specs.stream.Between.{Between, Keeps, Agrees}
use Rattle.ndr_decoder_laws.specs.stream.Parameters.{root_number, root_subject, with_pipes, TestsPass, TestsStop}
use Rattle.ndr_decoder_laws.specs.stream.Tests.{AllAgree, disagreement}
use Rattle.ndr_decoder_laws.proofs.stream.Parameters as law
use Rattle.ndr_decode.specs.Trials.{is_check, first_of, failing, check_fails, checks_fail, EndsChecks}
use Rattle.ndr_decode.proofs.Runs.{check_is, no_check}

-- ## Lists of tests

all_append : (order : Order) (os : List ℕ) (xs ys : List Entry) (p : Progress) → pass_all order os (xs ++ ys) p ≡ pass_all order os ys (pass_all order os xs p)
all_append order os [] ys p = refl
all_append order os (m ∷ ms) ys p = all_append order os ms ys (pass order os m p)

none_of : (o later : Option (ℕ × Reason)) → first_of o later ≡ None → (o ≡ None) × (later ≡ None)
none_of None later e = (refl, e)
none_of (Some why) later e = absurd (some_none e)
  where
    some_none : Some why ≡ None → ⊥
    some_none e = cc

agrees : (a : Attr) (z : Option ℤ) (o : Option Kept) → failing (agreement a z) o ≡ None → (k : Kept) → o ≡ Some k → AllAgree k (agreement a z)
agrees a None o e k is = tt
agrees a (Some z) None e k is = absurd (none_some is)
  where
    none_some : None ≡ Some k → ⊥
    none_some e = cc
agrees a (Some z) (Some j) e k is =
    (subst (λ (x : Kept). disagreement (record { attr = a; wanted = wanted_by a z }) x.first x.max_at ≡ None) (same_Some j k is) e, tt)

module _ (w : Setting) (side : IsLegalSide w) (order : Order) (fetched : List ℕ) (noted : List Item) (direct : ℕ) (b : Between) (s : Reading) (before : List EntryAt) (pipes : ℕ)
    (ag : Agrees w side order fetched noted direct b s before [] 0) where
  abbrev g : Graph
  g = with_pipes s pipes

  abbrev Keeping : List EntryAt → Type 0
  Keeping seen = Keeps w order fetched noted direct b s seen []

  abbrev Passes : List EntryAt → List Entry → Type 0
  Passes seen ms = TestsPass w order fetched noted direct b s seen ms

  abbrev Stops : List EntryAt → List Entry → ℕ × Reason → Type 0
  Stops seen ms why = TestsStop w order fetched noted direct b s seen ms why

  none_pass : (seen : List EntryAt) → Keeping seen → Passes seen []
  none_pass seen kp = record { after = seen; goes = λ later. refl; keeps = kp }

  both_pass : (seen : List EntryAt) (xs ys : List Entry) (p : Passes seen xs) → Passes p.after ys → Passes seen (xs ++ ys)
  both_pass seen xs ys p q = record {
    after = q.after;
    goes =
        λ later. all_append order (fetched ++ later) xs ys _ ∙ ap (pass_all order (fetched ++ later) ys) (p.goes later) ∙ q.goes later;
    keeps = q.keeps;
  }

  pass_stop : (seen : List EntryAt) (xs ys : List Entry) (why : ℕ × Reason) (p : Passes seen xs) → Stops p.after ys why → Stops seen (xs ++ ys) why
  pass_stop seen xs ys why p q = record {
    after = q.after;
    stops =
        λ later. all_append order (fetched ++ later) xs ys _ ∙ ap (pass_all order (fetched ++ later) ys) (p.goes later) ∙ q.stops later;
    keeps = q.keeps;
  }

  stop_first : (seen : List EntryAt) (xs ys : List Entry) (why : ℕ × Reason) → Stops seen xs why → Stops seen (xs ++ ys) why
  stop_first seen xs ys why t = record {
    after = t.after;
    stops =
        λ later. all_append order (fetched ++ later) xs ys _ ∙ ap (pass_all order (fetched ++ later) ys) (t.stops later)
        ∙ all_stay order (fetched ++ later) ys b.at t.after why;
    keeps = t.keeps;
  }

  -- ## One check

  known : (seen : List EntryAt) → Keeping seen → (v : ℕ) (star : Bool) → root_number b.read star (slice_get b.roots v) ≡ starred g star (root_at g v)
  known seen kp v star = law.variable_is w side order fetched noted direct b s before 0 pipes ag seen kp v star

  held : (seen : List EntryAt) → Keeping seen → (a : Attr) (i : ℕ) (z : Option ℤ) → failing (agreement a z) (root_subject b.read (slice_get b.roots i)) ≡ None
      → Passes seen (root_test g i (root_at g i) (agreement a z))
  held seen kp a i z e =
      law.root_passes w side order fetched noted direct b s before 0 pipes ag seen kp i (agreement a z) (agrees a z (root_subject b.read (slice_get b.roots i)) e)

  stopped_by : (seen : List EntryAt) → Keeping seen → (a : Attr) (i : ℕ) (z : Option ℤ) (o : Option Kept) → root_subject b.read (slice_get b.roots i) ≡ o → (why : ℕ × Reason)
      → failing (agreement a z) o ≡ Some why → Stops seen (root_test g i (root_at g i) (agreement a z)) why
  stopped_by seen kp a i None o is why e = (let n : None ≡ Some why = e in cc)
  stopped_by seen kp a i (Some z) None is why e = (let n : None ≡ Some why = e in cc)
  stopped_by seen kp a i (Some z) (Some k) is why e =
      law.root_stops w side order fetched noted direct b s before 0 pipes ag seen kp i (record { attr = a; wanted = wanted_by a z }) k is why e

  one_passes : (seen : List EntryAt) → Keeping seen → (i : Instr) → check_fails b.read b.roots w.given i ≡ None → Passes seen (tried w g i)
  one_passes seen kp (op.Check a i v star) e =
      subst (λ (z : Option ℤ). Passes seen (root_test g i (root_at g i) (agreement a z))) (known seen kp v star)
      (held seen kp a i (root_number b.read star (slice_get b.roots v)) e)
  one_passes seen kp (op.Given a i v star) e = held seen kp a i (given_number star v w.given) e
  one_passes seen kp _ e = none_pass seen kp

  one_stops : (seen : List EntryAt) → Keeping seen → (i : Instr) (why : ℕ × Reason) → check_fails b.read b.roots w.given i ≡ Some why → Stops seen (tried w g i) why
  one_stops seen kp (op.Check a i v star) why e =
      subst (λ (z : Option ℤ). Stops seen (root_test g i (root_at g i) (agreement a z)) why) (known seen kp v star)
      (stopped_by seen kp a i (root_number b.read star (slice_get b.roots v)) _ refl why e)
  one_stops seen kp (op.Given a i v star) why e = stopped_by seen kp a i (given_number star v w.given) _ refl why e
  one_stops seen kp _ why e = (let n : None ≡ Some why = e in cc)

  -- ## A run of them

  pub run_passes : (is rest : List Instr) → AllByRecursion (λ (i : Instr). is_check i ≡ true) is → (seen : List EntryAt) → Keeping seen
      → checks_fail b.read b.roots w.given (is ++ rest) ≡ None → Passes seen (flat_map (tried w g) is)
  run_passes [] rest all seen kp e = none_pass seen kp
  run_passes (i ∷ is) rest all seen kp e =
      let parts = none_of (check_fails b.read b.roots w.given i) (checks_fail b.read b.roots w.given (is ++ rest))
      (sym (check_is b.read b.roots w.given i (is ++ rest) (check_fails b.read b.roots w.given i) all.0 refl) ∙ e) in
      let first = one_passes seen kp i parts.0 in
      both_pass seen (tried w g i) (flat_map (tried w g) is) first (run_passes is rest all.1 first.after first.keeps parts.1)

  ended : (rest : List Instr) → EndsChecks rest → checks_fail b.read b.roots w.given rest ≡ None
  ended [] h = refl
  ended (i ∷ is) h = no_check b.read b.roots w.given i is h

  -- the first of them is refused, or one of the others
  stops_with : (seen : List EntryAt) → Keeping seen → (i : Instr) (ms : List Entry) (why : ℕ × Reason) (o later : Option (ℕ × Reason)) → check_fails b.read b.roots w.given i ≡ o
      → first_of o later ≡ Some why → ((now : List EntryAt) → Keeping now → later ≡ Some why → Stops now ms why) → Stops seen (tried w g i ++ ms) why
  stops_with seen kp i ms why None later f e others =
      let first = one_passes seen kp i f in
      pass_stop seen (tried w g i) ms why first (others first.after first.keeps e)
  stops_with seen kp i ms why (Some found) later f e others =
      let same : found ≡ why = same_Some found why e in
      stop_first seen (tried w g i) ms why (one_stops seen kp i why (f ∙ ap (λ (x : ℕ × Reason). Some x) same))

  pub run_stops : (is rest : List Instr) → AllByRecursion (λ (i : Instr). is_check i ≡ true) is → EndsChecks rest → (seen : List EntryAt) → Keeping seen → (why : ℕ × Reason)
      → checks_fail b.read b.roots w.given (is ++ rest) ≡ Some why → Stops seen (flat_map (tried w g) is) why
  run_stops [] rest all h seen kp why e = (let n : None ≡ Some why = sym (ended rest h) ∙ e in cc)
  run_stops (i ∷ is) rest all h seen kp why e =
      stops_with seen kp i (flat_map (tried w g) is) why (check_fails b.read b.roots w.given i) (checks_fail b.read b.roots w.given (is ++ rest)) refl
      (sym (check_is b.read b.roots w.given i (is ++ rest) (check_fails b.read b.roots w.given i) all.0 refl) ∙ e)
      (λ now kp e. run_stops is rest all.1 h now kp why e)
