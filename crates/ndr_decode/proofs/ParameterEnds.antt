-- What the agreements of the parameters come to, tried by the code of a side.
use Rattle.std.proofs.Common.{◌≡◌, ℕ, ◌+◌, zero, suc, true, List, [], ◌∷◌, ◌++◌, length, drop, Option, Some, None, refl, ap, sym, ◌∙◌, subst, append_assoc, arith}
use Rattle.std.specs.Prelude.{replicate}
use Rattle.std.specs.List.{AllByRecursion, flat_map}
use Rattle.std.proofs.lemmas.List.{append-nil, length-append}
use Rattle.nd_base.specs.declared.octets.Order.{Order}
use Rattle.nd_types.specs.declared.types.AttrVar.{AttrVar}
use Rattle.nd_types.specs.declared.types.Side.{Side}
use Rattle.nd_types.specs.declared.types.Side.TheVariants as way
use Rattle.nd_types.specs.Number.{AreOctets}
use Rattle.nd_types.specs.Roots.{Root, root_index, roots_of}
use Rattle.nd_value.specs.declared.item.Home.TheVariants as home
use Rattle.nd_value.specs.declared.item.Item.{Item}
use Rattle.nd_value.specs.declared.value.Graph.{Graph}
use Rattle.nd_value.specs.Deferral.{before_pipes}
use Rattle.nd_value.specs.Setting.{Setting, root_list, unread}
use Rattle.nd_value.proofs.Apart.{all_append}
use Rattle.nd_value.proofs.FewRoots.{few_before_pipes}
use Rattle.nd_grammar.specs.Entry.{Entry, EntryAt}
use Rattle.nd_grammar.specs.LegalSide.{IsLegalSide}
use Rattle.nd_grammar.specs.StreamReader.{Reading}
use Rattle.nd_grammar.specs.declared.reason.Reason.{Reason}
use Rattle.nd_grammar.specs.ReaderState.{State as IsReading}
use Rattle.ndr_code.specs.declared.instr.Instr.{Instr}
use Rattle.ndr_code.specs.declared.instr.Instr.TheVariants as op
use Rattle.ndr_code.specs.Code.{checks_run, given_check, root_check, root_checks, vars_checks}
use Rattle.ndr_code.specs.Runs.{IsRunAt}
use Rattle.ndr_code.specs.Tried.{tried}
use Rattle.ndr_code.proofs.TriedRoots.{checks_tried}
use Rattle.ndr_decoder_laws.specs.steps.Good.{Told}
use Rattle.ndr_decoder_laws.specs.stream.Between.{Agrees, Between}
use Rattle.ndr_decoder_laws.specs.stream.Parameters.{TestsPass, TestsStop, parameter_tests, with_pipes}
use Rattle.ndr_decoder_laws.specs.stream.Report.{IsRefusedAfter}
use Rattle.ndr_decoder_laws.proofs.stream.HeadEnds.{parameters_stop}
use Rattle.ndr_decode.specs.Trials.{checks_fail, is_check}
use Rattle.ndr_decode.proofs.Together.{run_passes, run_stops}
use Rattle.nd_lemmas.proofs.Lists.{drop_length as left_length}

abbrev AreChecks : List Instr → Type 0
AreChecks is = AllByRecursion (λ (i : Instr). is_check i ≡ true) is

given_checks : (s : Side) (i : ℕ) (a : AttrVar) (v : Option ℕ) → AreChecks (given_check s i a v)
given_checks way.Out i a (Some v) = (refl, tt)
given_checks way.Out i a None = tt
given_checks way.In i a v = tt

one_checks : (s : Side) (asked : List Root) (i : ℕ) (a : AttrVar) (v : Option ℕ) → AreChecks (root_check s asked i a v)
one_checks s asked i a (Some v) = (refl, tt)
one_checks s asked i a None = given_checks s i a (root_index asked a.var 0)

vars_are : (s : Side) (here asked : List Root) (i : ℕ) (vars : List AttrVar) → AreChecks (vars_checks s here asked i vars)
vars_are s here asked i [] = tt
vars_are s here asked i (a ∷ vars) =
    all_append (λ (j : Instr). is_check j ≡ true) (root_check s asked i a (root_index here a.var 0)) (vars_checks s here asked i vars) (one_checks s asked i a (root_index here a.var 0))
    (vars_are s here asked i vars)

all_are : (s : Side) (here asked : List Root) (i : ℕ) (rs : List Root) → AreChecks (root_checks s here asked i rs)
all_are s here asked i [] = tt
all_are s here asked i (r ∷ rs) =
    all_append (λ (j : Instr). is_check j ≡ true) (vars_checks s here asked i r.vars) (root_checks s here asked (suc i) rs) (vars_are s here asked i r.vars) (all_are s here asked (suc i) rs)

-- the return tries nothing
but_return : (f : Instr → List Entry) → f op.Ret ≡ [] → (is : List Instr) → flat_map f (is ++ op.Ret ∷ []) ≡ flat_map f is
but_return f e [] = ap (λ u. u ++ []) e
but_return f e (i ∷ is) = ap (λ u. f i ++ u) (but_return f e is)

as_long : (n : ℕ) → length (replicate n unread) ≡ n
as_long zero = refl
as_long (suc n) = ap suc (as_long n)

module _ (w : Setting) (side : IsLegalSide w) (order : Order) (fetched : List ℕ) (noted : List Item) (direct : ℕ) (b : Between) (s : Reading) (seen : List EntryAt)
    (ag : Agrees w side order fetched noted direct b s seen [] 0) (code : List Instr) (at : ℕ) (here : IsRunAt code at (checks_run w.table w.op w.side)) where
  all : AreOctets (fetched ++ [])
  all = subst AreOctets (sym (append-nil fetched)) ag.octets

  is_reading : IsReading w side order (fetched ++ []) all s (ag.state [] all).0 [] 0
  is_reading = (ag.state [] all).1

  abbrev pipes : ℕ
  pipes = length (drop (before_pipes (root_list w)) (root_list w))

  abbrev g : Graph
  g = with_pipes s pipes

  abbrev checks : List Instr
  checks = root_checks w.side (root_list w) (roots_of w.table way.In w.op) 0 (root_list w)

  run : drop at code ≡ checks ++ op.Ret ∷ here.0
  run = here.1 ∙ append_assoc checks (op.Ret ∷ []) here.0

  whole : length g.roots ≡ length (root_list w)
  whole =
      let a = length-append s.roots (replicate pipes unread) in
      let l = as_long pipes in
      let left = is_reading.roots_left in
      let few = few_before_pipes (root_list w) in
      let d = left_length (before_pipes (root_list w)) (root_list w) few in
      omega (arith, a, l, left, d)

  tests : flat_map (tried w g) checks ≡ parameter_tests w s
  tests = sym (but_return (tried w g) refl checks) ∙ checks_tried w g whole

  pub parameters_hold : checks_fail b.read b.roots w.given (drop at code) ≡ None → TestsPass w order fetched noted direct b s seen (parameter_tests w s)
  parameters_hold e =
      subst (TestsPass w order fetched noted direct b s seen) tests
      (run_passes w side order fetched noted direct b s seen pipes ag checks (op.Ret ∷ here.0) (all_are w.side (root_list w) (roots_of w.table way.In w.op) 0 (root_list w)) seen ag.keeps
      (ap (checks_fail b.read b.roots w.given) (sym run) ∙ e))

  pub parameter_fails : (why : ℕ × Reason) → checks_fail b.read b.roots w.given (drop at code) ≡ Some why → IsRefusedAfter w order fetched noted (length b.cells) direct b.at why
  parameter_fails why e =
      let x : TestsStop w order fetched noted direct b s seen (parameter_tests w s) why =
      subst (λ ms. TestsStop w order fetched noted direct b s seen ms why) tests
      (run_stops w side order fetched noted direct b s seen pipes ag checks (op.Ret ∷ here.0) (all_are w.side (root_list w) (roots_of w.table way.In w.op) 0 (root_list w)) refl seen ag.keeps why
      (ap (checks_fail b.read b.roots w.given) (sym run) ∙ e)) in
      let told : Told noted direct order fetched (home.Root (length s.roots)) x.after s.names b.cells b.numbers None 0 [] = x.keeps.told (home.Root (length s.roots)) (omega arith) in
      record {
        seen = x.after;
        stops = λ later a. parameters_stop w side order fetched noted direct b s seen ag x.after why x.stops later a;
        items_are = told.noted_are;
        cells_named = told.cells_named.named;
        needed = ag.needed;
      }
