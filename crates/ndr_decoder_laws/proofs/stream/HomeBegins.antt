-- The beginning of a home's value means the whole value to the plain reader.
use Rattle.std.proofs.Common.{◌≡◌, ℕ, Bool, true, false, List, [], ◌∷◌, length, None, refl, sym, ◌∙◌, subst}
use Rattle.nd_base.specs.declared.octets.Order.{Order}
use Rattle.nd_types.specs.declared.types.Operation.{Operation}
use Rattle.nd_types.specs.Legal.{IsLegal}
use Rattle.nd_types.specs.Layout.{hoists}
use Rattle.nd_types.specs.Table.{Table}
use Rattle.nd_value.specs.declared.item.Home.{Home}
use Rattle.nd_value.specs.declared.item.Item.{Item}
use Rattle.nd_grammar.specs.Entry.{EntryAt}
use Rattle.nd_grammar.specs.Reader.{Names, read_whole}
use Rattle.nd_grammar.specs.ReaderState.{Usable}
use Rattle.ndr_code.specs.declared.instr.Instr.TheVariants as op
use Rattle.ndr_code.specs.Runs.{IsRunAt}
use Rattle.ndr_code.specs.Code.{code_of, whole_at, place_at, values_of}
use Rattle.ndr_code.proofs.TypeRuns.{hoist_run_at, whole_is_place}
use Rattle.ndr_decoder_laws.specs.reader.Around.{going}
use Rattle.ndr_decoder_laws.specs.steps.Good.{Told, Good, IsBegun}
use Rattle.ndr_decoder_laws.specs.steps.Steps.{State}
use Rattle.ndr_decoder_laws.specs.steps.Spots.{IsPlanned}
use Rattle.ndr_decoder_laws.proofs.steps.Begins.{begins_plain, begins_hoisting}
use Rattle.ndr_decoder_laws.proofs.steps.PlanRuns.{planned}
use Rattle.ndr_decoder_laws.specs.stream.Between.{Between, Opens}
use Rattle.ndr_decoder_laws.proofs.stream.FineTypes.{usable_fine}

told_at : {noted : List Item} {direct : ℕ} (order : Order) (fetched : List ℕ) (h : Home) (seen : List EntryAt) (names : Names) (b : Between) (run : ℕ) (types : List ℕ) (x : State)
    → Opens run b types x
    → Told noted direct order fetched h seen names types b.numbers None 0 [] → Told noted direct order fetched h seen names x.cells x.numbers x.max_at (length x.nodes) []
told_at {noted = noted} {direct = direct} order fetched h seen names b run types x o t =
    subst (λ u. Told noted direct order fetched h seen names u x.numbers x.max_at (length x.nodes) []) (sym o.cells)
    (subst (λ u. Told noted direct order fetched h seen names types u x.max_at (length x.nodes) []) (sym o.numbers)
    (subst (λ u. Told noted direct order fetched h seen names types b.numbers u (length x.nodes) []) (sym o.max_at)
    (subst (λ u. Told noted direct order fetched h seen names types b.numbers None (length u) []) (sym o.nodes) t)))

module _ (table : Table) (operations : List Operation) (legal : IsLegal table operations) (order : Order) (fetched : List ℕ) (noted : List Item) (direct : ℕ) (h : Home) (seen : List EntryAt)
    (names : Names)
    (t : ℕ) (usable : Usable table t) (b : Between) (at : length fetched ≡ b.at) (types : List ℕ) (x : State) (o : Opens (whole_at table t) b types x)
    (told : Told noted direct order fetched h seen names types b.numbers None 0 []) where
  begun_it : IsBegun noted direct order fetched h seen names x
  begun_it = record {
    phase = o.phase;
    max = o.max;
    max_at = o.max_at;
    top = o.top;
    stack = o.stack;
    nodes = o.nodes;
    members = o.members;
    firsts = o.firsts;
    fresh = o.fresh;
    reached = at ∙ sym o.at;
    told = told_at order fetched h seen names b (whole_at table t) types x o told;
  }

  its_plan : IsPlanned (code_of table operations) (values_of table) table
  its_plan = planned table operations legal

  begins_by : (hoisting : Bool) → hoists table t ≡ hoisting
      → Good order fetched (code_of table operations) table h t 32 noted direct (λ octets. read_whole order octets table h t (going x.at seen) names) x
  begins_by false e =
      begins_plain order fetched (code_of table operations) (values_of table) table h t noted direct its_plan x seen names (usable_fine table operations legal t usable) begun_it e
      (o.pc ∙ sym (whole_is_place table t e))
  begins_by true e =
      let (d, there) = usable.known in
      begins_hoisting order fetched (code_of table operations) (values_of table) table h t noted direct its_plan x seen names (usable_fine table operations legal t usable) begun_it e
      (subst (λ a. IsRunAt (code_of table operations) a (op.Hoist ∷ op.Call (place_at table t) ∷ op.Ret ∷ [])) (sym o.pc) (hoist_run_at table operations t d there e))

  pub home_begins : Good order fetched (code_of table operations) table h t 32 noted direct (λ octets. read_whole order octets table h t (going b.at seen) names) x
  home_begins =
      subst (λ a. Good order fetched (code_of table operations) table h t 32 noted direct (λ octets. read_whole order octets table h t (going a seen) names) x) o.at (begins_by (hoists table t) refl)
