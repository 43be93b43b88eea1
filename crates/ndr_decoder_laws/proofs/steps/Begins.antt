-- The beginning of a home's value: the state at its whole run means what the plain reader has to read.
use Rattle.std.proofs.Common.{◌≡◌, ℕ, ◌+◌, true, false, List, [], ◌∷◌, ◌++◌, length, Some, refl, ap, sym, ◌∙◌, arith}
use Rattle.std.specs.List.{slice_get}
use Rattle.nd_base.specs.declared.octets.Order.{Order}
use Rattle.nd_types.specs.Table.{Table}
use Rattle.nd_types.specs.Layout.{hoists}
use Rattle.nd_value.specs.declared.item.Home.{Home}
use Rattle.nd_value.specs.declared.item.Item.{Item}
use Rattle.nd_grammar.specs.Entry.{EntryAt}
use Rattle.nd_grammar.specs.Reader.{Names, Read, read_whole, read_hoisted, read_in_place}
use Rattle.ndr_code.specs.declared.instr.Instr.{Instr}
use Rattle.ndr_code.specs.declared.instr.Instr.TheVariants as op
use Rattle.ndr_code.specs.declared.lists.EnumList.{EnumList}
use Rattle.ndr_code.specs.Code.{place_at}
use Rattle.ndr_code.specs.Runs.{IsRunAt}
use Rattle.ndr_decoder_laws.specs.reader.Around.{going}
use Rattle.ndr_decoder_laws.specs.reader.Points.{hoisting}
use Rattle.ndr_decoder_laws.specs.declared.first.First.{First}
use Rattle.ndr_decoder_laws.specs.declared.first.Member.{Member}
use Rattle.ndr_decoder_laws.specs.steps.Spots.{IsFine, IsPlanned}
use Rattle.ndr_decoder_laws.specs.steps.Steps.{State}
use Rattle.ndr_decoder_laws.specs.steps.Good.{Kept, Good, IsBegun, due_member}
use Rattle.ndr_decoder_laws.proofs.steps.Arriving.{Within, parts_of, arrives}

module _ (order : Order) (fetched : List ℕ) (code : List Instr) (values : List EnumList) (table : Table) (h : Home) (own : ℕ) (noted : List Item) (direct : ℕ) (planned : IsPlanned code values table)
    (s : State) (seen : List EntryAt) (names : Names)
    (fine : IsFine table 32 own) (begins : IsBegun noted direct order fetched h seen names s) where
  abbrev target : List ℕ → Read
  target octets = read_whole order octets table h own (going s.at seen) names

  no_member : (i : ℕ) (m : Member) (x : First) → slice_get s.members i ≡ Some m → slice_get s.firsts i ≡ Some x → Kept h seen s.max_at s.nodes m.node x
  no_member i m x a b = absurd (none_there i m (ap (λ ms. slice_get ms i) (sym begins.members) ∙ a))
    where
      none_there : (i : ℕ) (m : Member) → slice_get [] i ≡ Some m → ⊥
      none_there i m e = cc

  within : Within code table h own 32 seen 32 [] own (parts_of s)
  within = record {
    deep = refl;
    inside = (begins.top, begins.stack);
    begin = tt;
    fits = tt;
    tied = refl;
    nodes = begins.nodes;
    numbered = tt;
    members = begins.members;
    pending = begins.fresh;
    many = nothing_yet;
    kept = no_member;
    first = tt;
  }
    where
      nothing_yet : length s.firsts + due_member s.top ≡ length s.members
      nothing_yet = ap (λ xs. length xs + due_member s.top) begins.firsts ∙ ap (λ t. 0 + due_member t) begins.top ∙ ap length (sym begins.members)

  pub begins_plain : hoists table own ≡ false → s.pc ≡ place_at table own → Good order fetched code table h own 32 noted direct target s
  begins_plain plain at_pc =
      arrives order fetched code values table h own 32 noted direct target planned s 32 [] seen names own fine at_pc begins.phase within begins.told begins.reached
      (λ later.
      ap (λ m. read_in_place order (fetched ++ later) table h 32 m own 0 (going s.at seen) names) begins.max
      ∙ sym (ap (λ b. read_hoisted order (fetched ++ later) table h b own (going s.at seen) names) plain))

  pub begins_hoisting : hoists table own ≡ true → IsRunAt code s.pc (op.Hoist ∷ op.Call (place_at table own) ∷ op.Ret ∷ []) → Good order fetched code table h own 32 noted direct target s
  begins_hoisting hoisted run = record {
    depth = 32;
    fs = [];
    point = hoisting own;
    seen = seen;
    names = names;
    deep = refl;
    spot = (fine, run);
    phase = begins.phase;
    registers = begins.max_at;
    inside = within.inside;
    begin = tt;
    fits = (refl, refl);
    tied = refl;
    nodes = begins.nodes;
    numbered = tt;
    members = begins.members;
    pending = begins.fresh;
    many = within.many;
    kept = no_member;
    first = tt;
    reached = let r : length fetched ≡ s.at = begins.reached in omega (arith, r);
    holds = tt;
    told = begins.told;
    rest = λ later. sym (ap (λ b. read_hoisted order (fetched ++ later) table h b own (going s.at seen) names) hoisted);
  }
