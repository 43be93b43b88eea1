-- The states that are reached within a home's value are safe.
use Rattle.std.proofs.Common.{◌≡◌, ◌≤◌, ◌<◌, ℕ, ◌+◌, ◌*◌, ◌^◌, zero, suc, List, [], ◌∷◌, ◌++◌, length, Option, Some, None, refl, sym, subst, arith}
use Rattle.std.specs.List.{AllByRecursion, slice_get}
use Rattle.std.proofs.lemmas.List.{append-nil}
use Rattle.nd_base.specs.declared.octets.Order.{Order}
use Rattle.nd_base.specs.declared.TheConstants.{STREAM_LIMIT}
use Rattle.nd_types.specs.declared.types.Primitive.{Primitive}
use Rattle.nd_types.specs.declared.types.Primitive.TheVariants.{Short}
use Rattle.nd_types.specs.declared.types.TypeDef.{TypeDef}
use Rattle.nd_types.specs.declared.types.TypeDef.TheVariants as def
use Rattle.nd_types.specs.Layout.{parts}
use Rattle.nd_types.specs.Number.{AreOctets}
use Rattle.nd_types.specs.Table.{Table, type_at, carrier}
use Rattle.nd_value.specs.declared.item.Home.{Home}
use Rattle.nd_value.specs.declared.item.Item.{Item}
use Rattle.nd_value.specs.Setting.{Setting}
use Rattle.nd_value.proofs.Apart.{all_append}
use Rattle.nd_grammar.specs.LegalSide.{IsLegalSide}
use Rattle.nd_grammar.specs.Reader.{Progress, Names, Read, read_whole}
use Rattle.nd_grammar.proofs.LegalSides.{laid_out}
use Rattle.nd_grammar.proofs.legal.LegalUsable.{small_bounds}
use Rattle.nd_grammar.specs.MadeTrees.{MadeTree}
use Rattle.nd_grammar.proofs.reader.ReaderInPlace.{Fine, Readable}
use Rattle.nd_grammar.proofs.reader.ReaderMakes.{whole_makes}
use Rattle.ndr_code.specs.declared.instr.Instr.{Instr}
use Rattle.ndr_code.specs.declared.lists.EnumList.{EnumList}
use Rattle.ndr_decoder_laws.specs.reader.Around.{nodes_around, finish, going}
use Rattle.ndr_decoder_laws.specs.reader.Points.{TagForm, IsTagForm, nodes_at, read_at}
use Rattle.ndr_decoder_laws.specs.steps.Spots.{IsFine, IsFormed, IsPlanned}
use Rattle.ndr_decoder_laws.specs.steps.Steps.{State, IsInner}
use Rattle.ndr_decoder_laws.specs.steps.Good.{Good}
use Rattle.ndr_decoder_laws.proofs.steps.Bounds.{instruction_there}
use Rattle.ndr_decoder_laws.specs.runs.Reaching.{Reaches, IsSafe}
use Rattle.ndr_decoder_laws.specs.runs.Paid.{paid, AllRead, IsPaid}
use Rattle.ndr_decoder_laws.proofs.runs.Joining.{over_octets}
use Rattle.ndr_decoder_laws.proofs.runs.GoodRuns.{along}
use Rattle.ndr_decoder_laws.proofs.runs.PaidSteps.{paid_along}
use Rattle.ndr_decoder_laws.proofs.runs.FrameNodes.{few_at}
use Rattle.ndr_decoder_laws.proofs.runs.Within.{at_within, within_along}

-- ## Types that are due can be read

tag_carried : (d : Option TypeDef) (form : TagForm) → IsTagForm d form → (p : Primitive) × (carrier d ≡ Some p)
tag_carried (Some (def.Prim p)) form e = (p, refl)
tag_carried (Some (def.Enum values)) form e = (Short, refl)
tag_carried None form e = absurd e
tag_carried (Some _) form e = absurd e

formed_fine : (table : Table) (t : ℕ) (d : TypeDef) → IsFormed table t d → Fine table d
formed_fine table t (def.Union tag encapsulated arms default) f = tag_carried (type_at table tag.0) f.0 f.1
formed_fine table t (def.Pipe elem) f = f
formed_fine table t (def.Prim p) f = tt
formed_fine table t (def.Enum values) f = tt
formed_fine table t (def.Struct members) f = tt
formed_fine table t (def.Array elem bound varying) f = tt
formed_fine table t (def.Text elem bound) f = tt
formed_fine table t (def.Pointer class to) f = tt
formed_fine table t def.Context f = tt

pub fine_readable : (table : Table) (n t : ℕ) → IsFine table n t → Readable table n t
fine_readable table zero t f = absurd f
fine_readable table (suc n) t f = (f.of, f.is_there, formed_fine table t f.of f.formed, all_of (fine_readable table n) (parts (Some f.of)) f.inner)
  where
    all_of : ((t : ℕ) → IsFine table n t → Readable table n t) → (ts : List ℕ) → AllByRecursion (IsFine table n) ts → AllByRecursion (Readable table n) ts
    all_of law [] a = tt
    all_of law (t ∷ ts) a = (law t a.0, all_of law ts a.1)

-- what the plain reader gives of a whole value is made
pub whole_made : (w : Setting) → IsLegalSide w → (order : Order) (h : Home) (own : ℕ) → IsFine w.table 32 own → (p : Progress) (names : Names) (octets : List ℕ) → AreOctets octets
    → MadeTree w.table (type_at w.table own) (read_whole order octets w.table h own p names).tree
whole_made w side order h own fine p names octets all =
    (whole_makes order octets all w.table h (small_bounds w.table side.operations side.legal) (laid_out w side).hoisting own (fine_readable w.table 32 own fine) p names).made

-- ## Safety

-- few nodes, by their octets
few_enough : (n p at k limit : ℕ) → n ≤ 32 * p + 33 * suc k → p ≤ at → at ≤ STREAM_LIMIT → k ≤ limit → limit ≤ 33 → n + 8192 < 2 ^ 32
few_enough n p at k limit a b c d e = omega (arith, a, b, c, d, e)

few_cells : (n at : ℕ) → 4 * n ≤ at + 4096 → at ≤ STREAM_LIMIT → n + 1 < 2 ^ 32
few_cells n at a b = omega (arith, a, b)

module _ (w : Setting) (side : IsLegalSide w) (values : List EnumList) (order : Order) (code : List Instr) (h : Home) (own limit direct : ℕ) (target : List ℕ → Read)
    (planned : IsPlanned code values w.table)
    (made : (octets : List ℕ) → AreOctets octets → MadeTree w.table (type_at w.table own) (target octets).tree) (nested : limit ≤ 33) where
  -- a state that means something has few nodes
  pub good_safe : (fetched : List ℕ) (noted : List Item) (s : State) → Good order fetched code w.table h own limit noted direct target s → AreOctets fetched → length fetched ≤ STREAM_LIMIT → IsPaid s
      → IsSafe code s
  good_safe fetched noted s g octets short pays =
      let here_it : (i : Instr) × (slice_get code s.pc ≡ Some i) × IsInner i = instruction_there order fetched code w.table h own limit noted direct target s g in
      let within : s.at ≤ STREAM_LIMIT = at_within order fetched code w.table h own limit noted direct target s g short in
      let whole : MadeTree w.table (type_at w.table own) (target (fetched ++ [])).tree = made (fetched ++ []) (subst AreOctets (sym (append-nil fetched)) octets) in
      let inner : MadeTree w.table (type_at w.table own)
      (finish order (fetched ++ []) w.table h s.max g.depth g.fs (read_at order (fetched ++ []) w.table h s.max g.depth g.point (length (nodes_around g.fs)) (going s.at g.seen) g.names)).tree =
      subst (λ r. MadeTree w.table (type_at w.table own) r.tree) (sym (g.rest [])) whole in
      let few : length (nodes_at g.point g.fs) ≤ 32 * paid (nodes_at g.point g.fs) + 33 * suc (length g.fs) =
      few_at w side order (fetched ++ []) h s.max g.depth g.point g.fs (length (nodes_around g.fs)) (going s.at g.seen) g.names (own, inner) (subst AllRead g.nodes pays.read) in
      let few_now : length s.nodes ≤ 32 * paid s.nodes + 33 * suc (length g.fs) = subst (λ xs. length xs ≤ 32 * paid xs + 33 * suc (length g.fs)) (sym g.nodes) few in
      let deep : g.depth + length g.fs ≡ limit = g.deep in
      record {
        i = here_it.0;
        there = here_it.1;
        inner = here_it.2;
        within = within;
        few_nodes = few_enough (length s.nodes) (paid s.nodes) s.at (length g.fs) limit few_now pays.nodes within (omega (arith, deep)) nested;
        few_cells = few_cells (length s.cells) s.at pays.cells within;
      }

  pub safe_along : (f0 : List ℕ) → AreOctets f0 → length f0 ≤ STREAM_LIMIT → (n0 : List Item) (s0 : State) → Good order f0 code w.table h own limit n0 direct target s0 → IsPaid s0
      → (fetched : List ℕ) (noted : List Item) (s : State) → Reaches values order code h s0 fetched noted s → IsSafe code s
  safe_along f0 octets short n0 s0 g0 pays fetched noted s r =
      good_safe (f0 ++ fetched) (n0 ++ noted) s (along values order code w.table h own limit direct target planned f0 n0 s0 g0 r)
      (all_append (λ b. b < 256) f0 fetched octets (over_octets values order code h s0 r))
      (within_along values order code w.table h own limit direct target planned f0 n0 s0 g0 short r)
      (paid_along values order code h s0 pays r)

-- in a home's value
pub safe_in_home : (w : Setting) → IsLegalSide w → (values : List EnumList) (order : Order) (code : List Instr) (h : Home) (own direct : ℕ) → IsPlanned code values w.table → IsFine w.table 32 own
    → (p : Progress) (names : Names) (f0 : List ℕ) → AreOctets f0 → length f0 ≤ STREAM_LIMIT → (n0 : List Item) (s0 : State)
    → Good order f0 code w.table h own 32 n0 direct (λ octets. read_whole order octets w.table h own p names) s0 → IsPaid s0
    → (fetched : List ℕ) (noted : List Item) (s : State) → Reaches values order code h s0 fetched noted s → IsSafe code s
safe_in_home w side values order code h own direct planned fine p names f0 octets short n0 s0 g0 pays fetched noted s r =
    safe_along w side values order code h own 32 direct (λ octets. read_whole order octets w.table h own p names) planned (whole_made w side order h own fine p names) (omega arith)
    f0 octets short n0 s0 g0 pays fetched noted s r
