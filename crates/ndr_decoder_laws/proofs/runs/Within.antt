-- The octets of the steps end within the limit of a stream.
use Rattle.std.proofs.Common.{◌≡◌, ◌≤◌, ◌⊎◌, inl, inr, ℕ, ◌+◌, ◌-◌, List, [], ◌++◌, length, refl, ap, sym, subst, arith, append_assoc, length-append}
use Rattle.std.proofs.lemmas.List.{append-nil}
use Rattle.nd_base.specs.declared.octets.Order.{Order}
use Rattle.nd_base.specs.declared.TheConstants.{STREAM_LIMIT}
use Rattle.nd_types.specs.Table.{Table}
use Rattle.nd_value.specs.declared.item.Home.{Home}
use Rattle.nd_value.specs.declared.item.Item.{Item}
use Rattle.nd_grammar.specs.Entry.{gap}
use Rattle.nd_grammar.specs.Reader.{Read}
use Rattle.ndr_code.specs.declared.instr.Instr.{Instr}
use Rattle.ndr_code.specs.declared.instr.Instr.TheVariants as op
use Rattle.ndr_code.specs.declared.lists.EnumList.{EnumList}
use Rattle.ndr_decoder_laws.specs.reader.Points.{held}
use Rattle.ndr_decoder_laws.specs.steps.Spots.{IsPlanned}
use Rattle.ndr_decoder_laws.specs.steps.Steps.{State, Phase, begun, gap_read, offset_read, count_read, Want, no_octets, gap_of, item_of, IsAlignment, IsInner, wants, hoist_want, text_want}
use Rattle.ndr_decoder_laws.specs.steps.Good.{Good, HasOctets}
use Rattle.ndr_decoder_laws.proofs.steps.Bounds.{inner_there}
use Rattle.ndr_decoder_laws.proofs.steps.Lacking.{wanting}
use Rattle.ndr_decoder_laws.specs.runs.Reaching.{Reaches, begins, steps_to}
use Rattle.ndr_decoder_laws.proofs.runs.GoodRuns.{along}

-- a gap from within the limit ends within it
gap_within : (n at : ℕ) → IsAlignment n → at ≤ STREAM_LIMIT → at + gap at n ≤ STREAM_LIMIT
gap_within n at (inl e) h = subst (λ k. at + gap at k ≤ STREAM_LIMIT) (sym e) (omega (arith, h))
gap_within n at (inr (inl e)) h = subst (λ k. at + gap at k ≤ STREAM_LIMIT) (sym e) (omega (arith, h))
gap_within n at (inr (inr (inl e))) h = subst (λ k. at + gap at k ≤ STREAM_LIMIT) (sym e) (omega (arith, h))
gap_within n at (inr (inr (inr e))) h = subst (λ k. at + gap at k ≤ STREAM_LIMIT) (sym e) (omega (arith, h))

module _ (values : List EnumList) (os : List ℕ) (s : State) (short : s.at ≤ STREAM_LIMIT) where
  -- the octets that are wanted end within the limit
  abbrev Ends : Want → Type 0
  Ends w = HasOctets w os s.at → s.at + length os ≤ STREAM_LIMIT

  no_end : Ends no_octets
  no_end e = let n : length os ≡ 0 = ap length e in omega (arith, n, short)

  item_end : (n : ℕ) → Ends (item_of n)
  item_end n e = let a : length os ≡ n = e.0 in let b : s.at + n ≤ STREAM_LIMIT = e.1 in omega (arith, a, b)

  gap_end : (n : ℕ) → IsAlignment n → Ends (gap_of (gap s.at n))
  gap_end n a e = let l : length os ≡ gap s.at n = e in subst (λ k. s.at + k ≤ STREAM_LIMIT) (sym l) (gap_within n s.at a short)

  text_end : (phase : Phase) → Ends (text_want values phase)
  text_end (count_read c) = item_end (c + 1)
  text_end begun = item_end 4
  text_end gap_read = item_end 4
  text_end (offset_read o) = item_end 4

  hoist_end : (phase : Phase) → Ends (hoist_want values phase s.at)
  hoist_end gap_read = item_end 4
  hoist_end begun = gap_end 4 (inr (inr (inl refl)))
  hoist_end (offset_read o) = gap_end 4 (inr (inr (inl refl)))
  hoist_end (count_read c) = gap_end 4 (inr (inr (inl refl)))

  wanted_end : (i : Instr) → IsInner i → Ends (wants values i s)
  wanted_end (op.Align n) inner = gap_end n inner
  wanted_end (op.Text bound) inner = text_end s.phase
  wanted_end op.Hoist inner = hoist_end s.phase
  wanted_end (op.Num of) inner = item_end _
  wanted_end (op.Enum of) inner = item_end 2
  wanted_end (op.Vary bound run) inner = item_end 4
  wanted_end (op.Confvary run) inner = item_end 4
  wanted_end (op.Tag of) inner = item_end _
  wanted_end (op.Pointer class to run) inner = item_end 4
  wanted_end op.Context inner = item_end 20
  wanted_end op.Void inner = no_end
  wanted_end op.Ret inner = no_end
  wanted_end (op.Record n) inner = no_end
  wanted_end op.Close inner = no_end
  wanted_end (op.Fixed n run) inner = no_end
  wanted_end (op.Conf run) inner = no_end
  wanted_end (op.Arm label run) inner = no_end
  wanted_end (op.Other run) inner = no_end
  wanted_end op.Noarm inner = no_end
  wanted_end (op.Check a f v star) inner = no_end
  wanted_end (op.Call run) inner = no_end
  wanted_end (op.Direct to run) inner = absurd inner
  wanted_end (op.Given a f v star) inner = absurd inner
  wanted_end (op.Pipe run) inner = absurd inner
  wanted_end op.Defer inner = absurd inner

-- octets more, where those before end where the state is or no octets are wanted
step_end : (before os : List ℕ) (w : Want) (at : ℕ) → length before ≤ STREAM_LIMIT → HasOctets w os at → (w ≡ no_octets) ⊎ (length before ≡ at) → at + length os ≤ STREAM_LIMIT
    → length (before ++ os) ≤ STREAM_LIMIT
step_end before os w at short has (inl e) ends =
    let none_there : os ≡ [] = subst (λ x. HasOctets x os at) e has in
    let n : length os ≡ 0 = ap length none_there in
    let l : length (before ++ os) ≡ length before + length os = length-append before os in omega (arith, n, l, short)
step_end before os w at short has (inr e) ends = let l : length (before ++ os) ≡ length before + length os = length-append before os in omega (arith, l, e, ends)

pub at_within : (order : Order) (fetched : List ℕ) (code : List Instr) (table : Table) (h : Home) (own limit : ℕ) (noted : List Item) (direct : ℕ) (target : List ℕ → Read) (s : State)
    → Good order fetched code table h own limit noted direct target s → length fetched ≤ STREAM_LIMIT → s.at ≤ STREAM_LIMIT
at_within order fetched code table h own limit noted direct target s g short = let r : length fetched ≡ s.at + held g.point = g.reached in omega (arith, r, short)

module _ (values : List EnumList) (order : Order) (code : List Instr) (table : Table) (h : Home) (own limit direct : ℕ) (target : List ℕ → Read) (planned : IsPlanned code values table)
    (f0 : List ℕ) (n0 : List Item) (s0 : State) (g0 : Good order f0 code table h own limit n0 direct target s0) (short : length f0 ≤ STREAM_LIMIT) where
  pub within_along : {fetched : List ℕ} {noted : List Item} {s : State} → Reaches values order code h s0 fetched noted s → length (f0 ++ fetched) ≤ STREAM_LIMIT
  within_along begins = subst (λ k. length k ≤ STREAM_LIMIT) (sym (append-nil f0)) short
  within_along (steps_to fetched os noted s next i before there has octets e) =
      let g : Good order (f0 ++ fetched) code table h own limit (n0 ++ noted) direct target s = along values order code table h own limit direct target planned f0 n0 s0 g0 before in
      let l : length (f0 ++ fetched) ≤ STREAM_LIMIT = within_along before in
      let inner : IsInner i = inner_there order (f0 ++ fetched) code table h own limit (n0 ++ noted) direct target s g i there in
      let at_short : s.at ≤ STREAM_LIMIT = at_within order (f0 ++ fetched) code table h own limit (n0 ++ noted) direct target s g l in
      subst (λ k. length k ≤ STREAM_LIMIT) (append_assoc f0 fetched os)
      (step_end (f0 ++ fetched) os (wants values i s) s.at l has (wanting order (f0 ++ fetched) code values table h own limit (n0 ++ noted) direct target s i g there)
      (wanted_end values os s at_short i inner has))
