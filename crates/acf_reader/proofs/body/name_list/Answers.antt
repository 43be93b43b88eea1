use Rattle.std.proofs.Common.{◌≡◌, [], ◌∷◌, ◌++◌, arith, true, false}
use Rattle.idl_grammar.specs.Text.{symbol_at, is, is_in}
use Rattle.idl_grammar.specs.ReadPhrases.{behind_read, separated_read}
use Rattle.idl_grammar.proofs.Gathered.{gathers, gathering_fails, gathered}
use Rattle.idl_grammar.specs.Symbols as symbol
use Rattle.std.proofs.lemmas.Result.{err_from_is_err_and}
use Rattle.acf_reader.specs.Reading.{ident_read}
use Rattle.idl_tokens.proofs.Lists.{alone, separated_begins}
use Rattle.acf_reader.proofs.body.name_list.Goals as goal

pub loop-list-init : goal.loop-list-init
loop-list-init c =
    rw (c.in_ok-push.ensures.items, c.new-list.ensures.items) (
      separated_begins symbol.Comma c.args.parser.now (ident_read false c.args.parser.now) c.args.at c.in_ok-first.first c.in_ok-first.here c.in_ok-first.ensures.within.1 c.in_ok-first.ensures.gives,
      c.in_ok-first.ensures.within.0,
    )

pub returns-in_err-next-clause-gives : goal.returns-in_err-next-clause-gives
returns-in_err-next-clause-gives c =
    let p = err_from_is_err_and c.from_residual-in_err-next.result c.from_residual-in_err-next.ensures.1 in
    let h0 : is (symbol_at c.args.parser.now c.loop-list.here) symbol.Comma ≡ true = cc in
    let h : is_in (symbol.Comma ∷ []) (symbol_at c.args.parser.now c.loop-list.here) ≡ true = alone c.args.parser.now c.loop-list.here symbol.Comma true h0 in
    rw (p.1, p.2)
    (gathering_fails (λ a. is_in (symbol.Comma ∷ []) a.symbol) (behind_read symbol.Comma c.args.parser.now (ident_read false c.args.parser.now)) c.args.parser.now
    (separated_read symbol.Comma c.args.parser.now
    (ident_read false c.args.parser.now) c.args.at) c.loop-list.list.items c.loop-list.here c.loop-list.invariant.0 h c.in_err-next.field-0.0 c.in_err-next.ensures.gives)

pub loop-list-smaller : goal.loop-list-smaller
loop-list-smaller c = omega (arith, c.in_ok-next.ensures.within)

pub loop-list-preserved : goal.loop-list-preserved
loop-list-preserved c =
    let h0 : is (symbol_at c.args.parser.now c.loop-list.here) symbol.Comma ≡ true = cc in
    let h : is_in (symbol.Comma ∷ []) (symbol_at c.args.parser.now c.loop-list.here) ≡ true = alone c.args.parser.now c.loop-list.here symbol.Comma true h0 in
    let e : c.push-in-loop-list.new.self.items ≡ c.loop-list.list.items ++ c.in_ok-next.next ∷ [] = c.in_ok-push-2.ensures.items in
    rw e (
      gathers (λ a. is_in (symbol.Comma ∷ []) a.symbol) (behind_read symbol.Comma c.args.parser.now (ident_read false c.args.parser.now)) c.args.parser.now
          (separated_read symbol.Comma c.args.parser.now
          (ident_read false c.args.parser.now) c.args.at) c.loop-list.list.items c.loop-list.here c.loop-list.invariant.0 h c.in_ok-next.next c.in_ok-next.past c.in_ok-next.ensures.gives
          c.in_ok-next.ensures.within.0 c.in_ok-next.ensures.within.1,
      omega (arith, c.in_ok-next.ensures.within, c.loop-list.invariant.1),
    )

pub returns-clause-gives : goal.returns-clause-gives
returns-clause-gives c =
    let h0 : is (symbol_at c.args.parser.now c.loop-list.here) symbol.Comma ≡ false = cc in
    let h : is_in (symbol.Comma ∷ []) (symbol_at c.args.parser.now c.loop-list.here) ≡ false = alone c.args.parser.now c.loop-list.here symbol.Comma false h0 in
    gathered (λ a. is_in (symbol.Comma ∷ []) a.symbol) (behind_read symbol.Comma c.args.parser.now (ident_read false c.args.parser.now)) c.args.parser.now
    (separated_read symbol.Comma c.args.parser.now (ident_read false c.args.parser.now) c.args.at) c.loop-list.list.items c.loop-list.here c.loop-list.invariant.0 h
