use Rattle.std.proofs.Common.{◌≡◌, ◌≢◌, ℕ, suc, ◌+◌, ◌-◌, ◌<◌, ◌≤◌, List, [], ◌∷◌, ◌++◌, map, option_map, length, arith, sym, ap, true, false}
use Rattle.idl_grammar.specs.Text.{symbol_at, is, is_in}
use Rattle.idl_grammar.specs.ReadPhrases.{turned, behind_read, separated_read, some_read, list_read}
use Rattle.idl_grammar.proofs.Gathered.{Gathered, gathers, gathering_fails, gathered}
use Rattle.idl_grammar.specs.Symbols as symbol
use Rattle.std.proofs.lemmas.Result.{err_from_is_err_and}
use Rattle.std.proofs.lemmas.List.{map_push}
use Rattle.idl_grammar.specs.Reading.{parameter_read, more_parameters_read}
use Rattle.idl_grammar.specs.Seen.{seen_parameter}
use Rattle.idl_tokens.proofs.Lists.{alone, rest_begins}
use Rattle.idl_parser.proofs.parameters.parameters_from.Goals as goal

pub loop-list-init : goal.loop-list-init
unfolding more_parameters_read
loop-list-init c =
    rw (c.in_ok-push.ensures.items, c.new-list.ensures.items) (
      rest_begins (symbol.Comma ∷ []) c.args.parser.now (behind_read symbol.Comma c.args.parser.now (parameter_read c.args.fuel c.args.nesting c.args.parser.now c.args.depth))
          (seen_parameter c.args.first) c.args.at c.requires.within,
      omega arith,
    )

pub returns-in_err-next-clause-gives : goal.returns-in_err-next-clause-gives
unfolding more_parameters_read
returns-in_err-next-clause-gives c =
    let p = err_from_is_err_and c.from_residual-in_err-next.result c.from_residual-in_err-next.ensures.1 in
    let h0 : is (symbol_at c.args.parser.now c.loop-list.here) symbol.Comma ≡ true = cc in
    let h : is_in (symbol.Comma ∷ []) (symbol_at c.args.parser.now c.loop-list.here) ≡ true = alone c.args.parser.now c.loop-list.here symbol.Comma true h0 in
    rw (p.1, p.2)
    (gathering_fails (λ a. is_in (symbol.Comma ∷ []) a.symbol)
    (behind_read symbol.Comma c.args.parser.now (parameter_read c.args.fuel c.args.nesting c.args.parser.now c.args.depth)) c.args.parser.now
    (turned (λ l. seen_parameter c.args.first ∷ l)
    (list_read (symbol.Comma ∷ []) c.args.parser.now (behind_read symbol.Comma c.args.parser.now (parameter_read c.args.fuel c.args.nesting c.args.parser.now c.args.depth)) c.args.at))
    (map seen_parameter c.loop-list.list.items) c.loop-list.here c.loop-list.invariant.0 h c.in_err-next.field-0.0 c.in_err-next.ensures.gives)

pub loop-list-smaller : goal.loop-list-smaller
loop-list-smaller c = omega (arith, c.in_ok-next.ensures.within)

pub loop-list-preserved : goal.loop-list-preserved
unfolding more_parameters_read
loop-list-preserved c =
    let h0 : is (symbol_at c.args.parser.now c.loop-list.here) symbol.Comma ≡ true = cc in
    let h : is_in (symbol.Comma ∷ []) (symbol_at c.args.parser.now c.loop-list.here) ≡ true = alone c.args.parser.now c.loop-list.here symbol.Comma true h0 in
    let e : (map seen_parameter c.push-in-loop-list.new.self.items) ≡ (map seen_parameter c.loop-list.list.items) ++ (seen_parameter c.in_ok-next.next) ∷ [] =
    rw c.in_ok-push-2.ensures.items (map_push seen_parameter c.loop-list.list.items c.in_ok-next.next) in
    rw e (
      gathers (λ a. is_in (symbol.Comma ∷ []) a.symbol) (behind_read symbol.Comma c.args.parser.now (parameter_read c.args.fuel c.args.nesting c.args.parser.now c.args.depth)) c.args.parser.now
          (turned (λ l. seen_parameter c.args.first ∷ l)
          (list_read (symbol.Comma ∷ []) c.args.parser.now (behind_read symbol.Comma c.args.parser.now (parameter_read c.args.fuel c.args.nesting c.args.parser.now c.args.depth)) c.args.at))
          (map seen_parameter c.loop-list.list.items) c.loop-list.here c.loop-list.invariant.0 h
          (seen_parameter c.in_ok-next.next) c.in_ok-next.past c.in_ok-next.ensures.gives c.in_ok-next.ensures.within.0 c.in_ok-next.ensures.within.1,
      omega (arith, c.in_ok-next.ensures.within, c.loop-list.invariant.1),
    )

pub returns-clause-gives : goal.returns-clause-gives
unfolding more_parameters_read
returns-clause-gives c =
    let h0 : is (symbol_at c.args.parser.now c.loop-list.here) symbol.Comma ≡ false = cc in
    let h : is_in (symbol.Comma ∷ []) (symbol_at c.args.parser.now c.loop-list.here) ≡ false = alone c.args.parser.now c.loop-list.here symbol.Comma false h0 in
    gathered (λ a. is_in (symbol.Comma ∷ []) a.symbol) (behind_read symbol.Comma c.args.parser.now (parameter_read c.args.fuel c.args.nesting c.args.parser.now c.args.depth)) c.args.parser.now
    (turned (λ l. seen_parameter c.args.first ∷ l)
    (list_read (symbol.Comma ∷ []) c.args.parser.now (behind_read symbol.Comma c.args.parser.now (parameter_read c.args.fuel c.args.nesting c.args.parser.now c.args.depth)) c.args.at))
    (map seen_parameter c.loop-list.list.items) c.loop-list.here c.loop-list.invariant.0 h
