use Rattle.std.proofs.Common.{◌≡◌, ◌≢◌, ℕ, suc, ◌+◌, ◌-◌, ◌<◌, ◌≤◌, List, [], ◌∷◌, ◌++◌, map, option_map, length, arith, sym, ap, true, false}
use Rattle.idl_grammar.specs.Text.{symbol_at, is, is_in}
use Rattle.idl_grammar.specs.ReadPhrases.{behind_read, separated_read, some_read, list_read}
use Rattle.idl_grammar.proofs.Gathered.{Gathered, gathers, gathering_fails, gathered}
use Rattle.idl_grammar.specs.Symbols as symbol
use Rattle.std.proofs.lemmas.Result.{err_from_is_err_and}
use Rattle.std.proofs.lemmas.List.{map_push}
use Rattle.idl_grammar.specs.ReadExpressions.{spelled_read, placed_read, outer_read}
use Rattle.idl_tokens.proofs.Lists.{alone, separated_begins, some_begins, list_begins}
use Rattle.idl_declarations.proofs.declarators.stars.Goals as goal

pub loop-list-init : goal.loop-list-init
loop-list-init c =
    rw c.new-list.ensures.items (list_begins (symbol.Star ∷ []) c.args.parser.now (placed_read symbol.Star c.args.parser.now) c.args.at c.requires.within, omega arith)

pub returns-in_err-next-clause-gives : goal.returns-in_err-next-clause-gives
returns-in_err-next-clause-gives c =
    let p = err_from_is_err_and c.from_residual.result c.from_residual.ensures.1 in
    let h0 : is (symbol_at c.args.parser.now c.loop-list.here) symbol.Star ≡ true = cc in
    let h : is_in (symbol.Star ∷ []) (symbol_at c.args.parser.now c.loop-list.here) ≡ true = alone c.args.parser.now c.loop-list.here symbol.Star true h0 in
    rw (p.1, p.2)
    (gathering_fails (λ a. is_in (symbol.Star ∷ []) a.symbol) (placed_read symbol.Star c.args.parser.now) c.args.parser.now
    (list_read (symbol.Star ∷ []) c.args.parser.now
    (placed_read symbol.Star c.args.parser.now) c.args.at) c.loop-list.list.items c.loop-list.here c.loop-list.invariant.0 h c.in_err-next.field-0.0 c.in_err-next.ensures.gives)

pub loop-list-smaller : goal.loop-list-smaller
loop-list-smaller c = omega (arith, c.in_ok-next.ensures.within)

pub loop-list-preserved : goal.loop-list-preserved
loop-list-preserved c =
    let h0 : is (symbol_at c.args.parser.now c.loop-list.here) symbol.Star ≡ true = cc in
    let h : is_in (symbol.Star ∷ []) (symbol_at c.args.parser.now c.loop-list.here) ≡ true = alone c.args.parser.now c.loop-list.here symbol.Star true h0 in
    let e : c.push.new.self.items ≡ c.loop-list.list.items ++ c.in_ok-next.next ∷ [] = c.in_ok-push.ensures.items in
    rw e (
      gathers (λ a. is_in (symbol.Star ∷ []) a.symbol) (placed_read symbol.Star c.args.parser.now) c.args.parser.now
          (list_read (symbol.Star ∷ []) c.args.parser.now
          (placed_read symbol.Star c.args.parser.now) c.args.at) c.loop-list.list.items c.loop-list.here c.loop-list.invariant.0 h c.in_ok-next.next c.in_ok-next.past c.in_ok-next.ensures.gives
          c.in_ok-next.ensures.within.0 c.in_ok-next.ensures.within.1,
      omega (arith, c.in_ok-next.ensures.within, c.loop-list.invariant.1),
    )

pub returns-clause-gives : goal.returns-clause-gives
returns-clause-gives c =
    let h0 : is (symbol_at c.args.parser.now c.loop-list.here) symbol.Star ≡ false = cc in
    let h : is_in (symbol.Star ∷ []) (symbol_at c.args.parser.now c.loop-list.here) ≡ false = alone c.args.parser.now c.loop-list.here symbol.Star false h0 in
    gathered (λ a. is_in (symbol.Star ∷ []) a.symbol) (placed_read symbol.Star c.args.parser.now) c.args.parser.now
    (list_read (symbol.Star ∷ []) c.args.parser.now (placed_read symbol.Star c.args.parser.now) c.args.at) c.loop-list.list.items c.loop-list.here c.loop-list.invariant.0 h
