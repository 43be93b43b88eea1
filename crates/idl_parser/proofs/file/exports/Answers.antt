use Rattle.std.proofs.Common.{◌≡◌, ◌≢◌, ℕ, suc, ◌+◌, ◌-◌, ◌<◌, ◌≤◌, List, [], ◌∷◌, ◌++◌, map, option_map, length, arith, sym, ap, true, false}
use Rattle.idl_grammar.specs.Text.{symbol_at, is, is_in}
use Rattle.idl_grammar.specs.ReadPhrases.{behind_read, separated_read, some_read, list_read}
use Rattle.idl_grammar.proofs.Gathered.{Gathered, gathers, gathering_fails, gathered}
use Rattle.idl_grammar.specs.Symbols as symbol
use Rattle.std.proofs.lemmas.Result.{err_from_is_err_and}
use Rattle.std.proofs.lemmas.List.{map_push}
use Rattle.idl_grammar.specs.Reading.{export_read, exports_read, export_firsts}
use Rattle.idl_grammar.specs.Seen.{seen_export}
use Rattle.idl_tokens.proofs.Lists.{alone, separated_begins, some_begins, list_begins}
use Rattle.idl_parser.proofs.file.exports.Goals as goal

pub loop-list-init : goal.loop-list-init
unfolding exports_read
loop-list-init c =
    rw c.new-list.ensures.items (list_begins (export_firsts) c.args.parser.now (export_read c.args.fuel c.args.nesting c.args.parser.now c.args.depth) c.args.at c.requires.within, omega arith)

pub returns-in_err-next-clause-gives : goal.returns-in_err-next-clause-gives
unfolding exports_read
returns-in_err-next-clause-gives c =
    let p = err_from_is_err_and c.from_residual.result c.from_residual.ensures.1 in
    let h : is_in (export_firsts) (symbol_at c.args.parser.now c.loop-list.here) ≡ true = cc in
    rw (p.1, p.2)
    (gathering_fails (λ a. is_in (export_firsts) a.symbol) (export_read c.args.fuel c.args.nesting c.args.parser.now c.args.depth) c.args.parser.now
    (list_read (export_firsts) c.args.parser.now (export_read c.args.fuel c.args.nesting c.args.parser.now c.args.depth) c.args.at)
    (map seen_export c.loop-list.list.items) c.loop-list.here c.loop-list.invariant.0 h c.in_err-next.field-0.0 c.in_err-next.ensures.gives)

pub loop-list-smaller : goal.loop-list-smaller
loop-list-smaller c = omega (arith, c.in_ok-next.ensures.within)

pub loop-list-preserved : goal.loop-list-preserved
unfolding exports_read
loop-list-preserved c =
    let h : is_in (export_firsts) (symbol_at c.args.parser.now c.loop-list.here) ≡ true = cc in
    let e : (map seen_export c.push.new.self.items) ≡ (map seen_export c.loop-list.list.items) ++ (seen_export c.in_ok-next.next) ∷ [] =
    rw c.in_ok-push.ensures.items (map_push seen_export c.loop-list.list.items c.in_ok-next.next) in
    rw e (
      gathers (λ a. is_in (export_firsts) a.symbol) (export_read c.args.fuel c.args.nesting c.args.parser.now c.args.depth) c.args.parser.now
          (list_read (export_firsts) c.args.parser.now (export_read c.args.fuel c.args.nesting c.args.parser.now c.args.depth) c.args.at)
          (map seen_export c.loop-list.list.items) c.loop-list.here c.loop-list.invariant.0 h
          (seen_export c.in_ok-next.next) c.in_ok-next.past c.in_ok-next.ensures.gives c.in_ok-next.ensures.within.0 c.in_ok-next.ensures.within.1,
      omega (arith, c.in_ok-next.ensures.within, c.loop-list.invariant.1),
    )

pub returns-clause-gives : goal.returns-clause-gives
unfolding exports_read
returns-clause-gives c =
    let h : is_in (export_firsts) (symbol_at c.args.parser.now c.loop-list.here) ≡ false = cc in
    gathered (λ a. is_in (export_firsts) a.symbol) (export_read c.args.fuel c.args.nesting c.args.parser.now c.args.depth) c.args.parser.now
    (list_read (export_firsts) c.args.parser.now (export_read c.args.fuel c.args.nesting c.args.parser.now c.args.depth) c.args.at)
    (map seen_export c.loop-list.list.items) c.loop-list.here c.loop-list.invariant.0 h
