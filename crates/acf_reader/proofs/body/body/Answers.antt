use Rattle.std.proofs.Common.{◌≡◌, [], ◌∷◌, ◌++◌, map, arith, true, false}
use Rattle.idl_grammar.specs.Text.{symbol_at, is_in}
use Rattle.idl_grammar.specs.ReadPhrases.{list_read}
use Rattle.idl_grammar.proofs.Gathered.{gathers, gathering_fails, gathered}
use Rattle.std.proofs.lemmas.Result.{err_from_is_err_and}
use Rattle.std.proofs.lemmas.List.{map_push}
use Rattle.acf_reader.specs.Reading.{element_read, body_read, element_firsts}
use Rattle.acf_reader.specs.Seen.{seen_element}
use Rattle.idl_tokens.proofs.Lists.{list_begins}
use Rattle.acf_reader.proofs.body.body.Goals as goal

pub loop-list-init : goal.loop-list-init
unfolding body_read
loop-list-init c =
    rw c.new-list.ensures.items (list_begins (element_firsts) c.args.parser.now (element_read c.args.parser.now c.args.depth) c.args.at c.requires.within, omega arith)

pub returns-in_err-next-clause-gives : goal.returns-in_err-next-clause-gives
unfolding body_read
returns-in_err-next-clause-gives c =
    let p = err_from_is_err_and c.from_residual.result c.from_residual.ensures.1 in
    let h : is_in (element_firsts) (symbol_at c.args.parser.now c.loop-list.here) ≡ true = cc in
    rw (p.1, p.2)
    (gathering_fails (λ a. is_in (element_firsts) a.symbol) (element_read c.args.parser.now c.args.depth) c.args.parser.now
    (list_read (element_firsts) c.args.parser.now (element_read c.args.parser.now c.args.depth) c.args.at)
    (map seen_element c.loop-list.list.items) c.loop-list.here c.loop-list.invariant.0 h c.in_err-next.field-0.0 c.in_err-next.ensures.gives)

pub loop-list-smaller : goal.loop-list-smaller
loop-list-smaller c = omega (arith, c.in_ok-next.ensures.within)

pub loop-list-preserved : goal.loop-list-preserved
unfolding body_read
loop-list-preserved c =
    let h : is_in (element_firsts) (symbol_at c.args.parser.now c.loop-list.here) ≡ true = cc in
    let e : (map seen_element c.push.new.self.items) ≡ (map seen_element c.loop-list.list.items) ++ (seen_element c.in_ok-next.next) ∷ [] =
    rw c.in_ok-push.ensures.items (map_push seen_element c.loop-list.list.items c.in_ok-next.next) in
    rw e (
      gathers (λ a. is_in (element_firsts) a.symbol) (element_read c.args.parser.now c.args.depth) c.args.parser.now
          (list_read (element_firsts) c.args.parser.now (element_read c.args.parser.now c.args.depth) c.args.at) (map seen_element c.loop-list.list.items) c.loop-list.here c.loop-list.invariant.0 h
          (seen_element c.in_ok-next.next) c.in_ok-next.past c.in_ok-next.ensures.gives c.in_ok-next.ensures.within.0 c.in_ok-next.ensures.within.1,
      omega (arith, c.in_ok-next.ensures.within, c.loop-list.invariant.1),
    )

pub returns-clause-gives : goal.returns-clause-gives
unfolding body_read
returns-clause-gives c =
    let h : is_in (element_firsts) (symbol_at c.args.parser.now c.loop-list.here) ≡ false = cc in
    gathered (λ a. is_in (element_firsts) a.symbol) (element_read c.args.parser.now c.args.depth) c.args.parser.now
    (list_read (element_firsts) c.args.parser.now (element_read c.args.parser.now c.args.depth) c.args.at) (map seen_element c.loop-list.list.items) c.loop-list.here c.loop-list.invariant.0 h
