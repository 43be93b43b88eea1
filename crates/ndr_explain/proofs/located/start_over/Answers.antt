use Rattle.std.proofs.Common.{ap, arith}
use Rattle.nd_value.specs.Setting.{Setting}
use Rattle.text_grammar.specs.Paths.{home_name}
use Rattle.ndr_explain.specs.Explained.{home_paths, home_flats}
use Rattle.ndr_explain.proofs.Places.{past_later, reaches_none, reaches_some}
use Rattle.ndr_explain.proofs.located.start_over.Goals as goal

pub returns-in_default : goal.returns-in_default
returns-in_default c w s =
    let g = c.args.fit.now.graph in
    let h = c.args.home in
    past_later (home_paths w g h) (home_flats g h) 0 c.args.node (omega arith)
    (reaches_none w.table (home_name w h) (home_paths w g h) (home_flats g h) 0 _ c.in_default.is (c.first_node.ensures.is w s))

pub returns : goal.returns
returns c w s =
    let g = c.args.fit.now.graph in
    let h = c.args.home in
    c.go_on.ensures w (ap (λ (v : Setting). v.table) s.is) g
    (record {
      name_is = c.home_name-name.ensures w s;
      at_node = (reaches_some w.table (home_name w h) (home_paths w g h) (home_flats g h) 0 _ c.in-Some.cursor c.in-Some.is (c.first_node.ensures.is w s)).0;
    })
