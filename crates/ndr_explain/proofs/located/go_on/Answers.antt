use Rattle.std.proofs.Common.{refl, sym, subst}
use Rattle.nd_types.specs.Table.{Table}
use Rattle.text_grammar.specs.Paths.{home_name}
use Rattle.ndr_explain.specs.Explained.{home_paths, home_flats}
use Rattle.ndr_explain.specs.Cursors.{IsAt}
use Rattle.ndr_explain.proofs.Places.{reaches_none, reaches_some}
use Rattle.ndr_explain.proofs.located.go_on.Goals as goal

pub returns-in_default : goal.returns-in_default
returns-in_default c w e g k =
    let h = c.args.found.home in
    reaches_none c.args.types.now (home_name w h) (home_paths w g h) (home_flats g h) c.args.node _ c.in_default.is
    (c.in_ok-cursor.ensures (home_name w h) (home_paths w g h) (home_flats g h)
    (subst (λ (t : Table). IsAt t (home_name w h) (home_paths w g h) (home_flats g h) c.args.found.cursor) e k.at_node))

pub returns : goal.returns
returns c w e g k =
    let h = c.args.found.home in
    let q = reaches_some c.args.types.now (home_name w h) (home_paths w g h) (home_flats g h) c.args.node _ c.in-Some.cursor c.in-Some.is
    (c.in_ok-cursor.ensures (home_name w h) (home_paths w g h) (home_flats g h)
    (subst (λ (t : Table). IsAt t (home_name w h) (home_paths w g h) (home_flats g h) c.args.found.cursor) e k.at_node)) in
    ((record { name_is = k.name_is; at_node = subst (λ (t : Table). IsAt t (home_name w h) (home_paths w g h) (home_flats g h) c.in-Some.cursor) (sym e) q.0 }, refl), q.1)
