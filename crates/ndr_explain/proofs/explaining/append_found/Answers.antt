use Rattle.std.proofs.Common.{◌++◌, ◌∷◌, reverse, ap, sym, ◌∙◌}
use Rattle.text_grammar.specs.Paths.{home_name}
use Rattle.ndr_explain.specs.Explained.{home_paths, home_flats}
use Rattle.ndr_explain.specs.Cursors.{path_to}
use Rattle.ndr_explain.proofs.LevelPaths.{steps_after}
use Rattle.ndr_explain.proofs.Places.{path_at}
use Rattle.ndr_explain.proofs.explaining.append_found.Goals as goal

pub returns : goal.returns
returns c w g k =
    let f = c.args.found.now in
    let text = c.args.text.now in
    let name = home_name w f.home in
    let Ls = f.cursor.top ∷ reverse f.cursor.below.items in
    c.in_ok-append_path.ensures ∙ ap (λ x. path_to x Ls) (c.in_ok-append_home.ensures ∙ ap (λ n. text ++ n) k.name_is) ∙ steps_after text name Ls
    ∙ ap (λ p. text ++ p) (sym (path_at w.table name (home_paths w g f.home) (home_flats g f.home) f.cursor k.at_node))
