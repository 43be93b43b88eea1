use Rattle.std.proofs.Common.{◌≡◌, ◌++◌, List, ℕ, Option, Some, codes, ap, sym, ◌∙◌, option_map, subst}
use Rattle.std.specs.List.{slice_get}
use Rattle.std.proofs.lemmas.Result.{IfOk-weaker}
use Rattle.nd_types.specs.Roots.{named_roots, root_value}
use Rattle.nd_value.specs.Fitting.{setting_of}
use Rattle.nd_value.specs.Seen.{tree_of}
use Rattle.nd_value.specs.Setting.{or_unread}
use Rattle.nd_value.specs.Tree.{Tree}
use Rattle.text_printer.specs.Steps.{HasPath}
use Rattle.text_printer.proofs.HomePaths.{root_path, no_root_path}
use Rattle.text_printer.proofs.paths.append_root_path.Goals as goal

pub returns-in_ok-append-in-Some : goal.returns-in_ok-append-in-Some
returns-in_ok-append-in-Some c =
    IfOk-weaker c.append_root_steps.result _ _
    (λ x steps empty o there p h.
    let i = c.args.interface.now in
    let g = c.args.graph.now in
    let r = root_value c.in-Some.root in
    let is : Some r ≡ slice_get (named_roots i.types c.args.side o) c.args.at = sym (ap (option_map root_value) c.in-Some.is) ∙ c.root_at.ensures o there in
    let here = root_path (setting_of i o c.args.side) g c.args.at r c.args.node p is h in
    let named : r.name ≡ c.append.new.self = sym (c.in_ok-append-in-Some.ensures.ok ∙ ap (λ (t : List ℕ). t ++ r.name) empty) in
    steps p
    (subst (λ (n : List ℕ). HasPath i.types r.of n (or_unread (option_map (λ v. tree_of v.now) c.root_value_at.result)) c.args.node p) named
    (subst (λ (v : Option Tree). HasPath i.types r.of r.name (or_unread v) c.args.node p) (sym c.root_value_at.ensures) here)))
    c.append_root_steps.ensures

pub returns-in-None : goal.returns-in-None
returns-in-None c =
    IfOk-weaker c.append-in-None.result _ _
    (λ x said empty o there p h.
    said ∙ ap (λ (t : List ℕ). t ++ codes "root") empty
    ∙ no_root_path (setting_of c.args.interface.now o c.args.side) c.args.graph.now c.args.at c.args.node p
    (sym (ap (option_map root_value) c.in-None.is) ∙ c.root_at.ensures o there) h)
    c.append-in-None.ensures.ok
