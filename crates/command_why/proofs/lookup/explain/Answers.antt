use Rattle.std.proofs.Common.{◌≡◌, IfOk, List, ℕ, map, subst}
use Rattle.std.specs.String.{string_bytes}
use Rattle.command_why.specs.Explained.{entries, explained, explained_by}
use Rattle.command_why.proofs.lookup.explain.Goals as goal

pub returns : goal.returns
unfolding explained
returns c =
    subst (λ (text : List ℕ). IfOk c.explain_by.result (λ e. e ≡ explained_by (entries text) (map string_bytes c.args.words.now))) c.as_bytes.ensures.value c.explain_by.ensures
