use Rattle.std.proofs.Common.{◌≡◌, rules, Bool, true, false, List, ℕ, ◌++◌, ◌∷◌, ap, sym, ◌∙◌, reverse}
use Rattle.ndr_explain.specs.Cursors.{name_text, path_to}
use Rattle.ndr_trace_value.specs.LastMembers.{counted_path, level_variable, whole_types}
use Rattle.ndr_trace_value.specs.Tracing.{either_from, either_path, is_sought}
use Rattle.ndr_trace_value.proofs.progress.keep.Goals as goal

pub returns-then-not-is_sought-clause-path : goal.returns-then-not-is_sought-clause-path
returns-then-not-is_sought-clause-path c =
    let no : c.is_sought.result ≡ false = search rules in
    let s = c.args.spot.now in
    let p = c.args.progress.now in
    let text : List ℕ =
    counted_path c.args.ground.now.interface.now.types c.args.kind (whole_types s.top) (path_to (p.path ++ name_text s.name) (s.top ∷ reverse s.below.now.items)) in
    let never : is_sought c.args.ground.now.sought p.next ≡ false = sym c.is_sought.ensures ∙ no in
    sym (ap (λ b. either_path b text p.path) never)

pub returns-then-not-is_sought-clause-variable : goal.returns-then-not-is_sought-clause-variable
returns-then-not-is_sought-clause-variable c =
    let no : c.is_sought.result ≡ false = search rules in
    let s = c.args.spot.now in
    let p = c.args.progress.now in
    let text : List ℕ =
    level_variable c.args.ground.now.interface.now.types c.args.kind s.top (path_to (name_text s.name) (s.top ∷ reverse s.below.now.items))
    (path_to (name_text s.name) (reverse s.below.now.items)) in
    let never : is_sought c.args.ground.now.sought p.next ≡ false = sym c.is_sought.ensures ∙ no in
    sym (ap (λ b. either_path b text p.variable) never)

pub returns-then-not-is_sought-clause-from : goal.returns-then-not-is_sought-clause-from
returns-then-not-is_sought-clause-from c =
    let no : c.is_sought.result ≡ false = search rules in
    let p = c.args.progress.now in
    let never : is_sought c.args.ground.now.sought p.next ≡ false = sym c.is_sought.ensures ∙ no in
    sym (ap (λ b. either_from b c.args.spot.now.from.now p.from) never)

pub returns-clause-from : goal.returns-clause-from
returns-clause-from c =
    let yes : c.is_sought.result ≡ true = search rules in
    let p = c.args.progress.now in
    let always : is_sought c.args.ground.now.sought p.next ≡ true = sym c.is_sought.ensures ∙ yes in
    c.in_ok-progress-2.ensures ∙ sym (ap (λ b. either_from b c.args.spot.now.from.now p.from) always)

pub returns-clause-path : goal.returns-clause-path
returns-clause-path c =
    let yes : c.is_sought.result ≡ true = search rules in
    let s = c.args.spot.now in
    let p = c.args.progress.now in
    let its : List ℕ → List ℕ = counted_path c.args.ground.now.interface.now.types c.args.kind (whole_types s.top) in
    let text : List ℕ = its (path_to (p.path ++ name_text s.name) (s.top ∷ reverse s.below.now.items)) in
    let always : is_sought c.args.ground.now.sought p.next ≡ true = sym c.is_sought.ensures ∙ yes in
    c.in_ok-append_counted.ensures ∙ ap its c.in_ok-append_path.ensures ∙ sym (ap (λ b. either_path b text p.path) always)

pub returns-clause-variable : goal.returns-clause-variable
returns-clause-variable c =
    let yes : c.is_sought.result ≡ true = search rules in
    let s = c.args.spot.now in
    let p = c.args.progress.now in
    let text : List ℕ =
    level_variable c.args.ground.now.interface.now.types c.args.kind s.top (path_to (name_text s.name) (s.top ∷ reverse s.below.now.items))
    (path_to (name_text s.name) (reverse s.below.now.items)) in
    let always : is_sought c.args.ground.now.sought p.next ≡ true = sym c.is_sought.ensures ∙ yes in
    c.in_ok-progress.ensures ∙ sym (ap (λ b. either_path b text p.variable) always)
