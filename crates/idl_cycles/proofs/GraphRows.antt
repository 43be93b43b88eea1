-- One more node of a graph.
use Rattle.std.proofs.Common.{◌≡◌, ℕ, suc, ◌≤◌, ◌-◌, ◌+◌, List, [], ◌∷◌, ◌++◌, length, take, drop, refl, sym, ap, ◌∙◌, arith}
use Rattle.std.proofs.lemmas.List.{map_push, drop-append-le, take-append-le, length-drop, length-append, drop_at, take_all}
use Rattle.idl_cycles.specs.declared.graph.Span.{Span}
use Rattle.idl_cycles.specs.GraphRows.{row_at, rows_of, IsSpan, AreSpans}

same_row : (parts more : List ℕ) (span : Span) → IsSpan parts span → row_at (parts ++ more) span ≡ row_at parts span
same_row parts more span is =
    let a : span.start ≤ length parts = omega (arith, is.ordered, is.within) in
    let l : length (drop span.start parts) ≡ length parts - span.start = length-drop span.start parts in
    let b : span.end - span.start ≤ length (drop span.start parts) = omega (arith, is.ordered, is.within) in
    ap (take (span.end - span.start)) (drop-append-le span.start parts more a) ∙ take-append-le (span.end - span.start) (drop span.start parts) more b

same_rows : (parts more : List ℕ) (spans : List Span) → AreSpans parts spans → rows_of (parts ++ more) spans ≡ rows_of parts spans
same_rows parts more [] are = refl
same_rows parts more (span ∷ spans) are =
    let first : IsSpan parts span = are 0 span (omega arith) in
    let rest : AreSpans parts spans = λ k d h. are (suc k) d (omega arith) in
    ap (λ r. r ∷ rows_of (parts ++ more) spans) (same_row parts more span first) ∙ ap (λ rs. row_at parts span ∷ rs) (same_rows parts more spans rest)

-- parts were added, and no node
pub rows_stay : (parts more parts' : List ℕ) (spans spans' : List Span) → parts' ≡ parts ++ more → spans' ≡ spans → AreSpans parts spans → rows_of parts' spans' ≡ rows_of parts spans
rows_stay parts more parts' spans spans' p s are = ap (λ x. rows_of x spans') p ∙ ap (rows_of (parts ++ more)) s ∙ same_rows parts more spans are

new_row : (parts more : List ℕ) (span : Span) → span.start ≡ length parts → span.end ≡ length (parts ++ more) → row_at (parts ++ more) span ≡ more
new_row parts more span s e =
    let n : length (parts ++ more) ≡ length parts + length more = length-append parts more in
    ap (take (span.end - span.start)) (drop_at parts more span.start (sym s)) ∙ take_all (span.end - span.start) more (omega arith)

-- a node was added
pub rows_more : (parts more parts' : List ℕ) (spans spans' : List Span) (span : Span) → parts' ≡ parts ++ more → spans' ≡ spans ++ span ∷ [] → span.start ≡ length parts → span.end ≡ length parts'
    → AreSpans parts spans → rows_of parts' spans' ≡ rows_of parts spans ++ more ∷ []
rows_more parts more parts' spans spans' span p s start end are =
    ap (λ x. rows_of x spans') p ∙ ap (rows_of (parts ++ more)) s ∙ map_push (row_at (parts ++ more)) spans span
    ∙ ap (λ rs. rs ++ row_at (parts ++ more) span ∷ []) (same_rows parts more spans are)
    ∙ ap (λ r. rows_of parts spans ++ r ∷ []) (new_row parts more span start (end ∙ ap length p))
