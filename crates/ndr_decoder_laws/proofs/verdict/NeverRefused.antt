-- What a source had left is not refused if it begins with a stream.
use Rattle.std.proofs.Common.{◌≡◌, ℕ, List, [], ◌++◌, Some, sym}
use Rattle.nd_base.specs.declared.octets.Order.{Order}
use Rattle.nd_base.specs.Over.{SourceOver}
use Rattle.nd_base.proofs.Consumed.{rest_of, parts_of, none_left}
use Rattle.nd_value.specs.declared.value.Graph.{Graph}
use Rattle.nd_value.specs.Conforms.{Conforms}
use Rattle.nd_value.specs.Setting.{Setting}
use Rattle.nd_grammar.specs.declared.reason.Reason.{Reason}
use Rattle.nd_grammar.specs.Stream.{Represents}
use Rattle.nd_grammar.specs.decoded.Verdict.{IsRefused, DecodingSeen}
use Rattle.nd_grammar.proofs.Following.{may_follow}

pub never_refused : (w : Setting) (order : Order) (s : SourceOver) (place : ℕ) (why : Reason) (t : DecodingSeen) (part rest : List ℕ) (g : Graph)
    → s.left ≡ Some (part ++ rest) → Conforms w g → Represents w order part g → IsRefused w order s place why t → ⊥
never_refused w order s place why t part rest g e c r k =
    let whole : part ++ rest ≡ k.fetched ++ rest_of s.left_now = parts_of s.left s.left_now k.fetched (part ++ rest) e k.left in
    k.no_graph (rest_of s.left_now) (may_follow why (rest_of s.left_now) (λ h. none_left s.left_now (k.none_left h))) part rest (sym whole) g c r
