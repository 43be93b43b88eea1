-- What may follow octets that were refused.
use Rattle.std.proofs.Common.{◌≡◌, ℕ, List, [], refl}
use Rattle.nd_grammar.specs.declared.reason.Reason.{Reason}
use Rattle.nd_grammar.specs.declared.reason.Reason.TheVariants as reason
use Rattle.nd_grammar.specs.decoded.Verdict.{MayFollow}

pub may_follow : (why : Reason) (more : List ℕ) → (why ≡ reason.Truncated → more ≡ []) → MayFollow why more
may_follow reason.Truncated more none = none refl
may_follow _ more none = tt
