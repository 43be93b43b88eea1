-- For the code: the first breach so far, as breaches are noted one by one, and the breaches in two parts.
use Rattle.std.specs.Prelude.{ℕ, Bool, true, false, nat_lt, List, [], ◌∷◌, Option, Some, None}
use Rattle.nd_base.specs.declared.octets.Place.{Place}
use Rattle.idl_rule_definitions.specs.Nodes.{World}
use Rattle.idl_rule_definitions.specs.Rules.{Breach, breach, comes_before}
use Rattle.idl_rule_definitions.specs.declared.rule.TheConstants as Rule

-- the first, with one more after those before
abbrev pub later : World → Breach → Option Breach → Option Breach
later w b None = Some b
later w b (Some a) = elim (comes_before w b a) [ true ↦ Some b | false ↦ Some a ]

-- the first, with others after those before
abbrev pub noted : World → Option Breach → List Breach → Option Breach
noted w first [] = first
noted w first (b ∷ bs) = noted w (later w b first) bs

-- a breach, if the rule is broken
abbrev pub if_broken : ℕ → Place → Bool → List Breach
if_broken rule place true = breach rule place ∷ []
if_broken rule place false = []

-- The rules on attributes as they stand in lists come first: 1 to 4. Where they hold, no list of attributes has a word twice.
abbrev pub is_of_lists : Breach → Bool
is_of_lists b = nat_lt b.rule Rule.BODY

abbrev pub of_lists : List Breach → List Breach
of_lists [] = []
of_lists (b ∷ bs) = elim (is_of_lists b) [ true ↦ b ∷ of_lists bs | false ↦ of_lists bs ]

abbrev pub of_others : List Breach → List Breach
of_others [] = []
of_others (b ∷ bs) = elim (is_of_lists b) [ true ↦ of_others bs | false ↦ b ∷ of_others bs ]
