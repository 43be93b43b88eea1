-- What is noted of the other rules, as nodes stand side by side.
use Rattle.std.proofs.Common.{◌≡◌, ◌∙◌, ℕ, ◌+◌, ◌<◌, ◌≤◌, ltb, Bool, true, false, List, [], ◌∷◌, ◌++◌, drop, length, get_or, Option, refl, ap, ap₂, sym, append-nil}
use Rattle.std.specs.List.{flat_map}
use Rattle.std.proofs.lemmas.List.{drop_more, drop_all}
use Rattle.std.proofs.lemmas.List.Concat.{flat_map-cons}
use Rattle.idl_rule_definitions.specs.Nodes.{World, Construct, Node}
use Rattle.idl_rule_definitions.specs.Types.{Names}
use Rattle.idl_rule_definitions.specs.Scene.{Scene}
use Rattle.idl_rule_definitions.specs.Rules.{Breach, broken_at, breaches_at}
use Rattle.idl_rule_definitions.specs.Noted.{noted, is_of_lists, of_others}
use Rattle.idl_rule_definitions.specs.OthersOf.{others_of}
use Rattle.idl_rule_definitions.proofs.Noted.{noted_more}
use Rattle.idl_rule_definitions.specs.declared.rule.TheConstants as Rule

pub others_append : (xs ys : List Breach) → of_others (xs ++ ys) ≡ of_others xs ++ of_others ys
others_append [] ys = refl
others_append (b ∷ bs) ys = by (is_of_lists b) (others_append bs ys) where
  by : (t : Bool) → of_others (bs ++ ys) ≡ of_others bs ++ of_others ys
      → elim t [ true ↦ of_others (bs ++ ys) | false ↦ b ∷ of_others (bs ++ ys) ] ≡ elim t [ true ↦ of_others bs | false ↦ b ∷ of_others bs ] ++ of_others ys
  by true e = e
  by false e = ap (λ l. b ∷ l) e

pub kept : (c : Construct) (rule at : ℕ) (t : Bool) → ltb rule Rule.BODY ≡ false → of_others (broken_at c rule at t) ≡ broken_at c rule at t
kept c rule at false h = refl
kept c rule at true h = ap (λ b. elim b [ true ↦ [] | false ↦ broken_at c rule at true ]) h

pub dropped : (c : Construct) (rule at : ℕ) (t : Bool) → ltb rule Rule.BODY ≡ true → of_others (broken_at c rule at t) ≡ []
dropped c rule at false h = refl
dropped c rule at true h = ap (λ b. elim b [ true ↦ [] | false ↦ broken_at c rule at true ]) h

pub other_cons : (s : Scene) (names : Names) (n : Node) (ns : List Node) → others_of s names (n ∷ ns) ≡ of_others (breaches_at s names n) ++ others_of s names ns
other_cons s names n ns = ap of_others (flat_map-cons (breaches_at s names) n ns) ∙ others_append (breaches_at s names n) (flat_map (breaches_at s names) ns)

pub other_one : (s : Scene) (names : Names) (n : Node) → others_of s names (n ∷ []) ≡ of_others (breaches_at s names n)
other_one s names n = other_cons s names n [] ∙ append-nil (of_others (breaches_at s names n))

pub three_kept : (c : Construct) (at i j k : ℕ) (a b d : Bool) → ltb i 5 ≡ false → ltb j 5 ≡ false → ltb k 5 ≡ false
    → of_others (broken_at c i at a ++ broken_at c j at b ++ broken_at c k at d) ≡ broken_at c i at a ++ broken_at c j at b ++ broken_at c k at d
three_kept c at i j k a b d e f g =
    others_append (broken_at c i at a ++ broken_at c j at b) (broken_at c k at d)
    ∙ ap₂ (λ l m. l ++ m) (others_append (broken_at c i at a) (broken_at c j at b) ∙ ap₂ (λ l m. l ++ m) (kept c i at a e) (kept c j at b f)) (kept c k at d g)

pub last_kept : (c : Construct) (at end i j k r : ℕ) (a b d e : Bool) → ltb i 5 ≡ true → ltb j 5 ≡ true → ltb k 5 ≡ true → ltb r 5 ≡ false
    → of_others (broken_at c i at a ++ broken_at c j at b ++ broken_at c k at d ++ broken_at c r end e) ≡ broken_at c r end e
last_kept c at end i j k r a b d e f g h last =
    others_append (broken_at c i at a ++ broken_at c j at b ++ broken_at c k at d) (broken_at c r end e)
    ∙ ap₂ (λ l m. l ++ m)
    (others_append (broken_at c i at a ++ broken_at c j at b) (broken_at c k at d)
    ∙ ap₂ (λ l m. l ++ m) (others_append (broken_at c i at a) (broken_at c j at b) ∙ ap₂ (λ l m. l ++ m) (dropped c i at a f) (dropped c j at b g)) (dropped c k at d h))
    (kept c r end e last)

-- one part is noted, and another is left
pub part_noted : (w : World) (part rest left : List Breach) (first next all : Option Breach) → left ≡ part ++ rest → next ≡ noted w first part → noted w first left ≡ all
    → noted w next rest ≡ all
part_noted w part rest left first next all is e h =
    ap (λ o. noted w o rest) e ∙ sym (ap (λ l. noted w first l) is ∙ noted_more w first part rest) ∙ h

-- items of a list, each of which breaks rules of its own
module _ {X : Type 0} (one : X → List Breach) (of : List X → List Breach) (cons : (x : X) (more : List X) → of (x ∷ more) ≡ one x ++ of more) (none : of [] ≡ []) (xs : List X) where
  pub item_noted : (w : World) (i : ℕ) (x : X) (first next all : Option Breach) → i < length xs → x ≡ get_or xs i x → next ≡ noted w first (one x)
      → noted w first (of (drop i xs)) ≡ all → noted w next (of (drop (i + 1) xs)) ≡ all
  item_noted w i x first next all below is e h =
      part_noted w (one x) (of (drop (i + 1) xs)) (of (drop i xs)) first next all (ap of (drop_more xs i x below ∙ ap (λ y. y ∷ drop (i + 1) xs) (sym is)) ∙ cons x (drop (i + 1) xs)) e h

  pub all_noted : (w : World) (i : ℕ) (first all : Option Breach) → length xs ≤ i → noted w first (of (drop i xs)) ≡ all → first ≡ all
  all_noted w i first all past h = sym (ap (λ l. noted w first l) (ap of (drop_all i xs past) ∙ none)) ∙ h
