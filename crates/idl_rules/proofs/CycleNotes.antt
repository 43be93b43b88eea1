-- The breaches of rule 11 may be noted before all others.
use Rattle.std.proofs.Common.{◌≡◌, ◌∙◌, ℕ, ◌+◌, Bool, true, false, not, ◌&&◌, ◌||◌, eqb, ltb, List, [], ◌∷◌, ◌++◌, length, Option, Some, None, refl, ap, ap₂, sym, arith, append-nil}
use Rattle.std.specs.List.{flat_map}
use Rattle.std.proofs.lemmas.Bool.Decides.{nat_tests}
use Rattle.std.proofs.lemmas.List.Concat.{flat_map-cons}
use Rattle.std.proofs.lemmas.Grind.{flat_map-append}
use Rattle.idl_rule_definitions.specs.Nodes.{World, Construct, Node, HeaderNode, AttributeNode, SwitchNode, TagNode, BodyNode, EnumeratorNode, LabelNode, EmptyArmNode, DeclaratorNode, ConstantNode}
use Rattle.idl_rule_definitions.specs.Nodes.{TypeNode, OperationNode}
use Rattle.idl_rule_definitions.specs.Types.{Names}
use Rattle.idl_rule_definitions.specs.Scene.{Scene, Scoped, Body, body_by}
use Rattle.idl_rule_definitions.specs.TypeRules.{contains_itself, is_deep_body}
use Rattle.idl_rule_definitions.specs.DeclarationRules.{lacks_switch_type}
use Rattle.idl_rule_definitions.specs.Rules.{Breach, broken_in, breaches_at, breaches_of_body, comes_before, rank, earlier, first_of}
use Rattle.idl_rule_definitions.specs.Noted.{later, noted, of_others}
use Rattle.idl_rule_definitions.specs.OtherBreaches.{other_breaches_at, other_breaches}
use Rattle.idl_value_rules.specs.RestBreaches.{but_cycles, cycles_alone, rest_breaches_at, rest_breaches, cycle_of, cycle_breaches}
use Rattle.idl_rule_definitions.proofs.Noted.{noted_all}
use Rattle.idl_rule_definitions.proofs.OtherNotes.{three_kept}
use Rattle.idl_rules.proofs.UseNotes.{cycles_append}
use Rattle.idl_rules.proofs.RestNotes.{node_rest}
use Rattle.idl_rule_definitions.specs.declared.rule.TheConstants as Rule

abbrev is_cycle : Breach → Bool
is_cycle b = eqb b.rule Rule.NO_TYPE_IN_ITSELF

alone_more : (b : Breach) (bs : List Breach) (t : Bool) → is_cycle b ≡ t → cycles_alone (b ∷ bs) ≡ elim t [ true ↦ b ∷ cycles_alone bs | false ↦ cycles_alone bs ]
alone_more b bs t e = ap (λ t. elim t [ true ↦ b ∷ cycles_alone bs | false ↦ cycles_alone bs ]) e

but_more : (b : Breach) (bs : List Breach) (t : Bool) → is_cycle b ≡ t → but_cycles (b ∷ bs) ≡ elim t [ true ↦ but_cycles bs | false ↦ b ∷ but_cycles bs ]
but_more b bs t e = ap (λ t. elim t [ true ↦ but_cycles bs | false ↦ b ∷ but_cycles bs ]) e

-- of two breaches of which one alone is of rule 11 one comes before the other
before_not : (w : World) (a b : Breach) → is_cycle a ≡ true → is_cycle b ≡ false → comes_before w a b ≡ not (comes_before w b a)
before_not w a b h i = by_numbers a.rule (rank w a.place.file) a.place.at b.rule (rank w b.place.file) b.place.at h i where
  by_numbers : (r k p s l q : ℕ) → eqb r 11 ≡ true → eqb s 11 ≡ false
      → (ltb r s || eqb r s && (ltb k l || eqb k l && ltb p q)) ≡ not (ltb s r || eqb s r && (ltb l k || eqb l k && ltb q p))
  by_numbers r k p s l q h i = grind (arith, nat_tests, h, i)

-- so the first of the two is the same in either order
abbrev one_of : Breach → Breach → Bool → Breach
one_of a b true = a
one_of a b false = b

turned : (a b : Breach) (t : Bool) → one_of a b (not t) ≡ one_of b a t
turned a b true = refl
turned a b false = refl

either_order : (w : World) (a b : Breach) → is_cycle a ≡ true → is_cycle b ≡ false → earlier w b (Some a) ≡ earlier w a (Some b)
either_order w a b h i = ap (one_of a b) (before_not w a b h i) ∙ turned a b (comes_before w b a)

swapped : (w : World) (a b : Breach) (o : Option Breach) → is_cycle a ≡ true → is_cycle b ≡ false → later w a (later w b o) ≡ later w b (later w a o)
swapped w a b None h i = noted_all w (b ∷ a ∷ []) ∙ ap (λ x. Some x) (either_order w a b h i) ∙ sym (noted_all w (a ∷ b ∷ []))
swapped w a b (Some x) h i =
    noted_all w (x ∷ b ∷ a ∷ []) ∙ ap (λ y. Some (earlier w x (Some y))) (either_order w a b h i) ∙ sym (noted_all w (x ∷ a ∷ b ∷ []))

-- another breach may be noted after those of rule 11
behind_cycles : (w : World) (b : Breach) (o : Option Breach) (bs : List Breach) → is_cycle b ≡ false
    → noted w (later w b o) (cycles_alone bs) ≡ later w b (noted w o (cycles_alone bs))
behind_cycles w b o [] i = refl
behind_cycles w b o (x ∷ bs) i = by (is_cycle x) refl (behind_cycles w b o bs i) (behind_cycles w b (later w x o) bs i) where
  by : (t : Bool) → is_cycle x ≡ t → noted w (later w b o) (cycles_alone bs) ≡ later w b (noted w o (cycles_alone bs))
      → noted w (later w b (later w x o)) (cycles_alone bs) ≡ later w b (noted w (later w x o) (cycles_alone bs))
      → noted w (later w b o) (cycles_alone (x ∷ bs)) ≡ later w b (noted w o (cycles_alone (x ∷ bs)))
  by true e rest more =
      ap (noted w (later w b o)) (alone_more x bs true e)
      ∙ ap (λ p. noted w p (cycles_alone bs)) (swapped w x b o e i)
      ∙ more
      ∙ sym (ap (λ l. later w b (noted w o l)) (alone_more x bs true e))
  by false e rest more = ap (noted w (later w b o)) (alone_more x bs false e) ∙ rest ∙ sym (ap (λ l. later w b (noted w o l)) (alone_more x bs false e))

pub cycles_first : (w : World) (o : Option Breach) (bs : List Breach) → noted w o bs ≡ noted w (noted w o (cycles_alone bs)) (but_cycles bs)
cycles_first w o [] = refl
cycles_first w o (b ∷ bs) = by (is_cycle b) refl (cycles_first w (later w b o) bs) where
  by : (t : Bool) → is_cycle b ≡ t → noted w (later w b o) bs ≡ noted w (noted w (later w b o) (cycles_alone bs)) (but_cycles bs)
      → noted w o (b ∷ bs) ≡ noted w (noted w o (cycles_alone (b ∷ bs))) (but_cycles (b ∷ bs))
  by true e rest = rest ∙ sym (ap₂ (λ l m. noted w (noted w o l) m) (alone_more b bs true e) (but_more b bs true e))
  by false e rest =
      rest
      ∙ ap (λ p. noted w p (but_cycles bs)) (behind_cycles w b o bs e)
      ∙ sym (ap₂ (λ l m. noted w (noted w o l) m) (alone_more b bs false e) (but_more b bs false e))

-- ## Both parts of what all nodes break

alone_append : (xs ys : List Breach) → cycles_alone (xs ++ ys) ≡ cycles_alone xs ++ cycles_alone ys
alone_append [] ys = refl
alone_append (b ∷ bs) ys = by (is_cycle b) (alone_append bs ys) where
  by : (t : Bool) → cycles_alone (bs ++ ys) ≡ cycles_alone bs ++ cycles_alone ys
      → elim t [ true ↦ b ∷ cycles_alone (bs ++ ys) | false ↦ cycles_alone (bs ++ ys) ] ≡ elim t [ true ↦ b ∷ cycles_alone bs | false ↦ cycles_alone bs ] ++ cycles_alone ys
  by true e = ap (λ l. b ∷ l) e
  by false e = e

both_count : (bs : List Breach) → length (but_cycles bs) + length (cycles_alone bs) ≡ length bs
both_count [] = refl
both_count (b ∷ bs) = by (is_cycle b) refl (both_count bs) where
  by : (t : Bool) → is_cycle b ≡ t → length (but_cycles bs) + length (cycles_alone bs) ≡ length bs → length (but_cycles (b ∷ bs)) + length (cycles_alone (b ∷ bs)) ≡ length (b ∷ bs)
  by true e h =
      let l = ap (λ x. length x) (but_more b bs true e) in
      let m = ap (λ x. length x) (alone_more b bs true e) in
      omega (arith, h, l, m)
  by false e h =
      let l = ap (λ x. length x) (but_more b bs false e) in
      let m = ap (λ x. length x) (alone_more b bs false e) in
      omega (arith, h, l, m)

no_length : {X : Type 0} (xs : List X) → length xs ≡ 0 → xs ≡ []
no_length [] h = refl
no_length (x ∷ xs) h = absurd (omega (arith, h))

none_alone : (bs : List Breach) → but_cycles bs ≡ bs → cycles_alone bs ≡ []
none_alone bs h =
    let count = both_count bs in
    let same = ap (λ l. length l) h in
    no_length (cycles_alone bs) (omega (arith, count, same))

body_alone : (s : Scene) (b : Body) → cycles_alone (of_others (breaches_of_body s b)) ≡ cycle_of s b
body_alone s b =
    let c = b.construct in
    let own = broken_in c Rule.NO_TYPE_IN_ITSELF (contains_itself s b) in
    let deep = broken_in c Rule.NESTING (is_deep_body s b) in
    let lacks = broken_in c Rule.CASES (lacks_switch_type c b.body) in
    ap cycles_alone (three_kept c c.at 11 12 23 (contains_itself s b) (is_deep_body s b) (lacks_switch_type c b.body) refl refl refl)
    ∙ alone_append (own ++ deep) lacks
    ∙ ap₂ (λ l m. l ++ m) (alone_append own deep ∙ ap₂ (λ l m. l ++ m) (there (contains_itself s b)) (gone_12 (is_deep_body s b))) (gone_23 (lacks_switch_type c b.body))
    ∙ append-nil (own ++ []) ∙ append-nil own where
      there : (t : Bool) → cycles_alone (broken_in b.construct Rule.NO_TYPE_IN_ITSELF t) ≡ broken_in b.construct Rule.NO_TYPE_IN_ITSELF t
      there true = refl
      there false = refl

      gone_12 : (t : Bool) → cycles_alone (broken_in b.construct Rule.NESTING t) ≡ []
      gone_12 true = refl
      gone_12 false = refl

      gone_23 : (t : Bool) → cycles_alone (broken_in b.construct Rule.CASES t) ≡ []
      gone_23 true = refl
      gone_23 false = refl

cycles_at : (s : Scene) (names : Names) (n : Node) → cycles_alone (of_others (breaches_at s names n)) ≡ flat_map (cycle_of s) (body_by names n)
cycles_at s names (BodyNode c body) =
    let b : Body = record { construct = c; names = names; body = body } in
    body_alone s b ∙ sym (flat_map-cons (cycle_of s) b [] ∙ append-nil (cycle_of s b))
cycles_at s names (HeaderNode c at) = none_alone (of_others (breaches_at s names (HeaderNode c at))) (node_rest s names (HeaderNode c at) refl)
cycles_at s names (AttributeNode c before a) = none_alone (of_others (breaches_at s names (AttributeNode c before a))) (node_rest s names (AttributeNode c before a) refl)
cycles_at s names (SwitchNode c of) = none_alone (of_others (breaches_at s names (SwitchNode c of))) (node_rest s names (SwitchNode c of) refl)
cycles_at s names (TagNode c kind tag) = none_alone (of_others (breaches_at s names (TagNode c kind tag))) (node_rest s names (TagNode c kind tag) refl)
cycles_at s names (EnumeratorNode c name) = none_alone (of_others (breaches_at s names (EnumeratorNode c name))) (node_rest s names (EnumeratorNode c name) refl)
cycles_at s names (LabelNode c body before l) = none_alone (of_others (breaches_at s names (LabelNode c body before l))) (node_rest s names (LabelNode c body before l) refl)
cycles_at s names (EmptyArmNode c) = none_alone (of_others (breaches_at s names (EmptyArmNode c))) (node_rest s names (EmptyArmNode c) refl)
cycles_at s names (DeclaratorNode list index d) = none_alone (of_others (breaches_at s names (DeclaratorNode list index d))) (node_rest s names (DeclaratorNode list index d) refl)
cycles_at s names (ConstantNode c of star value) = none_alone (of_others (breaches_at s names (ConstantNode c of star value))) (node_rest s names (ConstantNode c of star value) refl)
cycles_at s names (TypeNode c of) = none_alone (of_others (breaches_at s names (TypeNode c of))) (node_rest s names (TypeNode c of) refl)
cycles_at s names (OperationNode c name parameters result) =
    none_alone (of_others (breaches_at s names (OperationNode c name parameters result))) (node_rest s names (OperationNode c name parameters result) refl)

all_alone : (s : Scene) (ns : List Scoped) → cycles_alone (flat_map (other_breaches_at s) ns) ≡ flat_map (cycle_of s) (flat_map (λ n. body_by n.names n.node) ns)
all_alone s [] = refl
all_alone s (n ∷ ns) =
    ap cycles_alone (flat_map-cons (other_breaches_at s) n ns)
    ∙ alone_append (other_breaches_at s n) (flat_map (other_breaches_at s) ns)
    ∙ ap₂ (λ l m. l ++ m) (cycles_at s n.names n.node) (all_alone s ns)
    ∙ sym (ap (flat_map (cycle_of s)) (flat_map-cons (λ m. body_by m.names m.node) n ns)
    ∙ flat_map-append (cycle_of s) (body_by n.names n.node) (flat_map (λ m. body_by m.names m.node) ns))

all_rest : (s : Scene) (ns : List Scoped) → but_cycles (flat_map (other_breaches_at s) ns) ≡ rest_breaches s ns
all_rest s [] = refl
all_rest s (n ∷ ns) =
    ap but_cycles (flat_map-cons (other_breaches_at s) n ns)
    ∙ cycles_append (other_breaches_at s n) (flat_map (other_breaches_at s) ns)
    ∙ ap (λ l. but_cycles (other_breaches_at s n) ++ l) (all_rest s ns)
    ∙ sym (flat_map-cons (rest_breaches_at s) n ns)

-- first rule 11, then the rest
pub both_noted : (w : World) (s : Scene) (first second last : Option Breach) → second ≡ noted w first (cycle_breaches s) → last ≡ noted w second (rest_breaches s s.nodes)
    → last ≡ noted w first (other_breaches s)
both_noted w s first second last e f =
    f ∙ ap (λ o. noted w o (rest_breaches s s.nodes)) e
    ∙ ap₂ (λ a b. noted w (noted w first a) b) (sym (all_alone s s.nodes)) (sym (all_rest s s.nodes))
    ∙ sym (cycles_first w first (other_breaches s))
