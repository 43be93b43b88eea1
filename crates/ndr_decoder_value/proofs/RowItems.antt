-- Items of rows of numbers, noted one after the other.
-- `o` is an order, `p` a primitive, `h` a home, `os` are octets, `n`, `k`, `i` numbers of numbers, `g` is a log.
use Rattle.std.proofs.Common.{◌≡◌, ℕ, ◌+◌, ◌-◌, ◌*◌, zero, suc, ℤ, Bool, true, false, List, [], ◌∷◌, ◌++◌, length, take, drop, refl, sym, ap, ap₂, ◌∙◌, arith, length-append}
use Rattle.std.proofs.lemmas.List.{drop-drop}
use Rattle.nd_base.specs.declared.octets.Order.{Order}
use Rattle.nd_types.specs.declared.types.Primitive.{Primitive}
use Rattle.nd_types.specs.Number.{value_of_octets}
use Rattle.nd_types.specs.Table.{width}
use Rattle.nd_value.specs.Logged.{Logged, noted, noted_by}
use Rattle.nd_value.specs.declared.item.Home.{Home}
use Rattle.nd_value.specs.declared.item.Item.{Item}
use Rattle.nd_value.specs.declared.item.ItemKind.TheVariants as item
use Rattle.ndr_decoder_laws.specs.steps.Steps.{State}
use Rattle.ndr_decoder_laws.specs.steps.StepItems.{item_here}
use Rattle.ndr_decoder_laws.specs.runs.Rows.{row_items}
use Rattle.ndr_decoder_state.specs.Notes.{all_noted, number_ahead}

-- ## Logs

pub all_noted_more : (xs : List Item) (x : Item) (g : Logged) → all_noted (xs ++ x ∷ []) g ≡ noted x (all_noted xs g)
all_noted_more [] x g = refl
all_noted_more (y ∷ ys) x g = all_noted_more ys x (noted y g)

abbrev with_keeps : Bool → Logged → Logged
with_keeps b g = record { keeps = b; items = g.items }

-- a log that keeps nothing stays as it is
pub nothing_kept : (xs : List Item) (g : Logged) → g.keeps ≡ false → all_noted xs g ≡ g
nothing_kept [] g e = refl
nothing_kept (x ∷ xs) g e =
    let same : noted x g ≡ g = ap (λ (b : Bool). noted_by b x g.items) e ∙ ap (λ (b : Bool). with_keeps b g) (sym e) in
    ap (all_noted xs) same ∙ nothing_kept xs g e

keeps_by : (b : Bool) (x : Item) (xs : List Item) → length (noted_by b x xs).items ≡ length xs → b ≡ false
keeps_by true x xs e = absurd (omega (arith, e, length-append xs (x ∷ [])))
keeps_by false x xs e = refl

-- a log that is as long after an item as before keeps nothing
pub keeps_nothing : (x : Item) (g : Logged) → length (noted x g).items ≡ length g.items → g.keeps ≡ false
keeps_nothing x g e = keeps_by g.keeps x g.items e

-- ## The items of a row

module _ (o : Order) (p : Primitive) (h : Home) where
  abbrev pub number_item : ℕ → ℕ → List ℕ → Item
  number_item at node os = item_here h at item.Num (width p) (value_of_octets o p (take (width p) os)) node

  -- one more
  pub row_items_more : (at node k : ℕ) (os : List ℕ)
      → row_items o p h at node (suc k) os ≡ row_items o p h at node k os ++ number_item (at + k * width p) (node + k) (drop (k * width p) os) ∷ []
  row_items_more at node zero os =
      let a : at ≡ at + 0 * width p = omega arith in
      let j : node ≡ node + 0 = omega arith in
      let d : 0 ≡ 0 * width p = omega arith in
      ap (λ x. x ∷ []) (ap₂ (λ x y. number_item x y os) a j ∙ ap (λ i. number_item (at + 0 * width p) (node + 0) (drop i os)) d)
  row_items_more at node (suc k) os =
      let a : at + width p + k * width p ≡ at + suc k * width p = omega arith in
      let j : node + 1 + k ≡ node + suc k = omega arith in
      let d : width p + k * width p ≡ suc k * width p = omega arith in
      let first : List Item = row_items o p h (at + width p) (node + 1) k (drop (width p) os) in
      ap (λ xs. number_item at node os ∷ xs)
      (row_items_more (at + width p) (node + 1) k (drop (width p) os)
      ∙ ap (λ i. first ++ number_item (at + width p + k * width p) (node + 1 + k) i ∷ []) (drop-drop (k * width p) (width p) os ∙ ap (λ i. drop i os) d)
      ∙ ap₂ (λ x y. first ++ number_item x y (drop (suc k * width p) os) ∷ []) a j)

  -- ## So many of them noted

  module _ (at node : ℕ) (os : List ℕ) where
    -- the first ones were noted and counted
    pub record IsRowNoted (i : ℕ) (log log' : Logged) (steps steps' : ℕ) : Type 0 where
      pub log_is : log' ≡ all_noted (row_items o p h at node i os) log
      pub steps_are : steps' ≡ steps + i

    pub row_begins : (log : Logged) (steps : ℕ) → IsRowNoted 0 log log steps steps
    row_begins log steps = record { log_is = refl; steps_are = omega arith }

    -- one more, as the code reads it
    pub number_noted : (s : State) (i wide to : ℕ) (z z' : ℤ) (log log' log'' : Logged) (steps steps' steps'' : ℕ) → s.at ≡ at → length s.nodes ≡ node → wide ≡ width p
        → to ≡ i * wide + wide → z ≡ value_of_octets o p (take (to - i * wide) (drop (i * wide) os)) → z' ≡ z → log'' ≡ noted (number_ahead h s i wide z') log'
        → steps'' ≡ steps' + 1 → IsRowNoted i log log' steps steps' → IsRowNoted (i + 1) log log'' steps steps''
    number_noted s i wide to z z' log log' log'' steps steps' steps'' ea en ew et ez ez' el es n = record {
      log_is =
          let k : to - i * wide ≡ width p = omega (arith, et, ew) in
          let d : i * wide ≡ i * width p = ap (λ w. i * w) ew in
          let value : z' ≡ value_of_octets o p (take (width p) (drop (i * width p) os)) =
          ez' ∙ ez ∙ ap₂ (λ x y. value_of_octets o p (take x (drop y os))) k d in
          let here : number_ahead h s i wide z' ≡ number_item (at + i * width p) (node + i) (drop (i * width p) os) =
          ap₂ (λ x y. item_here h (x + i * wide) item.Num wide z' (y + i)) ea en
          ∙ ap₂ (λ w z. item_here h (at + i * w) item.Num w z (node + i)) ew value in
          let one : suc i ≡ i + 1 = omega arith in
          el ∙ ap₂ noted here n.log_is ∙ sym (all_noted_more (row_items o p h at node i os) (number_item (at + i * width p) (node + i) (drop (i * width p) os)) log)
          ∙ ap (λ xs. all_noted xs log) (sym (row_items_more at node i os)) ∙ ap (λ j. all_noted (row_items o p h at node j os) log) one;
      steps_are = let e = n.steps_are in omega (arith, e, es);
    }

    -- the first one, as the code reads it
    pub first_noted : (s : State) (wide : ℕ) (z z' : ℤ) (log log' : Logged) (steps steps' : ℕ) → s.at ≡ at → length s.nodes ≡ node → wide ≡ width p
        → z ≡ value_of_octets o p (take wide os) → z' ≡ z → log' ≡ noted (number_ahead h s 0 wide z') log → steps' ≡ steps + 1 → IsRowNoted 1 log log' steps steps'
    first_noted s wide z z' log log' steps steps' ea en ew ez ez' el es =
        let size : wide ≡ wide - 0 * wide = omega arith in
        let from : 0 ≡ 0 * wide = omega arith in
        number_noted s 0 wide wide z z' log log log' steps steps steps' ea en ew (omega arith)
        (ez ∙ ap₂ (λ (x y : ℕ). value_of_octets o p (take x (drop y os))) size from) ez' el es (row_begins log steps)

    -- all of them
    pub row_noted : (i n : ℕ) (log log' : Logged) (steps steps' : ℕ) → i ≡ n → IsRowNoted i log log' steps steps'
        → (log' ≡ all_noted (row_items o p h at node n os) log) × (steps' ≡ steps + n)
    row_noted i n log log' steps steps' e r =
        (r.log_is ∙ ap (λ j. all_noted (row_items o p h at node j os) log) e, let s = r.steps_are in omega (arith, s, e))

    -- nothing is kept, and the others are counted
    pub row_counted : (n more : ℕ) (log log' : Logged) (steps steps' steps'' : ℕ) → n ≡ more + 1 → length log'.items ≡ length log.items
        → steps'' ≡ steps' + more → IsRowNoted 1 log log' steps steps' → IsRowNoted n log log' steps steps''
    row_counted n more log log' steps steps' steps'' en el es r =
        let x : Item = number_item at node os in
        let keeps : log.keeps ≡ false = keeps_nothing x log (ap (λ (g : Logged). length g.items) (sym r.log_is) ∙ el) in
        let all : (xs : List Item) → all_noted xs log ≡ log = λ xs. nothing_kept xs log keeps in
        record {
          log_is = r.log_is ∙ all (row_items o p h at node 1 os) ∙ sym (all (row_items o p h at node n os));
          steps_are = let s = r.steps_are in omega (arith, s, es, en);
        }
