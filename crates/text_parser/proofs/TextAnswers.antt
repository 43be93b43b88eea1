-- What `read_text` answers.
use Rattle.std.proofs.Common.{◌≡◌, ℕ, zero, suc, ◌-◌, ◌<◌, ◌≤◌, ◌^◌, Bool, true, false, List, [], ◌∷◌, ◌++◌, length, map, Some, inl, inr, refl, sym, subst, arith}
use Rattle.std.specs.List.{slice_get, list_all, AllByRecursion}
use Rattle.std.proofs.lemmas.Option.{same_Some}
use Rattle.std.proofs.lemmas.Bool.{and_parts, ltb-true}
use Rattle.nd_base.specs.Text.{position_of}
use Rattle.nd_types.specs.declared.types.Operation.{Operation}
use Rattle.nd_types.specs.Table.{Table}
use Rattle.nd_types.specs.Roots.{Root, NamedRoot, named_root}
use Rattle.nd_types.specs.Legal.{is_in_table}
use Rattle.nd_value.specs.declared.value.Graph.{Graph}
use Rattle.nd_value.specs.Tree.{Tree, none, more, node_count, Referent}
use Rattle.nd_value.specs.Setting.{Setting, Among, root_list}
use Rattle.nd_grammar.specs.LegalSide.{IsLegalSide}
use Rattle.text_grammar.specs.declared.fault.TextReason.{TextReason}
use Rattle.text_grammar.specs.declared.fault.TextReason.TheVariants as reason
use Rattle.text_grammar.specs.declared.fault.TextFault.{TextFault}
use Rattle.text_grammar.specs.declared.fault.TextFault.TheVariants as fault
use Rattle.text_grammar.specs.declared.TheConstants.{TEXT_LIMIT}
use Rattle.text_grammar.specs.Tokens.{Token, cutting}
use Rattle.text_grammar.specs.Reads.{ReadsAs, IsFault, IsFirstFault, IsTextFault}
use Rattle.text_grammar.specs.Dues.{Reading, nothing_read, may_end}
use Rattle.text_grammar.specs.Reader.{Ending, Whole, Stopped, ComesTo, goes_on, refused, no_token, ended}
use Rattle.text_grammar.proofs.Runs.{skip_less}
use Rattle.text_grammar.proofs.OneText.{cut_less, never_both}
use Rattle.text_grammar.proofs.Faults.{legal_roots}
use Rattle.text_grammar.proofs.Stated.{one_graph, first_fault}
use Rattle.text_parser.specs.declared.stop.Stop.{Stop}
use Rattle.text_parser.specs.declared.stop.Stop.TheVariants as stop
use Rattle.text_parser.specs.Lines.{Refuses, left_by, fault_by}

-- ## How much is left

abbrev left_of : Ending → ℕ
left_of (Whole x) = 0
left_of (Stopped left why) = left

comes_within : (table : Table) (x : Reading) (before : List Token) (text : List ℕ) (e : Ending) → ComesTo table x before text e → left_of e ≤ length text
comes_within table x before text e (goes_on y t rest c n later) = omega (arith, cut_less (cutting before) text t rest c, comes_within table y (t ∷ before) rest e later)
comes_within table x before text e (refused t rest why c n) = skip_less text
comes_within table x before text e (no_token n) = skip_less text
comes_within table x before text e (ended n) = by (may_end x) where
  by : (b : Bool) → left_of (elim b [ true ↦ Whole x | false ↦ Stopped 0 reason.Expected ]) ≤ length text
  by true = omega arith
  by false = omega arith

pub left_within : (table : Table) (x : Reading) (text : List ℕ) (e : Stop) → Refuses table x text e → left_by e ≤ length text
left_within table x text stop.Memory r = omega arith
left_within table x text (stop.At left why) r = comes_within table x [] text (Stopped left why) r

-- ## Sides

among_at : {X : Type 0} (xs : List X) (n : ℕ) (x : X) → slice_get xs n ≡ Some x → Among xs x
among_at [] n x e = cc
among_at (y ∷ xs) zero x e = inl (sym (same_Some _ _ e))
among_at (y ∷ xs) (suc n) x e = inr (among_at xs n x e)

known_at : (table : Table) (o : Operation) (rs : List Root) (n : ℕ) (r : NamedRoot) → list_all (λ (r : Root). is_in_table table r.of) rs ≡ true → slice_get (map (named_root o) rs) n ≡ Some r
    → r.of < length table
known_at table o [] n r h e = cc
known_at table o (x ∷ rs) zero r h e =
    let p = and_parts (is_in_table table x.of) (list_all (λ (r : Root). is_in_table table r.of) rs) h in
    subst (λ (y : NamedRoot). y.of < length table) (same_Some _ _ e) (ltb-true x.of (length table) p.0)
known_at table o (x ∷ rs) (suc n) r h e = known_at table o rs n r (and_parts (is_in_table table x.of) (list_all (λ (r : Root). is_in_table table r.of) rs) h).1 e

-- the type of a root is one of the table
pub root_known : (w : Setting) → IsLegalSide w → (n : ℕ) (r : NamedRoot) → slice_get (map (named_root w.op) (root_list w)) n ≡ Some r → r.of < length w.table
root_known w side n r e = known_at w.table w.op (root_list w) n r (legal_roots w side) e

-- ## Answers

module _ (w : Setting) (side : IsLegalSide w) (text : List ℕ) (short : length text ≤ TEXT_LIMIT) where
  at : (left : ℕ) (why : TextReason) → IsFirstFault w text (length text - left) why → IsTextFault w text (position_of text (length text - left)).0 (position_of text (length text - left)).1 why
  at left reason.TooLong f = absurd f.reason
  at left reason.BadToken f = (length text - left, f, refl)
  at left reason.Expected f = (length text - left, f, refl)
  at left reason.OtherName f = (length text - left, f, refl)
  at left reason.OutOfOrder f = (length text - left, f, refl)
  at left reason.Unnamed f = (length text - left, f, refl)

  pub is_refused : (e : Stop) → Refuses w.table (nothing_read w) text e → IsFault w text (fault_by text e)
  is_refused stop.Memory r = tt
  is_refused (stop.At left why) r = at left why (first_fault w text left why side short r)

  pub only_graph : (g h : Graph) → ReadsAs w text g → ReadsAs w text h → g ≡ h
  only_graph g h a b = one_graph w text g h side a b

-- of a text that is read as a graph there is no fault
pub only_memory : (w : Setting) (text : List ℕ) (g : Graph) (e : TextFault) → ReadsAs w text g → IsFault w text e → e ≡ fault.Memory
only_memory w text g fault.Memory r f = refl
only_memory w text g (fault.At line column why) r f = absurd (never_both w text g line column why r f)

-- ## Few nodes

pub all_as : {A : Type 0} (P Q : A → Type 0) → ((x : A) → P x → Q x) → (xs : List A) → AllByRecursion P xs → AllByRecursion Q xs
all_as P Q f [] a = tt
all_as P Q f (x ∷ xs) a = (f x a.0, all_as P Q f xs a.1)

pub all_of_both : {A : Type 0} (P : A → Type 0) (xs ys : List A) → AllByRecursion P xs → AllByRecursion P ys → AllByRecursion P (xs ++ ys)
all_of_both P [] ys a b = b
all_of_both P (x ∷ xs) ys a b = (a.0, all_of_both P xs ys a.1 b)

few_of : (n : ℕ) → n ≤ TEXT_LIMIT → (vals : List Tree) → AllByRecursion (λ t. node_count (more t none) ≤ n) vals → AllByRecursion (λ t. node_count (more t none) < 2 ^ 32) vals
few_of n short vals a = all_as (λ t. node_count (more t none) ≤ n) (λ t. node_count (more t none) < 2 ^ 32) (λ t h. omega (arith, h, short)) vals a

pub few_nodes : (m n : ℕ) → m ≤ TEXT_LIMIT → n ≤ TEXT_LIMIT → (vals : List Tree) (cells : List Referent) → AllByRecursion (λ t. node_count (more t none) ≤ m) vals
    → AllByRecursion (λ t. node_count (more t none) ≤ n) (map (λ (c : Referent). c.val) cells) → AllByRecursion (λ t. node_count (more t none) < 2 ^ 32) (vals ++ map (λ (c : Referent). c.val) cells)
few_nodes m n sm sn vals cells a b =
    all_of_both (λ t. node_count (more t none) < 2 ^ 32) vals (map (λ (c : Referent). c.val) cells) (few_of m sm vals a) (few_of n sn (map (λ (c : Referent). c.val) cells) b)
