-- No phrase holds a word that is banned anywhere, and none is refused for its depth.
use Rattle.std.proofs.Common.{◌≡◌, ℕ, ◌+◌, ◌<◌, ◌≤◌, Bool, true, false, leb, List, [], ◌∷◌, length, refl, arith, eq-eqb, inl, inr, Option, Some, None, Err}
use Rattle.std.proofs.Math.Decide.{dec_lt}
use Rattle.nd_lemmas.proofs.Booleans.{clash}
use Rattle.idl_grammar.specs.Text.{Lexeme, Text, Phrase, Rel, Lifted, Depth, Ban, symbol_at, is, is_in, nothing, never, mark, token, unless, optional, many, located, bracketed, many_brackets, ◌▹◌}
use Rattle.idl_grammar.specs.Text.{◌⊗◌}
use Rattle.idl_grammar.specs.ReadPhrases.{Passes, to_unit}
use Rattle.idl_grammar.specs.Answers.{derives, limits_before_but, all_but, is_banned}
use Rattle.idl_grammar.specs.declared.words.Spelling.{Spelling}
use Rattle.idl_grammar.specs.Symbols as symbol
use Rattle.idl_grammar.specs.Expressions.{spelling, spelled}
use Rattle.idl_grammar.specs.Grammar.{begins_at, in_round, commas, is_banned_attribute}
use Rattle.acf_reader.specs.declared.tree.HandleType.{HandleType}
use Rattle.acf_reader.specs.declared.tree.HandleType.TheVariants as handle
use Rattle.acf_reader.specs.declared.tree.AttributeKind.{AttributeKind}
use Rattle.acf_reader.specs.declared.tree.AttributeKind.TheVariants as kind
use Rattle.acf_reader.specs.declared.tree.Attribute.{Attribute}
use Rattle.acf_reader.specs.Symbols as word
use Rattle.acf_reader.specs.Symbols.{names}
use Rattle.acf_reader.specs.Grammar as tree
use Rattle.acf_reader.specs.Grammar.{Attributes, Parameter, BodyElement, Acf, ident, handle_type, attribute_kind, attribute, attributes, parameter, parameters, body_element, acf}
use Rattle.acf_reader.specs.Answers.{IsAnswer}
use Rattle.idl_grammar.proofs.Clean.{one_place, unbanned}

pub record Harmless (p : Phrase) : Type 0 where
  -- no token is a word that is banned anywhere
  pub clean : (lifted : Lifted) (x : Text) (i j : ℕ) → p lifted x i j → (k : ℕ) → i ≤ k → k < j → is_banned x k ≡ false
  -- what is a phrase with all bans is one with any limits
  pub shallow : (lifted other : Lifted) → ((k : ℕ) → lifted Ban k ≡ false) → (x : Text) (i j : ℕ) → p lifted x i j → p other x i j

-- ## the parts of phrases

token_is : {A : Type 0} (f : ℕ → Bool) → f symbol.Banned ≡ false → (see : Lexeme → A) (a : A) → Harmless (token (λ l. f l.symbol) see a)
token_is f other see a = record {
  clean = λ lifted x i j ph k from to. one_place x i j k ph.2 (unbanned f other x i ph.0) from to;
  shallow = λ lifted others bans x i j ph. ph;
}

mark_is : (s : ℕ) → is symbol.Banned s ≡ false → Harmless (mark s)
mark_is s other = record {
  clean = λ lifted x i j ph k from to. one_place x i j k ph.1 (unbanned (λ c. is c s) other x i (eq-eqb (symbol_at x i) s ph.0)) from to;
  shallow = λ lifted others bans x i j ph. ph;
}

nothing_is : Harmless nothing
nothing_is = record {
  clean = λ lifted x i j ph k from to. absurd (let e : j ≡ i = ph in omega arith);
  shallow = λ lifted others bans x i j ph. ph;
}

never_is : Harmless never
never_is = record { clean = λ lifted x i j ph k from to. absurd ph; shallow = λ lifted others bans x i j ph. ph }

then_is : {p q : Phrase} → Harmless p → Harmless q → Harmless (p ▹ q)
then_is c d = record {
  clean = λ lifted x i j ph k from to. elim (dec_lt k ph.0) as (λ _. is_banned x k ≡ false) [
    | yes lt ↦ c.clean lifted x i ph.0 ph.1 k from lt
    | no ge ↦ d.clean lifted x ph.0 j ph.2 k (omega arith) to
  ];
  shallow = λ lifted others bans x i j ph. (ph.0, c.shallow lifted others bans x i ph.0 ph.1, d.shallow lifted others bans x ph.0 j ph.2);
}

-- brackets are few
few_is : {p : Phrase} (depth : ℕ) → leb 64 depth ≡ false → Harmless p → Harmless (unless Depth (many_brackets depth) p)
few_is depth low c = record {
  clean = λ lifted x i j ph k from to. c.clean lifted x i j ph.1 k from to;
  shallow = λ lifted others bans x i j ph. (inr low, c.shallow lifted others bans x i j ph.1);
}

ban_is : {p : Phrase} (refused : Text → ℕ → Bool) → Harmless p → Harmless (unless Ban refused p)
ban_is refused c = record {
  clean = λ lifted x i j ph k from to. c.clean lifted x i j ph.1 k from to;
  shallow = λ lifted others bans x i j ph. (elim ph.0 [ inl free ↦ clash (lifted Ban i) free (bans i) | inr stands ↦ inr stands ], c.shallow lifted others bans x i j ph.1);
}

at_is : {p : Phrase} (at : ℕ) → Harmless p → Harmless (begins_at at p)
at_is at c = record {
  clean = λ lifted x i j ph k from to. c.clean lifted x i j ph.1 k from to;
  shallow = λ lifted others bans x i j ph. (ph.0, c.shallow lifted others bans x i j ph.1);
}

located_is : {A : Type 0} (P : Rel A) → ((a : A) → Harmless (P a)) → (c : ℕ × A) → Harmless (located P c)
located_is P each c = record {
  clean = λ lifted x i j ph k from to. (each c.1).clean lifted x i j ph.1 k from to;
  shallow = λ lifted others bans x i j ph. (ph.0, (each c.1).shallow lifted others bans x i j ph.1);
}

optional_is : {A : Type 0} (P : Rel A) → ((a : A) → Harmless (P a)) → (a : Option A) → Harmless (optional P a)
optional_is P each None = nothing_is
optional_is P each (Some a) = each a

many_is : {A : Type 0} (P : Rel A) → ((a : A) → Harmless (P a)) → (list : List A) → Harmless (many P list)
many_is P each [] = nothing_is
many_is P each (a ∷ others) = then_is (each a) (many_is P each others)

commas_is : {A : Type 0} (P : Rel A) → ((a : A) → Harmless (P a)) → (list : List A) → Harmless (commas P list)
commas_is P each [] = never_is
commas_is P each (a ∷ others) = then_is (each a) (many_is (λ a. mark symbol.Comma ▹ P a) (λ a. then_is (mark_is symbol.Comma refl) (each a)) others)

bracketed_is : {A : Type 0} (depth o c : ℕ) → leb 64 depth ≡ false → is symbol.Banned o ≡ false → is symbol.Banned c ≡ false → (P : Rel A) → ((a : A) → Harmless (P a)) → (a : A)
    → Harmless (bracketed depth o c P a)
bracketed_is depth o c low first last P each a = then_is (few_is depth low (mark_is o first)) (then_is (each a) (mark_is c last))

round_is : {A : Type 0} (depth : ℕ) → leb 64 depth ≡ false → (P : Rel A) → ((a : A) → Harmless (P a)) → (a : A) → Harmless (in_round depth P a)
round_is depth low P each a = bracketed_is depth symbol.OpenRound symbol.CloseRound low refl refl P each a

-- ## the grammar

not_named : (inside : Bool) → is_in (names inside) symbol.Banned ≡ false
unfolding names
not_named true = refl
not_named false = refl

ident_is : (inside : Bool) (a : Spelling) → Harmless (ident inside a)
ident_is inside a = token_is (λ c. is_in (names inside) c) (not_named inside) spelling a

quoted_is : (a : Spelling) → Harmless (spelled symbol.Quoted a)
quoted_is a = token_is (λ c. is c symbol.Quoted) refl spelling a

handle_is : (c : HandleType) → Harmless (handle_type c)
unfolding handle_type
handle_is handle.Handle = mark_is symbol.HandleT refl
handle_is (handle.Name n) = ident_is true n

kind_is : (depth : ℕ) → leb 64 depth ≡ false → (k : AttributeKind) → Harmless (attribute_kind depth k)
unfolding attribute_kind
kind_is depth low kind.AutoHandle = mark_is word.AutoHandle refl
kind_is depth low kind.ExplicitHandle = mark_is word.ExplicitHandle refl
kind_is depth low (kind.ImplicitHandle of name) =
    then_is (mark_is word.ImplicitHandle refl) (round_is depth low (handle_type ⊗ ident true) (λ (p : HandleType × Spelling). then_is (handle_is p.0) (ident_is true p.1)) (of, name))
kind_is depth low kind.Code = ban_is is_banned_attribute (token_is (λ s. is_in (word.Code ∷ symbol.BannedAttribute ∷ []) s) refl to_unit tt)
kind_is depth low kind.NoCode = mark_is word.NoCode refl
kind_is depth low kind.InLine = mark_is word.InLine refl
kind_is depth low kind.OutOfLine = mark_is word.OutOfLine refl
kind_is depth low kind.EnableAllocate = mark_is word.EnableAllocate refl
kind_is depth low kind.Heap = mark_is word.Heap refl
kind_is depth low kind.CommStatus = mark_is word.CommStatus refl
kind_is depth low kind.FaultStatus = mark_is word.FaultStatus refl

attribute_is : (depth : ℕ) → leb 64 depth ≡ false → (a : Attribute) → Harmless (attribute depth a)
unfolding attribute
attribute_is depth low a = located_is (attribute_kind depth) (kind_is depth low) (a.at, a.kind)

attributes_is : (depth : ℕ) → leb 64 depth ≡ false → leb 64 (depth + 1) ≡ false → (a : Attributes) → Harmless (attributes depth a)
unfolding attributes
attributes_is depth low inner a =
    located_is _ (bracketed_is depth symbol.OpenSquare symbol.CloseSquare low refl refl (commas (attribute (depth + 1))) (commas_is (attribute (depth + 1)) (attribute_is (depth + 1) inner)))
    (a.at, a.list)

maybe_is : (depth : ℕ) → leb 64 depth ≡ false → leb 64 (depth + 1) ≡ false → (a : Option Attributes) → Harmless (optional (attributes depth) a)
maybe_is depth low inner a = optional_is (attributes depth) (attributes_is depth low inner) a

parameter_is : (p : Parameter) → Harmless (parameter 2 p)
unfolding parameter
parameter_is p = at_is p.at (then_is (maybe_is 2 refl refl p.attributes) (ident_is false p.name))

parameters_is : (ps : List Parameter) → Harmless (parameters 2 ps)
unfolding parameters
parameters_is [] = nothing_is
parameters_is (p ∷ others) = commas_is (parameter 2) parameter_is (p ∷ others)

element_is : (c : BodyElement) → Harmless (body_element 1 c)
unfolding body_element
element_is (tree.Include at files) = at_is at (then_is (mark_is word.Include refl) (then_is (commas_is (spelled symbol.Quoted) quoted_is files) (mark_is symbol.Semicolon refl)))
element_is (tree.Types at a list) =
    at_is at (then_is (mark_is symbol.Typedef refl) (then_is (attributes_is 1 refl refl a) (then_is (commas_is (ident false) (ident_is false) list) (mark_is symbol.Semicolon refl))))
element_is (tree.Operation at a name ps) =
    at_is at (then_is (maybe_is 1 refl refl a) (then_is (ident_is false name) (then_is (round_is 1 refl (parameters 2) parameters_is ps) (mark_is symbol.Semicolon refl))))

acf_is : (f : Acf) → Harmless (acf f)
unfolding acf
acf_is f =
    at_is f.at
    (then_is (maybe_is 0 refl refl f.attributes)
    (then_is (mark_is symbol.Interface refl)
    (then_is (ident_is false f.name) (bracketed_is 0 symbol.OpenCurly symbol.CloseCurly refl refl refl (many (body_element 1)) (many_is (body_element 1) element_is) f.body))))

-- ## the laws

pub no_banned_word : (lifted : Lifted) (f : Acf) (x : Text) → derives acf lifted f x → (k : ℕ) → k < length x → is_banned x k ≡ false
no_banned_word lifted f x d k lt = (acf_is f).clean lifted x 0 (length x) d k (omega arith) lt

pub never_deep : (t : Text) (k : ℕ) → IsAnswer t (Err (Passes Depth k)) → ⊥
never_deep t k r = r.none r.some.0 r.some.1 r.some.2 ((acf_is r.some.1).shallow (limits_before_but Depth k) (all_but Depth k) (λ i. refl) r.some.0 0 (length r.some.0) r.some.3)
