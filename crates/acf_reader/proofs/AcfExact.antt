-- Whole files are read exactly.
use Rattle.std.proofs.Common.{ℕ, ◌≤◌, false, List, [], ◌∷◌, length, refl, Option}
use Rattle.idl_grammar.specs.Text.{Text, Rel, many, optional, located, bracketed, ◌⊗◌, ◌⊳◌}
use Rattle.idl_grammar.proofs.Exact.{Exact, HasPhrase, pair_exact, turned_exact}
use Rattle.idl_grammar.proofs.Parts.{pair_has, many_has}
use Rattle.idl_grammar.proofs.Sequences.{stops, Begins, meets_first, ends_at, skip_exact, skip_has, skip_begins, or_pair_begins, located_exact, bracketed_exact, bracketed_has}
use Rattle.idl_grammar.specs.declared.words.Spelling.{Spelling}
use Rattle.idl_grammar.specs.Symbols as symbol
use Rattle.acf_reader.specs.Grammar.{Attributes, BodyElement, ident, attributes, body_element, acf}
use Rattle.acf_reader.specs.Reading.{ident_read, maybe_attributes_read, element_firsts, body_read, acf_of, acf_read}
use Rattle.acf_reader.proofs.NamesExact.{ident_exact, ident_has}
use Rattle.acf_reader.proofs.AttributesExact.{maybe_attributes_exact, maybe_attributes_begin}
use Rattle.acf_reader.proofs.BodyExact.{elements_close, body_exact}

abbrev body : Rel (List BodyElement)
body = bracketed 0 symbol.OpenCurly symbol.CloseCurly (many (body_element 1))

body_has : HasPhrase body
body_has = bracketed_has 0 symbol.OpenCurly symbol.CloseCurly (many (body_element 1)) refl refl (many_has (body_element 1))

abbrev tail : Rel (Spelling × List BodyElement)
tail = ident false ⊗ body

tail_has : HasPhrase tail
tail_has = pair_has (ident false) body (ident_has false) body_has

abbrev interface : Rel (Spelling × List BodyElement)
interface = symbol.Interface ⊳ tail

interface_has : HasPhrase interface
interface_has = skip_has symbol.Interface tail refl tail_has

abbrev parts : Rel (Option Attributes × (Spelling × List BodyElement))
parts = optional (attributes 0) ⊗ interface

abbrev firsts : List ℕ
firsts = symbol.OpenSquare ∷ symbol.Interface ∷ []

parts_begin : Begins parts firsts
parts_begin =
    or_pair_begins (optional (attributes 0)) interface (symbol.OpenSquare ∷ []) (symbol.Interface ∷ []) firsts (maybe_attributes_begin 0) (skip_begins symbol.Interface tail) refl refl

pub acf_exact : (t : Text) (i : ℕ) → i ≤ length t → Exact acf (stops []) t i (acf_read t i)
unfolding acf acf_read
acf_exact t i in_text =
    turned_exact (located parts) acf acf_of (λ lifted x i j a ph. ph) (stops []) t i
    (λ lifted x e c j ph stop. record { part = (c.at, (c.attributes, (c.name, c.body))); is = refl; phrase = ph }) _
    (located_exact parts firsts (stops []) t i parts_begin refl _
    (pair_exact (optional (attributes 0)) interface (stops (symbol.OpenSquare ∷ [])) (stops [])
    (meets_first interface (symbol.Interface ∷ []) (symbol.OpenSquare ∷ []) (stops []) (skip_begins symbol.Interface tail) refl) interface_has t i
    (maybe_attributes_read t 0 i) _ (maybe_attributes_exact t 0 i in_text)
    (λ a m found.
    skip_exact symbol.Interface tail (stops []) t m refl found.within tail_has _
    (λ o after in_o.
    pair_exact (ident false) body (stops []) (stops []) (λ lifted x m j b ph stop. refl) body_has t o (ident_read false t o) _ (ident_exact false (stops []) t o in_o)
    (λ name q found_q.
    bracketed_exact 0 symbol.OpenCurly symbol.CloseCurly (many (body_element 1)) refl refl (stops element_firsts) (stops []) t q found_q.within
    (ends_at symbol.CloseCurly element_firsts (stops []) elements_close) (many_has (body_element 1)) (body_read t 1)
    (λ room r past in_r. body_exact 1 t r in_r))))))
