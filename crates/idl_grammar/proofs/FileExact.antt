-- Files are read exactly.
use Rattle.std.proofs.Common.{◌≡◌, ℕ, ◌+◌, ◌≤◌, true, false, List, [], ◌∷◌, length, refl, sym, subst, arith, inl, inr, Option, Some, None}
use Rattle.idl_grammar.specs.Text.{Text, is_in, Lifted, Rel, located, made, ◌⊗◌, ◌⊳◌, ◌⊲◌, many, bracketed}
use Rattle.idl_grammar.specs.ReadPhrases.{and_then}
use Rattle.idl_grammar.proofs.Exact.{Exact, HasPhrase, pair_exact, turned_exact}
use Rattle.idl_grammar.proofs.Parts.{pair_has, many_has}
use Rattle.idl_grammar.proofs.Sequences.{stops, Begins, subset, disjoint, meets_or, skip_exact, skip_has, skip_begins, end_exact, end_has, located_begins, bracketed_exact, bracketed_has}
use Rattle.idl_grammar.proofs.Sequences.{made_begins, list_exact, list_begins, separated_exact, separated_has, ends_at}
use Rattle.idl_grammar.specs.declared.words.Spelling.{Spelling}
use Rattle.idl_grammar.specs.Symbols as symbol
use Rattle.idl_grammar.specs.Expressions.{names, spelled, ident}
use Rattle.idl_grammar.specs.Tree as tree
use Rattle.idl_grammar.specs.Tree.{Attributes, TypeSpec, Parameters, Export, Import}
use Rattle.idl_grammar.specs.ReadExpressions.{spelled_read, ident_read}
use Rattle.idl_grammar.specs.Grammar.{attributes, export, commas, import, file}
use Rattle.idl_grammar.specs.Reading.{type_firsts, member_firsts, export_read, export_firsts, commas_read, attributes_read, import_of, import_read, imports_read, exports_read, tree_of, file_read}
use Rattle.idl_grammar.proofs.Combine.{changed_exact, spelled_exact, ident_exact, ident_has, either, either_exact, either_begins}
use Rattle.idl_grammar.proofs.AttributeLists.{attributes_exact}
use Rattle.idl_grammar.proofs.ExportsExact.{typedef_line, typedef_of, const_line, const_of, typed_line, typed_line_begins, typed_of, typedef_exact, const_exact, typed_exact}

-- ## declarations

consts_apart : disjoint member_firsts (symbol.Const ∷ []) ≡ true
unfolding member_firsts type_firsts names
consts_apart = refl

typedefs_apart : disjoint (symbol.Const ∷ member_firsts) (symbol.Typedef ∷ []) ≡ true
unfolding member_firsts type_firsts names
typedefs_apart = refl

members_const : subset member_firsts (symbol.Const ∷ member_firsts) ≡ true
unfolding member_firsts type_firsts names
members_const = refl

typedef_first : subset (symbol.Typedef ∷ []) export_firsts ≡ true
unfolding export_firsts
typedef_first = refl

const_first : subset (symbol.Const ∷ member_firsts) export_firsts ≡ true
unfolding export_firsts member_firsts type_firsts names
const_first = refl

exports_real : is_in export_firsts 0 ≡ false
unfolding export_firsts type_firsts names
exports_real = refl

-- what goes on with the declarations of a file
unfoldable pub body_ends : List ℕ
body_ends = symbol.Import ∷ export_firsts

exports_end : subset export_firsts body_ends ≡ true
unfolding body_ends export_firsts type_firsts names
exports_end = refl

import_ends : subset (symbol.Import ∷ []) body_ends ≡ true
unfolding body_ends
import_ends = refl

exports_no_import : disjoint export_firsts (symbol.Import ∷ []) ≡ true
unfolding export_firsts type_firsts names
exports_no_import = refl

body_closes : is_in body_ends symbol.CloseCurly ≡ false
unfolding body_ends export_firsts type_firsts names
body_closes = refl

pub nothing_apart : (xs : List ℕ) → disjoint xs [] ≡ true
nothing_apart [] = refl
nothing_apart (d ∷ ds) = nothing_apart ds

module _ (depth : ℕ) where
  abbrev typedefs : Rel Export
  typedefs = made (typedef_of depth) (located (typedef_line depth))

  abbrev consts : Rel Export
  consts = made (const_of depth) (located (const_line depth))

  abbrev typeds : Rel Export
  typeds = made (typed_of depth) (located (typed_line depth))

  typedefs_begin : Begins typedefs (symbol.Typedef ∷ [])
  typedefs_begin = made_begins (typedef_of depth) (located (typedef_line depth)) (symbol.Typedef ∷ []) (located_begins (typedef_line depth) (symbol.Typedef ∷ []) (skip_begins symbol.Typedef _))

  consts_begin : Begins consts (symbol.Const ∷ [])
  consts_begin = made_begins (const_of depth) (located (const_line depth)) (symbol.Const ∷ []) (located_begins (const_line depth) (symbol.Const ∷ []) (skip_begins symbol.Const _))

  typeds_begin : Begins typeds member_firsts
  typeds_begin = made_begins (typed_of depth) (located (typed_line depth)) member_firsts (located_begins (typed_line depth) member_firsts (typed_line_begins depth))

  others_begin : Begins (either consts typeds) (symbol.Const ∷ member_firsts)
  others_begin = either_begins consts typeds (symbol.Const ∷ []) member_firsts consts_begin typeds_begin consts_apart (symbol.Const ∷ member_firsts) refl members_const

  export_forth : (lifted : Lifted) (x : Text) (i j : ℕ) (c : Export) → either typedefs (either consts typeds) c lifted x i j → export depth c lifted x i j
  unfolding export
  export_forth lifted x i j c (inl ph) = subst (λ (v : Export). export depth v lifted x i j) (sym ph.1) ph.2
  export_forth lifted x i j c (inr (inl ph)) = subst (λ (v : Export). export depth v lifted x i j) (sym ph.1) ph.2
  export_forth lifted x i j c (inr (inr ph)) = subst (λ (v : Export). export depth v lifted x i j) (sym ph.1) (by_case ph.0 ph.2) where
    by_case : (p : ℕ × (Option Attributes × (TypeSpec × Option (Spelling × Parameters)))) → located (typed_line depth) p lifted x i j → export depth (typed_of depth p) lifted x i j
    by_case (at, (a, (type, None))) q = q
    by_case (at, (a, (type, Some s))) q = q

  export_back : (lifted : Lifted) (x : Text) (i j : ℕ) (c : Export) → export depth c lifted x i j → either typedefs (either consts typeds) c lifted x i j
  unfolding export
  export_back lifted x i j (tree.Typedef at a pipe type ds) ph = inl ((at, (a, (pipe, (type, ds)))), refl, ph)
  export_back lifted x i j (tree.Const at type star name value) ph = inr (inl ((at, (type, (star, (name, value)))), refl, ph))
  export_back lifted x i j (tree.Tagged at a type) ph = inr (inr ((at, (a, (type, None))), refl, ph))
  export_back lifted x i j (tree.Operation at a result name ps) ph = inr (inr ((at, (a, (result, Some (name, ps)))), refl, ph))

  export_begins : Begins (export depth) export_firsts
  export_begins lifted x i j c ph =
      either_begins typedefs (either consts typeds) (symbol.Typedef ∷ [])
      (symbol.Const ∷ member_firsts) typedefs_begin others_begin typedefs_apart export_firsts typedef_first const_first lifted x i j c (export_back lifted x i j c ph)

  module _ (fuel nesting : ℕ) (enough : 129 ≤ nesting) (shallow : depth ≤ 64) (fueled : 65 ≤ fuel + depth) (t : Text) where
    pub export_exact : (i : ℕ) → i ≤ length t → Exact (export depth) (stops []) t i (export_read fuel nesting t depth i)
    unfolding export_read
    export_exact i in_text =
        changed_exact (either typedefs (either consts typeds)) (export depth) export_forth (stops []) t i (λ lifted x e c j ph stop. export_back lifted x i j c ph) _
        (either_exact typedefs (either consts typeds) (symbol.Typedef ∷ []) (symbol.Const ∷ member_firsts) typedefs_begin others_begin typedefs_apart (stops []) t i _ _
        (λ h. typedef_exact depth fuel nesting enough shallow fueled t i in_text)
        (either_exact consts typeds (symbol.Const ∷ []) member_firsts consts_begin typeds_begin consts_apart (stops []) t i _ _
        (λ h. const_exact depth fuel nesting enough shallow fueled t i in_text) (typed_exact depth fuel nesting enough shallow fueled t i in_text)))

    exports_exact : (i : ℕ) → i ≤ length t → Exact (many (export depth)) (stops body_ends) t i (exports_read fuel nesting t depth i)
    unfolding exports_read
    exports_exact i in_text =
        list_exact (export depth) export_firsts [] body_ends export_begins exports_real exports_end refl (nothing_apart export_firsts) t i (export_read fuel nesting t depth)
        (λ m based in_m. export_exact m in_m) i (omega arith) in_text

-- ## imports

abbrev import_line : Rel (List Spelling)
import_line = symbol.Import ⊳ (commas (spelled symbol.Quoted) ⊲ symbol.Semicolon)

import_begins : Begins import (symbol.Import ∷ [])
unfolding import
import_begins lifted x i j c ph = skip_begins symbol.Import (commas (spelled symbol.Quoted) ⊲ symbol.Semicolon) lifted x i j c.files ph

quoted_has : HasPhrase (commas (spelled symbol.Quoted))
quoted_has = separated_has symbol.Comma (spelled symbol.Quoted) (Rattle.idl_grammar.proofs.Combine.spelled_has symbol.Quoted refl)

import_exact : (t : Text) (i : ℕ) → i ≤ length t → Exact import (stops []) t i (import_read t i)
unfolding import import_read
import_exact t i in_text =
    turned_exact import_line import import_of (λ lifted x i j a ph. ph) (stops []) t i (λ lifted x e c j ph stop. record { part = c.files; is = refl; phrase = ph }) _
    (skip_exact symbol.Import (commas (spelled symbol.Quoted) ⊲ symbol.Semicolon) (stops []) t i refl in_text (end_has (commas (spelled symbol.Quoted)) symbol.Semicolon refl quoted_has) _
    (λ m after in_m.
    end_exact (commas (spelled symbol.Quoted)) symbol.Semicolon (symbol.Comma ∷ []) (stops []) t m refl refl (commas_read t (spelled_read symbol.Quoted t) m)
    (separated_exact symbol.Comma (spelled symbol.Quoted) [] (symbol.Comma ∷ []) (Rattle.idl_grammar.proofs.Combine.spelled_has symbol.Quoted refl) refl refl refl refl t m
    (spelled_read symbol.Quoted t)
    (λ o based in_o. spelled_exact symbol.Quoted refl (stops []) t o in_o) m (omega arith) in_m)))

imports_exact : (t : Text) (i : ℕ) → i ≤ length t → Exact (many import) (stops (symbol.Import ∷ [])) t i (imports_read t i)
unfolding imports_read
imports_exact t i in_text =
    list_exact import (symbol.Import ∷ []) [] (symbol.Import ∷ []) import_begins refl refl refl refl t i (import_read t) (λ m based in_m. import_exact t m in_m) i (omega arith) in_text

-- ## whole files

abbrev contents : Rel (List Import × List Export)
contents = many import ⊗ many (export 1)

contents_has : HasPhrase contents
contents_has = pair_has _ _ (many_has import) (many_has (export 1))

abbrev interface_body : Rel (List Import × List Export)
interface_body = bracketed 0 symbol.OpenCurly symbol.CloseCurly contents

abbrev interface_tail : Rel (Spelling × (List Import × List Export))
interface_tail = ident false ⊗ interface_body

interface_tail_has : HasPhrase interface_tail
interface_tail_has = pair_has _ _ (ident_has false) (bracketed_has 0 symbol.OpenCurly symbol.CloseCurly contents refl refl contents_has)

abbrev file_parts : Rel (Attributes × (Spelling × (List Import × List Export)))
file_parts = attributes 0 ⊗ (symbol.Interface ⊳ interface_tail)

pub file_exact : (fuel nesting : ℕ) → 129 ≤ nesting → 64 ≤ fuel → (t : Text) (i : ℕ) → i ≤ length t → Exact file (stops []) t i (file_read fuel nesting t i)
unfolding file file_read
file_exact fuel nesting enough fueled t i in_text =
    turned_exact file_parts file tree_of (λ lifted x i j a ph. ph) (stops []) t i
    (λ lifted x e c j ph stop. record { part = (c.attributes, (c.name, (c.imports, c.exports))); is = refl; phrase = ph }) _
    (pair_exact (attributes 0) (symbol.Interface ⊳ interface_tail) (stops []) (stops []) (λ lifted x m j b ph stop. refl) (skip_has symbol.Interface interface_tail refl interface_tail_has) t i
    (attributes_read nesting t 0 i) _ (attributes_exact nesting enough t 0 i in_text)
    (λ a m found.
    skip_exact symbol.Interface interface_tail (stops []) t m refl found.within interface_tail_has _
    (λ o after in_o.
    pair_exact (ident false) interface_body (stops []) (stops []) (λ lifted x m j b ph stop. refl) (bracketed_has 0 symbol.OpenCurly symbol.CloseCurly contents refl refl contents_has) t o
    (ident_read false t o) _ (ident_exact false (stops []) t o in_o)
    (λ name q found_q.
    bracketed_exact 0 symbol.OpenCurly symbol.CloseCurly contents refl refl (stops body_ends) (stops []) t q found_q.within (ends_at symbol.CloseCurly body_ends (stops []) body_closes) contents_has
    (λ r. and_then (imports_read t r) (λ is u. exports_read fuel nesting t 1 u))
    (λ room r past in_r.
    pair_exact (many import) (many (export 1)) (stops (symbol.Import ∷ [])) (stops body_ends)
    (meets_or (many (export 1)) export_firsts (symbol.Import ∷ []) body_ends (list_begins (export 1) export_firsts (export_begins 1)) exports_no_import import_ends) (many_has (export 1)) t r
    (imports_read t r) (λ is u. exports_read fuel nesting t 1 u) (imports_exact t r in_r)
    (λ is u found_u. exports_exact 1 fuel nesting enough (omega arith) (omega arith) t u found_u.within))))))
