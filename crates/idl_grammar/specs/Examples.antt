-- Texts and what is answered on their tokens.
use Rattle.std.specs.Prelude.{ℕ, true, false, List, [], ◌∷◌, ◌++◌, Some, None, codes}
use Rattle.idl_lexer.specs.declared.tokens.TokenKind.{TokenKind}
use Rattle.idl_lexer.specs.declared.tokens.TokenKind.TheVariants as token
use Rattle.idl_lexer.specs.declared.tokens.Token.{Token}
use Rattle.idl_lexer.specs.Verdict.{Lexed}
use Rattle.idl_grammar.specs.declared.words.Spelling.{Spelling}
use Rattle.idl_grammar.specs.declared.expressions.BinaryOperator.TheVariants as binary
use Rattle.idl_grammar.specs.declared.expressions.Operand.TheVariants as operand
use Rattle.idl_grammar.specs.declared.attributes.PointerClass.TheVariants as class
use Rattle.idl_grammar.specs.declared.attributes.VariableWord.TheVariants as variable
use Rattle.idl_grammar.specs.declared.types.Width.TheVariants as widths
use Rattle.idl_grammar.specs.declared.types.IntegerType.TheVariants as integers
use Rattle.idl_grammar.specs.declared.types.SimpleType.TheVariants as types
use Rattle.idl_grammar.specs.declared.types.SwitchType.TheVariants as switches
use Rattle.idl_grammar.specs.Tree as tree
use Rattle.idl_grammar.specs.Tree.{Tree}

abbrev piece : TokenKind → ℕ → ℕ → Token
piece kind from to = record { kind = kind; from = from; to = to }

abbrev spelled_at : ℕ → List ℕ → Spelling
spelled_at at octets = record { at = at; octets = octets }

-- a file with one or two declarations of each form
abbrev pub small_file : Lexed
small_file = record {
  text =
      codes "[uuid(00112233-4455-6677-8899-aabbccddeeff), version(1.0), pointer_default(ptr)] interface a {   import \"b.idl\";   "
      ++ codes "const long N = 2 + 3 * 4;   typedef enum { X, Y = 'y' } e;   typedef [string] char *text[];   "
      ++ codes "struct s { long n; [size_is(n)] unsigned small data[*]; };   "
      ++ codes "typedef union switch (e k) u { case 1: default: byte b; case X: ; } v;   hyper int f(void);   "
      ++ codes "void put([in] handle_t h, [out, ref] long *p); }";
  tokens =
      piece token.Mark 0 1 ∷ piece token.Word 1 5 ∷ piece token.Mark 5 6 ∷ piece token.Uuid 6 42 ∷ piece token.Mark 42 43 ∷ piece token.Mark 43 44 ∷
      piece token.Word 45 52 ∷ piece token.Mark 52 53 ∷ piece token.Number 53 54 ∷ piece token.Mark 54 55 ∷ piece token.Number 55 56 ∷
      piece token.Mark 56 57 ∷ piece token.Mark 57 58 ∷ piece token.Word 59 74 ∷ piece token.Mark 74 75 ∷ piece token.Word 75 78 ∷
      piece token.Mark 78 79 ∷ piece token.Mark 79 80 ∷ piece token.Word 81 90 ∷ piece token.Word 91 92 ∷ piece token.Mark 93 94 ∷
      piece token.Word 97 103 ∷ piece token.Str 104 111 ∷ piece token.Mark 111 112 ∷ piece token.Word 115 120 ∷ piece token.Word 121 125 ∷
      piece token.Word 126 127 ∷ piece token.Mark 128 129 ∷ piece token.Number 130 131 ∷ piece token.Mark 132 133 ∷ piece token.Number 134 135 ∷
      piece token.Mark 136 137 ∷ piece token.Number 138 139 ∷ piece token.Mark 139 140 ∷ piece token.Word 143 150 ∷ piece token.Word 151 155 ∷
      piece token.Mark 156 157 ∷ piece token.Word 158 159 ∷ piece token.Mark 159 160 ∷ piece token.Word 161 162 ∷ piece token.Mark 163 164 ∷
      piece token.Char 165 168 ∷ piece token.Mark 169 170 ∷ piece token.Word 171 172 ∷ piece token.Mark 172 173 ∷ piece token.Word 176 183 ∷
      piece token.Mark 184 185 ∷ piece token.Word 185 191 ∷ piece token.Mark 191 192 ∷ piece token.Word 193 197 ∷ piece token.Mark 198 199 ∷
      piece token.Word 199 203 ∷ piece token.Mark 203 204 ∷ piece token.Mark 204 205 ∷ piece token.Mark 205 206 ∷ piece token.Word 209 215 ∷
      piece token.Word 216 217 ∷ piece token.Mark 218 219 ∷ piece token.Word 220 224 ∷ piece token.Word 225 226 ∷ piece token.Mark 226 227 ∷
      piece token.Mark 228 229 ∷ piece token.Word 229 236 ∷ piece token.Mark 236 237 ∷ piece token.Word 237 238 ∷ piece token.Mark 238 239 ∷
      piece token.Mark 239 240 ∷ piece token.Word 241 249 ∷ piece token.Word 250 255 ∷ piece token.Word 256 260 ∷ piece token.Mark 260 261 ∷
      piece token.Mark 261 262 ∷ piece token.Mark 262 263 ∷ piece token.Mark 263 264 ∷ piece token.Mark 265 266 ∷ piece token.Mark 266 267 ∷
      piece token.Word 270 277 ∷ piece token.Word 278 283 ∷ piece token.Word 284 290 ∷ piece token.Mark 291 292 ∷ piece token.Word 292 293 ∷
      piece token.Word 294 295 ∷ piece token.Mark 295 296 ∷ piece token.Word 297 298 ∷ piece token.Mark 299 300 ∷ piece token.Word 301 305 ∷
      piece token.Number 306 307 ∷ piece token.Mark 307 308 ∷ piece token.Word 309 316 ∷ piece token.Mark 316 317 ∷ piece token.Word 318 322 ∷
      piece token.Word 323 324 ∷ piece token.Mark 324 325 ∷ piece token.Word 326 330 ∷ piece token.Word 331 332 ∷ piece token.Mark 332 333 ∷
      piece token.Mark 334 335 ∷ piece token.Mark 336 337 ∷ piece token.Word 338 339 ∷ piece token.Mark 339 340 ∷ piece token.Word 343 348 ∷
      piece token.Word 349 352 ∷ piece token.Word 353 354 ∷ piece token.Mark 354 355 ∷ piece token.Word 355 359 ∷ piece token.Mark 359 360 ∷
      piece token.Mark 360 361 ∷ piece token.Word 364 368 ∷ piece token.Word 369 372 ∷ piece token.Mark 372 373 ∷ piece token.Mark 373 374 ∷
      piece token.Word 374 376 ∷ piece token.Mark 376 377 ∷ piece token.Word 378 386 ∷ piece token.Word 387 388 ∷ piece token.Mark 388 389 ∷
      piece token.Mark 390 391 ∷ piece token.Word 391 394 ∷ piece token.Mark 394 395 ∷ piece token.Word 396 399 ∷ piece token.Mark 399 400 ∷
      piece token.Word 401 405 ∷ piece token.Mark 406 407 ∷ piece token.Word 407 408 ∷ piece token.Mark 408 409 ∷ piece token.Mark 409 410 ∷
      piece token.Mark 411 412 ∷ [];
}

-- its tree
abbrev pub small_tree : Tree
small_tree = record {
  attributes =
      (record {
        at = 0;
        list = record { at = 1; kind = tree.Uuid (spelled_at 6 (codes "00112233-4455-6677-8899-aabbccddeeff")) }
            ∷ record { at = 45; kind = tree.Version (spelled_at 53 (codes "1")) (Some (spelled_at 55 (codes "0"))) }
            ∷ record { at = 59; kind = tree.PointerDefault class.Full } ∷ [];
      });
  name = (spelled_at 91 (codes "a"));
  imports = record { files = (spelled_at 104 (codes "\"b.idl\"")) ∷ [] } ∷ [];
  exports =
      tree.Const 115 (types.Integer (integers.WidthFirst widths.Long false false)) false (spelled_at 126 (codes "N"))
      (tree.Value
      (tree.Binary (tree.Leaf (operand.Number (spelled_at 130 (codes "2")))) 132 binary.Add
      (tree.Binary (tree.Leaf (operand.Number (spelled_at 134 (codes "3")))) 136 binary.Multiply
      (tree.Leaf (operand.Number (spelled_at 138 (codes "4")))))))
      ∷ tree.Typedef 143 None false
      (tree.Enum 151 None
      (record { name = (spelled_at 158 (codes "X")); value = None }
      ∷ record { name = (spelled_at 161 (codes "Y")); value = Some (tree.Leaf (operand.Character (spelled_at 165 (codes "'y'")))) } ∷ []))
      (record { stars = ([]); name = (spelled_at 171 (codes "e")); dimensions = ([]) } ∷ [])
      ∷ tree.Typedef 176 (Some (record { at = 184; list = record { at = 185; kind = tree.String } ∷ [] })) false (tree.Simple (types.Char false))
      (record { stars = (198 ∷ []); name = (spelled_at 199 (codes "text")); dimensions = (None ∷ []) } ∷ [])
      ∷ tree.Tagged 209 None
      (tree.Struct 209 (Some (spelled_at 216 (codes "s")))
      (tree.next_member 220 None (tree.Simple (types.Integer (integers.WidthFirst widths.Long false false)))
      (record { stars = ([]); name = (spelled_at 225 (codes "n")); dimensions = ([]) } ∷ [])
      (tree.next_member 228
      (Some (record {
        at = 228;
        list = record { at = 229; kind = tree.Of variable.SizeIs (record { star = false; name = (spelled_at 237 (codes "n")) }) } ∷ [];
      }))
      (tree.Simple (types.Integer (integers.UnsignedFirst widths.Small false)))
      (record { stars = ([]); name = (spelled_at 256 (codes "data")); dimensions = (Some tree.Star ∷ []) } ∷ []) tree.no_members)))
      ∷ tree.Typedef 270 None false
      (tree.EncapsulatedUnion 278 None (record { of = switches.Name (spelled_at 292 (codes "e")); name = (spelled_at 294 (codes "k")) })
      (Some (spelled_at 297 (codes "u")))
      (tree.next_case (tree.Value 301 (tree.Leaf (operand.Number (spelled_at 306 (codes "1")))) ∷ tree.Default 309 ∷ [])
      (tree.Typed 318 None (tree.Simple types.Byte) (record { stars = ([]); name = (spelled_at 323 (codes "b")); dimensions = ([]) }))
      (tree.next_case (tree.Value 326 (tree.Leaf (operand.Name (spelled_at 331 (codes "X")))) ∷ []) (tree.Empty 334 None) tree.no_cases)))
      (record { stars = ([]); name = (spelled_at 338 (codes "v")); dimensions = ([]) } ∷ [])
      ∷ tree.Operation 343 None (tree.Simple (types.Integer (integers.WidthFirst widths.Hyper false true))) (spelled_at 353 (codes "f")) tree.Void
      ∷ tree.Operation 364 None (tree.Simple types.Void) (spelled_at 369 (codes "put"))
      (tree.Listed
      (record {
        at = 373;
        attributes = Some (record { at = 373; list = record { at = 374; kind = tree.In } ∷ [] });
        type = tree.Simple types.Handle;
        declarator = record { stars = ([]); name = (spelled_at 387 (codes "h")); dimensions = ([]) };
      }
      ∷ record {
        at = 390;
        attributes =
            Some (record { at = 390; list = record { at = 391; kind = tree.Out } ∷ record { at = 396; kind = tree.Class class.Reference } ∷ [] });
        type = tree.Simple (types.Integer (integers.WidthFirst widths.Long false false));
        declarator =
            record { stars = (406 ∷ []); name = (spelled_at 407 (codes "p")); dimensions = ([]) };
      } ∷ []))
      ∷ [];
}

-- an operation without its semicolon
abbrev pub unended : Lexed
unended = record {
  text = codes "[local] interface a { void f(void) }";
  tokens =
      piece token.Mark 0 1 ∷ piece token.Word 1 6 ∷ piece token.Mark 6 7 ∷ piece token.Word 8 17 ∷ piece token.Word 18 19 ∷ piece token.Mark 20 21 ∷
      piece token.Word 22 26 ∷ piece token.Word 27 28 ∷ piece token.Mark 28 29 ∷ piece token.Word 29 33 ∷ piece token.Mark 33 34 ∷
      piece token.Mark 35 36 ∷ [];
}

-- an attribute that this project leaves out
abbrev pub banned_attribute : Lexed
banned_attribute = record {
  text = codes "[transmit_as] interface a { }";
  tokens =
      piece token.Mark 0 1 ∷ piece token.Word 1 12 ∷ piece token.Mark 12 13 ∷ piece token.Word 14 23 ∷ piece token.Word 24 25 ∷
      piece token.Mark 26 27 ∷ piece token.Mark 28 29 ∷ [];
}

-- a word that this project leaves out
abbrev pub banned_word : Lexed
banned_word = record {
  text = codes "[local] interface a { float f(); }";
  tokens =
      piece token.Mark 0 1 ∷ piece token.Word 1 6 ∷ piece token.Mark 6 7 ∷ piece token.Word 8 17 ∷ piece token.Word 18 19 ∷ piece token.Mark 20 21 ∷
      piece token.Word 22 27 ∷ piece token.Word 28 29 ∷ piece token.Mark 29 30 ∷ piece token.Mark 30 31 ∷ piece token.Mark 31 32 ∷
      piece token.Mark 33 34 ∷ [];
}

-- a word with which an attribute begins, where a name is in attribute brackets
abbrev pub attribute_name : Lexed
attribute_name = record {
  text = codes "[local] interface a { struct s { [size_is(in)] long a[]; }; }";
  tokens =
      piece token.Mark 0 1 ∷ piece token.Word 1 6 ∷ piece token.Mark 6 7 ∷ piece token.Word 8 17 ∷ piece token.Word 18 19 ∷ piece token.Mark 20 21 ∷
      piece token.Word 22 28 ∷ piece token.Word 29 30 ∷ piece token.Mark 31 32 ∷ piece token.Mark 33 34 ∷ piece token.Word 34 41 ∷
      piece token.Mark 41 42 ∷ piece token.Word 42 44 ∷ piece token.Mark 44 45 ∷ piece token.Mark 45 46 ∷ piece token.Word 47 51 ∷
      piece token.Word 52 53 ∷ piece token.Mark 53 54 ∷ piece token.Mark 54 55 ∷ piece token.Mark 55 56 ∷ piece token.Mark 57 58 ∷
      piece token.Mark 58 59 ∷ piece token.Mark 60 61 ∷ [];
}

-- 64 brackets in the interface's own
abbrev pub deep : Lexed
deep = record {
  text = codes "[local] interface a { const long c = ((((((((((((((((((((((((((((((((((((((((((((((((((((((((((((((((1; }";
  tokens =
      piece token.Mark 0 1 ∷ piece token.Word 1 6 ∷ piece token.Mark 6 7 ∷ piece token.Word 8 17 ∷ piece token.Word 18 19 ∷ piece token.Mark 20 21 ∷
      piece token.Word 22 27 ∷ piece token.Word 28 32 ∷ piece token.Word 33 34 ∷ piece token.Mark 35 36 ∷ piece token.Mark 37 38 ∷
      piece token.Mark 38 39 ∷ piece token.Mark 39 40 ∷ piece token.Mark 40 41 ∷ piece token.Mark 41 42 ∷ piece token.Mark 42 43 ∷
      piece token.Mark 43 44 ∷ piece token.Mark 44 45 ∷ piece token.Mark 45 46 ∷ piece token.Mark 46 47 ∷ piece token.Mark 47 48 ∷
      piece token.Mark 48 49 ∷ piece token.Mark 49 50 ∷ piece token.Mark 50 51 ∷ piece token.Mark 51 52 ∷ piece token.Mark 52 53 ∷
      piece token.Mark 53 54 ∷ piece token.Mark 54 55 ∷ piece token.Mark 55 56 ∷ piece token.Mark 56 57 ∷ piece token.Mark 57 58 ∷
      piece token.Mark 58 59 ∷ piece token.Mark 59 60 ∷ piece token.Mark 60 61 ∷ piece token.Mark 61 62 ∷ piece token.Mark 62 63 ∷
      piece token.Mark 63 64 ∷ piece token.Mark 64 65 ∷ piece token.Mark 65 66 ∷ piece token.Mark 66 67 ∷ piece token.Mark 67 68 ∷
      piece token.Mark 68 69 ∷ piece token.Mark 69 70 ∷ piece token.Mark 70 71 ∷ piece token.Mark 71 72 ∷ piece token.Mark 72 73 ∷
      piece token.Mark 73 74 ∷ piece token.Mark 74 75 ∷ piece token.Mark 75 76 ∷ piece token.Mark 76 77 ∷ piece token.Mark 77 78 ∷
      piece token.Mark 78 79 ∷ piece token.Mark 79 80 ∷ piece token.Mark 80 81 ∷ piece token.Mark 81 82 ∷ piece token.Mark 82 83 ∷
      piece token.Mark 83 84 ∷ piece token.Mark 84 85 ∷ piece token.Mark 85 86 ∷ piece token.Mark 86 87 ∷ piece token.Mark 87 88 ∷
      piece token.Mark 88 89 ∷ piece token.Mark 89 90 ∷ piece token.Mark 90 91 ∷ piece token.Mark 91 92 ∷ piece token.Mark 92 93 ∷
      piece token.Mark 93 94 ∷ piece token.Mark 94 95 ∷ piece token.Mark 95 96 ∷ piece token.Mark 96 97 ∷ piece token.Mark 97 98 ∷
      piece token.Mark 98 99 ∷ piece token.Mark 99 100 ∷ piece token.Mark 100 101 ∷ piece token.Number 101 102 ∷ piece token.Mark 102 103 ∷
      piece token.Mark 104 105 ∷ [];
}

-- words with which an attribute begins in the windows language, also as a name outside attribute brackets
abbrev pub free_counts : Lexed
free_counts = record {
  text = codes "[local] interface a { typedef [any_length] byte b[*]; struct any_size { [any_size] byte c[]; }; }";
  tokens =
      piece token.Mark 0 1 ∷ piece token.Word 1 6 ∷ piece token.Mark 6 7 ∷ piece token.Word 8 17 ∷ piece token.Word 18 19 ∷
      piece token.Mark 20 21 ∷ piece token.Word 22 29 ∷ piece token.Mark 30 31 ∷ piece token.Word 31 41 ∷ piece token.Mark 41 42 ∷
      piece token.Word 43 47 ∷ piece token.Word 48 49 ∷ piece token.Mark 49 50 ∷ piece token.Mark 50 51 ∷ piece token.Mark 51 52 ∷
      piece token.Mark 52 53 ∷ piece token.Word 54 60 ∷ piece token.Word 61 69 ∷ piece token.Mark 70 71 ∷ piece token.Mark 72 73 ∷
      piece token.Word 73 81 ∷ piece token.Mark 81 82 ∷ piece token.Word 83 87 ∷ piece token.Word 88 89 ∷ piece token.Mark 89 90 ∷
      piece token.Mark 90 91 ∷ piece token.Mark 91 92 ∷ piece token.Mark 93 94 ∷ piece token.Mark 94 95 ∷ piece token.Mark 96 97 ∷ [];
}

-- its tree in the windows language
abbrev pub free_tree : Tree
free_tree = record {
  attributes = (record { at = 0; list = record { at = 1; kind = tree.Local } ∷ [] });
  name = (spelled_at 18 (codes "a"));
  imports = [];
  exports =
      tree.Typedef 22 (Some (record { at = 30; list = record { at = 31; kind = tree.AnyLength } ∷ [] })) false (tree.Simple types.Byte)
      (record { stars = ([]); name = (spelled_at 48 (codes "b")); dimensions = (Some tree.Star ∷ []) } ∷ [])
      ∷ tree.Tagged 54 None
      (tree.Struct 54 (Some (spelled_at 61 (codes "any_size")))
      (tree.next_member 72
      (Some (record { at = 72; list = record { at = 73; kind = tree.AnySize } ∷ [] })) (tree.Simple types.Byte)
      (record { stars = ([]); name = (spelled_at 88 (codes "c")); dimensions = (None ∷ []) } ∷ []) tree.no_members))
      ∷ [];
}
