-- What entries say of words: the entries of a text, the entry of a name, and the names that are nearest to a name.
use Rattle.std.specs.Prelude.{ℕ, ◌+◌, suc, ◌==◌, max, ◌&&◌, nat_le, nat_eq, if◌then◌else◌, List, [], ◌∷◌, ◌++◌, take, Option, Some, None}
use Rattle.std.specs.List.{position_or_len}
use Rattle.std.specs.Str.{bytes_eq}
use Rattle.command_why.specs.declared.lookup.Explained.{Explained}
use Rattle.command_why.specs.declared.lookup.Explained.TheVariants.{Found, Nearest}
use Rattle.command_why.specs.declared.entries.TheConstants.{ENTRIES}

-- ## The entries of a text, and their names

-- an octet at the front of the first entry
abbrev pub onto : ℕ → List (List ℕ) → List (List ℕ)
onto c [] = (c ∷ []) ∷ []
onto c (entry ∷ more) = (c ∷ entry) ∷ more

-- the entries of a text: a form feed ends each
abbrev pub entries : List ℕ → List (List ℕ)
entries [] = []
entries (c ∷ text) = if c == 12 then [] ∷ entries text else onto c (entries text)

-- the name of an entry: its first line
abbrev pub title : List ℕ → List ℕ
title entry = take (position_or_len (λ c. c == 10) entry) entry

-- the entry of a name: the first that has it
abbrev pub entry_of : List (List ℕ) → List ℕ → Option (List ℕ)
entry_of [] name = None
entry_of (entry ∷ table) name = if bytes_eq (title entry) name then Some entry else entry_of table name

-- the names of all entries, a line each
abbrev pub names : List (List ℕ) → List ℕ
names [] = []
names (entry ∷ table) = (title entry ++ 10 ∷ []) ++ names table

-- ## The entries whose names are nearest to a name

-- a capital letter as its small one, and any other octet as itself
abbrev pub lower : ℕ → ℕ
lower c = if nat_le 65 c && nat_le c 90 then c + 32 else c

-- how many octets two names have in common at their beginnings, the case of letters aside
abbrev pub shared : List ℕ → List ℕ → ℕ
shared (a ∷ more) (b ∷ others) = if nat_eq (lower a) (lower b) then suc (shared more others) else 0
shared _ _ = 0

-- the longest beginning that the name of an entry shares with a name
abbrev pub most_shared : List (List ℕ) → List ℕ → ℕ
most_shared [] name = 0
most_shared (entry ∷ table) name = max (shared (title entry) name) (most_shared table name)

-- the names of the entries that share a beginning of so many octets with a name, a line each
abbrev pub names_sharing : ℕ → List (List ℕ) → List ℕ → List ℕ
names_sharing count [] name = []
names_sharing count (entry ∷ table) name =
    (if nat_eq (shared (title entry) name) count then title entry ++ 10 ∷ [] else []) ++ names_sharing count table name

-- the names of the entries that share the longest beginning with a name, a line each
abbrev pub nearest : List (List ℕ) → List ℕ → List ℕ
nearest table name = names_sharing (most_shared table name) table name

-- ## What entries say of words

-- words, with a blank before each
abbrev pub followed : List (List ℕ) → List ℕ
followed [] = []
followed (word ∷ words) = (32 ∷ word) ++ followed words

-- the name that words spell: a blank is between each and the next
abbrev pub spelled : List (List ℕ) → List ℕ
spelled [] = []
spelled (word ∷ words) = word ++ followed words

-- what entries say of a name, by the entry that it has, if it has one
abbrev pub by_entry : List (List ℕ) → List ℕ → Option (List ℕ) → Explained
by_entry table name (Some entry) = Found entry
by_entry table name None = Nearest (nearest table name)

abbrev pub name_explained : List (List ℕ) → List ℕ → Explained
name_explained table name = by_entry table name (entry_of table name)

-- what entries say of words; of no words it is the names of all entries
abbrev pub explained_by : List (List ℕ) → List (List ℕ) → Explained
explained_by table [] = Found (names table)
explained_by table (word ∷ words) = name_explained table (spelled (word ∷ words))

-- what the entries of the program say of words
unfoldable pub explained : List (List ℕ) → Explained
explained words = explained_by (entries ENTRIES.now) words
