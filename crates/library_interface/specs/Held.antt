-- What files that a caller lends hold.
use Rattle.std.specs.Prelude.{ℕ, List, Option}
use Rattle.nd_base.specs.InMemory.{content_of, entries_of}
use Rattle.library_interface.specs.declared.files.LentFiles.{LentFiles}

-- the content under a name
abbrev pub content_under : LentFiles → List ℕ → Option (List ℕ)
content_under f name = content_of (entries_of f.files) name
