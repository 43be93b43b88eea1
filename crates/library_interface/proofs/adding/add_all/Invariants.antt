use Rattle.std.proofs.Common.{◌≡◌, ℕ, List, drop}
use Rattle.nd_base.specs.InMemory.{content_of, entries_of, files_calls}
use Rattle.library_interface.specs.Named.{named_after, HasBadName}
use Rattle.library_interface.proofs.adding.add_all.Given as goal

-- what is found, with the files that are left; a name that is not UTF-8 is one of theirs
abbrev pub invariant-loop-at : goal.invariant-loop-at
invariant-loop-at l =
    ((name : List ℕ) → named_after (drop l.at l.files) name (content_of (entries_of l.taken) name)
    ≡ named_after l.files name (content_of (entries_of l.initial.taken) name))
    × (files_calls l.taken ≡ files_calls l.initial.taken)
    × (HasBadName l.files → HasBadName (drop l.at l.files))
