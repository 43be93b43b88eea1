use Rattle.std.proofs.Common.{ℕ, ◌+◌, ◌-◌, ◌*◌, length, drop, Ok}
use Rattle.idl_names.specs.Going.{point, Went}
use Rattle.idl_names.specs.Seen.{seen_state}
use Rattle.idl_names.proofs.Going.{loads, loads_of}
use Rattle.idl_names.proofs.resolving.+files.Given as goal

abbrev pub decreases-import : goal.decreases-import
decreases-import g l = 4 * (64 - length l.sources.now)

abbrev pub decreases-import_all : goal.decreases-import_all
decreases-import_all g l = 4 * (64 - length l.sources.now) + 1

abbrev pub decreases-imports : goal.decreases-imports
decreases-imports g l = 4 * (64 - length l.sources.now) + 2

abbrev pub decreases-whole : goal.decreases-whole
decreases-whole g l = 4 * (64 - length l.sources.now) + 3

abbrev pub invariant-import_all-loop-string : goal.invariant-import_all-loop-string
invariant-import_all-loop-string g l = Went {A = ℕ}
    (point (g.F.Files.seen l.fn.files) (seen_state l.fn.language l.fn.sources l.fn.state))
    (loads l.file l.strings)
    (point (g.F.Files.seen l.files) (seen_state l.language l.sources l.state))
    (loads l.file (drop l.string-index l.strings)) (Ok 0)

abbrev pub invariant-imports-loop-one : goal.invariant-imports-loop-one
invariant-imports-loop-one g l = Went {A = ℕ}
    (point (g.F.Files.seen l.fn.files) (seen_state l.fn.language l.fn.sources l.fn.state))
    (loads_of l.file l.list)
    (point (g.F.Files.seen l.files) (seen_state l.language l.sources l.state))
    (loads_of l.file (drop l.one-index l.list)) (Ok 0)
