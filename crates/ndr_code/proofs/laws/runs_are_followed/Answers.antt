use Rattle.ndr_code.proofs.Runs as runs
use Rattle.ndr_code.proofs.laws.runs_are_followed.Goals as goal

pub returns : goal.returns
returns c = record { first = runs.first_at; next = runs.next_at; part = runs.part_at; behind = runs.behind_at }
