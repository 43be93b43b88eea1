-- What files, sources and sinks show over a call: what they showed before and after it, and their counts.
use Rattle.std.specs.Prelude.{◌≡◌, ℕ, ◌+◌, ◌<◌, ◌≤◌, ◌-◌, ◌^◌, min, Bool, true, false, List, [], ◌++◌, length, take, Option, Some, None, Result}
use Rattle.std.specs.Prelude.{OnErr, Ok, MatchResult, option_map, ⊤}
use Rattle.std.specs.Io.KnownBytes.{Appends}
use Rattle.nd_base.specs.declared.TheConstants.{FILE_LIMIT}

-- ## Counts of faults and of calls

-- one more, in a counter that stays at its greatest value, 2 ^ 64 - 1
abbrev pub next_count : ℕ → ℕ
next_count count = min (count + 1) (2 ^ 64 - 1)

-- a count rose, or is at the greatest value that a counter can have
abbrev pub Rose : ℕ → ℕ → Type 0
Rose before now = next_count before ≤ now

-- a count never falls, and an error comes only where it rose
pub record HasCause {T E : Type 0} (before now : ℕ) (result : Result T E) : Type 0 where
  pub later : before ≤ now
  pub failed : OnErr result (Rose before now)

-- ## What sources, sinks and files do to what they show

-- some prefix of the piece was appended
abbrev pub AppendsPrefix : Option (List ℕ) → Option (List ℕ) → List ℕ → Type 0
AppendsPrefix old new piece = (n : ℕ) × Appends old new (take n piece)

-- the whole piece was appended at `Ok`, and a prefix of it at `Err`
abbrev pub PutAppends : {T E : Type 0} → Option (List ℕ) → Option (List ℕ) → Result T E → List ℕ → Type 0
PutAppends old new result piece = MatchResult result (λ _. Appends old new piece) (λ _. AppendsPrefix old new piece)

-- None for a buffer with room is the end, and after the end nothing comes.
pub record StaysEnded {E : Type 0} (before now : Bool) (result : Result ℕ E) (buf : List ℕ) : Type 0 where
  pub met : result ≡ Ok 0 → 0 < length buf → now ≡ true
  pub stays : before ≡ true → now ≡ true
  pub nothing : (n : ℕ) → before ≡ true → result ≡ Ok n → n ≡ 0

-- What fills a whole buffer: after the end nothing comes, and the end stays.
pub record FillsBeforeEnd (before now : Bool) (buf : List ℕ) : Type 0 where
  pub stays : before ≡ true → now ≡ true
  pub nothing : before ≡ true → buf ≡ []

-- what is left of what a reader shows: nothing once the end was met
abbrev pub left_at : Bool → Option (List ℕ) → Option (List ℕ)
left_at false left = left
left_at true left = option_map (λ _. []) left

-- the octets of a file that a load gives
abbrev pub loaded : List ℕ → List ℕ
loaded content = take (FILE_LIMIT + 1) content

-- what a load gave under a name, where the names are known
abbrev pub IsContent : Option (List ℕ → Option (List ℕ)) → List ℕ → List ℕ → Type 0
IsContent None name octets = ⊤
IsContent (Some held) name octets = option_map loaded (held name) ≡ Some octets

-- the name is not held, where the names are known
abbrev pub IsMissing : Option (List ℕ → Option (List ℕ)) → List ℕ → Type 0
IsMissing None name = ⊤
IsMissing (Some held) name = held name ≡ None

-- ## What was shown before and after a call

-- a count at the entry and at the exit
pub record Count : Type 0 where
  pub before : ℕ
  pub now : ℕ

-- it rose, or is at its end
abbrev pub HasRisen : Count → Type 0
HasRisen c = Rose c.before c.now

-- ### Files

-- what files show
pub record FilesSeen : Type 0 where
  -- the content under each name, where the names are known
  pub held : Option (List ℕ → Option (List ℕ))
  -- how often a file was absent
  pub absences : ℕ
  -- how often they failed
  pub faults : ℕ
  -- the names by which they were asked for so far, in order
  pub asked : List (List ℕ)

-- files over a call: what they hold, the names by which they were asked for, and how often they were absent and failed
pub record FilesOver : Type 0 where
  pub held : Option (List ℕ → Option (List ℕ))
  pub asked : List (List ℕ)
  pub asked_now : List (List ℕ)
  pub absences : Count
  pub faults : Count

abbrev pub files_over : {F : Type 0} → (F → FilesSeen) → F → F → FilesOver
files_over seen before now = record {
  held = (seen before).held;
  asked = (seen before).asked;
  asked_now = (seen now).asked;
  absences = record { before = (seen before).absences; now = (seen now).absences };
  faults = record { before = (seen before).faults; now = (seen now).faults };
}

-- files were asked for by these names, in this order, and by no others
abbrev pub AskedFor : FilesOver → List (List ℕ) → Type 0
AskedFor f names = f.asked_now ≡ f.asked ++ names

-- no file was asked for
pub record AreUntouched (f : FilesOver) : Type 0 where
  pub none_asked : f.asked_now ≡ f.asked
  pub none_absent : f.absences.now ≡ f.absences.before
  pub no_fault : f.faults.now ≡ f.faults.before

-- ### Sources

-- what a source shows
pub record SourceSeen : Type 0 where
  -- the octets that are left, where they are known
  pub left : Option (List ℕ)
  -- whether the end was met
  pub ended : Bool
  -- how often it failed
  pub faults : ℕ

-- a source over a call: what was left before it and after it, and whether the end was met by then
pub record SourceOver : Type 0 where
  pub left : Option (List ℕ)
  pub left_now : Option (List ℕ)
  pub ended_now : Bool
  pub faults : Count

abbrev pub source_over : {S : Type 0} → (S → SourceSeen) → S → S → SourceOver
source_over seen before now = record {
  left = (seen before).left;
  left_now = (seen now).left;
  ended_now = (seen now).ended;
  faults = record { before = (seen before).faults; now = (seen now).faults };
}

-- the source was not asked for anything: it gave nothing, and did not fail
pub record IsUntouched (s : SourceOver) : Type 0 where
  pub nothing_taken : s.left_now ≡ s.left
  pub no_fault : s.faults.now ≡ s.faults.before

-- ### Sinks

-- what a sink shows
pub record SinkSeen : Type 0 where
  -- the octets that were written, where they are known
  pub written : Option (List ℕ)
  -- how often it failed
  pub faults : ℕ

-- a sink over a call
pub record SinkOver : Type 0 where
  pub written : Option (List ℕ)
  pub written_now : Option (List ℕ)
  pub faults : Count

abbrev pub sink_over : {K : Type 0} → (K → SinkSeen) → K → K → SinkOver
sink_over seen before now = record {
  written = (seen before).written;
  written_now = (seen now).written;
  faults = record { before = (seen before).faults; now = (seen now).faults };
}

-- exactly this was written
abbrev pub Got : SinkOver → List ℕ → Type 0
Got k text = Appends k.written k.written_now text

-- a prefix of this was written
abbrev pub GotPrefix : SinkOver → List ℕ → Type 0
GotPrefix k text = AppendsPrefix k.written k.written_now text

-- nothing was written, and nothing failed
pub record IsAsBefore (k : SinkOver) : Type 0 where
  pub written : k.written_now ≡ k.written
  pub faults : k.faults.now ≡ k.faults.before
