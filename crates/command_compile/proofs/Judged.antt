-- What judging files answers that are resolved, from what its steps answer.
use Rattle.std.proofs.Common.{◌≡◌, ◌∙◌, ℕ, Bool, true, false, eqb, List, Option, Some, None, Err, refl, sym, ap, subst, inl, inr}
use Rattle.idl_grammar.specs.Files.{Idl}
use Rattle.idl_grammar.specs.Text.{Depth, Ban}
use Rattle.idl_grammar.specs.ReadPhrases.{Syntax, Passes}
use Rattle.nd_base.specs.declared.octets.Place.{Place}
use Rattle.nd_base.specs.Over.{IsContent, IsMissing, FilesOver}
use Rattle.nd_types.specs.declared.interface.Interface.{Interface}
use Rattle.idl_lexer.specs.Verdict.{Lexed, place_of, AreTokens, IsVerdict, Refused}
use Rattle.idl_lexer.specs.declared.tokens.LexKind.{LexKind}
use Rattle.idl_grammar.specs.declared.fault.SyntaxFault.{SyntaxFault}
use Rattle.idl_grammar.specs.declared.fault.SyntaxFault.TheVariants as parser
use Rattle.idl_names.specs.Walk.{Source, State}
use Rattle.idl_rule_definitions.specs.Rules.{breach}
use Rattle.acf_reader.specs.Grammar.{Acf}
use Rattle.acf_reader.specs.Symbols.{lexemes}
use Rattle.acf_reader.specs.Answers.{IsAnswer}
use Rattle.acf_reader.specs.Told.{Told}
use Rattle.idl_check.specs.AcfRules.{acf_file, first_of_all, IsMeaningBeside}
use Rattle.nd_base.specs.Text.{position_of}
use Rattle.command_refusals.specs.declared.refusal.IdlReason.{IdlReason}
use Rattle.command_refusals.specs.declared.refusal.IdlReason.TheVariants as reason
use Rattle.command_refusals.specs.declared.refusal.Refusal.{Refusal}
use Rattle.command_refusals.specs.declared.refusal.Refusal.TheVariants.{Memory, Absent, FileFailed, BadIdl, NoOperation, ReadFault, BadOctets, BadText, BadValue, TooLong, BadRequest}
use Rattle.command_refusals.specs.declared.refusal.Refusal.TheVariants.{BadLabel, ShortLabel, TooFewEnds, EndFailed, BadPdu, NotCompatible, BadScript, LongScript}
use Rattle.command_compile.specs.Idl.{AcfFile, IsBeside, tree_beside, AreResolved, Means, resolved_world, IsBroken, by_acf, by_rules, reported_by, reported_rule, reported_beside, word_at, IsAcfFault}
use Rattle.command_compile.specs.Compiled.{IsTextCause}
use Rattle.command_refusals.specs.Loads.{IsLoadCause}
use Rattle.command_compile.specs.Reading.{IsOrMemory, IsReportedAcf, IsReportedUnread, IsAcfCause, IsBesideCause, IsJudged}

-- ## The text of an attribute configuration file

-- a fault of a text that is reported, or that memory was wanting
fault_told : (name text : List ℕ) (at : ℕ) (why : IdlReason) (r : Refusal) → IsAcfFault text at why → IsOrMemory (reported_by name (position_of text at) why) r
    → IsReportedAcf name text r
fault_told name text at why r fault (inl is) = subst (IsReportedAcf name text) (sym is) (at, fault, refl)
fault_told name text at why r fault (inr is) = subst (IsReportedAcf name text) (sym is) tt

-- a text that cannot be cut
pub uncut_told : (name text : List ℕ) (at : ℕ) (kind : LexKind) (r : Refusal) → IsVerdict text (Refused at kind)
    → IsOrMemory (reported_by name (position_of text at) (reason.Lexical kind)) r → IsReportedAcf name text r
uncut_told name text at kind r uncut told = fault_told name text at (reason.Lexical kind) r uncut told

-- what is reported of a fault of tokens, by where its token begins
module _ (name text : List ℕ) (l : Lexed) (k at : ℕ) (same : at ≡ place_of l k) (f : SyntaxFault) (r : Refusal) where
  by_reason : (why : ℕ → IdlReason) → IsOrMemory (reported_by name (position_of text at) (why at)) r
      → IsOrMemory (reported_by name (position_of text (place_of l k)) (why (place_of l k))) r
  by_reason why told = subst (λ a. IsOrMemory (reported_by name (position_of text a) (why a)) r) same told

  pub told_syntax : f ≡ parser.Syntax k → IsOrMemory (reported_by name (position_of text at) reason.Syntax) r → IsReportedUnread name text l f r
  told_syntax is told = subst (λ x. IsReportedUnread name text l x r) (sym is) (by_reason (λ a. reason.Syntax) told)

  pub told_deep : f ≡ parser.Deep k → IsOrMemory (reported_by name (position_of text at) reason.Deep) r → IsReportedUnread name text l f r
  told_deep is told = subst (λ x. IsReportedUnread name text l x r) (sym is) (by_reason (λ a. reason.Deep) told)

  pub told_banned : f ≡ parser.Banned k → IsOrMemory (reported_by name (position_of text at) (reason.Banned (word_at text at))) r → IsReportedUnread name text l f r
  told_banned is told = subst (λ x. IsReportedUnread name text l x r) (sym is) (by_reason (λ a. reason.Banned (word_at text a)) told)

-- tokens that are no such file
module _ (name text : List ℕ) (l : Lexed) (same : l.text ≡ text) (tokens : AreTokens text l.tokens) (r : Refusal) where
  pub unread_told : (f : SyntaxFault) → Told (λ a. IsAnswer (lexemes l) a) (Err f) → IsReportedUnread name text l f r → IsReportedAcf name text r
  unread_told parser.Memory h told = subst (IsReportedAcf name text) (sym told) tt
  unread_told (parser.Syntax k) h told =
      fault_told name text (place_of l k) reason.Syntax r
      (k, record { lexed = l; told = Syntax k; token = k; is_told = (refl, refl); read = record { text_is = same; tokens = tokens; answered = h }; octet = refl }) told
  unread_told (parser.Deep k) h told =
      fault_told name text (place_of l k) reason.Deep r
      (k, record { lexed = l; told = Passes Depth k; token = k; is_told = (refl, refl); read = record { text_is = same; tokens = tokens; answered = h }; octet = refl }) told
  unread_told (parser.Banned k) h told =
      fault_told name text (place_of l k) (reason.Banned (word_at text (place_of l k))) r
      ((k, record { lexed = l; told = Passes Ban k; token = k; is_told = (refl, refl); read = record { text_is = same; tokens = tokens; answered = h }; octet = refl }), refl) told

-- ## Files that are resolved

-- a broken rule by whether its place is one of the attribute configuration file
abbrev reported_under : List Source → AcfFile → ℕ → Place → Bool → Refusal
reported_under s x rule place b = elim b [ true ↦ reported_by x.name (position_of x.text place.at) (reason.Rule rule) | false ↦ reported_rule s rule place ]

-- a broken rule is reported at a line and column
is_placed : (s : List Source) (beside : Option AcfFile) (rule : ℕ) (place : Place) → (file : List ℕ) × (line : ℕ) × (column : ℕ) × (why : IdlReason)
    × (reported_beside s beside rule place ≡ BadIdl file line column why)
is_placed s None rule place = (_, _, _, _, refl)
is_placed s (Some x) rule place = by (eqb place.file acf_file)
  where
    by : (b : Bool) → (file : List ℕ) × (line : ℕ) × (column : ℕ) × (why : IdlReason) × (reported_under s x rule place b ≡ BadIdl file line column why)
    by true = (_, _, _, _, refl)
    by false = (_, _, _, _, refl)

module _ (f : FilesOver) (idl : Idl) (text : List ℕ) (acf : Option (List ℕ)) (state : State) (resolved : AreResolved f.held idl text state) where
  -- a rule is broken
  pub broken : (beside : Option AcfFile) → IsBeside f.held acf beside → (rule : ℕ) (place : Place)
      → first_of_all (resolved_world state) (tree_beside beside) ≡ Some (breach rule place) → (r : Refusal)
      → IsOrMemory (reported_beside state.sources beside rule place) r → IsTextCause f idl text acf r
  broken beside read rule place first r (inl is) =
      let (file, line, column, why, placed) = is_placed state.sources beside rule place in
      subst (IsTextCause f idl text acf) (sym (is ∙ placed))
      (by_rules state.sources beside rule place (record { state = state; resolved = resolved; sources_are = refl; read = read; first = first }) (sym placed))
  broken beside read rule place first r (inr is) = subst (IsTextCause f idl text acf) (sym is) tt

-- files that keep the rules
pub means_beside : (held : Option (List ℕ → Option (List ℕ))) (idl : Idl) (text : List ℕ) (acf : Option (List ℕ)) (state : State) → AreResolved held idl text state
    → (beside : Option AcfFile) → IsBeside held acf beside → (i : Interface) → IsMeaningBeside (resolved_world state) (tree_beside beside) i
    → IsJudged held idl text acf state i
means_beside held idl text acf state resolved beside read i meaning =
    record { means = record { state = state; resolved = resolved; beside = beside; read = read; meaning = meaning }; state_is = refl }

-- the attribute configuration file was not loaded and read
module _ (f : FilesOver) (idl : Idl) (text : List ℕ) (state : State) (resolved : AreResolved f.held idl text state) where
  acf_refused : (name : List ℕ) (r : Refusal) → IsAcfCause f name r → IsTextCause f idl text (Some name) r
  acf_refused name Memory cause = tt
  acf_refused name (Absent file) (same, rose, missing) =
      (rose, inr (record { state = state; resolved = resolved; named = ap Some (sym same) }), subst (IsMissing f.held) (sym same) missing)
  acf_refused name (FileFailed file) (same, rose) = (rose, inr (record { state = state; resolved = resolved; named = ap Some (sym same) }))
  acf_refused name (BadIdl file line column why) (body, content, (at, fault, is)) =
      by_acf name body at why (record { state = state; resolved = resolved; named = refl; loaded = content; fault = fault }) is
  acf_refused name NoOperation cause = absurd cause
  acf_refused name (TooLong many) cause = absurd cause
  acf_refused name ReadFault cause = absurd cause
  acf_refused name (BadOctets place why) cause = absurd cause
  acf_refused name (BadText line column why) cause = absurd cause
  acf_refused name (BadValue path why) cause = absurd cause
  acf_refused name (BadRequest fault) cause = absurd cause
  acf_refused name (BadLabel fault) cause = absurd cause
  acf_refused name ShortLabel cause = absurd cause
  acf_refused name (TooFewEnds wanted found) cause = absurd cause
  acf_refused name (EndFailed which) cause = absurd cause
  acf_refused name (BadPdu spot because) cause = absurd cause
  acf_refused name (NotCompatible differing) cause = absurd cause
  acf_refused name (BadScript row) cause = absurd cause
  acf_refused name LongScript cause = absurd cause

  pub beside_refused : (acf : Option (List ℕ)) (r : Refusal) → IsBesideCause f acf r → IsTextCause f idl text acf r
  beside_refused None r cause = absurd cause
  beside_refused (Some name) r cause = acf_refused name r cause

-- a text that is refused is a file that is not read
pub acf_unread : (f : FilesOver) (name text : List ℕ) (r : Refusal) → IsContent f.held name text → IsReportedAcf name text r → IsAcfCause f name r
acf_unread f name text Memory content cause = tt
acf_unread f name text (BadIdl file line column why) content cause = (text, content, cause)
acf_unread f name text (Absent file) content cause = absurd cause
acf_unread f name text (FileFailed file) content cause = absurd cause
acf_unread f name text NoOperation content cause = absurd cause
acf_unread f name text (TooLong many) content cause = absurd cause
acf_unread f name text ReadFault content cause = absurd cause
acf_unread f name text (BadOctets place why) content cause = absurd cause
acf_unread f name text (BadText line column why) content cause = absurd cause
acf_unread f name text (BadValue path why) content cause = absurd cause
acf_unread f name text (BadRequest fault) content cause = absurd cause
acf_unread f name text (BadLabel fault) content cause = absurd cause
acf_unread f name text ShortLabel content cause = absurd cause
acf_unread f name text (TooFewEnds wanted found) content cause = absurd cause
acf_unread f name text (EndFailed which) content cause = absurd cause
acf_unread f name text (BadPdu spot because) content cause = absurd cause
acf_unread f name text (NotCompatible differing) content cause = absurd cause
acf_unread f name text (BadScript row) content cause = absurd cause
acf_unread f name text LongScript content cause = absurd cause

-- nor one that is not loaded
pub acf_unloaded : (f : FilesOver) (name : List ℕ) (r : Refusal) → IsLoadCause f name r → IsAcfCause f name r
acf_unloaded f name Memory cause = tt
acf_unloaded f name (Absent file) cause = cause
acf_unloaded f name (FileFailed file) cause = cause
acf_unloaded f name (BadIdl file line column why) cause = absurd cause
acf_unloaded f name NoOperation cause = absurd cause
acf_unloaded f name (TooLong many) cause = absurd cause
acf_unloaded f name ReadFault cause = absurd cause
acf_unloaded f name (BadOctets place why) cause = absurd cause
acf_unloaded f name (BadText line column why) cause = absurd cause
acf_unloaded f name (BadValue path why) cause = absurd cause
acf_unloaded f name (BadRequest fault) cause = absurd cause
acf_unloaded f name (BadLabel fault) cause = absurd cause
acf_unloaded f name ShortLabel cause = absurd cause
acf_unloaded f name (TooFewEnds wanted found) cause = absurd cause
acf_unloaded f name (EndFailed which) cause = absurd cause
acf_unloaded f name (BadPdu spot because) cause = absurd cause
acf_unloaded f name (NotCompatible differing) cause = absurd cause
acf_unloaded f name (BadScript row) cause = absurd cause
acf_unloaded f name LongScript cause = absurd cause
