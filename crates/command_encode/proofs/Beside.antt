-- Which graph a text reads as, and where it is refused, does not depend on the request beside which its values are judged.
-- `i` is an interface, `o` an operation, `s` a side, `p` and `q` are requests, if any.
use Rattle.std.proofs.Common.{ℕ, List, Option}
use Rattle.nd_types.specs.declared.interface.Interface.{Interface}
use Rattle.nd_types.specs.declared.types.Operation.{Operation}
use Rattle.nd_types.specs.declared.types.Side.{Side}
use Rattle.nd_value.specs.declared.item.Home.{Home}
use Rattle.nd_value.specs.declared.item.Home.TheVariants as home
use Rattle.nd_value.specs.declared.value.Graph.{Graph}
use Rattle.nd_value.specs.Setting.{Setting}
use Rattle.nd_value.specs.Fitting.{setting_beside}
use Rattle.text_grammar.specs.declared.version.Version.{Version}
use Rattle.text_grammar.specs.declared.fault.TextReason.{TextReason}
use Rattle.text_grammar.specs.declared.fault.TextReason.TheVariants as reason
use Rattle.text_grammar.specs.Tokens.{Token, Cell}
use Rattle.text_grammar.specs.Reads.{IsReadable, Lexeme, Cut, End, Bad, ReadsAs, Writing, CanGoOn, IsWhole, GoesOn, IsNameDue, IsReason, IsFirstFault, IsTextFault}
use Rattle.text_grammar.specs.Paths.{IsPath}
use Rattle.text_grammar.proofs.Nodes.{readable_formed, formed_readable}

module _ (i : Interface) (o : Operation) (s : Side) where
  abbrev W : Option Graph → Setting
  W q = setting_beside i o s q

  readable : (p q : Option Graph) (v : Version) (g : Graph) → IsReadable v (W p) g → IsReadable v (W q) g
  readable p q v g r = let f = readable_formed v (W p) g r in formed_readable v (W q) g f.0 f.1 r.named

  pub reads_beside : (p q : Option Graph) (text : List ℕ) (g : Graph) → ReadsAs (W p) text g → ReadsAs (W q) text g
  reads_beside p q text g r = record {
    short = r.short;
    version = r.version;
    readable = readable p q r.version g r.readable;
    rest = r.rest;
    tokens = r.tokens;
    ended = r.ended;
  }

  abbrev writing : (p q : Option Graph) → Writing (W p) → Writing (W q)
  writing p q x = record {
    version = x.version;
    graph = x.graph;
    readable = readable p q x.version x.graph x.readable;
  }

  can_go_on : (p q : Option Graph) (ts : List Token) → CanGoOn (W p) ts → CanGoOn (W q) ts
  can_go_on p q ts c = record { writing = writing p q c.writing; others = c.others; begins = c.begins }

  whole : (p q : Option Graph) (ts : List Token) (g : Graph) → IsWhole (W p) ts g → IsWhole (W q) ts g
  whole p q ts g h = record { version = h.version; readable = readable p q h.version g h.readable; tokens = h.tokens }

  goes_on : (p q : Option Graph) (ts : List Token) (l : Lexeme) → GoesOn (W p) ts l → GoesOn (W q) ts l
  goes_on p q ts (Cut t) h = can_go_on p q _ h
  goes_on p q ts End (g, h) = (g, whole p q ts g h)
  goes_on p q ts Bad h = absurd h

  name_due : (p q : Option Graph) (ts : List Token) → IsNameDue (W p) ts → IsNameDue (W q) ts
  name_due p q ts n = record {
    writing = writing p q n.writing;
    before = n.before;
    name = n.name;
    others = n.others;
    pieces = n.pieces;
    tokens = n.tokens;
  }

  reason_of : (p q : Option Graph) (ts : List Token) (l : Lexeme) (why : TextReason) → IsReason (W p) ts l why → IsReason (W q) ts l why
  reason_of p q ts l reason.TooLong h = absurd h
  reason_of p q ts l reason.BadToken h = h
  reason_of p q ts l reason.OtherName (word, is, due) = (word, is, name_due p q ts due)
  reason_of p q ts l reason.OutOfOrder (c, g, is, h, other) = (c, g, is, whole p q ts g h, other)
  reason_of p q ts l reason.Unnamed (c, g, is, h, next) = (c, g, is, whole p q ts g h, next)
  reason_of p q ts l reason.Expected (some, no_name, no_cell) =
      (some, (λ word is due. no_name word is (name_due q p ts due)), λ c g is h. no_cell c g is (whole q p ts g h))

  first_fault : (p q : Option Graph) (text : List ℕ) (place : ℕ) (why : TextReason) → IsFirstFault (W p) text place why → IsFirstFault (W q) text place why
  first_fault p q text place why f = record {
    short = f.short;
    tokens = f.tokens;
    rest = f.rest;
    begins = f.begins;
    at = f.at;
    begun = can_go_on p q f.tokens f.begun;
    next = f.next;
    is_next = f.is_next;
    stuck = λ h. f.stuck (goes_on q p f.tokens f.next h);
    reason = reason_of p q f.tokens f.next why f.reason;
  }

  pub fault_beside : (p q : Option Graph) (text : List ℕ) (line column : ℕ) (why : TextReason) → IsTextFault (W p) text line column why → IsTextFault (W q) text line column why
  fault_beside p q text line column reason.TooLong h = h
  fault_beside p q text line column reason.BadToken (place, f, at) = (place, first_fault p q text place reason.BadToken f, at)
  fault_beside p q text line column reason.OtherName (place, f, at) = (place, first_fault p q text place reason.OtherName f, at)
  fault_beside p q text line column reason.OutOfOrder (place, f, at) = (place, first_fault p q text place reason.OutOfOrder f, at)
  fault_beside p q text line column reason.Unnamed (place, f, at) = (place, first_fault p q text place reason.Unnamed f, at)
  fault_beside p q text line column reason.Expected (place, f, at) = (place, first_fault p q text place reason.Expected f, at)

  pub path_beside : (p q : Option Graph) (g : Graph) (h : Home) (n : ℕ) (path : List ℕ) → IsPath (W p) g h n path → IsPath (W q) g h n path
  path_beside p q g (home.Root r) n path a = a
  path_beside p q g (home.Cell c) n path a = a
