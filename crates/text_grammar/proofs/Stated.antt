-- The laws of texts that the crates above cite.
use Rattle.std.proofs.Common.{◌≡◌, ℕ, ◌-◌, ◌≤◌, List, [], length}
use Rattle.nd_value.specs.declared.value.Graph.{Graph}
use Rattle.nd_value.specs.Setting.{Setting}
use Rattle.nd_grammar.specs.LegalSide.{IsLegalSide}
use Rattle.text_grammar.specs.declared.fault.TextReason.{TextReason}
use Rattle.text_grammar.specs.declared.TheConstants.{TEXT_LIMIT}
use Rattle.text_grammar.specs.Reads.{ReadsAs, IsFirstFault, IsTextFault}
use Rattle.text_grammar.specs.Dues.{nothing_read}
use Rattle.text_grammar.specs.Reader.{Stopped, ComesTo}
use Rattle.text_grammar.proofs.OneText as text
use Rattle.text_grammar.proofs.OneGraph as graph
use Rattle.text_grammar.proofs.OneFault.{one_text_fault}
use Rattle.text_grammar.proofs.Faults as faults

-- a text is read as one graph at most
pub one_graph : (w : Setting) (text : List ℕ) (g h : Graph) → IsLegalSide w → ReadsAs w text g → ReadsAs w text h → g ≡ h
one_graph w text g h side a b = graph.one_graph w text g h a b

-- a text has one fault at most
pub one_fault : (w : Setting) (text : List ℕ) (line line' column column' : ℕ) (why why' : TextReason) → IsLegalSide w → IsTextFault w text line column why → IsTextFault w text line' column' why'
    → (line ≡ line') × (column ≡ column') × (why ≡ why')
one_fault w text line line' column column' why why' side f g = one_text_fault w text line line' column column' why why' f g

-- where a text stops it has its first fault
pub first_fault : (w : Setting) (text : List ℕ) (left : ℕ) (why : TextReason) → IsLegalSide w → length text ≤ TEXT_LIMIT
    → ComesTo w.table (nothing_read w) [] text (Stopped left why) → IsFirstFault w text (length text - left) why
first_fault w text left why side short h = faults.first_fault w side text short left why h
