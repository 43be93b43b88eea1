use Rattle.std.proofs.Common.{◌≡◌, ◌++◌, drop}
use Rattle.nd_value.specs.Setting.{Setting}
use Rattle.ndr_explain.specs.Explained.{explanation_over}
use Rattle.ndr_explain.specs.Cursors.{IsSettingOf, IsLast}
use Rattle.ndr_explain.proofs.explaining.explain_over.Given as goal

abbrev pub invariant-loop-at : goal.invariant-loop-at
invariant-loop-at l =
    (w : Setting) → IsSettingOf l.interface l.fit w
    → (l.text ++ explanation_over w l.fit.graph l.octets (drop l.at l.items.items) ≡ explanation_over w l.fit.graph l.octets l.items.items) × IsLast w l.fit.graph l.last
