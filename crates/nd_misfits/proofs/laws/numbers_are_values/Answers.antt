use Rattle.nd_misfits.proofs.Numbered as laws
use Rattle.nd_misfits.proofs.laws.numbers_are_values.Goals as goal

pub returns : goal.returns
returns c = record { values = laws.are_numbers; agreements = λ w g numbers vars h. laws.agreements_are w g numbers h vars }
