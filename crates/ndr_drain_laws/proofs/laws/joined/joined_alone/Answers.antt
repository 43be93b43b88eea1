use Rattle.ndr_drain_laws.proofs.joined.Alone.{joined_alone}
use Rattle.ndr_drain_laws.proofs.laws.joined.joined_alone.Goals as goal

pub returns : goal.returns
returns c = λ w side order head g parts it canonical all. joined_alone w side order head g parts it canonical all
