use Rattle.value_text.proofs.Endings.{one, graph_comes, whole, stopped}
use Rattle.value_text.proofs.laws.token_by_token.Goals as goal

pub returns-clause-one : goal.returns-clause-one
returns-clause-one c = one

pub returns-clause-whole : goal.returns-clause-whole
returns-clause-whole c = λ w text x side short h. whole w text side short x h

pub returns-clause-back : goal.returns-clause-back
returns-clause-back c = λ w text g side r. graph_comes w text g r

pub returns-clause-stopped : goal.returns-clause-stopped
returns-clause-stopped c = λ w text left why side short h. stopped w text side short left why h
