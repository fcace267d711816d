use Rattle.columns.proofs.get.Goals as goal

pub returns : goal.returns
returns c = cc
