use Rattle.columns.proofs.is_in.Goals as goal

pub returns : goal.returns
returns c = cc
