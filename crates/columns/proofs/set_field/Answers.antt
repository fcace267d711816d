use Rattle.columns.proofs.set_field.Goals as goal

pub returns : goal.returns
returns c = cc
