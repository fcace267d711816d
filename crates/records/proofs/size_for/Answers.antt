-- `records::size_for` meets its contract. Assumes nothing.
use mathlib.Core.Path.{◌∙◌, ap}
use Rattle.rules.specs.Records.{size_of}
use Rattle.records.proofs.Reading.{known_size}
use Rattle.records.proofs.size_for.Goals as goal

pub returns : goal.returns
returns c = c.size_of.ensures ∙ ap size_of c.kind_of.ensures ∙ known_size _
