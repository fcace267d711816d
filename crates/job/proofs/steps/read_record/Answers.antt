-- `job::steps::read_record` meets its contract. Assumes nothing.
use mathlib.Core.Path.{sym, ◌∙◌}
use Rattle.job.proofs.Laws.Steps.{record_lost, record_unknown, record_at, record_as}
use Rattle.job.proofs.steps.read_record.Goals as goal

pub returns-then-bytes-at-lt3 : goal.returns-then-bytes-at-lt3
returns-then-bytes-at-lt3 c = record_lost c.requires c.if-bytes-at-lt3.true

pub returns-then-size-eq0 : goal.returns-then-size-eq0
returns-then-size-eq0 c = record_unknown c.requires c.if-bytes-at-lt3.false c.field-kind.ensures (sym c.size_for-size.ensures ∙ c.if-size-eq0.true)

pub read_fields-requires : goal.read_fields-requires
read_fields-requires c = rw c.number_width.ensures (record_at c.requires c.if-bytes-at-lt3.false c.field-kind.ensures)

pub returns : goal.returns
returns c = record_as c.requires c.if-bytes-at-lt3.false c.field-kind.ensures c.size_for-size.ensures c.number_width.ensures c.if-size-eq0.false _ c.store.ensures _ _ c.read_fields.ensures
