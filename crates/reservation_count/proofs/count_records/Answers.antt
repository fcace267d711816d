-- `reservation_count::count_records` meets its contract. Assumes nothing.
use Rattle.reservation_count.proofs.Laws.Counts.{chains_at, sum_at, counted}
use Rattle.reservation_count.proofs.count_records.Goals as goal

pub chain_all-memories-requires : goal.chain_all-memories-requires
chain_all-memories-requires c = chains_at _ _ _ _ c.requires _ _ (c.fill.ensures.after (λ y e. e)) (c.fill-2.ensures.after (λ y e. e))

pub sum_all-duplicates-requires : goal.sum_all-duplicates-requires
sum_all-duplicates-requires c = sum_at _ _ _ _ c.requires _ _ (c.fill.ensures.after (λ y e. e)) (c.fill-2.ensures.after (λ y e. e)) _ _ _ c.chain_all-memories.ensures

pub returns : goal.returns
returns c = counted _ _ _ _ c.requires _ _ (c.fill.ensures.after (λ y e. e)) (c.fill-2.ensures.after (λ y e. e)) _ _ _ c.chain_all-memories.ensures _ _ c.sum_all-duplicates.ensures _ _ _ (c.fill-3.ensures.after (λ y e. e)) (c.fill-4.ensures.after (λ y e. e)) (c.fill-5.ensures.after (λ y e. e))
