-- `evidence::bounds_of` meets its contract. Assumes nothing.
use mathlib.Core.List.{[], ◌∷◌}
use Rattle.evidence.proofs.Reading.{bounds_none, bounds_all}
use Rattle.evidence.proofs.bounds_of.Goals as goal

pub returns-in-Err : goal.returns-in-Err
returns-in-Err c = bounds_none _ _ _ _ c.lists_stage-lists.ensures c.in-Err.ensures

pub returns-in-Ok : goal.returns-in-Ok
returns-in-Ok c = bounds_all _ _ _ _ c.lists_stage-lists.ensures c.in-Ok.ensures {dups = c.from.result ∷ c.from-in-Ok.result ∷ []} (λ k. c.from.ensures k ∷ c.from-in-Ok.ensures k ∷ [])
