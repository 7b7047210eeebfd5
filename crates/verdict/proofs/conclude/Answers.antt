-- `conclude` meets its contract. Assumes nothing.
use Rattle.pair.specs.Sides.{left, right}
use Rattle.verdict.specs.InnerEnding.{ReadableAt}
use Rattle.verdict.proofs.Reporting.{ends_done, ends_full, ends_unstarted, ends_telling, reads}
use Rattle.verdict.proofs.conclude.Goals as goal

pub tell-requires : goal.tell-requires
unfolding ReadableAt
tell-requires c = reads _ _ _ c.requires c.in-Left.is

pub tell-requires-in-Right : goal.tell-requires-in-Right
unfolding ReadableAt
tell-requires-in-Right c = reads _ _ _ c.requires c.in-Right.is

pub depth-requires : goal.depth-requires
unfolding ReadableAt
depth-requires c = let r = reads _ _ _ c.requires c.in-Full.is in record { rooted = r.rooted; h_lt_listed = r.inside }

pub returns-in-Done : goal.returns-in-Done
returns-in-Done c = ends_done _ _ _ _ _ _ c.in-Done.is

pub returns-in-Left : goal.returns-in-Left
returns-in-Left c = ends_telling _ _ _ _ _ left _ c.in-Left.is _ _ c.tell.ensures

pub returns-in-Right : goal.returns-in-Right
returns-in-Right c = ends_telling _ _ _ _ _ right _ c.in-Right.is _ _ c.tell-in-Right.ensures

pub returns-in-Full : goal.returns-in-Full
returns-in-Full c = ends_full _ _ _ _ _ c.in-Full.is c.depth.ensures c.full.ensures

pub returns-in-Unstarted : goal.returns-in-Unstarted
returns-in-Unstarted c = ends_unstarted _ _ _ _ _ c.in-Unstarted.is c.full-in-Unstarted.ensures
