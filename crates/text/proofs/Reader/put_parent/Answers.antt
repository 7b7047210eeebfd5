-- `Reader::put_parent` meets its contract.
use mathlib.Core.Path.{◌∙◌}
use native.Mathlib.Omega.{arith}
use Rattle.text.proofs.PutLaws.{put_narrow, narrow}
use Rattle.text.proofs.Reader.put_parent.Goals as goal

pub returns : goal.returns
returns c = record { lent = c.put.ensures.lent; nodes = c.put.ensures.nodes ∙ put_narrow _ _ _ _ _ _ _ _ (λ l. (narrow _ c.try_from.ensures c.unwrap_or-first.ensures (omega (arith, l, c.requires.1, c.args.self.now.small_room)), narrow _ c.try_from-2.ensures c.unwrap_or-second.ensures (omega (arith, l, c.requires.2, c.args.self.now.small_room)))) }
