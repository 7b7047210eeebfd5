-- `Reader::negate` meets its contract.
use mathlib.Core.Path.{refl}
use native.Mathlib.Omega.{arith}
use Rattle.text.proofs.PutLaws.{same_lists, same_then}
use Rattle.text.proofs.LoopLaws.{negating_none, negating_more}
use Rattle.text.proofs.Reader.negate.Goals as goal

pub loop-n-init : goal.loop-n-init
loop-n-init c = (same_lists, negating_none c.requires.0)

pub put_parent-requires : goal.put_parent-requires
put_parent-requires c = (c.loop-n.invariant.1.fits, omega arith, omega arith)

pub loop-n-preserved : goal.loop-n-preserved
loop-n-preserved c = (same_then c.loop-n.invariant.0 c.put_parent.ensures.lent, negating_more c.loop-n.invariant.1 c.loop-n.auto.n c.put_parent.ensures.nodes)

pub returns : goal.returns
returns c =
    record {
      lent = c.loop-n.invariant.0;
      nodes = record { step_is = refl; lists_are = c.loop-n.invariant.1.lists_are c.args.count (omega (arith, c.loop-n-test.false, c.loop-n.auto.n-end (omega arith))) };
    }
