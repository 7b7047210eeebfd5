-- `read_all` meets its contract.
use Prim.Native.Nat.{ℕ}
use mathlib.Core.Path.{◌≡◌, refl, subst}
use native.Mathlib.Omega.{arith}
use Rattle.netkat.specs.InnerReading.{GoneOn, to_end, endless}
use Rattle.netkat.proofs.Growing.{last_within, kept_within, none_yet, one_more}
use Rattle.netkat.proofs.read_all.Goals as goal

pub loop-init : goal.loop-init
loop-init c = (omega arith, none_yet _)

pub returns-in-Break : goal.returns-in-Break
returns-in-Break c = (last_within c.loop.invariant.0 c.in-Break.ensures, to_end c.loop.counter c.loop.len c.loop.input c.loop.invariant.1 c.in-Break.ensures)

pub loop-preserved : goal.loop-preserved
loop-preserved c = (kept_within c.loop.invariant.0 c.in-Continue.ensures, one_more c.loop.counter c.args.input.now c.loop.invariant.1 c.in-Continue.ensures)

pub returns : goal.returns
returns c =
    let e : c.loop.counter ≡ 18446744073709551615 = omega arith in
    (omega arith, endless c.loop.len (subst (λ (k : ℕ). GoneOn k c.args.input.now c.loop.len c.loop.input) e c.loop.invariant.1) refl)
