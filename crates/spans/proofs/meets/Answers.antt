-- `meets` meets its contract: if no word of the span has a bit of the slot, the set has nothing of it. Assumes nothing.
use Prim.Native.Nat.{ℕ, ◌+◌, ◌*◌}
use mathlib.Core.Path.{◌≡◌, refl}
use lib.Bits.{bit_and}
use lib.ListN.{get_or}
use borrow.Author.Rules.{rules}
use borrow.Author.Tests.{tests}
use Rattle.std.proofs.lemmas.Iterator.{cases_from_any, YieldsList-from_range}
use Rattle.spans.proofs.Sets.{apart, in_range}
use Rattle.spans.proofs.meets.Goals as goal

pub returns : goal.returns
returns c =
    let zero = λ (i : ℕ). ◌≡◌ {A = ℕ} (bit_and (get_or c.args.set.now i 0) (get_or c.args.tests.now (32 * c.args.k + i) 0)) 0 in
    let w = cases_from_any _ _ _ (λ i. Unit {0}) zero c.any.ensures.ran (YieldsList-from_range c.args.span.from c.args.span.to _ refl refl) (λ x q k. tt) (λ x q k. search (rules, tests)) in
    λ e. apart _ _ _ _ _ c.requires.1 (in_range zero _ _ _ _ w e)
