-- `clear_slot` meets its contract. Assumes nothing.
use Prim.Native.Nat.{ℕ, ◌+◌, ◌-◌, ◌*◌}
use mathlib.Core.Path.{◌≡◌, ap, ◌∙◌}
use native.Mathlib.Omega.{arith}
use lib.ListN.{length, take, drop, replicate, length-drop}
use lib.Seq.{length-take-le}
use Rattle.spans.proofs.Slots.{cleared}
use Rattle.spans.proofs.clear_slot.Goals as goal

pub returns : goal.returns
returns c =
    let k : 32 * c.args.n + 32 - 32 * c.args.n ≡ 32 = omega arith in
    let m : length (take 32 (drop (32 * c.args.n) c.args.work.now)) ≡ 32 = length-take-le 32 (drop (32 * c.args.n) c.args.work.now) (omega (arith, length-drop (32 * c.args.n) c.args.work.now)) in
    rw k (cleared _ _ _ (omega arith) ((rw k at c.fill.ensures.after (λ y q. q)) ∙ ap (λ (n : ℕ). replicate {A = ℕ} n 0) m))
