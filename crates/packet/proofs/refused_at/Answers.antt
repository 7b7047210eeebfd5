-- `packet::refused_at` meets its contract, case by case.
-- Assumes nothing.
use Rattle.std.specs.Prelude.{Option}
use mathlib.Core.Path.{ap, sym}
use Prim.Native.Nat.{ℕ}
use Rattle.packet.specs.Refusals.{refused_at, refusal}
use Rattle.packet.proofs.refused_at.Goals as goal

pub returns-in-Some : goal.returns-in-Some
unfolding refused_at refusal
returns-in-Some c = sym (ap (λ (p : Option ℕ). refused_at c.args.number c.args.side p) c.in-Some.is)

pub returns-in-None : goal.returns-in-None
unfolding refused_at
returns-in-None c = sym (ap (λ (p : Option ℕ). refused_at c.args.number c.args.side p) c.in-None.is)
