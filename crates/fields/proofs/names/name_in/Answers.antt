-- `name_in` meets its contract: the cell's first byte says how long its name is. Assumes nothing.
use Prim.Native.Nat.{ℕ, ◌+◌, ◌-◌}
use native.Mathlib.Omega.{arith}
use mathlib.Core.Path.{ap, ◌∙◌}
use lib.ListN.{take, drop}
use Rattle.fields.proofs.NameLaws.{long_name, name_cut}
use Rattle.fields.proofs.names.name_in.Goals as goal

pub returns-then-n-gt15 : goal.returns-then-n-gt15
returns-then-n-gt15 c = long_name _ (omega (arith, c.from-n.ensures))

pub returns : goal.returns
returns c =
    ap (λ (k : ℕ). take (k + 1 - 1) (drop 1 c.args.cell.now)) c.from-n.ensures ∙ name_cut _ c.requires (omega (arith, c.from-n.ensures))
