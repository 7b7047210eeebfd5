-- `tables::read` meets its contract.
use Prim.Native.Nat.{◌-◌}
use mathlib.Core.Path.{◌≡◌}
use lib.ListN.{length}
use Rattle.input.proofs.TableLaws.{SoFar}
use Rattle.input.proofs.tables.read.Given as goal

abbrev pub invariant-loop-count : goal.invariant-loop-count
invariant-loop-count l = (SoFar l.line l.cells l.sizes l.count l.at) × (length l.cells ≡ length l.initial.cells) × (length l.sizes ≡ length l.initial.sizes)

abbrev pub decreases-loop-count : goal.decreases-loop-count
decreases-loop-count l = length l.line - l.at
