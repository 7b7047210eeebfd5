-- `keep_if_named` meets its contract. Assumes nothing.
use native.Mathlib.Omega.{arith}
use Prim.Native.Nat.{ℕ, ◌+◌, ◌-◌}
use mathlib.Core.Path.{◌≡◌, sym, ap, ◌∙◌}
use lib.ListN.{take, drop}
use Rattle.fields.specs.Names.{cell_name, is_named, names_in}
use Rattle.fields.proofs.TableLaws.{kept, cleared}
use Rattle.fields.proofs.keep_if_named.Goals as goal

pub returns-then-not-is_named : goal.returns-then-not-is_named
returns-then-not-is_named c =
    let sixteen : 16 ≡ c.args.at + 16 - c.args.at = omega arith in
    cleared (names_in c.args.table.now) c.args.cells.now c.args.at (ap (λ (k : ℕ). is_named (names_in c.args.table.now) (cell_name (take k (drop c.args.at c.args.cells.now)))) sixteen ∙ sym (c.is_named.ensures ∙ ap (is_named (names_in c.args.table.now)) c.name_in.ensures) ∙ c.if-not-is_named.true)

pub returns-else-not-is_named : goal.returns-else-not-is_named
returns-else-not-is_named c =
    let sixteen : 16 ≡ c.args.at + 16 - c.args.at = omega arith in
    kept (names_in c.args.table.now) c.args.cells.now c.args.at (ap (λ (k : ℕ). is_named (names_in c.args.table.now) (cell_name (take k (drop c.args.at c.args.cells.now)))) sixteen ∙ sym (c.is_named.ensures ∙ ap (is_named (names_in c.args.table.now)) c.name_in.ensures) ∙ c.if-not-is_named.false)
