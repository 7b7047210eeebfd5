-- `note_field` meets its contract. Assumes nothing.
use Prim.Native.Nat.{ℕ}
use mathlib.Core.Path.{sym, subst}
use native.Mathlib.Omega.{arith}
use lib.ListN.{set, get_or}
use Rattle.mentions.specs.Noting.{FieldNoted}
use Rattle.mentions.proofs.Noting.{field_noted, field_beyond}
use Rattle.mentions.proofs.note_field.Goals as goal

pub returns-then-f-sizes : goal.returns-then-f-sizes
returns-then-f-sizes c =
    subst (λ (f : ℕ). FieldNoted c.args.sizes.now c.args.field c.args.core.now (set c.args.core.now f (get_or c.args.sizes.now f 0))) (sym c.from-f.ensures) (field_noted _ _ _ c.requires (omega (arith, c.from-f.ensures)))

pub returns-else-f-sizes : goal.returns-else-f-sizes
returns-else-f-sizes c = field_beyond _ _ _ (omega (arith, c.from-f.ensures))
