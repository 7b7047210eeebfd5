-- `has_other` meets its contract. Assumes nothing.
use native.Mathlib.Omega.{arith}
use mathlib.Core.Path.{sym, ap, ◌∙◌}
use Rattle.fields.specs.Tables.{another}
use Rattle.fields.proofs.TableLaws.{size_below}
use Rattle.fields.proofs.has_other.Goals as goal

pub offset_bounds-table-j : goal.offset_bounds-table-j
offset_bounds-table-j c = omega (arith, size_below _ _ _ _ c.requires (sym c.find.ensures ∙ c.in-Some.is))

pub bounds-table-j : goal.bounds-table-j
bounds-table-j c = size_below _ _ _ _ c.requires (sym c.find.ensures ∙ c.in-Some.is)

pub returns-in-Some : goal.returns-in-Some
unfolding another
returns-in-Some c = sym (ap (another _ _) (sym c.find.ensures ∙ c.in-Some.is))

pub returns-in-None : goal.returns-in-None
unfolding another
returns-in-None c = sym (ap (another _ _) (sym c.find.ensures ∙ c.in-None.is))
