-- `mark_at` meets its contract.
use mathlib.Core.Path.{sym, ◌∙◌, ap}
use native.Mathlib.Nat.{le_refl}
use borrow.Author.Tests.{eq-eqb, ne_eqb}
use Rattle.std.specs.Option.{unwrap_or}
use Rattle.tokens.proofs.TokenLaws.{front_alone, front_two}
use Rattle.tokens.proofs.mark_at.Goals as goal
use Rattle.tokens.proofs.mark_at.Goals.{then-b-eq33, else-b-eq33}

pub returns-then-not-is_double : goal.returns-then-not-is_double
returns-then-not-is_double c = λ names. front_alone names _ _ c.requires.0 c.requires.1 (c.unwrap_or-after.ensures ∙ ap (λ o. unwrap_or o 0) c.copied.ensures ∙ c.get.ensures.lookup.4 (le_refl _) 0) (sym c.is_double.ensures ∙ c.if-not-is_double.true) c.lone.ensures

pub returns : goal.returns
returns c = λ names. front_two names _ _ c.requires.0 c.requires.1 (c.unwrap_or-after.ensures ∙ ap (λ o. unwrap_or o 0) c.copied.ensures ∙ c.get.ensures.lookup.4 (le_refl _) 0) (sym c.is_double.ensures ∙ c.if-not-is_double.false)
    (elim c.if-b-eq33.branch [ then-b-eq33 w ↦ w.comparison-is ∙ sym (rw (eq-eqb _ _ w.if-b-eq33.true)) | else-b-eq33 w ↦ w.comparison-is ∙ sym (rw (ne_eqb _ _ w.if-b-eq33.false)) ])
