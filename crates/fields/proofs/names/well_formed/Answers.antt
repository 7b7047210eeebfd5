-- `well_formed` meets its contract. Assumes nothing.
use mathlib.Core.Bool.{Bool, ◌&&◌}
use mathlib.Core.Path.{sym, ap, ◌∙◌}
use Rattle.fields.specs.Bytes.{is_small}
use Rattle.fields.specs.Names.{well_formed, all_small_or_digit}
use Rattle.fields.proofs.NameLaws.{no_name}
use Rattle.fields.proofs.names.well_formed.Goals as goal

pub returns-then-is_ascii_lowercase : goal.returns-then-is_ascii_lowercase
unfolding well_formed is_small
returns-then-is_ascii_lowercase c =
    c.all_small_or_digit.ensures
    ∙ sym (ap well_formed c.in-Some.ensures.cases.0 ∙ ap (λ (b : Bool). b && all_small_or_digit c.in-Some.rest.now) (sym c.is_ascii_lowercase.ensures.value ∙ c.if-is_ascii_lowercase.true))

pub returns-else-is_ascii_lowercase : goal.returns-else-is_ascii_lowercase
unfolding well_formed is_small
returns-else-is_ascii_lowercase c =
    c.if-is_ascii_lowercase.false
    ∙ sym (ap well_formed c.in-Some.ensures.cases.0 ∙ ap (λ (b : Bool). b && all_small_or_digit c.in-Some.rest.now) (sym c.is_ascii_lowercase.ensures.value ∙ c.if-is_ascii_lowercase.false))

pub returns-in-None : goal.returns-in-None
returns-in-None c = sym (no_name _ c.in-None.ensures.cases)
