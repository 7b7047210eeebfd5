-- `shown_of` meets its contract: a named value is read off its key, another class shows the lowest value that is not named. Assumes nothing.
use Prim.Native.Nat.{◌<◌}
use borrow.Author.Rules.{rules}
use native.Mathlib.Omega.{arith}
use mathlib.Core.Path.{◌≡◌, sym, ◌∙◌}
use borrow.Author.Tests.{ltb-true}
use lib.ListN.{length, get_or}
use Rattle.std.proofs.lemmas.List.{get_or_default}
use Rattle.value_classes.proofs.FieldLaws.{field_few, shown_is, shown_lowest}
use Rattle.value_classes.proofs.shown_of.Goals as goal

pub unnamed-requires : goal.unnamed-requires
unnamed-requires c = field_few c.requires.1 c.requires.0 c.part-part.ensures

pub returns-in-Some : goal.returns-in-Some
returns-in-Some c =
    let inside : c.args.class < length c.part-part.result.now = omega (arith, ltb-true _ _ (sym c.in-Some.ensures.lookup.0)) in
    let is : c.in-Some.k.now ≡ get_or c.part-part.result.now c.args.class 0 = (rw c.from.ensures at c.in-Some.ensures.lookup.1) ∙ get_or_default _ _ _ 0 inside in
    rw is (shown_is _ _ _ c.requires.1 c.part-part.ensures _ inside)

pub returns-in-None : goal.returns-in-None
returns-in-None c = shown_lowest _ _ _ c.requires.1 c.part-part.ensures _ _ (search rules) c.unnamed.ensures
