-- `forget` meets its contract. Assumes nothing.
use mathlib.Core.Path.{◌∙◌, ap}
use Rattle.packet_set.specs.InnerMembers.{words_for}
use Rattle.compare.proofs.Comparing.{forget_left, forget_right, forgotten}
use Rattle.compare.proofs.forget.Goals as goal

pub forget-requires : goal.forget-requires
forget-requires c =
    let both = forget_left c.requires.0 c.requires.1 (c.words_for-words.ensures ∙ ap words_for c.from.ensures) in
    record { words_bound = both.0; marking = both.1 }

pub forget-requires-2 : goal.forget-requires-2
forget-requires-2 c =
    let both = forget_right c.requires.0 c.requires.1 (c.words_for-words.ensures ∙ ap words_for c.from.ensures) _ in
    record { words_bound = both.0; marking = both.1 }

pub returns : goal.returns
returns c = forgotten c.requires.0 c.requires.1 (c.words_for-words.ensures ∙ ap words_for c.from.ensures) _ _ c.forget.ensures c.forget-2.ensures
