-- `word_at` meets its contract.
use native.Mathlib.Nat.{le_of_lt}
use Rattle.tokens.proofs.TokenLaws.{front_word, word_within}
use Rattle.tokens.proofs.word_at.Goals as goal

pub slice_bounds-word_token-end : goal.slice_bounds-word_token-end
slice_bounds-word_token-end c = word_within _ _ _ (le_of_lt c.requires.1) c.word_end-next.ensures

pub returns : goal.returns
returns c = front_word _ _ _ _ c.requires.1 c.requires.2 c.word_end-next.ensures c.word_token.ensures
