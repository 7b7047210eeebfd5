-- `Reader::token_stage` meets its contract. The loop's invariant: a bad token lies before the present byte nowhere.
use Prim.Native.Nat.{◌≤◌, ◌-◌}
use mathlib.Core.Path.{◌≡◌}
use lib.ListN.{length}
use Rattle.fields.specs.Names.{names_in}
use Rattle.grammar.specs.Tokens.{tokens, tokens_from}
use Rattle.grammar.specs.Answer.{bad_place}
use Rattle.text.proofs.Reader.token_stage.Given as goal

abbrev pub invariant-loop-t : goal.invariant-loop-t
invariant-loop-t l = (l.at ≤ length l.self.text.now) × (bad_place (tokens (names_in l.self.names.now) l.self.text.now) ≡ bad_place (tokens_from (names_in l.self.names.now) l.self.text.now l.at))

abbrev pub decreases-loop-t : goal.decreases-loop-t
decreases-loop-t l = length l.self.text.now - l.at
