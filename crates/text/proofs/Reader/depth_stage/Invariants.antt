-- `Reader::depth_stage` meets its contract.
use Prim.Native.Nat.{◌≤◌, ◌-◌}
use mathlib.Core.Path.{◌≡◌}
use lib.ListN.{length}
use Rattle.fields.specs.Names.{names_in}
use Rattle.grammar.specs.Tokens.{tokens, tokens_from}
use Rattle.grammar.specs.Answer.{deep_place}
use Rattle.text.proofs.Reader.depth_stage.Given as goal

abbrev pub invariant-loop-t : goal.invariant-loop-t
invariant-loop-t l = (l.at ≤ length l.self.text.now) × (l.n ≤ 64) × (deep_place 0 (tokens (names_in l.self.names.now) l.self.text.now) ≡ deep_place l.n (tokens_from (names_in l.self.names.now) l.self.text.now l.at))

abbrev pub decreases-loop-t : goal.decreases-loop-t
decreases-loop-t l = length l.self.text.now - l.at
