-- `Reader::negations` meets its contract.
use Prim.Native.Nat.{◌-◌}
use lib.ListN.{length}
use Rattle.fields.specs.Names.{names_in}
use Rattle.text.proofs.StepLaws.{Marked}
use Rattle.text.proofs.Reader.negations.Given as goal

abbrev pub invariant-loop-count : goal.invariant-loop-count
invariant-loop-count l = Marked (names_in l.self.names.now) l.self.text.now l.at l.count l.token

abbrev pub decreases-loop-count : goal.decreases-loop-count
decreases-loop-count l = length l.self.text.now - l.token.next
