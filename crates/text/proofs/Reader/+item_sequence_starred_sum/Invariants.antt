use Prim.Native.Nat.{◌+◌, ◌*◌}
use lib.ListN.{length}
use Rattle.fields.specs.Names.{names_in}
use Rattle.grammar.specs.Tokens.{tokens_from}
use Rattle.text.specs.Inner as level
use Rattle.text.specs.Inner.{lists, SameLists, Got}
use Rattle.text.proofs.Reader.+item_sequence_starred_sum.Given as goal

abbrev pub invariant-sequence-loop-next : goal.invariant-sequence-loop-next
invariant-sequence-loop-next l = SameLists l.fn.out l.out × Got (names_in l.self.names.now) l.self.text.now level.joined l.at l.nodes l.self.room (lists l.fn.out) (lists l.out) l.s

abbrev pub decreases-sequence-loop-next : goal.decreases-sequence-loop-next
decreases-sequence-loop-next l = length (tokens_from (names_in l.self.names.now) l.self.text.now l.s.at)

abbrev pub invariant-starred-loop-next : goal.invariant-starred-loop-next
invariant-starred-loop-next l = SameLists l.fn.out l.out × Got (names_in l.self.names.now) l.self.text.now level.item l.at l.nodes l.self.room (lists l.fn.out) (lists l.out) l.s

abbrev pub decreases-starred-loop-next : goal.decreases-starred-loop-next
decreases-starred-loop-next l = length (tokens_from (names_in l.self.names.now) l.self.text.now l.s.at)

abbrev pub invariant-sum-loop-next : goal.invariant-sum-loop-next
invariant-sum-loop-next l = SameLists l.fn.out l.out × Got (names_in l.self.names.now) l.self.text.now level.added l.at l.nodes l.self.room (lists l.fn.out) (lists l.out) l.s

abbrev pub decreases-sum-loop-next : goal.decreases-sum-loop-next
decreases-sum-loop-next l = length (tokens_from (names_in l.self.names.now) l.self.text.now l.s.at)

abbrev pub decreases-item : goal.decreases-item
decreases-item l = 4 * length (tokens_from (names_in l.self.now.names.now) l.self.now.text.now l.at)

abbrev pub decreases-starred : goal.decreases-starred
decreases-starred l = 4 * length (tokens_from (names_in l.self.now.names.now) l.self.now.text.now l.at) + 1

abbrev pub decreases-sequence : goal.decreases-sequence
decreases-sequence l = 4 * length (tokens_from (names_in l.self.now.names.now) l.self.now.text.now l.at) + 2

abbrev pub decreases-sum : goal.decreases-sum
decreases-sum l = 4 * length (tokens_from (names_in l.self.now.names.now) l.self.now.text.now l.at) + 3
