-- `Reader::negate` meets its contract.
use Rattle.text.specs.Inner.{lists, SameLists}
use Rattle.text.proofs.LoopLaws.{Negating}
use Rattle.text.proofs.Reader.negate.Given as goal

abbrev pub invariant-loop-n : goal.invariant-loop-n
invariant-loop-n l = SameLists l.initial.out l.out × Negating l.self.room l.r.nodes (lists l.initial.out) (lists l.out) l.n
