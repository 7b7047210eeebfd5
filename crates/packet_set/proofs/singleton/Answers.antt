-- `singleton` meets its contract. Assumes nothing.
use mathlib.Core.Path.{ap, ◌∙◌}
use mathlib.Core.List.{List}
use Prim.Native.Nat.{ℕ}
use Rattle.packet_set.specs.InnerMembers.{with_packet}
use Rattle.packet_set.proofs.singleton.Goals as goal

pub returns : goal.returns
returns c = c.insert.ensures ∙ ap (λ (s : List ℕ). with_packet s c.args.packet) c.empty-set.ensures
