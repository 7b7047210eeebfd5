-- `find` meets its contract: no cell below `f` holds the word. Assumes nothing.
use mathlib.Core.Path.{◌≡◌}
use Rattle.std.proofs.Common.{None}
use Rattle.packet.specs.Lowest.{lowest}
use Rattle.fields.proofs.NameLaws.{bears}
use Rattle.fields.proofs.names.find.Given as goal

abbrev pub invariant-loop-f : goal.invariant-loop-f
invariant-loop-f l = lowest (bears l.cells l.w) l.f ≡ None
