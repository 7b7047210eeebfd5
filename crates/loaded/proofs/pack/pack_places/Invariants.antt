-- `pack_places` meets its contract. Assumes nothing.
use Rattle.loaded.proofs.Writing.{Listing}
use Rattle.loaded.proofs.pack.pack_places.Given as goal

abbrev pub invariant-loop-i : goal.invariant-loop-i
invariant-loop-i l = Listing l.places l.initial.nodes l.nodes l.i
