-- `load` meets its contract: the passes say of each node what a loaded policy asks. Assumes nothing.
use Rattle.loaded.proofs.Trees.{legal_formed}
use Rattle.loaded.proofs.Assembly.{fitting, loaded}
use Rattle.loaded.proofs.load.Goals as goal

pub pack_nodes-requires : goal.pack_nodes-requires
pack_nodes-requires c = (fitting _ _ _ _ _ (record { formed = legal_formed _ _ c.requires.1; alone_is = c.tests_alone-alone.ensures; ways = c.ways_up-ups.ensures; labels_are = c.labels_of-labels.ensures; places_are = c.places_of-places.ensures }) _ _ _ _ c.number-sets.ensures c.guards_of-guards.ensures _ c.second_parts-parts.ensures, c.requires.3)

pub returns : goal.returns
returns c = loaded _ _ _ _ _ (record { formed = legal_formed _ _ c.requires.1; alone_is = c.tests_alone-alone.ensures; ways = c.ways_up-ups.ensures; labels_are = c.labels_of-labels.ensures; places_are = c.places_of-places.ensures }) _ _ _ _ c.number-sets.ensures c.guards_of-guards.ensures _ _ _ c.pack_nodes.ensures c.pack_places.ensures
