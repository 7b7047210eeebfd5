use Rattle.loaded.proofs.sets.+test_set.Given as goal

abbrev pub decreases-test_set : goal.decreases-test_set
decreases-test_set l = l.n
