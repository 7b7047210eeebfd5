-- `follow_whole` meets its contract. Assumes nothing.
use mathlib.Core.Path.{refl}
use native.Mathlib.Omega.{arith}
use Rattle.engine.proofs.Leaving.{sent_spanned}
use Rattle.engine.proofs.Following.{root_fits, root_ready, single_spanned, whole_followed}
use Rattle.engine.proofs.follow_whole.Goals as goal

pub overflow_cast-root : goal.overflow_cast-root
overflow_cast-root c = omega (arith, root_fits c.requires.stands)

pub through-came-requires : goal.through-came-requires
through-came-requires c = record { some_visit_ready = record { lists = c.requires.lists; ready = root_ready c.requires.stands c.singleton-set.ensures refl (single_spanned _ c.singleton-set.ensures c.span_of.ensures) c.requires.long }; seen_len = c.requires.arrays }

pub join-requires : goal.join-requires
join-requires c = (c.requires.spanned, sent_spanned c.through-came.ensures.sent c.requires.lists (root_ready c.requires.stands c.singleton-set.ensures refl (single_spanned _ c.singleton-set.ensures c.span_of.ensures) c.requires.long))

pub returns-clause-stepped : goal.returns-clause-stepped
returns-clause-stepped c = whole_followed c.requires.lists c.requires.stands c.singleton-set.ensures refl (single_spanned _ c.singleton-set.ensures c.span_of.ensures) c.requires.long c.through-came.ensures.sent c.join.ensures
