-- What the functions of a visit ask and answer, for every node list that the loaded policy stands for.
use Rattle.std.specs.Prelude.{ℕ, Bool, true, false, ◌&&◌, ◌||◌, List, ◌≡◌, eqb}
use Rattle.policy.specs.declared.FieldAction.{FieldAction}
use Rattle.policy.specs.declared.FieldAction.TheVariants.{Set}
use Rattle.policy.specs.declared.Node.{Node}
use Rattle.policy.specs.declared.Node.TheVariants.{Drop, Id, Field, Dup, Sum, Seq, Star, Neg}
use Rattle.policy.specs.NodeLists.{NodeLists}
use Rattle.packet_set.specs.InnerMembers.{member}
use Rattle.spans.specs.Spans.{slot, Spanned, Holds, Noted}
use Rattle.changes.specs.Changes.{Changed}
use Rattle.engine.specs.declared.Progress.{Progress}
use Rattle.engine.specs.Going.{ThroughLists, VisitReady}

-- the packets that set k lets in, and set 0 lets in all; `some` false: none is left
pub record Admitted (tests : List ℕ) (k from to : ℕ) (set : List ℕ) (some : Bool) (set' : List ℕ) : Type 0 where
  pub kept : Holds from to set' (λ γ. member set γ && (eqb k 0 || slot tests k γ))
  pub none : some ≡ false → Spanned 0 0 set'

-- the set has entered node n, which keeps a slot or none; `some` false: nothing is new
pub record EnteredLists (keeps : Bool) (n from to : ℕ) (set work seen : List ℕ) (some : Bool) (set' work' seen' : List ℕ) : Type 0 where
  pub slotted : keeps ≡ true → Noted n from to work seen set some work' seen' set'
  pub plain : keeps ≡ false → (set' ≡ set) × (work' ≡ work) × (seen' ≡ seen)
  pub none : some ≡ false → Spanned 0 0 set'
  pub spanned : Spanned from to set'

-- the set after a change of a field (an action that is a test is no business of the function)
pub record Acted (sizes : List ℕ) (action : FieldAction) (set : List ℕ) (from to : ℕ) (set' : List ℕ) : Type 0 where
  pub changes : (f v : ℕ) → action ≡ Set f v → Changed sizes f v set from to set'

-- at a node above: the second part of a sequence, or a star itself
unfoldable pub onward : Node → ℕ → ℕ
onward Drop q = q
onward Id q = q
onward (Field a) q = q
onward Dup q = q
onward (Sum l r) q = q
onward (Seq l r) q = r
onward (Star c) q = q
onward (Neg c) q = q

-- a step writes to the same lists all along
abbrev pub SameLists : Progress → Progress → Type 0
SameLists p q = (q.work.ghost_name ≡ p.work.ghost_name) × (q.next.ghost_name ≡ p.next.ghost_name)

module _ (sizes nodes tests : List ℕ) where
  -- a visit may start, for some policy that is loaded
  pub record SomeVisitReady (n from to : ℕ) (set work : List ℕ) : Type 0 where
    pub lists : NodeLists
    pub ready : VisitReady sizes lists nodes tests n from to set work

  -- the set has been sent through node n
  pub record Sent (n from to : ℕ) (set work seen next : List ℕ) (from' to' : ℕ) (set' work' seen' next' : List ℕ) : Type 0 where
    pub sent : (L : NodeLists) → VisitReady sizes L nodes tests n from to set work → ThroughLists sizes L nodes tests n set work seen next from' to' set' work' seen' next'
