-- Sums and sequences over a list of policies, grouped to the left, and what they mean.
use Rattle.std.specs.Prelude.{List, [], ◌∷◌, ◌⊎◌, ◌≡◌}
use Rattle.policy.specs.Tree.{Policy, sum, seq}
use Rattle.policy.specs.Meaning.{Packets, TraceSet, Seq, Traces}

-- p + q₁ + q₂ + ..
unfoldable pub sums : Policy → List Policy → Policy
sums p [] = p
sums p (q ∷ qs) = sums (sum p q) qs

-- p ; q₁ ; q₂ ; ..
unfoldable pub seqs : Policy → List Policy → Policy
seqs p [] = p
seqs p (q ∷ qs) = seqs (seq p q) qs

module _ (P : Packets) where
  -- a trace of one of the policies
  unfoldable pub OneOf : List Policy → TraceSet P
  OneOf [] α t = ⊥
  OneOf (p ∷ ps) α t = Traces P p α t ⊎ OneOf ps α t

  -- a trace of the policies one after the other, each from the last packet of the one before
  unfoldable pub InTurn : List Policy → TraceSet P
  InTurn [] α t = t ≡ α ∷ []
  InTurn (p ∷ ps) α t = Seq P (Traces P p) (InTurn ps) α t
