-- What holds on both sides.
use mathlib.Core.Bool.{Bool, true, ◌&&◌}
use mathlib.Core.Path.{◌≡◌, refl, ap₂}
use Rattle.packet.proofs.Tests.{and_true}
use Rattle.pair.specs.Sides.{Side, left, right, Pair, at, each, on_both}

pub at_each : {A : Type 0} (f : Side → A) (s : Side) → at s (each f) ≡ f s
unfolding at
at_each f left = refl
at_each f right = refl

pub on_both_true : (test : Side → Bool) → on_both test ≡ true → (s : Side) → test s ≡ true
unfolding on_both
on_both_true test e left = (and_true (test left) (test right) e).0
on_both_true test e right = (and_true (test left) (test right) e).1

pub and_both : {a b : Bool} → a ≡ true → b ≡ true → (a && b) ≡ true
and_both p q = rw (p, q) refl

pub true_on_both : (test : Side → Bool) → ((s : Side) → test s ≡ true) → on_both test ≡ true
unfolding on_both
true_on_both test f = and_both (f left) (f right)

-- pairs that agree on each side
pub same_pair : {A : Type 0} (x y : Pair A) → ((s : Side) → at s x ≡ at s y) → x ≡ y
unfolding at
same_pair {A} x y f = ap₂ (λ (a b : A). record { left = a; right = b }) (f left) (f right)
