-- `onward` meets its contract. Assumes nothing.
use Prim.Native.Nat.{ℕ}
use mathlib.Core.Path.{◌≡◌, refl}
use borrow.Author.Rules.{rules}
use Rattle.policy.specs.declared.Node.{Node}
use Rattle.policy.specs.declared.Node.TheVariants.{Drop, Id, Field, Dup, Sum, Seq, Star, Neg}
use Rattle.engine.specs.Visiting.{onward}
use Rattle.engine.proofs.onward.Goals as goal

no_seq : (node : Node) (above : ℕ) → ((l r : ℕ) → node ≡ Seq l r → ⊥) → above ≡ onward node above
unfolding onward
no_seq Drop above n = refl
no_seq Id above n = refl
no_seq (Field a) above n = refl
no_seq Dup above n = refl
no_seq (Sum l r) above n = refl
no_seq (Seq l r) above n = absurd (n l r refl)
no_seq (Star c) above n = refl
no_seq (Neg c) above n = refl

pub returns-in-Seq : goal.returns-in-Seq
unfolding onward
returns-in-Seq c = search rules

pub returns-in_default : goal.returns-in_default
returns-in_default c = no_seq _ _ c.in_default.not-Seq
