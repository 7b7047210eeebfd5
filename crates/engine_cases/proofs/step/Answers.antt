-- `engine_cases::step`: a legal policy and a packet below N are what a step asks. Assumes nothing.
use Prim.Native.Nat.{ℕ}
use native.Mathlib.Omega.{arith}
use lib.Dec.{lit≤}
use lib.ListN.{length-replicate, get_or-replicate}
use Rattle.spans.proofs.Sets.{no_packet}
use Rattle.engine_cases.proofs.step.Goals as goal

pub step-requires : goal.step-requires
step-requires c =
    let legal = c.in-Ok.ensures in
    record {
      lists = _;
      stands = record { legal_sizes = legal.0; legal = legal.1; loaded = c.load.ensures; packet = omega (arith, legal.2, c.if-count-packet.false) };
      spanned = rw c.empty-out.ensures (no_packet 0);
      long = lit≤ tt;
      marks_long = length-replicate {A = ℕ} 1056 0;
      zero = λ i h. get_or-replicate 16384 i 0 0 h;
    }
