-- The longest answer fits, and what is known of a verdict holds of the case that it is. Assumes nothing.
use Prim.Native.Nat.{ℕ, ◌+◌, ◌*◌, ◌≤◌}
use native.Mathlib.Omega.{arith}
use mathlib.Core.List.{List}
use mathlib.Core.Path.{◌≡◌, sym, ◌∙◌, subst}
use lib.ListN.{length, take}
use Rattle.verdict.specs.declared.Verdict.{Verdict}
use Rattle.printing.specs.InnerWrote.{Wrote}
use Rattle.printing.proofs.PrintLaws.{front_length}
use Rattle.printed_verdict.specs.Inner.{output_room, verdict_lines, Fits}

-- 4,096 rows of at most 64 bytes and the first line fit

pub rows_fit : (ps ls rs : List ℕ) (n at room : ℕ) → n ≤ 4096 → n ≤ length ps → n ≤ length ls → n ≤ length rs → at ≤ 49 → output_room ≤ room
    → (length (take n ls) ≡ length (take n ps)) × (length (take n rs) ≡ length (take n ps)) × (at + 64 * length (take n ps) ≤ room)
rows_fit ps ls rs n at room h p l r a k =
    let x : n ≡ length (take n ps) = front_length ps n p in
    let y : n ≡ length (take n ls) = front_length ls n l in
    let z : n ≡ length (take n rs) = front_length rs n r in
    (sym y ∙ x, sym z ∙ x, omega arith)

pub trace_fits : (ps : List ℕ) (n at room : ℕ) → n ≤ 4096 → n ≤ length ps → at ≤ 51 → output_room ≤ room → at + 64 * length (take n ps) ≤ room
trace_fits ps n at room h p a k = let x : n ≡ length (take n ps) = front_length ps n p in omega arith

pub fits_at : {v w : Verdict} (ps ls rs trace : List ℕ) → v ≡ w → Fits v ps ls rs trace → Fits w ps ls rs trace
fits_at ps ls rs trace e f = subst (λ (v : Verdict). Fits v ps ls rs trace) e f

pub shows_at : {v w : Verdict} {old new : List ℕ} {end : ℕ} (ps ls rs trace : List ℕ) → v ≡ w → Wrote old new 0 end (verdict_lines w ps ls rs trace) → Wrote old new 0 end (verdict_lines v ps ls rs trace)
shows_at {old = old} {new = new} {end = end} ps ls rs trace e x = subst (λ (v : Verdict). Wrote old new 0 end (verdict_lines v ps ls rs trace)) (sym e) x
