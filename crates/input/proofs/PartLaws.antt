-- Parts of a word between separating bytes.
use Prim.Native.Nat.{ℕ, suc, ◌+◌, ◌≤◌, ◌<◌}
use native.Mathlib.Omega.{arith}
use mathlib.Core.Bool.{Bool, true, false}
use mathlib.Core.List.{List, [], ◌∷◌}
use mathlib.Core.Path.{◌≡◌, refl, sym, ◌∙◌, ap, subst}
use lib.Dec.{eqb}
use lib.ListN.{length, get_or, drop, drop_of_length-le}
use lib.Seq.{drop-cons}
use borrow.Author.Tests.{eq-eqb, ne_eqb}
use Rattle.input.specs.Lines.{onto}
use Rattle.input.specs.Input.{split_by}
use Rattle.input.specs.Inner.{part, PartFrom}
use Rattle.input.proofs.LineLaws.{part_none, part_more}

module _ (by : ℕ) (w : List ℕ) (at : ℕ) (h : at < length w) where
  pub part_ends : get_or w at 0 ≡ by → PartFrom by w at at
  unfolding split_by
  part_ends e =
      record {
        low = omega arith;
        within = omega arith;
        more = λ _. ap (split_by by) (drop-cons w at 0 h) ∙ rw (eq-eqb _ by e, split_by) (ap (λ (p : List ℕ). p ∷ split_by by (drop (suc at) w)) (sym (part_none w at)));
        last = λ l. absurd (omega arith);
      }

  on : (get_or w at 0 ≡ by → ⊥) → split_by by (drop at w) ≡ onto (get_or w at 0) (split_by by (drop (suc at) w))
  unfolding split_by
  on e = ap (split_by by) (drop-cons w at 0 h) ∙ rw (ne_eqb _ by e, split_by)

  pub part_on : (end : ℕ) → (get_or w at 0 ≡ by → ⊥) → PartFrom by w (at + 1) end → PartFrom by w at end
  unfolding onto
  part_on end e p =
      let s : at + 1 ≡ suc at = omega arith in
      let k : at + 1 ≤ end = p.low in
      record {
        low = omega arith;
        within = p.within;
        more = λ l.
            on e
            ∙ ap (onto (get_or w at 0)) (subst (λ (i : ℕ). split_by by (drop i w) ≡ part w i end ∷ split_by by (drop (suc end) w)) s (p.more l))
            ∙ ap (λ (q : List ℕ). q ∷ split_by by (drop (suc end) w)) (sym (part_more w at end (omega arith) h));
        last = λ l.
            on e
            ∙ ap (onto (get_or w at 0)) (subst (λ (i : ℕ). split_by by (drop i w) ≡ part w i end ∷ []) s (p.last l))
            ∙ ap (λ (q : List ℕ). q ∷ []) (sym (part_more w at end (omega arith) h));
      }

pub part_last : (by : ℕ) (w : List ℕ) (at : ℕ) → at ≤ length w → length w ≤ at → PartFrom by w at at
unfolding split_by
part_last by w at h e =
    record {
      low = omega arith;
      within = omega arith;
      more = λ l. absurd (omega arith);
      last = λ _. ap (split_by by) (drop_of_length-le w {i = at} e) ∙ ap (λ (p : List ℕ). p ∷ []) (sym (part_none w at));
    }

-- whatever ends the part that starts further on ends this one
pub record Sought (by : ℕ) (w : List ℕ) (from at : ℕ) : Type 0 where
  pub low : from ≤ at
  pub within : at ≤ length w
  pub part : (end : ℕ) → PartFrom by w at end → PartFrom by w from end

pub sought_none : (by : ℕ) (w : List ℕ) (from : ℕ) → from ≤ length w → Sought by w from from
sought_none by w from h = record { low = omega arith; within = h; part = λ end p. p }

pub sought_more : (by : ℕ) (w : List ℕ) (from at : ℕ) → Sought by w from at → (h : at < length w) → (get_or w at 0 ≡ by → ⊥) → Sought by w from (at + 1)
sought_more by w from at s h n =
    let l : from ≤ at = s.low in
    record { low = omega arith; within = omega arith; part = λ end p. s.part end (part_on by w at h end n p) }

-- there is always a part
pub split_some : (by : ℕ) (w : List ℕ) → 0 < length (split_by by w)
unfolding split_by onto
split_some by [] = omega arith
split_some by (b ∷ bs) = go (eqb b by) refl
  where
    longer : (ps : List (List ℕ)) → 0 < length (onto b ps)
    longer [] = omega arith
    longer (p ∷ ps) = omega arith

    go : (x : Bool) → eqb b by ≡ x → 0 < length (split_by by (b ∷ bs))
    go true e = rw (e, split_by) (omega arith)
    go false e = rw (e, split_by) (longer (split_by by bs))
