-- A word as an entry.
use Prim.Native.Nat.{ℕ, suc, ◌+◌, ◌-◌, ◌*◌, ◌≤◌, ◌<◌}
use native.Mathlib.Numerals.{add-one}
use native.Mathlib.Omega.{arith}
use mathlib.Core.Bool.{Bool, true, false}
use mathlib.Core.List.{List, [], ◌∷◌}
use mathlib.Core.Path.{◌≡◌, refl, sym, ◌∙◌, ap}
use lib.Dec.{eqb}
use lib.ListN.{length, get_or, take, drop, set}
use lib.Seq.{paste}
use Rattle.packet.proofs.Tests.{clash}
use Rattle.grammar.specs.Tokens.{decimal}
use Rattle.input.specs.Lines.{onto}
use Rattle.input.specs.Input.{split_by, is_size, is_name_and_size, is_entry, entry_name, entry_size, cell_of}
use Rattle.std.specs.Prelude.{Some, None}
use Rattle.input.specs.Inner.{part, PartFrom, size_of, EntryStored}
use Rattle.input.proofs.SizeLaws.{size_none, size_some}
use Rattle.input.proofs.PartLaws.{split_some}

-- ---- from the places of `=`

module _ {w : List ℕ} {equals : ℕ} (p : PartFrom 61 w 0 equals) where
  -- no `=`
  pub no_equals : equals ≡ length w → is_entry w ≡ false
  unfolding is_entry is_name_and_size
  no_equals e = ap is_name_and_size (p.last (omega arith))

  module _ (first : equals < length w) {end : ℕ} (q : PartFrom 61 w (equals + 1) end) where
    parts : (ps : List (List ℕ)) → split_by 61 (drop (equals + 1) w) ≡ ps → split_by 61 w ≡ take equals w ∷ ps
    parts ps e =
        let n : equals - 0 ≡ equals = omega arith in
        p.more first
        ∙ ap (λ (k : ℕ). take k w ∷ split_by 61 (drop (suc equals) w)) n
        ∙ ap (λ (k : ℕ). take equals w ∷ split_by 61 (drop k w)) (sym (add-one equals))
        ∙ ap (λ (l : List (List ℕ)). take equals w ∷ l) e

    -- more than one
    pub more_equals : end < length w → is_entry w ≡ false
    unfolding is_entry is_name_and_size
    more_equals h = ap is_name_and_size (parts _ (q.more h)) ∙ many (split_by 61 (drop (suc end) w)) (split_some 61 (drop (suc end) w))
      where
        many : (ps : List (List ℕ)) → 0 < length ps → is_name_and_size (take equals w ∷ part w (equals + 1) end ∷ ps) ≡ false
        many [] k = absurd (omega arith)
        many (a ∷ ps) k = refl

    -- just one
    two : length w ≤ end → split_by 61 w ≡ take equals w ∷ part w (equals + 1) (length w) ∷ []
    two h = let e : end ≡ length w = omega (arith, q.within) in parts _ (q.last h ∙ ap (λ (k : ℕ). part w (equals + 1) k ∷ []) e)

    pub no_size : length w ≤ end → size_of (part w (equals + 1) (length w)) ≡ None → is_entry w ≡ false
    unfolding is_entry is_name_and_size
    no_size h e = ap is_name_and_size (two h) ∙ size_none _ e

    pub one_equals : {n : ℕ} → length w ≤ end → size_of (part w (equals + 1) (length w)) ≡ Some n → (is_entry w ≡ true) × (take equals w ≡ entry_name w) × (n ≡ entry_size w)
    unfolding is_entry is_name_and_size entry_name entry_size
    one_equals {n} h e =
        let s = size_some _ e in (
          ap is_name_and_size (two h) ∙ s.0,
          ap (λ (ps : List (List ℕ)). get_or ps 0 []) (sym (two h)),
          s.1 ∙ ap (λ (ps : List (List ℕ)). decimal 0 (get_or ps 1 [])) (sym (two h)),
        )

-- `=` and a digit
pub entry_long : (w : List ℕ) → is_entry w ≡ true → 2 ≤ length w
unfolding is_entry is_name_and_size split_by onto is_size
entry_long [] e = clash e refl
entry_long (b ∷ []) e = clash e (go (eqb b 61) refl)
  where
    go : (x : Bool) → eqb b 61 ≡ x → is_name_and_size (split_by 61 (b ∷ [])) ≡ false
    go true q = rw (q, split_by)
    go false q = rw (q, split_by)
entry_long (a ∷ b ∷ w) e = omega arith

-- ---- an entry stored

pub store_none : {w : List ℕ} (n : ℕ) (cells sizes cells' sizes' : List ℕ) → is_entry w ≡ false → EntryStored w n false cells sizes cells' sizes'
store_none n cells sizes cells' sizes' e = record { answer = sym e; cell = λ x. clash x refl; size = λ x. clash x refl }

pub store_one : {w name : List ℕ} {n size : ℕ} {cells cells' : List ℕ} (sizes : List ℕ) → (is_entry w ≡ true) × (name ≡ entry_name w) × (size ≡ entry_size w) → cells' ≡ paste cells (n * 16) (cell_of name) 16
    → EntryStored w n true cells sizes cells' (set sizes n size)
store_one {n = n} {cells = cells} sizes E e =
    record {
      answer = sym E.0;
      cell = λ _. e ∙ ap (λ (name : List ℕ). paste cells (n * 16) (cell_of name) 16) E.1;
      size = λ _. ap (set sizes n) E.2;
    }
