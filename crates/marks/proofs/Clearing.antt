-- Laws of clearing: the masks of a word, all marks. Assumes nothing.
use Prim.Native.Nat.{ℕ, ◌+◌, ◌-◌, ◌*◌, ◌/◌, ◌%◌, ◌^◌, ◌≤◌, ◌<◌}
use mathlib.Core.Path.{◌≡◌, refl, sym, ap, ◌∙◌, subst}
use mathlib.Core.Bool.{Bool, true, false, not, ◌&&◌}
use mathlib.Core.List.{List}
use mathlib.Core.Logic.{◌⊎◌, inl, inr, ⊎_elim}
use native.Mathlib.Decide.{dec_lt, ℕ_discrete}
use native.Mathlib.Omega.{arith}
use lib.Bits.{bit_and, and_le_r}
use lib.Count.{count_trailing_zeros}
use lib.Dec.{eqb}
use lib.ListN.{length, get_or, set, length-set}
use lib.Seq.{get_or-set_same, get_or-set_other}
use borrow.Author.Count.{below_more}
use borrow.Author.Tests.{ne_eqb}
use Rattle.packet.proofs.Tests.{T_false}
use Rattle.packet_set.specs.Bits.{bit}
use Rattle.packet_set.proofs.Digits.{bit_of_zero}
use Rattle.packet_set.proofs.Masks.{bit_low}
use Rattle.packet_set.proofs.Trailing.{trailing_below, bit_cleared}
use Rattle.spans.specs.Spans.{touched}
use Rattle.marks.specs.Marks.{Marking, Unmarked, Forgotten}
use Rattle.marks.proofs.Touched.{touched_bit, touched_over, touched_in_word}

-- ---- the masks of a word

-- as `Forgotten`, but for the bits of `rest`, whose turn is to come
pub record ForgottenBut (start word rest : ℕ) (next now : List ℕ) : Type 0 where
  pub small : rest < 2 ^ 32
  pub long : length now ≡ length next
  pub gone : (j : ℕ) → j < 32 → bit rest j ≡ false → (bit word j ≡ false → get_or next (start + j) 0 ≡ 0) → get_or now (start + j) 0 ≡ 0
  pub kept : (i : ℕ) → (i < start) ⊎ (start + 32 ≤ i) → get_or now i 0 ≡ get_or next i 0

pub word_begun : {start word : ℕ} {next : List ℕ} → word < 2 ^ 32 → ForgottenBut start word word next next
word_begun l = record { small = l; long = refl; gone = λ j l e f. f e; kept = λ i o. refl }

module _ {start word rest : ℕ} {next now : List ℕ} (F : ForgottenBut start word rest next now) where
  pub word_more : 0 < rest → start + 32 ≤ length next → ForgottenBut start word (bit_and rest (rest - 1)) next (set now (start + count_trailing_zeros 32 rest) 0)
  word_more p fits = step (count_trailing_zeros 32 rest) (trailing_below 32 rest F.small p) (λ j. bit_cleared 32 rest j F.small p)
    where
      step : (b : ℕ) → b < 32 → ((j : ℕ) → bit (bit_and rest (rest - 1)) j ≡ bit rest j && not (eqb j b)) → ForgottenBut start word (bit_and rest (rest - 1)) next (set now (start + b) 0)
      step b l cleared =
          record {
            small = omega (arith, and_le_r rest (rest - 1), F.small);
            long = length-set now (start + b) 0 ∙ F.long;
            gone = λ j m e f. at j m e f (ℕ_discrete j b);
            kept = λ i o. get_or-set_other now (start + b) i 0 0 (⊎_elim (λ q. omega arith) (λ q. omega arith) o) ∙ F.kept i o;
          }
        where
          at : (j : ℕ) → j < 32 → bit (bit_and rest (rest - 1)) j ≡ false → (bit word j ≡ false → get_or next (start + j) 0 ≡ 0) → Dec (j ≡ b) → get_or (set now (start + b) 0) (start + j) 0 ≡ 0
          at j m e f (yes q) = rw q (get_or-set_same now (start + b) 0 0 (omega (arith, F.long)))
          at j m e f (no q) =
              get_or-set_other now (start + b) (start + j) 0 0 (omega arith)
              ∙ F.gone j m (other (bit rest j) (eqb j b) (ne_eqb j b q) (sym (cleared j) ∙ e)) f
            where
              other : (a c : Bool) → c ≡ false → a && not c ≡ false → a ≡ false
              other true c g k = sym (ap not g) ∙ k
              other false c g k = refl

  pub word_done : rest ≡ 0 → Forgotten start word next now
  word_done e = record { gone = λ j l f. F.gone j l (ap (λ (x : ℕ). bit x j) e ∙ bit_of_zero j) f; kept = F.kept }

-- ---- all marks

-- the words below i are forgotten; from word i on, all is as it was
pub record ForgottenTo (next now : List ℕ) (i : ℕ) : Type 0 where
  pub long : length now ≡ 1056
  pub masks : (γ : ℕ) → γ < 32 * i → get_or now γ 0 ≡ 0
  pub words : (j : ℕ) → j < i → get_or now (1024 + j) 0 ≡ 0
  pub masks_after : (γ : ℕ) → 32 * i ≤ γ → γ < 1024 → get_or now γ 0 ≡ get_or next γ 0
  pub words_after : (j : ℕ) → i ≤ j → get_or now (1024 + j) 0 ≡ get_or next (1024 + j) 0

pub forgotten_none : {next : List ℕ} → length next ≡ 1056 → ForgottenTo next next 0
forgotten_none l =
    record {
      long = l;
      masks = λ γ h. absurd (omega arith);
      words = λ j h. absurd (omega arith);
      masks_after = λ γ a h. refl;
      words_after = λ j a. refl;
    }

module _ {N i : ℕ} {next now : List ℕ} (M : Marking N next) (F : ForgottenTo next now i) where
  pub word_fits : i < 32 → 32 * i + 32 ≤ length (set now (1024 + i) 0)
  word_fits l = omega (arith, length-set now (1024 + i) 0, F.long)

  pub forgotten_more : i < 32 → {then : List ℕ} → length then ≡ length (set now (1024 + i) 0)
      → Forgotten (32 * i) (get_or now (1024 + i) 0 % 4294967296) (set now (1024 + i) 0) then → ForgottenTo next then (i + 1)
  forgotten_more l {then} long G =
      record {
        long = long ∙ length-set now (1024 + i) 0 ∙ F.long;
        masks = λ γ h. mask γ h (dec_lt γ (32 * i));
        words = below_more _ i (λ j h. G.kept (1024 + j) (inr (omega arith)) ∙ get_or-set_other now (1024 + i) (1024 + j) 0 0 (omega arith) ∙ F.words j h)
            (G.kept (1024 + i) (inr (omega arith)) ∙ get_or-set_same now (1024 + i) 0 0 (omega (arith, F.long)));
        masks_after = λ γ a h. G.kept γ (inr (omega arith)) ∙ unset γ (omega arith) ∙ F.masks_after γ (omega arith) h;
        words_after = λ j a. G.kept (1024 + j) (inr (omega arith)) ∙ get_or-set_other now (1024 + i) (1024 + j) 0 0 (omega arith) ∙ F.words_after j (omega arith);
      }
    where
      unset : (γ : ℕ) → γ < 1024 → get_or (set now (1024 + i) 0) γ 0 ≡ get_or now γ 0
      unset γ h = get_or-set_other now (1024 + i) γ 0 0 (omega arith)

      -- a packet that the word does not have had no mark
      unmarked : (j : ℕ) → j < 32 → bit (get_or now (1024 + i) 0 % 4294967296) j ≡ false → get_or (set now (1024 + i) 0) (32 * i + j) 0 ≡ 0
      unmarked j h e =
          unset (32 * i + j) (omega arith) ∙ F.masks_after (32 * i + j) (omega arith) (omega arith)
          ∙ M.rest (32 * i + j) (omega arith) (touched_in_word next i j l h ∙ ap (λ (x : ℕ). bit x j) (sym (F.words_after i (omega arith))) ∙ sym (bit_low 32 (get_or now (1024 + i) 0) j h) ∙ e)

      mask : (γ : ℕ) → γ < 32 * (i + 1) → Dec (γ < 32 * i) → get_or then γ 0 ≡ 0
      mask γ h (yes q) = G.kept γ (inl q) ∙ unset γ (omega arith) ∙ F.masks γ q
      mask γ h (no q) =
          let e : 32 * i + (γ - 32 * i) ≡ γ = omega arith in
          subst (λ (x : ℕ). get_or then x 0 ≡ 0) e (G.gone (γ - 32 * i) (omega arith) (unmarked (γ - 32 * i) (omega arith)))

module _ {words i : ℕ} {next now : List ℕ} (M : Marking (32 * words) next) (F : ForgottenTo next now i) (all : words ≤ i) where
  untouched_beyond : (γ : ℕ) → 32 * words ≤ γ → touched next γ ≡ false
  untouched_beyond γ l = T_false (touched next γ) (λ t. let h : γ < 32 * words = M.below γ t in omega arith)

  pub forgotten_all : Unmarked now
  forgotten_all = record { masks = λ γ h. mask γ h (dec_lt γ (32 * i)); untouched = λ γ. touch γ (dec_lt γ 1024) (dec_lt (γ / 32) i) }
    where
      mask : (γ : ℕ) → γ < 1024 → Dec (γ < 32 * i) → get_or now γ 0 ≡ 0
      mask γ h (yes l) = F.masks γ l
      mask γ h (no l) = F.masks_after γ (omega arith) h ∙ M.rest γ h (untouched_beyond γ (omega arith))

      touch : (γ : ℕ) → Dec (γ < 1024) → Dec (γ / 32 < i) → touched now γ ≡ false
      touch γ (yes h) (yes l) = touched_bit now γ h ∙ ap (λ (x : ℕ). bit x (γ % 32)) (F.words (γ / 32) l) ∙ bit_of_zero (γ % 32)
      touch γ (yes h) (no l) =
          touched_bit now γ h ∙ ap (λ (x : ℕ). bit x (γ % 32)) (F.words_after (γ / 32) (omega arith)) ∙ sym (touched_bit next γ h)
          ∙ untouched_beyond γ (omega arith)
      touch γ (no h) k = touched_over now γ (omega arith)
