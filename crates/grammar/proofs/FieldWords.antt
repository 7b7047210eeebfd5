-- Which words of a text over one of several tables are fields (document 02, A.4). Assumes nothing.
use Prim.Native.Nat.{ℕ}
use mathlib.Core.Bool.{Bool, true, false, cond, ◌||◌, true≢false}
use mathlib.Core.List.{List, []}
use mathlib.Core.Logic.{◌↔◌}
use Rattle.std.specs.Prelude.{Option, None, Some, Ok}
use mathlib.Core.Path.{◌≡◌, refl, sym, ap, ◌∙◌}
use Rattle.packet.proofs.Tests.{clash, or_false}
use Rattle.fields.specs.Names.{same_word, field_named, is_named, names_in, word_drop, word_id, word_dup, is_constant}
use Rattle.fields.specs.Tables.{Table, joint_names, names_for, tables_stage}
use Rattle.fields.proofs.NameLaws.{found_below}
use Rattle.fields.proofs.WordLaws.{found_is}
use Rattle.fields.proofs.JointLaws.{word_field, joint_formed}
use Rattle.grammar.specs.declared.Token.{Token}
use Rattle.grammar.specs.declared.Token.TheVariants.{Keyword, Field, Number, Operator, Plus, Semicolon, Asterisk, Opening, Closing, Exclamation, Bad}
use Rattle.grammar.specs.declared.Constant.TheVariants.{Drop, Id, Dup}
use Rattle.grammar.specs.Tokens.{is_number, decimal, number_token, field_token, word_token}

is_field : Token → Bool
is_field (Keyword c) = false
is_field (Field f) = true
is_field (Number n) = false
is_field (Operator c) = false
is_field Plus = false
is_field Semicolon = false
is_field Asterisk = false
is_field Opening = false
is_field Closing = false
is_field Exclamation = false
is_field Bad = false

-- a number, or bad
number_no_field : (w : List ℕ) → is_field (number_token w) ≡ false
unfolding number_token is_field
number_no_field w = go (is_number w) refl
  where
    go : (b : Bool) → is_number w ≡ b → is_field (cond (is_number w) (Number (decimal 0 w)) Bad) ≡ false
    go true e = rw e refl
    go false e = rw e refl

-- ---- the token of a word that is a field's name

named_token : (o : Option ℕ) (w : List ℕ) (f : ℕ) → field_token o w ≡ Field f → o ≡ Some f
unfolding field_token is_field
named_token (Some g) w f e = let same : g ≡ f = cc in ap Some same
named_token None w f e = absurd (true≢false (sym (ap is_field e) ∙ number_no_field w))

field_token_lem : (names : List (List ℕ)) (w : List ℕ) (f : ℕ) → word_token names w ≡ Field f → field_named names w ≡ Some f
unfolding word_token is_field
field_token_lem names w f e = go (same_word w word_drop) (same_word w word_id) (same_word w word_dup) e
  where
    go : (a b c : Bool) → cond a (Keyword Drop) (cond b (Keyword Id) (cond c (Keyword Dup) (field_token (field_named names w) w))) ≡ Field f → field_named names w ≡ Some f
    go true b c q = absurd (true≢false (sym (ap is_field q)))
    go false true c q = absurd (true≢false (sym (ap is_field q)))
    go false false true q = absurd (true≢false (sym (ap is_field q)))
    go false false false q = named_token (field_named names w) w f q

-- a word that is no constant
other_token : (names : List (List ℕ)) (w : List ℕ) → is_constant w ≡ false → word_token names w ≡ field_token (field_named names w) w
unfolding word_token is_constant
other_token names w e =
    let a = or_false (same_word w word_drop || same_word w word_id) (same_word w word_dup) e in
    let b = or_false (same_word w word_drop) (same_word w word_id) a.0 in
    rw (b.0, b.1, a.1) refl

module _ (ts : List Table) (t : Table) (w : List ℕ) (word : w ≡ [] → ⊥) where
  -- a word of a text over t is field f exactly when it stands in t and f is its joint number
  pub word_is_field : tables_stage ts ≡ Ok tt → (f : ℕ) → (word_token (names_for ts t) w ≡ Field f) ↔ ((is_named (names_in t.cells) w ≡ true) × (field_named (joint_names ts) w ≡ Some f))
  unfolding field_token
  word_is_field e f = (
    λ q. (word_field ts t w f word).0 (field_token_lem (names_for ts t) w f q),
    λ h.
        let formed = joint_formed ts e f (found_below (joint_names ts) w f h.1) in
        let free : is_constant w ≡ false = ap is_constant (sym (found_is (joint_names ts) w f h.1)) ∙ formed.1 in
        other_token (names_for ts t) w free ∙ ap (λ (o : Option ℕ). field_token o w) ((word_field ts t w f word).1 h),
  )

  -- "a name missing from that side's table is a bad word": one that is no constant and no number
  pub missing_is_bad : is_named (names_in t.cells) w ≡ false → is_constant w ≡ false → is_number w ≡ false → word_token (names_for ts t) w ≡ Bad
  unfolding field_token number_token
  missing_is_bad m c n = other_token (names_for ts t) w c ∙ go (field_named (names_for ts t) w) refl
    where
      go : (o : Option ℕ) → field_named (names_for ts t) w ≡ o → field_token (field_named (names_for ts t) w) w ≡ Bad
      go None q = ap (λ (o : Option ℕ). field_token o w) q ∙ rw n refl
      go (Some f) q = clash ((word_field ts t w f word).0 q).0 m
