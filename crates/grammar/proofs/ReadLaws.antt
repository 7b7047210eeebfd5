-- Steps of the reading, by the token at the front.
use Prim.Native.Nat.{ℕ}
use native.Mathlib.Omega.{arith}
use mathlib.Core.List.{List, [], ◌∷◌}
use Rattle.std.specs.Prelude.{Option, None, Some}
use mathlib.Core.Path.{◌≡◌, refl, ◌∙◌, ap}
use Rattle.policy.specs.Tree.{Policy, sum, seq, star}
use Rattle.policy.specs.Tree
use Rattle.grammar.specs.declared.Token.{Token}
use Rattle.grammar.specs.declared.Token.TheVariants.{Keyword, Field, Number, Operator, Plus, Semicolon, Asterisk, Opening, Closing, Exclamation, Bad}
use Rattle.grammar.specs.declared.Constant.{Constant}
use Rattle.grammar.specs.declared.Comparison.{Comparison}
use Rattle.grammar.specs.Tokens.{Placed}
use Rattle.grammar.specs.InnerKinds.{front, front_place}
use Rattle.grammar.specs.Grammar.{constant_policy, field_action}
use Rattle.grammar.specs.Reading.{Before, nothing, join_sequence, join_sum, up_to, whole, State, wants, named, compared, has, negating, item_read, close, step, tree, stop, finish, read_on}

-- the token at the front is not one of a kind
other : {t k : Token} → (Some t ≡ Some k → ⊥) → t ≡ k → ⊥
other f q = f (ap Some q)

module _ (end : ℕ) where
  stops : (s : State) (t : Placed) (ts : List Placed) → step s t.token ≡ None → read_on end s (t ∷ ts) ≡ stop t.start
  unfolding read_on
  stops s t ts e = rw (e, read_on)

  module _ (b : Before) (cs : List Before) where
    wants_none : (t : Token) → ((c : Constant) → t ≡ Keyword c → ⊥) → ((f : ℕ) → t ≡ Field f → ⊥) → (t ≡ Opening → ⊥) → (t ≡ Exclamation → ⊥) → step (wants b cs) t ≡ None
    unfolding step
    wants_none Bad x y z w = refl
    wants_none (Keyword c) x y z w = absurd (x c refl)
    wants_none (Field g) x y z w = absurd (y g refl)
    wants_none (Number n) x y z w = refl
    wants_none (Operator d) x y z w = refl
    wants_none Plus x y z w = refl
    wants_none Semicolon x y z w = refl
    wants_none Asterisk x y z w = refl
    wants_none Opening x y z w = absurd (z refl)
    wants_none Closing x y z w = refl
    wants_none Exclamation x y z w = absurd (w refl)

    named_none : (f : ℕ) (t : Token) → ((c : Comparison) → t ≡ Operator c → ⊥) → step (named b cs f) t ≡ None
    unfolding step
    named_none f Bad x = refl
    named_none f (Keyword c) x = refl
    named_none f (Field g) x = refl
    named_none f (Number n) x = refl
    named_none f (Operator d) x = absurd (x d refl)
    named_none f Plus x = refl
    named_none f Semicolon x = refl
    named_none f Asterisk x = refl
    named_none f Opening x = refl
    named_none f Closing x = refl
    named_none f Exclamation x = refl

    compared_none : (f : ℕ) (c : Comparison) (t : Token) → ((n : ℕ) → t ≡ Number n → ⊥) → step (compared b cs f c) t ≡ None
    unfolding step
    compared_none f e Bad x = refl
    compared_none f e (Keyword c) x = refl
    compared_none f e (Field g) x = refl
    compared_none f e (Number n) x = absurd (x n refl)
    compared_none f e (Operator d) x = refl
    compared_none f e Plus x = refl
    compared_none f e Semicolon x = refl
    compared_none f e Asterisk x = refl
    compared_none f e Opening x = refl
    compared_none f e Closing x = refl
    compared_none f e Exclamation x = refl

    -- a token at the front that no legal text continues with
    pub wants_stops : {t : Token} {place : ℕ} {ts us : List Placed} → ts ≡ record { token = t; start = place } ∷ us → ((c : Constant) → t ≡ Keyword c → ⊥) → ((f : ℕ) → t ≡ Field f → ⊥) → (t ≡ Opening → ⊥) → (t ≡ Exclamation → ⊥)
        → read_on end (wants b cs) ts ≡ stop place
    wants_stops {t} {place} {us = us} e x y z w = ap (read_on end (wants b cs)) e ∙ stops (wants b cs) (record { token = t; start = place }) us (wants_none t x y z w)

    pub named_stops : {t : Token} {place : ℕ} {ts us : List Placed} (f : ℕ) → ts ≡ record { token = t; start = place } ∷ us → ((c : Comparison) → t ≡ Operator c → ⊥) → read_on end (named b cs f) ts ≡ stop place
    named_stops {t} {place} {us = us} f e x = ap (read_on end (named b cs f)) e ∙ stops (named b cs f) (record { token = t; start = place }) us (named_none f t x)

    pub compared_stops : {t : Token} {place : ℕ} {ts us : List Placed} (f : ℕ) (c : Comparison) → ts ≡ record { token = t; start = place } ∷ us → ((n : ℕ) → t ≡ Number n → ⊥) → read_on end (compared b cs f c) ts ≡ stop place
    compared_stops {t} {place} {us = us} f c e x = ap (read_on end (compared b cs f c)) e ∙ stops (compared b cs f c) (record { token = t; start = place }) us (compared_none f c t x)

    -- and the end of the text
    pub wants_ends : {ts : List Placed} → ts ≡ [] → read_on end (wants b cs) ts ≡ stop end
    unfolding read_on finish
    wants_ends e = rw e

    pub named_ends : {ts : List Placed} (f : ℕ) → ts ≡ [] → read_on end (named b cs f) ts ≡ stop end
    unfolding read_on finish
    named_ends f e = rw e

    pub compared_ends : {ts : List Placed} (f : ℕ) (c : Comparison) → ts ≡ [] → read_on end (compared b cs f c) ts ≡ stop end
    unfolding read_on finish
    compared_ends f c e = rw e

    module _ {place : ℕ} {ts us : List Placed} where
      pub at_keyword : {c : Constant} → ts ≡ record { token = Keyword c; start = place } ∷ us → read_on end (wants b cs) ts ≡ read_on end (item_read b cs (constant_policy c)) us
      unfolding read_on step
      at_keyword e = ap (read_on end (wants b cs)) e

      pub at_field : {f : ℕ} → ts ≡ record { token = Field f; start = place } ∷ us → read_on end (wants b cs) ts ≡ read_on end (named b cs f) us
      unfolding read_on step
      at_field e = ap (read_on end (wants b cs)) e

      pub at_operator : (f : ℕ) {c : Comparison} → ts ≡ record { token = Operator c; start = place } ∷ us → read_on end (named b cs f) ts ≡ read_on end (compared b cs f c) us
      unfolding read_on step
      at_operator f e = ap (read_on end (named b cs f)) e

      pub at_number : (f : ℕ) (c : Comparison) {v : ℕ} → ts ≡ record { token = Number v; start = place } ∷ us → read_on end (compared b cs f c) ts ≡ read_on end (item_read b cs (Tree.field (field_action c f v))) us
      unfolding read_on step
      at_number f c e = ap (read_on end (compared b cs f c)) e

      pub at_opening : ts ≡ record { token = Opening; start = place } ∷ us → read_on end (wants b cs) ts ≡ read_on end (wants nothing (b ∷ cs)) us
      unfolding read_on step
      at_opening e = ap (read_on end (wants b cs)) e

      pub at_exclamation : ts ≡ record { token = Exclamation; start = place } ∷ us → read_on end (wants b cs) ts ≡ read_on end (wants (negating b) cs) us
      unfolding read_on step
      at_exclamation e = ap (read_on end (wants b cs)) e

      pub at_asterisk : (p : Policy) → ts ≡ record { token = Asterisk; start = place } ∷ us → read_on end (has b cs p) ts ≡ read_on end (has b cs (star p)) us
      unfolding read_on step
      at_asterisk p e = ap (read_on end (has b cs p)) e

      pub at_semicolon : (p : Policy) → ts ≡ record { token = Semicolon; start = place } ∷ us → read_on end (has b cs p) ts ≡ read_on end (wants (record { summed = b.summed; sequenced = Some (up_to b p); negations = 0 }) cs) us
      unfolding read_on step
      at_semicolon p e = ap (read_on end (has b cs p)) e

      pub at_plus : (p : Policy) → ts ≡ record { token = Plus; start = place } ∷ us → read_on end (has b cs p) ts ≡ read_on end (wants (record { summed = Some (whole b p); sequenced = None; negations = 0 }) cs) us
      unfolding read_on step
      at_plus p e = ap (read_on end (has b cs p)) e

      pub at_closing : (p : Policy) → ts ≡ record { token = Closing; start = place } ∷ us → read_on end (has nothing (b ∷ cs) p) ts ≡ read_on end (item_read b cs p) us
      unfolding read_on step close whole up_to join_sum join_sequence nothing
      at_closing p e = ap (read_on end (has nothing (b ∷ cs) p)) e

  has_none : (b : Before) (cs : List Before) (p : Policy) (t : Token) → (t ≡ Closing → ⊥) → (t ≡ Asterisk → ⊥) → (t ≡ Semicolon → ⊥) → (t ≡ Plus → ⊥) → step (has b cs p) t ≡ None
  unfolding step
  has_none b cs p Bad w x y z = refl
  has_none b cs p (Keyword c) w x y z = refl
  has_none b cs p (Field g) w x y z = refl
  has_none b cs p (Number n) w x y z = refl
  has_none b cs p (Operator c) w x y z = refl
  has_none b cs p Plus w x y z = absurd (z refl)
  has_none b cs p Semicolon w x y z = absurd (y refl)
  has_none b cs p Asterisk w x y z = absurd (x refl)
  has_none b cs p Opening w x y z = refl
  has_none b cs p Closing w x y z = absurd (w refl)
  has_none b cs p Exclamation w x y z = refl

  -- inside parentheses only ) can stand after a sum
  pub open_stops : (b c : Before) (cs : List Before) (p : Policy) (ts : List Placed) → (front ts ≡ Some Closing → ⊥) → (front ts ≡ Some Asterisk → ⊥) → (front ts ≡ Some Semicolon → ⊥) → (front ts ≡ Some Plus → ⊥)
      → read_on end (has b (c ∷ cs) p) ts ≡ stop (front_place end ts)
  unfolding front front_place read_on finish
  open_stops b c cs p [] w x y z = refl
  open_stops b c cs p (t ∷ ts) w x y z = stops (has b (c ∷ cs) p) t ts (has_none b (c ∷ cs) p t.token (other w) (other x) (other y) (other z))

  -- outside parentheses only the end can
  pub top_ends : (b : Before) (p : Policy) (ts : List Placed) → front ts ≡ None → read_on end (has b [] p) ts ≡ tree (whole b p)
  unfolding front read_on finish
  top_ends b p [] e = refl
  top_ends b p (t ∷ ts) e = absurd (let z : ◌≡◌ {A = ℕ} 0 1 = cc in omega arith)

  pub top_stops : (b : Before) (p : Policy) (ts : List Placed) → (front ts ≡ None → ⊥) → (front ts ≡ Some Asterisk → ⊥) → (front ts ≡ Some Semicolon → ⊥) → (front ts ≡ Some Plus → ⊥)
      → read_on end (has b [] p) ts ≡ stop (front_place end ts)
  unfolding front front_place read_on finish step close
  top_stops b p [] w x y z = absurd (w refl)
  top_stops b p (t ∷ ts) w x y z = stops (has b [] p) t ts (go t.token (other x) (other y) (other z))
    where
      go : (t : Token) → (t ≡ Asterisk → ⊥) → (t ≡ Semicolon → ⊥) → (t ≡ Plus → ⊥) → step (has b [] p) t ≡ None
      go Bad x y z = refl
      go (Keyword c) x y z = refl
      go (Field g) x y z = refl
      go (Number n) x y z = refl
      go (Operator c) x y z = refl
      go Plus x y z = absurd (z refl)
      go Semicolon x y z = absurd (y refl)
      go Asterisk x y z = absurd (x refl)
      go Opening x y z = refl
      go Closing x y z = refl
      go Exclamation x y z = refl

  -- where no * follows, an item after others is as good as the sequence up to it
  pub collapse_sequence : (s : Option Policy) (cs : List Before) (p q : Policy) (ts : List Placed) → (front ts ≡ Some Asterisk → ⊥)
      → read_on end (has (record { summed = s; sequenced = Some p; negations = 0 }) cs q) ts ≡ read_on end (has (record { summed = s; sequenced = None; negations = 0 }) cs (seq p q)) ts
  unfolding read_on finish whole up_to join_sequence front step close
  collapse_sequence s [] p q [] h = refl
  collapse_sequence s (c ∷ cs) p q [] h = refl
  collapse_sequence s cs p q (t ∷ ts) h = go t.token cs (other h)
    where
      go : (k : Token) (cs : List Before) → (k ≡ Asterisk → ⊥)
          → read_on end (has (record { summed = s; sequenced = Some p; negations = 0 }) cs q) (record { token = k; start = t.start } ∷ ts)
          ≡ read_on end (has (record { summed = s; sequenced = None; negations = 0 }) cs (seq p q)) (record { token = k; start = t.start } ∷ ts)
      go Bad cs h = refl
      go (Keyword c) cs h = refl
      go (Field g) cs h = refl
      go (Number n) cs h = refl
      go (Operator c) cs h = refl
      go Plus cs h = refl
      go Semicolon cs h = refl
      go Asterisk cs h = absurd (h refl)
      go Opening cs h = refl
      go Closing [] h = refl
      go Closing (c ∷ cs) h = refl
      go Exclamation cs h = refl

  -- where no * and no ; follows, a sequence after others is as good as the sum up to it
  pub collapse_sum : (cs : List Before) (p q : Policy) (ts : List Placed) → (front ts ≡ Some Asterisk → ⊥) → (front ts ≡ Some Semicolon → ⊥)
      → read_on end (has (record { summed = Some p; sequenced = None; negations = 0 }) cs q) ts ≡ read_on end (has nothing cs (sum p q)) ts
  unfolding read_on finish whole up_to join_sequence join_sum nothing front step close
  collapse_sum [] p q [] h g = refl
  collapse_sum (c ∷ cs) p q [] h g = refl
  collapse_sum cs p q (t ∷ ts) h g = go t.token cs (other h) (other g)
    where
      go : (k : Token) (cs : List Before) → (k ≡ Asterisk → ⊥) → (k ≡ Semicolon → ⊥)
          → read_on end (has (record { summed = Some p; sequenced = None; negations = 0 }) cs q) (record { token = k; start = t.start } ∷ ts)
          ≡ read_on end (has nothing cs (sum p q)) (record { token = k; start = t.start } ∷ ts)
      go Bad cs h g = refl
      go (Keyword c) cs h g = refl
      go (Field f) cs h g = refl
      go (Number n) cs h g = refl
      go (Operator c) cs h g = refl
      go Plus cs h g = refl
      go Semicolon cs h g = absurd (g refl)
      go Asterisk cs h g = absurd (h refl)
      go Opening cs h g = refl
      go Closing [] h g = refl
      go Closing (c ∷ cs) h g = refl
      go Exclamation cs h g = refl
