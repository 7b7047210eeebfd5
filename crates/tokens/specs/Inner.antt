-- What the functions of tokens and words promise.
use Rattle.std.specs.Prelude.{ℕ, suc, ◌+◌, ◌≤◌, ◌<◌, false, cond, ◌&&◌, List, [], ◌∷◌, ◌≡◌, Option, None, Some, MatchOption, leb, length, get_or, drop}
use Rattle.fields.specs.Bytes.{is_blank}
use Rattle.grammar.specs.Tokens.{all_digits, decimal, front_token, rest_of_token, tokens_from}
use Rattle.tokens.specs.declared.Placed as Found

-- the value of digits that follow others of value n, where they are digits and make at most 65,535
unfoldable pub number_from : ℕ → List ℕ → Option ℕ
number_from n w = cond (all_digits w && leb (decimal n w) 65535) (Some (decimal n w)) None

-- the first byte from `at` on that is no blank, or the end
pub record Skipped (text : List ℕ) (at r : ℕ) : Type 0 where
  pub low : at ≤ r
  pub within : r ≤ length text
  pub same : (names : List (List ℕ)) → tokens_from names text r ≡ tokens_from names text at
  pub found : r < length text → is_blank (get_or text r 0) ≡ false

-- the token that starts at a byte
pub record FrontAt (names : List (List ℕ)) (text : List ℕ) (at : ℕ) (r : Found.Placed) : Type 0 where
  pub is : r.token ≡ front_token names (get_or text at 0) (drop (suc at) text)
  pub starts : r.start ≡ at
  pub ends : r.next ≡ suc at + rest_of_token (get_or text at 0) (drop (suc at) text)
  pub within : r.next ≤ length text

-- the first token from a byte on, and the tokens after it
pub record FirstAt (names : List (List ℕ)) (text : List ℕ) (at : ℕ) (t : Found.Placed) : Type 0 where
  pub tokens_are : tokens_from names text at ≡ record { token = t.token; start = t.start } ∷ tokens_from names text t.next
  pub low : at ≤ t.start
  pub onward : t.start < t.next
  pub within : t.next ≤ length text

-- the same, if there is one
abbrev pub TokenFrom : List (List ℕ) → List ℕ → ℕ → Option Found.Placed → Type 0
TokenFrom names text at r = MatchOption r (tokens_from names text at ≡ []) (FirstAt names text at)
