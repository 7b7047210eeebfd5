-- Row rules for evidence (document 01), over any system: tables of rows, whoever made them.
use Rattle.std.specs.Prelude.{ℕ, zero, suc, ◌<◌, Bool, true, not, ◌&&◌, ◌||◌, false, ◌⊎◌, ◌≡◌, ltb}
use Rattle.std.specs.Prelude.{Option, None, Some}
use Rattle.packet.specs.Lowest.{lowest}
use Rattle.automaton.specs.State.{any_below}
use Rattle.system.specs.System.{System, Row, start_row, next_row, tells}
use Rattle.system.specs.RowOrder.{same_row}

pub record Table (S : System) : Type 0 where
  pub count : ℕ
  pub row : ℕ → Row S

-- Accepted, or the broken rule with its spot: (a) row; (b) packet; (c) row; (d) row and packet.
pub data RulesAnswer : Type 0 where
  accepted : RulesAnswer
  rule_a : ℕ → RulesAnswer
  rule_b : ℕ → RulesAnswer
  rule_c : ℕ → RulesAnswer
  rule_d : ℕ → ℕ → RulesAnswer

-- the first rejection
unfoldable pub and_then : RulesAnswer → RulesAnswer → RulesAnswer
and_then accepted d = d
and_then (rule_a i) d = rule_a i
and_then (rule_b α) d = rule_b α
and_then (rule_c i) d = rule_c i
and_then (rule_d i γ) d = rule_d i γ

-- a rule, and the lowest spot at which it is broken
unfoldable pub broken_at : (ℕ → RulesAnswer) → Option ℕ → RulesAnswer
broken_at rule None = accepted
broken_at rule (Some spot) = rule spot

-- spot is the lowest below n at which a rule is broken
pub record LowestBroken (Rule : ℕ → Type 0) (n spot : ℕ) : Type 0 where
  pub inside : spot < n
  pub broken : Rule spot → ⊥
  pub before : (j : ℕ) → j < spot → Rule j

module _ (S : System) (T : Table S) where
  -- the row stands in the table
  pub record Present (r : Row S) : Type 0 where
    pub place : ℕ
    pub inside : place < T.count
    pub there : T.row place ≡ r

  -- rule (a) at row i: the packet is below N, the state valid
  unfoldable pub RuleA : ℕ → Type 0
  RuleA i = ((T.row i).packet < S.packets) × (S.valid (T.row i).state ≡ true)

  -- rule (b) at packet α: the starting row is present
  unfoldable pub RuleB : ℕ → Type 0
  RuleB α = Present (start_row S α)

  -- rule (c) at row i: no packet tells, the outputs are equal
  unfoldable pub RuleC : ℕ → Type 0
  RuleC i = (γ : ℕ) → γ < S.packets → tells S (T.row i) γ ≡ false

  -- rule (d) at row i and packet γ: the next row is present or dead
  unfoldable pub RuleD : ℕ → ℕ → Type 0
  RuleD i γ = (S.dead (next_row S (T.row i) γ).state ≡ true) ⊎ Present (next_row S (T.row i) γ)

  -- all four row rules
  pub record KeepsRules : Type 0 where
    pub a : (i : ℕ) → i < T.count → RuleA i
    pub b : (α : ℕ) → α < S.packets → RuleB α
    pub c : (i : ℕ) → i < T.count → RuleC i
    pub d : (i : ℕ) → i < T.count → (γ : ℕ) → γ < S.packets → RuleD i γ

  -- row i keeps rules (c) and (d)
  pub record RowKeeps (i : ℕ) : Type 0 where
    pub c : RuleC i
    pub d : (γ : ℕ) → γ < S.packets → RuleD i γ

  -- row i breaks (c), or keeps it and breaks (d), lowest at γ
  pub data RowBreaks (i : ℕ) : RulesAnswer → Type 0 where
    breaks_c : (RuleC i → ⊥) → RowBreaks i (rule_c i)
    breaks_rule_d : {γ : ℕ} → RuleC i → LowestBroken (RuleD i) S.packets γ → RowBreaks i (rule_d i γ)

  -- What an answer says of the table: which rule is broken first and where, in document 01's order.
  pub data Judged : RulesAnswer → Type 0 where
    keeps : KeepsRules → Judged accepted
    breaks_rule_a : {i : ℕ} → LowestBroken RuleA T.count i → Judged (rule_a i)
    breaks_rule_b : {α : ℕ} → ((i : ℕ) → i < T.count → RuleA i) → LowestBroken RuleB S.packets α → Judged (rule_b α)
    breaks_row : {x : RulesAnswer} → ((i : ℕ) → i < T.count → RuleA i) → ((α : ℕ) → α < S.packets → RuleB α)
        → (i : ℕ) → i < T.count → ((j : ℕ) → j < i → RowKeeps j) → RowBreaks i x → Judged x

  unfoldable pub present : Row S → Bool
  present r = any_below T.count (λ i. same_row S (T.row i) r)

  unfoldable pub breaks_a : ℕ → Bool
  breaks_a i = not (ltb (T.row i).packet S.packets && S.valid (T.row i).state)

  unfoldable pub breaks_b : ℕ → Bool
  breaks_b α = not (present (start_row S α))

  unfoldable pub breaks_d : ℕ → ℕ → Bool
  breaks_d i γ = not (S.dead (next_row S (T.row i) γ).state || present (next_row S (T.row i) γ))

  -- (c), then (d) with the lowest packet
  unfoldable pub check_row : ℕ → RulesAnswer
  check_row i = and_then (broken_at (λ γ. rule_c i) (lowest (tells S (T.row i)) S.packets)) (broken_at (rule_d i) (lowest (breaks_d i) S.packets))

  -- the first n rows, row by row
  unfoldable pub check_rows : ℕ → RulesAnswer
  check_rows zero = accepted
  check_rows (suc n) = and_then (check_rows n) (check_row n)

  -- (a) over all rows first; then (b), the lowest missing packet; then row by row
  unfoldable pub check_rules : RulesAnswer
  check_rules = and_then (broken_at rule_a (lowest breaks_a T.count)) (and_then (broken_at rule_b (lowest breaks_b S.packets)) (check_rows T.count))
