-- The meaning of a policy: document 000, Figure 1, and document 02's negation. From an entering packet a policy has a set of traces. A trace is a non-empty
-- list of packets, oldest first; the entering packet is not in it unless recorded.
use Rattle.std.specs.Prelude.{ℕ, zero, suc, ◌<◌, ◌≤◌, Bool, not, List, [], ◌∷◌, ◌++◌, ◌⊎◌, ◌↔◌, ◌≡◌, T, eqb, length, get_or, set}
use Rattle.packet.specs.Packets.{value_at, changed, Declared as Declares}
use Rattle.packet.specs.Sizes.{product}
use Rattle.policy.specs.declared.FieldAction.{FieldAction}
use Rattle.policy.specs.declared.FieldAction.TheVariants.{Equals, Differs, Set}
use Rattle.policy.specs.Tree.{Policy, drop, id, field, dup, sum, seq, star, neg}

-- what Figure 1 asks of packets: to test whether field f has value v, and to change field f to v
pub record Packets : Type 1 where
  pub Packet : Type 0
  pub has : ℕ → ℕ → Packet → Bool
  pub change : ℕ → ℕ → Packet → Packet

-- a set of traces for each entering packet
abbrev pub TraceSet : Packets → Type 1
TraceSet P = P.Packet → List P.Packet → Type 0

module _ (P : Packets) where
  -- f=v and f≠v: {α} or none; f←v: the changed packet
  unfoldable pub ActionTraces : FieldAction → TraceSet P
  ActionTraces (Equals f v) α t = T (P.has f v α) × (t ≡ α ∷ [])
  ActionTraces (Differs f v) α t = T (not (P.has f v α)) × (t ≡ α ∷ [])
  ActionTraces (Set f v) α t = t ≡ P.change f v α ∷ []

  -- p·q: all ab where aβ is a trace of p from α and b a trace of q from β
  pub record Seq (A B : TraceSet P) (α : P.Packet) (t : List P.Packet) : Type 0 where
    pub a : List P.Packet
    pub β : P.Packet
    pub b : List P.Packet
    pub joined : t ≡ a ++ b
    pub first : A α (a ++ (β ∷ []))
    pub second : B β b

  -- the powers of a policy: power 0 is ⊤, power n + 1 is the policy and then power n
  unfoldable pub Power : TraceSet P → ℕ → TraceSet P
  Power A zero α t = t ≡ α ∷ []
  Power A (suc n) α t = Seq A (Power A n) α t

  -- a policy drops α: it has no trace from α
  unfoldable pub Drops : TraceSet P → P.Packet → Type 0
  Drops A α = (t : List P.Packet) → A α t → ⊥

  -- ⟦p⟧(α): t is a trace of p from α
  unfoldable pub Traces : Policy → TraceSet P
  Traces drop α t = ⊥
  Traces id α t = t ≡ α ∷ []
  Traces (field a) α t = ActionTraces a α t
  Traces (dup i) α t = t ≡ α ∷ α ∷ []
  Traces (sum p q) α t = Traces p α t ⊎ Traces q α t
  Traces (seq p q) α t = Seq (Traces p) (Traces q) α t
  Traces (star p) α t = (n : ℕ) × Power (Traces p) n α t
  Traces (neg p) α t = Drops (Traces p) α × (t ≡ α ∷ [])

-- declared packets: a value for each field
abbrev pub declared : Packets
declared = record { Packet = List ℕ; has = λ f v α. eqb (get_or α f 0) v; change = λ f v α. set α f v }

-- packets as numbers below N
abbrev pub numbered : List ℕ → Packets
numbered sizes = record { Packet = ℕ; has = λ f v α. eqb (value_at sizes f α) v; change = λ f v α. changed sizes f v α }

-- both policies have the same traces from every packet that is declared (a packet of the structure may be no declared one)
unfoldable pub SameTraces : (P : Packets) → (P.Packet → Type 0) → Policy → Policy → Type 0
SameTraces P Declared p q = (α : P.Packet) → Declared α → (t : List P.Packet) → Traces P p α t ↔ Traces P q α t

-- both policies have the same traces of d packets or fewer from every packet that is declared
unfoldable pub SameShortTraces : (P : Packets) → (P.Packet → Type 0) → ℕ → Policy → Policy → Type 0
SameShortTraces P Declared d p q = (α : P.Packet) → Declared α → (t : List P.Packet) → length t ≤ d → Traces P p α t ↔ Traces P q α t

-- p alone has the trace from α, and no shorter trace tells the two policies apart from any packet that is declared
pub record Tells (P : Packets) (Declared : P.Packet → Type 0) (p q : Policy) (α : P.Packet) (trace : List P.Packet) : Type 0 where
  pub enters : Declared α
  pub has : Traces P p α trace
  pub lacks : Traces P q α trace → ⊥
  pub shortest : (β : P.Packet) → Declared β → (t : List P.Packet) → length t < length trace → Traces P p β t ↔ Traces P q β t

-- same traces from every declared packet: from every value of every field
abbrev pub SameTracesDeclared : List ℕ → Policy → Policy → Type 0
SameTracesDeclared sizes p q = SameTraces declared (Declares sizes) p q

abbrev pub SameShortTracesDeclared : List ℕ → ℕ → Policy → Policy → Type 0
SameShortTracesDeclared sizes d p q = SameShortTraces declared (Declares sizes) d p q

abbrev pub TellsDeclared : List ℕ → Policy → Policy → List ℕ → List (List ℕ) → Type 0
TellsDeclared sizes p q α trace = Tells declared (Declares sizes) p q α trace

-- same traces from every packet, packets being numbers below N
unfoldable pub SameTracesBelow : List ℕ → Policy → Policy → Type 0
SameTracesBelow sizes p q = SameTraces (numbered sizes) (λ α. α < product sizes) p q

-- same traces of d packets or fewer from every packet, packets being numbers below N
unfoldable pub SameShortTracesBelow : List ℕ → ℕ → Policy → Policy → Type 0
SameShortTracesBelow sizes d p q = SameShortTraces (numbered sizes) (λ α. α < product sizes) d p q
