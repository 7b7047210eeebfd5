-- What the loops of the readers leave to read.
use Prim.Native.Nat.{ℕ, zero, suc, ◌+◌, ◌-◌, ◌≤◌, ◌<◌}
use native.Mathlib.Nat.{le_refl, le_of_lt}
use native.Mathlib.Omega.{arith}
use mathlib.Core.List.{List}
use mathlib.Core.Path.{◌≡◌, sym, ◌∙◌, ap}
use lib.ListN.{length}
use Rattle.policy.specs.NodeLists.{NodeLists}
use Rattle.policy.specs.NodesOfTree.{node_entry}
use Rattle.grammar.specs.declared.Token.{Token}
use Rattle.grammar.specs.Tokens.{tokens_from}
use Rattle.text.specs.Inner.{ReaderLevel, put_entry, put_negations, HasRoom, MarkAt, Scanned, Got}
use Rattle.text.specs.declared.NegationRun as Scan
use Rattle.text.specs.declared.Step as Stepped
use Rattle.tokens.proofs.TokensLeft.{no_more, fewer_next}
use Rattle.text.proofs.PutLaws.{negations_more, room_entry}

-- the nodes up to n that negate have been written, from where the loop begins
pub record Negating (room base : ℕ) (L₀ L : NodeLists) (n : ℕ) : Type 0 where
  pub fits : HasRoom room L
  pub lists_are : (k : ℕ) → base + k ≡ n → L ≡ put_negations room base k L₀

pub negating_none : {room base : ℕ} {L : NodeLists} → HasRoom room L → Negating room base L L base
unfolding put_negations
negating_none {room} {base} {L} h = record { fits = h; lists_are = λ k e. let z : k ≡ 0 = omega arith in sym (ap (λ (x : ℕ). put_negations room base x L) z) }

module _ {room base n : ℕ} {L₀ L : NodeLists} (m : Negating room base L₀ L n) where
  pub negating_more : {L' : NodeLists} → base ≤ n → L' ≡ put_entry room n (node_entry 9 (n - 1) 0) L → Negating room base L₀ L' (n + 1)
  negating_more {L'} h e = record { fits = room_entry _ _ m.fits e; lists_are = go }
    where
      go : (k : ℕ) → base + k ≡ n + 1 → L' ≡ put_negations room base k L₀
      go zero q = absurd (omega arith)
      go (suc k) q =
          let z : n ≡ base + k = omega arith in
          negations_more room base k L₀ (m.lists_are k (sym z)) (e ∙ ap (λ (x : ℕ). put_entry room x (node_entry 9 (x - 1) 0) L) z)

module _ (names : List (List ℕ)) (text : List ℕ) where
  -- the tokens after a mark are fewer
  pub fewer_mark : {at at' next : ℕ} {k : Token} → at ≤ at' → MarkAt names text k at' next → length (tokens_from names text next) < length (tokens_from names text at)
  fewer_mark {at} {at'} h m = omega (arith, ap length m.tokens_are, no_more names text at at' h)

  -- and those after an operand that follows it
  pub fewer_joined : {l : ReaderLevel} {at next nodes room : ℕ} {k : Token} {L L' : NodeLists} {r : Stepped.Step} → MarkAt names text k at next → Got names text l next nodes room L L' r
      → length (tokens_from names text r.at) < length (tokens_from names text at)
  fewer_joined {at = at} {next = next} {r = r} m g = omega (arith, fewer_mark (le_refl at) m, no_more names text next r.at (le_of_lt g.onward))

  pub fewer_scanned : {at : ℕ} {x : Scan.NegationRun} → Scanned names text at x → length (tokens_from names text x.token.next) < length (tokens_from names text at)
  fewer_scanned {at} s = let l : at ≤ s.place = omega (arith, s.few) in fewer_next names text l s.token_is
