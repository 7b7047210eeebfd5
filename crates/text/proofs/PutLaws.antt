-- Writing entries one after the other, as far as there is room.
use Prim.Native.Nat.{ℕ, zero, suc, pred, ◌+◌, ◌-◌, ◌≤◌, ◌<◌}
use native.Mathlib.Nat.{add-zero, zero-add}
use native.Mathlib.Numerals.{sub-one}
use native.Mathlib.Omega.{arith}
use mathlib.Core.Bool.{Bool, true, false, cond}
use mathlib.Core.List.{List, [], ◌∷◌, ◌++◌}
use mathlib.Core.Path.{◌≡◌, refl, sym, ◌∙◌, ap, ap₂, subst}
use lib.Dec.{ltb}
use lib.ListN.{length, set, drop, length-append, length-map, length-set}
use lib.Seq.{sets, sets-eq}
use borrow.Author.Tests.{lt-ltb, le-ltb, ltb-true}
use Rattle.std.specs.Prelude.{Result, Ok, Err, OkIff}
use Rattle.std.specs.Result.{result_unwrap_or}
use Rattle.policy.specs.AsLists.{as_lists}
use Rattle.policy.specs.Tree.{Policy, star}
use Rattle.policy.specs.NodeLists.{NodeLists}
use Rattle.policy.specs.NodesOfTree.{NodeEntry, node_entry, tree_size, entries_from, lists_of}
use Rattle.policy.proofs.Nodes.{entries_length}
use Rattle.grammar.specs.Reading.{negated}
use Rattle.packet.specs.Written.{written}
use Rattle.text.specs.declared.Lists as Lent
use Rattle.text.specs.Inner.{put_at, put_entry, put_all, put_negations, SameLists, HasRoom}

pub put_append : (room n : ℕ) (xs ys : List NodeEntry) (L : NodeLists) → put_all room n (xs ++ ys) L ≡ put_all room (n + length xs) ys (put_all room n xs L)
unfolding put_all
put_append room n [] ys L = ap (λ (k : ℕ). put_all room k ys L) (sym (add-zero n))
put_append room n (x ∷ xs) ys L =
    put_append room (suc n) xs ys (put_entry room n x L)
    ∙ ap (λ (k : ℕ). put_all room k ys (put_all room (suc n) xs (put_entry room n x L))) (let e : suc n + length xs ≡ n + length (x ∷ xs) = omega arith in e)

put_last : (room n : ℕ) (xs : List NodeEntry) (e : NodeEntry) (m : ℕ) (L : NodeLists) → m ≡ n + length xs → put_entry room m e (put_all room n xs L) ≡ put_all room n (xs ++ e ∷ []) L
unfolding put_all
put_last room n xs e m L q = ap (λ (k : ℕ). put_entry room k e (put_all room n xs L)) q ∙ sym (put_append room n xs (e ∷ []) L)

-- a node over the last one
put_over : (k room n m : ℕ) (p : Policy) (L : NodeLists) → m ≡ n + tree_size p
    → put_entry room m (node_entry k (m - 1) 0) (put_all room n (entries_from n p) L) ≡ put_all room n (entries_from n p ++ node_entry k (pred (n + tree_size p)) 0 ∷ []) L
put_over k room n m p L q =
    ap (λ (x : ℕ). put_entry room m (node_entry k x 0) (put_all room n (entries_from n p) L)) (sub-one m ∙ ap pred q)
    ∙ put_last room n (entries_from n p) (node_entry k (pred (n + tree_size p)) 0) m L (q ∙ ap (λ (x : ℕ). n + x) (sym (entries_length n p)))

pub put_star : (room n m : ℕ) (p : Policy) (L : NodeLists) → m ≡ n + tree_size p
    → put_entry room m (node_entry 8 (m - 1) 0) (put_all room n (entries_from n p) L) ≡ put_all room n (entries_from n (star p)) L
unfolding entries_from
put_star room n m p L q = put_over 8 room n m p L q

-- each negation is a node
pub negated_size : (k : ℕ) (p : Policy) → tree_size (negated k p) ≡ tree_size p + k
unfolding tree_size negated
negated_size zero p = omega arith
negated_size (suc k) p = omega (arith, negated_size k p)

pub negations_more : (room n k : ℕ) (L : NodeLists) {L₁ L₂ : NodeLists} → L₁ ≡ put_negations room n k L → L₂ ≡ put_entry room (n + k) (node_entry 9 (n + k - 1) 0) L₁
    → L₂ ≡ put_negations room n (suc k) L
unfolding put_negations
negations_more room n k L e f = f ∙ ap (put_entry room (n + k) (node_entry 9 (n + k - 1) 0)) e

pub put_negated : (room n m k : ℕ) (p : Policy) (L : NodeLists) → m ≡ n + tree_size p
    → put_negations room m k (put_all room n (entries_from n p) L) ≡ put_all room n (entries_from n (negated k p)) L
unfolding put_negations negated entries_from
put_negated room n m zero p L q = refl
put_negated room n m (suc k) p L q =
    ap (put_entry room (m + k) (node_entry 9 (m + k - 1) 0)) (put_negated room n m k p L q)
    ∙ put_over 9 room n (m + k) (negated k p) L (omega (arith, q, negated_size k p))

-- the entries of two trees and of the node that joins them
unfoldable pub joined_entries : ℕ → ℕ → Policy → Policy → List NodeEntry
joined_entries k n p q =
    entries_from n p ++ entries_from (n + tree_size p) q ++ node_entry k (pred (n + tree_size p)) (pred (n + tree_size p + tree_size q)) ∷ []

pub put_join : (k room n m r : ℕ) (p q : Policy) (L : NodeLists) → m ≡ n + tree_size p → r ≡ m + tree_size q
    → put_entry room r (node_entry k (m - 1) (r - 1)) (put_all room m (entries_from m q) (put_all room n (entries_from n p) L)) ≡ put_all room n (joined_entries k n p q) L
unfolding joined_entries
put_join k room n m r p q L e f =
    ap₂ (λ (a b : ℕ). put_entry room r (node_entry k a b) (put_all room m (entries_from m q) (put_all room n (entries_from n p) L)))
    (sub-one m ∙ ap pred e) (sub-one r ∙ ap pred (f ∙ ap (λ (x : ℕ). x + tree_size q) e))
    ∙ ap (λ (x : ℕ). put_entry room r (node_entry k (pred (n + tree_size p)) (pred (n + tree_size p + tree_size q))) (put_all room x (entries_from x q) (put_all room n (entries_from n p) L))) e
    ∙ ap (λ (x : ℕ). put_entry room r (node_entry k (pred (n + tree_size p)) (pred (n + tree_size p + tree_size q))) (put_all room x (entries_from (n + tree_size p) q) (put_all room n (entries_from n p) L)))
    (ap (λ (x : ℕ). n + x) (sym (entries_length n p)))
    ∙ ap (put_entry room r (node_entry k (pred (n + tree_size p)) (pred (n + tree_size p + tree_size q)))) (sym (put_append room n (entries_from n p) (entries_from (n + tree_size p) q) L))
    ∙ put_last room n (entries_from n p ++ entries_from (n + tree_size p) q) (node_entry k (pred (n + tree_size p)) (pred (n + tree_size p + tree_size q))) r L
    (let l : length (entries_from n p ++ entries_from (n + tree_size p) q) ≡ tree_size p + tree_size q = length-append (entries_from n p) (entries_from (n + tree_size p) q) ∙ ap₂ ◌+◌ (entries_length n p) (entries_length (n + tree_size p) q) in omega arith)

-- numbers of nodes that are written fit 16 bits
pub put_narrow : (room n k a b a' b' : ℕ) (L : NodeLists) → (n < room → (a' ≡ a) × (b' ≡ b)) → put_entry room n (node_entry k a' b') L ≡ put_entry room n (node_entry k a b) L
unfolding put_entry put_at node_entry
put_narrow room n k a b a' b' L h = go (ltb n room) refl
  where
    go : (t : Bool) → ltb n room ≡ t → put_entry room n (node_entry k a' b') L ≡ put_entry room n (node_entry k a b) L
    go true e = let q = h (ltb-true n room e) in ap₂ (λ (x y : ℕ). put_entry room n (node_entry k x y) L) q.0 q.1
    go false e = rw e

puts : ℕ → ℕ → List ℕ → List ℕ → List ℕ
puts room n [] xs = xs
puts room n (v ∷ vs) xs = puts room (suc n) vs (put_at room n v xs)

columns : (room n : ℕ) (es : List NodeEntry) (L : NodeLists)
    → put_all room n es L ≡ record { kind = puts room n (lists_of es).kind L.kind; first = puts room n (lists_of es).first L.first; second = puts room n (lists_of es).second L.second }
unfolding put_all puts put_entry lists_of
columns room n [] L = refl
columns room n (e ∷ es) L = columns room (suc n) es (put_entry room n e L)

puts_sets : (room n : ℕ) (vs xs : List ℕ) → n + length vs ≤ room → puts room n vs xs ≡ sets xs n vs
unfolding puts put_at
puts_sets room n [] xs h = refl
puts_sets room n (v ∷ vs) xs h = rw (lt-ltb n room (omega arith)) (puts_sets room (suc n) vs (set xs n v) (omega arith))

puts_written : (room : ℕ) (vs xs : List ℕ) → length vs ≤ room → room ≤ length xs → puts room 0 vs xs ≡ written vs xs
unfolding written
puts_written room vs xs h g =
    puts_sets room 0 vs xs (omega arith) ∙ sets-eq vs xs 0 (omega arith) ∙ ap (λ (k : ℕ). vs ++ drop k xs) (zero-add (length vs))

-- with room for all of them the entries stand first, and the rest is kept
pub put_written : (room : ℕ) (es : List NodeEntry) (K F S : List ℕ) → length es ≤ room → room ≤ length K → room ≤ length F → room ≤ length S
    → put_all room 0 es (as_lists K F S) ≡ as_lists (written (lists_of es).kind K) (written (lists_of es).first F) (written (lists_of es).second S)
unfolding lists_of
put_written room es K F S h k f s =
    columns room 0 es (as_lists K F S)
    ∙ λ i. record {
      kind = puts_written room (lists_of es).kind K (rw (length-map es (λ (e : NodeEntry). e.kind)) h) k i;
      first = puts_written room (lists_of es).first F (rw (length-map es (λ (e : NodeEntry). e.first)) h) f i;
      second = puts_written room (lists_of es).second S (rw (length-map es (λ (e : NodeEntry). e.second)) h) s i;
    }

module _ (room n k a b : ℕ) (K F S : List ℕ) where
  pub put_yes : n < room → as_lists (set K n k) (set F n a) (set S n b) ≡ put_entry room n (node_entry k a b) (as_lists K F S)
  unfolding put_entry put_at node_entry
  put_yes h = rw (lt-ltb n room h)

  pub put_no : room ≤ n → as_lists K F S ≡ put_entry room n (node_entry k a b) (as_lists K F S)
  unfolding put_entry put_at node_entry
  put_no h = rw (le-ltb n room h)

-- the lists keep their lengths
at_length : (room n v : ℕ) (xs : List ℕ) → length (put_at room n v xs) ≡ length xs
unfolding put_at
at_length room n v xs = go (ltb n room)
  where
    go : (t : Bool) → length (cond t (set xs n v) xs) ≡ length xs
    go true = length-set xs n v
    go false = refl

pub room_entry : {room : ℕ} (n : ℕ) (e : NodeEntry) {L L' : NodeLists} → HasRoom room L → L' ≡ put_entry room n e L → HasRoom room L'
unfolding put_entry
room_entry {room} n e {L} h q =
    subst (HasRoom room) (sym q)
    (record {
      kinds = omega (arith, h.kinds, at_length room n e.kind L.kind);
      firsts = omega (arith, h.firsts, at_length room n e.first L.first);
      seconds = omega (arith, h.seconds, at_length room n e.second L.second);
    })

room_puts : (room n : ℕ) (es : List NodeEntry) (L : NodeLists) → HasRoom room L → HasRoom room (put_all room n es L)
unfolding put_all
room_puts room n [] L h = h
room_puts room n (e ∷ es) L h = room_puts room (suc n) es (put_entry room n e L) (room_entry n e h refl)

pub room_all : {room : ℕ} (n : ℕ) (es : List NodeEntry) {L L' : NodeLists} → HasRoom room L → L' ≡ put_all room n es L → HasRoom room L'
room_all {room} n es {L} h q = subst (HasRoom room) (sym q) (room_puts room n es L h)

-- a number that fits 16 bits
pub narrow : {E : Type 0} {n q : ℕ} (r : Result ℕ E) → OkIff r (n < 65536) n → q ≡ result_unwrap_or r 0 → n < 65536 → q ≡ n
narrow (Ok x) o e l = e ∙ o.1
narrow (Err d) o e l = absurd (o l)

pub same_lists : {out : Lent.Lists} → SameLists out out
same_lists = record { kind = refl; first = refl; second = refl }

pub same_then : {a b c : Lent.Lists} → SameLists a b → SameLists b c → SameLists a c
same_then h k = record { kind = k.kind ∙ h.kind; first = k.first ∙ h.first; second = k.second ∙ h.second }
