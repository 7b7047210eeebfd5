-- The index: hashed buckets, each a digital search tree of rows, in one list. An entry is 1 + a row's number, 0 is none: of `size` buckets slot b holds
-- the root of bucket b, and the two slots from size + 2 i hold the children of row i.
use Rattle.std.specs.Prelude.{◌≡◌, Bool, true, false, cond, ◌||◌, List, ℕ, zero, suc, ◌+◌, ◌-◌, ◌*◌, ◌/◌, ◌%◌, ◌^◌, ◌≤◌, ◌<◌, eqb, ltb, length, get_or, set, Result, Ok, Err}
use Rattle.packet_set.specs.Bits.{mask_bits}
use Rattle.index.specs.declared.Row.{Row}
use Rattle.index.specs.Columns.{policy_count, EvenColumns, row_at, rows_agree, listed_below}

-- any odd number and prime would serve: the hash decides how deep the trees are and nothing else
abbrev pub hash_factor : ℕ
hash_factor = 1640531527

abbrev pub hash_prime : ℕ
hash_prime = 4294967291

-- half a state, a number below 2 ^ 32, goes into a hash
unfoldable pub mixed : ℕ → ℕ → ℕ
mixed h half = (h + half) * hash_factor % hash_prime

-- the upper half of a state goes into it if it has a bit
unfoldable pub mixed_upper : ℕ → ℕ → ℕ
mixed_upper h upper = cond (eqb upper 0) h (mixed h upper)

-- the states of the first k policies, hashed half by half
unfoldable pub hash_of : ℕ → List ℕ → ℕ
hash_of zero a = 0
hash_of (suc k) a = mixed_upper (mixed (hash_of k a) (get_or a k 0 % 4294967296)) (get_or a k 0 / 4294967296)

-- the row's bucket of `size` buckets: each packet has a range of its own, and the states are hashed within it
unfoldable pub bucket_of : ℕ → ℕ → Row → ℕ
bucket_of size count r = r.packet * (size / count) + hash_of policy_count r.states % (size / count)

-- how many buckets a list has, and how many rows it has room for
abbrev pub bucket_count : List ℕ → ℕ
bucket_count trees = length trees / 3

-- the slot of a child of row i
abbrev pub child_slot : ℕ → ℕ → ℕ → ℕ
child_slot size i side = size + 2 * i + side

-- the child that a look goes on to from a depth: a bit of a state, the policies in turn
unfoldable pub side_at : ℕ → List ℕ → ℕ
side_at depth a = get_or a (depth % policy_count) 0 / 2 ^ (depth / policy_count % mask_bits) % 2

-- a look for a row ends at an entry: none, or the row
unfoldable pub ends : (ℕ → Row) → ℕ → Row → Bool
ends f entry r = eqb entry 0 || rows_agree (f (entry - 1)) r

-- the slot where a look for a row ends that goes on from a slot, `depth` below the root, by at most so many rows
unfoldable pub look_from : (ℕ → Row) → ℕ → List ℕ → Row → ℕ → ℕ → ℕ → ℕ
look_from f size trees r zero depth slot = slot
look_from f size trees r (suc k) depth slot =
    cond (ends f (get_or trees slot 0) r) slot (look_from f size trees r k (suc depth) (child_slot size (get_or trees slot 0 - 1) (side_at depth r.states)))

-- the slot where a look for the row ends; N is `count`
unfoldable pub slot_of : (ℕ → Row) → ℕ → List ℕ → Row → ℕ
slot_of f count trees r = look_from f (bucket_count trees) trees r (bucket_count trees) 0 (bucket_of (bucket_count trees) count r)

-- the entries are rows below n, and a child's number is above its parent's
pub record Rising (size n : ℕ) (trees : List ℕ) : Type 0 where
  pub below : (slot : ℕ) → get_or trees slot 0 ≤ n
  pub rises : (i side : ℕ) → side < 2 → 0 < get_or trees (child_slot size i side) 0 → suc i < get_or trees (child_slot size i side) 0

-- The first n rows of the columns are indexed: a look for a row ends at an entry exactly when the row is one of them.
pub record Indexed (P L R : List ℕ) (count n : ℕ) (trees : List ℕ) : Type 0 where
  pub table : EvenColumns P L R
  pub within : n ≤ length P
  pub numbered : length P < 65536
  pub room : n ≤ bucket_count trees
  pub buckets : count ≤ bucket_count trees
  pub rising : Rising (bucket_count trees) n trees
  pub finds : (r : Row) → r.packet < count → listed_below (row_at P L R) n r ≡ ltb 0 (get_or trees (slot_of (row_at P L R) count trees r) 0)

-- the first n rows can be indexed: there is room for them, and each packet is below N
pub record Indexable (P : List ℕ) (count n : ℕ) (trees : List ℕ) : Type 0 where
  pub within : n ≤ length P
  pub room : n ≤ bucket_count trees
  pub small : (i : ℕ) → i < n → get_or P i 0 < count

-- the index has room for k rows after the first n, or for all that were lent
pub record RoomFor (P : List ℕ) (n k : ℕ) (trees : List ℕ) : Type 0 where
  pub room : (i : ℕ) → i < length P → i < n + k → i < bucket_count trees

-- the list once row n is attached where a look for it ended
unfoldable pub trees_with : (ℕ → Row) → ℕ → Row → ℕ → List ℕ → List ℕ
trees_with f count r n trees = set trees (slot_of f count trees r) (suc n)

-- the row is row i of the first n
pub record ListedAt (f : ℕ → Row) (n : ℕ) (r : Row) (i : ℕ) : Type 0 where
  pub below : i < n
  pub same : rows_agree (f i) r ≡ true
  pub listed : listed_below f n r ≡ true

-- the row is none of the first n, and a look for it ends at a vacant slot
pub record VacantAt (f : ℕ → Row) (count n : ℕ) (trees : List ℕ) (r : Row) (slot : ℕ) : Type 0 where
  pub inside : slot < bucket_count trees + 2 * n
  pub reached : slot ≡ slot_of f count trees r
  pub vacant : get_or trees slot 0 ≡ 0
  pub unlisted : listed_below f n r ≡ false

-- where a look for the row ends
pub record LookEnds (f : ℕ → Row) (count n : ℕ) (trees : List ℕ) (r : Row) (answer : Result ℕ ℕ) : Type 0 where
  pub listed : (i : ℕ) → answer ≡ Ok i → ListedAt f n r i
  pub vacant : (slot : ℕ) → answer ≡ Err slot → VacantAt f count n trees r slot
