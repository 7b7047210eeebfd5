-- The numbers of the dups and the places of the remainders.
use Prim.Native.Nat.{ℕ, suc, pred, ◌+◌, ◌-◌, ◌≤◌, ◌<◌}
use mathlib.Core.Bool.{Bool, true, false, true≢false}
use mathlib.Core.List.{List}
use mathlib.Core.Path.{◌≡◌, refl, sym, ap, ap₂, ◌∙◌, subst}
use native.Mathlib.Decide.{ℕ_discrete}
use native.Mathlib.Numerals.{add-one}
use native.Mathlib.Omega.{arith}
use lib.ListN.{length, get_or, set, replicate, length-set, get_or-replicate}
use lib.Seq.{get_or-set_same, get_or-set_other}
use Rattle.packet_set.specs.Bits.{mask_bits}
use Rattle.policy.specs.declared.Node.{Node}
use Rattle.policy.specs.declared.Node.TheVariants.{Drop, Id, Field, Dup, Sum, Seq, Star, Neg}
use Rattle.policy.specs.NodeLists.{NodeLists, node_count, node_at, is_dup, one, dups_below}
use Rattle.loaded.specs.Loaded.{DupAt}
use Rattle.loaded.specs.Loading.{Formed, Labels, dup_placed}
use Rattle.loaded.proofs.Bounds.{replicate_le}
use Rattle.loaded.proofs.Trees.{few, some, few_dups, small}

-- ---- numbers

pub same_label : (node x : Node) (d : ℕ) → node ≡ x → is_dup x ≡ false → d ≡ d + one (is_dup node)
unfolding one
same_label node x d q e = subst (λ (b : Bool). d ≡ d + one b) (sym (ap is_dup q ∙ e)) (omega arith)

pub next_label : (node x : Node) (d : ℕ) → node ≡ x → is_dup x ≡ true → d + 1 ≡ d + one (is_dup node)
unfolding one
next_label node x d q e = subst (λ (b : Bool). d + 1 ≡ d + one b) (sym (ap is_dup q ∙ e)) refl

-- the dups up to and with each of the first n nodes are counted
pub record Counting (L : NodeLists) (labels : List ℕ) (d n : ℕ) : Type 0 where
  pub at : n ≤ node_count L
  pub long : length labels ≡ 512
  pub count : d ≡ dups_below L n
  pub done : (j : ℕ) → j < n → get_or labels j 0 ≡ dups_below L (suc j)

module _ (L : NodeLists) (f : Formed L) where
  pub counting_start : (labels : List ℕ) → length labels ≡ 512 → Counting L labels 0 0
  unfolding dups_below
  counting_start labels l = record { at = omega arith; long = l; count = refl; done = λ j h. absurd (omega arith) }

  module _ (labels : List ℕ) (d n : ℕ) (m : Counting L labels d n) where
    pub count_small : d < mask_bits
    count_small = let h = few_dups L f n m.at in omega (arith, m.count)

    pub counting_turn : n < node_count L → (node : Node) → node ≡ node_at L n → (d' : ℕ) → d' ≡ d + one (is_dup node) → Counting L (set labels n d') d' (n + 1)
    unfolding dups_below
    counting_turn l node en d' ed = record {
      at = omega arith;
      long = length-set labels n d' ∙ m.long;
      count = here ∙ ap (dups_below L) (sym (add-one n));
      done = λ j h. split j (ℕ_discrete j n) h;
    }
      where
        here : d' ≡ dups_below L (suc n)
        here = ed ∙ ap₂ (λ (x : ℕ) (y : Node). x + one (is_dup y)) m.count en

        split : (j : ℕ) → Dec (j ≡ n) → j < n + 1 → get_or (set labels n d') j 0 ≡ dups_below L (suc j)
        split j (yes e) h =
            subst (λ (k : ℕ). get_or (set labels n d') k 0 ≡ dups_below L (suc k)) (sym e)
            (get_or-set_same labels n d' 0 (let q = few L f in omega (arith, m.long)) ∙ here)
        split j (no e) h = get_or-set_other labels n j d' 0 e ∙ m.done j (omega arith)

-- ---- places

pub placed_is : (label n : ℕ) (places : List ℕ) (node d : Node) → node ≡ d → dup_placed label n places d ≡ dup_placed label n places node
placed_is label n places node d e = sym (ap (dup_placed label n places) e)

pub not_dup : (node : Node) → (node ≡ Dup → ⊥) → is_dup node ≡ false
unfolding is_dup
not_dup Drop h = refl
not_dup Id h = refl
not_dup (Field a) h = refl
not_dup Dup h = absurd (h refl)
not_dup (Sum x y) h = refl
not_dup (Seq x y) h = refl
not_dup (Star x) h = refl
not_dup (Neg x) h = refl

pub placed_dup : (label n : ℕ) (places : List ℕ) (node : Node) → node ≡ Dup → set places label n ≡ dup_placed label n places node
unfolding dup_placed
placed_dup label n places node e = placed_is label n places node Dup e

pub placed_none : (label n : ℕ) (places : List ℕ) (node : Node) → is_dup node ≡ false → places ≡ dup_placed label n places node
unfolding dup_placed is_dup
placed_none label n places Drop h = refl
placed_none label n places Id h = refl
placed_none label n places (Field a) h = refl
placed_none label n places Dup h = absurd (true≢false h)
placed_none label n places (Sum x y) h = refl
placed_none label n places (Seq x y) h = refl
placed_none label n places (Star x) h = refl
placed_none label n places (Neg x) h = refl

is_dup_lem : (node : Node) → is_dup node ≡ true → node ≡ Dup
unfolding is_dup
is_dup_lem Drop h = absurd (true≢false (sym h))
is_dup_lem Id h = absurd (true≢false (sym h))
is_dup_lem (Field a) h = absurd (true≢false (sym h))
is_dup_lem Dup h = refl
is_dup_lem (Sum x y) h = absurd (true≢false (sym h))
is_dup_lem (Seq x y) h = absurd (true≢false (sym h))
is_dup_lem (Star x) h = absurd (true≢false (sym h))
is_dup_lem (Neg x) h = absurd (true≢false (sym h))

-- the dups among the first n nodes have their places
pub record Placing (L : NodeLists) (places : List ℕ) (n : ℕ) : Type 0 where
  pub at : n ≤ node_count L
  pub long : length places ≡ mask_bits
  pub whole : get_or places 0 0 ≡ pred (node_count L)
  pub dups : (i : ℕ) → 0 < i → i ≤ dups_below L n → DupAt L i (get_or places i 0)
  pub none : (i : ℕ) → dups_below L n < i → i < mask_bits → get_or places i 0 ≡ 512
  pub short : (i : ℕ) → get_or places i 0 ≤ 512

module _ (L : NodeLists) (f : Formed L) where
  pub placing_start : (r : ℕ) → r ≡ node_count L - 1 → Placing L (set (replicate mask_bits 512) 0 r) 0
  unfolding dups_below
  placing_start r e = record {
    at = omega arith;
    long = length-set (replicate mask_bits 512) 0 r;
    whole = let h = some L f in root;
    dups = λ i a b. absurd (omega arith);
    none = λ i a b. unset i (omega arith) ∙ get_or-replicate mask_bits i 512 0 b;
    short = λ i. bound i (ℕ_discrete i 0);
  }
    where
      root : get_or (set (replicate mask_bits 512) 0 r) 0 0 ≡ pred (node_count L)
      root = get_or-set_same (replicate mask_bits 512) 0 r 0 (omega arith) ∙ omega arith

      unset : (i : ℕ) → (i ≡ 0 → ⊥) → get_or (set (replicate mask_bits 512) 0 r) i 0 ≡ get_or (replicate mask_bits 512) i 0
      unset i h = get_or-set_other (replicate mask_bits 512) 0 i r 0 h

      within : (k i : ℕ) → get_or (replicate k 512) i 0 ≤ 512
      within k i = replicate_le k i 512

      bound : (i : ℕ) → Dec (i ≡ 0) → get_or (set (replicate mask_bits 512) 0 r) i 0 ≤ 512
      bound i (yes q) = subst (λ (x : ℕ). get_or (set (replicate mask_bits 512) 0 r) x 0 ≤ 512) (sym q) (let h = few L f in omega (arith, root))
      bound i (no q) = let h = within mask_bits i in omega (arith, unset i q)

  module _ (places : List ℕ) (n : ℕ) (m : Placing L places n) (l : n < node_count L) where
    module _ (o : node_at L n ≡ Dup) where
      next : dups_below L (suc n) ≡ dups_below L n + 1
      unfolding dups_below is_dup one
      next = ap (λ (x : Node). dups_below L n + one (is_dup x)) o

      fits : dups_below L (suc n) < length places
      fits = let h = few_dups L f (suc n) l in omega (arith, m.long)

      dup_turn : Placing L (set places (dups_below L (suc n)) n) (suc n)
      dup_turn = record {
        at = l;
        long = length-set places (dups_below L (suc n)) n ∙ m.long;
        whole = get_or-set_other places (dups_below L (suc n)) 0 n 0 (let h = next in omega arith) ∙ m.whole;
        dups = λ i a b. split i a b (ℕ_discrete i (dups_below L (suc n)));
        none = λ i a b. get_or-set_other places (dups_below L (suc n)) i n 0 (omega arith) ∙ m.none i (let h = next in omega arith) b;
        short = λ i. bound i (ℕ_discrete i (dups_below L (suc n)));
      }
        where
          here : get_or (set places (dups_below L (suc n)) n) (dups_below L (suc n)) 0 ≡ n
          here = get_or-set_same places (dups_below L (suc n)) n 0 fits

          split : (i : ℕ) → 0 < i → i ≤ dups_below L (suc n) → Dec (i ≡ dups_below L (suc n)) → DupAt L i (get_or (set places (dups_below L (suc n)) n) i 0)
          split i a b (yes e) =
              subst (λ (x : ℕ). DupAt L x (get_or (set places (dups_below L (suc n)) n) x 0)) (sym e)
              (subst (DupAt L (dups_below L (suc n))) (sym here) (record { within = l; is_dup = o; numbered = refl }))
          split i a b (no e) =
              subst (DupAt L i) (sym (get_or-set_other places (dups_below L (suc n)) i n 0 e)) (m.dups i a (let h = next in omega arith))

          bound : (i : ℕ) → Dec (i ≡ dups_below L (suc n)) → get_or (set places (dups_below L (suc n)) n) i 0 ≤ 512
          bound i (yes e) = subst (λ (x : ℕ). get_or (set places (dups_below L (suc n)) n) x 0 ≤ 512) (sym e) (let h = small L f n l in omega (arith, here))
          bound i (no e) = let h = m.short i in omega (arith, get_or-set_other places (dups_below L (suc n)) i n 0 e)

    other_turn : is_dup (node_at L n) ≡ false → Placing L places (suc n)
    unfolding dups_below one
    other_turn o =
        let e : dups_below L (suc n) ≡ dups_below L n = ap (λ (b : Bool). dups_below L n + one b) o ∙ omega arith in record {
          at = l;
          long = m.long;
          whole = m.whole;
          dups = λ i a b. m.dups i a (omega arith);
          none = λ i a b. m.none i (omega arith) b;
          short = m.short;
        }

    pub placing_turn : (labels : List ℕ) → Labels L labels → (node : Node) → node ≡ node_at L n → (places' : List ℕ) → places' ≡ dup_placed (get_or labels n 0) n places node → Placing L places' (n + 1)
    placing_turn labels g node en places' ep = subst (Placing L places') (sym (add-one n)) (subst (λ (x : List ℕ). Placing L x (suc n)) (sym (ep ∙ ap₂ (λ (x : ℕ) (y : Node). dup_placed x n places y) (g.labelled n l) en)) (go (is_dup (node_at L n)) refl))
      where
        go : (b : Bool) → is_dup (node_at L n) ≡ b → Placing L (dup_placed (dups_below L (suc n)) n places (node_at L n)) (suc n)
        go true o = subst (λ (x : List ℕ). Placing L x (suc n)) (placed_dup (dups_below L (suc n)) n places (node_at L n) (is_dup_lem (node_at L n) o)) (dup_turn (is_dup_lem (node_at L n) o))
        go false o = subst (λ (x : List ℕ). Placing L x (suc n)) (placed_none (dups_below L (suc n)) n places (node_at L n) o) (other_turn o)

    pub label_fits : (labels : List ℕ) → Labels L labels → get_or labels n 0 < mask_bits
    label_fits labels g = let h = few_dups L f (suc n) l in omega (arith, g.labelled n l)
