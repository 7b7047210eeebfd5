-- How the core sizes are filled while the nodes are passed. Assumes nothing.
use Prim.Native.Nat.{ℕ, zero, suc, ◌<◌, ◌≤◌}
use native.Mathlib.Omega.{arith}
use mathlib.Core.Bool.{Bool, true, false, cond, ◌||◌}
use mathlib.Core.List.{List, [], ◌∷◌}
use mathlib.Core.Path.{◌≡◌, refl, sym, ap, ◌∙◌, subst}
use lib.Dec.{eqb}
use lib.ListN.{length, get_or, set, take, replicate, length-set, length-replicate, get_or-replicate}
use lib.Seq.{ext_get_or, get_or-take, get_or-set_same, get_or-set_other, length-take-le}
use borrow.Author.Tests.{eqb-true, eqb-false, ne_eqb}
use Rattle.policy.specs.NodeLists.{NodeLists, node_of, node_at, node_count}
use Rattle.policy.specs.Legality.{field_of}
use Rattle.policy.specs.Mentions.{is_of_field, mentioned_below, mentioned, core_sizes}
use Rattle.policy.proofs.MentionLaws.{core_length, core_at}
use Rattle.mentions.specs.Noting.{Noted, NotedToo, FieldNoted, NodeNoted, PolicyNoted}

or_false_right : (b : Bool) → b ≡ (b || false)
or_false_right true = refl
or_false_right false = refl

or_true_right : (b : Bool) → (b || true) ≡ true
or_true_right true = refl
or_true_right false = refl

or_assoc : (a b c : Bool) → ((a || b) || c) ≡ (a || (b || c))
or_assoc true b c = refl
or_assoc false b c = refl

module _ (sizes : List ℕ) where
  -- what is noted goes by the test's answers alone
  same_test : (test other : ℕ → Bool) (core : List ℕ) → ((f : ℕ) → f < length sizes → test f ≡ other f) → Noted sizes test core → Noted sizes other core
  same_test test other core e h = record { room = h.room; each = λ f l. h.each f l ∙ ap (λ (b : Bool). cond b (get_or sizes f 0) 1) (e f l) }

  -- nothing more is noted where no field passes
  nothing_noted : (more : ℕ → Bool) (core : List ℕ) → ((f : ℕ) → f < length sizes → more f ≡ false) → NotedToo sizes more core core
  nothing_noted more core e test h = same_test test (λ f. test f || more f) core (λ f l. or_false_right (test f) ∙ ap (λ (b : Bool). test f || b) (sym (e f l))) h

  module _ (field : ℕ) (core : List ℕ) where
    pub field_noted : length sizes ≤ 8 → field < length sizes → FieldNoted sizes field core (set core field (get_or sizes field 0))
    field_noted few inside test h = record { room = length-set core field _ ∙ h.room; each = λ g l. go g l (eqb field g) refl }
      where
        go : (g : ℕ) → g < length sizes → (b : Bool) → eqb field g ≡ b → get_or (set core field (get_or sizes field 0)) g 0 ≡ cond (test g || eqb field g) (get_or sizes g 0) 1
        go g l true e =
            let same : field ≡ g = eqb-true field g e in
            ap (λ i. get_or (set core field (get_or sizes field 0)) i 0) (sym same)
            ∙ get_or-set_same core field _ 0 (omega (arith, h.room))
            ∙ ap (λ i. get_or sizes i 0) same
            ∙ sym (ap (λ (b : Bool). cond b (get_or sizes g 0) 1) (ap (λ (b : Bool). test g || b) e ∙ or_true_right (test g)))
        go g l false e =
            get_or-set_other core field g _ 0 (λ s. eqb-false field g e (sym s))
            ∙ h.each g l
            ∙ ap (λ (b : Bool). cond b (get_or sizes g 0) 1) (or_false_right (test g) ∙ ap (λ (b : Bool). test g || b) (sym e))

    -- a number that is no field's
    pub field_beyond : length sizes ≤ field → FieldNoted sizes field core core
    field_beyond beyond = nothing_noted _ core (λ g l. ne_eqb field g (λ e. omega (arith, e)))

  -- a test or change of the field
  pub of_field_noted : (kind first : ℕ) (core core' : List ℕ) → 2 ≤ kind → kind ≤ 4 → FieldNoted sizes first core core' → NodeNoted sizes kind first core core'
  unfolding is_of_field node_of field_of
  of_field_noted zero first core core' l m h = absurd (omega arith)
  of_field_noted (suc zero) first core core' l m h = absurd (omega arith)
  of_field_noted (suc (suc zero)) first core core' l m h = λ second. h
  of_field_noted (suc (suc (suc zero))) first core core' l m h = λ second. h
  of_field_noted (suc (suc (suc (suc zero)))) first core core' l m h = λ second. h
  of_field_noted (suc (suc (suc (suc (suc k))))) first core core' l m h = absurd (omega arith)

  -- a node of a lower kind, and one of a higher
  pub lower_passed : (kind first : ℕ) (core : List ℕ) → kind < 2 → NodeNoted sizes kind first core core
  unfolding is_of_field node_of
  lower_passed kind first core l second = nothing_noted _ core (λ f i. go kind f l)
    where
      go : (k f : ℕ) → k < 2 → is_of_field f (node_of k first second) ≡ false
      go zero f l = refl
      go (suc zero) f l = refl
      go (suc (suc k)) f l = absurd (omega arith)

  pub higher_passed : (kind first : ℕ) (core : List ℕ) → 4 < kind → NodeNoted sizes kind first core core
  unfolding is_of_field node_of
  higher_passed kind first core l second = nothing_noted _ core (λ f i. go kind f l)
    where
      go : (k f : ℕ) → 4 < k → is_of_field f (node_of k first second) ≡ false
      go zero f l = absurd (omega arith)
      go (suc zero) f l = absurd (omega arith)
      go (suc (suc zero)) f l = absurd (omega arith)
      go (suc (suc (suc zero))) f l = absurd (omega arith)
      go (suc (suc (suc (suc zero)))) f l = absurd (omega arith)
      go (suc (suc (suc (suc (suc zero))))) f l = refl
      go (suc (suc (suc (suc (suc (suc zero)))))) f l = refl
      go (suc (suc (suc (suc (suc (suc (suc zero))))))) f l = refl
      go (suc (suc (suc (suc (suc (suc (suc (suc zero)))))))) f l = refl
      go (suc (suc (suc (suc (suc (suc (suc (suc (suc zero))))))))) f l = refl
      go (suc (suc (suc (suc (suc (suc (suc (suc (suc (suc k)))))))))) f l = refl

  module _ (kind first : List ℕ) where
    -- no node is passed yet
    pub none_noted : (core : List ℕ) → PolicyNoted sizes kind first 0 core core
    unfolding mentioned_below
    none_noted core second = nothing_noted _ core (λ f l. refl)

    -- one node more
    pub next_noted : (i : ℕ) (core middle core' : List ℕ) → PolicyNoted sizes kind first i core middle → NodeNoted sizes (get_or kind i 0) (get_or first i 0) middle core' → PolicyNoted sizes kind first (suc i) core core'
    unfolding mentioned_below node_at
    next_noted i core middle core' h n second test t =
        same_test _ _ core' (λ f l. or_assoc (test f) _ _) (n (get_or second i 0) _ (h second test t))

    pub all_noted : (i : ℕ) (core core' : List ℕ) → i ≡ length kind → PolicyNoted sizes kind first i core core' → PolicyNoted sizes kind first (length kind) core core'
    all_noted i core core' e h = subst (λ n. PolicyNoted sizes kind first n core core') e h

-- the sizes that are noted of two policies are the core sizes
noted_core : (sizes : List ℕ) (L R : NodeLists) (core : List ℕ) → length sizes ≤ 8 → Noted sizes (λ f. (false || mentioned_below L f (node_count L)) || mentioned_below R f (node_count R)) core
    → take (length sizes) core ≡ core_sizes (L ∷ R ∷ []) sizes
unfolding mentioned
noted_core sizes L R core few h =
    ext_get_or 0 (take (length sizes) core) (core_sizes (L ∷ R ∷ []) sizes) (long ∙ sym (core_length (L ∷ R ∷ []) sizes))
    (λ f l.
    let inside : f < length sizes = subst (λ n. f < n) long l in
    get_or-take (length sizes) core f 0 inside
    ∙ h.each f inside
    ∙ ap (λ (b : Bool). cond (mentioned_below L f (node_count L) || b) (get_or sizes f 0) 1) (or_false_right (mentioned_below R f (node_count R)))
    ∙ sym (core_at (L ∷ R ∷ []) sizes f inside))
  where
    long : length (take (length sizes) core) ≡ length sizes
    long = length-take-le (length sizes) core (omega (arith, h.room))

-- both policies
pub both_noted : (sizes : List ℕ) (L R : NodeLists) (middle core : List ℕ) → length sizes ≤ 8 → PolicyNoted sizes L.kind L.first (length L.kind) (replicate 8 1) middle
    → PolicyNoted sizes R.kind R.first (length R.kind) middle core → take (length sizes) core ≡ core_sizes (L ∷ R ∷ []) sizes
unfolding node_count
both_noted sizes L R middle core few left right =
    noted_core sizes L R core few
    (right R.second _ (left L.second (λ f. false) record { room = length-replicate {A = ℕ} 8 1; each = λ f i. get_or-replicate 8 f 1 0 (omega arith) }))
