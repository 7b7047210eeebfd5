-- Transport: along a map r, the traces of a policy from r α are the images of the traces that the policy with other actions has from α, where r
-- carries each of those actions to the policy's own.
use Prim.Native.Nat.{ℕ, zero, suc, ◌≤◌}
use mathlib.Core.Bool.{Bool}
use mathlib.Core.List.{[], ◌∷◌, ◌++◌, map, map-append}
use mathlib.Core.Logic.{◌⊎◌, inl, inr, ⊎_elim, ◌↔◌}
use mathlib.Core.Path.{◌≡◌, refl, sym, ap, ap₂, ◌∙◌, subst}
use lib.Dec.{T}
use lib.ListN.{length, length-map}
use Rattle.policy.specs.declared.FieldAction.{FieldAction}
use Rattle.policy.specs.Tree.{Policy, drop, id, field, dup, sum, seq, star, neg}
use Rattle.policy.specs.Meaning.{Packets, TraceSet, ActionTraces, Seq, Power, Drops, Traces, SameShortTraces}
use Rattle.policy.specs.InnerEach.{Each}
use Rattle.policy.specs.InnerTransport.{EachAction, with_actions}
use Rattle.policy.proofs.TraceLaws.{Trace, in_turn, AllEnd, snoc_injective, seq_ends, traces_end, Stays, turn_declared, seq_stays, traces_stay, single_stays}

module _ (H K L : FieldAction → Type 0) (f : (a : FieldAction) → H a → K a → L a) where
  pub each_action_both : (p : Policy) → EachAction H p → EachAction K p → EachAction L p
  each_action_both drop h k = tt
  each_action_both id h k = tt
  each_action_both (field a) h k = f a h k
  each_action_both (dup i) h k = tt
  each_action_both (sum p q) h k = (each_action_both p h.0 k.0, each_action_both q h.1 k.1)
  each_action_both (seq p q) h k = (each_action_both p h.0 k.0, each_action_both q h.1 k.1)
  each_action_both (star p) h k = each_action_both p h k
  each_action_both (neg p) h k = each_action_both p h k

pub each_action_map : (H K : FieldAction → Type 0) → ((a : FieldAction) → H a → K a) → (p : Policy) → EachAction H p → EachAction K p
each_action_map H K f p h = each_action_both H H K (λ a k l. f a k) p h h

-- where each action stays as it is, so does the policy
pub same_actions : (g : FieldAction → FieldAction) (p : Policy) → EachAction (λ a. g a ≡ a) p → with_actions g p ≡ p
unfolding with_actions
same_actions g drop h = refl
same_actions g id h = refl
same_actions g (field a) h = ap field h
same_actions g (dup i) h = refl
same_actions g (sum p q) h = ap₂ sum (same_actions g p h.0) (same_actions g q h.1)
same_actions g (seq p q) h = ap₂ seq (same_actions g p h.0) (same_actions g q h.1)
same_actions g (star p) h = ap star (same_actions g p h)
same_actions g (neg p) h = ap neg (same_actions g p h)

module _ (P Q : Packets) (Declared : P.Packet → Type 0) (r : P.Packet → Q.Packet) where
  -- u is the image of a trace from α
  abbrev pub Image : TraceSet P → P.Packet → Trace Q → Type 0
  Image A α u = (t : Trace P) × (u ≡ map r t) × A α t

  abbrev To : TraceSet P → TraceSet Q → Type 0
  To A B = (α : P.Packet) → Declared α → (t : Trace P) → A α t → B (r α) (map r t)

  abbrev From : TraceSet P → TraceSet Q → Type 0
  From A B = (α : P.Packet) → Declared α → (u : Trace Q) → B (r α) u → Image A α u

  -- the traces of B from r α are the images of those of A from α
  pub record Carried (A : TraceSet P) (B : TraceSet Q) : Type 0 where
    pub ends : AllEnd P A
    pub stays : Stays P Declared A
    pub to : To A B
    pub from : From A B

  pub test_carried : (x : P.Packet → Bool) (y : Q.Packet → Bool) → ((α : P.Packet) → Declared α → y (r α) ≡ x α)
      → Carried (λ α t. T (x α) × (t ≡ α ∷ [])) (λ α t. T (y α) × (t ≡ α ∷ []))
  test_carried x y c = record {
    ends = λ α t h. record { before = []; last = α; whole = h.1 };
    stays = λ α d t h. single_stays P Declared α d t h.1;
    to = λ α d t h. (rw (c α d) h.0, ap (map r) h.1);
    from = λ α d u h. (α ∷ [], h.1, (rw (← c α d) h.0, refl));
  }

  pub change_carried : (x : P.Packet → P.Packet) (y : Q.Packet → Q.Packet) → ((α : P.Packet) → Declared α → Declared (x α))
      → ((α : P.Packet) → Declared α → y (r α) ≡ r (x α))
      → Carried (λ α t. t ≡ x α ∷ []) (λ α t. t ≡ y α ∷ [])
  change_carried x y k c = record {
    ends = λ α t h. record { before = []; last = x α; whole = h };
    stays = λ α d. single_stays P Declared (x α) (k α d);
    to = λ α d t h. ap (map r) h ∙ ap (λ (β : Q.Packet). β ∷ []) (sym (c α d));
    from = λ α d u h. (x α ∷ [], h ∙ ap (λ (β : Q.Packet). β ∷ []) (c α d), refl);
  }

  -- the packet itself
  carried_one : Carried (λ α t. t ≡ α ∷ []) (λ α t. t ≡ α ∷ [])
  carried_one = change_carried (λ α. α) (λ β. β) (λ α d. d) (λ α d. refl)

  carried_seq : {A C : TraceSet P} {B D : TraceSet Q} → Carried A B → Carried C D → Carried (Seq P A C) (Seq Q B D)
  carried_seq {A} {C} {B} {D} h k =
      record { ends = seq_ends P A C k.ends; stays = seq_stays P Declared A C h.stays k.stays; to = to; from = from }
    where
      declared_turn : (α : P.Packet) → Declared α → (a : Trace P) (β : P.Packet) → A α (a ++ (β ∷ [])) → Declared β
      declared_turn α d a β s = (turn_declared P Declared A h.stays α d a β s).1

      to : To (Seq P A C) (Seq Q B D)
      to α d t s = record {
        a = map r s.a;
        β = r s.β;
        b = map r s.b;
        joined = ap (map r) s.joined ∙ map-append r s.a s.b;
        first = subst (B (r α)) (map-append r s.a (s.β ∷ [])) (h.to α d (s.a ++ (s.β ∷ [])) s.first);
        second = k.to s.β (declared_turn α d s.a s.β s.first) s.b s.second;
      }

      from : From (Seq P A C) (Seq Q B D)
      from α d u s =
          let f = h.from α d (s.a ++ (s.β ∷ [])) s.first in
          let e = h.ends α f.0 f.2 in
          let first : A α (e.before ++ (e.last ∷ [])) = subst (A α) e.whole f.2 in
          let image : s.a ++ (s.β ∷ []) ≡ map r e.before ++ (r e.last ∷ []) =
          f.1 ∙ ap (map r) e.whole ∙ map-append r e.before (e.last ∷ []) in
          let i = snoc_injective s.a (map r e.before) s.β (r e.last) image in
          let second : D (r e.last) s.b = subst (λ (β : Q.Packet). D β s.b) i.1 s.second in
          let g = k.from e.last (declared_turn α d e.before e.last first) s.b second in (
            e.before ++ g.0,
            s.joined ∙ ap₂ ◌++◌ i.0 g.1 ∙ sym (map-append r e.before g.0),
            in_turn e.before e.last g.0 refl first g.2,
          )

  carried_power : {A : TraceSet P} {B : TraceSet Q} → Carried A B → (n : ℕ) → Carried (Power P A n) (Power Q B n)
  unfolding Power
  carried_power h zero = carried_one
  carried_power h (suc n) = carried_seq h (carried_power h n)

  carried_star : {A : TraceSet P} {B : TraceSet Q} → Carried A B
      → Carried (λ α t. (n : ℕ) × Power P A n α t) (λ α t. (n : ℕ) × Power Q B n α t)
  carried_star h = record {
    ends = λ α t s. (carried_power h s.0).ends α t s.1;
    stays = λ α d t s. (carried_power h s.0).stays α d t s.1;
    to = λ α d t s. (s.0, (carried_power h s.0).to α d t s.1);
    from = λ α d u s. let i = (carried_power h s.0).from α d u s.1 in (i.0, i.1, (s.0, i.2));
  }

  carried_sum : {A C : TraceSet P} {B D : TraceSet Q} → Carried A B → Carried C D
      → Carried (λ α t. A α t ⊎ C α t) (λ α t. B α t ⊎ D α t)
  carried_sum h k = record {
    ends = λ α t. ⊎_elim (h.ends α t) (k.ends α t);
    stays = λ α d t. ⊎_elim (h.stays α d t) (k.stays α d t);
    to = λ α d t. ⊎_elim (λ s. inl (h.to α d t s)) (λ s. inr (k.to α d t s));
    from = λ α d u.
        ⊎_elim (λ s. let i = h.from α d u s in (i.0, i.1, inl i.2)) (λ s. let i = k.from α d u s in (i.0, i.1, inr i.2));
  }

  -- from r α there is no trace exactly where there is none from α
  carried_neg : {A : TraceSet P} {B : TraceSet Q} → Carried A B
      → Carried (λ α t. Drops P A α × (t ≡ α ∷ [])) (λ α t. Drops Q B α × (t ≡ α ∷ []))
  unfolding Drops
  carried_neg h = record {
    ends = λ α t s. record { before = []; last = α; whole = s.1 };
    stays = λ α d t s. single_stays P Declared α d t s.1;
    to = λ α d t s. (λ u b. let i = h.from α d u b in s.0 i.0 i.2, ap (map r) s.1);
    from = λ α d u s. (α ∷ [], s.1, (λ t a. s.0 (map r t) (h.to α d t a), refl));
  }

  -- p with other actions is carried to p, where each of those actions is carried to the action of p in its place
  pub carried : (g : FieldAction → FieldAction) (p : Policy) → EachAction (λ a. Carried (ActionTraces P (g a)) (ActionTraces Q a)) p
      → Carried (Traces P (with_actions g p)) (Traces Q p)
  unfolding Traces with_actions
  carried g drop c = record { ends = λ α t h. absurd h; stays = λ α d t h. absurd h; to = λ α d t h. absurd h; from = λ α d u h. absurd h }
  carried g id c = carried_one
  carried g (field a) c = c
  carried g (dup i) c = record {
    ends = traces_end P (dup i);
    stays = traces_stay P Declared (dup i) tt;
    to = λ α d t h. ap (map r) h;
    from = λ α d u h. (α ∷ α ∷ [], h, refl);
  }
  carried g (sum p q) c = carried_sum (carried g p c.0) (carried g q c.1)
  carried g (seq p q) c = carried_seq (carried g p c.0) (carried g q c.1)
  carried g (star p) c = carried_star (carried g p c)
  carried g (neg p) c = carried_neg (carried g p c)

  -- u is in B from r α exactly when it is the image of a trace in A from α
  pub transport : {A : TraceSet P} {B : TraceSet Q} → Carried A B → (α : P.Packet) → Declared α → (u : Trace Q) → B (r α) u ↔ Image A α u
  transport {A} {B} h α d u = (h.from α d u, λ i. subst (B (r α)) (sym i.1) (h.to α d i.0 i.2))

  -- the packets that the map makes of declared ones
  abbrev pub ImageOfDeclared : Q.Packet → Type 0
  ImageOfDeclared β = (α : P.Packet) × Declared α × (β ≡ r α)

  -- where p and q have the same traces of n packets or fewer from every declared packet, p' and q' have the same from every image of one
  pub short_image : (n : ℕ) (p q p' q' : Policy) → Carried (Traces P p) (Traces Q p') → Carried (Traces P q) (Traces Q q')
      → SameShortTraces P Declared n p q → SameShortTraces Q ImageOfDeclared n p' q'
  unfolding SameShortTraces
  short_image n p q p' q' h k same β d u few =
      subst (λ (γ : Q.Packet). Traces Q p' γ u ↔ Traces Q q' γ u) (sym d.2)
      (to p q p' q' h k (λ t m. (same α e t m).0), to q p q' p' k h (λ t m. (same α e t m).1))
    where
      α : P.Packet
      α = d.0

      e : Declared α
      e = d.1

      to : (p q p' q' : Policy) → Carried (Traces P p) (Traces Q p') → Carried (Traces P q) (Traces Q q')
          → ((t : Trace P) → length t ≤ n → Traces P p α t → Traces P q α t)
          → Traces Q p' (r α) u → Traces Q q' (r α) u
      to p q p' q' h k f b =
          let i = h.from α e u b in
          (transport k α e u).1 (i.0, i.1, f i.0 (subst (λ m. m ≤ n) (ap length i.1 ∙ length-map i.0 r) few) i.2)

  -- the map tells declared packets apart
  abbrev pub TellsApart : Type 0
  TellsApart = (α β : P.Packet) → Declared α → Declared β → r α ≡ r β → α ≡ β

  map_injective : TellsApart → (s t : Trace P) → Each Declared s → Each Declared t → map r s ≡ map r t → s ≡ t
  unfolding Each
  map_injective apart [] [] d e h = refl
  map_injective apart [] (β ∷ t) d e h = cc
  map_injective apart (α ∷ s) [] d e h = cc
  map_injective apart (α ∷ s) (β ∷ t) d e h =
      let i = apart α β d.0 e.0 (cc) in
      let j = map_injective apart s t d.1 e.1 (cc) in
      cc

  -- where the map tells declared packets apart, a list of them is a trace exactly when its image is
  pub image_trace : TellsApart → {A : TraceSet P} {B : TraceSet Q} → Carried A B → (α : P.Packet) → Declared α → (t : Trace P) → Each Declared t
      → B (r α) (map r t) ↔ A α t
  image_trace apart {A} {B} h α d t e = (
    λ b. let i = h.from α d (map r t) b in subst (A α) (sym (map_injective apart t i.0 e (h.stays α d i.0 i.2) i.1)) i.2,
    h.to α d t,
  )

  -- and back from the images, where the map tells declared packets apart
  pub short_source : TellsApart → (n : ℕ) (p q p' q' : Policy) → Carried (Traces P p) (Traces Q p') → Carried (Traces P q) (Traces Q q')
      → SameShortTraces Q ImageOfDeclared n p' q' → SameShortTraces P Declared n p q
  unfolding SameShortTraces
  short_source apart n p q p' q' h k same α d t few =
      let s = same (r α) (α, d, refl) (map r t) (subst (λ m. m ≤ n) (sym (length-map t r)) few) in
      (to p q p' q' h k s.0, to q p q' p' k h s.1)
    where
      to : (p q p' q' : Policy) → Carried (Traces P p) (Traces Q p') → Carried (Traces P q) (Traces Q q')
          → (Traces Q p' (r α) (map r t) → Traces Q q' (r α) (map r t))
          → Traces P p α t → Traces P q α t
      to p q p' q' h k f a = (image_trace apart k α d t (h.stays α d t a)).0 (f (h.to α d t a))
