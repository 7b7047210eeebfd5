-- The order of causes: what holds where all stages pass, and which stages come before which. Assumes nothing.
use mathlib.Core.List.{List, [], ◌∷◌, map}
use mathlib.Core.Path.{◌≡◌, refl, sym, ap, ◌∙◌}
use Rattle.packet.specs.declared.Refusal.{Refusal}
use Rattle.packet.specs.Refusals.{Tested}
use Rattle.std.specs.Prelude.{Ok, Err}
use Rattle.packet.specs.Refusals.{first_refused}
use Rattle.packet.specs.Sizes.{product_stage, LegalSizes}
use Rattle.packet.proofs.Legal.{fields_legal}
use Rattle.packet.proofs.Stages.{first_refused_last, first_refused_refused, first_refused_next, first_refused_after, first_refused_append}
use Rattle.fields.specs.Tables.{Table, joint_sizes, tables_stage}
use Rattle.fields.proofs.TableLaws.{tables_legal}
use Rattle.policy.specs.InnerEach.{Each}
use Rattle.policy.specs.Legality.{Legal}
use Rattle.policy.specs.Order.{order, in_order, Sided, policies_stage, core_of, stages_of}
use Rattle.policy.proofs.LegalityLaws.{first_refused_each, stage_passes}
use Rattle.policy.proofs.MentionLaws.{Covers, covers_each, core_legal, policy_core}

module _ (ts : List Table) (texts : Tested) (policies : List Sided) (lists packets : Tested) where
  -- what holds where a call's tests pass
  pub record Passing : Type 0 where
    pub fields : tables_stage ts ≡ Ok tt
    pub texts_pass : texts ≡ Ok tt
    pub policies_pass : policies_stage (joint_sizes ts) policies ≡ Ok tt
    pub product : product_stage (core_of ts policies) ≡ Ok tt
    pub lists_pass : lists ≡ Ok tt
    pub packets_pass : packets ≡ Ok tt

  pub passing : in_order (stages_of ts texts policies lists packets) ≡ Ok tt → Passing
  unfolding in_order order stages_of Each
  passing e = let h = (first_refused_each _).0 e in search h

  pub all_passing : Passing → in_order (stages_of ts texts policies lists packets) ≡ Ok tt
  unfolding in_order order stages_of Each
  all_passing h = (first_refused_each _).1 (search h)

  module _ (h : Passing) where
    -- sizes and policies are legal over the core sizes
    pub sizes_legal : LegalSizes (core_of ts policies)
    sizes_legal = core_legal _ (joint_sizes ts) (fields_legal _ (tables_legal ts h.fields)) h.product

    -- the policies over the joint sizes
    pub policies_declared : Each (λ p. Legal (joint_sizes ts) p.lists) policies
    policies_declared = (stage_passes (joint_sizes ts) policies).0 h.policies_pass

    pub policies_legal : Each (λ p. Legal (core_of ts policies) p.lists) policies
    unfolding Each
    policies_legal = go policies (covers_each (map (λ (p : Sided). p.lists) policies)) policies_declared
      where
        go : (ps : List Sided) → Each (Covers (map (λ (p : Sided). p.lists) policies)) (map (λ (p : Sided). p.lists) ps) → Each (λ p. Legal (joint_sizes ts) p.lists) ps → Each (λ p. Legal (core_of ts policies) p.lists) ps
        go [] c g = tt
        go (p ∷ ps) c g = (policy_core _ (joint_sizes ts) p.lists c.0 g.0, go ps c.1 g.1)

  -- 13 comes last
  pub packets_last : in_order (stages_of ts texts policies lists packets) ≡ first_refused (in_order (stages_of ts texts policies lists (Ok tt)) ∷ packets ∷ [])
  unfolding in_order order stages_of first_refused
  packets_last = first_refused_append rest (packets ∷ []) ∙ ap (λ (t : Tested). first_refused (t ∷ packets ∷ [])) (sym (first_refused_append rest (Ok tt ∷ []) ∙ then_passed (first_refused rest)))
    where
      rest : List Tested
      rest = tables_stage ts ∷ texts ∷ policies_stage (joint_sizes ts) policies ∷ product_stage (core_of ts policies) ∷ lists ∷ []

      then_passed : (t : Tested) → first_refused (t ∷ Ok tt ∷ []) ≡ t
      then_passed (Ok _) = refl
      then_passed (Err r) = refl

  -- a call whose other stages refuse, and one where they pass
  pub packets_after : {r : Refusal} → in_order (stages_of ts texts policies lists (Ok tt)) ≡ Err r → in_order (stages_of ts texts policies lists packets) ≡ Err r
  packets_after e = packets_last ∙ first_refused_refused _ _ _ e

  pub packets_decide : in_order (stages_of ts texts policies lists (Ok tt)) ≡ Ok tt → in_order (stages_of ts texts policies lists packets) ≡ packets
  packets_decide e = packets_last ∙ first_refused_next _ _ e ∙ first_refused_last packets

  -- a stage is tested with what is loaded where the stages before it pass
  pub after_tables : {t p q : Tested} → t ≡ tables_stage ts → (t ≡ Ok tt → p ≡ policies_stage (joint_sizes ts) policies) → (t ≡ Ok tt → p ≡ Ok tt → q ≡ product_stage (core_of ts policies))
      → in_order (record { fields = t; texts = texts; policies = p; product = q; lists = lists; packets = packets }) ≡ in_order (stages_of ts texts policies lists packets)
  unfolding in_order order stages_of
  after_tables e same-p same-q =
      first_refused_after _ _ e
      (λ h. first_refused_after _ _ refl (λ _. first_refused_after _ _ (same-p h) (λ k. ap (λ (q : Tested). first_refused (q ∷ lists ∷ packets ∷ [])) (same-q h k))))

  -- they come before the texts, and these before the rest
  pub tables_refused : {r : Refusal} → tables_stage ts ≡ Err r → in_order (stages_of ts texts policies lists packets) ≡ Err r
  unfolding in_order order stages_of
  tables_refused e = first_refused_refused _ _ _ e

  pub texts_refused : {r : Refusal} → tables_stage ts ≡ Ok tt → texts ≡ Err r → in_order (stages_of ts texts policies lists packets) ≡ Err r
  unfolding in_order order stages_of
  texts_refused e f = first_refused_next _ _ e ∙ first_refused_refused _ _ _ f

-- a call that passes, with other texts, lists and packets that pass
pub still_passing : (ts : List Table) (policies : List Sided) (t l k : Tested) {u m n : Tested} → in_order (stages_of ts t policies l k) ≡ Ok tt → u ≡ Ok tt → m ≡ Ok tt → n ≡ Ok tt
    → in_order (stages_of ts u policies m n) ≡ Ok tt
still_passing ts policies t l k e u m n =
    let h = passing _ _ _ _ _ e in
    all_passing _ _ _ _ _ record { fields = h.fields; texts_pass = u; policies_pass = h.policies_pass; product = h.product; lists_pass = m; packets_pass = n }
