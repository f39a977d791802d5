-- What is known of an operation in range.
use Rattle.std.proofs.Common.{◌≡◌, ℕ, ◌<◌, true, false, nat_lt, length, get_or, None, ap, ◌∙◌, arith, inl, inr}
use Rattle.std.specs.Option.{is_some}
use Rattle.std.proofs.lemmas.Bool.{and_parts, cases_lt, ltb-true, eqb-true}
use Rattle.std.proofs.lemmas.List.{length-map}
use Rattle.std.proofs.Math.ListN.{get_or-eq_default}
use Rattle.platform_file.specs.Ticks.{TimedView, IsTimed}
use Rattle.schedule_model.specs.declared.schedule.Op.TheVariants.{Send, Compute}
use Rattle.schedule_model.specs.declared.schedule.Series.{Series}
use Rattle.schedule_model.specs.declared.schedule.Series.TheVariants.{Tasking, Scatter}
use Rattle.schedule_model.specs.Operations.{sender_of, receiver_of, no_link}
use Rattle.schedule_model.specs.Tallies.{has_kind, has_tasks, is_in_range}

pub few_nodes : (t : TimedView) (node : ℕ) → IsTimed t → node < length t.platform.nodes → node < 32
few_nodes t node timed h = let few = timed.platform.few_nodes in omega (arith, h, few)

pub range_link : (t : TimedView) (series : Series) (link kind start : ℕ) → is_in_range t series (Send link kind start) ≡ true → link < length t.platform.links
range_link t series link kind start e = ltb-true _ _ (and_parts _ _ e).0

pub range_has_kind : (t : TimedView) (series : Series) (link kind start : ℕ) → is_in_range t series (Send link kind start) ≡ true → has_kind t series kind ≡ true
range_has_kind t series link kind start e = (and_parts (nat_lt link (length t.platform.links)) _ e).1

pub range_kind : (t : TimedView) (series : Series) (link kind start : ℕ) → IsTimed t → is_in_range t series (Send link kind start) ≡ true → kind < 8
range_kind t series link kind start timed e = few_kinds series (range_has_kind t series link kind start e)
  where
    few_kinds : (series : Series) → has_kind t series kind ≡ true → kind < 8
    few_kinds Tasking e = let none : kind ≡ 0 = eqb-true kind 0 e in omega (arith, none)
    few_kinds Scatter e = let few = timed.platform.few_targets in let there = ltb-true _ _ e in omega (arith, few, there)

pub range_node : (t : TimedView) (series : Series) (node start : ℕ) → IsTimed t → is_in_range t series (Compute node start) ≡ true → node < length t.platform.nodes
range_node t series node start timed e =
    elim (cases_lt node (length t.times)) [
      | inl inside ↦ rw (ap length timed.times ∙ length-map t.platform.nodes _) at inside
      | inr past ↦ let bad : is_some (get_or t.times node None) ≡ true = (and_parts (has_tasks series) _ e).1 in let none : false ≡ true = rw (get_or-eq_default t.times None past) at bad in cc
    ]

pub sender_exists : (t : TimedView) (link : ℕ) → IsTimed t → link < length t.platform.links → sender_of t link < length t.platform.nodes
sender_exists t link timed h = (timed.platform.links link no_link h).leaves

pub receiver_exists : (t : TimedView) (link : ℕ) → IsTimed t → link < length t.platform.links → receiver_of t link < length t.platform.nodes
receiver_exists t link timed h = (timed.platform.links link no_link h).enters

pub few_kinds : (t : TimedView) (kind : ℕ) → IsTimed t → kind < length t.platform.targets → kind < 8
few_kinds t kind timed h = let few = timed.platform.few_targets in omega (arith, h, few)

pub target_exists : (t : TimedView) (kind d : ℕ) → IsTimed t → kind < length t.platform.targets → get_or t.platform.targets kind d < length t.platform.nodes
target_exists t kind d timed h = (timed.platform.targets kind d h).exists
