-- The flow of each kind conserves what its nodes don't use.
use Rattle.std.proofs.Common.{◌≡◌, ℕ, zero, suc, ◌+◌, ◌<◌, ◌≤◌, ◌≢◌, Bool, false, cond, nat_eq, List, [], ◌∷◌, length, map, get_or, slice_index, refl, sym, ap, ◌∙◌, arith, inl, inr}
use Rattle.std.proofs.lemmas.Bool.Decides.{nat_tests}
use Rattle.std.proofs.lemmas.Bool.{cases_lt}
use Rattle.std.proofs.lemmas.List.{length-map, get_or-map}
use Rattle.std.proofs.lemmas.List.Elements.{All-get_or}
use Rattle.std.proofs.Math.ListN.{get_or-eq_default}
use Rattle.platform_file.specs.Platform.{IsLink, is_master, master_of}
use Rattle.platform_file.specs.Ticks.{TimedView, IsTimed}
use Rattle.schedule_model.specs.Operations.{sender_of, receiver_of, no_link}
use Rattle.schedule_model.specs.declared.schedule.Series.{Series}
use Rattle.flow_routes.specs.Flows.{link_at, passing, enters, leaves, IsFlow}
use Rattle.exact_simplex.specs.Optima.{first_terms}
use Rattle.programme_rows.specs.Listings.{total_below}
use Rattle.programme_rows.proofs.Totals.{no_total, same_total}
use Rattle.series_flows.specs.Programmes.{kinds_of}
use Rattle.series_flows.specs.Flows.{ends_of, flow_with}
use Rattle.series_flows.specs.Amounts.{over, AreAmounts}
use Rattle.series_flows.proofs.Terms.{length_terms, term_there}

first_total : (n : ℕ) (f : ℕ → ℕ) → total_below (suc n) f ≡ f 0 + total_below n (λ k. f (suc k))
first_total zero f = omega arith
first_total (suc n) f = let before = first_total n f in omega (arith, before)

-- what passes is a sum over the links
passing_total : (test : (ℕ × ℕ) → Bool) (links : List (ℕ × ℕ)) (amounts : List ℕ) → length amounts ≡ length links →
    passing test links amounts ≡ total_below (length links) (λ k. cond (test (link_at links k)) (get_or amounts k 0) 0)
passing_total test [] amounts e = refl
passing_total test (link ∷ links) [] e = absurd (omega arith)
passing_total test (link ∷ links) (amount ∷ amounts) e =
    ap (λ n. cond (test link) amount 0 + n) (passing_total test links amounts (omega arith))
    ∙ sym (first_total (length links) (λ k. cond (test (link_at (link ∷ links) k)) (get_or (amount ∷ amounts) k 0) 0))

module _ (t : TimedView) where
  abbrev pub ends : List (ℕ × ℕ)
  ends = map ends_of t.platform.links

  -- a link's ends are those of the platform
  pub ends_at : (k : ℕ) → k < length t.platform.links → link_at ends k ≡ (sender_of t k, receiver_of t k)
  ends_at k l = get_or-map ends_of t.platform.links k no_link (0, 0) l

  -- what passes at one end of the links
  passes : (f : ℕ → ℕ) (test : (ℕ × ℕ) → Bool) (at : ℕ → Bool) → ((k : ℕ) → test (sender_of t k, receiver_of t k) ≡ at k) →
      passing test ends (first_terms f (length t.platform.links)) ≡ over t at f
  passes f test at same =
      passing_total test ends (first_terms f (length t.platform.links)) (length_terms f (length t.platform.links) ∙ sym (length-map t.platform.links ends_of))
      ∙ ap (λ n. total_below n (λ k. cond (test (link_at ends k)) (get_or (first_terms f (length t.platform.links)) k 0) 0)) (length-map t.platform.links ends_of)
      ∙ same_total (length t.platform.links) _ _ each
    where
      each : (k : ℕ) → k < length t.platform.links → cond (test (link_at ends k)) (get_or (first_terms f (length t.platform.links)) k 0) 0 ≡ cond (at k) (f k) 0
      each k l = rw (ends_at k l, same k, term_there f 0 (length t.platform.links) k l) refl

  module _ (timed : IsTimed t) where
    pub sender_inside : (k : ℕ) → k < length t.platform.links → sender_of t k < length t.platform.nodes
    sender_inside k l = (All-get_or (IsLink t.platform.nodes) t.platform.links k no_link l timed.platform.links).leaves

    pub receiver_inside : (k : ℕ) → k < length t.platform.links → receiver_of t k < length t.platform.nodes
    receiver_inside k l = (All-get_or (IsLink t.platform.nodes) t.platform.links k no_link l timed.platform.links).enters

    none_leaves : (f : ℕ → ℕ) (node : ℕ) → length t.platform.nodes ≤ node → over t (λ k. nat_eq (sender_of t k) node) f ≡ 0
    none_leaves f node past = same_total (length t.platform.links) _ (λ k. 0) each ∙ no_total (length t.platform.links)
      where
        each : (k : ℕ) → k < length t.platform.links → cond (nat_eq (sender_of t k) node) (f k) 0 ≡ 0
        each k l =
            let inside = sender_inside k l in
            let other : nat_eq (sender_of t k) node ≡ false = grind (arith, nat_tests) in
            rw other refl

    module _ (series : Series) (flow uses : ℕ → ℕ → ℕ) (ticks : ℕ) (are : AreAmounts t series flow uses ticks) (kind : ℕ) (known : kind < kinds_of t series) where
      kept : (node : ℕ) → node ≢ master_of t.platform →
          slice_index (first_terms (uses kind) (length t.platform.nodes)) node + passing (leaves node) ends (first_terms (flow kind) (length t.platform.links))
          ≤ passing (enters node) ends (first_terms (flow kind) (length t.platform.links))
      kept node other =
          rw (passes (flow kind) (leaves node) (λ k. nat_eq (sender_of t k) node) (λ k. refl), passes (flow kind) (enters node) (λ k. nat_eq (receiver_of t k) node) (λ k. refl))
          (elim (cases_lt node (length t.platform.nodes)) [
            | inl inside ↦
                let away : is_master t.platform node ≡ false = grind (arith, nat_tests) in
                rw (term_there (uses kind) 0 (length t.platform.nodes) node inside) (are.supplies kind node known inside away)
            | inr past ↦
                let nothing_wanted : slice_index (first_terms (uses kind) (length t.platform.nodes)) node ≡ 0 = get_or-eq_default (first_terms (uses kind) (length t.platform.nodes)) 0 (rw (length_terms (uses kind) (length t.platform.nodes)) past) in
                rw (nothing_wanted, none_leaves (flow kind) node past) (omega arith)
          ])

      pub is_flow : IsFlow (flow_with t (flow kind) (uses kind))
      is_flow = record {
        amounts = length_terms (flow kind) (length t.platform.links) ∙ sym (length-map t.platform.links ends_of);
        demands = length_terms (uses kind) (length t.platform.nodes);
        few_links = let few = timed.platform.few_links in let size = length-map t.platform.links ends_of in omega (arith, few, size);
        master = timed.platform.a_master;
        exist = λ k l. (let inside : k < length t.platform.links = rw (length-map t.platform.links ends_of) at l in rw (ends_at k inside) (sender_inside k inside, receiver_inside k inside));
        kept = kept;
      }
