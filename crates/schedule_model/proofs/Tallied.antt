-- What a tally tells of the operations that it has noted, and that it does so with one more.
use Rattle.std.proofs.Common.{◌≡◌, ℕ, ◌+◌, ◌<◌, ◌≤◌, Bool, true, false, ◌&&◌, ◌||◌, nat_lt, nat_eq, List, [], ◌∷◌, ◌++◌, length, slice_index, slice_set, All, count_by, refl, sym, ap, ◌∙◌, arith, inl, inr}
use Rattle.std.proofs.lemmas.Bool.{cases_lt, eqb-true, eqb-false, eq-eqb, lt-ltb}
use Rattle.std.proofs.lemmas.List.{get_or-set_other, get_or-replicate, length-replicate, length-set}
use Rattle.std.proofs.lemmas.List.Elements.{All-append, All-cons, All-nil}
use Rattle.std.proofs.lemmas.Grind.{get_or-set_at}
use Rattle.platform_file.specs.Ticks.{TimedView}
use Rattle.schedule_model.specs.declared.tally.Tally.{Tally}
use Rattle.schedule_model.specs.declared.schedule.Op.{Op}
use Rattle.schedule_model.specs.declared.schedule.Op.TheVariants.{Send, Compute}
use Rattle.schedule_model.specs.declared.schedule.Series.{Series}
use Rattle.schedule_model.specs.declared.schedule.Series.TheVariants.{Tasking, Scatter}
use Rattle.schedule_model.specs.Operations.{start_of, end_of, sender_of, receiver_of, sends_from, sends_to, computes_at, is_of_kind, is_compute}
use Rattle.schedule_model.specs.Tallies.{place_of, empty_tally, noted}
use Rattle.schedule_model.proofs.PortUse.{count_push_no, count_push_yes, unfinished, IsFreeFrom, never_used, used, unused}
use Rattle.schedule_model.proofs.Stocks.{count_fewer}
use Rattle.schedule_model.proofs.Moves.{takes, brings, kinds}

-- two places are one where kind and node are
pub same_place : (kind kind' node node' : ℕ) → node < 32 → node' < 32 → nat_eq (place_of kind node) (place_of kind' node') ≡ (nat_eq kind kind' && nat_eq node node')
same_place kind kind' node node' h h' =
    elim (nat_eq kind kind') as (λ b. nat_eq kind kind' ≡ b → nat_eq (place_of kind node) (place_of kind' node') ≡ (b && nat_eq node node')) [
      | true ↦ λ e.
          let kinds_same : kind ≡ kind' = eqb-true kind kind' e in
          elim (nat_eq node node') as (λ b. nat_eq node node' ≡ b → nat_eq (place_of kind node) (place_of kind' node') ≡ b) [
            | true ↦ λ f. let nodes_same : node ≡ node' = eqb-true node node' f in eq-eqb _ _ (omega (arith, kinds_same, nodes_same))
            | false ↦ λ f. apart _ _ (λ same. eqb-false node node' f (omega (arith, same, kinds_same)))
          ] refl
      | false ↦ λ e. apart _ _ (λ same. eqb-false kind kind' e (omega (arith, same, h, h')))
    ] refl
  where
    apart : (a b : ℕ) → (a ≡ b → ⊥) → nat_eq a b ≡ false
    apart a b h = elim (nat_eq a b) as (λ c. nat_eq a b ≡ c → c ≡ false) [
      | true ↦ λ e. absurd (h (eqb-true a b e))
      | false ↦ λ e. refl
    ] refl

module _ (t : TimedView) (series : Series) (u : ℕ) where
  pub record IsTally (ops : List Op) (tally : Tally) : Type 0 where
    pub begun : All (λ o. start_of o ≤ tally.last) ops
    pub later : (tick : ℕ) → tick < tally.last → 1 ≤ count_by (λ o. nat_lt tick (start_of o)) ops
    pub sends : (node : ℕ) → node < 32 → IsFreeFrom (sends_from t node) start_of (end_of t u) ops (slice_index tally.sends node)
    pub receives : (node : ℕ) → node < 32 → IsFreeFrom (sends_to t node) start_of (end_of t u) ops (slice_index tally.receives node)
    pub computes : (node : ℕ) → node < 32 → IsFreeFrom (computes_at node) start_of (end_of t u) ops (slice_index tally.computes node)
    pub arrivals : (kind node : ℕ) → kind < kinds t series → node < 32 → IsFreeFrom (brings t series kind node) start_of (end_of t u) ops (slice_index tally.arrivals (place_of kind node))
    pub received : (kind node : ℕ) → kind < kinds t series → node < 32 → slice_index tally.received (place_of kind node) ≡ count_by (brings t series kind node) ops
    pub started : (kind node : ℕ) → kind < kinds t series → node < 32 → slice_index tally.started (place_of kind node) ≡ count_by (takes t series kind node) ops
    pub computed : tally.computed ≡ count_by is_compute ops
    pub send_nodes : length tally.sends ≡ 32
    pub receive_nodes : length tally.receives ≡ 32
    pub compute_nodes : length tally.computes ≡ 32
    pub arrival_places : length tally.arrivals ≡ 256
    pub received_places : length tally.received ≡ 256
    pub started_places : length tally.started ≡ 256

  -- a place below the bounds
  in_place : (few : kinds t series ≤ 8) (kind node n : ℕ) → kind < kinds t series → node < 32 → n ≡ 256 → place_of kind node < n
  in_place few kind node n h k e = omega (arith, few, h, k, e)

  pub none_noted : kinds t series ≤ 8 → IsTally [] empty_tally
  none_noted few = record {
    begun = All-nil (λ o. start_of o ≤ 0);
    later = λ tick h. absurd (omega arith);
    sends = λ node h. rw (get_or-replicate {A = ℕ} 32 node 0 0 h) (never_used (sends_from t node) start_of (end_of t u));
    receives = λ node h. rw (get_or-replicate {A = ℕ} 32 node 0 0 h) (never_used (sends_to t node) start_of (end_of t u));
    computes = λ node h. rw (get_or-replicate {A = ℕ} 32 node 0 0 h) (never_used (computes_at node) start_of (end_of t u));
    arrivals = λ kind node h k. rw (get_or-replicate {A = ℕ} 256 (place_of kind node) 0 0 (in_place few kind node 256 h k refl)) (never_used (brings t series kind node) start_of (end_of t u));
    received = λ kind node h k. get_or-replicate {A = ℕ} 256 (place_of kind node) 0 0 (in_place few kind node 256 h k refl);
    started = λ kind node h k. get_or-replicate {A = ℕ} 256 (place_of kind node) 0 0 (in_place few kind node 256 h k refl);
    computed = refl;
    send_nodes = length-replicate {A = ℕ} 32 0;
    receive_nodes = length-replicate {A = ℕ} 32 0;
    compute_nodes = length-replicate {A = ℕ} 32 0;
    arrival_places = length-replicate {A = ℕ} 256 0;
    received_places = length-replicate {A = ℕ} 256 0;
    started_places = length-replicate {A = ℕ} 256 0;
  }

  -- a list of ticks with the end of an operation at one index
  free_at : (uses : Op → Bool) (ops : List Op) (op : Op) (xs : List ℕ) (i j : ℕ) → i < length xs → uses op ≡ nat_eq i j → slice_index xs i ≤ end_of t u op →
      IsFreeFrom uses start_of (end_of t u) ops (slice_index xs j) → IsFreeFrom uses start_of (end_of t u) (ops ++ op ∷ []) (slice_index (slice_set xs i (end_of t u op)) j)
  free_at uses ops op xs i j inside is free f =
      elim (nat_eq i j) as (λ b. nat_eq i j ≡ b → IsFreeFrom uses start_of (end_of t u) (ops ++ op ∷ []) (slice_index (slice_set xs i (end_of t u op)) j)) [
        | true ↦ λ e.
            let same : i ≡ j = eqb-true i j e in
            rw (get_or-set_at xs i j (end_of t u op) 0 (sym same) inside) (used uses start_of (end_of t u) ops op (slice_index xs j) (is ∙ e) (rw same at free) f)
        | false ↦ λ e. rw (get_or-set_other xs i j (end_of t u op) 0 (λ same. eqb-false i j e (sym same))) (unused uses start_of (end_of t u) ops op (slice_index xs j) (is ∙ e) f)
      ] refl

  -- a list of counts with one more at an index
  count_at : (p : Op → Bool) (ops : List Op) (op : Op) (xs : List ℕ) (i j : ℕ) → i < length xs → p op ≡ nat_eq i j → slice_index xs j ≡ count_by p ops →
      slice_index (slice_set xs i (slice_index xs i + 1)) j ≡ count_by p (ops ++ op ∷ [])
  count_at p ops op xs i j inside is f =
      elim (nat_eq i j) as (λ b. nat_eq i j ≡ b → slice_index (slice_set xs i (slice_index xs i + 1)) j ≡ count_by p (ops ++ op ∷ [])) [
        | true ↦ λ e.
            let same : i ≡ j = eqb-true i j e in
            get_or-set_at xs i j (slice_index xs i + 1) 0 (sym same) inside ∙ ap (λ k. slice_index xs k + 1) same ∙ ap (λ n. n + 1) f ∙ sym (count_push_yes p ops op (is ∙ e))
        | false ↦ λ e. get_or-set_other xs i j (slice_index xs i + 1) 0 (λ same. eqb-false i j e (sym same)) ∙ f ∙ sym (count_push_no p ops op (is ∙ e))
      ] refl

  -- what comes of a kind has come when all has come
  sooner_free : (p q : Op → Bool) (ops : List Op) (a b : ℕ) → ((op : Op) → p op ≡ true → q op ≡ true) → IsFreeFrom p start_of (end_of t u) ops a → IsFreeFrom q start_of (end_of t u) ops b → a ≤ b
  sooner_free p q ops a b sub f g =
      elim (cases_lt b a) [
        | inr done ↦ done
        | inl less ↦
            let some = f.held b less in
            let fewer = count_fewer (unfinished p start_of (end_of t u) b) (unfinished q start_of (end_of t u) b) ops (λ op. each (p op) (q op) _ (sub op)) in
            let none = g.over b (omega arith) in
            absurd (omega (arith, some, fewer, none))
      ]
    where
      each : (x y z : Bool) → (x ≡ true → y ≡ true) → (x && z) ≡ true → (y && z) ≡ true
      each true y z h e = rw (h refl) e
      each false y z h e = cc

  -- what a send takes and brings
  pub brings_send : (link kind start kind' node : ℕ) → kind < kinds t series → kind' < kinds t series →
      brings t series kind' node (Send link kind start) ≡ (nat_eq kind kind' && nat_eq (receiver_of t link) node)
  brings_send link kind start kind' node h k = of_series series h k
    where
      of_series : (series : Series) → kind < kinds t series → kind' < kinds t series → brings t series kind' node (Send link kind start) ≡ (nat_eq kind kind' && nat_eq (receiver_of t link) node)
      of_series Tasking h k = let same : nat_eq kind kind' ≡ true = eq-eqb kind kind' (omega (arith, h, k)) in rw same refl
      of_series Scatter h k = refl

  pub takes_send : (link kind start kind' node : ℕ) → kind < kinds t series → kind' < kinds t series →
      takes t series kind' node (Send link kind start) ≡ (nat_eq kind kind' && nat_eq (sender_of t link) node)
  takes_send link kind start kind' node h k = of_series series h k
    where
      none_more : (b : Bool) → (b || false) ≡ b
      none_more true = refl
      none_more false = refl

      of_series : (series : Series) → kind < kinds t series → kind' < kinds t series → takes t series kind' node (Send link kind start) ≡ (nat_eq kind kind' && nat_eq (sender_of t link) node)
      of_series Tasking h k = let same : nat_eq kind kind' ≡ true = eq-eqb kind kind' (omega (arith, h, k)) in none_more (nat_eq (sender_of t link) node) ∙ rw same refl
      of_series Scatter h k = refl

  pub takes_compute : (node start kind other : ℕ) → series ≡ Tasking → kind < kinds t series → takes t series kind other (Compute node start) ≡ (nat_eq 0 kind && nat_eq node other)
  takes_compute node start kind other tasking h =
      let none : nat_eq 0 kind ≡ true = eq-eqb 0 kind (of_one kind (rw tasking at h)) in
      rw (tasking, none) refl
    where
      of_one : (kind : ℕ) → kind < 1 → 0 ≡ kind
      of_one kind h = omega arith

  pub brings_only : (kind node : ℕ) (op : Op) → brings t series kind node op ≡ true → sends_to t node op ≡ true
  brings_only kind node op e = of_series series e
    where
      second : (a b : Bool) → (a && b) ≡ true → b ≡ true
      second true b e = e
      second false b e = cc

      of_series : (series : Series) → brings t series kind node op ≡ true → sends_to t node op ≡ true
      of_series Tasking e = e
      of_series Scatter e = second (is_of_kind kind op) (sends_to t node op) e

  module _ (few : kinds t series ≤ 8) (ops : List Op) (tally : Tally) (h : IsTally ops tally) where
    begun_too : (op : Op) → tally.last ≤ start_of op → All (λ o. start_of o ≤ start_of op) (ops ++ op ∷ [])
    begun_too op order =
        All-append (λ o. start_of o ≤ start_of op) ops (op ∷ []) (λ k d l. let first = h.begun k d l in omega (arith, first))
        (All-cons (λ o. start_of o ≤ start_of op) op [] (omega arith) (All-nil (λ o. start_of o ≤ start_of op)))

    later_too : (op : Op) (tick : ℕ) → tick < start_of op → 1 ≤ count_by (λ o. nat_lt tick (start_of o)) (ops ++ op ∷ [])
    later_too op tick l = more _ _ (count_push_yes (λ o. nat_lt tick (start_of o)) ops op (lt-ltb tick (start_of op) l))
      where
        more : (a b : ℕ) → a ≡ b + 1 → 1 ≤ a
        more a b e = omega arith

    pub send_noted : (link kind start : ℕ) → tally.last ≤ start → kind < kinds t series → sender_of t link < 32 → receiver_of t link < 32 →
        slice_index tally.sends (sender_of t link) ≤ end_of t u (Send link kind start) → slice_index tally.receives (receiver_of t link) ≤ end_of t u (Send link kind start) →
        IsTally (ops ++ Send link kind start ∷ []) (noted t u tally (Send link kind start))
    send_noted link kind start order exists from to send_free receive_free =
        let op = Send link kind start in
        record {
          begun = begun_too op order;
          later = later_too op;
          sends = λ node l. free_at (sends_from t node) ops op tally.sends (sender_of t link) node (rw h.send_nodes from) refl send_free (h.sends node l);
          receives = λ node l. free_at (sends_to t node) ops op tally.receives (receiver_of t link) node (rw h.receive_nodes to) refl receive_free (h.receives node l);
          computes = λ node l. unused (computes_at node) start_of (end_of t u) ops op (slice_index tally.computes node) refl (h.computes node l);
          arrivals = λ kind' node k l.
              free_at (brings t series kind' node) ops op tally.arrivals (place_of kind (receiver_of t link)) (place_of kind' node)
              (in_place few kind (receiver_of t link) _ exists to h.arrival_places)
              (brings_send link kind start kind' node exists k ∙ sym (same_place kind kind' (receiver_of t link) node to l))
              (arrived (sooner_free (brings t series kind (receiver_of t link)) (sends_to t (receiver_of t link)) ops _ _ (brings_only kind (receiver_of t link)) (h.arrivals kind (receiver_of t link) exists to) (h.receives (receiver_of t link) to)) receive_free)
              (h.arrivals kind' node k l);
          received = λ kind' node k l.
              count_at (brings t series kind' node) ops op tally.received (place_of kind (receiver_of t link)) (place_of kind' node)
              (in_place few kind (receiver_of t link) _ exists to h.received_places)
              (brings_send link kind start kind' node exists k ∙ sym (same_place kind kind' (receiver_of t link) node to l)) (h.received kind' node k l);
          started = λ kind' node k l.
              count_at (takes t series kind' node) ops op tally.started (place_of kind (sender_of t link)) (place_of kind' node)
              (in_place few kind (sender_of t link) _ exists from h.started_places)
              (takes_send link kind start kind' node exists k ∙ sym (same_place kind kind' (sender_of t link) node from l)) (h.started kind' node k l);
          computed = h.computed ∙ sym (count_push_no is_compute ops op refl);
          send_nodes = length-set _ _ _ ∙ h.send_nodes;
          receive_nodes = length-set _ _ _ ∙ h.receive_nodes;
          compute_nodes = h.compute_nodes;
          arrival_places = length-set _ _ _ ∙ h.arrival_places;
          received_places = length-set _ _ _ ∙ h.received_places;
          started_places = length-set _ _ _ ∙ h.started_places;
        }
      where
        arrived : {a b c : ℕ} → a ≤ b → b ≤ c → a ≤ c
        arrived l m = omega (arith, l, m)

    pub compute_noted : (node start : ℕ) → series ≡ Tasking → tally.last ≤ start → node < 32 → slice_index tally.computes node ≤ end_of t u (Compute node start) →
        IsTally (ops ++ Compute node start ∷ []) (noted t u tally (Compute node start))
    compute_noted node start tasking order at free =
        let op = Compute node start in
        record {
          begun = begun_too op order;
          later = later_too op;
          sends = λ other l. unused (sends_from t other) start_of (end_of t u) ops op (slice_index tally.sends other) refl (h.sends other l);
          receives = λ other l. unused (sends_to t other) start_of (end_of t u) ops op (slice_index tally.receives other) refl (h.receives other l);
          computes = λ other l. free_at (computes_at other) ops op tally.computes node other (rw h.compute_nodes at) refl free (h.computes other l);
          arrivals = λ kind other k l. unused (brings t series kind other) start_of (end_of t u) ops op (slice_index tally.arrivals (place_of kind other)) (brings_none series kind other) (h.arrivals kind other k l);
          received = λ kind other k l. h.received kind other k l ∙ sym (count_push_no (brings t series kind other) ops op (brings_none series kind other));
          started = λ kind other k l.
              count_at (takes t series kind other) ops op tally.started (place_of 0 node) (place_of kind other)
              (in_place few 0 node _ (rw tasking (omega arith)) at h.started_places)
              (takes_compute node start kind other tasking k ∙ sym (same_place 0 kind node other at l)) (h.started kind other k l);
          computed = ap (λ n. n + 1) h.computed ∙ sym (count_push_yes is_compute ops op refl);
          send_nodes = h.send_nodes;
          receive_nodes = h.receive_nodes;
          compute_nodes = length-set _ _ _ ∙ h.compute_nodes;
          arrival_places = h.arrival_places;
          received_places = h.received_places;
          started_places = length-set _ _ _ ∙ h.started_places;
        }
      where
        brings_none : (series : Series) (kind other : ℕ) → brings t series kind other (Compute node start) ≡ false
        brings_none Tasking kind other = refl
        brings_none Scatter kind other = refl
