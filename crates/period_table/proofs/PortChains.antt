-- The operations of each port of a table follow each other.
use Rattle.std.proofs.Common.{◌≡◌, ℕ, zero, suc, ◌+◌, ◌*◌, ◌≤◌, Bool, true, false, cond, nat_eq, List, [], ◌∷◌, filter, refl, ◌∙◌, ap, subst, arith, inl, inr, All, sum_by}
use Rattle.std.proofs.lemmas.Bool.Decides.{nat_tests}
use Rattle.std.proofs.lemmas.List.Elements.{All-head, All-tail, All-cons, All-nil, All-filter, All-weaker}
use Rattle.std.proofs.lemmas.List.Sums.{sum_by-cons}
use Rattle.std.proofs.Math.Nat.{mul-le-mul_right}
use Rattle.platform_file.specs.Ticks.{TimedView}
use Rattle.schedule_model.specs.declared.schedule.Op.{Op}
use Rattle.schedule_model.specs.declared.schedule.Op.TheVariants.{Send, Compute}
use Rattle.schedule_model.specs.Operations.{start_of, duration_of, cost_of, time_of}
use Rattle.flow_routes.specs.declared.flow.Route.{Route}
use Rattle.period_table.specs.declared.table.Slot.{Slot}
use Rattle.period_table.specs.declared.table.Piece.{Piece}
use Rattle.period_table.specs.Lanes.{LaneAt, lane_at}
use Rattle.period_table.specs.TableSchedules.{Placed, send_over, compute_at, one_after_another, sends_of_pieces, sends_of_slots, computes_of_routes, has_batch, tasks_over, tasks_at}
use Rattle.period_table.proofs.Chains.{true_or_false, IsChain, free_after, chain_earlier, chain_append, chain_unused}
use Rattle.period_table.proofs.Runs.{run_all, sum_filter_le}

-- the placed operations that use a port, from a tick to a tick, where a time unit is t.unit ticks
abbrev pub IsPortChain : TimedView → (Op → Bool) → ℕ → ℕ → List Placed → Type 0
IsPortChain t uses from last ps = IsChain (λ p. uses p.op) (λ p. start_of p.op) (λ p. duration_of t t.unit p.op) from last ps

-- equal operations one after another
run_chain : (t : TimedView) (uses : Op → Bool) (make : ℕ → Placed) (lasts : ℕ) → ((s : ℕ) → start_of (make s).op ≡ s) →
    ((s : ℕ) → duration_of t t.unit (make s).op ≡ lasts) → (from count : ℕ) → IsPortChain t uses from (from + count * lasts) (one_after_another make lasts from count)
run_chain t uses make lasts st du from zero = omega arith
run_chain t uses make lasts st du from (suc count) = (
  λ u. rw (st from) (omega arith),
  chain_earlier (λ p. uses p.op) (λ p. start_of p.op) (λ p. duration_of t t.unit p.op) (from + lasts) (free_after (λ p. uses p.op) (λ p. start_of p.op) (λ p. duration_of t t.unit p.op) from (make from))
      (from + suc count * lasts) (one_after_another make lasts (from + lasts) count) free
      (let e : from + lasts + count * lasts ≡ from + suc count * lasts = omega arith in
      subst (λ (last : ℕ). IsPortChain t uses (from + lasts) last (one_after_another make lasts (from + lasts) count)) e (run_chain t uses make lasts st du (from + lasts) count)),
)
  where
    free : cond (uses (make from).op) (start_of (make from).op + duration_of t t.unit (make from).op) from ≤ from + lasts
    free = rw (st from, du from) (either (uses (make from).op))
      where
        either : (b : Bool) → cond b (from + lasts) from ≤ from + lasts
        either true = omega arith
        either false = omega arith

module _ (lanes : List LaneAt) (port : ℕ → Bool) where
  -- the link of a piece
  abbrev pub link_of : Piece → ℕ
  link_of piece = (lane_at lanes piece.lane).link

  abbrev pub UsesOnly : ℕ → Piece → Type 0
  UsesOnly link piece = port (link_of piece) ≡ true → link_of piece ≡ link

  -- two pieces that use the port have one link
  abbrev pub Agree : Piece → Piece → Type 0
  Agree p q = port (link_of p) ≡ true → port (link_of q) ≡ true → link_of q ≡ link_of p

  abbrev pub OneLink : List Piece → Type 0
  OneLink pieces = All (λ p. All (Agree p) pieces) pieces

  -- where no two links meet at the port, one link alone uses it
  the_link : (pieces : List Piece) → OneLink pieces → (link : ℕ) × All (UsesOnly link) pieces
  the_link [] one = (0, All-nil (UsesOnly 0))
  the_link (piece ∷ pieces) one = elim (true_or_false (port (link_of piece))) [
    | inl used ↦ (
      link_of piece,
      All-weaker (Agree piece) (UsesOnly (link_of piece)) (λ q a u. a used u) (piece ∷ pieces) (All-head (λ p. All (Agree p) (piece ∷ pieces)) piece pieces one),
    )
    | inr free ↦
        let rest = the_link pieces (All-weaker (λ p. All (Agree p) (piece ∷ pieces)) (λ p. All (Agree p) pieces) (λ p h. All-tail (Agree p) piece pieces h) pieces
        (All-tail (λ p. All (Agree p) (piece ∷ pieces)) piece pieces one)) in
        (rest.0, All-cons (UsesOnly rest.0) piece pieces (λ u. absurd (both _ u free)) rest.1)
  ]
    where
      both : (b : Bool) → b ≡ true → b ≡ false → ⊥
      both b e f = cc

  one_link_kept : (keep : Piece → Bool) (pieces : List Piece) → OneLink pieces → OneLink (filter keep pieces)
  one_link_kept keep pieces one =
      All-filter keep (λ p. All (Agree p) (filter keep pieces)) pieces
      (All-weaker (λ p. All (Agree p) pieces) (λ p. All (Agree p) (filter keep pieces)) (λ p h. All-filter keep (Agree p) pieces h) pieces one)

-- what a slot has to keep for a port of links
pub record FreesPort (t : TimedView) (lanes : List LaneAt) (port : ℕ → Bool) (slot : Slot) : Type 0 where
  pub in_time : (link : ℕ) → tasks_over lanes link slot.pieces * cost_of t link ≤ slot.duration
  pub one_link : OneLink lanes port slot.pieces

-- a port that links use
module _ (t : TimedView) (lanes : List LaneAt) (uses : Op → Bool) (port : ℕ → Bool) (sends : (link kind start : ℕ) → uses (Send link kind start) ≡ port link)
    (lasts : (link kind start : ℕ) → duration_of t t.unit (Send link kind start) ≡ cost_of t link) where
  -- what a piece moves over a link
  abbrev over : ℕ → Piece → ℕ
  over link q = cond (nat_eq (lane_at lanes q.lane).link link) q.count 0

  -- the pieces of a slot, where one link alone uses the port
  pieces_chain : (link start last : ℕ) (before pieces : List Piece) → All (UsesOnly lanes port link) pieces →
      start + (tasks_over lanes link before + tasks_over lanes link pieces) * cost_of t link ≤ last →
      IsPortChain t uses (start + tasks_over lanes link before * cost_of t link) last (sends_of_pieces t lanes start before pieces)
  pieces_chain link start last before [] only h = none_left start (tasks_over lanes link before) (cost_of t link) last h
    where
      none_left : (s n c last : ℕ) → s + (n + 0) * c ≤ last → s + n * c ≤ last
      none_left s n c last h = omega arith
  pieces_chain link start last before (piece ∷ pieces) only h =
      chain_append (λ p. uses p.op) (λ p. start_of p.op) (λ p. duration_of t t.unit p.op)
      (start + tasks_over lanes link before * cost_of t link)
      (start + tasks_over lanes link (piece ∷ before) * cost_of t link) last
      (one_after_another (send_over lanes piece.lane) (cost_of t (link_of lanes port piece)) (start + tasks_over lanes (link_of lanes port piece) before * cost_of t (link_of lanes port piece)) piece.count)
      (sends_of_pieces t lanes start (piece ∷ before) pieces)
      (elim (true_or_false (nat_eq (link_of lanes port piece) link)) [
        | inl same ↦ this_link (same_number (link_of lanes port piece) link same)
        | inr other ↦
            chain_unused (λ p. uses p.op) (λ p. start_of p.op) (λ p. duration_of t t.unit p.op) _ _
            (one_after_another (send_over lanes piece.lane) (cost_of t (link_of lanes port piece)) (start + tasks_over lanes (link_of lanes port piece) before * cost_of t (link_of lanes port piece)) piece.count)
            (run_all (λ p. uses p.op ≡ false) (send_over lanes piece.lane) _ (λ s. sends (link_of lanes port piece) _ s ∙ unused other) _ piece.count)
            (let e = sum_by-cons (over link) piece before in more_ticks start _ _ _ (cost_of t link) e)
      ])
      (pieces_chain link start last (piece ∷ before) pieces (All-tail (UsesOnly lanes port link) piece pieces only)
      (moved start _ _ _ _ _ (cost_of t link) last (sum_by-cons (over link) piece before) (sum_by-cons (over link) piece pieces) h))
    where
      same_number : (a b : ℕ) → nat_eq a b ≡ true → a ≡ b
      same_number a b e = grind (arith, nat_tests)

      unused : nat_eq (link_of lanes port piece) link ≡ false → port (link_of lanes port piece) ≡ false
      unused other = elim (true_or_false (port (link_of lanes port piece))) [
        | inl used ↦ absurd (differ (link_of lanes port piece) link other (All-head (UsesOnly lanes port link) piece pieces only used))
        | inr free ↦ free
      ]
        where
          differ : (a b : ℕ) → nat_eq a b ≡ false → a ≡ b → ⊥
          differ a b e f = grind (arith, nat_tests)

      more_ticks : (s n m v c : ℕ) → m ≡ v + n → s + n * c ≤ s + m * c
      more_ticks s n m v c e = let k : n * c ≤ m * c = mul-le-mul_right c (omega arith) in omega arith

      moved : (s m n v a b c last : ℕ) → m ≡ v + n → b ≡ v + a → s + (n + b) * c ≤ last → s + (m + a) * c ≤ last
      moved s m n v a b c last e f h = let g : m + a ≡ n + b = omega arith in rw g h

      this_link : link_of lanes port piece ≡ link →
          IsPortChain t uses (start + tasks_over lanes link before * cost_of t link) (start + tasks_over lanes link (piece ∷ before) * cost_of t link)
          (one_after_another (send_over lanes piece.lane) (cost_of t (link_of lanes port piece)) (start + tasks_over lanes (link_of lanes port piece) before * cost_of t (link_of lanes port piece)) piece.count)
      this_link e =
          let begin : start + tasks_over lanes (link_of lanes port piece) before * cost_of t (link_of lanes port piece) ≡ start + tasks_over lanes link before * cost_of t link =
          ap (λ (l : ℕ). start + tasks_over lanes l before * cost_of t l) e in
          let each : cost_of t (link_of lanes port piece) ≡ cost_of t link = ap (cost_of t) e in
          let here : nat_eq (link_of lanes port piece) link ≡ true = rw e (equal link) in
          let ends : start + tasks_over lanes (link_of lanes port piece) before * cost_of t (link_of lanes port piece) + piece.count * cost_of t (link_of lanes port piece) ≡ start + tasks_over lanes link (piece ∷ before) * cost_of t link =
          ends_at start (tasks_over lanes (link_of lanes port piece) before) (tasks_over lanes link before) (tasks_over lanes link (piece ∷ before)) (over link piece) piece.count (cost_of t (link_of lanes port piece)) (cost_of t link) begin each (sum_by-cons (over link) piece before) (ap (λ b. cond {A = ℕ} b piece.count 0) here) in
          subst (λ (from : ℕ). IsPortChain t uses from (start + tasks_over lanes link (piece ∷ before) * cost_of t link)
          (one_after_another (send_over lanes piece.lane) (cost_of t (link_of lanes port piece)) (start + tasks_over lanes (link_of lanes port piece) before * cost_of t (link_of lanes port piece)) piece.count)) begin
          (subst (λ (last : ℕ). IsPortChain t uses (start + tasks_over lanes (link_of lanes port piece) before * cost_of t (link_of lanes port piece)) last
          (one_after_another (send_over lanes piece.lane) (cost_of t (link_of lanes port piece)) (start + tasks_over lanes (link_of lanes port piece) before * cost_of t (link_of lanes port piece)) piece.count)) ends
          (run_chain t uses (send_over lanes piece.lane) (cost_of t (link_of lanes port piece)) (λ s. refl) (λ s. lasts (link_of lanes port piece) (lane_at lanes piece.lane).kind s) (start + tasks_over lanes (link_of lanes port piece) before * cost_of t (link_of lanes port piece)) piece.count))
        where
          equal : (n : ℕ) → nat_eq n n ≡ true
          equal n = grind (arith, nat_tests)

          ends_at : (s a n m v k c d : ℕ) → s + a * c ≡ s + n * d → c ≡ d → m ≡ v + n → v ≡ k → s + a * c + k * c ≡ s + m * d
          ends_at s a n m v k c d e f g h = let i : m * d ≡ k * d + n * d = rw (g, h) (omega arith) in let j : k * c ≡ k * d = rw f refl in omega arith

  pub slot_chain : (keep : Piece → Bool) (start : ℕ) (slot : Slot) → FreesPort t lanes port slot →
      IsPortChain t uses start (start + slot.duration) (sends_of_pieces t lanes start [] (filter keep slot.pieces))
  slot_chain keep start slot frees =
      let l = the_link lanes port (filter keep slot.pieces) (one_link_kept lanes port keep slot.pieces frees.one_link) in
      let fewer : tasks_over lanes l.0 (filter keep slot.pieces) ≤ tasks_over lanes l.0 slot.pieces = sum_filter_le (over l.0) keep slot.pieces in
      let e : start + 0 * cost_of t l.0 ≡ start = omega arith in
      subst (λ (from : ℕ). IsPortChain t uses from (start + slot.duration) (sends_of_pieces t lanes start [] (filter keep slot.pieces))) e
      (pieces_chain l.0 start (start + slot.duration) [] (filter keep slot.pieces) l.1 (fits start _ _ (cost_of t l.0) slot.duration fewer (frees.in_time l.0)))
    where
      fits : (s a b c d : ℕ) → a ≤ b → b * c ≤ d → s + (0 + a) * c ≤ s + d
      fits s a b c d h k = let m : a * c ≤ b * c = mul-le-mul_right c h in omega arith

  pub slots_chain : (period start : ℕ) (slots : List Slot) → All (FreesPort t lanes port) slots →
      IsPortChain t uses start (start + sum_by (λ slot. slot.duration) slots) (sends_of_slots t lanes period start slots)
  slots_chain period start [] frees = omega arith
  slots_chain period start (slot ∷ slots) frees =
      chain_append (λ p. uses p.op) (λ p. start_of p.op) (λ p. duration_of t t.unit p.op)
      start (start + slot.duration) (start + sum_by (λ slot. slot.duration) (slot ∷ slots))
      (sends_of_pieces t lanes start [] (filter (has_batch lanes period) slot.pieces)) (sends_of_slots t lanes period (start + slot.duration) slots)
      (slot_chain (has_batch lanes period) start slot (All-head (FreesPort t lanes port) slot slots frees))
      (subst (λ (last : ℕ). IsPortChain t uses (start + slot.duration) last (sends_of_slots t lanes period (start + slot.duration) slots))
      (together start slot.duration _ _ (sum_by-cons (λ slot. slot.duration) slot slots))
      (slots_chain period (start + slot.duration) slots (All-tail (FreesPort t lanes port) slot slots frees)))
    where
      together : (s d n m : ℕ) → m ≡ d + n → s + d + n ≡ s + m
      together s d n m e = omega arith

-- the computations of a node follow each other
module _ (t : TimedView) (node : ℕ) (uses : Op → Bool) (computes : (at start : ℕ) → uses (Compute at start) ≡ nat_eq at node)
    (lasts : (at start : ℕ) → duration_of t t.unit (Compute at start) ≡ time_of t at) where
  abbrev there : Route → ℕ
  there route = cond (nat_eq route.end node) route.count 0

  pub routes_chain : (start last : ℕ) (before routes : List Route) →
      start + (tasks_at node before + tasks_at node routes) * time_of t node ≤ last →
      IsPortChain t uses (start + tasks_at node before * time_of t node) last (computes_of_routes t start before routes)
  routes_chain start last before [] h = none_left start (tasks_at node before) (time_of t node) last h
    where
      none_left : (s n c last : ℕ) → s + (n + 0) * c ≤ last → s + n * c ≤ last
      none_left s n c last h = omega arith
  routes_chain start last before (route ∷ routes) h =
      chain_append (λ p. uses p.op) (λ p. start_of p.op) (λ p. duration_of t t.unit p.op)
      (start + tasks_at node before * time_of t node)
      (start + tasks_at node (route ∷ before) * time_of t node) last
      (one_after_another (compute_at route.end) (time_of t route.end) (start + tasks_at route.end before * time_of t route.end) route.count)
      (computes_of_routes t start (route ∷ before) routes)
      (elim (true_or_false (nat_eq route.end node)) [
        | inl same ↦ this_node same (same_number route.end node same)
        | inr other ↦
            chain_unused (λ p. uses p.op) (λ p. start_of p.op) (λ p. duration_of t t.unit p.op) _ _
            (one_after_another (compute_at route.end) (time_of t route.end) (start + tasks_at route.end before * time_of t route.end) route.count)
            (run_all (λ p. uses p.op ≡ false) (compute_at route.end) _ (λ s. computes route.end s ∙ other) _ route.count)
            (more_ticks start _ _ _ (time_of t node) (sum_by-cons there route before))
      ])
      (routes_chain start last (route ∷ before) routes
      (moved start _ _ _ _ _ (time_of t node) last (sum_by-cons there route before) (sum_by-cons there route routes) h))
    where
      same_number : (a b : ℕ) → nat_eq a b ≡ true → a ≡ b
      same_number a b e = grind (arith, nat_tests)

      more_ticks : (s n m v c : ℕ) → m ≡ v + n → s + n * c ≤ s + m * c
      more_ticks s n m v c e = let k : n * c ≤ m * c = mul-le-mul_right c (omega arith) in omega arith

      moved : (s m n v a b c last : ℕ) → m ≡ v + n → b ≡ v + a → s + (n + b) * c ≤ last → s + (m + a) * c ≤ last
      moved s m n v a b c last e f h = let g : m + a ≡ n + b = omega arith in rw g h

      this_node : nat_eq route.end node ≡ true → route.end ≡ node →
          IsPortChain t uses (start + tasks_at node before * time_of t node) (start + tasks_at node (route ∷ before) * time_of t node)
          (one_after_another (compute_at route.end) (time_of t route.end) (start + tasks_at route.end before * time_of t route.end) route.count)
      this_node here e =
          let begin : start + tasks_at route.end before * time_of t route.end ≡ start + tasks_at node before * time_of t node =
          ap (λ (n : ℕ). start + tasks_at n before * time_of t n) e in
          let each : time_of t route.end ≡ time_of t node = ap (time_of t) e in
          let ends : start + tasks_at route.end before * time_of t route.end + route.count * time_of t route.end ≡ start + tasks_at node (route ∷ before) * time_of t node =
          ends_at start (tasks_at route.end before) (tasks_at node before) (tasks_at node (route ∷ before)) (there route) route.count (time_of t route.end) (time_of t node) begin each
          (sum_by-cons there route before) (ap (λ b. cond {A = ℕ} b route.count 0) here) in
          subst (λ (from : ℕ). IsPortChain t uses from (start + tasks_at node (route ∷ before) * time_of t node)
          (one_after_another (compute_at route.end) (time_of t route.end) (start + tasks_at route.end before * time_of t route.end) route.count)) begin
          (subst (λ (last : ℕ). IsPortChain t uses (start + tasks_at route.end before * time_of t route.end) last
          (one_after_another (compute_at route.end) (time_of t route.end) (start + tasks_at route.end before * time_of t route.end) route.count)) ends
          (run_chain t uses (compute_at route.end) (time_of t route.end) (λ s. refl) (λ s. lasts route.end s) (start + tasks_at route.end before * time_of t route.end) route.count))
        where
          ends_at : (s a n m v k c d : ℕ) → s + a * c ≡ s + n * d → c ≡ d → m ≡ v + n → v ≡ k → s + a * c + k * c ≡ s + m * d
          ends_at s a n m v k c d e f g h = let i : m * d ≡ k * d + n * d = rw (g, h) (omega arith) in let j : k * c ≡ k * d = rw f refl in omega arith
