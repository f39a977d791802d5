-- The text of a table that fits is read, to its end.
use Rattle.std.proofs.Common.{◌≡◌, ◌≢◌, ℕ, suc, ◌+◌, ◌*◌, ◌<◌, ◌≤◌, ◌^◌, All, List, [], ◌∷◌, ◌++◌, length, codes, decimal, refl, sym, ap, subst, arith, inl, inr, sum_by}
use Rattle.std.proofs.lemmas.List.{append_assoc, append-nil, length-append}
use Rattle.std.proofs.lemmas.List.Elements.{All-nil, All-cons, All-append, All-head, All-tail}
use Rattle.std.specs.Int.{IsGcd}
use Rattle.std.proofs.lemmas.List.Sums.{sum_by-cons}
use Rattle.ratio_core.specs.Fraction.{Fraction, IsReduced, gcd_of, reduced}
use Rattle.ratio_core.proofs.GcdLemmas.{gcd_positive, quotients_are_coprime, quotient_positive}
use Rattle.ratio_core.proofs.Multiples.{searched_is_gcd}
use Rattle.platform_file.specs.Ticks.{TimedView, IsTimed}
use Rattle.schedule_model.specs.declared.schedule.Series.{Series}
use Rattle.schedule_model.specs.declared.schedule.Series.TheVariants.{Tasking, Scatter}
use Rattle.flow_routes.specs.declared.flow.Route.{Route}
use Rattle.period_table.specs.declared.table.Table.{Table}
use Rattle.period_table.specs.declared.table.Slot.{Slot}
use Rattle.period_table.specs.declared.table.Piece.{Piece}
use Rattle.period_table.specs.Lanes.{LaneAt, lanes_of}
use Rattle.period_table.specs.Tables.{IsRoute, IsPiece, IsSlot, HasTasks, Fits}
use Rattle.period_table.proofs.FittingTables.{end_exists, some_period}
use Rattle.text_lines.specs.Lines.{line, IsOneLine}
use Rattle.text_lines.proofs.FirstLines.{line_first}
use Rattle.text_lines.proofs.Words.{lacks_by}
use Rattle.plan_text.specs.Texts.{header_text, ratio_text, route_line, routes_text, slot_line, slots_text, plan_text}
use Rattle.plan_text.specs.Reading.{IsNext, IsHeaderLine, IsNumberLine, IsUnitLine, IsRateLine, IsRouteLine, HasLanes32, IsSlotLine, IsEndLine, HeadView, Place, AreRead, IsFaultAt, IsDisagreement, table_of}
use Rattle.plan_text.specs.Reading.Place.{at_header, at_row, behind_end}
use Rattle.plan_text.proofs.RowWords.{number_lacks, IsSmallPiece, route_one_line, slot_one_line}
use Rattle.plan_text.proofs.RowReads.{nodes_exist}
use Rattle.plan_text.proofs.ShortWalks.{short_longest}
use Rattle.plan_text.proofs.Steps.{more, and_more, after_header, after_unit, after_period, after_tasks, after_depth, after_rate, step_route, step_slot, step_end}
use Rattle.plan_text.proofs.OneReading.{same_end, not_stuck}

-- a line that means something is the next before what follows
next_is : {A : Type 0} (means : List ℕ → A → Type 0) (text rest : List ℕ) (value : A) → IsOneLine text → means text value → IsNext means (line text ++ rest) value rest
next_is means text rest value one meaning = record { text = text; split = line_first text rest one; meaning = meaning }

word_and_number : (word : List ℕ) (n : ℕ) → IsOneLine word → n ≤ 2 ^ 107 → IsOneLine (word ++ decimal n)
word_and_number word n one small = All-append (λ b. b ≢ 10) word (decimal n) one (number_lacks 10 (inr refl) n (omega (arith, small)))

next_number : (word : List ℕ) (n : ℕ) (rest : List ℕ) → IsOneLine word → n ≤ 2 ^ 107 → IsNext (IsNumberLine word) (line (word ++ decimal n) ++ rest) n rest
next_number word n rest one small = next_is (IsNumberLine word) (word ++ decimal n) rest n (word_and_number word n one small) (record { is_line = refl; bounded = small })

header_one : (series : Series) → IsOneLine (header_text series)
header_one Tasking = lacks_by 10 (header_text Tasking) refl
header_one Scatter = lacks_by 10 (header_text Scatter) refl

header_is : (t : TimedView) (series : Series) (table : Table) → HasTasks t series table → IsHeaderLine t (header_text series) series
header_is t Tasking table tasks = refl
header_is t Scatter table tasks = (refl, tasks.0)

next_rate : (rate : Fraction) (rest : List ℕ) → IsReduced rate → rate.num ≤ 2 ^ 127 → rate.den ≤ 2 ^ 127 → IsNext IsRateLine (line (codes "rate " ++ ratio_text rate) ++ rest) rate rest
next_rate rate rest lowest num den =
    next_is IsRateLine (codes "rate " ++ ratio_text rate) rest rate
    (All-append (λ b. b ≢ 10) (codes "rate ") (ratio_text rate) (lacks_by 10 (codes "rate ") refl)
    (All-append (λ b. b ≢ 10) (decimal rate.num) (47 ∷ decimal rate.den) (number_lacks 10 (inr refl) rate.num (omega (arith, num)))
    (All-cons (λ b. b ≢ 10) 47 (decimal rate.den) (λ e. omega (arith, e)) (number_lacks 10 (inr refl) rate.den (omega (arith, den))))))
    (record { part = ratio_text rate; is_line = refl; numbers = record { is_text = refl; first_bounded = num; second_bounded = den }; lowest = lowest })

reduced_lowest : (num den : ℕ) → 1 ≤ den → IsReduced (reduced num den)
reduced_lowest num den some =
    let is : IsGcd num den (gcd_of num den) = searched_is_gcd num den in
    record { some_den = quotient_positive den (gcd_of num den) some is.1; lowest = quotients_are_coprime num den (gcd_of num den) (gcd_positive num den (gcd_of num den) some is) is }

-- what holds at one end holds at the same end
of_place : (head other : HeadView) (routes others : List Route) (slots rows : List Slot) → behind_end head routes slots ≡ behind_end other others rows → (P : HeadView → List Route → List Slot → Type 0) → P head routes slots → P other others rows
of_place head other routes others slots rows same P here = subst P' same here
  where
    P' : Place → Type 0
    P' (behind_end head routes slots) = P head routes slots
    P' place = ⊥

module _ (t : TimedView) (timed : IsTimed t) where
  next_route : (series : Series) (number : ℕ) (route : Route) (rest : List ℕ) → number < 10 ^ 64 → IsRoute t series route → IsNext (IsRouteLine t series number) (line (route_line t number route) ++ rest) route rest
  next_route series number route rest few is =
      next_is (IsRouteLine t series number) (route_line t number route) rest route
      (route_one_line t timed number route few (omega (arith, is.bounded)) (nodes_exist t timed route.links route.end is.walk (end_exists t series route timed is)))
      (record { is_line = refl; is_route = is })

  one_behind : (n : ℕ) → n + 1 ≡ suc n
  one_behind n = omega arith

  -- the routes, one by one
  routes_read : (head : HeadView) (done todo : List Route) (rest : List ℕ) → length done + length todo < 10 ^ 64 → All (IsRoute t head.series) todo →
      AreRead (length todo) t (at_row head done []) (routes_text t (length done) todo ++ rest) (at_row head (done ++ todo) []) rest
  routes_read head done [] rest few all = (ap (λ routes. at_row head routes []) (append-nil done), refl)
  routes_read head done (route ∷ todo) rest few all =
      let here = All-head (IsRoute t head.series) route todo all in
      let behind = routes_text t (length done + 1) todo ++ rest in
      let size : length (done ++ route ∷ []) ≡ length done + 1 = length-append done (route ∷ []) in
      let bytes : routes_text t (length done) (route ∷ todo) ++ rest ≡ line (route_line t (length done) route) ++ behind = append_assoc (line (route_line t (length done) route)) (routes_text t (length done + 1) todo) rest in
      let first : AreRead 1 t (at_row head done []) (line (route_line t (length done) route) ++ behind) (at_row head (done ++ route ∷ []) []) behind =
      more t 0 (at_row head done []) (line (route_line t (length done) route) ++ behind) (at_row head done []) (line (route_line t (length done) route) ++ behind) (at_row head (done ++ route ∷ []) []) behind (refl, refl)
      (step_route t (line (route_line t (length done) route) ++ behind) behind head done route (next_route head.series (length done) route behind (omega (arith, few)) here)) in
      let others : AreRead (length todo) t (at_row head (done ++ route ∷ []) []) behind (at_row head ((done ++ route ∷ []) ++ todo) []) rest =
      subst (λ n. AreRead (length todo) t (at_row head (done ++ route ∷ []) []) (routes_text t n todo ++ rest) (at_row head ((done ++ route ∷ []) ++ todo) []) rest) size
      (routes_read head (done ++ route ∷ []) todo rest (omega (arith, few, size)) (All-tail (IsRoute t head.series) route todo all)) in
      let both = and_more t (length todo) 1 (at_row head done []) (line (route_line t (length done) route) ++ behind) (at_row head (done ++ route ∷ []) []) behind (at_row head ((done ++ route ∷ []) ++ todo) []) rest first others in
      subst (λ bs. AreRead (suc (length todo)) t (at_row head done []) bs (at_row head (done ++ route ∷ todo) []) rest) (sym bytes)
      (subst (λ n. AreRead n t (at_row head done []) (line (route_line t (length done) route) ++ behind) (at_row head (done ++ route ∷ todo) []) rest) (one_behind (length todo))
      (subst (λ routes. AreRead (length todo + 1) t (at_row head done []) (line (route_line t (length done) route) ++ behind) (at_row head routes []) rest) (append_assoc done (route ∷ []) todo) both))

  small_pieces : (lanes : List LaneAt) (pieces : List Piece) → All (IsPiece lanes) pieces → All (λ piece. piece.lane < 2 ^ 32) pieces → All IsSmallPiece pieces
  small_pieces lanes [] all small = All-nil IsSmallPiece
  small_pieces lanes (piece ∷ pieces) all small =
      let here = All-head (IsPiece lanes) piece pieces all in
      let lane = All-head (λ piece. piece.lane < 2 ^ 32) piece pieces small in
      All-cons IsSmallPiece piece pieces (omega (arith, lane), omega (arith, here.bounded)) (small_pieces lanes pieces (All-tail (IsPiece lanes) piece pieces all) (All-tail (λ piece. piece.lane < 2 ^ 32) piece pieces small))

  next_slot : (lanes : List LaneAt) (slot : Slot) (rest : List ℕ) → IsSlot lanes slot → slot.duration ≤ 2 ^ 100 → HasLanes32 slot → IsNext (IsSlotLine lanes) (line (slot_line slot) ++ rest) slot rest
  next_slot lanes slot rest is short small =
      next_is (IsSlotLine lanes) (slot_line slot) rest slot (slot_one_line slot (omega (arith, short)) (small_pieces lanes slot.pieces is.pieces small))
      (record { is_line = refl; is_slot = is; short = short; lanes32 = small })

  -- the slots, one by one
  slots_read : (head : HeadView) (routes : List Route) (done todo : List Slot) (rest : List ℕ) → length done + length todo < 2 ^ 32 → All (IsSlot (lanes_of routes)) todo → All (λ slot. slot.duration ≤ 2 ^ 100) todo → All HasLanes32 todo →
      AreRead (length todo) t (at_row head routes done) (slots_text todo ++ rest) (at_row head routes (done ++ todo)) rest
  slots_read head routes done [] rest few all short small = (ap (λ slots. at_row head routes slots) (append-nil done), refl)
  slots_read head routes done (slot ∷ todo) rest few all short small =
      let behind = slots_text todo ++ rest in
      let size : length (done ++ slot ∷ []) ≡ length done + 1 = length-append done (slot ∷ []) in
      let bytes : slots_text (slot ∷ todo) ++ rest ≡ line (slot_line slot) ++ behind = append_assoc (line (slot_line slot)) (slots_text todo) rest in
      let first : AreRead 1 t (at_row head routes done) (line (slot_line slot) ++ behind) (at_row head routes (done ++ slot ∷ [])) behind =
      more t 0 (at_row head routes done) (line (slot_line slot) ++ behind) (at_row head routes done) (line (slot_line slot) ++ behind) (at_row head routes (done ++ slot ∷ [])) behind (refl, refl)
      (step_slot t (line (slot_line slot) ++ behind) behind head routes done slot (omega (arith, few))
      (next_slot (lanes_of routes) slot behind (All-head (IsSlot (lanes_of routes)) slot todo all) (All-head (λ slot. slot.duration ≤ 2 ^ 100) slot todo short) (All-head HasLanes32 slot todo small))) in
      let others = slots_read head routes (done ++ slot ∷ []) todo rest (omega (arith, few, size)) (All-tail (IsSlot (lanes_of routes)) slot todo all) (All-tail (λ slot. slot.duration ≤ 2 ^ 100) slot todo short) (All-tail HasLanes32 slot todo small) in
      let both = and_more t (length todo) 1 (at_row head routes done) (line (slot_line slot) ++ behind) (at_row head routes (done ++ slot ∷ [])) behind (at_row head routes ((done ++ slot ∷ []) ++ todo)) rest first others in
      subst (λ bs. AreRead (suc (length todo)) t (at_row head routes done) bs (at_row head routes (done ++ slot ∷ todo)) rest) (sym bytes)
      (subst (λ n. AreRead n t (at_row head routes done) (line (slot_line slot) ++ behind) (at_row head routes (done ++ slot ∷ todo)) rest) (one_behind (length todo))
      (subst (λ slots. AreRead (length todo + 1) t (at_row head routes done) (line (slot_line slot) ++ behind) (at_row head routes slots) rest) (append_assoc done (slot ∷ []) todo) both))

  end_behind : (slots : List Slot) → 1 ≤ length slots → slots ≢ []
  end_behind slots some e = let none : length slots ≡ 0 = ap length e in omega (arith, some, none)

  abbrev head_of : Series → Table → HeadView
  head_of series table = record { series = series; period = table.period; tasks = table.tasks; depth = table.depth; rate = reduced (table.tasks * t.unit) table.period }

  -- the text of a table that fits is read to its end
  pub record IsTableRead (series : Series) (table : Table) : Type 0 where
    pub lines : ℕ
    pub read : AreRead lines t at_header (plan_text t series table) (behind_end (head_of series table) table.routes table.slots) []

  pub table_read : (series : Series) (table : Table) → Fits t series table → All HasLanes32 table.slots → length table.routes < 10 ^ 64 → IsTableRead series table
  table_read series table fits small few =
      let rate = reduced (table.tasks * t.unit) table.period in
      let head = head_of series table in
      let r8 = line (codes "end") in
      let r7 = slots_text table.slots ++ r8 in
      let r6 = routes_text t 0 table.routes ++ r7 in
      let r5 = line (codes "rate " ++ ratio_text rate) ++ r6 in
      let r4 = line (codes "depth " ++ decimal table.depth) ++ r5 in
      let r3 = line (codes "tasks " ++ decimal table.tasks) ++ r4 in
      let r2 = line (codes "period " ++ decimal table.period) ++ r3 in
      let r1 = line (codes "unit " ++ decimal t.unit) ++ r2 in
      let bytes = line (header_text series) ++ r1 in
      let deep : table.depth ≤ 2 ^ 107 = omega (arith, fits.depth, short_longest t timed series table.routes fits.routes) in
      let unit : t.unit ≤ 2 ^ 107 = omega (arith, timed.short_unit) in
      let period : table.period ≤ 2 ^ 107 = omega (arith, fits.short_period) in
      let first = after_header t bytes [] r1 series (next_is (IsHeaderLine t) (header_text series) r1 series (header_one series) (header_is t series table fits.tasks)) in
      let second = after_unit t bytes r1 r2 series t.unit first
      (next_is (IsUnitLine t) (codes "unit " ++ decimal t.unit) r2 t.unit (word_and_number (codes "unit ") t.unit (lacks_by 10 (codes "unit ") refl) unit) (refl, record { is_line = refl; bounded = unit })) in
      let third = after_period t bytes r2 r3 series table.period second (next_number (codes "period ") table.period r3 (lacks_by 10 (codes "period ") refl) period) in
      let fourth = after_tasks t bytes r3 r4 series table.period table.tasks third (next_number (codes "tasks ") table.tasks r4 (lacks_by 10 (codes "tasks ") refl) fits.few_tasks) in
      let fifth = after_depth t bytes r4 r5 series table.period table.tasks table.depth fourth (next_number (codes "depth ") table.depth r5 (lacks_by 10 (codes "depth ") refl) deep) in
      let sixth = after_rate t bytes r5 r6 series table.period table.tasks table.depth rate fifth
      (next_rate rate r6 (reduced_lowest (table.tasks * t.unit) table.period (some_period t series table fits)) fits.rate_num fits.rate_den) in
      let seventh = and_more t (length table.routes) 6 at_header bytes (at_row head [] []) r6 (at_row head table.routes []) r7 sixth (routes_read head [] table.routes r7 (omega (arith, few)) fits.routes) in
      let eighth = and_more t (length table.slots) (length table.routes + 6) at_header bytes (at_row head table.routes []) r7 (at_row head table.routes table.slots) r8 seventh
      (slots_read head table.routes [] table.slots r8 (omega (arith, fits.few_slots)) fits.slots (each_within table.slots (2 ^ 100) (omega (arith, fits.period, fits.short_period))) small) in
      let at_end : IsNext IsEndLine r8 tt [] = next_is IsEndLine (codes "end") [] tt (lacks_by 10 (codes "end") refl) refl in
      record {
        lines = suc (length table.slots + (length table.routes + 6));
        read = more t (length table.slots + (length table.routes + 6)) at_header bytes (at_row head table.routes table.slots) r8 (behind_end head table.routes table.slots) [] eighth
            (step_end t r8 [] head table.routes table.slots (end_behind table.slots fits.some_slot) at_end);
      }
    where
      each_within : (slots : List Slot) (most : ℕ) → sum_by (λ slot. slot.duration) slots ≤ most → All (λ slot. slot.duration ≤ most) slots
      each_within [] most within = All-nil (λ slot. slot.duration ≤ most)
      each_within (slot ∷ slots) most within =
          let sum : sum_by (λ (slot : Slot). slot.duration) (slot ∷ slots) ≡ slot.duration + sum_by (λ (slot : Slot). slot.duration) slots = sum_by-cons (λ (slot : Slot). slot.duration) slot slots in
          All-cons (λ slot. slot.duration ≤ most) slot slots (omega (arith, sum, within)) (each_within slots most (omega (arith, sum, within)))

  -- each route has a line
  routes_within : (number : ℕ) (routes : List Route) → length routes ≤ length (routes_text t number routes)
  routes_within number [] = omega arith
  routes_within number (route ∷ routes) =
      let others = routes_within (number + 1) routes in
      let size : length (routes_text t number (route ∷ routes)) ≡ length (line (route_line t number route)) + length (routes_text t (number + 1) routes) = length-append (line (route_line t number route)) (routes_text t (number + 1) routes) in
      let there : length (line (route_line t number route)) ≡ length (route_line t number route) + 1 = length-append (route_line t number route) (10 ∷ []) in
      omega (arith, others, size, there)

  behind_more : (xs ys : List ℕ) → length ys ≤ length (xs ++ ys)
  behind_more xs ys = let size : length (xs ++ ys) ≡ length xs + length ys = length-append xs ys in omega (arith, size)

  few_routes : (series : Series) (table : Table) → length (plan_text t series table) < 2 ^ 64 → length table.routes < 10 ^ 64
  few_routes series table short =
      let rate = reduced (table.tasks * t.unit) table.period in
      let r7 = slots_text table.slots ++ line (codes "end") in
      let r6 = routes_text t 0 table.routes ++ r7 in
      let r5 = line (codes "rate " ++ ratio_text rate) ++ r6 in
      let r4 = line (codes "depth " ++ decimal table.depth) ++ r5 in
      let r3 = line (codes "tasks " ++ decimal table.tasks) ++ r4 in
      let r2 = line (codes "period " ++ decimal table.period) ++ r3 in
      let r1 = line (codes "unit " ++ decimal t.unit) ++ r2 in
      let lines = routes_within 0 table.routes in
      let rows : length r6 ≡ length (routes_text t 0 table.routes) + length r7 = length-append (routes_text t 0 table.routes) r7 in
      let a = behind_more (line (header_text series)) r1 in
      let b = behind_more (line (codes "unit " ++ decimal t.unit)) r2 in
      let c = behind_more (line (codes "period " ++ decimal table.period)) r3 in
      let d = behind_more (line (codes "tasks " ++ decimal table.tasks)) r4 in
      let e = behind_more (line (codes "depth " ++ decimal table.depth)) r5 in
      let f = behind_more (line (codes "rate " ++ ratio_text rate)) r6 in
      chained (length table.routes) _ _ _ _ _ _ _ (length (plan_text t series table)) lines (omega (arith, rows)) f e d c b a short
    where
      chained : (n x r6 r5 r4 r3 r2 r1 all : ℕ) → n ≤ x → x ≤ r6 → r6 ≤ r5 → r5 ≤ r4 → r4 ≤ r3 → r3 ≤ r2 → r2 ≤ r1 → r1 ≤ all → all < 2 ^ 64 → n < 10 ^ 64
      chained n x r6 r5 r4 r3 r2 r1 all h0 h1 h2 h3 h4 h5 h6 h7 h8 = omega (arith, h0, h1, h2, h3, h4, h5, h6, h7, h8)

  -- a table that fits disagrees nowhere
  agrees : (series : Series) (table : Table) (number : ℕ) → Fits t series table → IsDisagreement t (head_of series table) table number → ⊥
  agrees series table number fits (inl w) = w.1 (fits.period, fits.short_period)
  agrees series table number fits (inr (_, inl w)) = w.1 fits.tasks
  agrees series table number fits (inr (_, inr (_, inl w))) = w.1 fits.depth
  agrees series table number fits (inr (_, inr (_, inr (_, inl w)))) = w.1 refl
  agrees series table number fits (inr (_, inr (_, inr (_, inr (_, _, fails))))) = fails fits.moved

  short_bytes : (bytes : List ℕ) → length bytes < 2 ^ 64 → length bytes < 10 ^ 64
  short_bytes bytes l = omega (arith, l)

  -- reading stops nowhere in the text of a table that fits
  pub readable : (series : Series) (table : Table) (number : ℕ) → Fits t series table → All HasLanes32 table.slots → length (plan_text t series table) < 2 ^ 64 → IsFaultAt t (plan_text t series table) number → ⊥
  readable series table number fits small short (inl fault) =
      let all = table_read series table fits small (few_routes series table short) in
      not_stuck t timed all.lines (plan_text t series table) (head_of series table) table.routes table.slots (short_bytes (plan_text t series table) short) all.read fault.lines fault.place fault.left fault.read fault.stuck fault.not_over
  readable series table number fits small short (inr fault) =
      let all = table_read series table fits small (few_routes series table short) in
      let same = same_end t timed fault.through.lines all.lines (plan_text t series table) fault.head (head_of series table) fault.routes table.routes fault.slots table.slots [] [] (short_bytes (plan_text t series table) short) fault.through.read all.read in
      agrees series table number fits (of_place fault.head (head_of series table) fault.routes table.routes fault.slots table.slots same (λ head routes slots. IsDisagreement t head (table_of head routes slots) number) fault.disagrees)

  -- one text has one series and one table
  pub determined : (series other : Series) (table second : Table) → Fits t series table → Fits t other second → All HasLanes32 table.slots → All HasLanes32 second.slots → length (plan_text t series table) < 2 ^ 64 →
      plan_text t series table ≡ plan_text t other second → (series ≡ other) × (table ≡ second)
  determined series other table second fits also small lanes short same =
      let first = table_read series table fits small (few_routes series table short) in
      let next = table_read other second also lanes (few_routes other second (subst (λ bytes. length bytes < 2 ^ 64) same short)) in
      let place = same_end t timed first.lines next.lines (plan_text t series table) (head_of series table) (head_of other second) table.routes second.routes table.slots second.slots [] [] (short_bytes (plan_text t series table) short) first.read
      (subst (λ bytes. AreRead next.lines t at_header bytes (behind_end (head_of other second) second.routes second.slots) []) (sym same) next.read) in (
        of_place (head_of series table) (head_of other second) table.routes second.routes table.slots second.slots place (λ head routes slots. series ≡ head.series) refl,
        of_place (head_of series table) (head_of other second) table.routes second.routes table.slots second.slots place (λ head routes slots. table ≡ table_of head routes slots) refl,
      )
