-- What the readers of routes and slots find in the words of a line.
use Rattle.std.proofs.Common.{◌≡◌, ℕ, ◌-◌, ◌<◌, ◌≤◌, ◌^◌, All, List, [], ◌∷◌, length, map, codes, decimal, refl, sym, ap, ◌∙◌, subst, arith, inr, ap₂}
use Rattle.std.specs.List.{join_with_byte}
use Rattle.std.proofs.lemmas.List.Elements.{All-nil, All-cons, All-head, All-tail}
use Rattle.platform_file.specs.Ticks.{TimedView, IsTimed}
use Rattle.schedule_model.specs.declared.schedule.Series.{Series}
use Rattle.schedule_model.specs.declared.schedule.Series.TheVariants.{Tasking, Scatter}
use Rattle.schedule_model.specs.Operations.{sender_of}
use Rattle.flow_routes.specs.declared.flow.Route.{Route}
use Rattle.period_table.specs.declared.table.Slot.{Slot}
use Rattle.period_table.specs.declared.table.Piece.{Piece}
use Rattle.period_table.specs.Lanes.{LaneAt}
use Rattle.period_table.specs.Tables.{IsWalk, IsRoute, IsPiece, IsSlot, EndsWell, first_node, nodes_on}
use Rattle.period_table.proofs.FittingTables.{end_exists}
use Rattle.text_lines.specs.Lines.{words_of}
use Rattle.text_lines.proofs.Words.{words_join}
use Rattle.plan_text.specs.Texts.{name_of, piece_text}
use Rattle.plan_text.specs.Walks.{IsNamedWalk, IsKind}
use Rattle.plan_text.specs.Reading.{IsNumbered, IsRouteHead, IsRouteLine, ArePieceWords, HasLanes32, IsSlotLine}
use Rattle.plan_text.proofs.NamedWalks.{named_unique, walk_unique, kind_unique, names_behind, names_on, walk_named, named_walk}
use Rattle.plan_text.proofs.RowWords.{IsSmallPiece, decimal_unique, route_words, slot_words, route_joined, slot_joined, route_words_of, slot_words_of}
use Rattle.plan_text.proofs.LineReads.{pair_unique}

-- a list's first and what follows
pub first_same : {A : Type 0} {x y : A} {xs ys : List A} → x ∷ xs ≡ y ∷ ys → x ≡ y
first_same e = cc

pub rest_same : {A : Type 0} {x y : A} {xs ys : List A} → x ∷ xs ≡ y ∷ ys → xs ≡ ys
rest_same e = cc

-- the words of a route's line
pub record AreRouteWords (t : TimedView) (series : Series) (number : ℕ) (words : List (List ℕ)) (route : Route) : Type 0 where
  pub are_words : words ≡ route_words t number route
  pub is_route : IsRoute t series route

-- the words of a slot's line
pub record AreSlotWords (lanes : List LaneAt) (words : List (List ℕ)) (slot : Slot) : Type 0 where
  pub are_words : words ≡ slot_words slot
  pub is_slot : IsSlot lanes slot
  pub short : slot.duration ≤ 2 ^ 100
  pub lanes32 : HasLanes32 slot

module _ (t : TimedView) (timed : IsTimed t) where
  start_exists : (links : List ℕ) (end : ℕ) → IsWalk t links end → end < length t.platform.nodes → first_node t links end < length t.platform.nodes
  start_exists [] end w l = l
  start_exists (link ∷ links) end w l = (timed.platform.links link _ w.0).leaves

  pub nodes_exist : (links : List ℕ) (end : ℕ) → IsWalk t links end → end < length t.platform.nodes → All (λ node. node < length t.platform.nodes) (nodes_on t links end)
  nodes_exist [] end w l = All-cons (λ node. node < length t.platform.nodes) end [] l (All-nil (λ node. node < length t.platform.nodes))
  nodes_exist (link ∷ links) end w l =
      All-cons (λ node. node < length t.platform.nodes) (sender_of t link) (nodes_on t links end) (timed.platform.links link _ w.0).leaves (nodes_exist links end w.3 l)

  module _ (series : Series) (number : ℕ) (few : number < 10 ^ 64) where
    small_count : (route : Route) → IsRoute t series route → route.count < 10 ^ 64
    small_count route is = omega (arith, is.bounded)

    their_nodes : (route : Route) → IsRoute t series route → All (λ node. node < length t.platform.nodes) (nodes_on t route.links route.end)
    their_nodes route is = nodes_exist route.links route.end is.walk (end_exists t series route timed is)

    -- a line has its words, and words have their line
    pub route_line_words : (text : List ℕ) (route : Route) → IsRouteLine t series number text route → AreRouteWords t series number (words_of text) route
    route_line_words text route line =
        record { are_words = ap words_of line.is_line ∙ route_words_of t timed number route few (small_count route line.is_route) (their_nodes route line.is_route); is_route = line.is_route }

    pub route_words_line : (text : List ℕ) (route : Route) → AreRouteWords t series number (words_of text) route → IsRouteLine t series number text route
    route_words_line text route are =
        record { is_line = sym (words_join text) ∙ ap (join_with_byte 32) are.are_words ∙ sym (route_joined t number route); is_route = are.is_route }

    module _ (words : List (List ℕ)) where
      named_words : (route : Route) → AreRouteWords t series number words route →
          words ≡ codes "route" ∷ (decimal number ∷ (decimal route.count ∷ (name_of t (first_node t route.links route.end) ∷ names_behind t route.links route.end)))
      named_words route are = are.are_words ∙ ap (λ ns. codes "route" ∷ (decimal number ∷ (decimal route.count ∷ ns))) (names_on t route.links route.end)

      -- a route tells its head
      pub route_has_head : (route : Route) → AreRouteWords t series number words route → IsRouteHead t number words route.count (first_node t route.links route.end) (names_behind t route.links route.end)
      route_has_head route are = record {
        name = name_of t (first_node t route.links route.end);
        are_words = named_words route are;
        bounded = are.is_route.bounded;
        named = record { exists = start_exists route.links route.end are.is_route.walk (end_exists t series route timed are.is_route); named = refl };
      }

      -- a head tells its route's count, and with the other names the walk
      pub head_tells : (count start : ℕ) (others : List (List ℕ)) → IsRouteHead t number words count start others → (route : Route) → AreRouteWords t series number words route →
          (count ≡ route.count) × IsNamedWalk t start others route.links route.end
      head_tells count start others head route are =
          let same = rest_same (rest_same (sym head.are_words ∙ named_words route are)) in
          let begins : first_node t route.links route.end ≡ start = named_unique t timed head.name _ start (record { exists = (route_has_head route are).named.exists; named = sym (first_same (rest_same same)) }) head.named in (
            decimal_unique count route.count (omega (arith, head.bounded)) (small_count route are.is_route) (first_same same),
            subst (λ at. IsNamedWalk t at others route.links route.end) begins (subst (λ ns. IsNamedWalk t (first_node t route.links route.end) ns route.links route.end) (sym (rest_same (rest_same same))) (walk_named t route.links route.end are.is_route.walk)),
          )

      pub route_kind : (route : Route) → IsRoute t series route → IsKind t series route.end route.kind
      route_kind route is = of series is.ending
        where
          of : (series : Series) → EndsWell t series route → IsKind t series route.end route.kind
          of Tasking ends = ends.0
          of Scatter ends = ends

      -- the route that words tell is the only one
      pub route_told : (count start : ℕ) (others : List (List ℕ)) (links : List ℕ) (end kind : ℕ) → IsRouteHead t number words count start others → IsNamedWalk t start others links end → IsKind t series end kind →
          (route : Route) → AreRouteWords t series number words route → route ≡ record { links = links; end = end; count = count; kind = kind }
      route_told count start others links end kind head walk is_kind route are =
          let told = head_tells count start others head route are in
          let same = walk_unique t timed start others route.links links route.end end told.1 walk in
          let kinds : route.kind ≡ kind = kind_unique t timed series end route.kind kind (subst (λ e. IsKind t series e route.kind) same.1 (route_kind route are.is_route)) is_kind in
          made same.0 same.1 (sym told.0) kinds
        where
          of : List ℕ → ℕ → ℕ → ℕ → Route
          of links end count kind = record { links = links; end = end; count = count; kind = kind }

          made : {ls ms : List ℕ} {e f c d k l : ℕ} → ls ≡ ms → e ≡ f → c ≡ d → k ≡ l → of ls e c k ≡ of ms f d l
          made g h i j = cc

      -- no route where the names tell no walk, or its end has no kind
      pub route_unwalked : (count start : ℕ) (others : List (List ℕ)) → IsRouteHead t number words count start others → ((links : List ℕ) (end : ℕ) → IsNamedWalk t start others links end → ⊥) →
          (route : Route) → AreRouteWords t series number words route → ⊥
      route_unwalked count start others head none route are = none route.links route.end (head_tells count start others head route are).1

      pub route_unkind : (count start : ℕ) (others : List (List ℕ)) (links : List ℕ) (end : ℕ) → IsRouteHead t number words count start others → IsNamedWalk t start others links end → ((kind : ℕ) → IsKind t series end kind → ⊥) →
          (route : Route) → AreRouteWords t series number words route → ⊥
      route_unkind count start others links end head walk none route are =
          let same = walk_unique t timed start others route.links links route.end end (head_tells count start others head route are).1 walk in
          none route.kind (subst (λ e. IsKind t series e route.kind) same.1 (route_kind route are.is_route))

      -- a route of what was read has these words
      pub route_read : (start : ℕ) (others : List (List ℕ)) (route : Route) → IsRouteHead t number words route.count start others → IsNamedWalk t start others route.links route.end → IsRoute t series route →
          AreRouteWords t series number words route
      route_read start others route head walk is_route =
          let ends = named_walk t start others route.links route.end walk in
          let names : head.name ∷ others ≡ name_of t (first_node t route.links route.end) ∷ names_behind t route.links route.end = ap₂ (λ x xs. x ∷ xs) (sym head.named.named ∙ ap (name_of t) (sym ends.0)) (sym ends.1) in
          record {
            are_words = head.are_words ∙ ap (λ ns. codes "route" ∷ (decimal number ∷ (decimal route.count ∷ ns))) (names ∙ sym (names_on t route.links route.end));
            is_route = is_route;
          }

    pub route_unique : (text : List ℕ) (first second : Route) → IsRouteLine t series number text first → IsRouteLine t series number text second → first ≡ second
    route_unique text first second line other =
        let are = route_line_words text first line in
        sym (route_told (words_of text) first.count (first_node t first.links first.end) (names_behind t first.links first.end) first.links first.end first.kind (route_has_head (words_of text) first are)
        (walk_named t first.links first.end line.is_route.walk) (route_kind (words_of text) first line.is_route) second (route_line_words text second other))

-- pieces by their words
pieces_small : (words : List (List ℕ)) (pieces : List Piece) → ArePieceWords words pieces → All IsSmallPiece pieces
pieces_small [] [] are = All-nil IsSmallPiece
pieces_small [] (piece ∷ pieces) are = absurd are
pieces_small (word ∷ words) [] are = absurd are
pieces_small (word ∷ words) (piece ∷ pieces) are = All-cons IsSmallPiece piece pieces (omega (arith, are.0.first_bounded), omega (arith, are.0.second_bounded)) (pieces_small words pieces are.1)

pub pieces_words : (words : List (List ℕ)) (pieces : List Piece) → ArePieceWords words pieces → words ≡ map piece_text pieces
pieces_words [] [] are = refl
pieces_words [] (piece ∷ pieces) are = absurd are
pieces_words (word ∷ words) [] are = absurd are
pieces_words (word ∷ words) (piece ∷ pieces) are = ap₂ (λ x xs. x ∷ xs) are.0.is_text (pieces_words words pieces are.1)

pieces_told : (words : List (List ℕ)) (pieces others : List Piece) → ArePieceWords words pieces → ArePieceWords words others → pieces ≡ others
pieces_told [] [] [] are also = refl
pieces_told [] [] (p ∷ others) are also = absurd also
pieces_told [] (p ∷ pieces) others are also = absurd are
pieces_told (word ∷ words) [] others are also = absurd are
pieces_told (word ∷ words) (p ∷ pieces) [] are also = absurd also
pieces_told (word ∷ words) (p ∷ pieces) (q ∷ others) are also =
    let same = pair_unique 58 (2 ^ 32 - 1) (2 ^ 100) (inr (omega arith)) (omega arith) (omega arith) word p.lane p.count q.lane q.count are.0 also.0 in
    ap₂ (λ x xs. x ∷ xs) (ap₂ made same.0 same.1) (pieces_told words pieces others are.1 also.1)
  where
    made : ℕ → ℕ → Piece
    made lane count = record { lane = lane; count = count }

-- the pieces of a slot have such words
are_words : (lanes : List LaneAt) (pieces : List Piece) → All (IsPiece lanes) pieces → All (λ piece. piece.lane < 2 ^ 32) pieces → ArePieceWords (map piece_text pieces) pieces
are_words lanes [] all small = tt
are_words lanes (piece ∷ pieces) all small =
    let here = All-head (IsPiece lanes) piece pieces all in
    let lane = All-head (λ piece. piece.lane < 2 ^ 32) piece pieces small in
    (record { is_text = refl; first_bounded = omega (arith, lane); second_bounded = here.bounded }, are_words lanes pieces (All-tail (IsPiece lanes) piece pieces all) (All-tail (λ piece. piece.lane < 2 ^ 32) piece pieces small))

pub words_lanes : (words : List (List ℕ)) (pieces : List Piece) → ArePieceWords words pieces → All (λ piece. piece.lane < 2 ^ 32) pieces
words_lanes [] [] are = All-nil (λ piece. piece.lane < 2 ^ 32)
words_lanes [] (piece ∷ pieces) are = absurd are
words_lanes (word ∷ words) [] are = absurd are
words_lanes (word ∷ words) (piece ∷ pieces) are = All-cons (λ piece. piece.lane < 2 ^ 32) piece pieces (omega (arith, are.0.first_bounded)) (words_lanes words pieces are.1)

module _ (lanes : List LaneAt) where
  slot_pieces : (slot : Slot) → IsSlot lanes slot → HasLanes32 slot → ArePieceWords (map piece_text slot.pieces) slot.pieces
  slot_pieces slot is small = are_words lanes slot.pieces is.pieces small

  -- a line has its words, and words have their line
  pub slot_line_words : (text : List ℕ) (slot : Slot) → IsSlotLine lanes text slot → AreSlotWords lanes (words_of text) slot
  slot_line_words text slot line = record {
    are_words = ap words_of line.is_line ∙ slot_words_of slot (omega (arith, line.short)) (pieces_small (map piece_text slot.pieces) slot.pieces (slot_pieces slot line.is_slot line.lanes32));
    is_slot = line.is_slot;
    short = line.short;
    lanes32 = line.lanes32;
  }

  pub slot_words_line : (text : List ℕ) (slot : Slot) → AreSlotWords lanes (words_of text) slot → IsSlotLine lanes text slot
  slot_words_line text slot are = record {
    is_line = sym (words_join text) ∙ ap (join_with_byte 32) are.are_words ∙ sym (slot_joined slot);
    is_slot = are.is_slot;
    short = are.short;
    lanes32 = are.lanes32;
  }

  module _ (words : List (List ℕ)) where
    pub slot_numbered : (slot : Slot) → AreSlotWords lanes words slot → IsNumbered (codes "slot") words slot.duration (map piece_text slot.pieces)
    slot_numbered slot are = record { are_words = are.are_words; bounded = omega (arith, are.short) }

    module _ (duration : ℕ) (others : List (List ℕ)) (is : words ≡ codes "slot" ∷ (decimal duration ∷ others)) (small : duration ≤ 2 ^ 107) where
      pub slot_tells : (slot : Slot) → AreSlotWords lanes words slot → (duration ≡ slot.duration) × ArePieceWords others slot.pieces
      slot_tells slot are =
          let same = rest_same (sym is ∙ are.are_words) in (
            decimal_unique duration slot.duration (omega (arith, small)) (omega (arith, are.short)) (first_same same),
            subst (λ ws. ArePieceWords ws slot.pieces) (sym (rest_same same)) (slot_pieces slot are.is_slot are.lanes32),
          )

      pub slot_too_long : 2 ^ 100 < duration → (slot : Slot) → AreSlotWords lanes words slot → ⊥
      slot_too_long long slot are = omega (arith, long, are.short, (slot_tells slot are).0)

      pub slot_unread : ((pieces : List Piece) → ArePieceWords others pieces → ⊥) → (slot : Slot) → AreSlotWords lanes words slot → ⊥
      slot_unread none slot are = none slot.pieces (slot_tells slot are).1

      pub slot_told : (pieces : List Piece) → ArePieceWords others pieces → (slot : Slot) → AreSlotWords lanes words slot → slot ≡ record { duration = duration; pieces = pieces }
      slot_told pieces are slot line =
          let told = slot_tells slot line in
          made (sym told.0) (pieces_told others slot.pieces pieces told.1 are)
        where
          of : ℕ → List Piece → Slot
          of duration pieces = record { duration = duration; pieces = pieces }

          made : {a b : ℕ} {ps qs : List Piece} → a ≡ b → ps ≡ qs → of a ps ≡ of b qs
          made e f = cc

      pub slot_read : (pieces : List Piece) → ArePieceWords others pieces → duration ≤ 2 ^ 100 → IsSlot lanes (record { duration = duration; pieces = pieces }) → AreSlotWords lanes words (record { duration = duration; pieces = pieces })
      slot_read pieces are short is_slot = record {
        are_words = is ∙ ap (λ ws. codes "slot" ∷ (decimal duration ∷ ws)) (pieces_words others pieces are);
        is_slot = is_slot;
        short = short;
        lanes32 = words_lanes others pieces are;
      }

  pub slot_unique : (text : List ℕ) (first second : Slot) → IsSlotLine lanes text first → IsSlotLine lanes text second → first ≡ second
  slot_unique text first second line other =
      let are = slot_line_words text first line in
      sym (slot_told (words_of text) first.duration (map piece_text first.pieces) are.are_words (omega (arith, line.short)) first.pieces (slot_pieces first line.is_slot line.lanes32) second (slot_line_words text second other))
