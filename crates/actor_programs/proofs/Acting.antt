-- The actors of a table: each is there once, and what there is to do is done by one of them.
use Rattle.std.proofs.Common.{◌≡◌, ℕ, zero, suc, ◌+◌, ◌-◌, ◌<◌, ◌≤◌, ◌⊎◌, ◌&&◌, Bool, true, false, cond, nat_eq, nat_le, List, [], ◌∷◌, ◌++◌, length, map, filter, sym, refl, ap, ◌∙◌, inl, inr, ⊎_elim, arith, Some, None, slice_get, slice_index_or, add-zero}
use Rattle.std.specs.List.{list_any, AllPairs, range_with_len}
use Rattle.std.proofs.lemmas.Bool.{cases_eq, cases_order, eqb-true, leb-true, and_parts, or_left, or_right, eq-eqb, le-leb, and_from, false≢true}
use Rattle.std.proofs.lemmas.List.Elements.{All-get_or}
use Rattle.std.proofs.lemmas.List.Kept.{AllPairs-filter}
use Rattle.std.proofs.lemmas.Option.{slice_get_within, get_or_from_slice_get}
use Rattle.platform_file.specs.Ticks.{TimedView, IsTimed}
use Rattle.schedule_model.specs.declared.schedule.Series.TheVariants.{Tasking}
use Rattle.period_table.specs.declared.table.Table.{Table}
use Rattle.period_table.specs.Lanes.{LaneAt, lanes_of, lane_at}
use Rattle.period_table.specs.Tables.{Fits}
use Rattle.period_table.proofs.FittingTables.{links_exist, ends_exist}
use Rattle.actor_programs.specs.Programs.{actors_of, each_numbered}
use Rattle.actor_programs.specs.declared.actor.Actor.TheVariants.{Sender, Consumer}
use Rattle.actor_programs.proofs.Numbers.{length-numbers}
use Rattle.actor_programs.proofs.LaneNumbers.{end_all, end_listed, GoesOn, next_lane}
use Rattle.actor_programs.proofs.Programs.{opens_over, takes_over}
use Rattle.actor_programs.specs.declared.actor.Actor.{Actor}
use Rattle.actor_programs.specs.Tasks.{end_at}

-- ---- what is numbered

-- the entry of an actor, or none
abbrev pub Entry : {X : Type 0} → (ℕ → Actor → X) → ℕ → List Actor → ℕ → X → Type 0
Entry make number actors a d =
    ((actor : Actor) × (slice_get actors a ≡ Some actor) × (slice_index_or (each_numbered make number actors) a d ≡ make (number + a) actor))
    ⊎ ((slice_get actors a ≡ None) × (slice_index_or (each_numbered make number actors) a d ≡ d))

pub entry : {X : Type 0} (make : ℕ → Actor → X) (number : ℕ) (actors : List Actor) (a : ℕ) (d : X) → Entry make number actors a d
entry make number [] a d = inr (refl, refl)
entry make number (actor ∷ actors) zero d = inl (actor, refl, ap (λ n. make n actor) (sym (add-zero number)))
entry make number (actor ∷ actors) (suc a) d = ⊎_elim
    (λ (e : (x : Actor) × (slice_get actors a ≡ Some x) × (slice_index_or (each_numbered make (number + 1) actors) a d ≡ make ((number + 1) + a) x)).
    let n : (number + 1) + a ≡ number + suc a = omega arith in inl (e.0, e.1, e.2 ∙ ap (λ k. make k e.0) n))
    (λ (e : (slice_get actors a ≡ None) × (slice_index_or (each_numbered make (number + 1) actors) a d ≡ d)). inr e)
    (entry make (number + 1) actors a d)

pub length-numbered : {X : Type 0} (make : ℕ → Actor → X) (number : ℕ) (actors : List Actor) → length (each_numbered make number actors) ≡ length actors
length-numbered make number [] = refl
length-numbered make number (actor ∷ actors) = ap suc (length-numbered make (number + 1) actors)

-- ---- each actor is there once

pub numbers_differ : (first n : ℕ) → AllPairs (λ x y. x < y) (range_with_len first n)
numbers_differ first n = λ i j d less l. omega (arith, less, at first n i d (omega (arith, less, l, length-numbers first n)), at first n j d (omega (arith, l, length-numbers first n)))
  where
    at : (first n i d : ℕ) → i < n → slice_index_or (range_with_len first n) i d ≡ first + i
    at first zero i d l = absurd (omega arith)
    at first (suc n) zero d l = sym (add-zero first)
    at first (suc n) (suc i) d l = let r = at (first + 1) n i d (omega arith) in omega (arith, r)

place_once : (xs : List ℕ) → AllPairs (λ x y. x < y) xs → (a b x : ℕ) → slice_get xs a ≡ Some x → slice_get xs b ≡ Some x → a ≡ b
place_once xs up a b x p q =
    let there = get_or_from_slice_get xs a x 0 p in
    let here = get_or_from_slice_get xs b x 0 q in
    ⊎_elim
    (λ (e : a ≡ b). e)
    (λ (o : (a < b) ⊎ (b < a)). ⊎_elim
    (λ (less : a < b). absurd (omega (arith, up a b 0 less (slice_get_within xs b x q), there, here)))
    (λ (more : b < a). absurd (omega (arith, up b a 0 more (slice_get_within xs a x p), there, here))) o)
    (cases_order a b)

-- senders come first
sender_there : (xs ys : List ℕ) (a link : ℕ) → slice_get (map Sender xs ++ map Consumer ys) a ≡ Some (Sender link) → slice_get xs a ≡ Some link
sender_there [] [] a link e = absurd (cc)
sender_there [] (y ∷ ys) zero link e = absurd (cc)
sender_there [] (y ∷ ys) (suc a) link e = sender_there [] ys a link e
sender_there (x ∷ xs) ys zero link e = cc
sender_there (x ∷ xs) ys (suc a) link e = sender_there xs ys a link e

consumer_there : (xs ys : List ℕ) (a node : ℕ) → slice_get (map Sender xs ++ map Consumer ys) a ≡ Some (Consumer node)
    → (length xs ≤ a) × (slice_get ys (a - length xs) ≡ Some node)
consumer_there [] ys a node e = (omega arith, last ys a (a - 0) (omega arith) e)
  where
    last : (ys : List ℕ) (a b : ℕ) → a ≡ b → slice_get (map Consumer ys) a ≡ Some (Consumer node) → slice_get ys b ≡ Some node
    last [] a b same e = absurd (cc)
    last (y ∷ ys) zero zero same e = cc
    last (y ∷ ys) zero (suc b) same e = absurd (omega (arith, same))
    last (y ∷ ys) (suc a) zero same e = absurd (omega (arith, same))
    last (y ∷ ys) (suc a) (suc b) same e = last ys a b (omega (arith, same)) e
consumer_there (x ∷ xs) ys zero node e = absurd (cc)
consumer_there (x ∷ xs) ys (suc a) node e =
    let r = consumer_there xs ys a node e in
    let n : suc a - suc (length xs) ≡ a - length xs = omega arith in
    (omega (arith, r.0), rw n r.1)

-- ---- each that is wanted is there

pub found : (first n : ℕ) (p : ℕ → Bool) (x : ℕ) → first ≤ x → x < first + n → p x ≡ true → (a : ℕ) × (slice_get (filter p (range_with_len first n)) a ≡ Some x)
found first zero p x le less passes = absurd (omega arith)
found first (suc n) p x le less passes = elim (cases_eq first x) [
  | inl same ↦ let here : p first ≡ true = ap p same ∙ passes in (0, rw here (ap Some same))
  | inr other ↦
      let r = found (first + 1) n p x (omega (arith, other)) (omega arith) passes in
      pick (p first) first (filter p (range_with_len (first + 1) n)) r.0 r.1
]
  where
    pick : (b : Bool) (y : ℕ) (ys : List ℕ) (a : ℕ) → slice_get ys a ≡ Some x → (c : ℕ) × (slice_get (cond b (y ∷ ys) ys) c ≡ Some x)
    pick true y ys a e = (suc a, e)
    pick false y ys a e = (a, e)

sender_at : (xs ys : List ℕ) (a link : ℕ) → slice_get xs a ≡ Some link → slice_get (map Sender xs ++ map Consumer ys) a ≡ Some (Sender link)
sender_at [] ys a link e = absurd (cc)
sender_at (x ∷ xs) ys zero link e = cc
sender_at (x ∷ xs) ys (suc a) link e = sender_at xs ys a link e

pub consumer_at : (xs ys : List ℕ) (a node : ℕ) → slice_get ys a ≡ Some node → (b : ℕ) × (slice_get (map Sender xs ++ map Consumer ys) b ≡ Some (Consumer node))
consumer_at [] [] a node e = absurd (cc)
consumer_at [] (y ∷ ys) zero node e = (0, cc)
consumer_at [] (y ∷ ys) (suc a) node e = let r = consumer_at [] ys a node e in (suc r.0, r.1)
consumer_at (x ∷ xs) ys a node e = let r = consumer_at xs ys a node e in (suc r.0, r.1)

pub listed : {X : Type 0} (p : X → Bool) (xs : List X) (i : ℕ) (d : X) → i < length xs → p (slice_index_or xs i d) ≡ true → list_any p xs ≡ true
listed p [] i d l e = absurd (omega arith)
listed p (x ∷ xs) zero d l e = or_left (p x) (list_any p xs) e
listed p (x ∷ xs) (suc i) d l e = or_right (p x) (list_any p xs) (listed p xs i d (omega arith) e)

-- a lane isn't the first of its route and one past the last
apart : (hop : ℕ) (b c : Bool) → (nat_le 1 hop && b) ≡ true → (nat_eq hop 0 && c) ≡ true → ⊥
apart hop b c p q = let some = leb-true 1 hop (and_parts (nat_le 1 hop) b p).0 in let zeroth = eqb-true hop 0 (and_parts (nat_eq hop 0) c q).0 in omega (arith, some, zeroth)

module _ (t : TimedView) (table : Table) where
  -- an actor's place is its own
  pub once : (a b : ℕ) (actor : Actor) → slice_get (actors_of t table) a ≡ Some actor → slice_get (actors_of t table) b ≡ Some actor → a ≡ b
  once a b (Sender link) p q =
      let links = filter (λ link. list_any (λ lane. nat_eq lane.link link) (lanes_of table.routes)) (range_with_len 0 (length t.platform.links)) in
      let nodes = filter (λ node. list_any (λ route. nat_eq route.end node) table.routes) (range_with_len 0 (length t.platform.nodes)) in
      place_once links (AllPairs-filter (λ x y. x < y) _ (range_with_len 0 (length t.platform.links)) (numbers_differ 0 (length t.platform.links)))
      a b link (sender_there links nodes a link p) (sender_there links nodes b link q)
  once a b (Consumer node) p q =
      let links = filter (λ link. list_any (λ lane. nat_eq lane.link link) (lanes_of table.routes)) (range_with_len 0 (length t.platform.links)) in
      let nodes = filter (λ node. list_any (λ route. nat_eq route.end node) table.routes) (range_with_len 0 (length t.platform.nodes)) in
      let r = consumer_there links nodes a node p in
      let s = consumer_there links nodes b node q in
      let e = place_once nodes (AllPairs-filter (λ x y. x < y) _ (range_with_len 0 (length t.platform.nodes)) (numbers_differ 0 (length t.platform.nodes)))
      (a - length links) (b - length links) node r.1 s.1 in
      omega (arith, r.0, s.0, e)

  pub one_opens : (k : ℕ) (x y : Actor) → opens_over table.routes k x ≡ true → opens_over table.routes k y ≡ true → x ≡ y
  one_opens k (Sender l) (Sender m) p q = ap Sender (sym (eqb-true _ l p) ∙ eqb-true _ m q)
  one_opens k (Sender l) (Consumer m) p q = absurd (false≢true q)
  one_opens k (Consumer l) y p q = absurd (false≢true p)

  pub one_takes : (k : ℕ) (x y : Actor) → takes_over table.routes k x ≡ true → takes_over table.routes k y ≡ true → x ≡ y
  one_takes k (Sender l) (Sender m) p q = ap Sender (sym (eqb-true _ l (and_parts _ _ p).1) ∙ eqb-true _ m (and_parts _ _ q).1)
  one_takes k (Sender l) (Consumer m) p q =
      absurd (apart (lane_at (lanes_of table.routes) (k + 1)).hop (nat_eq (lane_at (lanes_of table.routes) (k + 1)).link l) (nat_eq (end_at table.routes k) m) p q)
  one_takes k (Consumer l) (Sender m) p q =
      absurd (apart (lane_at (lanes_of table.routes) (k + 1)).hop (nat_eq (lane_at (lanes_of table.routes) (k + 1)).link m) (nat_eq (end_at table.routes k) l) q p)
  one_takes k (Consumer l) (Consumer m) p q = ap Consumer (sym (eqb-true _ l (and_parts _ _ p).1) ∙ eqb-true _ m (and_parts _ _ q).1)

  module _ (timed : IsTimed t) (fits : Fits t Tasking table) where
    -- the sender of a lane's link
    pub sender_of_lane : (k : ℕ) → k < length (lanes_of table.routes) → (a : ℕ) × (slice_get (actors_of t table) a ≡ Some (Sender (lane_at (lanes_of table.routes) k).link))
    sender_of_lane k l =
        let link = (lane_at (lanes_of table.routes) k).link in
        let exists : link < length t.platform.links =
        All-get_or (λ (lane : LaneAt). lane.link < length t.platform.links) (lanes_of table.routes) k (record { link = 0; hop = 0; kind = 0; count = 0 }) l (links_exist t Tasking table fits) in
        let place = found 0 (length t.platform.links) (λ link. list_any (λ lane. nat_eq lane.link link) (lanes_of table.routes)) link (omega arith) (omega (arith, exists))
        (listed (λ (lane : LaneAt). nat_eq lane.link link) (lanes_of table.routes) k (record { link = 0; hop = 0; kind = 0; count = 0 }) l (eq-eqb link link refl)) in
        (place.0, sender_at _ (filter (λ node. list_any (λ route. nat_eq route.end node) table.routes) (range_with_len 0 (length t.platform.nodes))) place.0 link place.1)

    pub opener : (k : ℕ) → k < length (lanes_of table.routes) → (a : ℕ) × (actor : Actor) × (slice_get (actors_of t table) a ≡ Some actor) × (opens_over table.routes k actor ≡ true)
    opener k l =
        let place = sender_of_lane k l in
        (place.0, Sender (lane_at (lanes_of table.routes) k).link, place.1, eq-eqb (lane_at (lanes_of table.routes) k).link (lane_at (lanes_of table.routes) k).link refl)

    pub taker : (k : ℕ) → k < length (lanes_of table.routes) → (a : ℕ) × (actor : Actor) × (slice_get (actors_of t table) a ≡ Some actor) × (takes_over table.routes k actor ≡ true)
    taker k l = ⊎_elim
        (λ (first : (lane_at (lanes_of table.routes) (k + 1)).hop ≡ 0).
        let node = end_at table.routes k in
        let exists : node < length t.platform.nodes = end_all (λ end. end < length t.platform.nodes) table.routes (ends_exist t timed table fits) k l in
        let place = found 0 (length t.platform.nodes) (λ node. list_any (λ route. nat_eq route.end node) table.routes) node (omega arith) (omega (arith, exists)) (end_listed table.routes k l) in
        let there = consumer_at (filter (λ link. list_any (λ lane. nat_eq lane.link link) (lanes_of table.routes)) (range_with_len 0 (length t.platform.links))) _ place.0 node place.1 in
        (there.0, Consumer node, there.1, and_from _ _ (eq-eqb _ 0 first) (eq-eqb node node refl)))
        (λ (on : GoesOn table.routes k).
        let place = sender_of_lane (k + 1) on.exists in (
          place.0,
          Sender (lane_at (lanes_of table.routes) (k + 1)).link,
          place.1,
          and_from _ _ (le-leb 1 (lane_at (lanes_of table.routes) (k + 1)).hop (omega (arith, on.hop))) (eq-eqb (lane_at (lanes_of table.routes) (k + 1)).link (lane_at (lanes_of table.routes) (k + 1)).link refl),
        ))
        (next_lane table.routes k)
