-- What a part leaves, and what all parts together do.
use Rattle.std.proofs.Common.{◌≡◌, ℕ, zero, suc, ◌+◌, ◌-◌, ◌<◌, ◌≤◌, ◌≢◌, ◌⊎◌, inl, inr, Bool, true, false, cond, nat_eq, nat_lt, Some, None, List, [], ◌∷◌, length, get_or, sum_by, All, arith, refl, sym, ◌∙◌, ap, subst}
use Rattle.std.specs.List.{list_any, slice_get}
use Rattle.std.proofs.lemmas.Bool.{cases_eq, eq-eqb, ne_eqb, eqb-true}
use Rattle.std.proofs.lemmas.Bool.Decides.{nat_tests}
use Rattle.std.proofs.lemmas.List.Elements.{All-nil, All-cons}
use Rattle.std.proofs.lemmas.List.Sums.{sum_by-cons}
use Rattle.bipartite_slots.specs.Sums.{sum_below}
use Rattle.bipartite_slots.specs.Squares.{HasSums, HasEqualSums}
use Rattle.bipartite_slots.specs.Matchings.{IsPerfectMatching}
use Rattle.std.specs.List.Sorted.{IsStrictlyIncreasing}
use Rattle.bipartite_slots.specs.Parts.{lowered, IsLeastCell, edges_from, AreChosen, is_in, SharesNothing, AreApart}
use Rattle.bipartite_slots.specs.declared.weights.Edge.{Edge}
use Rattle.bipartite_slots.specs.declared.weights.SlotPart.{SlotPart}
use Rattle.bipartite_slots.proofs.Positives.{IsWithin, positives}
use Rattle.bipartite_slots.proofs.Sums.{sum_same, sum_at_most, sum_added, sum_less, term_at_most}
use Rattle.bipartite_slots.proofs.Marks.{marks, marked_here, marked_elsewhere, marks_in_row, marks_in_column}

pub sums_equal : (size : ℕ) (cells : ℕ → ℕ → ℕ) (total : ℕ) → 0 < total → HasSums size cells total → HasEqualSums size cells
sums_equal size cells total some sums = record { total = total; some = some; sums = sums }

module _ (size : ℕ) (cells : ℕ → ℕ → ℕ) (columns : List ℕ) (by : ℕ) where
  pub lowered_here : (row column : ℕ) → get_or columns row 0 ≡ column → lowered cells columns by row column ≡ cells row column - by
  unfolding lowered
  lowered_here row column e = ap (λ b. cond {A = ℕ} b (cells row column - by) (cells row column)) (eq-eqb (get_or columns row 0) column e)

  pub lowered_elsewhere : (row column : ℕ) → get_or columns row 0 ≢ column → lowered cells columns by row column ≡ cells row column
  unfolding lowered
  lowered_elsewhere row column ne = ap (λ b. cond {A = ℕ} b (cells row column - by) (cells row column)) (ne_eqb (get_or columns row 0) column ne)

  -- no cell has become greater
  pub lowered_at_most : (row column : ℕ) → lowered cells columns by row column ≤ cells row column
  lowered_at_most row column =
      elim (cases_eq (get_or columns row 0) column) [
        | inl e ↦ omega (arith, lowered_here row column e)
        | inr ne ↦ omega (arith, lowered_elsewhere row column ne)
      ]

  pub lowered_within : IsWithin size cells → IsWithin size (lowered cells columns by)
  lowered_within w = record {
    row = λ i j p. w.row i j (more _ _ p (lowered_at_most i j));
    column = λ i j p. w.column i j (more _ _ p (lowered_at_most i j));
  }
    where
      more : (a b : ℕ) → 0 < a → a ≤ b → 0 < b
      more a b p q = omega arith

  -- a cell is what is left and what it has lost
  left_and_lost : ((row : ℕ) → row < size → by ≤ cells row (get_or columns row 0)) → (row column : ℕ) → row < size →
      cells row column ≡ lowered cells columns by row column + marks by columns row column
  left_and_lost least row column l =
      elim (cases_eq (get_or columns row 0) column) [
        | inl e ↦ here _ _ _ _ (lowered_here row column e) (marked_here by columns row column e) (subst (λ c. by ≤ cells row c) e (least row l))
        | inr ne ↦ elsewhere _ _ _ (lowered_elsewhere row column ne) (marked_elsewhere by columns row column ne)
      ]
    where
      here : (a b c d : ℕ) → b ≡ a - d → c ≡ d → d ≤ a → a ≡ b + c
      here a b c d p q r = omega arith

      elsewhere : (a b c : ℕ) → b ≡ a → c ≡ 0 → a ≡ b + c
      elsewhere a b c p q = omega arith

  module _ (within : IsWithin size cells) (perfect : IsPerfectMatching size cells columns) (least : IsLeastCell size cells columns by) where
    pub lowered_sums : (total : ℕ) → HasSums size cells total → HasSums size (lowered cells columns by) (total - by)
    lowered_sums total sums = record {
      rows = λ row l.
          less _ _ _ _ (sums.rows row l)
          (sum_same size (cells row) (λ column. lowered cells columns by row column + marks by columns row column) (λ column k. left_and_lost least.at_most row column l))
          (sum_added size (lowered cells columns by row) (marks by columns row))
          (marks_in_row size by cells columns within.column perfect row l);
      columns = λ column l.
          less _ _ _ _ (sums.columns column l)
          (sum_same size (λ row. cells row column) (λ row. lowered cells columns by row column + marks by columns row column) (λ row k. left_and_lost least.at_most row column k))
          (sum_added size (λ row. lowered cells columns by row column) (λ row. marks by columns row column))
          (marks_in_column size by cells columns within.column perfect column l);
    }
      where
        less : (all both rest lost : ℕ) → {total : ℕ} → all ≡ total → all ≡ both → both ≡ rest + lost → lost ≡ by → rest ≡ total - by
        less all both rest lost p q r s = omega arith

    pub least_at_most : (total : ℕ) → HasSums size cells total → by ≤ total
    least_at_most total sums =
        at_most _ _ _ least.reached (term_at_most size (get_or columns least.at 0) (cells least.at) (within.column least.at (get_or columns least.at 0) (perfect.positive least.at least.inside)))
        (sums.rows least.at least.inside)
      where
        at_most : (a b : ℕ) → {total : ℕ} → (sum : ℕ) → a ≡ b → a ≤ sum → sum ≡ total → b ≤ total
        at_most a b sum p q r = omega arith

    pub least_some : 1 ≤ by
    least_some = subst (λ x. 0 < x) least.reached (perfect.positive least.at least.inside)

    -- a positive cell is lost
    pub positives_fewer : positives size (lowered cells columns by) < positives size cells
    unfolding positives
    positives_fewer =
        sum_less size least.at (λ row. sum_below size (λ column. cond (nat_lt 0 (lowered cells columns by row column)) 1 0))
        (λ row. sum_below size (λ column. cond (nat_lt 0 (cells row column)) 1 0))
        (λ row l. sum_at_most size (λ column. cond (nat_lt 0 (lowered cells columns by row column)) 1 0) (λ column. cond (nat_lt 0 (cells row column)) 1 0)
        (λ column k. fewer _ _ (lowered_at_most row column)))
        least.inside
        (sum_less size (get_or columns least.at 0) (λ column. cond (nat_lt 0 (lowered cells columns by least.at column)) 1 0) (λ column. cond (nat_lt 0 (cells least.at column)) 1 0)
        (λ column k. fewer _ _ (lowered_at_most least.at column))
        (within.column least.at (get_or columns least.at 0) (perfect.positive least.at least.inside))
        (lost _ _ (lowered_here least.at (get_or columns least.at 0) refl) least.reached (perfect.positive least.at least.inside)))
      where
        fewer : (a b : ℕ) → a ≤ b → cond {A = ℕ} (nat_lt 0 a) 1 0 ≤ cond (nat_lt 0 b) 1 0
        fewer a b h = grind (arith, nat_tests)

        lost : (a b : ℕ) → b ≡ a - by → a ≡ by → 0 < a → cond {A = ℕ} (nat_lt 0 b) 1 0 < cond (nat_lt 0 a) 1 0
        lost a b p q r = grind (arith, nat_tests)

some_edge : (a b : Edge) → Some a ≡ Some b → a ≡ b
some_edge a b e = cc

no_edge : (a : Edge) → None ≡ Some a → ⊥
no_edge a e = cc

module _ (columns : List ℕ) where
  -- no number stands before the first
  not_before : (edge number : ℕ) (es : List Edge) → edge < number → list_any (nat_eq edge) (edges_from number es columns) ≡ false
  not_before edge number [] l = refl
  not_before edge number (x ∷ xs) l = go (nat_eq (get_or columns x.from 0) x.to) (not_before edge (suc number) xs (omega arith))
    where
      apart : edge ≡ number → ⊥
      apart e = omega arith

      go : (b : Bool) → list_any (nat_eq edge) (edges_from (suc number) xs columns) ≡ false →
          list_any (nat_eq edge) (cond b (number ∷ edges_from (suc number) xs columns) (edges_from (suc number) xs columns)) ≡ false
      go true later = rw (ne_eqb edge number apart) later
      go false later = later

  -- an edge is among the edges of a matching exactly where the matching joins its ends
  pub in_edges : (number edge : ℕ) (es : List Edge) (e : Edge) → slice_get es edge ≡ Some e →
      list_any (nat_eq (number + edge)) (edges_from number es columns) ≡ nat_eq (get_or columns e.from 0) e.to
  in_edges number edge [] e at = absurd (no_edge e at)
  in_edges number zero (x ∷ xs) e at =
      go (nat_eq (get_or columns x.from 0) x.to) ∙ ap (λ (y : Edge). nat_eq (get_or columns y.from 0) y.to) (some_edge x e at)
    where
      go : (b : Bool) → list_any (nat_eq (number + zero)) (cond b (number ∷ edges_from (suc number) xs columns) (edges_from (suc number) xs columns)) ≡ b
      go true = rw (eq-eqb (number + zero) number (omega arith)) refl
      go false = not_before (number + zero) (suc number) xs (omega arith)
  in_edges number (suc edge) (x ∷ xs) e at =
      go (nat_eq (get_or columns x.from 0) x.to)
      ∙ ap (λ k. list_any (nat_eq k) (edges_from (suc number) xs columns)) (moved number edge) ∙ in_edges (suc number) edge xs e at
    where
      moved : (a b : ℕ) → a + suc b ≡ suc a + b
      moved a b = omega arith

      apart : number + suc edge ≡ number → ⊥
      apart q = omega arith

      go : (b : Bool) → list_any (nat_eq (number + suc edge)) (cond b (number ∷ edges_from (suc number) xs columns) (edges_from (suc number) xs columns))
          ≡ list_any (nat_eq (number + suc edge)) (edges_from (suc number) xs columns)
      go true = rw (ne_eqb (number + suc edge) number apart) refl
      go false = refl

-- an edge is in a part exactly where the part's matching joins its ends
-- numbers in ascending order, with one before them
ascends : (x : ℕ) (xs : List ℕ) → All (λ y. x < y) xs → IsStrictlyIncreasing xs → IsStrictlyIncreasing (x ∷ xs)
ascends x xs above rest zero h = above 0 0 (omega arith)
ascends x xs above rest (suc k) h =
    let next : suc k + 1 ≡ suc (k + 1) = omega arith in
    rw next (rest k (omega arith))

-- a part's edges exist, each once and in ascending order
pub record AreNumbered (number count : ℕ) (numbers : List ℕ) : Type 0 where
  pub from : All (λ edge. number ≤ edge) numbers
  pub below : All (λ edge. edge < number + count) numbers
  pub ascending : IsStrictlyIncreasing numbers

pub numbered : (columns : List ℕ) (number : ℕ) (es : List Edge) → AreNumbered number (length es) (edges_from number es columns)
numbered columns number [] = record { from = All-nil (λ edge. number ≤ edge); below = All-nil (λ edge. edge < number + 0); ascending = λ k h. absurd (omega arith) }
numbered columns number (e ∷ es) = go (nat_eq (get_or columns e.from 0) e.to) (numbered columns (suc number) es)
  where
    go : (b : Bool) → AreNumbered (suc number) (length es) (edges_from (suc number) es columns) →
        AreNumbered number (suc (length es)) (cond b (number ∷ edges_from (suc number) es columns) (edges_from (suc number) es columns))
    go true rest = record {
      from = All-cons (λ edge. number ≤ edge) number _ (omega arith) (λ k d l. let more = rest.from k d l in omega (arith, more));
      below = All-cons (λ edge. edge < number + suc (length es)) number _ (omega arith) (λ k d l. let more = rest.below k d l in omega (arith, more));
      ascending = ascends number _ (λ k d l. let more = rest.from k d l in omega (arith, more)) rest.ascending;
    }
    go false rest = record {
      from = λ k d l. let more = rest.from k d l in omega (arith, more);
      below = λ k d l. let more = rest.below k d l in omega (arith, more);
      ascending = rest.ascending;
    }

pub is_in_part : (edges : List Edge) (part : SlotPart) (columns : List ℕ) (edge : ℕ) (e : Edge) → part.edges ≡ edges_from 0 edges columns → slice_get edges edge ≡ Some e →
    is_in edge part ≡ nat_eq (get_or columns e.from 0) e.to
is_in_part edges part columns edge e same at =
    ap (list_any (nat_eq edge)) same ∙ ap (λ k. list_any (nat_eq k) (edges_from 0 edges columns)) (first edge) ∙ in_edges columns 0 edge edges e at
  where
    first : (k : ℕ) → k ≡ 0 + k
    first k = omega arith

module _ (size : ℕ) (edges : List Edge) (exist : (edge : ℕ) (e : Edge) → slice_get edges edge ≡ Some e → (e.from < size) × (e.to < size)) (apart : AreApart edges) where
  -- what chosen parts do with the matrix that they begin with
  pub record AreSplit (cells : ℕ → ℕ → ℕ) (left : ℕ) (parts : List SlotPart) : Type 0 where
    pub within_edges : All (λ part. All (λ edge. edge < length edges) part.edges) parts
    pub ascending : All (λ part. IsStrictlyIncreasing part.edges) parts
    pub separate : All (SharesNothing edges) parts
    pub lasting : All (λ part. 1 ≤ part.duration) parts
    pub whole : sum_by (λ part. part.duration) parts ≡ left
    pub served : (edge : ℕ) (e : Edge) → slice_get edges edge ≡ Some e → sum_by (λ part. cond (is_in edge part) part.duration 0) parts ≡ cells e.from e.to
    pub few : length parts ≤ positives size cells

  part_exists : (part : SlotPart) (columns : List ℕ) → part.edges ≡ edges_from 0 edges columns → All (λ edge. edge < length edges) part.edges
  part_exists part columns same = rw same (λ k d l. let below = (numbered columns 0 edges).below k d l in omega (arith, below))

  part_ascends : (part : SlotPart) (columns : List ℕ) → part.edges ≡ edges_from 0 edges columns → IsStrictlyIncreasing part.edges
  part_ascends part columns same = rw same (numbered columns 0 edges).ascending

  shares_nothing : (cells : ℕ → ℕ → ℕ) (part : SlotPart) (columns : List ℕ) → part.edges ≡ edges_from 0 edges columns → IsPerfectMatching size cells columns → SharesNothing edges part
  shares_nothing cells part columns same perfect first second one other at also here there clash =
      go (eqb-true (get_or columns one.from 0) one.to (sym (is_in_part edges part columns first one same at) ∙ here))
      (eqb-true (get_or columns other.from 0) other.to (sym (is_in_part edges part columns second other same also) ∙ there)) clash
    where
      go : get_or columns one.from 0 ≡ one.to → get_or columns other.from 0 ≡ other.to → (one.from ≡ other.from) ⊎ (one.to ≡ other.to) → first ≡ second
      go e f (inl g) = apart first second one other at also g (sym e ∙ ap (λ row. get_or columns row 0) g ∙ f)
      go e f (inr g) = apart first second one other at also (perfect.differ one.from other.from (exist first one at).0 (exist second other also).0 (e ∙ g ∙ sym f)) g

  pub split : (cells : ℕ → ℕ → ℕ) (left : ℕ) (parts : List SlotPart) → IsWithin size cells → HasSums size cells left → AreChosen size edges cells left parts → AreSplit cells left parts
  split cells left [] within sums none = record {
    within_edges = All-nil (λ (part : SlotPart). All (λ edge. edge < length edges) part.edges);
    ascending = All-nil (λ (part : SlotPart). IsStrictlyIncreasing part.edges);
    separate = All-nil (SharesNothing edges);
    lasting = All-nil (λ (part : SlotPart). 1 ≤ part.duration);
    whole = sym none;
    served = λ edge e at. nothing _ _ (term_at_most size e.to (cells e.from) (exist edge e at).1) (sums.rows e.from (exist edge e at).0) none;
    few = omega arith;
  }
    where
      nothing : (a b : ℕ) → {left : ℕ} → a ≤ b → b ≡ left → left ≡ 0 → 0 ≡ a
      nothing a b p q r = omega arith
  split cells left (part ∷ parts) within sums (columns, chosen, least, same, rest) =
      let perfect = chosen.perfect in
      let later = split (lowered cells columns part.duration) (left - part.duration) parts (lowered_within size cells columns part.duration within)
      (lowered_sums size cells columns part.duration within perfect least left sums) rest in
      record {
        within_edges = All-cons (λ (part : SlotPart). All (λ edge. edge < length edges) part.edges) part parts (part_exists part columns same) later.within_edges;
        ascending = All-cons (λ (part : SlotPart). IsStrictlyIncreasing part.edges) part parts (part_ascends part columns same) later.ascending;
        separate = All-cons (SharesNothing edges) part parts (shares_nothing cells part columns same perfect) later.separate;
        lasting = All-cons (λ (part : SlotPart). 1 ≤ part.duration) part parts (least_some size cells columns part.duration within perfect least) later.lasting;
        whole = together _ _ _ (sum_by-cons (λ (part : SlotPart). part.duration) part parts) later.whole (least_at_most size cells columns part.duration within perfect least left sums);
        served = λ edge e at. both _ _ _ _ _ (sum_by-cons (λ (part : SlotPart). cond (is_in edge part) part.duration 0) part parts) (later.served edge e at)
            (ap (λ b. cond b part.duration 0) (is_in_part edges part columns edge e same at))
            (left_and_lost size cells columns part.duration least.at_most e.from e.to (exist edge e at).0);
        few = more _ _ _ later.few (positives_fewer size cells columns part.duration within perfect least);
      }
    where
      together : (all here rest : ℕ) → {left : ℕ} → all ≡ here + rest → rest ≡ left - here → here ≤ left → all ≡ left
      together all here rest p q r = omega arith

      both : (all here rest mark now : ℕ) → {cell : ℕ} → all ≡ here + rest → rest ≡ now → here ≡ mark → cell ≡ now + mark → all ≡ cell
      both all here rest mark now p q r s = omega arith

      more : (a b c : ℕ) → a ≤ b → b < c → suc a ≤ c
      more a b c p q = omega arith
