-- Part after part, until nothing is left.
use Rattle.std.proofs.Common.{◌≡◌, ℕ, ◌-◌, ◌*◌, ◌^◌, ◌<◌, ◌≤◌, Bool, Option, List, [], ◌∷◌, ◌++◌, length, Some, arith, refl, sym, ◌∙◌, subst}
use mathlib.Core.Path.{fun_ext}
use Rattle.std.specs.List.{slice_get}
use Rattle.std.proofs.Math.Nat.{pow-suc, pow-zero}
use Rattle.std.proofs.lemmas.List.{append_assoc}
use Rattle.bipartite_slots.specs.Squares.{SquareView, cell, HasSums}
use Rattle.bipartite_slots.specs.Columns.{AreListed}
use Rattle.bipartite_slots.specs.Searches.{IsMatching}
use Rattle.bipartite_slots.specs.Parts.{padded, lowered, AreChosen, AreParts, Exist, AreApart, AreWithin}
use Rattle.bipartite_slots.specs.Takings.{TakesPart}
use Rattle.bipartite_slots.specs.declared.weights.Edge.{Edge}
use Rattle.bipartite_slots.specs.declared.weights.Weights.{Weights}
use Rattle.bipartite_slots.specs.declared.weights.SlotPart.{SlotPart}
use Rattle.bipartite_slots.proofs.Cells.{cell_row, cell_column}
use Rattle.bipartite_slots.proofs.Positives.{IsWithin}
use Rattle.bipartite_slots.proofs.Edges.{all_exist, weight_is, positives_at_most}
use Rattle.bipartite_slots.proofs.Listing.{listed_after}
use Rattle.bipartite_slots.proofs.Padded.{padded_sums, padded_weights}
use Rattle.bipartite_slots.proofs.Parts.{lowered_sums, lowered_at_most, least_at_most, least_some, split}

pub same_cells : (a b : ℕ → ℕ → ℕ) → ((i j : ℕ) → a i j ≡ b i j) → a ≡ b
same_cells a b h = fun_ext (λ i. fun_ext (λ j. h i j))

pub within : (square : SquareView) → IsWithin square.size (cell square)
within square = record { row = cell_row square; column = cell_column square }

pub sums_along : (size : ℕ) (a b : ℕ → ℕ → ℕ) (total : ℕ) → ((i j : ℕ) → a i j ≡ b i j) → HasSums size b total → HasSums size a total
sums_along size a b total h = subst (λ c. HasSums size c total) (sym (same_cells a b h))

-- the parts so far, and what is left of the matrix
pub record IsSplitting (weights : Weights) (total : ℕ) (rows : List (List ℕ)) (square : SquareView) (holders : List (Option ℕ)) (seen : List Bool) (parts : List SlotPart) (left : ℕ) : Type 0 where
  pub size : square.size ≡ 2 * weights.nodes
  pub holders_length : length holders ≡ square.size
  pub seen_length : length seen ≡ square.size
  pub listed : AreListed rows square.size (cell square)
  pub sums : HasSums square.size (cell square) left
  pub matching : IsMatching (cell square) holders
  pub chosen : (rest : List SlotPart) → AreChosen (2 * weights.nodes) weights.edges (cell square) left rest →
      AreChosen (2 * weights.nodes) weights.edges (padded weights total) total (parts ++ rest)

module _ (weights : Weights) (total : ℕ) (rows : List (List ℕ)) (square new : SquareView) (holders holders' : List (Option ℕ)) (seen seen' : List Bool) (parts : List SlotPart) (left : ℕ) (part : SlotPart) where
  pub duration_at_most : IsSplitting weights total rows square holders seen parts left → TakesPart square.size weights.edges (cell square) (cell new) part → part.duration ≤ left
  duration_at_most s t = least_at_most square.size (cell square) t.columns part.duration (within square) t.first.perfect t.least left s.sums

  pub duration_some : TakesPart square.size weights.edges (cell square) (cell new) part → 1 ≤ part.duration
  duration_some t = least_some square.size (cell square) t.columns part.duration (within square) t.first.perfect t.least

  pub after_part : IsSplitting weights total rows square holders seen parts left → TakesPart square.size weights.edges (cell square) (cell new) part → new.size ≡ square.size →
      length holders' ≡ square.size → length seen' ≡ square.size → IsMatching (cell new) holders' →
      IsSplitting weights total rows new holders' seen' (parts ++ part ∷ []) (left - part.duration)
  after_part s t e l k m = record {
    size = e ∙ s.size;
    holders_length = l ∙ sym e;
    seen_length = k ∙ sym e;
    listed = listed_after rows square.size new.size (cell square) (cell new) (sym e)
        (λ row column. omega (arith, t.left row column, lowered_at_most square.size (cell square) t.columns part.duration row column)) s.listed;
    sums = subst (λ n. HasSums n (cell new) (left - part.duration)) (sym e)
        (sums_along square.size (cell new) (lowered (cell square) t.columns part.duration) (left - part.duration) t.left
        (lowered_sums square.size (cell square) t.columns part.duration (within square) t.first.perfect t.least left s.sums));
    matching = m;
    chosen = λ rest h. subst (AreChosen (2 * weights.nodes) weights.edges (padded weights total) total) (sym (append_assoc parts (part ∷ []) rest))
        (s.chosen (part ∷ rest) (subst (λ n. AreChosen n weights.edges (cell square) left (part ∷ rest)) s.size (
          t.columns,
          t.first,
          t.least,
          t.same,
          subst (λ n. AreChosen n weights.edges (lowered (cell square) t.columns part.duration) (left - part.duration) rest) (sym s.size)
              (subst (λ c. AreChosen (2 * weights.nodes) weights.edges c (left - part.duration) rest) (same_cells (cell new) (lowered (cell square) t.columns part.duration) t.left) h),
        )));
  }

module _ (weights : Weights) (total : ℕ) (square : SquareView) (size : square.size ≡ 2 * weights.nodes) (cells : (i j : ℕ) → cell square i j ≡ padded weights total i j)
    (exist : Exist weights) (apart : AreApart weights.edges) (sums : AreWithin weights total) where
  padded_within : IsWithin (2 * weights.nodes) (padded weights total)
  padded_within = subst (IsWithin (2 * weights.nodes)) (same_cells (cell square) (padded weights total) cells) (subst (λ n. IsWithin n (cell square)) size (within square))

  pub sums_at_start : HasSums square.size (cell square) total
  sums_at_start = sums_along square.size (cell square) (padded weights total) total cells (padded_sums weights total exist sums square.size size)

  pub chosen_at_start : (rest : List SlotPart) → AreChosen (2 * weights.nodes) weights.edges (cell square) total rest → AreChosen (2 * weights.nodes) weights.edges (padded weights total) total rest
  chosen_at_start rest = subst (λ c. AreChosen (2 * weights.nodes) weights.edges c total rest) (same_cells (cell square) (padded weights total) cells)

  -- chosen parts are parts
  pub parts_are : (parts : List SlotPart) → AreChosen (2 * weights.nodes) weights.edges (padded weights total) total parts → AreParts weights total parts
  parts_are parts chosen =
      let ends : (edge : ℕ) (e : Edge) → slice_get weights.edges edge ≡ Some e → (e.from < weights.nodes) × (e.to < weights.nodes) = all_exist weights.nodes weights.edges exist in
      let s = split (2 * weights.nodes) weights.edges (λ edge e at. (twice _ _ (ends edge e at).0, twice _ _ (ends edge e at).1)) apart (padded weights total) total parts
      padded_within (padded_sums weights total exist sums (2 * weights.nodes) refl) chosen in
      record {
        exist = s.within_edges;
        ascending = s.ascending;
        separate = s.separate;
        lasting = s.lasting;
        whole = s.whole;
        served = λ edge e at.
            s.served edge e at ∙ padded_weights weights total e.from e.to (ends edge e at).0 (ends edge e at).1 ∙ weight_is weights.edges edge e apart at;
        few = few _ _ s.few (positives_at_most (2 * weights.nodes) (padded weights total)) (square_of (2 * weights.nodes));
      }
    where
      twice : (a n : ℕ) → a < n → a < 2 * n
      twice a n h = omega arith

      square_of : (n : ℕ) → n ^ 2 ≡ n * n
      square_of n = rw (pow-suc n 1, pow-suc n 0, pow-zero n) (one n)
        where
          one : (n : ℕ) → 1 * n * n ≡ n * n
          one n = omega arith

      few : (a b : ℕ) → {m k : ℕ} → a ≤ b → b ≤ m → k ≡ m → a ≤ k
      few a b p q r = omega arith
