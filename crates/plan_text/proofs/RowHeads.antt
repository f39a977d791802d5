-- The first words of a route's or a slot's line, as they are read.
use Rattle.std.proofs.Common.{◌≡◌, ◌≢◌, ℕ, ◌≤◌, ◌^◌, Bor, List, [], ◌∷◌, map, Some, None, codes, decimal, sym, ap, ◌∙◌, subst, arith, ap₂}
use Rattle.platform_file.specs.Ticks.{TimedView}
use Rattle.text_lines.specs.Numbers.{IsReadAsPrinted, natural_of}
use Rattle.plan_text.specs.Walks.{IsNamed}
use Rattle.plan_text.specs.Reading.{IsNumbered, IsRouteHead}
use Rattle.plan_text.proofs.RowWords.{decimal_unique}
use Rattle.plan_text.proofs.RowReads.{first_same, rest_same}

-- what words say
abbrev pub said : List (Bor (List ℕ)) → List (List ℕ)
said words = map (λ word. word.now) words

no_first : {A : Type 0} {x : A} {xs : List A} → [] ≡ x ∷ xs → ⊥
no_first e = cc

-- no number is printed so
unread : (most : ℕ) (text : List ℕ) → IsReadAsPrinted most → natural_of most text ≡ None → (n : ℕ) → n ≤ most → text ≡ decimal n → ⊥
unread most text read none n small same = let bad : Some n ≡ None = sym (read.naturals n small) ∙ ap (natural_of most) (sym same) ∙ none in cc

module _ (word : List ℕ) (words : List (List ℕ)) where
  pub numbered_none : words ≡ [] → (n : ℕ) (rest : List (List ℕ)) → IsNumbered word words n rest → ⊥
  numbered_none e n rest is = no_first (sym e ∙ is.are_words)

  module _ (first : List ℕ) (others : List (List ℕ)) (begins : words ≡ first ∷ others) where
    pub numbered_other : first ≢ word → (n : ℕ) (rest : List (List ℕ)) → IsNumbered word words n rest → ⊥
    numbered_other other n rest is = other (first_same (sym begins ∙ is.are_words))

    pub numbered_alone : others ≡ [] → (n : ℕ) (rest : List (List ℕ)) → IsNumbered word words n rest → ⊥
    numbered_alone e n rest is = no_first (sym e ∙ rest_same (sym begins ∙ is.are_words))

    module _ (second : List ℕ) (behind : List (List ℕ)) (goes_on : others ≡ second ∷ behind) where
      pub numbered_unread : IsReadAsPrinted (2 ^ 107) → natural_of (2 ^ 107) second ≡ None → (n : ℕ) (rest : List (List ℕ)) → IsNumbered word words n rest → ⊥
      numbered_unread read none n rest is = unread (2 ^ 107) second read none n is.bounded (first_same (sym goes_on ∙ rest_same (sym begins ∙ is.are_words)))

      pub numbered_found : first ≡ word → IsReadAsPrinted (2 ^ 107) → (n : ℕ) → natural_of (2 ^ 107) second ≡ Some n → IsNumbered word words n behind
      numbered_found same read n is =
          let only = read.only_naturals second n is in
          record { are_words = begins ∙ ap₂ (λ x xs. x ∷ xs) same (goes_on ∙ ap (λ w. w ∷ behind) only.1); bounded = only.0 }

module _ (t : TimedView) (number : ℕ) (few : number ≤ 2 ^ 107) (words : List (List ℕ)) where
  pub head_unnumbered : ((n : ℕ) (others : List (List ℕ)) → IsNumbered (codes "route") words n others → ⊥) → (count start : ℕ) (rest : List (List ℕ)) → IsRouteHead t number words count start rest → ⊥
  head_unnumbered none count start rest head = none number (decimal count ∷ (head.name ∷ rest)) (record { are_words = head.are_words; bounded = few })

  module _ (found : ℕ) (others : List (List ℕ)) (is : IsNumbered (codes "route") words found others) where
    behind_number : (count start : ℕ) (rest : List (List ℕ)) (head : IsRouteHead t number words count start rest) → others ≡ decimal count ∷ (head.name ∷ rest)
    behind_number count start rest head = rest_same (rest_same (sym is.are_words ∙ head.are_words))

    pub head_other_number : found ≢ number → (count start : ℕ) (rest : List (List ℕ)) → IsRouteHead t number words count start rest → ⊥
    head_other_number other count start rest head =
        other (decimal_unique found number (omega (arith, is.bounded)) (omega (arith, few)) (first_same (rest_same (sym is.are_words ∙ head.are_words))))

    pub head_uncounted : others ≡ [] → (count start : ℕ) (rest : List (List ℕ)) → IsRouteHead t number words count start rest → ⊥
    head_uncounted e count start rest head = no_first (sym e ∙ behind_number count start rest head)

    module _ (word : List ℕ) (behind : List (List ℕ)) (goes_on : others ≡ word ∷ behind) where
      pub head_unread : IsReadAsPrinted (2 ^ 100) → natural_of (2 ^ 100) word ≡ None → (count start : ℕ) (rest : List (List ℕ)) → IsRouteHead t number words count start rest → ⊥
      head_unread read none count start rest head = unread (2 ^ 100) word read none count head.bounded (first_same (sym goes_on ∙ behind_number count start rest head))

      pub head_unstarted : behind ≡ [] → (count start : ℕ) (rest : List (List ℕ)) → IsRouteHead t number words count start rest → ⊥
      head_unstarted e count start rest head = no_first (sym e ∙ rest_same (sym goes_on ∙ behind_number count start rest head))

      module _ (name : List ℕ) (names : List (List ℕ)) (begins : behind ≡ name ∷ names) where
        pub head_unnamed : ((node : ℕ) → IsNamed t name node → ⊥) → (count start : ℕ) (rest : List (List ℕ)) → IsRouteHead t number words count start rest → ⊥
        head_unnamed none count start rest head =
            none start (subst (λ n. IsNamed t n start) (sym (first_same (sym begins ∙ rest_same (sym goes_on ∙ behind_number count start rest head)))) head.named)

        pub head_found : found ≡ number → IsReadAsPrinted (2 ^ 100) → (count start : ℕ) → natural_of (2 ^ 100) word ≡ Some count → IsNamed t name start → IsRouteHead t number words count start names
        head_found same read count start counted named =
            let only = read.only_naturals word count counted in
            record {
              name = name;
              are_words = is.are_words ∙ ap₂ (λ n behind. codes "route" ∷ (decimal n ∷ behind)) same (goes_on ∙ ap₂ (λ x xs. x ∷ xs) only.1 begins);
              bounded = only.0;
              named = named;
            }
