-- Words ask for no more than a million periods, and for chunks of at least a byte.
use Rattle.std.proofs.Common.{◌≡◌, ℕ, ◌≤◌, Bool, true, false, cond, nat_le, List, [], ◌∷◌, Option, Some, None, option_and_then, option_map, bytes_eq, codes, subst, refl, arith}
use Rattle.std.proofs.lemmas.Bool.{leb-true}
use Rattle.std.specs.Str.Parse.{digits_value}
use Rattle.ratio_core.specs.Texts.{is_number}
use Rattle.clap.specs.Words.{Row, Text, first_of}
use Rattle.schedule_model.specs.declared.schedule.Series.{Series}
use Rattle.text_lines.specs.Numbers.{at_most, number_of}
use Rattle.command_words.specs.Words.{Command, plan, prices, check, audit, rehearse, plan_app, check_app, audit_app, rehearse_app, found_in, number_given, number_between, series_given, pivots_given, with_pivots, check_of, audit_of, rehearsal_of, rehearse_of, command_named, command_of}

-- a command audits over a million periods at most and rehearses chunks of at least a byte, or does neither
abbrev pub HasFew : Option Command → Type 0
HasFew None = Unit {0}
HasFew (Some (plan name series pivots)) = Unit {0}
HasFew (Some (prices name series pivots)) = Unit {0}
HasFew (Some (check name certificate series)) = Unit {0}
HasFew (Some (audit name other periods)) = periods ≤ 1000000
HasFew (Some (rehearse name other chunk seed pivots)) = 1 ≤ chunk

either : (b : Bool) (first second : Option Command) → HasFew first → HasFew second → HasFew (cond b first second)
either true first second h k = h
either false first second h k = k

then_few : {A : Type 0} (next : A → Option Command) (value : Option A) → ((x : A) → HasFew (next x)) → HasFew (option_and_then next value)
then_few next None h = tt
then_few next (Some x) h = h x

mapped_few : {A : Type 0} (make : A → Command) (value : Option A) → ((x : A) → HasFew (Some (make x))) → HasFew (option_map make value)
mapped_few make None h = tt
mapped_few make (Some x) h = h x

within : (most n : ℕ) (fits : Bool) → nat_le n most ≡ fits → (m : ℕ) → cond fits (Some n) None ≡ Some m → m ≤ most
within most n true is m e = let same : n ≡ m = cc in subst (λ k. k ≤ most) same (leb-true n most is)
within most n false is m e = let bad : None ≡ Some m = e in cc

number_within : (most : ℕ) (text : List ℕ) (m : ℕ) → number_of most text ≡ Some m → m ≤ most
number_within most text m e = of (is_number text) e
  where
    of : (b : Bool) → cond b (at_most most (digits_value 10 text)) None ≡ Some m → m ≤ most
    of true e = within most (digits_value 10 text) (nat_le (digits_value 10 text) most) refl m e
    of false e = let bad : None ≡ Some m = e in cc

audits_few : (file other : List ℕ) (given : Option (List ℕ)) → HasFew (option_map (audit file other) (number_given 1000000 4 given))
audits_few file other None = omega arith
audits_few file other (Some text) = of (number_of 1000000 text) (λ m e. number_within 1000000 text m e)
  where
    of : (found : Option ℕ) → ((m : ℕ) → found ≡ Some m → m ≤ 1000000) → HasFew (option_map (audit file other) found)
    of None h = tt
    of (Some m) h = h m refl

-- what words give with a bound on pivots audits nothing
pivots_few : (make : Text → Series → ℕ → Command) → ((file : Text) (series : Series) (n : ℕ) → HasFew (Some (make file series n))) → (rows : List Row) → HasFew (with_pivots make rows)
pivots_few make h rows =
    then_few (λ file. option_and_then (λ series. option_map (make file series) (number_given 1000000000 100000 (first_of (codes "pivots") rows))) (series_given (first_of (codes "series") rows))) (first_of (codes "FILE") rows)
    (λ file. then_few (λ series. option_map (make file series) (number_given 1000000000 100000 (first_of (codes "pivots") rows))) (series_given (first_of (codes "series") rows))
    (λ series. mapped_few (make file series) (number_given 1000000000 100000 (first_of (codes "pivots") rows)) (λ n. h file series n)))

check_few : (rows : List Row) → HasFew (check_of rows)
check_few rows =
    then_few (λ file. option_and_then (λ certificate. option_map (check file certificate) (series_given (first_of (codes "series") rows))) (first_of (codes "CERTIFICATE") rows)) (first_of (codes "FILE") rows)
    (λ file. then_few (λ certificate. option_map (check file certificate) (series_given (first_of (codes "series") rows))) (first_of (codes "CERTIFICATE") rows)
    (λ certificate. mapped_few (check file certificate) (series_given (first_of (codes "series") rows)) (λ series. tt)))

audit_rows_few : (rows : List Row) → HasFew (audit_of rows)
audit_rows_few rows =
    then_few (λ file. option_and_then (λ other. option_map (audit file other) (number_given 1000000 4 (first_of (codes "periods") rows))) (first_of (codes "PLAN") rows)) (first_of (codes "FILE") rows)
    (λ file. then_few (λ other. option_map (audit file other) (number_given 1000000 4 (first_of (codes "periods") rows))) (first_of (codes "PLAN") rows)
    (λ other. audits_few file other (first_of (codes "periods") rows)))

-- a number that is given is at least the least
at_least : (least n : ℕ) (fits : Bool) → nat_le least n ≡ fits → (m : ℕ) → cond fits (Some n) None ≡ Some m → least ≤ m
at_least least n true is m e = let same : n ≡ m = cc in subst (λ k. least ≤ k) same (leb-true least n is)
at_least least n false is m e = let bad : None ≡ Some m = e in cc

between_few : (least most default : ℕ) (text : Option (List ℕ)) (next : ℕ → Option Command) → ((m : ℕ) → least ≤ m → HasFew (next m)) → HasFew (option_and_then next (number_between least most default text))
between_few least most default text next h = of (number_given most default text)
  where
    of : (given : Option ℕ) → HasFew (option_and_then next (option_and_then (λ n. cond (nat_le least n) (Some n) None) given))
    of None = tt
    of (Some n) = pick (nat_le least n) refl
      where
        pick : (fits : Bool) → nat_le least n ≡ fits → HasFew (option_and_then next (cond fits (Some n) None))
        pick true is = h n (leb-true least n is)
        pick false is = tt

rehearsal_few : (file other : Text) (rows : List Row) → HasFew (rehearsal_of file other rows)
rehearsal_few file other rows =
    between_few 1 16777216 65536 (first_of (codes "chunk") rows)
    (λ chunk. option_and_then (λ seed. option_map (rehearse file other chunk seed) (pivots_given rows)) (number_given 18446744073709551615 0 (first_of (codes "seed") rows)))
    (λ chunk some. then_few (λ seed. option_map (rehearse file other chunk seed) (pivots_given rows)) (number_given 18446744073709551615 0 (first_of (codes "seed") rows))
    (λ seed. mapped_few (rehearse file other chunk seed) (pivots_given rows) (λ pivots. some)))

rehearse_few : (rows : List Row) → HasFew (rehearse_of rows)
rehearse_few rows =
    then_few (λ file. option_and_then (λ other. rehearsal_of file other rows) (first_of (codes "DATA") rows)) (first_of (codes "FILE") rows)
    (λ file. then_few (λ other. rehearsal_of file other rows) (first_of (codes "DATA") rows) (λ other. rehearsal_few file other rows))

named_few : (word : Text) (words : List Text) → HasFew (command_named word words)
named_few word words =
    let audits = option_and_then audit_of (found_in audit_app words) in
    let checks = option_and_then check_of (found_in check_app words) in
    let prices_of = option_and_then (with_pivots prices) (found_in (plan_app (codes "prices")) words) in
    let plans = option_and_then (with_pivots plan) (found_in (plan_app (codes "plan")) words) in
    let rehearsals = option_and_then rehearse_of (found_in rehearse_app words) in
    let fifth = cond (bytes_eq word (codes "rehearse")) rehearsals None in
    let fourth = cond (bytes_eq word (codes "audit")) audits fifth in
    let third = cond (bytes_eq word (codes "check")) checks fourth in
    let second = cond (bytes_eq word (codes "prices")) prices_of third in
    either (bytes_eq word (codes "plan")) plans second (then_few (with_pivots plan) (found_in (plan_app (codes "plan")) words) (pivots_few plan (λ file series n. tt)))
    (either (bytes_eq word (codes "prices")) prices_of third (then_few (with_pivots prices) (found_in (plan_app (codes "prices")) words) (pivots_few prices (λ file series n. tt)))
    (either (bytes_eq word (codes "check")) checks fourth (then_few check_of (found_in check_app words) check_few)
    (either (bytes_eq word (codes "audit")) audits fifth (then_few audit_of (found_in audit_app words) audit_rows_few)
    (either (bytes_eq word (codes "rehearse")) rehearsals None (then_few rehearse_of (found_in rehearse_app words) rehearse_few) tt))))

pub words_few : (words : List (List ℕ)) → HasFew (command_of words)
words_few [] = tt
words_few (word ∷ words) = named_few word (word ∷ words)

pub audit_few : (words : List (List ℕ)) (name other : List ℕ) (periods : ℕ) → command_of words ≡ Some (audit name other periods) → periods ≤ 1000000
audit_few words name other periods e = subst HasFew e (words_few words)

pub some_bytes : (words : List (List ℕ)) (name other : List ℕ) (chunk seed pivots : ℕ) → command_of words ≡ Some (rehearse name other chunk seed pivots) → 1 ≤ chunk
some_bytes words name other chunk seed pivots e = subst HasFew e (words_few words)
