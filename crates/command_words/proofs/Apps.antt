-- The commands are simple ones, of which clap tells exactly what it reads and refuses, and each word is one of them or none.
use Rattle.std.proofs.Common.{◌≡◌, Bool, true, false, cond, List, Option, Some, None, [], ◌∷◌, map, slice_get, option_and_then, bytes_eq, codes, refl, sym, ap, subst, ◌∙◌}
use Rattle.std.proofs.lemmas.Option.{none-some, same_Some}
use Rattle.clap.specs.Words.{App, Row, Text, is_simple, is_simple_and_free}
use Rattle.clap.proofs.WalkLemmas.{both}
use Rattle.clap.proofs.OnLiterals.{clap_on_literals}
use Rattle.command_words.specs.Words.{plan_app, check_app, audit_app, rehearse_app, app_named, found_in, Command, plan, prices, with_pivots, check_of, audit_of, rehearse_of, command_with, command_named, command_of}

pub simple_where_free : (app : App) → is_simple_and_free app ≡ true → is_simple app ≡ true
simple_where_free app free = (both _ _ free).0

plan_free : (word : Text) → is_simple_and_free (plan_app word) ≡ true
unfolding clap_on_literals
plan_free word = refl

check_free : is_simple_and_free check_app ≡ true
unfolding clap_on_literals
check_free = refl

audit_free : is_simple_and_free audit_app ≡ true
unfolding clap_on_literals
audit_free = refl

rehearse_free : is_simple_and_free rehearse_app ≡ true
unfolding clap_on_literals
rehearse_free = refl

free_or : (b : Bool) (one : App) (others : Option App) (app : App) → is_simple_and_free one ≡ true
    → (others ≡ Some app → is_simple_and_free app ≡ true) → cond b (Some one) others ≡ Some app → is_simple_and_free app ≡ true
free_or true one others app free rest is = subst (λ a. is_simple_and_free a ≡ true) (same_Some one app is) free
free_or false one others app free rest is = rest is

pub named_free : (word : Text) (app : App) → app_named word ≡ Some app → is_simple_and_free app ≡ true
named_free word app =
    free_or (bytes_eq word (codes "plan")) _ _ app (plan_free (codes "plan"))
    (free_or (bytes_eq word (codes "prices")) _ _ app (plan_free (codes "prices"))
    (free_or (bytes_eq word (codes "check")) _ _ app check_free
    (free_or (bytes_eq word (codes "audit")) _ _ app audit_free
    (free_or (bytes_eq word (codes "rehearse")) _ _ app rehearse_free (λ is. absurd (none-some app is))))))

-- a word's command is found by what clap reads of it, and then by what was found
found_or : (b : Bool) (words : List Text) (one : App) (first : List Row → Option Command) (others : Option App)
    (then : List Row → Option Command) (rest : Option Command) → rest ≡ option_and_then (λ app. option_and_then then (found_in app words)) others
    → cond b (option_and_then first (found_in one words)) rest
    ≡ option_and_then (λ app. option_and_then (λ rows. cond b (first rows) (then rows)) (found_in app words)) (cond b (Some one) others)
found_or true words one first others then rest e = refl
found_or false words one first others then rest e = e

named_in_steps : (word : Text) (words : List Text)
    → command_named word words ≡ option_and_then (λ app. option_and_then (command_with word) (found_in app words)) (app_named word)
named_in_steps word words =
    found_or (bytes_eq word (codes "plan")) words (plan_app (codes "plan")) (with_pivots plan) _ _ _
    (found_or (bytes_eq word (codes "prices")) words (plan_app (codes "prices")) (with_pivots prices) _ _ _
    (found_or (bytes_eq word (codes "check")) words check_app check_of _ _ _
    (found_or (bytes_eq word (codes "audit")) words audit_app audit_of _ _ _
    (found_or (bytes_eq word (codes "rehearse")) words rehearse_app rehearse_of None (λ rows. None) None refl))))

-- words whose first one names a command are those that clap reads
pub first_named : {X : Type 0} (text : X → Text) (items : List X) (word : X) (app : App) → Some word ≡ slice_get items 0 → app_named (text word) ≡ Some app
    → command_of (map text items) ≡ option_and_then (command_with (text word)) (found_in app (map text items))
first_named text [] word app first is = absurd (none-some word (sym first))
first_named text (item ∷ items) word app first is =
    let words = map text (item ∷ items) in
    ap (λ one. command_named (text one) words) (sym (same_Some word item first)) ∙ named_in_steps (text word) words
    ∙ ap (option_and_then (λ app. option_and_then (command_with (text word)) (found_in app words))) is
