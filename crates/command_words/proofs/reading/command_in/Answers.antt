use Rattle.std.proofs.Common.{rules, ◌≡◌, Some, None, Option, List, map, option_map, option_and_then, string_bytes, MatchResult, refl, sym, ap, subst, ◌∙◌}
use Rattle.std.specs.Prelude.{IsErrAnd}
use Rattle.std.specs.Option.{ok_or}
use Rattle.std.specs.declared.result.Result.{Result}
use Rattle.std.specs.declared.result.Result.TheVariants.{Ok, Err}
use Rattle.clap.specs.Words.{Text, app_of, rows_of, found_of}
use Rattle.command_words.specs.declared.command.Command.{Command}
use Rattle.command_words.specs.declared.command.WordsFault.{WordsFault}
use Rattle.command_words.specs.declared.command.WordsFault.TheVariants.{Usage, NoMemory}
use Rattle.command_words.specs.Words.{command_of, command_with}
use Rattle.command_words.specs.Meanings.{meaning_of, IsWordsFault}
use Rattle.command_words.proofs.Apps.{named_free, first_named}
use Rattle.command_words.proofs.reading.command_in.Goals as goal

pub found_by-requires : goal.found_by-requires
found_by-requires c = named_free (string_bytes c.in-Some.word.now) (app_of c.in-Some-2.command) (search rules)

is_fault : (words : List Text) (fault : WordsFault) → (fault ≡ Usage → command_of words ≡ None) → IsWordsFault words fault
is_fault words Usage none = none refl
is_fault words NoMemory none = tt

-- a fault that is returned as it is
of_fault : {A : Type 0} (P : A → Type 0) (words : List Text) (fault : WordsFault) (r : Result A WordsFault) → IsErrAnd r (λ e. e ≡ fault)
    → (fault ≡ Usage → command_of words ≡ None) → MatchResult r P (IsWordsFault words)
of_fault P words fault (Ok x) bad none = absurd bad
of_fault P words fault (Err e) is none = is_fault words e (λ usage. none (sym is ∙ usage))

-- a command that was read, or none
of_command : (words : List Text) (o : Option Command) → command_of words ≡ option_map meaning_of o
    → MatchResult (ok_or o Usage) (λ command. command_of words ≡ Some (meaning_of command)) (IsWordsFault words)
of_command words None e = e
of_command words (Some command) e = e

pub returns-in_err-matches : goal.returns-in_err-matches
returns-in_err-matches c =
    let word = string_bytes c.in-Some.word.now in
    let words = map string_bytes c.args.words.now in
    let app = app_of c.in-Some-2.command in
    let result = c.from_residual-in_err-matches in
    of_fault (λ command. command_of words ≡ Some (meaning_of command)) words c.in_err-matches.field-0.0 result.result result.ensures.1
    (λ usage. first_named string_bytes c.args.words.now c.in-Some.word.now app c.in-Some.ensures.value (search rules)
    ∙ ap (option_and_then (command_with word)) (c.in_err-matches.ensures.err usage))

pub returns : goal.returns
returns c =
    let word = string_bytes c.in-Some.word.now in
    let words = map string_bytes c.args.words.now in
    let app = app_of c.in-Some-2.command in
    let rows = rows_of (found_of c.in_ok-matches.matches) in
    let is_read : command_with word rows ≡ option_map meaning_of c.command_with.result = search rules in
    subst (λ r. MatchResult r (λ command. command_of words ≡ Some (meaning_of command)) (IsWordsFault words)) (sym c.ok_or.ensures.value)
    (of_command words c.command_with.result
    (first_named string_bytes c.args.words.now c.in-Some.word.now app c.in-Some.ensures.value (search rules)
    ∙ ap (option_and_then (command_with word)) c.in_ok-matches.ensures.ok ∙ is_read))
