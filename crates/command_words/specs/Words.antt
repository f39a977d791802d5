-- The command that words give (this project), standing on what clap reads of a simple command.
use Rattle.std.specs.Prelude.{ℕ, true, List, [], ◌∷◌, Option, Some, None, cond, option_map, option_and_then, bytes_eq, nat_le, codes}
use Rattle.clap.specs.Words.{App, Row, Rule, Text, Kinds, new_app, new_rule, with_rule, matches_of, first_of, fault_of}
use Rattle.clap.specs.declared.builder.action.ArgAction.TheVariants.{Set}
use Rattle.schedule_model.specs.declared.schedule.Series.{Series}
use Rattle.schedule_model.specs.declared.schedule.Series.TheVariants.{Tasking, Scatter}
use Rattle.text_lines.specs.Numbers.{number_of}

-- a name that has to be given
abbrev pub name_rule : Text → Rule
name_rule id = record (new_rule id) { required = true; action = Some Set }

-- an option with a value
abbrev pub option_rule : Text → Rule
option_rule id = record (new_rule id) { long = Some id; action = Some Set }

-- a command without help and version flags
abbrev pub bare_app : Text → App
bare_app word = record (new_app word) { top = record (new_app word).top { disable_help_flag = true; disable_version_flag = true } }

-- the options and names of each command
abbrev pub plan_app : Text → App
plan_app word = with_rule (with_rule (with_rule (bare_app word) (name_rule (codes "FILE"))) (option_rule (codes "series"))) (option_rule (codes "pivots"))

abbrev pub check_app : App
check_app = with_rule (with_rule (with_rule (bare_app (codes "check")) (name_rule (codes "FILE"))) (name_rule (codes "CERTIFICATE"))) (option_rule (codes "series"))

abbrev pub audit_app : App
audit_app = with_rule (with_rule (with_rule (bare_app (codes "audit")) (name_rule (codes "FILE"))) (name_rule (codes "PLAN"))) (option_rule (codes "periods"))

abbrev pub rehearse_names : App
rehearse_names = with_rule (with_rule (bare_app (codes "rehearse")) (name_rule (codes "FILE"))) (name_rule (codes "DATA"))

abbrev pub rehearse_app : App
rehearse_app = with_rule (with_rule (with_rule rehearse_names (option_rule (codes "chunk"))) (option_rule (codes "seed"))) (option_rule (codes "pivots"))

-- what clap is to read of the words that a word is the first of, if it names a command
abbrev pub app_named : Text → Option App
app_named word =
    cond (bytes_eq word (codes "plan")) (Some (plan_app (codes "plan")))
    (cond (bytes_eq word (codes "prices")) (Some (plan_app (codes "prices")))
    (cond (bytes_eq word (codes "check")) (Some check_app)
    (cond (bytes_eq word (codes "audit")) (Some audit_app)
    (cond (bytes_eq word (codes "rehearse")) (Some rehearse_app) None))))

-- what a command finds in words, where it refuses none of them
abbrev pub unless_refused : Kinds → List Row → Option (List Row)
unless_refused [] rows = Some rows
unless_refused (kind ∷ kinds) rows = None

abbrev pub found_in : App → List Text → Option (List Row)
found_in app words = unless_refused (fault_of app words) (matches_of app words)

-- a number up to a bound, and another where none is given
abbrev pub number_given : ℕ → ℕ → Option Text → Option ℕ
number_given most default None = Some default
number_given most default (Some text) = number_of most text

-- a number from a least one up to a bound, and another where none is given
abbrev pub number_between : ℕ → ℕ → ℕ → Option Text → Option ℕ
number_between least most default text = option_and_then (λ number. cond (nat_le least number) (Some number) None) (number_given most default text)

-- the series of a text, and that of tasks where none is given
abbrev pub series_given : Option Text → Option Series
series_given None = Some Tasking
series_given (Some text) = cond (bytes_eq text (codes "tasking")) (Some Tasking) (cond (bytes_eq text (codes "scatter")) (Some Scatter) None)

-- a command with its names and what its options say
pub data Command : Type 0 where
  plan : Text → Series → ℕ → Command
  prices : Text → Series → ℕ → Command
  check : Text → Text → Series → Command
  audit : Text → Text → ℕ → Command
  rehearse : Text → Text → ℕ → ℕ → ℕ → Command

-- a file with a series and a bound on pivots: 100,000 where none is given, and at most 1,000,000,000
abbrev pub with_pivots : (Text → Series → ℕ → Command) → List Row → Option Command
with_pivots make rows =
    option_and_then (λ file. option_and_then (λ series. option_map (make file series)
    (number_given 1000000000 100000 (first_of (codes "pivots") rows))) (series_given (first_of (codes "series") rows))) (first_of (codes "FILE") rows)

-- a platform's file and a certificate's, with a series
abbrev pub check_of : List Row → Option Command
check_of rows =
    option_and_then (λ file. option_and_then (λ certificate. option_map (check file certificate)
    (series_given (first_of (codes "series") rows))) (first_of (codes "CERTIFICATE") rows)) (first_of (codes "FILE") rows)

-- a platform's file and a plan's, with a number of periods: 4 where none is given, and at most 1,000,000
abbrev pub audit_of : List Row → Option Command
audit_of rows =
    option_and_then (λ file. option_and_then (λ other. option_map (audit file other)
    (number_given 1000000 4 (first_of (codes "periods") rows))) (first_of (codes "PLAN") rows)) (first_of (codes "FILE") rows)

-- a bound on pivots behind what else a rehearsal needs
abbrev pub pivots_given : List Row → Option ℕ
pivots_given rows = number_given 1000000000 100000 (first_of (codes "pivots") rows)

-- the bytes of a chunk, the seed and the bound on pivots of a rehearsal: chunks of 65,536 bytes where none is given, and of at most
-- 16,777,216; the seed 0 where none is given
abbrev pub rehearsal_of : Text → Text → List Row → Option Command
rehearsal_of file other rows =
    option_and_then (λ chunk. option_and_then (λ seed. option_map (rehearse file other chunk seed) (pivots_given rows))
    (number_given 18446744073709551615 0 (first_of (codes "seed") rows))) (number_between 1 16777216 65536 (first_of (codes "chunk") rows))

-- a platform's file and the data's, with what else a rehearsal needs
abbrev pub rehearse_of : List Row → Option Command
rehearse_of rows =
    option_and_then (λ file. option_and_then (λ other. rehearsal_of file other rows) (first_of (codes "DATA") rows)) (first_of (codes "FILE") rows)

-- the command that a word names, with what was found of it
abbrev pub command_with : Text → List Row → Option Command
command_with word rows =
    cond (bytes_eq word (codes "plan")) (with_pivots plan rows)
    (cond (bytes_eq word (codes "prices")) (with_pivots prices rows)
    (cond (bytes_eq word (codes "check")) (check_of rows)
    (cond (bytes_eq word (codes "audit")) (audit_of rows)
    (cond (bytes_eq word (codes "rehearse")) (rehearse_of rows) None))))

-- the command of the words, whose first one names it
abbrev pub command_named : Text → List Text → Option Command
command_named word words =
    cond (bytes_eq word (codes "plan")) (option_and_then (with_pivots plan) (found_in (plan_app (codes "plan")) words))
    (cond (bytes_eq word (codes "prices")) (option_and_then (with_pivots prices) (found_in (plan_app (codes "prices")) words))
    (cond (bytes_eq word (codes "check")) (option_and_then check_of (found_in check_app words))
    (cond (bytes_eq word (codes "audit")) (option_and_then audit_of (found_in audit_app words))
    (cond (bytes_eq word (codes "rehearse")) (option_and_then rehearse_of (found_in rehearse_app words)) None))))

-- the command that the words give, if any
abbrev pub command_of : List Text → Option Command
command_of [] = None
command_of (word ∷ words) = command_named word (word ∷ words)
