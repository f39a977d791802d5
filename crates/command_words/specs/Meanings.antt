-- The command that one of the code stands for.
use Rattle.std.specs.Prelude.{◌≡◌, ⊤, List, None}
use Rattle.clap.specs.Words.{Text}
use Rattle.command_words.specs.declared.command.Command.{Command}
use Rattle.command_words.specs.declared.command.Command.TheVariants as word
use Rattle.command_words.specs.declared.command.WordsFault.{WordsFault}
use Rattle.command_words.specs.declared.command.WordsFault.TheVariants.{Usage, NoMemory}
use Rattle.command_words.specs.Words.{plan, prices, check, audit, rehearse, command_of}
use Rattle.command_words.specs.Words.{Command as Meaning}

-- each command is the one of its name
abbrev pub meaning_of : Command → Meaning
meaning_of (word.Plan file series pivots) = plan file.now series pivots
meaning_of (word.Prices file series pivots) = prices file.now series pivots
meaning_of (word.Check file certificate series) = check file.now certificate.now series
meaning_of (word.Audit file other periods) = audit file.now other.now periods
meaning_of (word.Rehearse file other chunk seed pivots) = rehearse file.now other.now chunk seed pivots

-- words are refused where they give no command; memory may run out at any time
abbrev pub IsWordsFault : List Text → WordsFault → Type 0
IsWordsFault words Usage = command_of words ≡ None
IsWordsFault words NoMemory = ⊤
