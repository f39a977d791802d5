-- What the columns of the programme of tasking stand for.
use Rattle.std.specs.Prelude.{◌≡◌, ◌<◌, ℕ, Bool, true, not, List, ◌++◌, length, None, slice_index_or}
use Rattle.std.specs.Option.{is_some}
use Rattle.platform_file.specs.Platform.{is_master}
use Rattle.platform_file.specs.Ticks.{TimedView}
use Rattle.schedule_model.specs.Operations.{receiver_of}
use Rattle.programme_rows.specs.Listings.{each_where}
use Rattle.tasking_program.specs.declared.columns.Column.{Column}
use Rattle.tasking_program.specs.declared.columns.Column.TheVariants.{Computes, Flows}

-- the node computes
abbrev pub computes : TimedView → ℕ → Bool
computes t node = is_some (slice_index_or t.times node None)

-- a plan can use the link: it doesn't enter the master
abbrev pub carries : TimedView → ℕ → Bool
carries t link = not (is_master t.platform (receiver_of t link))

-- a rate for each node that computes, and behind them a flow for each link that a plan can use
abbrev pub columns_of : TimedView → List Column
columns_of t = each_where (computes t) Computes (length t.platform.nodes) ++ each_where (carries t) Flows (length t.platform.links)

-- the column of a number
abbrev pub column_at : List Column → ℕ → Column
column_at columns j = slice_index_or columns j (Computes 0)

-- the column is one of the programme's: its node exists and computes, or its link exists
abbrev pub Exists : TimedView → Column → Type 0
Exists t (Computes node) = (node < length t.platform.nodes) × (computes t node ≡ true)
Exists t (Flows link) = link < length t.platform.links
