-- What the columns of the programme of a scatter stand for.
use Rattle.std.specs.Prelude.{◌<◌, ℕ, zero, suc, Bool, not, ◌&&◌, nat_eq, List, [], ◌∷◌, ◌++◌, length, slice_index, slice_index_or}
use Rattle.platform_file.specs.Platform.{is_master}
use Rattle.platform_file.specs.Ticks.{TimedView}
use Rattle.schedule_model.specs.Operations.{sender_of, receiver_of}
use Rattle.programme_rows.specs.Listings.{each_where}
use Rattle.scatter_program.specs.declared.columns.Column.{Column}
use Rattle.scatter_program.specs.declared.columns.Column.TheVariants.{Rate, Flows}

-- the target that wants the messages of a kind
abbrev pub target_of : TimedView → ℕ → ℕ
target_of t kind = slice_index t.platform.targets kind

-- a plan can send messages of the kind over the link: it doesn't enter the master, and it doesn't leave the target that wants them
abbrev pub carries : TimedView → ℕ → ℕ → Bool
carries t kind link = not (is_master t.platform (receiver_of t link)) && not (nat_eq (sender_of t link) (target_of t kind))

-- a flow of messages of the kind for each link that can carry them
abbrev pub flows_of : TimedView → ℕ → List Column
flows_of t kind = each_where (carries t kind) (λ link. Flows link kind) (length t.platform.links)

-- the flows of the kinds below n, kind by kind
abbrev pub flows_below : TimedView → ℕ → List Column
flows_below t zero = []
flows_below t (suc n) = flows_below t n ++ flows_of t n

-- the rate that all targets have in common, and behind it the flows, target by target
abbrev pub columns_of : TimedView → List Column
columns_of t = Rate ∷ flows_below t (length t.platform.targets)

-- the column of a number
abbrev pub column_at : List Column → ℕ → Column
column_at columns j = slice_index_or columns j Rate

-- the column is one of the programme's: its link and its kind exist
abbrev pub Exists : TimedView → Column → Type 0
Exists t Rate = Unit {0}
Exists t (Flows link kind) = (link < length t.platform.links) × (kind < length t.platform.targets)
