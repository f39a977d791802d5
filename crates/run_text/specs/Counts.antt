-- How many tasks each node computes in a run.
use Rattle.std.specs.Prelude.{ℕ, zero, suc, ◌+◌, List, length, map, cond, nat_eq, count_by, slice_get}
use Rattle.std.specs.List.{range_with_len}
use Rattle.std.specs.Option.{option_map_or}
use Rattle.platform_file.specs.Ticks.{TimedView}
use Rattle.period_table.specs.declared.table.Table.{Table}
use Rattle.step_core.specs.declared.wiring.Event.{Event}
use Rattle.step_core.specs.Wirings.{WiringView, program_of}
use Rattle.step_core.specs.Tasks.{is_done}
use Rattle.actor_programs.specs.declared.actor.Actor.{Actor}
use Rattle.actor_programs.specs.declared.actor.Actor.TheVariants.{Sender, Consumer}
use Rattle.actor_programs.specs.Programs.{actors_of, wiring_of}

-- the Dones of a program at a node, where its actor acts for the node
abbrev pub dones_of : ℕ → List Event → Actor → ℕ
dones_of node program (Sender link) = 0
dones_of node program (Consumer other) = cond (nat_eq other node) (count_by is_done program) 0

-- those of the first actors with their programs
abbrev pub dones_below : ℕ → List Actor → WiringView → ℕ → ℕ
dones_below node actors w zero = 0
dones_below node actors w (suc n) = dones_below node actors w n + option_map_or (dones_of node (program_of w n)) (slice_get actors n) 0

-- those of all actors
abbrev pub dones_at : ℕ → List Actor → WiringView → ℕ
dones_at node actors w = dones_below node actors w (length actors)

-- the Dones at each node, in the programs of a table for a number of chunks
abbrev pub node_counts : TimedView → Table → ℕ → List ℕ
node_counts t table chunks = map (λ node. dones_at node (actors_of t table) (wiring_of t table chunks)) (range_with_len 0 (length t.platform.nodes))
