-- Which tasks go a route, batch by batch.
use Rattle.std.specs.Prelude.{ℕ, zero, suc, ◌+◌, ◌-◌, ◌*◌, ◌/◌, List, [], ◌∷◌, ◌++◌, length, filter, map, take, sum_by, cond, nat_eq, nat_lt, slice_index_or}
use Rattle.std.specs.List.{range_with_len}
use Rattle.flow_routes.specs.declared.flow.Route.{Route}
use Rattle.period_table.specs.declared.table.Table.{Table}

-- how many batches some chunks fill, the last one perhaps in part
abbrev pub batches_of : ℕ → ℕ → ℕ
batches_of tasks chunks = cond (nat_eq chunks 0) 0 ((chunks + (tasks - 1)) / tasks)

-- so many tasks of a batch from a place in it on, those that exist
abbrev pub tasks_of_batch : ℕ → ℕ → ℕ → ℕ → ℕ → List ℕ
tasks_of_batch tasks chunks batch offset count = filter (λ t. nat_lt t chunks) (range_with_len (batch * tasks + offset) count)

-- the lists of the numbers below one, joined
abbrev pub joined_below : {X : Type 0} → (ℕ → List X) → ℕ → List X
joined_below f zero = []
joined_below f (suc n) = joined_below f n ++ f n

-- so many tasks of each of the first batches from a place on
abbrev pub tasks_below : ℕ → ℕ → ℕ → ℕ → ℕ → List ℕ
tasks_below tasks chunks offset count n = joined_below (λ batch. tasks_of_batch tasks chunks batch offset count) n

-- those of all batches
abbrev pub all_tasks : ℕ → ℕ → ℕ → ℕ → List ℕ
all_tasks tasks chunks offset count = tasks_below tasks chunks offset count (batches_of tasks chunks)

-- where a route begins in each batch: the tasks of the routes before it come first
abbrev pub offset_of : List Route → ℕ → ℕ
offset_of routes route = sum_by (λ r. r.count) (take route routes)

-- how many tasks of each batch go a route
abbrev pub count_of : List Route → ℕ → ℕ
count_of routes route = slice_index_or (map (λ r. r.count) routes) route 0

-- the tasks that go a route, in order
abbrev pub route_tasks : Table → ℕ → ℕ → List ℕ
route_tasks table chunks route = all_tasks table.tasks chunks (offset_of table.routes route) (count_of table.routes route)

-- the route of a lane: lanes are numbered route by route and hop by hop
abbrev pub route_of : List Route → ℕ → ℕ
route_of [] lane = 0
route_of (route ∷ routes) lane = cond (nat_lt lane (length route.links)) 0 (suc (route_of routes (lane - length route.links)))

-- where a lane's route begins in each batch
abbrev pub offset_at : List Route → ℕ → ℕ
offset_at routes lane = offset_of routes (route_of routes lane)

-- the node at which a lane's route ends
abbrev pub end_at : List Route → ℕ → ℕ
end_at routes lane = slice_index_or (map (λ r. r.end) routes) (route_of routes lane) 0
