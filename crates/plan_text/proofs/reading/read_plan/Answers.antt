use Rattle.std.proofs.Common.{rules, ◌≡◌, arith}
use Rattle.period_table.specs.Tables.{longest}
use Rattle.plan_text.proofs.ShortWalks.{short_longest}
use Rattle.plan_text.proofs.WholeReads.{through_known, made_fault, made_plan}
use Rattle.plan_text.proofs.reading.read_plan.Goals as goal

pub overflow_cast-depth : goal.overflow_cast-depth
overflow_cast-depth c =
    let t = c.args.timed.now in
    let bytes = c.args.bytes.now in
    let head = c.in_ok-head.head in
    let routes = c.in_ok-head.routes in
    let slots = c.in_ok-head.slots in
    let known = through_known t bytes head routes slots c.in_ok-head.ensures.read in
    let deep : c.longest-depth.result ≡ longest routes = search rules in
    omega (arith, deep, short_longest t c.known.ensures head.series routes known.0.routes_are)

pub disagreement-requires-clause-tasks : goal.disagreement-requires-clause-tasks
disagreement-requires-clause-tasks c =
    let t = c.args.timed.now in
    let bytes = c.args.bytes.now in
    let head = c.in_ok-head.head in
    let routes = c.in_ok-head.routes in
    let slots = c.in_ok-head.slots in
    let known = through_known t bytes head routes slots c.in_ok-head.ensures.read in
    let tasks : c.head.inside.tasks ≡ head.tasks = search rules in
    omega (arith, tasks, known.0.tasks)

pub disagreement-requires-clause-num : goal.disagreement-requires-clause-num
disagreement-requires-clause-num c =
    let t = c.args.timed.now in
    let bytes = c.args.bytes.now in
    let head = c.in_ok-head.head in
    let routes = c.in_ok-head.routes in
    let slots = c.in_ok-head.slots in
    let known = through_known t bytes head routes slots c.in_ok-head.ensures.read in
    known.0.num

pub disagreement-requires-clause-routes : goal.disagreement-requires-clause-routes
disagreement-requires-clause-routes c =
    let t = c.args.timed.now in
    let bytes = c.args.bytes.now in
    let head = c.in_ok-head.head in
    let routes = c.in_ok-head.routes in
    let slots = c.in_ok-head.slots in
    let known = through_known t bytes head routes slots c.in_ok-head.ensures.read in
    known.0.routes_are

pub disagreement-requires-clause-slots : goal.disagreement-requires-clause-slots
disagreement-requires-clause-slots c =
    let t = c.args.timed.now in
    let bytes = c.args.bytes.now in
    let head = c.in_ok-head.head in
    let routes = c.in_ok-head.routes in
    let slots = c.in_ok-head.slots in
    let known = through_known t bytes head routes slots c.in_ok-head.ensures.read in
    known.0.slots_are

pub returns-in-Some-clause-fault : goal.returns-in-Some-clause-fault
returns-in-Some-clause-fault c =
    let t = c.args.timed.now in
    let bytes = c.args.bytes.now in
    let head = c.in_ok-head.head in
    let routes = c.in_ok-head.routes in
    let slots = c.in_ok-head.slots in
    let known = through_known t bytes head routes slots c.in_ok-head.ensures.read in
    let period : c.head.inside.period ≡ head.period = search rules in
    let tasks : c.head.inside.tasks ≡ head.tasks = search rules in
    made_fault t bytes head routes slots c.in_ok-head.ensures.read c.head.inside.period c.head.inside.tasks c.longest-depth.result period tasks c.in-Some.line c.in-Some.ensures

pub returns-in-None-clause-plan : goal.returns-in-None-clause-plan
returns-in-None-clause-plan c =
    let t = c.args.timed.now in
    let bytes = c.args.bytes.now in
    let head = c.in_ok-head.head in
    let routes = c.in_ok-head.routes in
    let slots = c.in_ok-head.slots in
    let known = through_known t bytes head routes slots c.in_ok-head.ensures.read in
    let period : c.head.inside.period ≡ head.period = search rules in
    let tasks : c.head.inside.tasks ≡ head.tasks = search rules in
    let series : c.head.inside.series ≡ head.series = search rules in
    let deep : c.longest-depth.result ≡ longest routes = search rules in
    made_plan t bytes head routes slots c.in_ok-head.ensures.read c.head.inside.period c.head.inside.tasks c.longest-depth.result period tasks c.head.inside.series series deep c.in-None.ensures
