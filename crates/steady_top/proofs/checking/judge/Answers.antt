use Rattle.std.proofs.Common.{rules, ◌≡◌, ℕ, ◌*◌, ◌≤◌, false, length, nat_abs, string_bytes}
use Rattle.platform_file.specs.Ticks.{TimedView, IsTimed}
use Rattle.schedule_model.specs.declared.schedule.Series.{Series}
use Rattle.schedule_model.specs.declared.schedule.Series.TheVariants.{Tasking, Scatter}
use Rattle.schedule_model.specs.Throughput.{IsUpperRate}
use Rattle.linear_program.specs.Programmes.{LpView}
use Rattle.tasking_program.specs.Programme.{tasking_programme}
use Rattle.scatter_program.specs.Programme.{scatter_programme}
use Rattle.dual_checker.specs.declared.verdict.Verdict.TheVariants.{Proves}
use Rattle.dual_checker.specs.Verdicts.{verdict_of}
use Rattle.series_flows.specs.Programmes.{programme_of, lacks_targets}
use Rattle.series_flows.proofs.Targets.{some_target}
use Rattle.steady_top.specs.Outcomes.{upper_text}
use Rattle.steady_top.proofs.checking.judge.Goals as goal

-- the rate of each series
rate_of : (t : TimedView) (series : Series) (p : LpView) (best scale : ℕ) → IsTimed t → lacks_targets t series ≡ false → p ≡ programme_of t series
    → (p ≡ tasking_programme t → IsUpperRate t Tasking best scale) → (1 ≤ length t.platform.targets → p ≡ scatter_programme t → IsUpperRate t Scatter best scale) → IsUpperRate t series best scale
rate_of t Tasking p best scale timed some is tasking scatter = tasking is
rate_of t Scatter p best scale timed some is tasking scatter = scatter (some_target t some) is

pub returns-in_ok-upper_line-in-Proves : goal.returns-in_ok-upper_line-in-Proves
returns-in_ok-upper_line-in-Proves c =
    let t = c.args.timed.now in
    let certificate = c.args.certificate.now in
    let proves : c.check.result ≡ Proves = search rules in
    let verdict : verdict_of (programme_of t c.args.series) certificate ≡ Proves = rw (← c.requires.programme) (search rules) in
    let is_line : string_bytes c.in_ok-upper_line-in-Proves.field-0 ≡ upper_text t certificate = search rules in
    record {
      text = record {
        proves = verdict;
        rate =
            rate_of t c.args.series c.args.lp.now (nat_abs certificate.best * t.unit) (nat_abs certificate.scale) c.known.ensures c.requires.targets c.requires.programme
            (λ is. c.check.ensures.tasking_rate t c.known.ensures is proves) (λ some is. c.check.ensures.scatter_rate t c.known.ensures some is proves);
        is_line = is_line;
      };
    }
