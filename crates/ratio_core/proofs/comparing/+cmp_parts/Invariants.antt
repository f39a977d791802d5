use Rattle.std.proofs.Common.{◌+◌}
use Rattle.ratio_core.proofs.comparing.+cmp_parts.Given as goal

abbrev pub decreases-cmp_parts : goal.decreases-cmp_parts
decreases-cmp_parts l = l.b + l.d
