-- Certificates: what says that no point gains more than best over scale.
use Rattle.std.specs.Prelude.{◌^◌, ◌<◌, nat_abs, ℤ, pos, ◌≤ℤ◌, List, All}

-- a scale, the best gain times the scale, and a price for each row
pub record CertificateView : Type 0 where
  pub scale : ℤ
  pub best : ℤ
  pub prices : List ℤ

-- the scale is at least 1 and the best at least 0; a price may be below 0 and is of a size of at most 2^127 - 1
pub record IsCertificate (c : CertificateView) : Type 0 where
  pub some_scale : pos 1 ≤ℤ c.scale
  pub best_not_negative : pos 0 ≤ℤ c.best
  pub small_prices : All (λ price. nat_abs price < 2 ^ 127) c.prices
