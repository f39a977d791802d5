-- Counts of faults and of calls, which stop at the greatest number of 64 bits.
use Rattle.std.specs.Prelude.{◌≡◌, ℕ, ◌+◌, ◌-◌, ◌^◌, ◌<◌, ◌⊎◌, min}

-- the number at which a count stops
abbrev pub greatest_count : ℕ
greatest_count = 2 ^ 64 - 1

-- a count after some more, as far as it goes
abbrev pub raised : ℕ → ℕ → ℕ
raised count more = min (count + more) greatest_count

-- the count rose, or stands where it can't rise
abbrev pub Rose : ℕ → ℕ → Type 0
Rose before after = (before < after) ⊎ (after ≡ greatest_count)
