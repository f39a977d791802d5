-- The words of the series in texts.
use Rattle.std.specs.Prelude.{ℕ, List, codes}
use Rattle.schedule_model.specs.declared.schedule.Series.{Series}
use Rattle.schedule_model.specs.declared.schedule.Series.TheVariants.{Tasking, Scatter}

-- the word of a series
abbrev pub series_text : Series → List ℕ
series_text Tasking = codes "tasking"
series_text Scatter = codes "scatter"
