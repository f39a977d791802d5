-- The text of a certificate (this project).
use Rattle.std.specs.Prelude.{ℕ, ◌+◌, ℤ, List, [], ◌∷◌, ◌++◌, length, codes, decimal}
use Rattle.std.specs.Fmt.{signed_decimal}
use Rattle.linear_program.specs.Certificates.{CertificateView}
use Rattle.schedule_model.specs.declared.schedule.Series.{Series}
use Rattle.schedule_model.specs.Texts.{series_text}
use Rattle.text_lines.specs.Lines.{line}

-- the line that names the series
abbrev pub header_text : Series → List ℕ
header_text series = codes "prices 1 " ++ series_text series

-- what stands before the price of a row
abbrev pub price_word : ℕ → List ℕ
price_word k = codes "price " ++ (decimal k ++ codes " ")

-- the lines of some prices, of rows from one on
abbrev pub prices_text : ℕ → List ℤ → List ℕ
prices_text k [] = []
prices_text k (price ∷ prices) = line (price_word k ++ signed_decimal price) ++ prices_text (k + 1) prices

-- the series, the number of rows, the scale, the best and the price of each row
abbrev pub certificate_text : Series → CertificateView → List ℕ
certificate_text series c =
    line (header_text series)
    ++ (line (codes "rows " ++ decimal (length c.prices))
    ++ (line (codes "scale " ++ signed_decimal c.scale)
    ++ (line (codes "best " ++ signed_decimal c.best)
    ++ (prices_text 0 c.prices
    ++ line (codes "end")))))
