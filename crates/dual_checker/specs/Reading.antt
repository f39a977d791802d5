-- How a certificate is read: line by line, up to the first that isn't one of a certificate with the series and the number of rows.
use Rattle.std.specs.Prelude.{◌≡◌, ⊤, ℕ, zero, suc, ◌+◌, ◌-◌, ◌^◌, ◌≤◌, ℤ, pos, neg_ℤ, nat_abs, List, [], ◌∷◌, ◌++◌, length, Option, Some, None, option_and_then, Result, Ok, Err, bytes_eq, cond, codes, decimal}
use Rattle.std.specs.Prelude.{int_lt}
use Rattle.linear_program.specs.Certificates.{CertificateView, IsCertificate}
use Rattle.schedule_model.specs.declared.schedule.Series.{Series}
use Rattle.text_lines.specs.Lines.{first_line, behind}
use Rattle.text_lines.specs.Numbers.{integer_of}
use Rattle.dual_checker.specs.declared.reading.CertificateFault.{CertificateFault}
use Rattle.dual_checker.specs.declared.reading.CertificateFault.TheVariants.{Line, NoMemory}
use Rattle.dual_checker.specs.Texts.{header_text, price_word, certificate_text}

-- the greatest size of a number: 2^127 - 1
abbrev pub most_size : ℕ
most_size = 2 ^ 127 - 1

-- what is left to read, or the fault
abbrev pub Left : Type 0
Left = Result (List ℕ) CertificateFault

-- a number and what is left to read, or the fault
abbrev pub Numbered : Type 0
Numbered = Result (ℤ × List ℕ) CertificateFault

-- the line of a number is to be this text
abbrev pub expected : ℕ → List ℕ → Option (List ℕ × List ℕ) → Left
expected number text None = Err (Line number)
expected number text (Some parts) = cond (bytes_eq parts.0 text) (Ok parts.1) (Err (Line number))

-- what is left after a line of this text
abbrev pub after_text : ℕ → List ℕ → List ℕ → Left
after_text number text bytes = expected number text (first_line bytes)

-- a number, where it is at least the bound
abbrev pub at_least : ℤ → ℤ → Option ℤ
at_least least z = cond (int_lt z least) None (Some z)

-- the number that a line writes behind a word
abbrev pub number_in : List ℕ → ℤ → List ℕ → Option ℤ
number_in word least text = option_and_then (λ digits. option_and_then (at_least least) (integer_of most_size digits)) (behind word text)

-- a number read, and what is left; none is a fault
abbrev pub or_fault : ℕ → Option ℤ → List ℕ → Numbered
or_fault number (Some z) rest = Ok (z, rest)
or_fault number None rest = Err (Line number)

-- the line of a number is to have this word and a number that is at least the bound
abbrev pub numbered : ℕ → List ℕ → ℤ → Option (List ℕ × List ℕ) → Numbered
numbered number word least None = Err (Line number)
numbered number word least (Some parts) = or_fault number (number_in word least parts.0) parts.1

-- the number of such a line, and what is left
abbrev pub number_after : ℕ → List ℕ → ℤ → List ℕ → Numbered
number_after number word least bytes = numbered number word least (first_line bytes)

-- the least price
abbrev pub least_price : ℤ
least_price = neg_ℤ (pos most_size)

-- prices, and what is left
abbrev pub Prices : Type 0
Prices = Result (List ℤ × List ℕ) CertificateFault

-- some prices with one more
abbrev pub with_price : List ℤ → Numbered → Prices
with_price prices (Ok found) = Ok (prices ++ found.0 ∷ [], found.1)
with_price prices (Err fault) = Err fault

-- with the price of the next row, which stands in the fifth line behind its number
abbrev pub next_price : ℕ → Prices → Prices
next_price k (Ok found) = with_price found.0 (number_after (k + 5) (price_word k) least_price found.1)
next_price k (Err fault) = Err fault

-- the prices of the first n rows, and what is left
abbrev pub prices_of : ℕ → List ℕ → Prices
prices_of zero bytes = Ok ([], bytes)
prices_of (suc n) bytes = next_price n (prices_of n bytes)

-- nothing stands behind the end
abbrev pub ended : ℕ → CertificateView → Left → Result CertificateView CertificateFault
ended number c (Ok []) = Ok c
ended number c (Ok (b ∷ bytes)) = Err (Line (number + 1))
ended number c (Err fault) = Err fault

-- the lines from the prices on
abbrev pub priced : ℕ → ℤ → ℤ → Prices → Result CertificateView CertificateFault
priced rows scale best (Ok found) =
    ended (rows + 5) (record { scale = scale; best = best; prices = found.0 }) (after_text (rows + 5) (codes "end") found.1)
priced rows scale best (Err fault) = Err fault

-- the lines from the best on
abbrev pub from_best : ℕ → ℤ → Numbered → Result CertificateView CertificateFault
from_best rows scale (Ok found) = priced rows scale found.0 (prices_of rows found.1)
from_best rows scale (Err fault) = Err fault

-- the lines from the scale on
abbrev pub from_scale : ℕ → Numbered → Result CertificateView CertificateFault
from_scale rows (Ok found) = from_best rows found.0 (number_after 4 (codes "best ") (pos 0) found.1)
from_scale rows (Err fault) = Err fault

-- the lines from the number of rows on
abbrev pub from_rows : ℕ → Left → Result CertificateView CertificateFault
from_rows rows (Ok bytes) = from_scale rows (number_after 3 (codes "scale ") (pos 1) bytes)
from_rows rows (Err fault) = Err fault

-- the lines behind the header
abbrev pub from_header : ℕ → Left → Result CertificateView CertificateFault
from_header rows (Ok bytes) = from_rows rows (after_text 2 (codes "rows " ++ decimal rows) bytes)
from_header rows (Err fault) = Err fault

-- the certificate of a text, or the first line that isn't one of such a certificate
abbrev pub certificate_of : Series → ℕ → List ℕ → Result CertificateView CertificateFault
certificate_of series rows bytes = from_header rows (after_text 1 (header_text series) bytes)

-- the fault is the one with which this ends; memory may run out at any time
abbrev pub IsFault : {A : Type 0} → CertificateFault → Result A CertificateFault → Type 0
IsFault NoMemory read = ⊤
IsFault fault read = read ≡ Err fault

-- a certificate with so many rows whose numbers are of at most 2^127 - 1 in size
pub record IsWritten (rows : ℕ) (c : CertificateView) : Type 0 where
  pub certificate : IsCertificate c
  pub one_each : length c.prices ≡ rows
  pub small_scale : nat_abs c.scale ≤ most_size
  pub small_best : nat_abs c.best ≤ most_size

-- the texts of such certificates, and no others, are read, each as its certificate
pub record AreTexts (series : Series) (rows : ℕ) : Type 0 where
  pub accepted : (bytes : List ℕ) (c : CertificateView) → certificate_of series rows bytes ≡ Ok c → IsWritten rows c × (bytes ≡ certificate_text series c)
  pub read_back : (c : CertificateView) → IsWritten rows c → certificate_of series rows (certificate_text series c) ≡ Ok c
