use Rattle.std.proofs.Common.{rules, ◌≡◌, ◌++◌, Ok, MatchResult, pos, codes, decimal, sym, subst}
use Rattle.dual_checker.specs.Texts.{header_text}
use Rattle.dual_checker.specs.Reading.{after_text, number_after, prices_of, priced, IsFault}
use Rattle.dual_checker.proofs.Parts.{head_read}
use Rattle.dual_checker.proofs.reading.read_certificate.Goals as goal

pub returns-clause-value : goal.returns-clause-value
returns-clause-value c =
    let rows = c.args.rows in
    let header : after_text 1 (header_text c.args.series) c.args.bytes.now ≡ Ok c.in_ok-rest.rest.now = search rules in
    let rows_read : after_text 2 (codes "rows " ++ decimal rows) c.in_ok-rest.rest.now ≡ Ok c.in_ok-rest-2.rest.now = search rules in
    let scale_read : number_after 3 (codes "scale ") (pos 1) c.in_ok-rest-2.rest.now ≡ Ok (c.in_ok-scale.scale, c.in_ok-scale.rest.now) = search rules in
    let best_read : number_after 4 (codes "best ") (pos 0) c.in_ok-scale.rest.now ≡ Ok (c.in_ok-best.best, c.in_ok-best.rest.now) = search rules in
    let priced_read : MatchResult c.read_priced.result (λ found. priced rows c.in_ok-scale.scale c.in_ok-best.best (prices_of rows c.in_ok-best.rest.now) ≡ Ok found)
    (λ fault. IsFault fault (priced rows c.in_ok-scale.scale c.in_ok-best.best (prices_of rows c.in_ok-best.rest.now))) = search rules in
    subst (λ read. MatchResult c.read_priced.result (λ found. read ≡ Ok found) (λ fault. IsFault fault read))
    (sym (head_read c.args.series rows c.args.bytes.now _ _ _ _ c.in_ok-scale.scale c.in_ok-best.best header rows_read scale_read best_read)) priced_read
