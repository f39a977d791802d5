-- Each column of the programme stands for another rate or flow.
use Rattle.std.proofs.Common.{◌≡◌, ℕ, true, false, length, All, refl}
use Rattle.std.proofs.lemmas.List.Elements.{All-append}
use Rattle.platform_file.specs.Ticks.{TimedView}
use Rattle.programme_rows.specs.Listings.{each_where}
use Rattle.programme_rows.proofs.Listings.{each_all}
use Rattle.programme_rows.proofs.LookUps.{none_there, AreDifferent, found, different_append, different_each, itself, earlier, other_number}
use Rattle.tasking_program.specs.declared.columns.Column.{Column}
use Rattle.tasking_program.specs.declared.columns.Column.TheVariants.{Computes, Flows}
use Rattle.tasking_program.specs.Columns.{computes, carries, columns_of}
use Rattle.tasking_program.specs.Points.{same_column, AreLookedUp}

same_itself : (column : Column) → same_column column column ≡ true
same_itself (Computes node) = itself node
same_itself (Flows link) = itself link

pub looked_up : (t : TimedView) → AreLookedUp t
looked_up t = record {
  there = λ values j l e. found same_column (Computes 0) same_itself (columns_of t) values j different l e;
  no_rate = λ values node none. none_there (same_column (Computes node)) (columns_of t) values
      (All-append (λ one. same_column (Computes node) one ≡ false) (each_where (computes t) Computes nodes) (each_where (carries t) Flows links)
      (each_all (λ one. same_column (Computes node) one ≡ false) (computes t) Computes nodes (λ i l e. other_number (computes t) node i none e))
      (each_all (λ one. same_column (Computes node) one ≡ false) (carries t) Flows links (λ i l e. refl)));
  no_flow = λ values link none. none_there (same_column (Flows link)) (columns_of t) values
      (All-append (λ one. same_column (Flows link) one ≡ false) (each_where (computes t) Computes nodes) (each_where (carries t) Flows links)
      (each_all (λ one. same_column (Flows link) one ≡ false) (computes t) Computes nodes (λ i l e. refl))
      (each_all (λ one. same_column (Flows link) one ≡ false) (carries t) Flows links (λ i l e. other_number (carries t) link i none e)));
}
  where
    nodes : ℕ
    nodes = length t.platform.nodes

    links : ℕ
    links = length t.platform.links

    different : AreDifferent same_column (Computes 0) (columns_of t)
    different =
        different_append same_column (Computes 0) (each_where (computes t) Computes (length t.platform.nodes)) (each_where (carries t) Flows (length t.platform.links))
        (different_each same_column (Computes 0) (computes t) Computes earlier (length t.platform.nodes)) (different_each same_column (Computes 0) (carries t) Flows earlier (length t.platform.links))
        (each_all (λ y. All (λ x. same_column y x ≡ false) (each_where (computes t) Computes (length t.platform.nodes))) (carries t) Flows (length t.platform.links)
        (λ k l e. each_all (λ x. same_column (Flows k) x ≡ false) (computes t) Computes (length t.platform.nodes) (λ i m g. refl)))
