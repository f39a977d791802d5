-- What the reading of a top table gives.
use Rattle.std.specs.Prelude.{map}
use Rattle.toml.specs.View.{table_view}
use Rattle.platform_file.specs.declared.sections.Sections.{Sections}
use Rattle.platform_file.specs.Reading.{SectionsView}

-- the strings and tables that the sections refer to
abbrev pub sections_view : Sections → SectionsView
sections_view s = record {
  master = s.master.now;
  targets = map (λ text. text.now) s.targets.items;
  nodes = map (λ table. table_view table.now) s.nodes.items;
  links = map (λ table. table_view table.now) s.links.items;
}
