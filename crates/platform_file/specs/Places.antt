-- Places in a platform file as text (this project).
use Rattle.std.specs.Prelude.{ℕ, List, ◌++◌, codes, decimal}
use Rattle.platform_file.specs.declared.fault.Section.{Section}
use Rattle.platform_file.specs.declared.fault.Section.TheVariants.{Top, Node, Link, Target}
use Rattle.platform_file.specs.declared.fault.Field.{Field}
use Rattle.platform_file.specs.declared.fault.Field.TheVariants as at
use Rattle.platform_file.specs.declared.fault.Place.{Place}

-- the word for a field
abbrev pub field_text : Field → List ℕ
field_text at.Version = codes "version"
field_text at.Master = codes "master"
field_text at.Targets = codes "targets"
field_text at.Nodes = codes "nodes"
field_text at.Links = codes "links"
field_text at.Name = codes "name"
field_text at.Time = codes "time"
field_text at.From = codes "from"
field_text at.To = codes "to"
field_text at.Cost = codes "cost"
field_text at.Itself = codes "itself"
field_text at.Extra = codes "extra"

-- the section, and the field in it; a target has no fields
abbrev pub text_in : Section → Field → List ℕ
text_in Top field = codes "top." ++ field_text field
text_in (Node number) field = codes "node " ++ (decimal number ++ (codes "." ++ field_text field))
text_in (Link number) field = codes "link " ++ (decimal number ++ (codes "." ++ field_text field))
text_in (Target number) field = codes "target " ++ decimal number

-- the place as error lines name it
abbrev pub place_text : Place → List ℕ
place_text place = text_in place.section place.field
