-- Lines that are put together of words, numbers and places (this project).
use Rattle.std.specs.Prelude.{List, ℕ, ◌++◌, decimal}
use Rattle.platform_file.specs.declared.fault.Wording.{Wording}
use Rattle.platform_file.specs.declared.fault.Wording.TheVariants.{Plain, Number, Numbered, Place, Placed}
use Rattle.platform_file.specs.Places.{place_text}

-- the parts, one behind the other
abbrev pub wording_text : Wording → List ℕ
wording_text (Plain words) = words.now
wording_text (Number words number) = words.now ++ decimal number
wording_text (Numbered words number rest) = words.now ++ (decimal number ++ rest.now)
wording_text (Place words place) = words.now ++ place_text place
wording_text (Placed words place rest) = words.now ++ (place_text place ++ rest.now)
