-- The faults of platform files as text, each the line that names it (this project).
use Rattle.std.specs.Prelude.{ℕ, List, ◌++◌, codes, decimal}
use Rattle.ratio_core.specs.declared.text.RatioFault.{RatioFault}
use Rattle.ratio_core.specs.declared.text.RatioFault.TheVariants as ratio
use Rattle.platform_file.specs.declared.fault.Kind.{Kind}
use Rattle.platform_file.specs.declared.fault.Kind.TheVariants as kind
use Rattle.platform_file.specs.declared.fault.PlatformFault.{PlatformFault}
use Rattle.platform_file.specs.declared.fault.PlatformFault.TheVariants as fault
use Rattle.platform_file.specs.declared.fault.TimedFault.{TimedFault}
use Rattle.platform_file.specs.declared.fault.TimedFault.TheVariants as ticks
use Rattle.platform_file.specs.Places.{place_text}

-- what there is too much of, and how much there is
abbrev pub limit_text : Kind → ℕ → List ℕ
limit_text kind.Text found = codes "platform: text of " ++ (decimal found ++ codes " bytes")
limit_text kind.Nodes found = codes "platform: too many nodes: " ++ decimal found
limit_text kind.Links found = codes "platform: too many links: " ++ decimal found
limit_text kind.Targets found = codes "platform: too many targets: " ++ decimal found

-- why a text is no fraction, behind its place
abbrev pub cause_text : RatioFault → List ℕ
cause_text ratio.Shape = codes ": shape"
cause_text ratio.Zero = codes ": zero"
cause_text ratio.TooLarge = codes ": too large"

-- why some bytes are no platform
abbrev pub fault_text : PlatformFault → List ℕ
fault_text (fault.Limit kind found) = limit_text kind found
fault_text fault.NotToml = codes "platform: not TOML"
fault_text (fault.BadField place) = codes "platform: bad field " ++ place_text place
fault_text (fault.TwiceNamed node) = codes "platform: node " ++ (decimal node ++ codes " named twice")
fault_text (fault.Unknown place) = codes "platform: unknown name at " ++ place_text place
fault_text (fault.TargetIsMaster target) = codes "platform: target " ++ (decimal target ++ codes " is the master")
fault_text (fault.TargetTwice target) = codes "platform: target " ++ (decimal target ++ codes " named twice")
fault_text (fault.SelfLink link) = codes "platform: link " ++ (decimal link ++ codes " joins a node to itself")
fault_text (fault.TwiceLinked link) = codes "platform: link " ++ (decimal link ++ codes " given twice")
fault_text (fault.BadRatio place cause) = codes "platform: bad ratio at " ++ (place_text place ++ cause_text cause)
fault_text fault.NoMemory = codes "out of memory"

-- why a platform has no ticks
abbrev pub timed_fault_text : TimedFault → List ℕ
timed_fault_text (ticks.Unit left right) = codes "ticks overflow: lcm of " ++ (decimal left ++ (codes " and " ++ decimal right))
timed_fault_text ticks.NoMemory = codes "out of memory"
