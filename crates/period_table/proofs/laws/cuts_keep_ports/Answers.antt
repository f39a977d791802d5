use Rattle.period_table.proofs.Overlaps.{moves_all}
use Rattle.period_table.proofs.CutSlots.{slots_are_slots, slots_are_matchings, slots_as_many, slots_as_long}
use Rattle.period_table.proofs.laws.cuts_keep_ports.Goals as goal

pub returns-clause-slots : goal.returns-clause-slots
returns-clause-slots c = λ t lanes parts separate. slots_are_slots t lanes (λ link. 0) parts separate

pub returns-clause-matchings : goal.returns-clause-matchings
returns-clause-matchings c = λ t lanes parts separate. slots_are_matchings t lanes (λ link. 0) parts separate

pub returns-clause-moved : goal.returns-clause-moved
returns-clause-moved c = λ t lanes parts room lane inside. moves_all t lanes parts room lane inside

pub returns-clause-as_many : goal.returns-clause-as_many
returns-clause-as_many c = λ t lanes parts. slots_as_many t lanes (λ link. 0) parts

pub returns-clause-as_long : goal.returns-clause-as_long
returns-clause-as_long c = λ t lanes parts. slots_as_long t lanes (λ link. 0) parts
