use Rattle.memory.proofs.Uses.{takes_one, takes_none}
use Rattle.memory.proofs.usage.asked_in.Goals as goal

pub returns-in_default : goal.returns-in_default
returns-in_default c = takes_none _ c.in_default.not-Add c.in_default.not-Replace

pub returns-in-Add : goal.returns-in-Add
returns-in-Add c = takes_one _ _ c.in-Add.is

pub returns-in-Add-2 : goal.returns-in-Add-2
returns-in-Add-2 c = takes_one _ _ c.in-Add.is
